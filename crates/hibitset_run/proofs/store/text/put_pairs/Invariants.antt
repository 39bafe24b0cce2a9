use Rattle.std.proofs.Common.{◌≡◌, ◌∷◌, [], ◌++◌, take}
use Rattle.std.specs.Prelude.{string_bytes}
use Rattle.std.specs.List.{join_by}
use Rattle.hibitset_run.specs.StoreText.{pair_text}
use Rattle.hibitset_run.proofs.TextLemmas.{between}
use Rattle.hibitset_run.proofs.store.text.put_pairs.Given as goal

-- the pairs so far stand at the end, and what parts them from the next is known
abbrev pub invariant-loop-id : goal.invariant-loop-id
invariant-loop-id l = record {
  written : string_bytes l.text ≡ string_bytes l.fn.text ++ join_by pair_text (32 ∷ []) (take l.id-index l.list);
  parted : l.space ≡ between (take l.id-index l.list);
}
