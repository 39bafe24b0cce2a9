use Rattle.std.proofs.Common.{◌≡◌, ◌∷◌, [], ◌++◌, take}
use Rattle.std.specs.Prelude.{string_bytes}
use Rattle.std.specs.Fmt.{decimal}
use Rattle.std.specs.List.{join_by}
use Rattle.hibitset_run.proofs.TextLemmas.{between}
use Rattle.hibitset_run.proofs.script.print.put_indices.Given as goal

-- the indices so far stand at the end, and what parts them from the next is known
abbrev pub invariant-loop-index : goal.invariant-loop-index
invariant-loop-index l = record {
  written : string_bytes l.text ≡ string_bytes l.fn.text ++ join_by decimal (32 ∷ []) (take l.index-index l.indices);
  parted : l.space ≡ between (take l.index-index l.indices);
}
