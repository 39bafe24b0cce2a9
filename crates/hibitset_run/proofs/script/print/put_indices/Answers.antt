use Rattle.std.proofs.Common.{◌≡◌, ◌+◌, [], ◌∷◌, ◌++◌, get_or, take, ap, sym, ◌∙◌}
use Rattle.std.specs.Prelude.{string_bytes}
use Rattle.std.specs.Fmt.{decimal}
use Rattle.std.specs.List.{join_by}
use Rattle.std.proofs.lemmas.List.{take_more}
use Rattle.hibitset_run.proofs.TextLemmas.{between, between_push, joined_more}
use Rattle.hibitset_run.proofs.script.print.put_indices.Goals as goal

pub loop-index-preserved : goal.loop-index-preserved
loop-index-preserved c =
    let so_far = take c.loop-index.index-index c.args.indices.now in
    let index = get_or c.args.indices.now c.loop-index.index-index 0 in
    let more : take (c.loop-index.index-index + 1) c.args.indices.now ≡ so_far ++ index ∷ [] = take_more c.args.indices.now c.loop-index.index-index 0 c.loop-index-test.true in
    record {
      written = joined_more decimal (string_bytes c.args.text.now) (string_bytes c.loop-index.text) (string_bytes c.write.new.self) c.loop-index.space.now so_far index
          c.loop-index.invariant.written c.loop-index.invariant.parted c.in_ok-write.ensures.bytes
          ∙ ap (λ l. string_bytes c.args.text.now ++ join_by decimal (32 ∷ []) l) (sym more);
      parted = sym (between_push so_far index) ∙ ap between (sym more);
    }
