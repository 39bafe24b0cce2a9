use Rattle.std.proofs.Common.{◌≡◌, ◌+◌, [], ◌∷◌, ◌++◌, get_or, take, ap, sym, ◌∙◌}
use Rattle.std.specs.Prelude.{string_bytes}
use Rattle.std.specs.List.{join_by}
use Rattle.std.proofs.lemmas.List.{take_more}
use Rattle.hibitset_run.specs.StoreText.{pair_text}
use Rattle.hibitset_run.proofs.TextLemmas.{between, between_push, joined_more}
use Rattle.hibitset_run.proofs.store.text.put_pairs.Goals as goal

pub loop-id-preserved : goal.loop-id-preserved
loop-id-preserved c =
    let so_far = take c.loop-id.id-index c.args.list.now in
    let pair = get_or c.args.list.now c.loop-id.id-index (0, 0, 0) in
    let more : take (c.loop-id.id-index + 1) c.args.list.now ≡ so_far ++ pair ∷ [] = take_more c.args.list.now c.loop-id.id-index (0, 0, 0) c.loop-id-test.true in
    record {
      written = joined_more pair_text (string_bytes c.args.text.now) (string_bytes c.loop-id.text) (string_bytes c.write.new.self) c.loop-id.space.now so_far pair
          c.loop-id.invariant.written c.loop-id.invariant.parted c.in_ok-write.ensures.bytes
          ∙ ap (λ l. string_bytes c.args.text.now ++ join_by pair_text (32 ∷ []) l) (sym more);
      parted = sym (between_push so_far pair) ∙ ap between (sym more);
    }
