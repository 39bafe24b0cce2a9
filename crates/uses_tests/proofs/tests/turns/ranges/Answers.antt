use Rattle.std.proofs.Common.{sym, ◌∙◌}
use Rattle.hibitset_atomic.specs.Worlds.{old_of, past_of, stands_in}
use Rattle.uses_tests.proofs.WorldWalkLemmas.{lowest_is, first_word, found_under, stands_over, bit_stands, stands_bit}
use Rattle.uses_tests.proofs.tests.turns.ranges.Goals as goal

pub returns : goal.returns
returns c =
    let world = c.args.world.now in
    let old = old_of world in
    let past = past_of world in
    let read = rw c.in-Word.is at c.in_ok-word.ensures.answer in
    λ range below.
    let bit = first_word old (old_of c.apply.new.self) past (past_of c.apply.new.self) c.args.walk c.in-Word.word c.in-Word.ended c.apply.ensures.old c.in_ok-apply.ensures.appended read range below in (
      (λ on.
          let found = found_under (stands_in world) (c.world_laws.ensures.none_hollow world) range (bit_stands (stands_in world 3 range) (sym bit ∙ on)) in
          (found.0, found.1, sym (lowest_is old past found.0) ∙ found.2)),
      (λ h. bit ∙ stands_bit (stands_in world 3 range) (stands_over (stands_in world) (c.world_laws.ensures.exact_at_rest world c.requires) h.0 range h.1 (lowest_is old past h.0 ∙ h.2))),
    )
