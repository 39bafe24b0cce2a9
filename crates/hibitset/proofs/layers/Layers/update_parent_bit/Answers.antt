use Rattle.std.proofs.Common.{◌≡◌, ℕ, ◌+◌, ◌/◌, ◌%◌, get_or, arith}
use Rattle.hibitset_base.specs.declared.util.TheConstants.{LAYERS}
use Rattle.hibitset.specs.Layout.{SummariesExactExceptAt}
use Rattle.hibitset.specs.Layers.{word_in}
use Rattle.hibitset.proofs.LayerLemmas.{has_above}
use Rattle.hibitset.proofs.SummaryUpdateLemmas.{but_last, but_tells}
use Rattle.hibitset.proofs.ParentBitLemmas.{linked, cleared}
use Rattle.hibitset.proofs.layers.Layers.update_parent_bit.Goals as goal

pub bounds-slice-place : goal.bounds-slice-place
bounds-slice-place c = rw c.slice.ensures.length (has_above c.args.self.now c.args.layer c.args.place (omega (arith, c.requires.layer)) c.requires.in_range)

pub store_word-requires-clause-in_range : goal.store_word-requires-clause-in_range
store_word-requires-clause-in_range c = has_above c.args.self.now c.args.layer c.args.place (omega (arith, c.requires.layer)) c.requires.in_range

pub became_zero_or_nonzero-requires-clause-cleared : goal.became_zero_or_nonzero-requires-clause-cleared
became_zero_or_nonzero-requires-clause-cleared c off some =
    let bit = c.with_bit-word.ensures in
    cleared (get_or c.slice.result.now (c.args.place / 64) 0) c.with_bit-word.result (c.args.place % 64) c.args.stands (omega arith) bit.same bit.here off some

-- the bit is set right
set_right : (c : goal.After-became_zero_or_nonzero) → SummariesExactExceptAt LAYERS (word_in c.store_word.new.self) (c.args.layer + 1) (c.args.place / 64)
set_right c =
    let put = c.store_word.ensures in
    let bit = c.with_bit-word.ensures in
    let place : ℕ = c.args.place in
    linked c.args.self.now c.store_word.new.self c.args.layer place (get_or c.slice.result.now (place / 64) 0) c.with_bit-word.result c.args.stands c.requires.summed c.requires.stands
    (c.slice.ensures.words (place / 64)) put.here put.others put.layers bit.same bit.here

pub returns-clause-done : goal.returns-clause-done
returns-clause-done c = λ stays.
    let layer : ℕ = c.args.layer in
    let place : ℕ = c.args.place in
    let put = c.store_word.ensures in
    let read : get_or c.slice.result.now (place / 64) 0 ≡ word_in c.args.self.now (layer + 1) (place / 64) = c.slice.ensures.words (place / 64) in
    but_last LAYERS (layer + 1) (place / 64) (word_in c.args.self.now) (word_in c.store_word.new.self) (set_right c) (λ below. but_tells LAYERS layer place (word_in c.args.self.now) c.requires.summed below)
    (λ p. put.layers (layer + 1 + 1) p (λ e. absurd (omega (arith, e)))) (rw (put.here, ← read) (c.became_zero_or_nonzero.ensures.same_summary stays))

pub returns-clause-above : goal.returns-clause-above
returns-clause-above c = λ up. set_right c

pub returns-clause-stands : goal.returns-clause-stands
returns-clause-stands c = λ up. rw c.store_word.ensures.here (c.became_zero_or_nonzero.ensures.turned up)
