use Rattle.std.proofs.Common.{◌≡◌, ℕ, ◌+◌, ◌*◌, get_or, ap, sym, ◌∙◌, arith}
use Rattle.std.specs.Int.RustNames.{count_ones}
use Rattle.hibitset_base.proofs.OneCountLemmas.{few_ones}
use Rattle.hibitset_roaring.proofs.WordLemmas.{ones_first, ones_more}
use Rattle.hibitset_roaring.proofs.SlotLemmas.{ones_skip}
use Rattle.hibitset_roaring.proofs.key_counts.count_some.Goals as goal

pub slots-init : goal.slots-init
slots-init c = record {
  within = c.slot_from-slot.ensures.within;
  rest = c.slot_from-slot.ensures.rest;
  count = sym (ones_skip c.args.words.now (1024 * c.args.key) 0 c.slot_from-slot.result (omega arith) (c.slot_from-slot.ensures.skips c.args.words.now c.requires.summaries) ∙ ones_first c.args.words.now (1024 * c.args.key));
  few = omega arith;
}

pub slots-preserved : goal.slots-preserved
slots-preserved c =
    let h = c.slots.invariant in
    let base : ℕ = 1024 * c.args.key in
    let slot : ℕ = c.slots.slot in
    let word : ℕ = c.word_or_zero.result in
    let is : count_ones word ≡ count_ones (get_or c.args.words.now (base + slot) 0) = ap count_ones c.word_or_zero.ensures in
    let few = few_ones word (omega (arith, c.word_or_zero.type_inv)) in
    let more = ones_more c.args.words.now base slot in
    let order = c.slot_after-slot.ensures.order in
    let skip = ones_skip c.args.words.now base (slot + 1) c.slot_after-slot.result (omega (arith, order)) (c.slot_after-slot.ensures.skips c.args.words.now c.requires.summaries) in
    record {
      within = c.slot_after-slot.ensures.within;
      rest = c.slot_after-slot.ensures.rest;
      count = (let n = h.count in omega (arith, n, is, more, skip));
      few = (let f = h.few in omega (arith, f, few, order));
    }
