use Rattle.std.proofs.Common.{◌≡◌, ℕ, ◌+◌, ◌*◌, ◌<◌, ◌≤◌, ◌||◌, ◌&&◌, List, get_or, ap, ◌∙◌, sym, arith, inl, inr}
use Rattle.std.specs.Prelude.{nat_lt}
use Rattle.std.specs.Int.RustNames.{count_ones}
use Rattle.std.proofs.lemmas.Bool.{cases_lt, le-ltb, lt-ltb}
use Rattle.hibitset.specs.WordBits.{stands_in}
use Rattle.hibitset_roaring.specs.Numbers.{u16_at}
use Rattle.hibitset_roaring.specs.Format.{in_array}
use Rattle.hibitset_roaring.specs.Words.{in_word, ones_from}
use Rattle.hibitset_roaring.proofs.PartLemmas.{array_none}
use Rattle.hibitset_roaring.proofs.FrameLemmas.{before_none, before_both, before_less, u16_same}
use Rattle.hibitset_roaring.proofs.WordLemmas.{ones_first, ones_more, ones_mono, word_more}
use Rattle.hibitset_roaring.proofs.SlotLemmas.{ones_skip, slots_skip}
use Rattle.hibitset_roaring.proofs.array.write_array.Goals as goal

pub slots-init : goal.slots-init
slots-init c =
    let next : ℕ = c.slot_from-slot.result in
    let words = c.args.words.now in
    let key : ℕ = c.args.key in
    let skips = c.slot_from-slot.ensures.skips words c.requires.summaries in
    record {
      within = c.slot_from-slot.ensures.within;
      rest = c.slot_from-slot.ensures.rest;
      count = sym (ones_skip words (1024 * key) 0 next (omega arith) skips ∙ ones_first words (1024 * key));
      before = before_none c.args.at c.args.out.now;
      members = λ v small. array_none c.args.out.now c.args.at v ∙ (sym (ap (λ x. x && stands_in words (65536 * key + v)) (le-ltb v 0 (omega arith))) ∙ slots_skip words key 0 next v (omega arith) small skips);
      below = λ i below. absurd (omega (arith, below));
      ascending = λ i below. absurd (omega (arith, below));
    }

pub write_word-len-requires-clause-long_enough : goal.write_word-len-requires-clause-long_enough
write_word-len-requires-clause-long_enough c =
    let n = c.slots.invariant.count in
    let word = ap count_ones c.word_or_zero.ensures in
    let more = ones_more c.args.words.now (1024 * c.args.key) c.slots.slot in
    let test = c.slots-test.true in
    let most = ones_mono c.args.words.now (1024 * c.args.key) (c.slots.slot + 1) 1024 (omega (arith, test)) in
    let room = c.requires.long_enough in
    let same = c.slots.auto.out in
    omega (arith, n, word, more, most, room, same)

pub slots-preserved : goal.slots-preserved
slots-preserved c =
    let h = c.slots.invariant in
    let at : ℕ = c.args.at in
    let key : ℕ = c.args.key in
    let words = c.args.words.now in
    let j : ℕ = c.slots.slot in
    let len : ℕ = c.slots.len in
    let out = c.slots.out in
    let new = c.write_word-len.new.out in
    let word : ℕ = c.word_or_zero.result in
    let is : word ≡ get_or words (1024 * key + j) 0 = c.word_or_zero.ensures in
    let w = c.write_word-len.ensures in
    let next : ℕ = c.slot_after-slot.result in
    let order : j + 1 ≤ next = (let after = c.slot_after-slot.ensures.order in omega (arith, after)) in
    let skips = c.slot_after-slot.ensures.skips words c.requires.summaries in
    let before = w.before in
    let same : (i : ℕ) → i < len → u16_at new (at + 2 * i) ≡ u16_at out (at + 2 * i) = λ i below. u16_same (at + 2 * len) out new before (at + 2 * i) (omega (arith, below)) in
    record {
      within = c.slot_after-slot.ensures.within;
      rest = c.slot_after-slot.ensures.rest;
      count = (let a = w.len in let b = h.count in let d = ones_more words (1024 * key) j in let e = ap count_ones is in let s = ones_skip words (1024 * key) (j + 1) next order skips in omega (arith, a, b, d, e, s));
      before = before_both at c.args.out.now out new h.before (before_less (at + 2 * len) at out new (omega arith) before);
      members = λ v small. w.members v ∙ (ap (λ t. t || in_word (64 * j) word v) (h.members v small)
          ∙ (ap (λ x. (nat_lt v (64 * j) && stands_in words (65536 * key + v)) || in_word (64 * j) x v) is ∙ (word_more words key j v small ∙ slots_skip words key (j + 1) next v order small skips)));
      below = λ i below. elim (cases_lt i len) [
        | inl lower ↦ (let l = h.below i lower in let s = same i lower in omega (arith, l, s, order))
        | inr upper ↦ (let l = w.high i upper below in omega (arith, l, order))
      ];
      ascending = λ i below. elim (cases_lt (i + 1) len) [
        | inl lower ↦ (let l = h.ascending i lower in let s = same i (omega (arith, lower)) in let t = same (i + 1) lower in omega (arith, l, s, t))
        | inr upper ↦ elim (cases_lt i len) [
          | inl last ↦ (let l = h.below i last in let s = same i last in let m = w.low (i + 1) upper below in omega (arith, l, s, m))
          | inr past ↦ w.ascending i past below
        ]
      ];
    }

-- after the last slot
ended : (slot len : ℕ) (words : List ℕ) (base : ℕ) → slot ≤ 1024 → 1024 ≤ slot → len ≡ ones_from words base slot → len ≡ ones_from words base 1024
ended slot len words base upto from count = count ∙ ap (λ n. ones_from words base n) (omega (arith, upto, from))

pub returns-clause-array : goal.returns-clause-array
returns-clause-array c =
    let h = c.slots.invariant in
    let e = ended c.slots.slot c.slots.len c.args.words.now (1024 * c.args.key) h.within c.slots-test.false h.count in
    record { ascending = λ j below. h.ascending j (omega (arith, e, below)) }

pub returns-clause-members : goal.returns-clause-members
returns-clause-members c = λ v small.
    let h = c.slots.invariant in
    let e = ended c.slots.slot c.slots.len c.args.words.now (1024 * c.args.key) h.within c.slots-test.false h.count in
    let test = c.slots-test.false in
    ap (λ n. in_array c.slots.out c.args.at n v) (sym e) ∙ (h.members v small ∙ ap (λ t. t && stands_in c.args.words.now (65536 * c.args.key + v)) (lt-ltb v (64 * c.slots.slot) (omega (arith, small, test))))
