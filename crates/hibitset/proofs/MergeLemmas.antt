-- Words of layer 0 merged place by place.
use Rattle.std.proofs.Common.{◌≡◌, ◌≢◌, ℕ, zero, suc, ◌+◌, ◌-◌, ◌*◌, ◌/◌, ◌%◌, ◌^◌, ◌<◌, Bool, ◌↔◌, refl, sym, ◌∙◌, ap, arith, lit<, ◌⊎◌, inl, inr}
use Rattle.std.specs.Prelude.{bit_and, min}
use Rattle.std.specs.Int.{bit_at, bit_not, w64}
use Rattle.std.proofs.Math.Nat.{pow-suc, div-div-eq-div-mul, div-lt_iff_lt-mul, one-le-pow}
use Rattle.std.proofs.lemmas.Bool.{cases_lt}
use Rattle.std.proofs.lemmas.Nat.{pow-add}
use Rattle.std.proofs.lemmas.Nat.Bits.{bit_at-lt, bit_at_and, bit_at_not, bit_at-zero}
use Rattle.hibitset_base.specs.Decisions.{same_or_not}
use Rattle.hibitset_base.specs.Sets.{IsLawful}
use Rattle.hibitset_base.specs.declared.util.TheConstants.{LAYERS}
use Rattle.hibitset_base.specs.Words.{SummariesExactEverywhere}
use Rattle.hibitset.specs.Merge.{MergedUnder, MergedAt, Summarizes, Covers}
use Rattle.hibitset_base.proofs.SummaryUpdateLemmas.{place_within}

-- The state of a loop over the bits of `visited`, of which those of `left` are still to do.
pub record MergedPast (merged : ℕ → ℕ → ℕ) (theirs old new : ℕ → ℕ) (size q visited left : ℕ) : Type 0 where
  pub done : (p : ℕ) → p / size / 64 ≡ q → bit_at visited (p / size % 64) ≡ 1 → bit_at left (p / size % 64) ≡ 0 → new p ≡ merged (old p) (theirs p)
  pub todo : (p : ℕ) → p / size / 64 ≡ q → bit_at left (p / size % 64) ≡ 1 → new p ≡ old p
  pub never : (p : ℕ) → p / size / 64 ≡ q → bit_at visited (p / size % 64) ≡ 0 → new p ≡ old p
  pub outside : (p : ℕ) → p / size / 64 ≢ q → new p ≡ old p
  pub within : (b : ℕ) → b < 64 → bit_at left b ≡ 1 → bit_at visited b ≡ 1

module _ (merged : ℕ → ℕ → ℕ) (theirs old mid new : ℕ → ℕ) (size q visited left less b : ℕ) (small : b < 64) (stands : bit_at left b ≡ 1) (here : bit_at less b ≡ 0)
    (same : (c : ℕ) → c < 64 → c ≢ b → bit_at less c ≡ bit_at left c) (past : MergedPast merged theirs old mid size q visited left) (one : MergedUnder merged theirs mid new size (64 * q + b)) where
  -- a place in the block whose bit is another
  elsewhere : (p : ℕ) → p / size % 64 ≢ b → new p ≡ mid p
  elsewhere p other = one.outside p (λ f. other (omega arith))

  lt : (p : ℕ) → p / size % 64 < 64
  lt p = omega arith

  not_here : (p : ℕ) → bit_at less (p / size % 64) ≡ 1 → p / size % 64 ≢ b
  not_here p on e = let h : bit_at less (p / size % 64) ≡ 0 = rw e here in omega arith

  pub past_step : MergedPast merged theirs old new size q visited less
  past_step = record {
    done = λ p e on off. elim (same_or_not (p / size % 64) b) [
      | inl is ↦
          let at : p / size ≡ 64 * q + b = omega arith in
          let left_on : bit_at left (p / size % 64) ≡ 1 = rw is stands in
          one.inside p at ∙ ap (λ x. merged x (theirs p)) (past.todo p e left_on)
      | inr other ↦ elsewhere p other ∙ past.done p e on (sym (same (p / size % 64) (lt p) other) ∙ off)
    ];
    todo = λ p e on.
        let other : p / size % 64 ≢ b = not_here p on in
        elsewhere p other ∙ past.todo p e (sym (same (p / size % 64) (lt p) other) ∙ on);
    never = λ p e off.
        let other : p / size % 64 ≢ b = (λ is. let on : bit_at visited (p / size % 64) ≡ 1 = rw is (past.within b small stands) in absurd (omega arith)) in
        elsewhere p other ∙ past.never p e off;
    outside = λ p other. one.outside p (λ f. other (omega arith)) ∙ past.outside p other;
    within = λ c below on. elim (same_or_not c b) [
      | inl is ↦ let h : bit_at less c ≡ 0 = rw is here in absurd (omega arith)
      | inr other ↦ past.within c below (sym (same c below other) ∙ on)
    ];
  }

-- one word merged, and its bit set right
pub summary_step : (merged : ℕ → ℕ → ℕ) (theirs mid new : ℕ → ℕ) (q b above next some : ℕ) → b < 64 → MergedUnder merged theirs mid new 1 (64 * q + b)
    → ((c : ℕ) → c < 64 → c ≢ b → bit_at next c ≡ bit_at above c) → bit_at next b ≡ some → (some ≡ 1) ↔ (0 < new (64 * q + b)) → Summarizes mid q above → Summarizes new q next
summary_step merged theirs mid new q b above next some small one same here stands before = record {
  bits = λ c below. elim (same_or_not c b) [
    | inl is ↦ rw (is, here) stands
    | inr other ↦
        let place : (64 * q + c) / 1 ≢ 64 * q + b = (λ e. other (omega arith)) in
        rw (same c below other, one.outside (64 * q + c) place) (before.bits c below)
  ];
}

pub zero_or_one : (x : ℕ) → x < 2 → (x ≡ 0) ⊎ (x ≡ 1)
zero_or_one zero h = inl refl
zero_or_one (suc zero) h = inr refl
zero_or_one (suc (suc x)) h = absurd (omega arith)

-- what a law of an operator says of a place that is not visited
module _ (merged : ℕ → ℕ → ℕ) (theirs old mid new : ℕ → ℕ) (q ours over visited : ℕ) (fits : over < 2 ^ 64)
    (law : (b x y : ℕ) → bit_at visited b ≡ 0 → (0 < x → bit_at ours b ≡ 1) → (0 < y → bit_at over b ≡ 1) → merged x y ≡ x)
    (exact : Summarizes old q ours) (covers : Covers theirs q over)
    (first : MergedAt merged (λ p. 0) old mid 1 q (bit_and visited (bit_not w64 over))) (second : MergedAt merged theirs mid new 1 q (bit_and visited over)) where
  in_block : (p : ℕ) → p / 64 ≡ q → new p ≡ merged (old p) (theirs p)
  in_block p e =
      let b : ℕ = p % 64 in
      let small : p % 64 < 64 = omega arith in
      let one : p / 1 ≡ p = omega arith in
      let here : p / 1 / 64 ≡ q = rw one e in
      let whole : 64 * q + p % 64 ≡ p = omega arith in
      let dropped : bit_at (bit_and visited (bit_not w64 over)) (p % 64) ≡ min (bit_at visited (p % 64)) (1 - bit_at over (p % 64)) = bit_at_and visited (bit_not w64 over) (p % 64) ∙ ap (λ x. min (bit_at visited (p % 64)) x) (bit_at_not w64 over (p % 64) fits small) in
      let read : bit_at (bit_and visited over) (p % 64) ≡ min (bit_at visited (p % 64)) (bit_at over (p % 64)) = bit_at_and visited over (p % 64) in
      let ours_on : 0 < old p → bit_at ours (p % 64) ≡ 1 = (λ some. (exact.bits (p % 64) small).1 (rw whole some)) in
      let over_on : 0 < theirs p → bit_at over (p % 64) ≡ 1 = (λ some. covers.bits (p % 64) small (rw whole some)) in
      let same_first : bit_at (bit_and visited (bit_not w64 over)) (p % 64) ≡ 0 → mid p ≡ old p = (λ off. first.kept p here (rw one off)) in
      let same_second : bit_at (bit_and visited over) (p % 64) ≡ 0 → new p ≡ mid p = (λ off. second.kept p here (rw one off)) in
      elim (zero_or_one (bit_at visited (p % 64)) (bit_at-lt visited (p % 64))) [
        | inl off ↦ same_second (omega (arith, off, read)) ∙ (same_first (omega (arith, off, dropped)) ∙ sym (law (p % 64) (old p) (theirs p) off ours_on over_on))
        | inr on ↦ elim (zero_or_one (bit_at over (p % 64)) (bit_at-lt over (p % 64))) [
          | inl off ↦
              let none : theirs p ≡ 0 = elim (cases_lt 0 (theirs p)) [ inl some ↦ absurd (let h = over_on some in omega arith) | inr z ↦ omega arith ] in
              let d : bit_at (bit_and visited (bit_not w64 over)) (p % 64) ≡ 1 = omega (arith, on, off, dropped) in
              same_second (omega (arith, on, off, read)) ∙ (first.inside p here (rw one d) ∙ ap (λ y. merged (old p) y) (sym none))
          | inr lit ↦
              let r : bit_at (bit_and visited over) (p % 64) ≡ 1 = omega (arith, on, lit, read) in
              second.inside p here (rw one r) ∙ ap (λ x. merged x (theirs p)) (same_first (omega (arith, on, lit, dropped)))
        ]
      ]

  -- the words that the other has not are merged with 0, and then the others with theirs
  pub block_merged : MergedUnder merged theirs old new 64 q
  block_merged = record {
    inside = in_block;
    outside = λ p other.
        let one : p / 1 ≡ p = omega arith in
        second.outside p (rw one other) ∙ first.outside p (rw one other);
  }

-- a loop over all parts of a place has merged what is under it
pub under_after : (merged : ℕ → ℕ → ℕ) (theirs old new : ℕ → ℕ) (size whole q visited left : ℕ) → whole ≡ size * 64 → left ≡ 0 → MergedPast merged theirs old new size q visited left
    → ((p : ℕ) → p / size / 64 ≡ q → bit_at visited (p / size % 64) ≡ 0 → merged (old p) (theirs p) ≡ old p) → MergedUnder merged theirs old new whole q
under_after merged theirs old new size whole q visited left whole-is none past stays =
    let off : (b : ℕ) → bit_at left b ≡ 0 = (λ b. rw none (bit_at-zero b)) in
    let up : (p : ℕ) → p / size / 64 ≡ p / whole = (λ p. div-div-eq-div-mul p size 64 ∙ ap (λ x. p / x) (sym whole-is)) in
    record {
      inside = λ p e. elim (zero_or_one (bit_at visited (p / size % 64)) (bit_at-lt visited (p / size % 64))) [
        | inl out ↦ past.never p (up p ∙ e) out ∙ sym (stays p (up p ∙ e) out)
        | inr on ↦ past.done p (up p ∙ e) on (off (p / size % 64))
      ];
      outside = λ p other. past.outside p (λ e. other (sym (up p) ∙ e));
    }

pub some_word : (x b : ℕ) → bit_at x b ≡ 1 → 0 < x
some_word zero b h = absurd (let z = bit_at-zero b in omega arith)
some_word (suc x) b h = omega arith

-- over each word of layer 0 that is not 0 stand nonzero words
pub words_above : (n : ℕ) (holds : ℕ → Bool) (w : ℕ → ℕ → ℕ) → IsLawful n holds w → (l p : ℕ) → l < n → p < 64 ^ (n - 1) → 0 < w 0 p → 0 < w l (p / 64 ^ l)
words_above n holds w lawful zero p below within some = let one : p / 1 ≡ p = omega arith in rw one some
words_above n holds w lawful (suc l) p below within some =
    let s : suc l ≡ l + 1 = omega arith in
    let up : p / 64 ^ suc l ≡ p / 64 ^ l / 64 = rw (pow-suc 64 l) (sym (div-div-eq-div-mul p (64 ^ l) 64)) in
    let lower : 0 < w l (p / 64 ^ l) = words_above n holds w lawful l p (omega arith) within some in
    let bit = lawful.summaries l (p / 64 ^ l) (omega arith) (place_within n l p (omega arith) within) lower in
    rw (up, s) (some_word (w (l + 1) (p / 64 ^ l / 64)) (p / 64 ^ l % 64) bit)

-- a word of layer 0 that is not 0 has its bit in each word above it that covers what it should
pub bit_above : (n : ℕ) (holds : ℕ → Bool) (w : ℕ → ℕ → ℕ) → IsLawful n holds w → (l q p x : ℕ) → l + 1 < n → q < 64 ^ (n - 1 - (l + 1)) → p / 64 ^ l / 64 ≡ q → Covers (w l) q x → 0 < w 0 p → bit_at x (p / 64 ^ l % 64) ≡ 1
bit_above n holds w lawful l q p x below place e covers some =
    let sum : n - 1 - (l + 1) + (l + 1) ≡ n - 1 = omega arith in
    let product : 64 ^ (n - 1) ≡ 64 ^ (n - 1 - (l + 1)) * 64 ^ (l + 1) = ap (λ x. 64 ^ x) (sym sum) ∙ pow-add 64 (n - 1 - (l + 1)) (l + 1) in
    let positive : 0 < 64 ^ (l + 1) = one-le-pow (l + 1) 64 (lit< tt) in
    let step : 64 ^ (l + 1) ≡ 64 ^ l * 64 = (let s : l + 1 ≡ suc l = omega arith in ap (λ x. 64 ^ x) s ∙ pow-suc 64 l) in
    let up : p / 64 ^ (l + 1) ≡ q = ap (λ x. p / x) step ∙ (sym (div-div-eq-div-mul p (64 ^ l) 64) ∙ e) in
    let up_within : p / 64 ^ (l + 1) < 64 ^ (n - 1 - (l + 1)) = rw up place in
    let within : p < 64 ^ (n - 1) = rw product ((div-lt_iff_lt-mul positive).0 up_within) in
    let whole : 64 * q + p / 64 ^ l % 64 ≡ p / 64 ^ l = omega arith in
    covers.bits (p / 64 ^ l % 64) (omega arith) (rw whole (words_above n holds w lawful l p (omega arith) within some))

-- a word of a layer covers those below it
pub covers_below : (w : ℕ → ℕ → ℕ) (layer place x : ℕ) → layer - 1 + 1 ≡ layer → layer < LAYERS → SummariesExactEverywhere LAYERS w → x ≡ w layer place → Covers (w (layer - 1)) place x
covers_below w layer place x above within summed is = record {
  bits = λ b small some.
      let on : bit_at (w (layer - 1 + 1) place) b ≡ 1 = (summed.summed (layer - 1) place b (rw above within) small).1 some in
      let on_here : bit_at (w layer place) b ≡ 1 = rw above at on in
      rw is on_here;
}

-- any lawful set's word of a layer covers those below it
pub lawful_covers : (n : ℕ) (holds : ℕ → Bool) (w : ℕ → ℕ → ℕ) → IsLawful n holds w → (layer place : ℕ) → 0 < layer → layer < n → place < 64 ^ (n - 1 - layer) → Covers (w (layer - 1)) place (w layer place)
lawful_covers n holds w lawful layer place some within range = record {
  bits = λ b small on.
      let above : layer - 1 + 1 ≡ layer = omega arith in
      let step : 64 ^ (n - 1 - (layer - 1)) ≡ 64 ^ (n - 1 - layer) * 64 = (let s : n - 1 - (layer - 1) ≡ suc (n - 1 - layer) = omega arith in ap (λ x. 64 ^ x) s ∙ pow-suc 64 (n - 1 - layer)) in
      let bit = lawful.summaries (layer - 1) (64 * place + b) (rw above within) (omega (arith, step, range, small)) on in
      let p-is : (64 * place + b) / 64 ≡ place = omega arith in
      let b-is : (64 * place + b) % 64 ≡ b = omega arith in
      rw (above, p-is, b-is) at bit;
}

-- where the word above lacks the bit of a word, nothing lies under it
pub none_below : (n : ℕ) (holds : ℕ → Bool) (w : ℕ → ℕ → ℕ) → IsLawful n holds w → (layer place bit theirs : ℕ) → 0 < layer → layer < n → 64 * place + bit < 64 ^ (n - 1 - layer) → bit < 64
    → Covers (w layer) place theirs → bit_at theirs bit ≢ 1 → Covers (w (layer - 1)) (64 * place + bit) 0
none_below n holds w lawful layer place bit theirs some within range small covers lacks = record {
  bits = λ b low on. absurd (
      let over : bit_at (w layer (64 * place + bit)) b ≡ 1 = (lawful_covers n holds w lawful layer (64 * place + bit) some within range).bits b low on in
      lacks (covers.bits bit small (some_word (w layer (64 * place + bit)) b over))
      );
}
