use Rattle.std.proofs.Common.{◌≡◌, ℕ, ◌+◌, ◌*◌, ◌/◌, ◌≤◌, ◌||◌, Bool, ap, ◌∙◌, arith}
use Rattle.std.proofs.lemmas.Bool.Decides.{nat_tests}
use Rattle.std.proofs.Math.Bool.{or_assoc}
use Rattle.hibitset.specs.WordBits.{stands_in, in_range}
use Rattle.hibitset_roaring.proofs.words.set_range.Goals as goal

parts : (start from to end i : ℕ) → start ≤ from → from ≤ to → to ≤ end → ((in_range from to i || in_range start from i) || in_range to end i) ≡ in_range start end i
parts start from to end i a b d = grind (arith, nat_tests)

-- a range is its whole words, what lies before them and what lies after
three : (was : Bool) (start from to end i : ℕ) → start ≤ from → from ≤ to → to ≤ end → (((was || in_range from to i) || in_range start from i) || in_range to end i) ≡ (was || in_range start end i)
three was start from to end i a b d =
    ap (λ t. t || in_range to end i) (or_assoc was (in_range from to i) (in_range start from i))
    ∙ (or_assoc was (in_range from to i || in_range start from i) (in_range to end i) ∙ ap (λ t. was || t) (parts start from to end i a b d))

pub returns : goal.returns
returns c = λ i.
    let start : ℕ = c.args.start in
    let end : ℕ = c.args.end in
    let from : ℕ = 64 * ((start + 63) / 64) in
    let to : ℕ = 64 * (end / 64) in
    let order = c.if-to-from.false in
    c.set_some-3.ensures i
    ∙ (ap (λ t. t || in_range to end i) (c.set_some-2.ensures i ∙ ap (λ t. t || in_range start from i) (c.fill.ensures i))
    ∙ three (stands_in c.args.words.now i) start from to end i (omega arith) (omega (arith, order)) (omega arith))
