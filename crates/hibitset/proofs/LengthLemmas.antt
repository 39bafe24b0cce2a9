-- Lengths of the layers:
-- of layer 0, by the numbers whose words lie past it, and of those above it, which cover it and no more.
use Rattle.std.proofs.Common.{◌≡◌, ℕ, suc, ◌+◌, ◌-◌, ◌*◌, ◌/◌, ◌^◌, ◌<◌, ◌≤◌, max, Bool, Result, Ok, Err, IfOk, OnOk, OnErr, sym, ◌∙◌, ap, arith, lit<}
use Rattle.std.proofs.Math.Nat.{pow-suc, div-div-eq-div-mul, one-le-pow, lt-mul-div-succ, mul_comm, mul_assoc, mul-le-mul_left, le_trans}
use Rattle.hibitset_base.specs.Extension.{LiesApart}
use Rattle.hibitset_base.specs.declared.util.TheConstants.{LAYERS}
use Rattle.hibitset.specs.Extension.{MembersEndBy}
use Rattle.hibitset.specs.Layout.{layer_len}
use Rattle.hibitset.specs.Layers.{len_in}
use Rattle.hibitset.specs.declared.layers.Layers.{Layers}
use Rattle.hibitset.proofs.LayerStartLemmas.{under_over, over_within}
use Rattle.hibitset.proofs.LayerLemmas.{length_of, length_first}

pub length_kept : (old new : ℕ) → ((j : ℕ) → new ≤ j / 64 → old ≤ j / 64) → old ≤ new
length_kept old new keeps = let h = keeps (64 * new) (omega arith) in omega (arith, h)

-- the words end by a position where those of the members do
pub length_most : (holds : ℕ → Bool) (new end : ℕ) → ((j : ℕ) → end ≤ j / 64 → LiesApart (λ i k. i / 64 < k / 64) holds j → new ≤ j / 64) → MembersEndBy holds end → new ≤ end
length_most holds new end most ends = let h = most (64 * end) (omega arith) (λ i on. let k = ends i on in omega (arith, k)) in omega (arith, h)

pub IfOk-each : {A E : Type 0} (P Q : A → Type 0) → ((a : A) → P a → Q a) → (r : Result A E) → IfOk r P → IfOk r Q
IfOk-each P Q each (Ok a) holds = each a holds
IfOk-each P Q each (Err e) holds = tt

-- a layer has as many words as lie over those of layer 0
pub slice_over : (x : Layers) (l : ℕ) → l < LAYERS - 1 → len_in x l ≡ layer_len l (len_in x 0)
slice_over x l below = length_of x l below ∙ ap (λ len. layer_len l len) (sym (length_first x))

-- a layer ends by a place where layer 0 ends by the words under it
pub ends_by : (x : Layers) (l end : ℕ) → l < LAYERS - 1 → len_in x 0 ≤ 64 ^ l * end → len_in x l ≤ end
ends_by x l end below within = rw (slice_over x l below) (over_within l (len_in x 0) end within)

pub ends_under : (x : Layers) (l end : ℕ) → l < LAYERS - 1 → len_in x l ≤ end → len_in x 0 ≤ 64 ^ l * end
ends_under x l end below within =
    let h = under_over l (len_in x 0) in
    let e = slice_over x l below in
    le_trans h (mul-le-mul_left (64 ^ l) (omega (arith, e, within)))

-- the words over an index, in layer 0 and above
word_over : (id l : ℕ) → id / 64 + 1 ≤ 64 ^ l * (id / 64 ^ (l + 1) + 1)
word_over id l =
    let s : l + 1 ≡ suc l = omega arith in
    let size : 64 * 64 ^ l ≡ 64 ^ (l + 1) = rw (s, pow-suc 64 l) (mul_comm 64 (64 ^ l)) in
    let up : id / 64 / 64 ^ l ≡ id / 64 ^ (l + 1) = div-div-eq-div-mul id 64 (64 ^ l) ∙ ap (λ m. id / m) size in
    let some : 0 < 64 ^ l = one-le-pow l 64 (lit< tt) in
    let h : id / 64 < 64 ^ l * (id / 64 / 64 ^ l + 1) = lt-mul-div-succ (id / 64) some in
    rw (← up) (omega (arith, h))

-- where layer 0 grows no longer than an index needs, no layer does
pub most_over : (old new : Layers) (id l : ℕ) → l < LAYERS - 1 → len_in new 0 ≤ max (len_in old 0) (id / 64 + 1) → len_in new l ≤ max (len_in old l) (id / 64 ^ (l + 1) + 1)
most_over old new id l below most =
    let end : ℕ = max (len_in old l) (id / 64 ^ (l + 1) + 1) in
    let before : len_in old 0 ≤ 64 ^ l * end = ends_under old l end below (omega arith) in
    let word = word_over id l in
    let here : 64 ^ l * (id / 64 ^ (l + 1) + 1) ≤ 64 ^ l * end = mul-le-mul_left (64 ^ l) (omega arith) in
    ends_by new l end below (omega (arith, most, before, word, here))

-- layer 0 has got so many words, or was left as long as it was
pub grown : {E : Type 0} (old new len : ℕ) (r : Result (Unit {0}) E) → OnOk r (new ≡ len) → OnErr r (new ≡ old) → new ≤ max old len
grown old new len (Ok a) done refused = omega (arith, done)
grown old new len (Err e) done refused = omega (arith, refused)

-- where layer 0 has the words of the numbers below a limit, no layer has more than lie over these
pub limit_over : (x : Layers) (limit l end : ℕ) → l < LAYERS - 1 → len_in x 0 ≡ (limit + 63) / 64 → limit ≤ 64 ^ (l + 1) * end → len_in x l ≤ end
limit_over x limit l end below long within =
    let s : l + 1 ≡ suc l = omega arith in
    let size : 64 ^ (l + 1) * end ≡ 64 * (64 ^ l * end) = rw (s, pow-suc 64 l, mul_comm (64 ^ l) 64) (mul_assoc 64 (64 ^ l) end) in
    ends_by x l end below (omega (arith, long, within, size))
