-- How long the layers are over so many words of layer 0, and where they begin in one list.
use Rattle.std.proofs.Common.{◌≡◌, ◌≢◌, ℕ, zero, suc, ◌+◌, ◌-◌, ◌*◌, ◌/◌, ◌^◌, ◌<◌, ◌≤◌, refl, ◌∙◌, ap, arith, inl, inr}
use Rattle.std.proofs.Math.Nat.{pow-suc, suc-mul, mul_assoc, mul-le-mul_left, le_trans}
use Rattle.std.proofs.lemmas.Bool.{cases_lt}
use Rattle.hibitset_base.specs.Decisions.{same_or_not}
use Rattle.hibitset.specs.Layout.{layer_len, layer_start}

pub over_next : (l len : ℕ) → layer_len (l + 1) len ≡ (layer_len l len + 63) / 64
unfolding layer_len
over_next l len = let s : l + 1 ≡ suc l = omega arith in rw s refl

pub start_next : (l room : ℕ) → layer_start (l + 1) room ≡ layer_start l room + layer_len l room
unfolding layer_start
start_next l room = let s : l + 1 ≡ suc l = omega arith in rw s refl

pub over_first : (len : ℕ) → layer_len 0 len ≡ len
unfolding layer_len
over_first len = refl

pub start_first : (room : ℕ) → layer_start 0 room ≡ 0
unfolding layer_start
start_first room = refl

pub over_more : (l a b : ℕ) → a ≤ b → layer_len l a ≤ layer_len l b
unfolding layer_len
over_more zero a b more = more
over_more (suc l) a b more = let h = over_more l a b more in omega (arith, h)

pub over_less : (l len : ℕ) → layer_len l len ≤ len
unfolding layer_len
over_less zero len = omega arith
over_less (suc l) len = let h = over_less l len in omega (arith, h)

-- each layer covers the one below
pub over_covers : (l len : ℕ) → layer_len l len ≤ 64 * layer_len (l + 1) len
over_covers l len = rw (over_next l len) (omega arith)

-- no layer is longer than it may be
pub over_short : (n l len : ℕ) → l < n → len ≤ 64 ^ (n - 1) → layer_len l len ≤ 64 ^ (n - 1 - l)
unfolding layer_len
over_short n zero len below short = let z : n - 1 - 0 ≡ n - 1 = omega arith in rw z short
over_short n (suc l) len below short =
    let h : layer_len l len ≤ 64 ^ (n - 1 - l) = over_short n l len (omega arith) short in
    let s : n - 1 - l ≡ suc (n - 1 - suc l) = omega arith in
    let step : 64 ^ (n - 1 - l) ≡ 64 ^ (n - 1 - suc l) * 64 = ap (λ x. 64 ^ x) s ∙ pow-suc 64 (n - 1 - suc l) in
    omega (arith, h, step)

-- so many words of a layer have those of layer 0 under them
pub under_over : (l len : ℕ) → len ≤ 64 ^ l * layer_len l len
unfolding layer_len
under_over zero len = omega arith
under_over (suc l) len =
    let within : len ≤ 64 ^ l * layer_len l len = under_over l len in
    let covered : 64 ^ l * layer_len l len ≤ 64 ^ l * (64 * ((layer_len l len + 63) / 64)) = mul-le-mul_left (64 ^ l) (omega arith) in
    rw (pow-suc 64 l, mul_assoc (64 ^ l) 64 ((layer_len l len + 63) / 64)) (le_trans within covered)

-- and no layer has more than lie over those of layer 0
pub over_within : (l len end : ℕ) → len ≤ 64 ^ l * end → layer_len l len ≤ end
unfolding layer_len
over_within zero len end within = omega (arith, within)
over_within (suc l) len end within =
    let lower : len ≤ 64 ^ l * (64 * end) = rw (pow-suc 64 l, mul_assoc (64 ^ l) 64 end) at within in
    let h : layer_len l len ≤ 64 * end = over_within l len (64 * end) lower in
    omega (arith, h)

-- a place that a layer has, a layer up
pub over_up : (l p len : ℕ) → p < layer_len l len → p / 64 < layer_len (l + 1) len
over_up l p len here = rw (over_next l len) (omega arith)

pub start_more : (l m room : ℕ) → l ≤ m → layer_start l room ≤ layer_start m room
unfolding layer_start
start_more l zero room upto = let e : l ≡ 0 = omega arith in rw e (omega arith)
start_more l (suc m) room upto = elim (same_or_not l (suc m)) [
  | inl e ↦ rw e (omega arith)
  | inr other ↦ let h = start_more l m room (omega arith) in omega (arith, h)
]

-- more room moves no layer down
pub start_wider : (l room wider : ℕ) → room ≤ wider → layer_start l room ≤ layer_start l wider
unfolding layer_start
start_wider zero room wider more = omega arith
start_wider (suc l) room wider more = let h = start_wider l room wider more in let k = over_more l room wider more in omega (arith, h, k)

pub start_bound : (l room most : ℕ) → room ≤ most → layer_start l room ≤ l * most
unfolding layer_start
start_bound zero room most within = omega arith
start_bound (suc l) room most within =
    let h = start_bound l room most within in
    let k = over_less l room in
    let e : suc l * most ≡ l * most + most = suc-mul l most in
    omega (arith, h, k, e, within)

-- a layer ends where the next one begins or before
pub in_room : (l m p room : ℕ) → l < m → p < layer_len l room → layer_start l room + p < layer_start m room
in_room l m p room below here =
    let h : layer_start (l + 1) room ≤ layer_start m room = start_more (l + 1) m room (omega arith) in
    let e = start_next l room in
    omega (arith, h, e, here)

-- two places of two layers are not the same in the list
pub apart : (l m p q room : ℕ) → l ≢ m → p < layer_len l room → q < layer_len m room → layer_start l room + p ≢ layer_start m room + q
apart l m p q room other here there same = elim (cases_lt l m) [
  | inl below ↦ let h = in_room l m p room below here in absurd (omega (arith, h, same))
  | inr upto ↦ let h = in_room m l q room (omega arith) there in absurd (omega (arith, h, same))
]

-- no words
pub none_over : (l : ℕ) → layer_len l 0 ≡ 0
none_over l = let h = over_less l 0 in omega (arith, h)
