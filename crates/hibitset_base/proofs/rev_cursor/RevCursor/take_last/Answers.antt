use Rattle.std.proofs.Common.{◌≡◌, ℕ, suc, ◌+◌, ◌-◌, ◌*◌, ◌%◌, ◌^◌, ◌<◌, ◌≤◌, ◌++◌, ◌∷◌, [], List, get_or, refl, sym, ◌∙◌, ap, lit<, arith}
use Rattle.std.proofs.Math.ListN.{set}
use Rattle.std.proofs.Math.Nat.{pow-suc, pow-le-pow_right}
use Rattle.std.proofs.lemmas.List.{get_or-set_same, get_or-set_other}
use Rattle.hibitset_base.specs.Places.{bits_from}
use Rattle.hibitset_base.proofs.RevPlaceLemmas.{rev-take}
use Rattle.hibitset_base.proofs.RevWalkLemmas.{bits_last}
use Rattle.hibitset_base.proofs.rev_cursor.RevCursor.take_last.Goals as goal

-- a bit of a word within the set lies within its layer
bit_inside : (n l start bit : ℕ) → l < n → start % 64 ≡ 0 → start < 64 ^ (n - l) → bit < 64 → start + bit < 64 ^ (n - l)
bit_inside n l start bit below aligned within small =
    let size : 64 ^ (n - l) ≡ 64 ^ (n - l - 1) * 64 = (let s : n - l ≡ suc (n - l - 1) = omega (arith, below) in ap (λ x. 64 ^ x) s ∙ pow-suc 64 (n - l - 1)) in
    omega (arith, size, aligned, within, small)

bit_fits : (n l position : ℕ) → 64 ^ n ≤ 2 ^ 32 → position < 64 ^ (n - l) → position < 2 ^ 32
bit_fits n l position fits within =
    let most : 64 ^ (n - l) ≤ 64 ^ n = (let b : n - l ≤ n = omega arith in pow-le-pow_right {n = 64} (lit< tt) b) in
    omega (arith, most, fits, within)

pub overflow_add-result : goal.overflow_add-result
overflow_add-result g c =
    let layer : ℕ = c.args.layer in
    let self = c.args.self.now in
    let at = self.aligned layer c.requires.layer in
    let inside = bit_inside g.row.N layer (get_or self.starts layer 0) c.take_last_bit-bit.result c.requires.layer at.0 at.1 c.take_last_bit-bit.ensures.in_word in
    let fits = bit_fits g.row.N layer (get_or self.starts layer 0 + c.take_last_bit-bit.result) self.positions_fit inside in
    omega (arith, fits)

pub invariant_of-self : goal.invariant_of-self
invariant_of-self g c = record { positions_fit = c.args.self.now.positions_fit; aligned = c.args.self.now.aligned }

pub returns-clause-taken : goal.returns-clause-taken
returns-clause-taken g c =
    let layer : ℕ = c.args.layer in
    let masks : List ℕ = c.args.self.now.masks in
    let starts : List ℕ = c.args.self.now.starts in
    let mask : ℕ = c.take_last_bit-bit.new.word in
    let bit = c.take_last_bit-bit.ensures in
    let here : get_or (set masks layer mask) layer 0 ≡ mask = get_or-set_same masks layer mask 0 (omega arith) in
    rev-take (λ l. get_or masks l 0) (λ l. get_or starts l 0) (λ l. get_or (set masks layer mask) l 0) (λ l. get_or starts l 0) layer g.row.N c.requires.layer (λ j other. get_or-set_other masks layer j mask 0 other) (λ j other. refl)
    c.requires.lowest (get_or starts layer 0 + c.take_last_bit-bit.result)
    (bits_last (get_or starts layer 0) (get_or masks layer 0) mask c.take_last_bit-bit.result bit.in_word bit.bit_was_set bit.highest bit.bit_cleared bit.same ∙ ap (λ m. bits_from (get_or starts layer 0) m ++ ((get_or starts layer 0 + c.take_last_bit-bit.result) ∷ [])) (sym here))

pub returns-clause-within : goal.returns-clause-within
returns-clause-within g c =
    let layer : ℕ = c.args.layer in
    let self = c.args.self.now in
    let at = self.aligned layer c.requires.layer in
    bit_inside g.row.N layer (get_or self.starts layer 0) c.take_last_bit-bit.result c.requires.layer at.0 at.1 c.take_last_bit-bit.ensures.in_word

pub returns-clause-others : goal.returns-clause-others
returns-clause-others g c = λ l other. get_or-set_other c.args.self.now.masks c.args.layer l c.take_last_bit-bit.new.word 0 other
