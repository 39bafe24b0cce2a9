use Rattle.std.proofs.Common.{◌≡◌, ℕ, suc, ◌-◌, ◌*◌, ◌^◌, ◌<◌, ◌≤◌, List, get_or, ◌∙◌, ap, lit<, arith, inl, inr}
use Rattle.std.proofs.Math.ListN.{set}
use Rattle.std.proofs.Math.Nat.{pow-suc, pow-le-pow_right}
use Rattle.std.proofs.lemmas.List.{get_or-set_same, get_or-set_other}
use Rattle.hibitset_base.specs.Decisions.{same_or_not}
use Rattle.hibitset_base.proofs.RevPlaceLemmas.{rev-put}
use Rattle.hibitset_base.proofs.rev_cursor.RevCursor.push_bits.Goals as goal

-- the first bit of a word within the set lies within its layer
start_inside : (n l position : ℕ) → l < n → position < 64 ^ (n - 1 - l) → 64 * position < 64 ^ (n - l)
start_inside n l position below within =
    let size : 64 ^ (n - l) ≡ 64 ^ (n - 1 - l) * 64 = (let s : n - l ≡ suc (n - 1 - l) = omega (arith, below) in ap (λ x. 64 ^ x) s ∙ pow-suc 64 (n - 1 - l)) in
    omega (arith, size, within)

pub overflow_mul-start : goal.overflow_mul-start
overflow_mul-start g c =
    let inside = start_inside g.row.N c.args.layer c.args.position c.requires.layer c.requires.within in
    let fits = c.args.self.now.positions_fit in
    let most : 64 ^ (g.row.N - c.args.layer) ≤ 64 ^ g.row.N = (let b : g.row.N - c.args.layer ≤ g.row.N = omega arith in pow-le-pow_right {n = 64} (lit< tt) b) in
    omega (arith, inside, fits, most)

pub invariant_of-self : goal.invariant_of-self
invariant_of-self g c =
    let layer : ℕ = c.args.layer in
    let starts : List ℕ = c.args.self.now.starts in
    let start : ℕ = 64 * c.args.position in
    record {
      positions_fit = c.args.self.now.positions_fit;
      aligned = λ l below. elim (same_or_not l layer) [
        | inl is ↦
            let here : get_or (set starts layer start) l 0 ≡ start = ap (λ j. get_or (set starts layer start) j 0) is ∙ get_or-set_same starts layer start 0 (omega arith) in
            rw here (omega arith, rw is (start_inside g.row.N layer c.args.position c.requires.layer c.requires.within))
        | inr other ↦ rw (get_or-set_other starts layer l start 0 other) (c.args.self.now.aligned l below)
      ];
    }

pub returns-clause-left : goal.returns-clause-left
returns-clause-left g c =
    let layer : ℕ = c.args.layer in
    let masks : List ℕ = c.args.self.now.masks in
    let starts : List ℕ = c.args.self.now.starts in
    let word : ℕ = c.args.word in
    let start : ℕ = 64 * c.args.position in
    rev-put (λ l. get_or masks l 0) (λ l. get_or starts l 0) (λ l. get_or (set masks layer word) l 0) (λ l. get_or (set starts layer start) l 0) layer g.row.N c.requires.layer
    (λ j other. get_or-set_other masks layer j word 0 other) (λ j other. get_or-set_other starts layer j start 0 other) c.requires.lowest start word
    (get_or-set_same starts layer start 0 (omega arith)) (get_or-set_same masks layer word 0 (omega arith))

pub returns-clause-others : goal.returns-clause-others
returns-clause-others g c = λ l other. get_or-set_other c.args.self.now.masks c.args.layer l c.args.word 0 other
