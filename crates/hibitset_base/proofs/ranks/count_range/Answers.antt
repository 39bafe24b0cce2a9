use Rattle.std.proofs.Common.{◌≡◌, ℕ, suc, ◌+◌, ◌-◌, ◌*◌, ◌/◌, ◌^◌, ◌<◌, ◌≤◌, Bool, length, refl, ◌∙◌, ap, ap₂, arith, inl, inr}
use Rattle.std.proofs.Math.Nat.{pow-suc}
use Rattle.std.proofs.lemmas.Bool.{cases_lt}
use Rattle.hibitset_base.specs.Members.{members}
use Rattle.hibitset_base.specs.declared.util.TheConstants.{LAYERS}
use Rattle.hibitset_base.proofs.MemberLemmas.{members-length}
use Rattle.hibitset_base.proofs.RankLemmas.{row_counted}
use Rattle.hibitset_base.proofs.ranks.count_range.Goals as goal

pub layers-init : goal.layers-init
layers-init g c =
    let holds = g.T.BitSetLike.holds c.args.set.now in
    let start : ℕ = c.args.start in
    let end : ℕ = c.args.end in
    let first : start * 64 ^ 0 ≡ start = omega arith in
    let d : ℕ = end - start in
    let all : d * 64 ^ 0 ≡ d = omega arith in
    record {
      below = omega arith;
      within = c.requires;
      count = (let same = ap₂ (λ x y. length (members holds x y)) first all in omega (arith, same));
    }

-- so much is counted at most
few : (p : ℕ → Bool) (start end : ℕ) → length (members p start (end - start)) ≤ end
few p start end = let h = members-length p start (end - start) in omega (arith, h)

pub returns-then-to-from : goal.returns-then-to-from
returns-then-to-from g c =
    let holds = g.T.BitSetLike.holds c.args.set.now in
    let none : c.layers.to - c.layers.from ≡ 0 = omega arith in
    let zero : (c.layers.to - c.layers.from) * 64 ^ c.layers.layer ≡ 0 = ap (λ d. d * 64 ^ c.layers.layer) none ∙ omega arith in
    let short = members-length holds (c.layers.from * 64 ^ c.layers.layer) ((c.layers.to - c.layers.from) * 64 ^ c.layers.layer) in
    let count = c.layers.invariant.count in
    omega (arith, short, zero, count)

pub overflow_add-result : goal.overflow_add-result
overflow_add-result g c =
    let holds = g.T.BitSetLike.holds c.args.set.now in
    let one = c.count_part.ensures in
    let count = c.layers.invariant.count in
    let most = few holds c.args.start c.args.end in
    omega (arith, one, count, most, c.requires)

-- two positions in one layer that lie in different words lie below another layer
more_layers : (n l from to : ℕ) → l < n → to ≤ 64 ^ (n - l) → from / 64 < (to - 1) / 64 → l + 1 < n
more_layers n l from to below within apart = elim (cases_lt (l + 1) n) [
  | inl more ↦ more
  | inr top ↦ absurd (
      let one : n - l ≡ 1 = omega (arith, below, top) in
      let small : to ≤ 64 ^ 1 = rw one at within in
      omega (arith, small, apart))
]

upper_fits : (n l to : ℕ) → l < n → to ≤ 64 ^ (n - l) → to / 64 ≤ 64 ^ (n - (l + 1))
upper_fits n l to below within =
    let size : 64 ^ (n - l) ≡ 64 ^ (n - (l + 1)) * 64 = (let s : n - l ≡ suc (n - (l + 1)) = omega (arith, below) in ap (λ x. 64 ^ x) s ∙ pow-suc 64 (n - (l + 1))) in
    omega (arith, size, within)

pub overflow_add-count : goal.overflow_add-count
overflow_add-count g c =
    let holds = g.T.BitSetLike.holds c.args.set.now in
    let row = row_counted holds c.layers.layer c.layers.from c.layers.to ((c.layers.from + 63) / 64) (c.layers.to / 64) (omega arith) refl refl in
    let one = c.count_part-lower.ensures in
    let two = c.count_part-upper.ensures in
    let count = c.layers.invariant.count in
    let most = few holds c.args.start c.args.end in
    omega (arith, row, one, two, count, most, c.requires)

pub overflow_add-count-in-layers : goal.overflow_add-count-in-layers
overflow_add-count-in-layers g c =
    let holds = g.T.BitSetLike.holds c.args.set.now in
    let row = row_counted holds c.layers.layer c.layers.from c.layers.to ((c.layers.from + 63) / 64) (c.layers.to / 64) (omega arith) refl refl in
    let one = c.count_part-lower.ensures in
    let two = c.count_part-upper.ensures in
    let count = c.layers.invariant.count in
    let most = few holds c.args.start c.args.end in
    omega (arith, row, one, two, count, most, c.requires)

pub layers-preserved : goal.layers-preserved
layers-preserved g c =
    let holds = g.T.BitSetLike.holds c.args.set.now in
    let l : ℕ = c.layers.layer in
    let from : ℕ = c.layers.from in
    let to : ℕ = c.layers.to in
    let apart : from / 64 < (to - 1) / 64 = omega arith in
    let row = row_counted holds l from to ((from + 63) / 64) (to / 64) apart refl refl in
    let one = c.count_part-lower.ensures in
    let two = c.count_part-upper.ensures in
    let count = c.layers.invariant.count in
    record {
      below = more_layers LAYERS l from to c.layers.invariant.below c.layers.invariant.within apart;
      within = upper_fits LAYERS l to c.layers.invariant.below c.layers.invariant.within;
      count = omega (arith, row, one, two, count);
    }

pub returns : goal.returns
returns g c = absurd (let below = c.layers.invariant.below in omega (arith, below))
