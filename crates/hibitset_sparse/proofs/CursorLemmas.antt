-- Places in lists that are read side by side, bit by bit from the lowest up.
use Rattle.std.proofs.Common.{◌≡◌, ℕ, zero, suc, ◌+◌, ◌-◌, ◌<◌, ◌≤◌, ◌∙◌, arith, inl, inr}
use Rattle.std.specs.Prelude.{bit_or}
use Rattle.std.specs.Int.{bit_at}
use Rattle.std.proofs.lemmas.Nat.Bits.{bit_at-lt, bit_at_or}
use Rattle.hibitset_sparse.specs.Rank.{rank_in}
use Rattle.hibitset_sparse.proofs.AppendLemmas.{TakesLowest, left-above}
use Rattle.hibitset_sparse.proofs.RankLemmas.{rank-more, rank-none}
use Rattle.hibitset_sparse.proofs.WordLemmas.{bit_cases}

-- the rank stays over bits that are clear
rank-flat : (w a k : ℕ) → ((d : ℕ) → a ≤ d → d < a + k → bit_at w d ≡ 0) → rank_in w (a + k) ≡ rank_in w a
rank-flat w a zero clear = let e : a + 0 ≡ a = omega arith in rw e (omega arith)
rank-flat w a (suc k) clear =
    let e : a + suc k ≡ a + k + 1 = omega arith in
    let lower = rank-flat w a k (λ d low high. clear d low (omega (arith, high))) in
    let step = rank-more w (a + k) in
    let none = clear (a + k) (omega arith) (omega arith) in
    rw e (omega (arith, lower, step, none))

-- A place in a list that has one value for each bit of a word: those of the bits below `next` come before it. The bits
-- that are left are all from there on, and have all those of the word.
pub record IsBehind (word left start place : ℕ) : Type 0 where
  pub next : ℕ
  pub is : place ≡ start + rank_in word next
  pub ahead : (d : ℕ) → next ≤ d → d < 64 → bit_at word d ≡ 1 → bit_at left d ≡ 1
  pub from : (d : ℕ) → d < 64 → bit_at left d ≡ 1 → next ≤ d

-- the first places in the lists of two words whose bits are all left
module _ (v w start : ℕ) where
  pub behind-first : IsBehind v (bit_or v w) start start
  behind-first = record {
    next = 0;
    is = (let none = rank-none v in omega (arith, none));
    ahead = λ d low small on. let both = bit_at_or v w d in let few = bit_at-lt w d in omega (arith, both, on, few);
    from = λ d small on. omega arith;
  }

  pub behind-second : IsBehind w (bit_or v w) start start
  behind-second = record {
    next = 0;
    is = (let none = rank-none w in omega (arith, none));
    ahead = λ d low small on. let both = bit_at_or v w d in let few = bit_at-lt v d in omega (arith, both, on, few);
    from = λ d small on. omega arith;
  }

module _ (word left rest b start place : ℕ) (takes : TakesLowest left rest b) (was : IsBehind word left start place) where
  -- it is that of the lowest bit
  pub behind-here : place ≡ start + rank_in word b
  behind-here =
      let small = takes.below in
      let order = was.from b small takes.stood in
      let e : was.next + (b - was.next) ≡ b = omega (arith, order) in
      let flat : rank_in word b ≡ rank_in word was.next = rw e at (rank-flat word was.next (b - was.next) (λ d low high. clear d low (omega (arith, high, order)))) in
      let is = was.is in
      omega (arith, is, flat)
    where
      clear : (d : ℕ) → was.next ≤ d → d < b → bit_at word d ≡ 0
      clear d low high = elim (bit_cases word d) [
        | inl on ↦ absurd (
            let small = takes.below in
            let set = was.ahead d low (omega (arith, high, small)) on in
            let off = takes.lowest d high in
            omega (arith, set, off))
        | inr off ↦ off
      ]

  -- the next one, where the bit was taken out
  pub behind-taken : (new : ℕ) → new ≡ place + bit_at word b → IsBehind word rest start new
  behind-taken new is = record {
    next = b + 1;
    is = (let here = behind-here in let more = rank-more word b in omega (arith, here, more, is));
    ahead = λ d low small on.
        let order = was.from b takes.below takes.stood in
        takes.same d small (λ e. absurd (omega (arith, e, low))) ∙ was.ahead d (omega (arith, low, order)) small on;
    from = λ d small on. let above = left-above left rest b d takes small on in let more = above.0 in omega (arith, more);
  }

-- a bit that is clear in both words put together is clear in each
pub or-clear : (v w d : ℕ) → bit_at (bit_or v w) d ≡ 0 → (bit_at v d ≡ 0) × (bit_at w d ≡ 0)
or-clear v w d off = let both = bit_at_or v w d in (omega (arith, both, off), omega (arith, both, off))

rank-or : (v w k : ℕ) → rank_in (bit_or v w) k ≤ rank_in v k + rank_in w k
rank-or v w zero = let none = rank-none (bit_or v w) in omega (arith, none)
rank-or v w (suc k) =
    let e : suc k ≡ k + 1 = omega arith in
    let lower = rank-or v w k in
    let both = rank-more (bit_or v w) k in
    let first = rank-more v k in
    let second = rank-more w k in
    let bit = bit_at_or v w k in
    rw e (omega (arith, lower, both, first, second, bit))
