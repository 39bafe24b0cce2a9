-- Lists of keys, and of how many members have each.
use Rattle.std.proofs.Common.{◌≡◌, ℕ, zero, suc, ◌+◌, ◌*◌, ◌<◌, ◌≤◌, List, [], ◌∷◌, ◌++◌, get_or, length, refl, sym, ap, subst, ◌∙◌, arith, inl, inr}
use Rattle.std.specs.Prelude.{nat_le}
use Rattle.std.proofs.lemmas.Bool.{cases_lt, cond_both, cond-true, cond-false, leb-true, le-leb, lt-leb}
use Rattle.std.proofs.lemmas.List.{length_push, get_or_push, get_or_append_left}
use Rattle.hibitset_roaring.specs.Words.{ones_under}
use Rattle.hibitset_roaring.specs.Streams.{flat_bytes, AreHeads}

pub heads_none : (words : List ℕ) → AreHeads words [] [] 0
heads_none words = record {
  same = refl;
  few = omega arith;
  within = λ k below. absurd (omega (arith, below));
  ascending = λ k below. absurd (omega (arith, below));
  counted = λ k below. absurd (omega (arith, below));
  some = λ k below. absurd (omega (arith, below));
  small = λ k below. absurd (omega (arith, below));
  all = λ key below some. absurd (omega (arith, below));
}

module _ (words keys counts : List ℕ) (key : ℕ) (heads : AreHeads words keys counts key) where
  pub heads_skip : ones_under words key ≡ 0 → AreHeads words keys counts (key + 1)
  heads_skip none = record {
    same = heads.same;
    few = (let f = heads.few in omega (arith, f));
    within = λ k below. (let w = heads.within k below in omega (arith, w));
    ascending = heads.ascending;
    counted = heads.counted;
    some = heads.some;
    small = heads.small;
    all = λ other below some. elim (cases_lt other key) [
      | inl lower ↦ heads.all other lower some
      | inr upper ↦ absurd (let e : other ≡ key = omega (arith, below, upper) in let z : ones_under words other ≡ 0 = rw e none in omega (arith, z, some))
    ];
  }

  pub heads_push : (count : ℕ) → ones_under words key ≡ count → 0 < count → count ≤ 65536 → AreHeads words (keys ++ key ∷ []) (counts ++ count ∷ []) (key + 1)
  heads_push count is there most =
      let n : ℕ = length keys in
      let m = heads.same in
      let longer = length_push keys key in
      let longer' = length_push counts count in
      let old : (k : ℕ) → k < n → get_or (keys ++ key ∷ []) k 0 ≡ get_or keys k 0 = λ k below. get_or_append_left keys (key ∷ []) 0 k below in
      let new : get_or (keys ++ key ∷ []) n 0 ≡ key = get_or_push keys key 0 n refl in
      let old' : (k : ℕ) → k < n → get_or (counts ++ count ∷ []) k 0 ≡ get_or counts k 0 = λ k below. get_or_append_left counts (count ∷ []) 0 k (omega (arith, below, m)) in
      let new' : get_or (counts ++ count ∷ []) n 0 ≡ count = get_or_push counts count 0 n m in
      record {
        same = omega (arith, longer, longer', m);
        few = (let f = heads.few in omega (arith, f, longer));
        within = λ k below. elim (cases_lt k n) [
          | inl lower ↦ (let w = heads.within k lower in let o = old k lower in omega (arith, w, o))
          | inr upper ↦ (let e : k ≡ n = omega (arith, below, upper, longer) in rw e (omega (arith, new)))
        ];
        ascending = λ k below. elim (cases_lt (k + 1) n) [
          | inl lower ↦ (let a = heads.ascending k lower in let o = old k (omega (arith, lower)) in let p = old (k + 1) lower in omega (arith, a, o, p))
          | inr upper ↦ (let e : k + 1 ≡ n = omega (arith, below, upper, longer) in let w = heads.within k (omega (arith, e)) in let o = old k (omega (arith, e)) in rw e (omega (arith, w, o, new)))
        ];
        counted = λ k below. elim (cases_lt k n) [
          | inl lower ↦ old' k lower ∙ (heads.counted k lower ∙ ap (λ x. ones_under words x) (sym (old k lower)))
          | inr upper ↦ (let e : k ≡ n = omega (arith, below, upper, longer) in rw e (new' ∙ (sym is ∙ ap (λ x. ones_under words x) (sym new))))
        ];
        some = λ k below. elim (cases_lt k n) [
          | inl lower ↦ (let s = heads.some k lower in let o = old' k lower in omega (arith, s, o))
          | inr upper ↦ (let e : k ≡ n = omega (arith, below, upper, longer) in rw e (omega (arith, new', there)))
        ];
        small = λ k below. elim (cases_lt k n) [
          | inl lower ↦ (let s = heads.small k lower in let o = old' k lower in omega (arith, s, o))
          | inr upper ↦ (let e : k ≡ n = omega (arith, below, upper, longer) in rw e (omega (arith, new', most)))
        ];
        all = λ other below some. elim (cases_lt other key) [
          | inl lower ↦ (let a = heads.all other lower some in (a.0, omega (arith, a.1, longer), old a.0 a.1 ∙ a.2))
          | inr upper ↦ (n, omega (arith, longer), (let e : other ≡ key = omega (arith, below, upper) in new ∙ sym e))
        ];
      }

-- keys without members
pub heads_upto : (words keys counts : List ℕ) (m n : ℕ) → m ≤ n → ((key : ℕ) → m ≤ key → key < n → ones_under words key ≡ 0) → AreHeads words keys counts m → AreHeads words keys counts n
heads_upto words keys counts m zero order none heads = subst (λ b. AreHeads words keys counts b) (omega (arith, order)) heads
heads_upto words keys counts m (suc n) order none heads = elim (cases_lt n m) [
  | inl above ↦ subst (λ b. AreHeads words keys counts b) (omega (arith, above, order)) heads
  | inr upto ↦
      let e : n + 1 ≡ suc n = omega arith in
      subst (λ b. AreHeads words keys counts b) e (heads_skip words keys counts n (heads_upto words keys counts m n upto (λ key from below. none key from (omega (arith, below))) heads) (none n upto (omega arith)))
]

pub flat_most : (count : ℕ) → flat_bytes count ≤ 8192
flat_most count = cond_both (nat_le count 4096) (2 * count) 8192 (λ x. x ≤ 8192) (λ small. (let s = leb-true count 4096 small in omega (arith, s))) (λ _. omega arith)

pub flat_from : (count n : ℕ) → (count ≤ 4096 → n ≡ 2 * count) → (4096 < count → n ≡ 8192) → n ≡ flat_bytes count
flat_from count n small large = elim (cases_lt 4096 count) [
  | inl more ↦ large more ∙ sym (cond-false (nat_le count 4096) (2 * count) 8192 (lt-leb count 4096 more))
  | inr few ↦ small few ∙ sym (cond-true (nat_le count 4096) (2 * count) 8192 (le-leb count 4096 few))
]

pub flat_is_small : (count : ℕ) → count ≤ 4096 → flat_bytes count ≡ 2 * count
flat_is_small count small = cond-true (nat_le count 4096) (2 * count) 8192 (le-leb count 4096 small)

pub flat_is_large : (count : ℕ) → 4096 < count → flat_bytes count ≡ 8192
flat_is_large count large = cond-false (nat_le count 4096) (2 * count) 8192 (lt-leb count 4096 large)
