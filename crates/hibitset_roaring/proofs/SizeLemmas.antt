-- The sizes of containers, one after the other.
use Rattle.std.proofs.Common.{◌≡◌, ℕ, zero, suc, ◌+◌, ◌<◌, ◌≤◌, ◌⊎◌, Bool, true, false, List, [], ◌∷◌, ◌++◌, get_or, length, refl, sym, ap, ◌∙◌, arith, inl, inr}
use Rattle.std.proofs.lemmas.Bool.{cases_lt, both_ways}
use Rattle.std.proofs.lemmas.List.{length_push, get_or_push, get_or_append_left}
use Rattle.hibitset.specs.WordBits.{stands_in}
use Rattle.hibitset_roaring.specs.Words.{ones_under}
use Rattle.hibitset_roaring.specs.Runs.{members_under, count_of_runs, are_runs_shorter}
use Rattle.hibitset_roaring.specs.Streams.{container_bytes, start_from, AreSizes}
use Rattle.hibitset_roaring.proofs.HeadsLemmas.{heads_none, heads_skip, heads_push, heads_upto}
use Rattle.hibitset_roaring.proofs.RunPartLemmas.{bytes_most, from_first, from_next}

-- The containers lie alike wherever the first begins.
pub from_shift : (first : ℕ) (counts runs : List ℕ) (k : ℕ) → start_from first counts runs k ≡ first + start_from 0 counts runs k
from_shift first counts runs zero = let a = from_first first counts runs in let b = from_first 0 counts runs in omega (arith, a, b)
from_shift first counts runs (suc k) =
    let e : k + 1 ≡ suc k = omega arith in
    let h = from_shift first counts runs k in
    let a = from_next first counts runs k in
    let b = from_next 0 counts runs k in
    let x : start_from first counts runs (k + 1) ≡ start_from first counts runs (suc k) = ap (λ n. start_from first counts runs n) e in
    let y : start_from 0 counts runs (k + 1) ≡ start_from 0 counts runs (suc k) = ap (λ n. start_from 0 counts runs n) e in
    omega (arith, h, a, b, x, y)

-- one container more leaves those before it where they are
from_push : (counts runs : List ℕ) (count more k : ℕ) → length runs ≡ length counts → k ≤ length counts → start_from 0 (counts ++ count ∷ []) (runs ++ more ∷ []) k ≡ start_from 0 counts runs k
from_push counts runs count more zero same order = from_first 0 (counts ++ count ∷ []) (runs ++ more ∷ []) ∙ sym (from_first 0 counts runs)
from_push counts runs count more (suc k) same order =
    let e : k + 1 ≡ suc k = omega arith in
    let h = from_push counts runs count more k same (omega (arith, order)) in
    let a = from_next 0 counts runs k in
    let b = from_next 0 (counts ++ count ∷ []) (runs ++ more ∷ []) k in
    let c : get_or (counts ++ count ∷ []) k 0 ≡ get_or counts k 0 = get_or_append_left counts (count ∷ []) 0 k (omega (arith, order)) in
    let r : get_or (runs ++ more ∷ []) k 0 ≡ get_or runs k 0 = get_or_append_left runs (more ∷ []) 0 k (omega (arith, order, same)) in
    let f = ap (λ n. container_bytes n (get_or (runs ++ more ∷ []) k 0)) c ∙ ap (λ n. container_bytes (get_or counts k 0) n) r in
    let x : start_from 0 (counts ++ count ∷ []) (runs ++ more ∷ []) (k + 1) ≡ start_from 0 (counts ++ count ∷ []) (runs ++ more ∷ []) (suc k) = ap (λ n. start_from 0 (counts ++ count ∷ []) (runs ++ more ∷ []) n) e in
    let y : start_from 0 counts runs (k + 1) ≡ start_from 0 counts runs (suc k) = ap (λ n. start_from 0 counts runs n) e in
    omega (arith, h, a, b, f, x, y)

from_pushed : (counts runs : List ℕ) (count more n : ℕ) → length runs ≡ length counts → n ≡ length counts → start_from 0 (counts ++ count ∷ []) (runs ++ more ∷ []) (n + 1) ≡ start_from 0 counts runs n + container_bytes count more
from_pushed counts runs count more n same is =
    let h = from_push counts runs count more n same (omega (arith, is)) in
    let b = from_next 0 (counts ++ count ∷ []) (runs ++ more ∷ []) n in
    let c : get_or (counts ++ count ∷ []) n 0 ≡ count = get_or_push counts count 0 n (sym is) in
    let r : get_or (runs ++ more ∷ []) n 0 ≡ more = get_or_push runs more 0 n (omega (arith, same, is)) in
    let f = ap (λ x. container_bytes x (get_or (runs ++ more ∷ []) n 0)) c ∙ ap (λ x. container_bytes count x) r in
    omega (arith, h, b, f)

pub sizes_none : (words : List ℕ) (runs_under : ℕ → Bool) → AreSizes words runs_under 0 0 false 0
sizes_none words runs_under = record {
  keys = [];
  counts = [];
  runs = [];
  heads = heads_none words;
  numbers = record { same = refl; exact = λ k below on. absurd (omega (arith, below)) };
  kinds = record { kind = λ k below. absurd (omega (arith, below)) };
  says = record { any = λ e. absurd (both_ways false refl e); none = λ e k below. absurd (omega (arith, below)) };
  counted = refl;
  long = sym (from_first 0 [] []);
  few = omega arith;
  most = omega arith;
}

module _ (words : List ℕ) (runs_under : ℕ → Bool) (key n : ℕ) (some : Bool) (size : ℕ) (sizes : AreSizes words runs_under key n some size) where
  pub sizes_skip : ones_under words key ≡ 0 → AreSizes words runs_under (key + 1) n some size
  sizes_skip none = record {
    keys = sizes.keys;
    counts = sizes.counts;
    runs = sizes.runs;
    heads = heads_skip words sizes.keys sizes.counts key sizes.heads none;
    numbers = sizes.numbers;
    kinds = sizes.kinds;
    says = sizes.says;
    counted = sizes.counted;
    long = sizes.long;
    few = (let f = sizes.few in omega (arith, f));
    most = (let m = sizes.most in omega (arith, m));
  }

  pub sizes_push : (count more : ℕ) → ones_under words key ≡ count → 0 < count → count ≤ 65536 → are_runs_shorter more count ≡ runs_under key → (are_runs_shorter more count ≡ true → more ≡ count_of_runs (members_under (stands_in words) key)) → (next : Bool) → (next ≡ true → (some ≡ true) ⊎ (are_runs_shorter more count ≡ true)) → (next ≡ false → (some ≡ false) × (are_runs_shorter more count ≡ false)) → AreSizes words runs_under (key + 1) (n + 1) next (size + container_bytes count more)
  sizes_push count more is there upto kind exact next when_on when_off =
      let keys : List ℕ = sizes.keys in
      let counts : List ℕ = sizes.counts in
      let runs : List ℕ = sizes.runs in
      let same : length counts ≡ length keys = sizes.heads.same in
      let same' : length runs ≡ length keys = sizes.numbers.same in
      let a = length_push keys key in
      let b = length_push counts count in
      let d = length_push runs more in
      let counted = sizes.counted in
      let long : size ≡ start_from 0 counts runs (length keys) = sizes.long in
      let pushed = from_pushed counts runs count more (length keys) (omega (arith, same, same')) (sym same) in
      let end : start_from 0 (counts ++ count ∷ []) (runs ++ more ∷ []) (length (keys ++ key ∷ [])) ≡ start_from 0 (counts ++ count ∷ []) (runs ++ more ∷ []) (length keys + 1) = ap (λ i. start_from 0 (counts ++ count ∷ []) (runs ++ more ∷ []) i) a in
      let old_count : (k : ℕ) → k < length keys → get_or (counts ++ count ∷ []) k 0 ≡ get_or counts k 0 = λ k below. get_or_append_left counts (count ∷ []) 0 k (omega (arith, below, same)) in
      let old_runs : (k : ℕ) → k < length keys → get_or (runs ++ more ∷ []) k 0 ≡ get_or runs k 0 = λ k below. get_or_append_left runs (more ∷ []) 0 k (omega (arith, below, same')) in
      let old_key : (k : ℕ) → k < length keys → get_or (keys ++ key ∷ []) k 0 ≡ get_or keys k 0 = λ k below. get_or_append_left keys (key ∷ []) 0 k below in
      let new_key : get_or (keys ++ key ∷ []) (length keys) 0 ≡ key = get_or_push keys key 0 (length keys) refl in
      let new_count : get_or (counts ++ count ∷ []) (length keys) 0 ≡ count = get_or_push counts count 0 (length keys) same in
      let new_runs : get_or (runs ++ more ∷ []) (length keys) 0 ≡ more = get_or_push runs more 0 (length keys) same' in
      let old_kind : (k : ℕ) → k < length keys → are_runs_shorter (get_or (runs ++ more ∷ []) k 0) (get_or (counts ++ count ∷ []) k 0) ≡ are_runs_shorter (get_or runs k 0) (get_or counts k 0) = λ k below.
      ap (λ x. are_runs_shorter x (get_or (counts ++ count ∷ []) k 0)) (old_runs k below) ∙ ap (λ x. are_runs_shorter (get_or runs k 0) x) (old_count k below) in
      let new_kind : are_runs_shorter (get_or (runs ++ more ∷ []) (length keys) 0) (get_or (counts ++ count ∷ []) (length keys) 0) ≡ are_runs_shorter more count =
      ap (λ x. are_runs_shorter x (get_or (counts ++ count ∷ []) (length keys) 0)) new_runs ∙ ap (λ x. are_runs_shorter more x) new_count in
      record {
        keys = keys ++ key ∷ [];
        counts = counts ++ count ∷ [];
        runs = runs ++ more ∷ [];
        heads = heads_push words keys counts key sizes.heads count is there upto;
        numbers = record {
          same = omega (arith, a, d, same');
          exact = λ k below on. elim (cases_lt k (length keys)) [
            | inl lower ↦ old_runs k lower ∙ (sizes.numbers.exact k lower (sym (old_kind k lower) ∙ on) ∙ ap (λ x. count_of_runs (members_under (stands_in words) x)) (sym (old_key k lower)))
            | inr upper ↦ (let e : k ≡ length keys = omega (arith, below, upper, a) in
                let here : are_runs_shorter more count ≡ true = sym new_kind ∙ (rw e at on) in
                rw e (new_runs ∙ (exact here ∙ ap (λ x. count_of_runs (members_under (stands_in words) x)) (sym new_key))))
          ];
        };
        kinds = record {
          kind = λ k below. elim (cases_lt k (length keys)) [
            | inl lower ↦ old_kind k lower ∙ (sizes.kinds.kind k lower ∙ ap runs_under (sym (old_key k lower)))
            | inr upper ↦ (let e : k ≡ length keys = omega (arith, below, upper, a) in rw e (new_kind ∙ (kind ∙ ap runs_under (sym new_key))))
          ];
        };
        counted = omega (arith, a, counted);
        long = omega (arith, long, pushed, end);
        says = record {
          any = λ on. elim (when_on on) [
            | inl before ↦ (let h = sizes.says.any before in (h.0, (let l = h.1 in omega (arith, l, b)), old_kind h.0 (let l = h.1 in omega (arith, l, same)) ∙ h.2))
            | inr here ↦ (length keys, omega (arith, b, same), new_kind ∙ here)
          ];
          none = λ off k below. elim (cases_lt k (length keys)) [
            | inl lower ↦ old_kind k lower ∙ sizes.says.none (when_off off).0 k (omega (arith, lower, same))
            | inr upper ↦ (let e : k ≡ length keys = omega (arith, below, upper, b, same) in rw e (new_kind ∙ (when_off off).1))
          ];
        };
        few = (let f = sizes.few in omega (arith, f));
        most = (let m = sizes.most in let f = bytes_most count more in omega (arith, m, f));
      }

-- keys without members
pub sizes_upto : (words : List ℕ) (runs_under : ℕ → Bool) (from to n : ℕ) (some : Bool) (size : ℕ) → from ≤ to → ((key : ℕ) → from ≤ key → key < to → ones_under words key ≡ 0) → AreSizes words runs_under from n some size → AreSizes words runs_under to n some size
sizes_upto words runs_under from to n some size order none sizes = record {
  keys = sizes.keys;
  counts = sizes.counts;
  runs = sizes.runs;
  heads = heads_upto words sizes.keys sizes.counts from to order none sizes.heads;
  numbers = sizes.numbers;
  kinds = sizes.kinds;
  says = sizes.says;
  counted = sizes.counted;
  long = sizes.long;
  few = (let f = sizes.few in omega (arith, f, order));
  most = (let m = sizes.most in omega (arith, m, order));
}
