-- Runs in bytes, and containers that may be runs.
use Rattle.std.proofs.Common.{◌≡◌, ℕ, zero, suc, ◌+◌, ◌-◌, ◌*◌, ◌/◌, ◌%◌, ◌^◌, ◌<◌, ◌≤◌, ◌==◌, ◌&&◌, ◌||◌, Bool, true, false, List, get_or, length, refl, sym, ap, ◌∙◌, add-one, arith, inl, inr}
use Rattle.std.specs.Prelude.{nat_le}
use Rattle.std.specs.Int.{bit_at}
use Rattle.std.proofs.lemmas.Nat.Bits.{bit_at_cat_low}
use Rattle.std.proofs.lemmas.Bool.{cases_lt, cases_Bool, cond-true, cond-false, cond_both, le-leb, lt-leb, leb-true, and_parts, and_from, and_left, and_right, false_from_ne_true, or_from}
use Rattle.hibitset_base.specs.Members.{members}
use Rattle.hibitset_base.proofs.MemberLemmas.{members-none, members-same}
use Rattle.hibitset_roaring.specs.Numbers.{any_below}
use Rattle.hibitset_roaring.specs.Format.{run_count, run_first, run_last, in_run, in_runs, run_total}
use Rattle.hibitset_roaring.specs.Runs.{are_runs_shorter}
use Rattle.hibitset_roaring.specs.Streams.{SameBefore, flat_bytes, container_bytes, start_from, fields_after, offsets_after, first_after, AreRunsOf, IsKindWritten, IsFront, IsHeaded}
use Rattle.hibitset_roaring.proofs.TestLemmas.{any_next, any_none, any_some}
use Rattle.hibitset_roaring.proofs.PartLemmas.{first_is, last_is, total_none, total_next}
use Rattle.hibitset_roaring.proofs.FrameLemmas.{any_same, u16_same, u32_same, written_same}
use Rattle.hibitset_roaring.proofs.HeadsLemmas.{flat_most, flat_is_small, flat_is_large}
use Rattle.hibitset_roaring.proofs.CountLemmas.{counted_past, counted_all}
use Rattle.hibitset_roaring.proofs.RunLemmas.{shorter_few}

-- ---- runs that were written before stay

module _ (end : ℕ) (old new : List ℕ) (same : SameBefore end old new) (at : ℕ) where
  pub run_count_same : at + 2 ≤ end → run_count new at ≡ run_count old at
  unfolding run_count
  run_count_same within = u16_same end old new same at within

  pub first_same : (r : ℕ) → at + 2 + 4 * r + 2 ≤ end → run_first new at r ≡ run_first old at r
  unfolding run_first
  first_same r within = u16_same end old new same (at + 2 + 4 * r) within

  pub last_same : (r : ℕ) → at + 2 + 4 * r + 4 ≤ end → run_last new at r ≡ run_last old at r
  last_same r within =
      let a = last_is new at r in
      let b = last_is old at r in
      let x = u16_same end old new same (at + 2 + 4 * r) (omega (arith, within)) in
      let y = u16_same end old new same (at + 2 + 4 * r + 2) (omega (arith, within)) in
      omega (arith, a, b, x, y)

  pub runs_same : (n v : ℕ) → at + 2 + 4 * n ≤ end → any_below n (λ r. in_run new at r v) ≡ any_below n (λ r. in_run old at r v)
  runs_same n v within = any_same n (λ r. in_run new at r v) (λ r. in_run old at r v) (λ r below.
      ap (λ x. nat_le x v && nat_le v (run_last new at r)) (first_same r (omega (arith, within, below))) ∙ ap (λ x. nat_le (run_first old at r) v && nat_le v x) (last_same r (omega (arith, within, below))))

  pub runs_of_same : (words : List ℕ) (key runs : ℕ) → at + 2 + 4 * runs ≤ end → AreRunsOf words old at key runs → AreRunsOf words new at key runs
  unfolding in_runs
  runs_of_same words key runs within w =
      let number : run_count new at ≡ runs = run_count_same (omega (arith, within)) ∙ w.number in
      record {
        number = number;
        within = λ r below. (let l = last_same r (omega (arith, within, below)) in let h = w.within r below in omega (arith, l, h));
        apart = λ r below. (let l = last_same r (omega (arith, within, below)) in let f = first_same (r + 1) (omega (arith, within, below)) in let h = w.apart r below in omega (arith, l, f, h));
        members = λ v small. ap (λ n. any_below n (λ r. in_run new at r v)) number ∙ (runs_same runs v within ∙ (ap (λ n. any_below n (λ r. in_run old at r v)) (sym w.number) ∙ w.members v small));
      }

-- ---- how many numbers runs have

module _ (bytes : List ℕ) (at : ℕ) where
  pub first_last : (r : ℕ) → run_first bytes at r ≤ run_last bytes at r
  first_last r = let a = first_is bytes at r in let b = last_is bytes at r in omega (arith, a, b)

  module _ (count : ℕ) (apart : (r : ℕ) → r + 1 < count → run_last bytes at r + 1 < run_first bytes at (r + 1)) where
    -- all runs before one end before it
    pub runs_ascend : (n r : ℕ) → r < n → n < count → run_last bytes at r + 1 < run_first bytes at n
    runs_ascend zero r less below = absurd (omega (arith, less))
    runs_ascend (suc n) r less below =
        let e : n + 1 ≡ suc n = omega arith in
        let here : run_last bytes at n + 1 < run_first bytes at (suc n) = rw e at (apart n (omega (arith, below))) in
        elim (cases_lt r n) [
          | inl lower ↦ (let h = runs_ascend n r lower (omega (arith, below)) in let f = first_last n in omega (arith, h, f, here))
          | inr upper ↦ (let i : r ≡ n = omega (arith, upper, less) in rw i here)
        ]

    -- a number is in none of the runs before it
    none_before : (n v : ℕ) → ((r : ℕ) → r < n → run_last bytes at r < v) → any_below n (λ r. in_run bytes at r v) ≡ false
    none_before n v past = false_from_ne_true (any_below n (λ r. in_run bytes at r v)) (λ on.
        let h = any_some n (λ r. in_run bytes at r v) on in
        let both = and_parts (nat_le (run_first bytes at h.0) v) (nat_le v (run_last bytes at h.0)) h.2 in
        let upto = leb-true v (run_last bytes at h.0) both.1 in
        let less = past h.0 h.1 in
        omega (arith, upto, less))

    pub run_numbers : (n bound : ℕ) → n ≤ count → ((r : ℕ) → r < n → run_last bytes at r < bound) → length (members (λ v. any_below n (λ r. in_run bytes at r v)) 0 bound) ≡ run_total bytes at n
    run_numbers zero bound order within = ap length (members-none (λ v. any_below 0 (λ r. in_run bytes at r v)) 0 bound (λ v from below. any_none (λ r. in_run bytes at r v))) ∙ sym (total_none bytes at)
    run_numbers (suc n) bound order within =
        let e : n + 1 ≡ suc n = omega arith in
        let T : ℕ → Bool = λ v. any_below (suc n) (λ r. in_run bytes at r v) in
        let first : ℕ = run_first bytes at n in
        let last : ℕ = run_last bytes at n in
        let fl : first ≤ last = first_last n in
        let lb : last < bound = within n (omega arith) in
        let before : (r : ℕ) → r < n → run_last bytes at r + 1 < first = λ r less. runs_ascend n r less (omega (arith, order)) in
        let next : (v : ℕ) → T v ≡ (in_run bytes at n v || any_below n (λ r. in_run bytes at r v)) = λ v. ap (λ m. any_below m (λ r. in_run bytes at r v)) (sym e) ∙ any_next n (λ r. in_run bytes at r v) in
        let old : length (members (λ v. any_below n (λ r. in_run bytes at r v)) 0 first) ≡ run_total bytes at n = run_numbers n first (omega (arith, order)) (λ r less. (let b = before r less in omega (arith, b))) in
        let same : length (members T 0 first) ≡ length (members (λ v. any_below n (λ r. in_run bytes at r v)) 0 first) = ap length (members-same T (λ v. any_below n (λ r. in_run bytes at r v)) 0 first (λ v from below.
        next v ∙ ap (λ t. t || any_below n (λ r. in_run bytes at r v)) (and_left (nat_le first v) (nat_le v last) (lt-leb first v (omega (arith, below)))))) in
        let here : length (members T 0 (last + 1)) ≡ length (members T 0 first) + (last + 1 - first) = counted_all T first (last + 1) (omega (arith, fl)) (λ v from below.
        next v ∙ ap (λ t. t || any_below n (λ r. in_run bytes at r v)) (and_from (nat_le first v) (nat_le v last) (le-leb first v from) (le-leb v last (omega (arith, below))))) in
        let past : length (members T 0 bound) ≡ length (members T 0 (last + 1)) = counted_past T (last + 1) bound (omega (arith, lb)) (λ v from below.
        next v ∙ or_from (in_run bytes at n v) (any_below n (λ r. in_run bytes at r v)) (and_right (nat_le first v) (nat_le v last) (lt-leb v last (omega (arith, from)))) (none_before n v (λ r less. (let b = before r less in omega (arith, b, fl, from))))) in
        let total : run_total bytes at (suc n) ≡ run_total bytes at n + (last + 1 - first) = ap (λ m. run_total bytes at m) (sym e) ∙ total_next bytes at n in
        past ∙ (here ∙ (ap (λ x. x + (last + 1 - first)) (same ∙ old) ∙ sym total))

-- ---- containers that may be runs

module _ (count runs : ℕ) where
  pub bytes_as_runs : are_runs_shorter runs count ≡ true → container_bytes count runs ≡ 2 + 4 * runs
  unfolding container_bytes
  bytes_as_runs on = cond-true (are_runs_shorter runs count) (2 + 4 * runs) (flat_bytes count) on

  pub bytes_flat : are_runs_shorter runs count ≡ false → container_bytes count runs ≡ flat_bytes count
  unfolding container_bytes
  bytes_flat off = cond-false (are_runs_shorter runs count) (2 + 4 * runs) (flat_bytes count) off

  pub bytes_most : container_bytes count runs ≤ 8192
  bytes_most = elim (cases_Bool (are_runs_shorter runs count)) [
    | inl on ↦ (let b = bytes_as_runs on in let f = shorter_few runs count on in omega (arith, b, f))
    | inr off ↦ (let b = bytes_flat off in let f = flat_most count in omega (arith, b, f))
  ]

-- a container that was written before stays
pub kind_written_same : (end : ℕ) (old new : List ℕ) → SameBefore end old new → (words : List ℕ) (at key count runs : ℕ) → at + container_bytes count runs ≤ end → IsKindWritten words old at key count runs → IsKindWritten words new at key count runs
kind_written_same end old new same words at key count runs within w = record {
  flat = λ off.
      let b = bytes_flat count runs off in
      written_same end old new same words at key count
      (λ small. (let f = flat_is_small count small in omega (arith, b, f, within)))
      (λ large. (let f = flat_is_large count large in omega (arith, b, f, within)))
      (w.flat off);
  as_runs = λ on. (let b = bytes_as_runs count runs on in runs_of_same end old new same at words key runs (omega (arith, b, within)) (w.as_runs on));
}

module _ (first : ℕ) (counts runs : List ℕ) where
  pub from_first : start_from first counts runs 0 ≡ first
  unfolding start_from
  from_first = refl

  pub from_next : (k : ℕ) → start_from first counts runs (k + 1) ≡ start_from first counts runs k + container_bytes (get_or counts k 0) (get_or runs k 0)
  unfolding start_from
  from_next k = rw add-one refl

  pub from_mono : (m n : ℕ) → m ≤ n → start_from first counts runs m ≤ start_from first counts runs n
  from_mono m zero below = let e : m ≡ 0 = omega (arith, below) in rw e (omega arith)
  from_mono m (suc n) below = elim (cases_lt n m) [
    | inl above ↦ (let e : m ≡ suc n = omega (arith, above, below) in rw e (omega arith))
    | inr upto ↦ (let h = from_mono m n upto in let next : start_from first counts runs (suc n) ≡ start_from first counts runs n + container_bytes (get_or counts n 0) (get_or runs n 0) = rw (← add-one) (from_next n) in omega (arith, h, next))
  ]

  pub from_most : (k : ℕ) → start_from first counts runs k ≤ first + 8192 * k
  from_most zero = let f = from_first in omega (arith, f)
  from_most (suc k) =
      let h = from_most k in
      let b = bytes_most (get_or counts k 0) (get_or runs k 0) in
      let next : start_from first counts runs (suc k) ≡ start_from first counts runs k + container_bytes (get_or counts k 0) (get_or runs k 0) = rw (← add-one) (from_next k) in
      omega (arith, h, b, next)

-- ---- where the keys begin and the first container

module _ (some : Bool) (n : ℕ) where
  pub fields_on : some ≡ true → fields_after some n ≡ 4 + (n + 7) / 8
  fields_on on = cond-true some (4 + (n + 7) / 8) 8 on

  pub fields_off : some ≡ false → fields_after some n ≡ 8
  fields_off off = cond-false some (4 + (n + 7) / 8) 8 off

  pub fields_few : n ≤ 16384 → fields_after some n ≤ 4096
  fields_few few = cond_both some (4 + (n + 7) / 8) 8 (λ x. x ≤ 4096) (λ _. omega (arith, few)) (λ _. omega arith)

  pub first_few : n ≤ 16384 → first_after some n ≤ 262144
  first_few few =
      let f = fields_few few in
      cond_both (offsets_after some n) (fields_after some n + 4 * n + 4 * n) (fields_after some n + 4 * n) (λ x. x ≤ 262144) (λ _. omega (arith, few, f)) (λ _. omega (arith, few, f))

  pub fields_first : fields_after some n + 4 * n ≤ first_after some n
  fields_first = cond_both (offsets_after some n) (fields_after some n + 4 * n + 4 * n) (fields_after some n + 4 * n) (λ x. fields_after some n + 4 * n ≤ x) (λ _. omega arith) (λ _. omega arith)

  pub offsets_first : offsets_after some n ≡ true → fields_after some n + 4 * n + 4 * n ≤ first_after some n
  offsets_first on = let e = cond-true (offsets_after some n) (fields_after some n + 4 * n + 4 * n) (fields_after some n + 4 * n) on in omega (arith, e)

-- ---- flags

pub low_byte : (n b : ℕ) → b < 8 → bit_at (n % 256) b ≡ bit_at n b
low_byte n b small =
    let e : n / 256 * 2 ^ 8 + n % 256 ≡ n = omega arith in
    sym (ap (λ m. bit_at m b) (sym e) ∙ bit_at_cat_low (n / 256) 8 (n % 256) b small)

-- a header that was written before stays
module _ (end : ℕ) (old new : List ℕ) (same : SameBefore end old new) (some : Bool) (counts runs : List ℕ) where
  pub front_same : fields_after some (length counts) ≤ end → IsFront some old counts runs → IsFront some new counts runs
  front_same within h = record {
    cookie_with = λ on. (let f = fields_on some (length counts) on in u16_same end old new same 0 (omega (arith, within, f)) ∙ h.cookie_with on);
    count_with = λ on. (let f = fields_on some (length counts) on in ap (λ x. x + 1) (u16_same end old new same 2 (omega (arith, within, f))) ∙ h.count_with on);
    cookie_without = λ off. (let f = fields_off some (length counts) off in u32_same end old new same 0 (omega (arith, within, f)) ∙ h.cookie_without off);
    count_without = λ off. (let f = fields_off some (length counts) off in u32_same end old new same 4 (omega (arith, within, f)) ∙ h.count_without off);
    flags = λ on k below. (let f = fields_on some (length counts) on in ap (λ x. bit_at x (k % 8) == 1) (same.byte (4 + k / 8) (omega (arith, within, f, below))) ∙ h.flags on k below);
  }

  pub headed_same : (keys : List ℕ) → fields_after some (length counts) + 4 * length keys ≤ end → IsHeaded some old keys counts runs → IsHeaded some new keys counts runs
  headed_same keys within h = record {
    front = front_same (omega (arith, within)) h.front;
    keys_are = λ k below. u16_same end old new same (fields_after some (length counts) + 4 * k) (omega (arith, within, below)) ∙ h.keys_are k below;
    counts_are = λ k below. ap (λ x. x + 1) (u16_same end old new same (fields_after some (length counts) + 4 * k + 2) (omega (arith, within, below))) ∙ h.counts_are k below;
  }
