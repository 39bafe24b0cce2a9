-- What was written part by part is a stream of the members.
use Rattle.std.proofs.Common.{◌≡◌, ℕ, zero, suc, ◌+◌, ◌*◌, ◌/◌, ◌%◌, ◌^◌, ◌<◌, ◌≤◌, ◌==◌, ◌&&◌, Bool, true, false, List, get_or, length, sym, ap, ◌∙◌, arith, inl, inr}
use Rattle.std.specs.Prelude.{nat_le}
use Rattle.std.specs.Int.{bit_at}
use Rattle.std.proofs.lemmas.Bool.{cases_lt, cases_Bool, cond-true, cond-false, le-leb, lt-leb, both_ways, and_parts, and_from, eqb-true, false_from_ne_true}
use Rattle.std.proofs.lemmas.List.{get_or_past}
use Rattle.hibitset_base.specs.Decisions.{eq_same}
use Rattle.hibitset_base.specs.Members.{members}
use Rattle.hibitset_base.proofs.MemberLemmas.{members-same}
use Rattle.hibitset.specs.WordBits.{stands_in}
use Rattle.hibitset_roaring.specs.Numbers.{u16_at, u32_at, any_below}
use Rattle.hibitset_roaring.specs.Format.{has_runs, container_count, keys_at, has_offsets, offsets_at, key_of, cardinality_of, is_run, run_count, in_run, in_runs, run_total, container_at, size, in_container, holds, IsContainer, IsStream, HasKeysBelow, AreBytes}
use Rattle.hibitset_roaring.specs.Words.{ones_under}
use Rattle.hibitset_roaring.specs.Streams.{flat_bytes, container_bytes, start_from, fields_after, offsets_after, first_after, AreHeads, AreKinds, HaveKeys, SaysRuns, AreRunsOf, IsKindWritten, IsHeaded}
use Rattle.hibitset_roaring.specs.Runs.{members_under, are_runs_shorter}
use Rattle.hibitset_roaring.specs.RunStreams.{IsRunOptimizedStream, IsCanonicalRunStream}
use Rattle.hibitset_roaring.specs.Kinds.{cardinality_under, IsStreamOf}
use Rattle.hibitset_roaring.proofs.TestLemmas.{any_true, any_some}
use Rattle.hibitset_roaring.proofs.MemberLemmas.{some_under, word_there}
use Rattle.hibitset_roaring.proofs.HeaderLemmas.{u32_is, runs_from, no_runs_from, count_with, count_without}
use Rattle.hibitset_roaring.proofs.LayoutLemmas.{at_first, at_next}
use Rattle.hibitset_roaring.proofs.CardinalityLemmas.{ones_counted}
use Rattle.hibitset_roaring.proofs.RunLemmas.{none_shorter, runs_same_count}
use Rattle.hibitset_roaring.proofs.RunPartLemmas.{run_numbers, bytes_as_runs, bytes_flat, from_first, from_next}
use Rattle.hibitset_roaring.proofs.KindLemmas.{no_run}
use Rattle.hibitset_roaring.proofs.StartLemmas.{first_is}

-- A number is held if the container with its key has it.
module _ (words out keys counts : List ℕ) (bound : ℕ) (heads : AreHeads words keys counts bound) (count : container_count out ≡ length keys) (keyed : (k : ℕ) → k < length keys → key_of out k ≡ get_or keys k 0) (listed : (k v : ℕ) → k < length keys → v < 65536 → in_container out k v ≡ stands_in words (65536 * get_or keys k 0 + v)) where
  -- a container with the number has it as its member
  found : (i k : ℕ) → k < length keys → ((key_of out k == i / 65536) && in_container out k (i % 65536)) ≡ true → stands_in words i ≡ true
  found i k below on =
      let both = and_parts (key_of out k == i / 65536) (in_container out k (i % 65536)) on in
      let high : get_or keys k 0 ≡ i / 65536 = sym (keyed k below) ∙ eqb-true (key_of out k) (i / 65536) both.0 in
      let whole : 65536 * get_or keys k 0 + i % 65536 ≡ i = omega (arith, high) in
      ap (λ n. stands_in words n) (sym whole) ∙ (sym (listed k (i % 65536) below (omega arith)) ∙ both.1)

  -- a member has its container
  kept : (i : ℕ) → length words ≤ 1024 * bound → stands_in words i ≡ true → any_below (length keys) (λ k. (key_of out k == i / 65536) && in_container out k (i % 65536)) ≡ true
  kept i short on =
      let there = word_there words i on in
      let h = heads.all (i / 65536) (omega (arith, there, short)) (some_under words i on) in
      let k : ℕ = h.0 in
      let below : k < length keys = h.1 in
      let high : get_or keys k 0 ≡ i / 65536 = h.2 in
      let whole : 65536 * get_or keys k 0 + i % 65536 ≡ i = omega (arith, high) in
      any_true (length keys) (λ k. (key_of out k == i / 65536) && in_container out k (i % 65536)) k below
      (and_from (key_of out k == i / 65536) (in_container out k (i % 65536)) (eq_same (key_of out k) (i / 65536) (keyed k below ∙ high)) (listed k (i % 65536) below (omega arith) ∙ (ap (λ n. stands_in words n) whole ∙ on)))

  pub holds_from : length words ≤ 1024 * bound → (i : ℕ) → holds out i ≡ stands_in words i
  unfolding holds
  holds_from short i = ap (λ n. any_below n (λ k. (key_of out k == i / 65536) && in_container out k (i % 65536))) count ∙ elim (cases_Bool (stands_in words i)) [
    | inl on ↦ kept i short on ∙ sym on
    | inr off ↦ false_from_ne_true (any_below (length keys) (λ k. (key_of out k == i / 65536) && in_container out k (i % 65536))) (λ on. (let h = any_some (length keys) (λ k. (key_of out k == i / 65536) && in_container out k (i % 65536)) on in both_ways (stands_in words i) off (found i h.0 h.1 h.2))) ∙ sym off
  ]

-- runs have as many numbers as there are members
pub runs_total : (words out : List ℕ) (at key runs : ℕ) → ((p : ℕ) → get_or words p 0 < 2 ^ 64) → AreRunsOf words out at key runs → run_total out at (run_count out at) ≡ ones_under words key
unfolding in_runs cardinality_under
runs_total words out at key runs fits w =
    let numbers = run_numbers out at runs w.apart runs 65536 (omega arith) w.within in
    let same : length (members (λ v. any_below runs (λ r. in_run out at r v)) 0 65536) ≡ length (members (λ v. stands_in words (65536 * key + v)) 0 65536) =
    ap length (members-same (λ v. any_below runs (λ r. in_run out at r v)) (λ v. stands_in words (65536 * key + v)) 0 65536 (λ v from below. ap (λ n. any_below n (λ r. in_run out at r v)) (sym w.number) ∙ w.members v (omega (arith, below)))) in
    ap (λ n. run_total out at n) w.number ∙ (sym numbers ∙ (same ∙ sym (ones_counted words key fits)))

module _ (words out keys counts runs : List ℕ) (some : Bool) (bound : ℕ) (fits : (p : ℕ) → get_or words p 0 < 2 ^ 64) (heads : AreHeads words keys counts bound) (upto : bound ≤ 16384) (numbers : AreKinds words keys counts runs) (says : SaysRuns some counts runs) (headed : IsHeaded some out keys counts runs) where
  cookie_is : has_runs out ≡ some
  cookie_is = elim (cases_Bool some) [
    | inl on ↦ runs_from out (headed.front.cookie_with on) ∙ sym on
    | inr off ↦ (let c = headed.front.cookie_without off in let u = u32_is out 0 in no_runs_from out (λ e. absurd (omega (arith, c, u, e)))) ∙ sym off
  ]

  counted : container_count out ≡ length counts
  counted = elim (cases_Bool some) [
    | inl on ↦ count_with out (cookie_is ∙ on) ∙ headed.front.count_with on
    | inr off ↦ count_without out (cookie_is ∙ off) ∙ headed.front.count_without off
  ]

  count_is : container_count out ≡ length keys
  count_is = counted ∙ heads.same

  keys_is : keys_at out ≡ fields_after some (length counts)
  unfolding keys_at
  keys_is = ap (λ r. fields_after r (container_count out)) cookie_is ∙ ap (λ n. fields_after some n) counted

  offsets_is : has_offsets out ≡ offsets_after some (length counts)
  unfolding has_offsets
  offsets_is = ap (λ r. offsets_after r (container_count out)) cookie_is ∙ ap (λ n. offsets_after some n) counted

  at_offsets : offsets_at out ≡ fields_after some (length counts) + 4 * length counts
  unfolding offsets_at
  at_offsets = ap (λ a. a + 4 * container_count out) keys_is ∙ ap (λ n. fields_after some (length counts) + 4 * n) counted

  key_is : (k : ℕ) → k < length keys → key_of out k ≡ get_or keys k 0
  unfolding key_of
  key_is k below = ap (λ a. u16_at out (a + 4 * k)) keys_is ∙ headed.keys_are k below

  cardinality_is : (k : ℕ) → k < length keys → cardinality_of out k ≡ get_or counts k 0
  unfolding cardinality_of
  cardinality_is k below = ap (λ a. u16_at out (a + 4 * k + 2) + 1) keys_is ∙ headed.counts_are k below

  flag_is : some ≡ true → (k : ℕ) → k / 8 < (length counts + 7) / 8 → is_run out k ≡ are_runs_shorter (get_or runs k 0) (get_or counts k 0)
  unfolding is_run
  flag_is on k within = ap (λ r. r && (bit_at (get_or out (4 + k / 8) 0) (k % 8) == 1)) (cookie_is ∙ on) ∙ headed.front.flags on k within

  flagged : (k : ℕ) → k < length keys → is_run out k ≡ are_runs_shorter (get_or runs k 0) (get_or counts k 0)
  flagged k below =
      let same = heads.same in
      elim (cases_Bool some) [
        | inl on ↦ flag_is on k (omega (arith, below, same))
        | inr off ↦ no_run out (cookie_is ∙ off) k ∙ sym (says.none off k (omega (arith, below, same)))
      ]

  kind_is : (k : ℕ) → k < length keys → is_run out k ≡ are_runs_shorter (get_or runs k 0) (cardinality_of out k)
  kind_is k below = flagged k below ∙ ap (λ n. are_runs_shorter (get_or runs k 0) n) (sym (cardinality_is k below))

  -- past the last container there are no runs
  past : (k : ℕ) → length keys ≤ k → k / 8 < (length counts + 7) / 8 → is_run out k ≡ false
  past k beyond within =
      let h = heads.same in
      let r = numbers.same in
      elim (cases_Bool some) [
        | inl on ↦ flag_is on k within ∙ (ap (λ x. are_runs_shorter x (get_or counts k 0)) (get_or_past runs k 0 (omega (arith, beyond, r))) ∙ (ap (λ x. are_runs_shorter 0 x) (get_or_past counts k 0 (omega (arith, beyond, h))) ∙ none_shorter))
        | inr off ↦ no_run out (cookie_is ∙ off) k
      ]

  pub keys_written : HasKeysBelow out 16384
  keys_written = record {
    keys = λ k below.
        let c = count_is in
        let is = key_is k (omega (arith, below, c)) in
        let w = heads.within k (omega (arith, below, c)) in
        omega (arith, is, w, upto);
  }

  abbrev first : ℕ
  first = first_after some (length counts)

  module _ (written : (k : ℕ) → k < length keys → IsKindWritten words out (start_from (first_after some (length counts)) counts runs k) (get_or keys k 0) (get_or counts k 0) (get_or runs k 0)) where
    size_is : (k : ℕ) → k < length keys → size out k (start_from first counts runs k) ≡ container_bytes (get_or counts k 0) (get_or runs k 0)
    unfolding size
    size_is k below =
        let flag = flagged k below in
        let w = written k below in
        elim (cases_Bool (are_runs_shorter (get_or runs k 0) (get_or counts k 0))) [
          | inl on ↦ cond-true (is_run out k) _ _ (flag ∙ on) ∙ (ap (λ n. 2 + 4 * n) (w.as_runs on).number ∙ sym (bytes_as_runs (get_or counts k 0) (get_or runs k 0) on))
          | inr off ↦ cond-false (is_run out k) _ _ (flag ∙ off) ∙ (ap (λ n. flat_bytes n) (cardinality_is k below) ∙ sym (bytes_flat (get_or counts k 0) (get_or runs k 0) off))
        ]

    at_is : (k : ℕ) → k ≤ length keys → container_at out k ≡ start_from first counts runs k
    at_is zero order = at_first out ∙ (first_is out some (length counts) cookie_is counted ∙ sym (from_first first counts runs))
    at_is (suc k) order =
        let e : k + 1 ≡ suc k = omega arith in
        let h = at_is k (omega (arith, order)) in
        let z : size out k (container_at out k) ≡ container_bytes (get_or counts k 0) (get_or runs k 0) = ap (λ a. size out k a) h ∙ size_is k (omega (arith, order)) in
        let there : container_at out (k + 1) ≡ start_from first counts runs (k + 1) = at_next out k ∙ (ap (λ a. a + size out k (container_at out k)) h ∙ (ap (λ n. start_from first counts runs k + n) z ∙ sym (from_next first counts runs k))) in
        rw e at there

    moved : (k : ℕ) → k < length keys → IsKindWritten words out (container_at out k) (get_or keys k 0) (cardinality_of out k) (get_or runs k 0)
    moved k below = rw (at_is k (omega (arith, below)), cardinality_is k below) (written k below)

    container : (k : ℕ) → k < length keys → IsContainer out k
    container k below =
        let w = moved k below in
        let kind = kind_is k below in
        record {
          runs = λ run. (let r = w.as_runs (sym kind ∙ run) in let n = r.number in record {
            within = λ j less. r.within j (omega (arith, less, n));
            apart = λ j less. r.apart j (omega (arith, less, n));
            total = runs_total words out (container_at out k) (get_or keys k 0) (get_or runs k 0) fits r ∙ (sym (heads.counted k below) ∙ sym (cardinality_is k below));
          });
          array = λ flat few. (w.flat (sym kind ∙ flat)).array few;
          bits = λ flat large. (w.flat (sym kind ∙ flat)).bits large;
        }

    listed : (k v : ℕ) → k < length keys → v < 65536 → in_container out k v ≡ stands_in words (65536 * get_or keys k 0 + v)
    unfolding in_container
    listed k v below small =
        let w = moved k below in
        let kind = kind_is k below in
        elim (cases_Bool (is_run out k)) [
          | inl run ↦ cond-true (is_run out k) _ _ run ∙ (w.as_runs (sym kind ∙ run)).members v small
          | inr flat ↦ cond-false (is_run out k) _ _ flat ∙ elim (cases_lt 4096 (cardinality_of out k)) [
            | inl large ↦ cond-false (nat_le (cardinality_of out k) 4096) _ _ (lt-leb (cardinality_of out k) 4096 large) ∙ (w.flat (sym kind ∙ flat)).marked large v small
            | inr few ↦ cond-true (nat_le (cardinality_of out k) 4096) _ _ (le-leb (cardinality_of out k) 4096 few) ∙ (w.flat (sym kind ∙ flat)).listed few v small
          ]
        ]

    stream : (offsets_after some (length counts) ≡ true → (k : ℕ) → k < length keys → u32_at out (fields_after some (length counts) + 4 * length counts + 4 * k) ≡ start_from first counts runs k) → length out ≡ start_from first counts runs (length keys) → IsStream out
    stream offsets long = record {
      cookie = elim (cases_Bool some) [ inl on ↦ inr (headed.front.cookie_with on) | inr off ↦ inl (headed.front.cookie_without off) ];
      few = (let c = count_is in let f = heads.few in omega (arith, c, f, upto));
      ascending = λ k below.
          let c = count_is in
          let here = key_is k (omega (arith, below, c)) in
          let next = key_is (k + 1) (omega (arith, below, c)) in
          let a = heads.ascending k (omega (arith, below, c)) in
          omega (arith, here, next, a);
      offsets = λ on k below.
          let c = count_is in
          ap (λ a. u32_at out (a + 4 * k)) at_offsets ∙ (offsets (sym offsets_is ∙ on) k (omega (arith, below, c)) ∙ sym (at_is k (omega (arith, below, c))));
      containers = λ k below. container k (let c = count_is in omega (arith, below, c));
      whole = ap (λ n. container_at out n) count_is ∙ (at_is (length keys) (omega arith) ∙ sym long);
    }

    pub stream_written : AreBytes out → length words ≤ 1024 * bound → (offsets_after some (length counts) ≡ true → (k : ℕ) → k < length keys → u32_at out (fields_after some (length counts) + 4 * length counts + 4 * k) ≡ start_from first counts runs k) → length out ≡ start_from first counts runs (length keys) → (kinds : ℕ → Bool) → HaveKeys kinds keys counts runs → IsStreamOf (stands_in words) kinds out
    stream_written are short offsets long kinds kinds_are = record {
      are = are;
      stream = stream offsets long;
      members = holds_from words out keys counts bound heads count_is key_is listed short;
      kinds = λ k below.
          let c = count_is in
          let b : k < length keys = omega (arith, below, c) in
          flagged k b ∙ (kinds_are.kind k b ∙ ap kinds (sym (key_is k b)));
      cookie = λ run.
          let h = says.any (sym cookie_is ∙ run) in
          let k : ℕ = h.0 in
          let c = count_is in
          let same = heads.same in
          let b : k < length keys = (let l = h.1 in omega (arith, l, same)) in
          (k, omega (arith, b, c), flagged k b ∙ h.2);
      padding = λ k beyond within. (let c = count_is in let n = counted in past k (omega (arith, beyond, c)) (omega (arith, within, n)));
    }

-- the stream of the same members, said otherwise
pub optimized_same : (p q : ℕ → Bool) (bytes : List ℕ) → ((i : ℕ) → q i ≡ p i) → IsRunOptimizedStream p bytes → IsRunOptimizedStream q bytes
optimized_same p q bytes same s = record {
  are = s.are;
  stream = s.stream;
  members = λ i. s.members i ∙ sym (same i);
  kinds = λ k below. s.kinds k below ∙ ap (λ n. are_runs_shorter n (cardinality_of bytes k)) (runs_same_count (members_under p (key_of bytes k)) (members_under q (key_of bytes k)) (λ v small. sym (same (65536 * key_of bytes k + v))));
  cookie = s.cookie;
  padding = s.padding;
}

pub canonical_run_same : (p q : ℕ → Bool) (bytes : List ℕ) → ((i : ℕ) → q i ≡ p i) → IsCanonicalRunStream p bytes → IsCanonicalRunStream q bytes
canonical_run_same p q bytes same s = record {
  optimized = optimized_same p q bytes same s.optimized;
  only = λ other is. s.only other (optimized_same q p other (λ i. sym (same i)) is);
}
