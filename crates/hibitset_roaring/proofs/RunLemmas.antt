-- Where runs begin, and how many there are.
use Rattle.std.proofs.Common.{◌≡◌, ℕ, zero, suc, ◌+◌, ◌-◌, ◌*◌, ◌/◌, ◌<◌, ◌≤◌, ◌&&◌, ◌||◌, Bool, true, false, not, length, sym, ap, ◌∙◌, arith, inl, inr}
use Rattle.std.specs.Prelude.{nat_le, nat_lt}
use Rattle.std.proofs.lemmas.Bool.{cases_lt, both_ways, and_parts, and_from, and_left, and_right, not_from_true, not_from_false, not-true, cond-true, cond-false, lt-ltb, le-ltb, le-leb, lt-leb, ltb-true, ltb-false}
use Rattle.hibitset_base.specs.Members.{members}
use Rattle.hibitset_base.proofs.MemberLemmas.{members-same}
use Rattle.hibitset_roaring.specs.Runs.{begins_run, count_of_runs, are_runs_shorter}
use Rattle.hibitset_roaring.proofs.CountLemmas.{counted_none, counted_one, counted_past, counted_mono}

-- ---- runs and other containers

same_less : (a b x y : ℕ) → (a < b → x < y) → (b ≤ a → y ≤ x) → nat_lt a b ≡ nat_lt x y
same_less a b x y less more = elim (cases_lt a b) [
  | inl l ↦ lt-ltb a b l ∙ sym (lt-ltb x y (less l))
  | inr m ↦ le-ltb a b m ∙ sym (le-ltb x y (more m))
]

module _ (runs count : ℕ) where
  shorter_small : count ≤ 4096 → are_runs_shorter runs count ≡ nat_lt (2 + 4 * runs) (2 + 2 * count)
  unfolding are_runs_shorter
  shorter_small small = cond-true (nat_le count 4096) _ _ (le-leb count 4096 small)

  shorter_large : 4096 < count → are_runs_shorter runs count ≡ nat_lt (2 + 4 * runs) 8192
  unfolding are_runs_shorter
  shorter_large large = cond-false (nat_le count 4096) _ _ (lt-leb count 4096 large)

  pub shorter_array : count ≤ 4096 → nat_lt runs ((count + 1) / 2) ≡ are_runs_shorter runs count
  shorter_array small = same_less runs ((count + 1) / 2) (2 + 4 * runs) (2 + 2 * count) (λ less. omega (arith, less)) (λ more. omega (arith, more)) ∙ sym (shorter_small small)

  pub shorter_bits : 4096 < count → nat_lt runs 2048 ≡ are_runs_shorter runs count
  shorter_bits large = same_less runs 2048 (2 + 4 * runs) 8192 (λ less. omega (arith, less)) (λ more. omega (arith, more)) ∙ sym (shorter_large large)

  pub shorter_few : are_runs_shorter runs count ≡ true → runs < 2048
  shorter_few on = elim (cases_lt 4096 count) [
    | inl large ↦ ltb-true runs 2048 (shorter_bits large ∙ on)
    | inr small ↦ (let less = ltb-true runs ((count + 1) / 2) (shorter_array small ∙ on) in omega (arith, less, small))
  ]

-- nor are more runs
pub not_shorter : (runs more count : ℕ) → runs ≤ more → are_runs_shorter runs count ≡ false → are_runs_shorter more count ≡ false
not_shorter runs more count order off = elim (cases_lt 4096 count) [
  | inl large ↦ (let least = ltb-false runs 2048 (shorter_bits runs count large ∙ off) in sym (shorter_bits more count large) ∙ le-ltb more 2048 (omega (arith, least, order)))
  | inr small ↦ (let least = ltb-false runs ((count + 1) / 2) (shorter_array runs count small ∙ off) in sym (shorter_array more count small) ∙ le-ltb more ((count + 1) / 2) (omega (arith, least, order)))
]

-- a container past the last is no runs
pub none_shorter : are_runs_shorter 0 0 ≡ false
none_shorter = shorter_small 0 0 (omega arith) ∙ le-ltb 2 2 (omega arith)

-- ---- where runs begin

-- A run goes from a number to the one before another, and the next run begins after it.
pub record IsRunStep (test : ℕ → Bool) (start end next : ℕ) : Type 0 where
  pub some : start < end
  pub order : end ≤ next
  pub all : (v : ℕ) → start ≤ v → v < end → test v ≡ true
  pub none : (v : ℕ) → end ≤ v → v < next → test v ≡ false
  pub apart : next < 65536 → end < next
  pub begins : next < 65536 → begins_run test next ≡ true

module _ (test : ℕ → Bool) where
  pub run_begins : (v : ℕ) → test v ≡ true → ((u : ℕ) → u + 1 ≡ v → test u ≡ false) → begins_run test v ≡ true
  unfolding begins_run
  run_begins zero on before = on
  run_begins (suc u) on before = and_from (test (suc u)) (not (test u)) on (not_from_false (test u) (before u (omega arith)))

  pub begun_on : (v : ℕ) → begins_run test v ≡ true → test v ≡ true
  unfolding begins_run
  begun_on zero on = on
  begun_on (suc u) on = (and_parts (test (suc u)) (not (test u)) on).0

  pub begun_after : (u v : ℕ) → u + 1 ≡ v → begins_run test v ≡ true → test u ≡ false
  unfolding begins_run
  begun_after u zero is on = absurd (omega (arith, is))
  begun_after u (suc w) is on = let e : u ≡ w = omega (arith, is) in ap test e ∙ not-true (test w) (and_parts (test (suc w)) (not (test w)) on).1

  goes_on : (u v : ℕ) → u + 1 ≡ v → test u ≡ true → begins_run test v ≡ false
  unfolding begins_run
  goes_on u zero is on = absurd (omega (arith, is))
  goes_on u (suc w) is on = let e : w ≡ u = omega (arith, is) in and_right (test (suc w)) (not (test w)) (not_from_true (test w) (ap test e ∙ on))

  begins_none : (v : ℕ) → test v ≡ false → begins_run test v ≡ false
  unfolding begins_run
  begins_none zero off = off
  begins_none (suc u) off = and_left (test (suc u)) (not (test u)) off

  -- up to the first run
  pub first_begins : (first : ℕ) → ((v : ℕ) → v < first → test v ≡ false) → test first ≡ true → begins_run test first ≡ true
  first_begins first none on = run_begins first on (λ u is. none u (omega (arith, is)))

  pub first_counted : (first : ℕ) → ((v : ℕ) → v < first → test v ≡ false) → length (members (begins_run test) 0 first) ≡ 0
  first_counted first none = counted_past (begins_run test) 0 first (omega arith) (λ v from below. begins_none v (none v below)) ∙ counted_none (begins_run test)

  module _ (start end next : ℕ) where
    pub run_step : start < 65536 → begins_run test start ≡ true → start ≤ end → end ≤ next → ((v : ℕ) → start ≤ v → v < end → test v ≡ true) → (end < 65536 → test end ≡ false) → ((v : ℕ) → end ≤ v → v < next → test v ≡ false) → (next < 65536 → test next ≡ true) → IsRunStep test start end next
    run_step small begun upto order all off none on =
        let apart : next < 65536 → end < next = λ below. elim (cases_lt end next) [
          | inl less ↦ less
          | inr more ↦ absurd (let e : end ≡ next = omega (arith, order, more) in both_ways (test end) (off (omega (arith, e, below))) (ap test e ∙ on below))
        ] in
        record {
          some = elim (cases_lt start end) [
            | inl less ↦ less
            | inr more ↦ absurd (let e : start ≡ end = omega (arith, upto, more) in both_ways (test start) (ap test e ∙ off (omega (arith, e, small))) (begun_on start begun))
          ];
          order = order;
          all = all;
          none = none;
          apart = apart;
          begins = λ below. (let less = apart below in run_begins next (on below) (λ u is. none u (omega (arith, is, less)) (omega (arith, is))));
        }

    module _ (step : IsRunStep test start end next) (begun : begins_run test start ≡ true) where
      pub step_counted : length (members (begins_run test) 0 next) ≡ length (members (begins_run test) 0 start) + 1
      step_counted =
          let one = counted_one (begins_run test) start begun in
          let some = step.some in
          let order = step.order in
          let rest = counted_past (begins_run test) (start + 1) next (omega (arith, some, order)) (λ v from below. elim (cases_lt v end) [
            | inl within ↦ goes_on (v - 1) v (omega (arith, from)) (step.all (v - 1) (omega (arith, from)) (omega (arith, within)))
            | inr past ↦ begins_none v (step.none v past below)
          ]) in
          rest ∙ one

  -- there are more runs than begin before one that begins
  pub fewer_before : (start : ℕ) → start < 65536 → begins_run test start ≡ true → length (members (begins_run test) 0 start) < count_of_runs test
  unfolding count_of_runs
  fewer_before start small begun =
      let one = counted_one (begins_run test) start begun in
      let mono = counted_mono (begins_run test) (start + 1) 65536 (omega (arith, small)) in
      omega (arith, one, mono)

  pub upto_count : (start : ℕ) → start ≤ 65536 → length (members (begins_run test) 0 start) ≤ count_of_runs test
  unfolding count_of_runs
  upto_count start upto = counted_mono (begins_run test) start 65536 upto

  pub all_counted : (start runs : ℕ) → start ≤ 65536 → 65536 ≤ start → runs ≡ length (members (begins_run test) 0 start) → runs ≡ count_of_runs test
  unfolding count_of_runs
  all_counted start runs upto past is = is ∙ ap (λ n. length (members (begins_run test) 0 n)) (let e : start ≡ 65536 = omega (arith, upto, past) in e)

  -- the numbers of one run more
  pub step_listed : (start end next first last v : ℕ) → IsRunStep test start end next → first ≡ start → last + 1 ≡ end → ((nat_le first v && nat_le v last) || (nat_lt v start && test v)) ≡ (nat_lt v next && test v)
  step_listed start end next first last v step first_is last_is =
      let some = step.some in
      let order = step.order in
      elim (cases_lt v start) [
        | inl below ↦
            let a : nat_le first v ≡ false = lt-leb first v (omega (arith, below, first_is)) in
            let b : nat_lt v start ≡ true = lt-ltb v start below in
            let d : nat_lt v next ≡ true = lt-ltb v next (omega (arith, below, some, order)) in
            ap (λ x. (x && nat_le v last) || (nat_lt v start && test v)) a ∙ (ap (λ x. x && test v) b ∙ sym (ap (λ x. x && test v) d))
        | inr from ↦
            let a : nat_le first v ≡ true = le-leb first v (omega (arith, from, first_is)) in
            let b : nat_lt v start ≡ false = le-ltb v start from in
            elim (cases_lt v end) [
              | inl within ↦
                  let l : nat_le v last ≡ true = le-leb v last (omega (arith, within, last_is)) in
                  let d : nat_lt v next ≡ true = lt-ltb v next (omega (arith, within, order)) in
                  ap (λ x. (x && nat_le v last) || (nat_lt v start && test v)) a ∙ (ap (λ x. x || (nat_lt v start && test v)) l ∙ sym (ap (λ x. x && test v) d ∙ step.all v from within))
              | inr past ↦
                  let l : nat_le v last ≡ false = lt-leb v last (omega (arith, past, last_is)) in
                  ap (λ x. (x && nat_le v last) || (nat_lt v start && test v)) a ∙ (ap (λ x. x || (nat_lt v start && test v)) l ∙ (ap (λ x. x && test v) b ∙ sym (elim (cases_lt v next) [
                    | inl below ↦ and_right (nat_lt v next) (test v) (step.none v past below)
                    | inr above ↦ and_left (nat_lt v next) (test v) (le-ltb v next above)
                  ])))
            ]
      ]

-- ---- two tests that numbers below 65536 pass alike

module _ (p q : ℕ → Bool) (same : (v : ℕ) → v < 65536 → p v ≡ q v) where
  begins_same : (v : ℕ) → v < 65536 → begins_run p v ≡ begins_run q v
  unfolding begins_run
  begins_same zero small = same 0 small
  begins_same (suc v) small = ap (λ t. t && not (p v)) (same (suc v) small) ∙ ap (λ t. q (suc v) && not t) (same v (omega (arith, small)))

  pub runs_same_count : count_of_runs p ≡ count_of_runs q
  unfolding count_of_runs
  runs_same_count = ap length (members-same (begins_run p) (begins_run q) 0 65536 (λ v from below. begins_same v (omega (arith, below))))
