-- A stream is fixed by its members and by which containers are runs.
use Rattle.std.proofs.Common.{◌≡◌, ℕ, zero, suc, ◌+◌, ◌*◌, ◌/◌, ◌%◌, ◌<◌, ◌≤◌, ◌==◌, ◌&&◌, Bool, true, false, List, get_or, length, refl, sym, ap, ◌∙◌, arith, inl, inr}
use Rattle.std.specs.Int.{bit_at}
use Rattle.std.proofs.lemmas.Grind.{same_number_lists}
use Rattle.std.proofs.lemmas.Bool.{cases_lt, cases_Bool, cond-true, cond-false, both_ways, and_parts, and_from, eqb-true, false_from_ne_true}
use Rattle.hibitset_base.specs.Decisions.{eq_same}
use Rattle.hibitset_base.proofs.MemberLemmas.{members-same}
use Rattle.hibitset_roaring.specs.Numbers.{u16_at, u32_at, any_below}
use Rattle.hibitset_roaring.specs.Format.{has_runs, container_count, keys_at, has_offsets, offsets_at, first_at, key_of, cardinality_of, is_run, run_count, in_runs, in_array, in_bits, container_at, size, in_container, holds, AreBytes, IsStream}
use Rattle.hibitset_roaring.specs.Streams.{SameBefore, flat_bytes}
use Rattle.hibitset_roaring.specs.Runs.{members_under, count_of_runs}
use Rattle.hibitset_roaring.specs.Kinds.{cardinality_under, bytes_under, IsStreamOf}
use Rattle.hibitset_roaring.proofs.TestLemmas.{any_true, any_some}
use Rattle.hibitset_roaring.proofs.SequenceLemmas.{Ascends, one_index}
use Rattle.hibitset_roaring.proofs.HeaderLemmas.{runs_from, count_with, count_without, keys_with, keys_without}
use Rattle.hibitset_roaring.proofs.LayoutLemmas.{at_first, at_next}
use Rattle.hibitset_roaring.proofs.ContainerLemmas.{in_runs_is, in_array_is, in_bits_is, at_runs, at_array, at_bits}
use Rattle.hibitset_roaring.proofs.FrameLemmas.{before_less}
use Rattle.hibitset_roaring.proofs.CardinalityLemmas.{cardinality_counted, member_under}
use Rattle.hibitset_roaring.proofs.KeyLemmas.{AreKeys, as_many_keys, same_keys}
use Rattle.hibitset_roaring.proofs.SameContainerLemmas.{next_u16, next_u32, next_offsets, next_bytes, same_tests, runs_counted, RunsAt, ArrayAt, same_runs, same_arrays, same_bits}

-- ---- one stream of some members

module _ (has : ℕ → Bool) (bytes : List ℕ) (are : AreBytes bytes) (stream : IsStream bytes) (members_are : (i : ℕ) → holds bytes i ≡ has i) where
  keys_ascend : Ascends (key_of bytes) (container_count bytes)
  keys_ascend = record { step = stream.ascending }

  -- A number under the key of a container is a member if the container has it.
  holds_under : (k v : ℕ) → k < container_count bytes → v < 65536 → holds bytes (65536 * key_of bytes k + v) ≡ in_container bytes k v
  unfolding holds
  holds_under k v below small =
      let i : ℕ = 65536 * key_of bytes k + v in
      let high : i / 65536 ≡ key_of bytes k = omega (arith, small) in
      let low : i % 65536 ≡ v = omega (arith, small) in
      let test : ℕ → Bool = λ m. (key_of bytes m == key_of bytes k) && in_container bytes m v in
      rw (high, low) (elim (cases_Bool (in_container bytes k v)) [
        | inl on ↦ any_true (container_count bytes) test k below (and_from (key_of bytes k == key_of bytes k) (in_container bytes k v) (eq_same (key_of bytes k) (key_of bytes k) refl) on) ∙ sym on
        | inr off ↦ false_from_ne_true (any_below (container_count bytes) test) (λ yes.
            let h = any_some (container_count bytes) test yes in
            let both = and_parts (key_of bytes h.0 == key_of bytes k) (in_container bytes h.0 v) h.2 in
            let same : h.0 ≡ k = one_index (key_of bytes) (container_count bytes) keys_ascend h.0 k h.1 below (eqb-true (key_of bytes h.0) (key_of bytes k) both.0) in
            both_ways (in_container bytes k v) off (rw (← same) both.1)) ∙ sym off
      ])

  pub listed : (k v : ℕ) → k < container_count bytes → v < 65536 → in_container bytes k v ≡ members_under has (key_of bytes k) v
  listed k v below small = sym (holds_under k v below small) ∙ members_are (65536 * key_of bytes k + v)

  pub cardinality_is : (k : ℕ) → k < container_count bytes → cardinality_of bytes k ≡ cardinality_under has (key_of bytes k)
  unfolding cardinality_under
  cardinality_is k below = cardinality_counted bytes are k (stream.containers k below)
      ∙ ap length (members-same (in_container bytes k) (members_under has (key_of bytes k)) 0 65536 (λ v from less. listed k v below (omega (arith, less))))

  some_members : (k : ℕ) → 0 < cardinality_of bytes k
  unfolding cardinality_of
  some_members k = omega arith

  pub stream_keys : AreKeys has (key_of bytes) (container_count bytes)
  unfolding holds
  stream_keys = record {
    up = keys_ascend;
    some = λ k below. (let c = cardinality_is k below in let s = some_members k in member_under has (key_of bytes k) (omega (arith, c, s)));
    all = λ i on.
        let h = any_some (container_count bytes) (λ m. (key_of bytes m == i / 65536) && in_container bytes m (i % 65536)) (members_are i ∙ on) in
        let both = and_parts (key_of bytes h.0 == i / 65536) (in_container bytes h.0 (i % 65536)) h.2 in
        (h.0, h.1, eqb-true (key_of bytes h.0) (i / 65536) both.0);
  }

-- ---- and of some kinds

module _ (has runs : ℕ → Bool) (bytes : List ℕ) (s : IsStreamOf has runs bytes) where
  abbrev test : ℕ → ℕ → Bool
  test k = members_under has (key_of bytes k)

  pub cardinality_of_it : (k : ℕ) → k < container_count bytes → cardinality_of bytes k ≡ cardinality_under has (key_of bytes k)
  cardinality_of_it = cardinality_is has bytes s.are s.stream s.members

  pub keys_of_it : AreKeys has (key_of bytes) (container_count bytes)
  keys_of_it = stream_keys has bytes s.are s.stream s.members

  module _ (k : ℕ) (below : k < container_count bytes) where
    listed_in_it : (v : ℕ) → v < 65536 → in_container bytes k v ≡ test k v
    listed_in_it v small = listed has bytes s.are s.stream s.members k v below small

    runs_at : is_run bytes k ≡ true → RunsAt bytes (container_at bytes k) (count_of_runs (test k)) (test k)
    unfolding in_runs
    runs_at run =
        let at : ℕ = container_at bytes k in
        let r = (s.stream.containers k below).runs run in
        let all : RunsAt bytes at (run_count bytes at) (test k) = record { count = refl; within = r.within; apart = r.apart; listed = λ v small. in_runs_is bytes k run v ∙ listed_in_it v small } in
        rw (runs_counted bytes at (run_count bytes at) (test k) all) at all

    array_at : is_run bytes k ≡ false → cardinality_of bytes k ≤ 4096 → ArrayAt bytes (container_at bytes k) (cardinality_of bytes k) (test k)
    unfolding in_array
    array_at flat few = record {
      up = record { step = ((s.stream.containers k below).array flat few).ascending };
      listed = λ v small. in_array_is bytes k flat few v ∙ listed_in_it v small;
    }

    bits_at : is_run bytes k ≡ false → 4096 < cardinality_of bytes k → (v : ℕ) → v < 65536 → in_bits bytes (container_at bytes k) v ≡ test k v
    bits_at flat large v small = in_bits_is bytes k flat large v ∙ listed_in_it v small

    pub size_is : size bytes k (container_at bytes k) ≡ bytes_under has runs (key_of bytes k)
    unfolding size bytes_under
    size_is = elim (cases_Bool (is_run bytes k)) [
      | inl run ↦ cond-true (is_run bytes k) _ _ run ∙ (ap (λ n. 2 + 4 * n) (runs_at run).count ∙ sym (cond-true (runs (key_of bytes k)) _ _ (sym (s.kinds k below) ∙ run)))
      | inr flat ↦ cond-false (is_run bytes k) _ _ flat ∙ (ap (λ n. flat_bytes n) (cardinality_of_it k below) ∙ sym (cond-false (runs (key_of bytes k)) _ _ (sym (s.kinds k below) ∙ flat)))
    ]

  pub next_container : (k : ℕ) → k < container_count bytes → container_at bytes (k + 1) ≡ container_at bytes k + bytes_under has runs (key_of bytes k)
  next_container k below = at_next bytes k ∙ ap (λ n. container_at bytes k + n) (size_is k below)

-- ---- two of them

-- Bytes with a container that is runs say so.
runs_of : (bytes : List ℕ) (k : ℕ) → is_run bytes k ≡ true → has_runs bytes ≡ true
unfolding is_run
runs_of bytes k run = (and_parts (has_runs bytes) (bit_at (get_or bytes (4 + k / 8) 0) (k % 8) == 1) run).0

module _ (has runs : ℕ → Bool) (a b : List ℕ) (first : IsStreamOf has runs a) (second : IsStreamOf has runs b) where
  count_same : container_count a ≡ container_count b
  count_same = as_many_keys has (key_of a) (key_of b) (container_count a) (container_count b) (keys_of_it has runs a first) (keys_of_it has runs b second)

  key_same : (k : ℕ) → k < container_count a → key_of a k ≡ key_of b k
  key_same = same_keys has (key_of a) (key_of b) (container_count a) (container_count b) (keys_of_it has runs a first) (keys_of_it has runs b second)

  counted : (k : ℕ) → k < container_count a → k < container_count b
  counted k below = let c = count_same in omega (arith, below, c)

  cardinality_same : (k : ℕ) → k < container_count a → cardinality_of a k ≡ cardinality_of b k
  cardinality_same k below = cardinality_of_it has runs a first k below ∙ (ap (cardinality_under has) (key_same k below) ∙ sym (cardinality_of_it has runs b second k (counted k below)))

  kind_same : (k : ℕ) → k < container_count a → is_run a k ≡ is_run b k
  kind_same k below = first.kinds k below ∙ (ap runs (key_same k below) ∙ sym (second.kinds k (counted k below)))

  -- If some container of one is runs, so is that of the other.
  cookie_same : has_runs a ≡ has_runs b
  cookie_same = elim (cases_Bool (has_runs a)) [
    | inl on ↦ (let h = first.cookie on in on ∙ sym (runs_of b h.0 (sym (kind_same h.0 h.1) ∙ h.2)))
    | inr off ↦ off ∙ sym (false_from_ne_true (has_runs b) (λ on.
        let h = second.cookie on in
        let below : h.0 < container_count a = (let c = count_same in let l = h.1 in omega (arith, l, c)) in
        both_ways (has_runs a) off (runs_of a h.0 (kind_same h.0 below ∙ h.2))))
  ]

  -- ---- the parts lie alike

  keys_at_same : keys_at a ≡ keys_at b
  unfolding keys_at
  keys_at_same = rw (cookie_same, count_same) refl

  has_offsets_same : has_offsets a ≡ has_offsets b
  unfolding has_offsets
  has_offsets_same = rw (cookie_same, count_same) refl

  offsets_at_same : offsets_at a ≡ offsets_at b
  unfolding offsets_at
  offsets_at_same = rw (keys_at_same, count_same) refl

  first_at_same : first_at a ≡ first_at b
  unfolding first_at
  first_at_same = rw (has_offsets_same, offsets_at_same, count_same) refl

  at_same : (k : ℕ) → k ≤ container_count a → container_at a k ≡ container_at b k
  at_same zero order = at_first a ∙ (first_at_same ∙ sym (at_first b))
  at_same (suc k) order =
      let e : k + 1 ≡ suc k = omega arith in
      let below : k < container_count a = omega (arith, order) in
      let h = at_same k (omega (arith, order)) in
      let x = next_container has runs a first k below in
      let y = next_container has runs b second k (counted k below) in
      let z = ap (bytes_under has runs) (key_same k below) in
      let next : container_at a (k + 1) ≡ container_at b (k + 1) = omega (arith, h, x, y, z) in
      rw e at next

  -- ---- the header

  none_yet : SameBefore 0 a b
  none_yet = record { byte = λ p below. absurd (omega (arith, below)) }

  flag : (bytes : List ℕ) → has_runs bytes ≡ true → (j i : ℕ) → i < 8 → (bit_at (get_or bytes (4 + j) 0) i == 1) ≡ is_run bytes (8 * j + i)
  unfolding is_run
  flag bytes on j i small =
      let q : (8 * j + i) / 8 ≡ j = omega (arith, small) in
      let r : (8 * j + i) % 8 ≡ i = omega (arith, small) in
      rw (on, q, r) refl

  flag_same : (k : ℕ) → k / 8 < (container_count a + 7) / 8 → is_run b k ≡ is_run a k
  flag_same k within = elim (cases_lt k (container_count a)) [
    | inl below ↦ sym (kind_same k below)
    | inr past ↦ (let c = count_same in second.padding k (omega (arith, past, c)) (omega (arith, within, c)) ∙ sym (first.padding k past within))
  ]

  flags_same : has_runs a ≡ true → SameBefore 4 a b → SameBefore (4 + (container_count a + 7) / 8) a b
  flags_same on same = next_bytes a b 4 ((container_count a + 7) / 8) same (λ j below.
      same_tests 8 (get_or b (4 + j) 0) (get_or a (4 + j) 0) (second.are.small (4 + j)) (first.are.small (4 + j)) (λ i small.
      flag b (sym cookie_same ∙ on) j i small ∙ (flag_same (8 * j + i) (omega (arith, below, small)) ∙ sym (flag a on j i small))))

  front_with : has_runs a ≡ true → SameBefore (keys_at a) a b
  unfolding has_runs
  front_with on =
      let on' : has_runs b ≡ true = sym cookie_same ∙ on in
      let x = eqb-true (u16_at a 0) 12347 on in
      let y = eqb-true (u16_at b 0) 12347 on' in
      let n = count_with a on in
      let m = count_with b on' in
      let c = count_same in
      let k = keys_with a on in
      let cookie = next_u16 a b first.are second.are 0 none_yet (y ∙ sym x) in
      let four = next_u16 a b first.are second.are 2 (before_less (0 + 2) 2 a b (omega arith) cookie) (omega (arith, n, m, c)) in
      rw k (flags_same on (before_less (2 + 2) 4 a b (omega arith) four))

  cookie_without : (bytes : List ℕ) → IsStream bytes → has_runs bytes ≡ false → u32_at bytes 0 ≡ 12346
  cookie_without bytes stream off = elim stream.cookie [ inl e ↦ e | inr e ↦ absurd (both_ways (has_runs bytes) off (runs_from bytes e)) ]

  front_without : has_runs a ≡ false → SameBefore (keys_at a) a b
  front_without off =
      let off' : has_runs b ≡ false = sym cookie_same ∙ off in
      let cookie = next_u32 a b first.are second.are 0 none_yet (cookie_without b second.stream off' ∙ sym (cookie_without a first.stream off)) in
      let number : u32_at b 4 ≡ u32_at a 4 = sym (count_without b off') ∙ (sym count_same ∙ count_without a off) in
      let eight = next_u32 a b first.are second.are 4 (before_less (0 + 4) 4 a b (omega arith) cookie) number in
      let k = keys_without a off in
      before_less (4 + 4) (keys_at a) a b (omega (arith, k)) eight

  fields_same : (k : ℕ) → k ≤ container_count a → SameBefore (keys_at a + 4 * k) a b
  unfolding key_of cardinality_of
  fields_same zero order = before_less (keys_at a) (keys_at a + 4 * 0) a b (omega arith) (elim (cases_Bool (has_runs a)) [ inl on ↦ front_with on | inr off ↦ front_without off ])
  fields_same (suc k) order =
      let below : k < container_count a = omega (arith, order) in
      let at : ℕ = keys_at a + 4 * k in
      let h = fields_same k (omega (arith, order)) in
      let key : u16_at b at ≡ u16_at a at = ap (λ p. u16_at b (p + 4 * k)) keys_at_same ∙ sym (key_same k below) in
      let moved : u16_at b (at + 2) ≡ u16_at b (keys_at b + 4 * k + 2) = ap (λ p. u16_at b (p + 4 * k + 2)) keys_at_same in
      let c : u16_at a (at + 2) + 1 ≡ u16_at b (keys_at b + 4 * k + 2) + 1 = cardinality_same k below in
      before_less (at + 2 + 2) (keys_at a + 4 * suc k) a b (omega arith) (next_u16 a b first.are second.are (at + 2) (next_u16 a b first.are second.are at h key) (omega (arith, moved, c)))

  header_same : SameBefore (first_at a) a b
  unfolding first_at offsets_at
  header_same =
      let fields = fields_same (container_count a) (omega arith) in
      elim (cases_Bool (has_offsets a)) [
        | inl on ↦ (let e = cond-true (has_offsets a) (offsets_at a + 4 * container_count a) (offsets_at a) on in
            rw e (next_offsets a b first.are second.are (offsets_at a) (container_count a) fields (λ k below.
            ap (λ p. u32_at b (p + 4 * k)) offsets_at_same ∙ (second.stream.offsets (sym has_offsets_same ∙ on) k (counted k below) ∙ (sym (at_same k (omega (arith, below))) ∙ sym (first.stream.offsets on k below))))))
        | inr off ↦ (let e = cond-false (has_offsets a) (offsets_at a + 4 * container_count a) (offsets_at a) off in rw e fields)
      ]

  -- ---- the containers

  module _ (k : ℕ) (below : k < container_count a) (same : SameBefore (container_at a k) a b) where
    run_same : is_run a k ≡ true → SameBefore (container_at a (k + 1)) a b
    run_same run =
        let test : ℕ → Bool = members_under has (key_of a k) in
        let x = runs_at has runs a first k below run in
        let y : RunsAt b (container_at a k) (count_of_runs test) test = rw (at_same k (omega (arith, below)), key_same k below) (runs_at has runs b second k (counted k below) (sym (kind_same k below) ∙ run)) in
        let e = at_runs a k run in
        let n = x.count in
        before_less (container_at a k + 2 + 4 * count_of_runs test) (container_at a (k + 1)) a b (omega (arith, e, n)) (same_runs (container_at a k) (count_of_runs test) test a b first.are second.are x y same)

    array_same : is_run a k ≡ false → cardinality_of a k ≤ 4096 → SameBefore (container_at a (k + 1)) a b
    array_same flat few =
        let n : ℕ = cardinality_of a k in
        let test : ℕ → Bool = members_under has (key_of a k) in
        let c = cardinality_same k below in
        let y : ArrayAt b (container_at a k) n test = rw (at_same k (omega (arith, below)), key_same k below, c) (array_at has runs b second k (counted k below) (sym (kind_same k below) ∙ flat) (omega (arith, few, c))) in
        let e = at_array a k flat few in
        before_less (container_at a k + 2 * n) (container_at a (k + 1)) a b (omega (arith, e)) (same_arrays (container_at a k) n test a b first.are second.are (array_at has runs a first k below flat few) y same)

    word_same : is_run a k ≡ false → 4096 < cardinality_of a k → SameBefore (container_at a (k + 1)) a b
    word_same flat large =
        let c = cardinality_same k below in
        let e = at_bits a k flat large in
        before_less (container_at a k + 8192) (container_at a (k + 1)) a b (omega (arith, e)) (same_bits a b first.are second.are (container_at a k) (λ v small.
        ap (λ p. in_bits b p v) (at_same k (omega (arith, below))) ∙ (bits_at has runs b second k (counted k below) (sym (kind_same k below) ∙ flat) (omega (arith, large, c)) v small
        ∙ (ap (λ x. members_under has x v) (sym (key_same k below)) ∙ sym (bits_at has runs a first k below flat large v small)))) same)

  containers_same : (k : ℕ) → k ≤ container_count a → SameBefore (container_at a k) a b
  containers_same zero order = rw (at_first a) header_same
  containers_same (suc k) order =
      let e : k + 1 ≡ suc k = omega arith in
      let below : k < container_count a = omega (arith, order) in
      let h = containers_same k (omega (arith, order)) in
      let next : SameBefore (container_at a (k + 1)) a b = elim (cases_Bool (is_run a k)) [
        | inl run ↦ run_same k below h run
        | inr flat ↦ elim (cases_lt 4096 (cardinality_of a k)) [
          | inl large ↦ word_same k below h flat large
          | inr few ↦ array_same k below h flat few
        ]
      ] in
      rw e at next

  pub same_bytes : b ≡ a
  same_bytes =
      let n : ℕ = container_count a in
      let long : length b ≡ length a = sym second.stream.whole ∙ (ap (container_at b) (sym count_same) ∙ (sym (at_same n (omega arith)) ∙ first.stream.whole)) in
      let all : SameBefore (length a) a b = rw (← first.stream.whole) (containers_same n (omega arith)) in
      same_number_lists b a long (λ p below. all.byte p (omega (arith, below, long)))
