-- Containers of one kind at one position, with the same numbers, have the same bytes.
use Rattle.std.proofs.Common.{◌≡◌, ℕ, zero, suc, ◌+◌, ◌-◌, ◌*◌, ◌/◌, ◌%◌, ◌^◌, ◌<◌, ◌≤◌, ◌==◌, Bool, true, false, List, get_or, length, refl, sym, ap, ◌∙◌, arith, inl, inr}
use Rattle.std.specs.Prelude.{nat_le}
use Rattle.std.specs.Int.{bit_at}
use Rattle.std.proofs.lemmas.Nat.Bits.{bit_at-lt, same_from_bits_below}
use Rattle.std.proofs.lemmas.Bool.{cases_lt, cases_Bool, both_ways, and_parts, and_from, le-leb, leb-true, eqb-true, false_from_ne_true}
use Rattle.hibitset_base.specs.Decisions.{eq_same}
use Rattle.hibitset_base.proofs.MemberLemmas.{members-same}
use Rattle.hibitset_roaring.specs.Numbers.{u16_at, u32_at, u64_at, any_below}
use Rattle.hibitset_roaring.specs.Format.{run_count, run_first, run_last, in_run, in_bits, AreBytes}
use Rattle.hibitset_roaring.specs.Streams.{SameBefore}
use Rattle.hibitset_roaring.specs.Runs.{begins_run, count_of_runs}
use Rattle.hibitset_roaring.proofs.TestLemmas.{any_true, any_some}
use Rattle.hibitset_roaring.proofs.SequenceLemmas.{Ascends, AreAmong, ascends_upto, same_numbers, as_many}
use Rattle.hibitset_roaring.proofs.HeaderLemmas.{u32_is, u64_is}
use Rattle.hibitset_roaring.proofs.PartLemmas.{count_is, first_is, last_is}
use Rattle.hibitset_roaring.proofs.FrameLemmas.{before_less}
use Rattle.hibitset_roaring.proofs.RunLemmas.{begun_on, begun_after, run_begins}
use Rattle.hibitset_roaring.proofs.RunPartLemmas.{first_last, runs_ascend}
use Rattle.hibitset_roaring.proofs.CardinalityLemmas.{u16_small, u32_small, u64_small}

-- ---- numbers in bytes

module _ (a b : List ℕ) (ab : AreBytes a) (bb : AreBytes b) where
  pub next_u16 : (end : ℕ) → SameBefore end a b → u16_at b end ≡ u16_at a end → SameBefore (end + 2) a b
  unfolding u16_at
  next_u16 end same e =
      let a0 = ab.small end in
      let a1 = ab.small (end + 1) in
      let b0 = bb.small end in
      let b1 = bb.small (end + 1) in
      record {
        byte = λ p below. elim (cases_lt p end) [
          | inl lower ↦ same.byte p lower
          | inr upper ↦ elim (cases_lt p (end + 1)) [
            | inl first ↦ (let is : p ≡ end = omega (arith, upper, first) in rw is (omega (arith, e, a0, a1, b0, b1)))
            | inr second ↦ (let is : p ≡ end + 1 = omega (arith, below, second) in rw is (omega (arith, e, a0, a1, b0, b1)))
          ]
        ];
      }

  pub next_u32 : (end : ℕ) → SameBefore end a b → u32_at b end ≡ u32_at a end → SameBefore (end + 4) a b
  next_u32 end same e =
      let ea = u32_is a end in
      let eb = u32_is b end in
      let al = u16_small a ab end in
      let bl = u16_small b bb end in
      let low : u16_at b end ≡ u16_at a end = omega (arith, e, ea, eb, al, bl) in
      let high : u16_at b (end + 2) ≡ u16_at a (end + 2) = omega (arith, e, ea, eb, al, bl) in
      before_less (end + 2 + 2) (end + 4) a b (omega arith) (next_u16 (end + 2) (next_u16 end same low) high)

  next_u64 : (end : ℕ) → SameBefore end a b → u64_at b end ≡ u64_at a end → SameBefore (end + 8) a b
  next_u64 end same e =
      let ea = u64_is a end in
      let eb = u64_is b end in
      let al = u32_small a ab end in
      let bl = u32_small b bb end in
      let low : u32_at b end ≡ u32_at a end = omega (arith, e, ea, eb, al, bl) in
      let high : u32_at b (end + 4) ≡ u32_at a (end + 4) = omega (arith, e, ea, eb, al, bl) in
      before_less (end + 4 + 4) (end + 8) a b (omega arith) (next_u32 (end + 4) (next_u32 end same low) high)

  -- a row of numbers of two bytes
  pub next_numbers : (at n : ℕ) → SameBefore at a b → ((j : ℕ) → j < n → u16_at b (at + 2 * j) ≡ u16_at a (at + 2 * j)) → SameBefore (at + 2 * n) a b
  next_numbers at zero same each = before_less at (at + 2 * 0) a b (omega arith) same
  next_numbers at (suc n) same each =
      before_less (at + 2 * n + 2) (at + 2 * suc n) a b (omega arith) (next_u16 (at + 2 * n) (next_numbers at n same (λ j below. each j (omega (arith, below)))) (each n (omega arith)))

  -- of four
  pub next_offsets : (at n : ℕ) → SameBefore at a b → ((k : ℕ) → k < n → u32_at b (at + 4 * k) ≡ u32_at a (at + 4 * k)) → SameBefore (at + 4 * n) a b
  next_offsets at zero same each = before_less at (at + 4 * 0) a b (omega arith) same
  next_offsets at (suc n) same each =
      before_less (at + 4 * n + 4) (at + 4 * suc n) a b (omega arith) (next_u32 (at + 4 * n) (next_offsets at n same (λ j below. each j (omega (arith, below)))) (each n (omega arith)))

  -- of eight
  pub next_words : (at n : ℕ) → SameBefore at a b → ((q : ℕ) → q < n → u64_at b (at + 8 * q) ≡ u64_at a (at + 8 * q)) → SameBefore (at + 8 * n) a b
  next_words at zero same each = before_less at (at + 8 * 0) a b (omega arith) same
  next_words at (suc n) same each =
      before_less (at + 8 * n + 8) (at + 8 * suc n) a b (omega arith) (next_u64 (at + 8 * n) (next_words at n same (λ j below. each j (omega (arith, below)))) (each n (omega arith)))

-- a row of bytes
pub next_bytes : (a b : List ℕ) (at n : ℕ) → SameBefore at a b → ((j : ℕ) → j < n → get_or b (at + j) 0 ≡ get_or a (at + j) 0) → SameBefore (at + n) a b
next_bytes a b at n same each = record {
  byte = λ p below. elim (cases_lt p at) [
    | inl lower ↦ same.byte p lower
    | inr upper ↦ (let e : at + (p - at) ≡ p = omega (arith, upper) in rw (← e) (each (p - at) (omega (arith, below, e))))
  ];
}

bit_clear : (bit : ℕ) → bit < 2 → (bit == 1) ≡ false → bit ≡ 0
bit_clear bit small off = elim (cases_lt 0 bit) [
  | inl some ↦ absurd (both_ways (bit == 1) off (eq_same bit 1 (omega (arith, some, small))))
  | inr none ↦ omega (arith, none)
]

-- numbers whose bits are tested alike are the same
pub same_tests : (n x y : ℕ) → x < 2 ^ n → y < 2 ^ n → ((i : ℕ) → i < n → (bit_at x i == 1) ≡ (bit_at y i == 1)) → x ≡ y
same_tests n x y fits_x fits_y same = same_from_bits_below n x y fits_x fits_y (λ i small. elim (cases_Bool (bit_at x i == 1)) [
  | inl on ↦ eqb-true (bit_at x i) 1 on ∙ sym (eqb-true (bit_at y i) 1 (sym (same i small) ∙ on))
  | inr off ↦ bit_clear (bit_at x i) (bit_at-lt x i) off ∙ sym (bit_clear (bit_at y i) (bit_at-lt y i) (sym (same i small) ∙ off))
])

-- ---- runs by their members

-- Runs of the numbers that pass a test.
pub record RunsAt (bytes : List ℕ) (at n : ℕ) (test : ℕ → Bool) : Type 0 where
  pub count : run_count bytes at ≡ n
  pub within : (r : ℕ) → r < n → run_last bytes at r < 65536
  pub apart : (r : ℕ) → r + 1 < n → run_last bytes at r + 1 < run_first bytes at (r + 1)
  pub listed : (v : ℕ) → v < 65536 → any_below n (λ r. in_run bytes at r v) ≡ test v

module _ (bytes : List ℕ) (at count : ℕ) (test : ℕ → Bool) (runs : RunsAt bytes at count test) where
  firsts_ascend : Ascends (run_first bytes at) count
  firsts_ascend = record { step = λ r below. (let a = runs.apart r below in let f = first_last bytes at r in omega (arith, a, f)) }

  -- a number of a run passes
  in_one : (r v : ℕ) → r < count → v < 65536 → run_first bytes at r ≤ v → v ≤ run_last bytes at r → test v ≡ true
  in_one r v below small from upto = sym (runs.listed v small) ∙ any_true count (λ r. in_run bytes at r v) r below (and_from (nat_le (run_first bytes at r) v) (nat_le v (run_last bytes at r)) (le-leb (run_first bytes at r) v from) (le-leb v (run_last bytes at r) upto))

  -- a number that passes lies in a run
  one_run : (v : ℕ) → v < 65536 → test v ≡ true → (r : ℕ) × (r < count) × (run_first bytes at r ≤ v) × (v ≤ run_last bytes at r)
  one_run v small on =
      let h = any_some count (λ r. in_run bytes at r v) (runs.listed v small ∙ on) in
      let both = and_parts (nat_le (run_first bytes at h.0) v) (nat_le v (run_last bytes at h.0)) h.2 in
      (h.0, h.1, leb-true (run_first bytes at h.0) v both.0, leb-true v (run_last bytes at h.0) both.1)

  before_first : (r v : ℕ) → r < count → v + 1 ≡ run_first bytes at r → test v ≡ false
  before_first r v below is = false_from_ne_true (test v) (λ on.
      let fl = first_last bytes at r in
      let w = runs.within r below in
      let h = one_run v (omega (arith, is, fl, w)) on in
      let from = h.2 in
      let upto = h.3 in
      elim (cases_lt h.0 r) [
        | inl lower ↦ (let a = runs_ascend bytes at count runs.apart r h.0 lower below in omega (arith, a, upto, is))
        | inr upper ↦ (let a = ascends_upto (run_first bytes at) count firsts_ascend r h.0 upper h.1 in omega (arith, a, from, is))
      ])

  after_last : (r v : ℕ) → r < count → v ≡ run_last bytes at r + 1 → v < 65536 → test v ≡ false
  after_last r v below is small = false_from_ne_true (test v) (λ on.
      let h = one_run v small on in
      let from = h.2 in
      let upto = h.3 in
      elim (cases_lt r h.0) [
        | inl later ↦ (let a = runs_ascend bytes at count runs.apart h.0 r later h.1 in omega (arith, a, from, is))
        | inr order ↦ elim (cases_lt h.0 r) [
          | inl lower ↦ (let a = runs_ascend bytes at count runs.apart r h.0 lower below in let fl = first_last bytes at r in omega (arith, a, fl, upto, is))
          | inr upper ↦ (let e : h.0 ≡ r = omega (arith, order, upper) in let l = ap (λ x. run_last bytes at x) e in omega (arith, l, upto, is))
        ]
      ])

  firsts_begin : (v : ℕ) → v < 65536 → begins_run test v ≡ any_below count (λ r. run_first bytes at r == v)
  firsts_begin v small = elim (cases_Bool (begins_run test v)) [
    | inl begun ↦
        let h = one_run v small (begun_on test v begun) in
        let from = h.2 in
        let upto = h.3 in
        let here : run_first bytes at h.0 ≡ v = elim (cases_lt (run_first bytes at h.0) v) [
          | inl less ↦ absurd (both_ways (test (v - 1)) (begun_after test (v - 1) v (omega (arith, less)) begun) (in_one h.0 (v - 1) h.1 (omega (arith, small)) (omega (arith, less)) (omega (arith, upto))))
          | inr more ↦ omega (arith, more, from)
        ] in
        begun ∙ sym (any_true count (λ r. run_first bytes at r == v) h.0 h.1 (eq_same (run_first bytes at h.0) v here))
    | inr none ↦ none ∙ sym (false_from_ne_true (any_below count (λ r. run_first bytes at r == v)) (λ on.
        let h = any_some count (λ r. run_first bytes at r == v) on in
        let e = eqb-true (run_first bytes at h.0) v h.2 in
        let fl = first_last bytes at h.0 in
        both_ways (begins_run test v) none (run_begins test v (in_one h.0 v h.1 small (omega (arith, e)) (omega (arith, e, fl))) (λ u is. before_first h.0 u h.1 (omega (arith, is, e))))))
  ]

  -- there are as many runs as begin
  pub runs_counted : count ≡ count_of_runs test
  unfolding count_of_runs
  runs_counted =
      sym (as_many (run_first bytes at) 65536 count firsts_ascend (λ j below. (let fl = first_last bytes at j in let w = runs.within j below in omega (arith, fl, w))))
      ∙ ap length (members-same (λ v. any_below count (λ j. run_first bytes at j == v)) (begins_run test) 0 65536 (λ v from below. sym (firsts_begin v (omega (arith, below)))))

-- ---- two containers at one position

-- An array of the numbers that pass a test.
pub record ArrayAt (bytes : List ℕ) (at n : ℕ) (test : ℕ → Bool) : Type 0 where
  pub up : Ascends (λ j. u16_at bytes (at + 2 * j)) n
  pub listed : (v : ℕ) → v < 65536 → any_below n (λ j. u16_at bytes (at + 2 * j) == v) ≡ test v

module _ (at n : ℕ) (test : ℕ → Bool) where
  firsts_among : (x y : List ℕ) → RunsAt x at n test → RunsAt y at n test → AreAmong (run_first x at) n (run_first y at) n
  firsts_among x y xs ys = record {
    index = λ r below.
        let v : ℕ = run_first x at r in
        let fl = first_last x at r in
        let w = xs.within r below in
        let small : v < 65536 = omega (arith, fl, w) in
        let on : any_below n (λ j. run_first x at j == v) ≡ true = any_true n (λ j. run_first x at j == v) r below (eq_same v v refl) in
        let on' : any_below n (λ j. run_first y at j == v) ≡ true = sym (firsts_begin y at n test ys v small) ∙ (firsts_begin x at n test xs v small ∙ on) in
        let h = any_some n (λ j. run_first y at j == v) on' in
        (h.0, h.1, eqb-true (run_first y at h.0) v h.2);
  }

  firsts_same : (x y : List ℕ) → RunsAt x at n test → RunsAt y at n test → (r : ℕ) → r < n → run_first x at r ≡ run_first y at r
  firsts_same x y xs ys = same_numbers (run_first x at) (run_first y at) n n (firsts_ascend x at n test xs) (firsts_ascend y at n test ys) (firsts_among x y xs ys) (firsts_among y x ys xs)

  -- No run is longer than the other's.
  no_longer : (x y : List ℕ) → RunsAt x at n test → RunsAt y at n test → (r : ℕ) → r < n → run_last y at r ≤ run_last x at r
  no_longer x y xs ys r below = elim (cases_lt (run_last x at r) (run_last y at r)) [
    | inl less ↦
        let v : ℕ = run_last x at r + 1 in
        let f = firsts_same x y xs ys r below in
        let fl = first_last x at r in
        let w = ys.within r below in
        let small : v < 65536 = omega (arith, less, w) in
        absurd (both_ways (test v) (after_last x at n test xs r v below refl small) (in_one y at n test ys r v below small (omega (arith, f, fl)) (omega (arith, less))))
    | inr order ↦ order
  ]

  module _ (a b : List ℕ) (ab : AreBytes a) (bb : AreBytes b) where
    pub same_runs : RunsAt a at n test → RunsAt b at n test → SameBefore at a b → SameBefore (at + 2 + 4 * n) a b
    same_runs ra rb same = upto n (omega arith)
      where
        upto : (m : ℕ) → m ≤ n → SameBefore (at + 2 + 4 * m) a b
        upto zero order = before_less (at + 2) (at + 2 + 4 * 0) a b (omega arith) (next_u16 a b ab bb at same (sym (count_is b at) ∙ (rb.count ∙ (sym ra.count ∙ count_is a at))))
        upto (suc m) order =
            let below : m < n = omega (arith, order) in
            let h = upto m (omega (arith, order)) in
            let f = firsts_same b a rb ra m below in
            let low = no_longer a b ra rb m below in
            let high = no_longer b a rb ra m below in
            let fa = first_is a at m in
            let fb = first_is b at m in
            let la = last_is a at m in
            let lb = last_is b at m in
            let first : u16_at b (at + 2 + 4 * m) ≡ u16_at a (at + 2 + 4 * m) = omega (arith, f, fa, fb) in
            let last : u16_at b (at + 2 + 4 * m + 2) ≡ u16_at a (at + 2 + 4 * m + 2) = omega (arith, first, low, high, la, lb) in
            before_less (at + 2 + 4 * m + 2 + 2) (at + 2 + 4 * suc m) a b (omega arith) (next_u16 a b ab bb (at + 2 + 4 * m + 2) (next_u16 a b ab bb (at + 2 + 4 * m) h first) last)

    numbers_among : (x y : List ℕ) → AreBytes x → ArrayAt x at n test → ArrayAt y at n test → AreAmong (λ j. u16_at x (at + 2 * j)) n (λ j. u16_at y (at + 2 * j)) n
    numbers_among x y xb xs ys = record {
      index = λ j less.
          let v : ℕ = u16_at x (at + 2 * j) in
          let small : v < 65536 = u16_small x xb (at + 2 * j) in
          let on : any_below n (λ i. u16_at x (at + 2 * i) == v) ≡ true = any_true n (λ i. u16_at x (at + 2 * i) == v) j less (eq_same v v refl) in
          let on' : any_below n (λ i. u16_at y (at + 2 * i) == v) ≡ true = ys.listed v small ∙ (sym (xs.listed v small) ∙ on) in
          let h = any_some n (λ i. u16_at y (at + 2 * i) == v) on' in
          (h.0, h.1, eqb-true (u16_at y (at + 2 * h.0)) v h.2);
    }

    pub same_arrays : ArrayAt a at n test → ArrayAt b at n test → SameBefore at a b → SameBefore (at + 2 * n) a b
    same_arrays ra rb same = next_numbers a b ab bb at n same (λ j less.
        same_numbers (λ i. u16_at b (at + 2 * i)) (λ i. u16_at a (at + 2 * i)) n n rb.up ra.up (numbers_among b a bb rb ra) (numbers_among a b ab ra rb) j less)

bit_is : (bytes : List ℕ) (at q i : ℕ) → i < 64 → in_bits bytes at (64 * q + i) ≡ (bit_at (u64_at bytes (at + 8 * q)) i == 1)
unfolding in_bits
bit_is bytes at q i small =
    let p : (64 * q + i) / 64 ≡ q = omega (arith, small) in
    let r : (64 * q + i) % 64 ≡ i = omega (arith, small) in
    ap (λ x. bit_at (u64_at bytes (at + 8 * x)) ((64 * q + i) % 64) == 1) p ∙ ap (λ x. bit_at (u64_at bytes (at + 8 * q)) x == 1) r

pub same_bits : (a b : List ℕ) → AreBytes a → AreBytes b → (at : ℕ) → ((v : ℕ) → v < 65536 → in_bits b at v ≡ in_bits a at v) → SameBefore at a b → SameBefore (at + 8192) a b
same_bits a b ab bb at alike same = before_less (at + 8 * 1024) (at + 8192) a b (omega arith) (next_words a b ab bb at 1024 same (λ q within.
    same_tests 64 (u64_at b (at + 8 * q)) (u64_at a (at + 8 * q)) (u64_small b bb (at + 8 * q)) (u64_small a ab (at + 8 * q)) (λ i small.
    sym (bit_is b at q i small) ∙ (alike (64 * q + i) (omega (arith, within, small)) ∙ bit_is a at q i small))))
