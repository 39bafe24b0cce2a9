-- The places that masks and prefixes leave: the first one taken, and those of a word put in front.
use Rattle.std.proofs.Common.{◌≡◌, ℕ, zero, suc, ◌+◌, ◌-◌, ◌<◌, ◌≤◌, true, false, ◌==◌, List, [], ◌∷◌, ◌++◌, length, get_or, refl, sym, ◌∙◌, ap, arith, inl, inr}
use Rattle.std.specs.Int.{bit_at}
use Rattle.std.proofs.Math.ListN.{set}
use Rattle.std.proofs.lemmas.Nat.Bits.{bit_at-zero}
use Rattle.std.proofs.lemmas.Bool.Decides.{nat_tests}
use Rattle.hibitset_base.specs.Places.{Place, places_in, bits_from, places_left}
use Rattle.hibitset_base.proofs.MemberLemmas.{members-none, members-first}
use Rattle.hibitset_base.proofs.MaskLemmas.{TakesFirst}

pub eq_one : (x : ℕ) → x ≡ 1 → (x == 1) ≡ true
eq_one x e = grind (arith, nat_tests)

pub eq_none : (x : ℕ) → x ≡ 0 → (x == 1) ≡ false
eq_none x e = grind (arith, nat_tests)

pub bits-none : (s m : ℕ) → m ≡ 0 → bits_from s m ≡ []
bits-none s m none = members-none (λ q. bit_at m (q - s) == 1) s 64 (λ i from below. eq_none (bit_at m (i - s)) (ap (λ x. bit_at x (i - s)) none ∙ bit_at-zero (i - s)))

pub bits-first : (s m t r : ℕ) → TakesFirst m t r → bits_from s m ≡ (s + t) ∷ bits_from s r
bits-first s m t r h =
    let small = h.small in
    let e : s + t - s ≡ t = omega arith in
    members-first (λ q. bit_at m (q - s) == 1) (λ q. bit_at r (q - s) == 1) (s + t) s 64 (omega arith) (omega arith)
    (λ i from below. eq_none _ (h.first (i - s) (omega arith)))
    (λ i from below. eq_none _ (h.same (i - s) (omega arith) (inl (omega arith)) ∙ h.first (i - s) (omega arith)))
    (eq_one _ (rw e h.stood)) (eq_none _ (rw e h.gone))
    (λ i after within. ap (λ x. x == 1) (sym (h.same (i - s) (omega arith) (inr (omega arith)))))

-- what is left above layer l + k
abbrev pub above : ℕ → ℕ → List ℕ → List ℕ → List Place
above zero l (m ∷ ms) (p ∷ ps) = places_left (suc l) ms ps
above (suc k) l (m ∷ ms) (p ∷ ps) = above k (suc l) ms ps
above k l [] ps = []
above k l (m ∷ ms) [] = []

left-split : (k x l : ℕ) (ms ps : List ℕ) → x ≡ l + k → k < length ms → k < length ps → ((j : ℕ) → j < k → get_or ms j 0 ≡ 0)
    → places_left l ms ps ≡ places_in x (bits_from (get_or ps k 0) (get_or ms k 0)) ++ above k l ms ps
left-split k x l [] ps e wide long below = absurd (omega arith)
left-split k x l (m ∷ ms) [] e wide long below = absurd (omega arith)
left-split zero x l (m ∷ ms) (p ∷ ps) e wide long below = let f : x ≡ l = omega arith in rw f refl
left-split (suc k) x l (m ∷ ms) (p ∷ ps) e wide long below =
    ap (λ ys. places_in l ys ++ places_left (suc l) ms ps) (bits-none p m (below 0 (omega arith)))
    ∙ left-split k x (suc l) ms ps (omega arith) (omega arith) (omega arith) (λ j lower. below (suc j) (omega arith))

left-masks : (k x l r : ℕ) (ms ps : List ℕ) → x ≡ l + k → k < length ms → k < length ps → ((j : ℕ) → j < k → get_or ms j 0 ≡ 0)
    → places_left l (set ms k r) ps ≡ places_in x (bits_from (get_or ps k 0) r) ++ above k l ms ps
left-masks k x l r [] ps e wide long below = absurd (omega arith)
left-masks k x l r (m ∷ ms) [] e wide long below = absurd (omega arith)
left-masks zero x l r (m ∷ ms) (p ∷ ps) e wide long below = let f : x ≡ l = omega arith in rw f refl
left-masks (suc k) x l r (m ∷ ms) (p ∷ ps) e wide long below =
    ap (λ ys. places_in l ys ++ places_left (suc l) (set ms k r) ps) (bits-none p m (below 0 (omega arith)))
    ∙ left-masks k x (suc l) r ms ps (omega arith) (omega arith) (omega arith) (λ j lower. below (suc j) (omega arith))

left-both : (k x l r q : ℕ) (ms ps : List ℕ) → x ≡ l + k → k < length ms → k < length ps → ((j : ℕ) → j < k → get_or ms j 0 ≡ 0)
    → places_left l (set ms k r) (set ps k q) ≡ places_in x (bits_from q r) ++ above k l ms ps
left-both k x l r q [] ps e wide long below = absurd (omega arith)
left-both k x l r q (m ∷ ms) [] e wide long below = absurd (omega arith)
left-both zero x l r q (m ∷ ms) (p ∷ ps) e wide long below = let f : x ≡ l = omega arith in rw f refl
left-both (suc k) x l r q (m ∷ ms) (p ∷ ps) e wide long below =
    ap (λ ys. places_in l ys ++ places_left (suc l) (set ms k r) (set ps k q)) (bits-none p m (below 0 (omega arith)))
    ∙ left-both k x (suc l) r q ms ps (omega arith) (omega arith) (omega arith) (λ j lower. below (suc j) (omega arith))

-- no bit is left
pub left-none : (l : ℕ) (ms ps : List ℕ) → ((j : ℕ) → j < length ms → get_or ms j 0 ≡ 0) → places_left l ms ps ≡ []
left-none l [] ps none = refl
left-none l (m ∷ ms) [] none =
    ap (λ ys. places_in l ys ++ places_left (suc l) ms []) (bits-none 0 m (none 0 (omega arith))) ∙ left-none (suc l) ms [] (λ j below. none (suc j) (omega arith))
left-none l (m ∷ ms) (p ∷ ps) none =
    ap (λ ys. places_in l ys ++ places_left (suc l) ms ps) (bits-none p m (none 0 (omega arith))) ∙ left-none (suc l) ms ps (λ j below. none (suc j) (omega arith))

-- the first place is taken
pub left-take : (k t r : ℕ) (ms ps : List ℕ) → k < length ms → k < length ps → ((j : ℕ) → j < k → get_or ms j 0 ≡ 0) → TakesFirst (get_or ms k 0) t r
    → places_left 0 ms ps ≡ (record { layer = k; position = get_or ps k 0 + t }) ∷ places_left 0 (set ms k r) ps
left-take k t r ms ps wide long below takes =
    let z : k ≡ 0 + k = omega arith in
    left-split k k 0 ms ps z wide long below
    ∙ (ap (λ ys. places_in k ys ++ above k 0 ms ps) (bits-first (get_or ps k 0) (get_or ms k 0) t r takes)
    ∙ ap (λ ys. (record { layer = k; position = get_or ps k 0 + t }) ∷ ys) (sym (left-masks k k 0 r ms ps z wide long below)))

-- a word is put in front
pub left-put : (k r q : ℕ) (ms ps : List ℕ) → k < length ms → k < length ps → ((j : ℕ) → j ≤ k → get_or ms j 0 ≡ 0)
    → places_left 0 (set ms k r) (set ps k q) ≡ places_in k (bits_from q r) ++ places_left 0 ms ps
left-put k r q ms ps wide long below =
    let z : k ≡ 0 + k = omega arith in
    left-both k k 0 r q ms ps z wide long (λ j lower. below j (omega arith))
    ∙ ap (λ ys. places_in k (bits_from q r) ++ ys)
    (sym (left-split k k 0 ms ps z wide long (λ j lower. below j (omega arith)) ∙ ap (λ ys. places_in k ys ++ above k 0 ms ps) (bits-none (get_or ps k 0) (get_or ms k 0) (below k (omega arith)))))

-- a mask is put in front of a prefix that is there
pub left-fill : (k r : ℕ) (ms ps : List ℕ) → k < length ms → k < length ps → ((j : ℕ) → j ≤ k → get_or ms j 0 ≡ 0)
    → places_left 0 (set ms k r) ps ≡ places_in k (bits_from (get_or ps k 0) r) ++ places_left 0 ms ps
left-fill k r ms ps wide long below =
    let z : k ≡ 0 + k = omega arith in
    left-masks k k 0 r ms ps z wide long (λ j lower. below j (omega arith))
    ∙ ap (λ ys. places_in k (bits_from (get_or ps k 0) r) ++ ys)
    (sym (left-split k k 0 ms ps z wide long (λ j lower. below j (omega arith)) ∙ ap (λ ys. places_in k ys ++ above k 0 ms ps) (bits-none (get_or ps k 0) (get_or ms k 0) (below k (omega arith)))))

-- all that is left in a layer is taken at once
pub left-word : (k : ℕ) (ms ps : List ℕ) → k < length ms → k < length ps → ((j : ℕ) → j < k → get_or ms j 0 ≡ 0)
    → places_left 0 ms ps ≡ places_in k (bits_from (get_or ps k 0) (get_or ms k 0)) ++ places_left 0 (set ms k 0) ps
left-word k ms ps wide long below =
    let z : k ≡ 0 + k = omega arith in
    left-split k k 0 ms ps z wide long below
    ∙ ap (λ ys. places_in k (bits_from (get_or ps k 0) (get_or ms k 0)) ++ ys)
    (sym (left-masks k k 0 0 ms ps z wide long below ∙ ap (λ ys. places_in k ys ++ above k 0 ms ps) (bits-none (get_or ps k 0) 0 refl)))
