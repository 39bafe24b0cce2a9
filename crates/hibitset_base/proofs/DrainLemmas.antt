-- What a walk has left does not change when its last item is taken out of the set.
use Rattle.std.proofs.Common.{◌≡◌, ◌≢◌, ℕ, zero, suc, ◌+◌, ◌-◌, ◌*◌, ◌/◌, ◌^◌, ◌<◌, ◌≤◌, ◌==◌, Bool, List, [], ◌∷◌, ◌++◌, All, length, get_or, refl, ◌∙◌, ap, arith, lit<}
use Rattle.std.specs.Int.{bit_at}
use Rattle.std.proofs.Math.Nat.{lt-mul-div-succ, mul-le-mul_left, one-le-pow}
use Rattle.std.proofs.lemmas.List.Elements.{All-nil, All-head, All-tail, All-append}
use Rattle.hibitset_base.specs.Places.{Place, places_in, places_left, bits_from, items_under, items_of, ComesBefore}
use Rattle.hibitset_base.proofs.MemberLemmas.{members-same}
use Rattle.hibitset_base.proofs.DescentLemmas.{all-members, one_of}

-- an index lies before what a place stands for
abbrev pub LiesBefore : ℕ → Place → Type 0
LiesBefore i place = i / 64 ^ place.layer < place.position

-- an index before a range is not in it
before_range : (i l q : ℕ) → i / 64 ^ l < q → i < q * 64 ^ l
before_range i l q less =
    let some : 0 < 64 ^ l = one-le-pow l 64 (lit< tt) in
    let h : i < 64 ^ l * (i / 64 ^ l + 1) = lt-mul-div-succ i some in
    let k : 64 ^ l * (i / 64 ^ l + 1) ≤ 64 ^ l * q = mul-le-mul_left (64 ^ l) (let a : i / 64 ^ l + 1 ≤ q = omega arith in a) in
    let e : 64 ^ l * q ≡ q * 64 ^ l = omega arith in
    omega arith

module _ (p r : ℕ → Bool) (i : ℕ) (same : (j : ℕ) → j ≢ i → p j ≡ r j) where
  under_same : (l q : ℕ) → i / 64 ^ l < q → items_under p l q ≡ items_under r l q
  under_same zero q less = refl
  under_same (suc l) q less =
      let before : i < q * 64 ^ suc l = before_range i (suc l) q less in
      members-same p r (q * 64 ^ suc l) (64 ^ suc l) (λ j from within. same j (omega arith))

  -- places that all come later stand for the same in both sets
  pub items_without : (ps : List Place) → All (LiesBefore i) ps → items_of p ps ≡ items_of r ps
  items_without [] later = refl
  items_without (x ∷ ps) later =
      ap (λ xs. xs ++ items_of p ps) (under_same x.layer x.position (All-head (LiesBefore i) x ps later))
      ∙ ap (λ xs. items_under r x.layer x.position ++ xs) (items_without ps (All-tail (LiesBefore i) x ps later))

later_in_mask : (i l q m : ℕ) → ((b : ℕ) → b < 64 → bit_at m b ≡ 1 → i / 64 ^ l < q + b) → All (LiesBefore i) (places_in l (bits_from q m))
later_in_mask i l q m later =
    all-members (LiesBefore i) l (λ x. bit_at m (x - q) == 1) q 64
    (λ x from below stands.
    let whole : q + (x - q) ≡ x = omega arith in
    let h : i / 64 ^ l < q + (x - q) = later (x - q) (omega arith) (one_of (bit_at m (x - q)) stands) in
    rw whole at h)

later_left : (i l : ℕ) (ms ps : List ℕ) → ((k b : ℕ) → k < length ms → b < 64 → bit_at (get_or ms k 0) b ≡ 1 → i / 64 ^ (l + k) < get_or ps k 0 + b) → All (LiesBefore i) (places_left l ms ps)
later_left i l [] ps later = All-nil (LiesBefore i)
later_left i l (m ∷ ms) [] later =
    let l-is : l + 0 ≡ l = omega arith in
    All-append (LiesBefore i) (places_in l (bits_from 0 m)) (places_left (suc l) ms [])
    (later_in_mask i l 0 m (λ b small stands. let h = later 0 b (omega arith) small stands in rw l-is at h))
    (later_left i (suc l) ms [] (λ k b within small stands. let next : suc l + k ≡ l + suc k = omega arith in rw next (later (suc k) b (omega arith) small stands)))
later_left i l (m ∷ ms) (q ∷ ps) later =
    let l-is : l + 0 ≡ l = omega arith in
    All-append (LiesBefore i) (places_in l (bits_from q m)) (places_left (suc l) ms ps)
    (later_in_mask i l q m (λ b small stands. let h = later 0 b (omega arith) small stands in rw l-is at h))
    (later_left i (suc l) ms ps (λ k b within small stands. let next : suc l + k ≡ l + suc k = omega arith in rw next (later (suc k) b (omega arith) small stands)))

-- what is left of a walk comes after the index that it gave
pub later_than : (n : ℕ) (ms ps : List ℕ) (i : ℕ) → ComesBefore n ms ps 0 i → length ms ≡ n → All (LiesBefore i) (places_left 0 ms ps)
later_than n ms ps i before long =
    later_left i 0 ms ps (λ k b within small stands.
    let h : i / 64 ^ (k - 0) < get_or ps k 0 + b = before.before k b (omega arith) (omega arith) small stands in
    let e : k - 0 ≡ 0 + k = omega arith in
    rw e at h)
