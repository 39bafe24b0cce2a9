-- Members of a set, counted by the words of its chunks.
use Rattle.std.proofs.Common.{◌≡◌, ℕ, zero, suc, ◌+◌, ◌*◌, ◌^◌, ◌<◌, ◌≤◌, List, [], ◌∷◌, length, drop, get_or, refl, sym, ◌∙◌, ap, arith, length-append}
use Rattle.std.proofs.Math.Seq.{drop-cons}
use Rattle.std.specs.List.{zip}
use Rattle.std.specs.Int.RustNames.{count_ones}
use Rattle.hibitset_base.specs.Places.{bits_from}
use Rattle.hibitset_base.proofs.OneCountLemmas.{bits-count}
use Rattle.hibitset_sparse.specs.Walk.{entries_of, in_chunks, in_words}
use Rattle.hibitset_sparse.specs.declared.chunk.Chunk.{Chunk}
use Rattle.hibitset_sparse.proofs.WalkLemmas.{zip-none}

drop-all : {X : Type 0} (xs : List X) (i : ℕ) → length xs ≤ i → drop i xs ≡ []
drop-all [] zero past = refl
drop-all [] (suc i) past = refl
drop-all (x ∷ xs) zero past = absurd (omega arith)
drop-all (x ∷ xs) (suc i) past = drop-all xs i (omega arith)

-- what two lists have from a place on
abbrev pub zip_from : {X : Type 0} → ℕ → List ℕ → List X → List (ℕ × X)
zip_from i ps xs = zip (drop i ps) (drop i xs)

zip-next : {X : Type 0} (ps : List ℕ) (xs : List X) (i : ℕ) (d : X) → length ps ≡ length xs → i < length xs
    → zip_from i ps xs ≡ (get_or ps i 0, get_or xs i d) ∷ zip_from (i + 1) ps xs
zip-next ps xs i d long low =
    let one : i + 1 ≡ suc i = omega arith in
    let place = drop-cons ps i 0 (omega arith) in
    let item = drop-cons xs i d low in
    rw (place, item, one) refl

pub zip-end : {X : Type 0} (ps : List ℕ) (xs : List X) (i : ℕ) → length xs ≤ i → zip_from i ps xs ≡ []
zip-end ps xs i past = rw (drop-all xs i past) (zip-none (drop i ps))

-- one word more is counted
pub word-counted : (base count total i : ℕ) (ps ws : List ℕ) → length ps ≡ length ws → i < length ws → get_or ws i 0 < 2 ^ 64
    → count + length (in_words base (zip_from i ps ws)) ≡ total → count + count_ones (get_or ws i 0) + length (in_words base (zip_from (i + 1) ps ws)) ≡ total
word-counted base count total i ps ws long low fits so_far =
    let next = ap (λ es. length (in_words base es)) (zip-next ps ws i 0 long low) in
    let split = length-append (bits_from (base + 64 * get_or ps i 0) (get_or ws i 0)) (in_words base (zip_from (i + 1) ps ws)) in
    let ones = bits-count (base + 64 * get_or ps i 0) (get_or ws i 0) fits in
    omega (arith, next, split, ones, so_far)

-- one chunk more is counted
pub chunk-counted : (count more total i : ℕ) (x : Chunk) (ps : List ℕ) (xs : List Chunk) → length ps ≡ length xs → i < length xs → x ≡ get_or xs i x
    → ((base : ℕ) → more ≡ length (in_words base (entries_of x.words)))
    → count + length (in_chunks (zip_from i ps xs)) ≡ total → count + more + length (in_chunks (zip_from (i + 1) ps xs)) ≡ total
chunk-counted count more total i x ps xs long low is counted so_far =
    let begins : zip_from i ps xs ≡ (get_or ps i 0, x) ∷ zip_from (i + 1) ps xs = zip-next ps xs i x long low
    ∙ ap (λ y. (get_or ps i 0, y) ∷ zip_from (i + 1) ps xs) (sym is) in
    let next = ap (λ es. length (in_chunks es)) begins in
    let split = length-append (in_words (262144 * get_or ps i 0) (entries_of x.words)) (in_chunks (zip_from (i + 1) ps xs)) in
    let own = counted (262144 * get_or ps i 0) in
    omega (arith, next, split, own, so_far)
