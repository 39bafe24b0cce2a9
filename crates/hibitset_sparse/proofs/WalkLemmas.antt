-- Steps of a walk over a table, and of one over a set.
use Rattle.std.proofs.Common.{◌≡◌, ℕ, ◌+◌, ◌*◌, ◌<◌, List, [], ◌∷◌, ◌++◌, length, append_assoc, refl, sym, ◌∙◌, ap, arith}
use Rattle.std.specs.List.{flat_map, zip}
use Rattle.hibitset_base.specs.Places.{bits_from}
use Rattle.hibitset_base.proofs.PlaceLemmas.{bits-none}
use Rattle.hibitset_sparse.specs.Walk.{entries_of, in_chunks, in_words, places_of_groups}
use Rattle.hibitset_sparse.specs.declared.chunk.Chunk.{Chunk}
use Rattle.hibitset_sparse.specs.declared.group.Group.{Group}

pub zip-none : {A B : Type 0} (xs : List A) → zip {K = A} {X = B} xs [] ≡ []
zip-none [] = refl
zip-none (x ∷ xs) = refl

-- nothing is left of the group at hand
pub group-over : (first word : ℕ) (ps : List ℕ) → word ≡ 0 → bits_from first word ++ ps ≡ ps
group-over first word ps none = ap (λ xs. xs ++ ps) (bits-none first word none)

-- the next group is taken
pub group-next : (root rest q : ℕ) (g : Group) (gs all : List Group) → all ≡ g ∷ gs → ((s : ℕ) → bits_from s root ≡ (s + q) ∷ bits_from s rest)
    → places_of_groups (bits_from 0 root) all ≡ bits_from (64 * q) g.word ++ places_of_groups (bits_from 0 rest) gs
group-next root rest q g gs all is first =
    let start : 0 + q ≡ q = omega arith in
    let bits : bits_from 0 root ≡ q ∷ bits_from 0 rest = first 0 ∙ ap (λ x. x ∷ bits_from 0 rest) start in
    rw (bits, is) refl

-- no group is left
pub groups-over : (root : ℕ) (gs : List Group) → root ≡ 0 → places_of_groups (bits_from 0 root) gs ≡ []
groups-over root gs none = ap (λ xs. places_of_groups xs gs) (bits-none 0 root none)

pub groups-done : (root : ℕ) (gs : List Group) → gs ≡ [] → places_of_groups (bits_from 0 root) gs ≡ []
groups-done root gs none = rw (none, zip-none {B = Group} (bits_from 0 root)) refl

-- the next place of the group at hand is taken
pub place-next : {T : Type 0} (first word rest b : ℕ) (behind places : List ℕ) (x : T) (xs all : List T)
    → bits_from first word ++ behind ≡ places → all ≡ x ∷ xs → ((s : ℕ) → bits_from s word ≡ (s + b) ∷ bits_from s rest)
    → zip places all ≡ (first + b, x) ∷ zip (bits_from first rest ++ behind) xs
place-next first word rest b behind places x xs all left is bits =
    let split : places ≡ (first + b) ∷ (bits_from first rest ++ behind) = sym left ∙ ap (λ ys. ys ++ behind) (bits first) in
    rw (split, is) refl

-- where no place is left, no entry is
pub none-left : {T : Type 0} (places : List ℕ) (xs : List T) → places ≡ [] → zip places xs ≡ []
none-left places xs none = rw none refl

-- the words at hand begin with one
pub word-next : (base place word : ℕ) (old new : List (ℕ × ℕ)) (behind : List ℕ) → old ≡ (place, word) ∷ new
    → in_words base old ++ behind ≡ bits_from (base + 64 * place) word ++ (in_words base new ++ behind)
word-next base place word old new behind is = rw is (append_assoc (bits_from (base + 64 * place) word) (in_words base new) behind)

-- no word is at hand, and the next chunk is taken
pub chunk-next : (base place : ℕ) (words own : List (ℕ × ℕ)) (chunk : Chunk) (old new : List (ℕ × Chunk)) → words ≡ [] → old ≡ (place, chunk) ∷ new
    → own ≡ entries_of chunk.words
    → in_words base words ++ in_chunks old ≡ in_words (262144 * place) own ++ in_chunks new
chunk-next base place words own chunk old new none is all = rw (none, is, all) refl

-- nothing is left
pub words-done : (base : ℕ) (words : List (ℕ × ℕ)) (chunks : List (ℕ × Chunk)) → words ≡ [] → chunks ≡ [] → in_words base words ++ in_chunks chunks ≡ []
words-done base words chunks none empty = rw (none, empty) refl

-- as many words are left then
pub words-same : (words own : List (ℕ × ℕ)) (place : ℕ) (chunk : Chunk) (old new : List (ℕ × Chunk)) → words ≡ [] → old ≡ (place, chunk) ∷ new → own
    ≡ entries_of chunk.words
    → length (own ++ flat_map (λ (e : ℕ × Chunk). entries_of (e.1).words) new) ≡ length (words ++ flat_map (λ (e : ℕ × Chunk). entries_of (e.1).words) old)
words-same words own place chunk old new none is all = rw (none, is, all) refl

-- and one less after one was taken
pub word-less : (words rest behind : List (ℕ × ℕ)) (e : ℕ × ℕ) → words ≡ e ∷ rest → length (rest ++ behind) < length (words ++ behind)
word-less words rest behind e is = rw is (omega arith)
