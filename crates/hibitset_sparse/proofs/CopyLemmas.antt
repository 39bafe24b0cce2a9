-- Tables with the same groups and values, and sets with the same chunks.
use Rattle.std.proofs.Common.{◌≡◌, ℕ, zero, suc, ◌+◌, ◌/◌, ◌%◌, ◌<◌, ◌==◌, Bool, true, false, List, [], ◌∷◌, Option, Some, None, refl, sym, ◌∙◌, ap, subst, arith, set}
use Rattle.std.specs.Prelude.{if◌then◌else◌, option_and_then, slice_get}
use Rattle.std.specs.List.{AllZip}
use Rattle.std.proofs.lemmas.Option.{same_Some}
use Rattle.hibitset_sparse.specs.Chunks.{AreFull, word_in, word_under}
use Rattle.hibitset_sparse.specs.Copy.{HaveSameChunks, IsSameChunk}
use Rattle.hibitset_sparse.specs.Layout.{value_by_group, value_of_place, word_or_none}
use Rattle.hibitset_sparse.specs.PackedArray.{value_in}
use Rattle.hibitset_sparse.specs.Rank.{bit_is_set, rank_in, value_from}
use Rattle.hibitset_sparse.specs.Table.{IsSameTable, group_word, value_at}
use Rattle.hibitset_sparse.specs.declared.chunk.Chunk.{Chunk}
use Rattle.hibitset_sparse.specs.declared.group.Group.{Group}
use Rattle.hibitset_sparse.specs.declared.table.Table.{Table}
use Rattle.hibitset_sparse.proofs.ChunkLemmas.{same-chunk}

module _ {T : Type 0} (R : T → T → Type 0) where
  -- both are there and are alike, or neither is there
  abbrev pub AreAlike : Option T → Option T → Type 0
  AreAlike None None = Unit {0}
  AreAlike None (Some y) = ⊥
  AreAlike (Some x) None = ⊥
  AreAlike (Some x) (Some y) = R x y

  alike-items : (xs ys : List T) → AllZip R xs ys → (k : ℕ) → AreAlike (slice_get xs k) (slice_get ys k)
  alike-items [] [] zip k = tt
  alike-items [] (y ∷ ys) zip k = absurd zip
  alike-items (x ∷ xs) [] zip k = absurd zip
  alike-items (x ∷ xs) (y ∷ ys) zip zero = zip.0
  alike-items (x ∷ xs) (y ∷ ys) zip (suc k) = alike-items xs ys zip.1 k

  alike-if : (b : Bool) (o p : Option T) → AreAlike o p → AreAlike (if b then o else None) (if b then p else None)
  alike-if true o p alike = alike
  alike-if false o p alike = tt

  alike-by_group : (xs ys : List T) → AllZip R xs ys → (bit : ℕ) (group : Option Group)
      → AreAlike (option_and_then (value_by_group xs bit) group) (option_and_then (value_by_group ys bit) group)
  alike-by_group xs ys zip bit None = tt
  alike-by_group xs ys zip bit (Some g) = alike-if (bit_is_set g.word bit) (slice_get xs (g.start + rank_in g.word bit)) (slice_get ys (g.start + rank_in g.word bit)) (alike-items xs ys zip (g.start + rank_in g.word bit))

  -- the values of a place are alike, where those of the lists are
  pub alike-place : (group : ℕ → Option Group) (xs ys : List T) → AllZip R xs ys → (i : ℕ) → AreAlike (value_of_place group xs i) (value_of_place group ys i)
  alike-place group xs ys zip i = alike-by_group xs ys zip (i % 64) (group (i / 64))

  -- the lists are alike, after one item was written over
  pub zip-set : (xs ys : List T) (k : ℕ) (y z : T) → AllZip R xs ys → slice_get ys k ≡ Some y → ((x : T) → R x y → R x z) → AllZip R xs (set ys k z)
  zip-set [] [] k y z zip is more = zip
  zip-set [] (u ∷ ys) k y z zip is more = absurd zip
  zip-set (x ∷ xs) [] k y z zip is more = absurd zip
  zip-set (x ∷ xs) (u ∷ ys) zero y z zip is more = (more x (subst (R x) (same_Some u y is) zip.0), zip.1)
  zip-set (x ∷ xs) (u ∷ ys) (suc k) y z zip is more = (zip.0, zip-set xs ys k y z zip.1 is more)

  -- each list is like itself
  pub zip-same : ((x : T) → R x x) → (xs : List T) → AllZip R xs xs
  zip-same same [] = tt
  zip-same same (x ∷ xs) = (same x, zip-same same xs)

-- a table is the same as itself, and as one that is the same as a third
pub table-same : {T : Type 0} (table : Table T) → IsSameTable table table
table-same table = record { root = refl; groups = refl; items = refl }

pub table-then : {T : Type 0} (old now new : Table T) → IsSameTable old now → IsSameTable now new → IsSameTable old new
table-then old now new first second = record { root = second.root ∙ first.root; groups = second.groups ∙ first.groups; items = second.items ∙ first.items }

alike-words : (o p : Option Chunk) → AreAlike IsSameChunk o p → (l q : ℕ) → l < 3 → word_under p l q ≡ word_under o l q
alike-words None None alike l q low = refl
alike-words None (Some y) alike l q low = absurd alike
alike-words (Some x) None alike l q low = absurd alike
alike-words (Some x) (Some y) alike l q low = same-chunk x y alike l q low

alike-full : (o p : Option Chunk) → AreAlike IsSameChunk o p → ((x : Chunk) → o ≡ Some x → 0 < x.words.groups.word) → (y : Chunk) → p ≡ Some y → 0 < y.words.groups.word
alike-full None None alike full y is = absurd (cc)
alike-full None (Some z) alike full y is = absurd alike
alike-full (Some x) None alike full y is = absurd alike
alike-full (Some x) (Some z) alike full y is =
    let some = full x refl in
    let root : z.words.groups.word ≡ x.words.groups.word = alike.root in
    let same : z.words.groups.word ≡ y.words.groups.word = ap (λ c. c.words.groups.word) (same_Some z y is) in
    omega (arith, some, root, same)

module _ (old new : Table Chunk) (same : HaveSameChunks old new) where
  alike-at : (i : ℕ) → AreAlike IsSameChunk (value_at old i) (value_at new i)
  alike-at i =
      let here : value_at new i ≡ value_of_place (value_in old.groups) new.items.items i =
      ap (λ word. value_of_place (value_from (slice_get new.groups.items.items) word) new.items.items i) same.root
      ∙ ap (λ items. value_of_place (value_from (slice_get items) old.groups.word) new.items.items i) same.groups in
      subst (AreAlike IsSameChunk (value_at old i)) (sym here) (alike-place IsSameChunk (value_in old.groups) old.items.items new.items.items same.items i)

  same-groups : (q : ℕ) → group_word new q ≡ group_word old q
  same-groups q = ap (λ word. word_or_none (value_from (slice_get new.groups.items.items) word q)) same.root
      ∙ ap (λ items. word_or_none (value_from (slice_get items) old.groups.word q)) same.groups

  -- sets with the same chunks have the same words
  pub same-words : (l p : ℕ) → word_in new l p ≡ word_in old l p
  unfolding word_in
  same-words zero p = alike-words (value_at old (p / 4096)) (value_at new (p / 4096)) (alike-at (p / 4096)) 0 (p % 4096) (omega arith)
  same-words (suc zero) p = alike-words (value_at old (p / 64)) (value_at new (p / 64)) (alike-at (p / 64)) 1 (p % 64) (omega arith)
  same-words (suc (suc zero)) p = alike-words (value_at old p) (value_at new p) (alike-at p) 2 0 (omega arith)
  same-words (suc (suc (suc zero))) p = same-groups p
  same-words (suc (suc (suc (suc l)))) p = ap (λ word. if p == 0 then word else 0) same.root

  -- no chunk is empty, if none was
  pub same-full : AreFull old → AreFull new
  same-full full c chunk low is = alike-full (value_at old c) (value_at new c) (alike-at c) (λ x was. full c x low was) chunk is
