-- A fold in parts, and lists and counts of parts put together.
use Rattle.std.proofs.Common.{ℕ, ◌≡◌, ◌++◌, ◌∷◌, [], List, length, map, flat_map, ap, sym, refl, ◌∙◌, subst, Ok, Err, Option, Some, None, MatchOption}
use Rattle.std.specs.Prelude.{IfOk, MatchResult, sum}
use Rattle.std.specs.declared.result.Result.{Result}
use Rattle.std.specs.declared.alloc.AllocError.{AllocError}
use Rattle.std.specs.List.{AllZip, FoldsTo}
use Rattle.std.proofs.lemmas.List.{append-nil}
use Rattle.std.proofs.lemmas.List.Concat.{length-flat_map}
use Rattle.std.proofs.lemmas.List.Folds.{flat_map-map}
use Rattle.std.proofs.lemmas.List.Sums.{sum-map}
use Rattle.std.proofs.lemmas.Slice.Zip.{AllZip-map}
use Rattle.std.proofs.lemmas.Fn.{FoldsTo-push}
use Rattle.hibitset_base.specs.Folds.{Combines, FoldsFrom, FoldsOfParts, FoldsInParts}
use Rattle.rayon.proofs.ListFacts.{AllZip-through}

-- a fold goes on where one ended
pub folds_on : {P A : Type 0} (step : P → A → P → Type 0) (a b c : P) (xs ys : List A) → FoldsTo step a xs b → FoldsTo step b ys c → FoldsTo step a (xs ++ ys) c
folds_on step a b c [] ys h k = subst (λ s. FoldsTo step s ys c) (sym h) k
folds_on step a b c (x ∷ xs) ys h k = (h.0, h.1, folds_on step h.0 b c xs ys h.2 k)

-- the lengths of the parts add up
pub sum-lengths : {P : Type 0} (items : P → List ℕ) (ps : List P) (ns : List ℕ) → AllZip (λ p n. n ≡ length (items p)) ps ns
    → sum ns ≡ length (flat_map items ps)
sum-lengths items ps ns h =
    ap sum (AllZip-map (λ p. length (items p)) ps ns h) ∙ sum-map (λ p. length (items p)) ps ∙ sym (length-flat_map items ps)

-- one more value
pub Combines-push : {U : Type 0} (combine : U → U → U → Type 0) (us : List U) (a x r : U) → Combines combine us a → combine a x r
    → Combines combine (us ++ x ∷ []) r
Combines-push combine [] a x r h k = absurd h
Combines-push combine (u ∷ us) a x r h k = FoldsTo-push combine u us a x r h k

pub combined-more : {U : Type 0} (combine : U → U → U → Type 0) (so_far : Option U) (us : List U) (x r : U)
    → MatchOption so_far (us ≡ []) (Combines combine us) → MatchOption so_far (r ≡ x) (λ a. combine a x r)
    → Combines combine (us ++ x ∷ []) r
combined-more {U} combine None us x r h k =
    let P : List U → Type 0 = λ ys. Combines combine (ys ++ x ∷ []) r in
    subst P (sym h) (sym k)
combined-more combine (Some a) us x r h k = Combines-push combine us a x r h k

-- the fold of no values is that of one empty piece
pub no-values : {U : Type 0} (init : U → Type 0) (step : U → ℕ → U → Type 0) (combine : U → U → U → Type 0) (xs : List ℕ) (us : List U) (u : U)
    → FoldsOfParts init step xs us → us ≡ [] → init u → FoldsInParts init step combine xs u
no-values init step combine xs us u h e i =
    (u ∷ [], ([] ∷ [], none h.0 h.1 (rw e at h.2), ((u, i, refl), tt)), refl)
  where
    none : (pieces : List (List ℕ)) → flat_map (λ l. l) pieces ≡ xs → AllZip (FoldsFrom init step) pieces [] → [] ≡ xs
    none [] e k = e
    none (p ∷ ps) e k = absurd k

-- the fold of all items is that of one piece
pub one-piece : {U : Type 0} (init : U → Type 0) (step : U → ℕ → U → Type 0) (combine : U → U → U → Type 0) (xs : List ℕ) (u : U)
    → FoldsFrom init step xs u → FoldsInParts init step combine xs u
one-piece init step combine xs u h = (u ∷ [], (xs ∷ [], append-nil xs, (h, tt)), refl)

-- lists that are those of the parts are together the items of all
pub lists-are : {P L : Type 0} (items : P → List ℕ) (shown : L → List ℕ) (ps : List P) (ls : List L)
    → AllZip (λ p r. IfOk {E = AllocError} r (λ l. shown l ≡ items p)) ps (map Ok ls)
    → flat_map shown ls ≡ flat_map items ps
lists-are items shown [] [] h = refl
lists-are items shown [] (l ∷ ls) h = absurd h
lists-are items shown (p ∷ ps) [] h = absurd h
lists-are items shown (p ∷ ps) (l ∷ ls) h = ap (λ x. x ++ flat_map shown ls) h.0 ∙ ap (λ x. items p ++ x) (lists-are items shown ps ls h.1)

-- the pieces are the lists of the parts
pub pieces-are : {P U : Type 0} (items : P → List ℕ) (S : List ℕ → U → Type 0) (ps : List P) (us : List U)
    → AllZip (λ p u. S (items p) u) ps us
    → (pieces : List (List ℕ)) × (flat_map (λ l. l) pieces ≡ flat_map items ps) × AllZip S pieces us
pieces-are items S ps us h =
    (map items ps, flat_map-map (λ l. l) items ps, AllZip-through items (λ p u. S (items p) u) S (λ p u k. k) ps us h)

pub match-ok : {T E : Type 0} (r : Result T E) (P Q : T → Type 0) (N : E → Type 0) → MatchResult r P N → ((v : T) → P v → Q v) → IfOk r Q
match-ok (Ok v) P Q N h k = k v h
match-ok (Err e) P Q N h k = tt
