-- A line of a store is cut in one way alone.
use Rattle.std.proofs.Common.{◌≡◌, ℕ, ◌^◌, ◌<◌, ◌+◌, ◌%◌, true, not, ◌&&◌, ◌==◌, List, [], ◌∷◌, ◌++◌, refl, ap, sym, subst, ◌∙◌, arith, codes, Bor, cond}
use Rattle.std.specs.Prelude.{Some, None}
use Rattle.std.specs.declared.option.Option.{Option}
use Rattle.std.specs.Option.{option_map}
use Rattle.std.specs.Str.{bytes_eq}
use Rattle.std.specs.Fmt.{decimal}
use Rattle.std.specs.List.{join_with_byte}
use Rattle.std.proofs.lemmas.Bool.Decides.{nat_tests}
use Rattle.std.proofs.lemmas.Fmt.{decimal_by_steps}
use Rattle.hibitset_run.specs.declared.store.Side.{Side}
use Rattle.hibitset_run.specs.declared.store.Side.TheVariants.{P, Q}
use Rattle.hibitset_run.specs.declared.store.StoreCommand.{StoreCommand}
use Rattle.hibitset_run.specs.declared.store.StoreCommand.TheVariants as command
use Rattle.hibitset_run.specs.declared.store.text.Name.{Name}
use Rattle.hibitset_run.specs.declared.store.text.Name.TheVariants as name
use Rattle.hibitset_run.specs.Text.{Reads}
use Rattle.hibitset_run.specs.StoreText.{IsLine, letter_of, words_of}
use Rattle.hibitset_run.specs.ScriptParser.{IsCut, lacks, after}
use Rattle.hibitset_run.specs.StoreParser.{ReadsOf, text_of_name, name_of, side_of, third_of, fourth_of, end_of, tail_of}
use Rattle.hibitset_run.proofs.LineLemmas.{told, one_cut, tail_cut, text_in, some_inj, cut_after, cut_name}

lacks_push : (byte : ℕ) (bs : List ℕ) (b : ℕ) → lacks byte bs ≡ true → byte < b → lacks byte (bs ++ b ∷ []) ≡ true
lacks_push byte [] b h more = grind (arith, nat_tests)
lacks_push byte (d ∷ ds) b h more =
    let tail : lacks byte ds ≡ true = grind (arith, nat_tests) in
    let next = lacks_push byte ds b tail more in
    let front : not (d == byte) ≡ true = grind (arith, nat_tests) in
    ap (λ t. t && lacks byte (ds ++ b ∷ [])) front ∙ next

number_lacks : (n : ℕ) → n < 2 ^ 32 → lacks 32 (decimal n) ≡ true
number_lacks n h = decimal_by_steps (λ n ds. lacks 32 ds ≡ true) (λ n small. lacks_push 32 [] (48 + n) refl (omega arith)) (λ n ds ten so_far. lacks_push 32 ds (48 + n % 10) so_far (omega arith)) n (omega arith)

pub letter_lacks : (s : Side) → lacks 32 (letter_of s) ≡ true
letter_lacks P = refl
letter_lacks Q = refl

pub name_lacks : (n : Name) → lacks 32 (text_of_name n) ≡ true
name_lacks name.Put = refl
name_lacks name.Get = refl
name_lacks name.Take = refl
name_lacks name.Join = refl

pub third_lacks : (c : StoreCommand) (line : List ℕ) → IsLine c line → lacks 32 (third_of c) ≡ true
third_lacks (command.Put side id value) line h = number_lacks id h.0.0
third_lacks (command.Get side id) line h = number_lacks id h.0
third_lacks (command.Take side id) line h = number_lacks id h.0
third_lacks (command.Join side other) line h = letter_lacks other

-- a command's line is its name, a space and its tail
pub whole : (c : StoreCommand) → join_with_byte 32 (words_of c) ≡ text_of_name (name_of c) ++ 32 ∷ tail_of c
whole (command.Put side id value) = refl
whole (command.Get side id) = refl
whole (command.Take side id) = refl
whole (command.Join side other) = refl

pub name_cut : (c : StoreCommand) (line name : List ℕ) (rest : Option (List ℕ)) → IsLine c line → IsCut 32 line name rest → (name ≡ text_of_name (name_of c)) × (rest ≡ Some (tail_of c))
name_cut c line name rest h k = one_cut 32 line name (text_of_name (name_of c)) rest (Some (tail_of c)) k ((told 32 (text_of_name (name_of c))).0 (name_lacks (name_of c)), h.1 ∙ whole c)

pub side_cut : (c : StoreCommand) (side : List ℕ) (rest : Option (List ℕ)) → IsCut 32 (tail_of c) side rest → (side ≡ letter_of (side_of c)) × (rest ≡ Some (end_of c))
side_cut c side rest k = one_cut 32 (tail_of c) side (letter_of (side_of c)) rest (Some (end_of c)) k ((told 32 (letter_of (side_of c))).0 (letter_lacks (side_of c)), refl)

pub end_cut : (c : StoreCommand) (line third : List ℕ) (fourth : Option (List ℕ)) → IsLine c line → IsCut 32 (end_of c) third fourth → (third ≡ third_of c) × (fourth ≡ fourth_of c)
end_cut c line third fourth h k = one_cut 32 (end_of c) third (third_of c) fourth (fourth_of c) k (tail_cut (third_of c) (fourth_of c) (third_lacks c line h))

name_by : List ℕ → Name
name_by w = cond (bytes_eq w (codes "put")) name.Put (cond (bytes_eq w (codes "get")) name.Get (cond (bytes_eq w (codes "take")) name.Take name.Join))

name_by-text : (n : Name) → name_by (text_of_name n) ≡ n
unfolding name_by
name_by-text name.Put = refl
name_by-text name.Get = refl
name_by-text name.Take = refl
name_by-text name.Join = refl

pub same_name : (m n : Name) → text_of_name m ≡ text_of_name n → m ≡ n
same_name m n e = sym (name_by-text m) ∙ ap name_by e ∙ name_by-text n

pub letter_by : List ℕ → Side
letter_by w = cond (bytes_eq w (codes "p")) P Q

pub letter_by-text : (s : Side) → letter_by (letter_of s) ≡ s
unfolding letter_by
letter_by-text P = refl
letter_by-text Q = refl

pub same_letter : (s t : Side) → letter_of s ≡ letter_of t → s ≡ t
same_letter s t e = sym (letter_by-text s) ∙ ap letter_by e ∙ letter_by-text t

-- a line without a space is no command's
pub none_cut : (line name : List ℕ) (r : Option (Bor (List ℕ))) → IsCut 32 line name (option_map text_in r) → r ≡ None → (c : StoreCommand) → IsLine c line → ⊥
none_cut line name r k none c h =
    let found = (name_cut c line name (option_map text_in r) h k).1 in
    let lost : option_map text_in r ≡ None = ap (option_map text_in) none in
    absurd (cc)

tail_is : (line name : List ℕ) (r : Option (Bor (List ℕ))) (b : Bor (List ℕ)) → IsCut 32 line name (option_map text_in r) → r ≡ Some b → (c : StoreCommand) → IsLine c line → b.now ≡ tail_of c
tail_is line name r b k some c h = some_inj b.now (tail_of c) (sym (ap (option_map text_in) some) ∙ (name_cut c line name (option_map text_in r) h k).1)

-- the two cuts of a command's line
both_cut : (line name side : List ℕ) (r s : Option (Bor (List ℕ))) (b : Bor (List ℕ)) → IsCut 32 line name (option_map text_in r) → r ≡ Some b → IsCut 32 b.now side (option_map text_in s)
    → (c : StoreCommand) → IsLine c line → (side ≡ letter_of (side_of c)) × (option_map text_in s ≡ Some (end_of c))
both_cut line name side r s b k some l c h = side_cut c side (option_map text_in s) (subst (λ bs. IsCut 32 bs side (option_map text_in s)) (tail_is line name r b k some c h) l)

-- nor is one with one space
pub none_second : (line name side : List ℕ) (r s : Option (Bor (List ℕ))) (b : Bor (List ℕ)) → IsCut 32 line name (option_map text_in r) → r ≡ Some b → IsCut 32 b.now side (option_map text_in s)
    → s ≡ None → (c : StoreCommand) → IsLine c line → ⊥
none_second line name side r s b k some l none c h =
    let found = (both_cut line name side r s b k some l c h).1 in
    let lost : option_map text_in s ≡ None = ap (option_map text_in) none in
    absurd (cc)

-- nor one that begins with no name
pub none_named : (line name : List ℕ) (r : Option (Bor (List ℕ))) → IsCut 32 line name (option_map text_in r) → ((n : Name) → name ≡ text_of_name n → ⊥) → (c : StoreCommand) → IsLine c line → ⊥
none_named line name r k none c h = none (name_of c) (name_cut c line name (option_map text_in r) h k).0

-- nor one whose second word is no column
pub none_side : (line name side : List ℕ) (r s : Option (Bor (List ℕ))) (b : Bor (List ℕ)) → IsCut 32 line name (option_map text_in r) → r ≡ Some b → IsCut 32 b.now side (option_map text_in s)
    → ((x : Side) → side ≡ letter_of x → ⊥) → (c : StoreCommand) → IsLine c line → ⊥
none_side line name side r s b k some l none c h = none (side_of c) (both_cut line name side r s b k some l c h).0

-- a line with a name and a column is read as those and its other words are
pub reads_line : (line name side third : List ℕ) (r s : Option (Bor (List ℕ))) (b d : Bor (List ℕ)) (fourth : Option (List ℕ)) (n : Name) (x : Side) (o : Option StoreCommand)
    → IsCut 32 line name (option_map text_in r) → r ≡ Some b → IsCut 32 b.now side (option_map text_in s) → s ≡ Some d → IsCut 32 d.now third fourth
    → name ≡ text_of_name n → side ≡ letter_of x → ReadsOf n x third fourth o → Reads IsLine line o
reads_line line name side third r s b d fourth n x (Some c) k some l more m named lettered h =
    let front : line ≡ name ++ 32 ∷ b.now = cut_name line name (option_map text_in r) b.now k (ap (option_map text_in) some) in
    let middle : b.now ≡ side ++ 32 ∷ d.now = cut_name b.now side (option_map text_in s) d.now l (ap (option_map text_in) more) in
    let back : d.now ≡ after third fourth = cut_after d.now third fourth m in
    let named_so : name ≡ text_of_name (name_of c) = named ∙ ap text_of_name (sym h.name_is) in
    let side_so : side ≡ letter_of (side_of c) = lettered ∙ ap letter_of (sym h.side_is) in
    let end : d.now ≡ end_of c = back ∙ ap (λ w. after w fourth) (sym h.third_is) ∙ ap (after (third_of c)) (sym h.fourth_is) in
    let tail : b.now ≡ tail_of c = middle ∙ ap (λ z. side ++ 32 ∷ z) end ∙ ap (λ w. w ++ 32 ∷ end_of c) side_so in
    (h.fits, front ∙ ap (λ z. name ++ 32 ∷ z) tail ∙ ap (λ w. w ++ 32 ∷ tail_of c) named_so ∙ sym (whole c))
reads_line line name side third r s b d fourth n x None k some l more m named lettered h = λ c says.
    let both = both_cut line name side r s b k some l c says in
    let end : d.now ≡ end_of c = some_inj d.now (end_of c) (sym (ap (option_map text_in) more) ∙ both.1) in
    let last = end_cut c line third fourth says (subst (λ bs. IsCut 32 bs third fourth) end m) in
    h c (record {
      name_is = same_name (name_of c) n (sym (name_cut c line name (option_map text_in r) says k).0 ∙ named);
      side_is = same_letter (side_of c) x (sym both.0 ∙ lettered);
      third_is = sym last.0;
      fourth_is = sym last.1;
      fits = says.0;
    })
