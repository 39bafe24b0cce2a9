-- A line is cut in one way alone.
use Rattle.std.proofs.Common.{◌≡◌, ◌≢◌, ℕ, true, not, ◌==◌, List, [], ◌∷◌, ◌++◌, refl, ap, sym, subst, ◌∙◌, arith, codes, Bor, cond}
use Rattle.std.specs.Prelude.{Some, None}
use Rattle.std.specs.Option.{option_map}
use Rattle.std.specs.Str.{bytes_eq}
use Rattle.std.specs.declared.option.Option.{Option}
use Rattle.std.specs.List.{join_with_byte}
use Rattle.std.specs.Bool.{Decides}
use Rattle.std.proofs.lemmas.Bool.Decides.{Decides-by_and, nat_tests}
use Rattle.hibitset_run.specs.declared.script.Slot.{Slot}
use Rattle.hibitset_run.specs.declared.script.Slot.TheVariants.{A, B, C, D, E, F, G, H}
use Rattle.hibitset_run.specs.declared.script.Command.{Command}
use Rattle.hibitset_run.specs.declared.script.Command.TheVariants as command
use Rattle.hibitset_run.specs.declared.script.parse.Name.{Name}
use Rattle.hibitset_run.specs.declared.script.parse.Name.TheVariants as name
use Rattle.hibitset_run.specs.Text.{IsLine, Reads, letter_of, words_of}
use Rattle.hibitset_run.specs.ScriptParser.{Lacks, IsCut, ReadsOf, lacks, after, tail_of, text_of_name, name_of, set_of, third_of}

decides : (byte b : ℕ) → Decides (not (b == byte)) (b ≢ byte)
decides byte b = (λ e. λ same. grind (arith, nat_tests), λ apart. grind (arith, nat_tests))

pub told : (byte : ℕ) (bs : List ℕ) → Decides (lacks byte bs) (Lacks byte bs)
told byte bs = Decides-by_and (λ b. not (b == byte)) (λ b. b ≢ byte) (lacks byte) (decides byte) refl (λ _ _. refl) bs

cut_unique : (byte : ℕ) (a b x y : List ℕ) → lacks byte a ≡ true → lacks byte b ≡ true → a ++ byte ∷ x ≡ b ++ byte ∷ y → (a ≡ b) × (x ≡ y)
cut_unique byte [] [] x y ha hb e = (refl, cc)
cut_unique byte [] (b ∷ bs) x y ha hb e = absurd (grind (arith, nat_tests))
cut_unique byte (a ∷ more) [] x y ha hb e = absurd (grind (arith, nat_tests))
cut_unique byte (a ∷ more) (b ∷ bs) x y ha hb e =
    let same : a ≡ b = cc in
    let rest = cut_unique byte more bs x y (grind (arith, nat_tests)) (grind (arith, nat_tests)) (cc) in
    (cc, rest.1)

had : (byte : ℕ) (a x : List ℕ) → lacks byte (a ++ byte ∷ x) ≡ true → ⊥
had byte [] x h = grind (arith, nat_tests)
had byte (a ∷ more) x h = had byte more x (grind (arith, nat_tests))

pub one_cut : (byte : ℕ) (bs f g : List ℕ) (r s : Option (List ℕ)) → IsCut byte bs f r → IsCut byte bs g s → (f ≡ g) × (r ≡ s)
one_cut byte bs f g None None h k = (sym h.1 ∙ k.1, refl)
one_cut byte bs f g None (Some y) h k = absurd (had byte g y (subst (λ l. lacks byte l ≡ true) (sym h.1 ∙ k.1) ((told byte f).1 h.0)))
one_cut byte bs f g (Some x) None h k = absurd (had byte f x (subst (λ l. lacks byte l ≡ true) (sym k.1 ∙ h.1) ((told byte g).1 k.0)))
one_cut byte bs f g (Some x) (Some y) h k =
    let both = cut_unique byte f g x y ((told byte f).1 h.0) ((told byte g).1 k.0) (sym h.1 ∙ k.1) in
    (both.0, ap Some both.1)

name_lacks : (n : Name) → lacks 32 (text_of_name n) ≡ true
name_lacks name.Add = refl
name_lacks name.Remove = refl
name_lacks name.Has = refl
name_lacks name.List = refl
name_lacks name.Count = refl
name_lacks name.And = refl
name_lacks name.Or = refl
name_lacks name.Xor = refl
name_lacks name.Clear = refl
name_lacks name.Same = refl
name_lacks name.Within = refl
name_lacks name.Split = refl

pub letter_lacks : (s : Slot) → lacks 32 (letter_of s) ≡ true
letter_lacks A = refl
letter_lacks B = refl
letter_lacks C = refl
letter_lacks D = refl
letter_lacks E = refl
letter_lacks F = refl
letter_lacks G = refl
letter_lacks H = refl

-- a command's line is its name, a space and its tail
pub whole : (c : Command) → join_with_byte 32 (words_of c) ≡ text_of_name (name_of c) ++ 32 ∷ tail_of c
whole (command.Add set id) = refl
whole (command.Remove set id) = refl
whole (command.Has set id) = refl
whole (command.List set) = refl
whole (command.Count set) = refl
whole (command.And set other) = refl
whole (command.Or set other) = refl
whole (command.Xor set other) = refl
whole (command.Clear set) = refl
whole (command.Same set other) = refl
whole (command.Within set other) = refl
whole (command.Split set layers) = refl

pub line_cut : (c : Command) (line : List ℕ) → IsLine c line → IsCut 32 line (text_of_name (name_of c)) (Some (tail_of c))
line_cut c line h = ((told 32 (text_of_name (name_of c))).0 (name_lacks (name_of c)), h.1 ∙ whole c)

pub tail_cut : (w : List ℕ) (o : Option (List ℕ)) → lacks 32 w ≡ true → IsCut 32 (after w o) w o
tail_cut w None h = ((told 32 w).0 h, refl)
tail_cut w (Some t) h = ((told 32 w).0 h, refl)

-- what is cut of a command's line is its name and its tail, and of that its set and its third word
pub name_cut : (c : Command) (line name : List ℕ) (rest : Option (List ℕ)) → IsLine c line → IsCut 32 line name rest → (name ≡ text_of_name (name_of c)) × (rest ≡ Some (tail_of c))
name_cut c line name rest h k = one_cut 32 line name (text_of_name (name_of c)) rest (Some (tail_of c)) k (line_cut c line h)

pub set_cut : (c : Command) (set : List ℕ) (third : Option (List ℕ)) → IsCut 32 (tail_of c) set third → (set ≡ letter_of (set_of c)) × (third ≡ third_of c)
set_cut c set third k = one_cut 32 (tail_of c) set (letter_of (set_of c)) third (third_of c) k (tail_cut (letter_of (set_of c)) (third_of c) (letter_lacks (set_of c)))

-- no two names are alike, nor two letters
name_by : List ℕ → Name
name_by w = cond (bytes_eq w (codes "add")) name.Add (cond (bytes_eq w (codes "remove")) name.Remove (cond (bytes_eq w (codes "has")) name.Has
    (cond (bytes_eq w (codes "list")) name.List (cond (bytes_eq w (codes "count")) name.Count (cond (bytes_eq w (codes "and")) name.And
    (cond (bytes_eq w (codes "or")) name.Or (cond (bytes_eq w (codes "xor")) name.Xor (cond (bytes_eq w (codes "clear")) name.Clear
    (cond (bytes_eq w (codes "same")) name.Same (cond (bytes_eq w (codes "within")) name.Within name.Split))))))))))

name_by-text : (n : Name) → name_by (text_of_name n) ≡ n
unfolding name_by
name_by-text name.Add = refl
name_by-text name.Remove = refl
name_by-text name.Has = refl
name_by-text name.List = refl
name_by-text name.Count = refl
name_by-text name.And = refl
name_by-text name.Or = refl
name_by-text name.Xor = refl
name_by-text name.Clear = refl
name_by-text name.Same = refl
name_by-text name.Within = refl
name_by-text name.Split = refl

pub same_name : (m n : Name) → text_of_name m ≡ text_of_name n → m ≡ n
same_name m n e = sym (name_by-text m) ∙ ap name_by e ∙ name_by-text n

pub letter_by : List ℕ → Slot
letter_by w = cond (bytes_eq w (codes "a")) A (cond (bytes_eq w (codes "b")) B (cond (bytes_eq w (codes "c")) C (cond (bytes_eq w (codes "d")) D
    (cond (bytes_eq w (codes "e")) E (cond (bytes_eq w (codes "f")) F (cond (bytes_eq w (codes "g")) G H))))))

pub letter_by-text : (s : Slot) → letter_by (letter_of s) ≡ s
unfolding letter_by
letter_by-text A = refl
letter_by-text B = refl
letter_by-text C = refl
letter_by-text D = refl
letter_by-text E = refl
letter_by-text F = refl
letter_by-text G = refl
letter_by-text H = refl

pub same_letter : (s t : Slot) → letter_of s ≡ letter_of t → s ≡ t
same_letter s t e = sym (letter_by-text s) ∙ ap letter_by e ∙ letter_by-text t

-- the bytes that a slice has
abbrev pub text_in : Bor (List ℕ) → List ℕ
text_in slice = slice.now

-- a line without a space is no command's
pub none_cut : (line name : List ℕ) (r : Option (Bor (List ℕ))) → IsCut 32 line name (option_map text_in r) → r ≡ None → (c : Command) → IsLine c line → ⊥
none_cut line name r k none c h =
    let found = (name_cut c line name (option_map text_in r) h k).1 in
    let lost : option_map text_in r ≡ None = ap (option_map text_in) none in
    absurd (cc)

-- nor is one that begins with no name
pub none_named : (line name : List ℕ) (r : Option (Bor (List ℕ))) → IsCut 32 line name (option_map text_in r) → ((n : Name) → name ≡ text_of_name n → ⊥) → (c : Command) → IsLine c line → ⊥
none_named line name r k none c h = none (name_of c) (name_cut c line name (option_map text_in r) h k).0

pub some_inj : (x y : List ℕ) → Some x ≡ Some y → x ≡ y
some_inj x y e = cc

tail_is : (line name : List ℕ) (r : Option (Bor (List ℕ))) (b : Bor (List ℕ)) → IsCut 32 line name (option_map text_in r) → r ≡ Some b → (c : Command) → IsLine c line → b.now ≡ tail_of c
tail_is line name r b k some c h = some_inj b.now (tail_of c) (sym (ap (option_map text_in) some) ∙ (name_cut c line name (option_map text_in r) h k).1)

-- nor is one whose second word is no set
pub none_set : (line name set : List ℕ) (r : Option (Bor (List ℕ))) (b : Bor (List ℕ)) (third : Option (List ℕ)) → IsCut 32 line name (option_map text_in r) → r ≡ Some b → IsCut 32 b.now set third
    → ((s : Slot) → set ≡ letter_of s → ⊥) → (c : Command) → IsLine c line → ⊥
none_set line name set r b third k some l none c h =
    none (set_of c) (set_cut c set third (subst (λ bs. IsCut 32 bs set third) (tail_is line name r b k some c h) l)).0

pub cut_after : (bs set : List ℕ) (third : Option (List ℕ)) → IsCut 32 bs set third → bs ≡ after set third
cut_after bs set None h = h.1
cut_after bs set (Some t) h = h.1

pub cut_name : (line name : List ℕ) (r : Option (List ℕ)) (t : List ℕ) → IsCut 32 line name r → r ≡ Some t → line ≡ name ++ 32 ∷ t
cut_name line name None t k e = absurd (cc)
cut_name line name (Some s) t k e = k.1 ∙ ap (λ x. name ++ 32 ∷ x) (some_inj s t e)

-- a line with a name and a set is read as those and its third word are
pub reads_line : (line name set : List ℕ) (r : Option (Bor (List ℕ))) (b : Bor (List ℕ)) (third : Option (List ℕ)) (n : Name) (s : Slot) (o : Option Command)
    → IsCut 32 line name (option_map text_in r) → r ≡ Some b → IsCut 32 b.now set third
    → name ≡ text_of_name n → set ≡ letter_of s → ReadsOf n s third o → Reads IsLine line o
reads_line line name set r b third n s (Some c) k some l named lettered h =
    let front : line ≡ name ++ 32 ∷ b.now = cut_name line name (option_map text_in r) b.now k (ap (option_map text_in) some) in
    let back : b.now ≡ after set third = cut_after b.now set third l in
    let named_so : name ≡ text_of_name (name_of c) = named ∙ ap text_of_name (sym h.name_is) in
    let set_so : set ≡ letter_of (set_of c) = lettered ∙ ap letter_of (sym h.set_is) in
    let tail : after set third ≡ tail_of c = ap (λ w. after w third) set_so ∙ ap (after (letter_of (set_of c))) (sym h.third_is) in
    (h.fits, front ∙ ap (λ x. name ++ 32 ∷ x) (back ∙ tail) ∙ ap (λ w. w ++ 32 ∷ tail_of c) named_so ∙ sym (whole c))
reads_line line name set r b third n s None k some l named lettered h = λ c says.
    let both = set_cut c set third (subst (λ bs. IsCut 32 bs set third) (tail_is line name r b k some c says) l) in
    h c (record {
      name_is = same_name (name_of c) n (sym (name_cut c line name (option_map text_in r) says k).0 ∙ named);
      set_is = same_letter (set_of c) s (sym both.0 ∙ lettered);
      third_is = sym both.1;
      fits = says.0;
    })
