-- No line says two commands of a store.
use Rattle.std.proofs.Common.{◌≡◌, ℕ, ◌^◌, ◌<◌, List, [], refl, ap, sym, subst, ◌∙◌, arith}
use Rattle.std.specs.Prelude.{Some, None}
use Rattle.std.specs.declared.option.Option.{Option}
use Rattle.std.specs.Str.Parse.{digits_value}
use Rattle.std.specs.Fmt.{decimal}
use Rattle.std.proofs.lemmas.Fmt.{decimal_is_IsNumeral}
use Rattle.hibitset_run.specs.declared.store.Side.{Side}
use Rattle.hibitset_run.specs.declared.store.StoreCommand.{StoreCommand}
use Rattle.hibitset_run.specs.declared.store.StoreCommand.TheVariants as command
use Rattle.hibitset_run.specs.declared.store.text.Name.{Name}
use Rattle.hibitset_run.specs.declared.store.text.Name.TheVariants as name
use Rattle.hibitset_run.specs.ScriptParser.{IsCut}
use Rattle.hibitset_run.specs.StoreText.{IsLine, Fits, letter_of}
use Rattle.hibitset_run.specs.StoreParser.{text_of_name, name_of, side_of, third_of, fourth_of, end_of, tail_of}
use Rattle.hibitset_run.proofs.LineLemmas.{told, tail_cut, some_inj}
use Rattle.hibitset_run.proofs.StoreLineLemmas.{name_lacks, letter_lacks, third_lacks, whole, name_cut, side_cut, end_cut, same_name, same_letter, letter_by, letter_by-text}

number_back : (n : ℕ) → n < 2 ^ 32 → digits_value 10 (decimal n) ≡ n
number_back n h = (decimal_is_IsNumeral n (omega arith)).1

word_in : Option (List ℕ) → List ℕ
word_in None = []
word_in (Some w) = w

-- the command of a name, a column, a third and a fourth word
rebuild : Name → Side → List ℕ → List ℕ → StoreCommand
rebuild name.Put side w v = command.Put side (digits_value 10 w) (digits_value 10 v)
rebuild name.Get side w v = command.Get side (digits_value 10 w)
rebuild name.Take side w v = command.Take side (digits_value 10 w)
rebuild name.Join side w v = command.Join side (letter_by w)

rebuilt : (c : StoreCommand) → Fits c → rebuild (name_of c) (side_of c) (third_of c) (word_in (fourth_of c)) ≡ c
unfolding rebuild word_in
rebuilt (command.Put side id value) h = ap (λ i. command.Put side i (digits_value 10 (decimal value))) (number_back id h.0) ∙ ap (λ v. command.Put side id v) (number_back value h.1)
rebuilt (command.Get side id) h = ap (λ i. command.Get side i) (number_back id h)
rebuilt (command.Take side id) h = ap (λ i. command.Take side i) (number_back id h)
rebuilt (command.Join side other) h = ap (λ s. command.Join side s) (letter_by-text other)

pub no_other : (c d : StoreCommand) (line : List ℕ) → IsLine c line → IsLine d line → c ≡ d
no_other c d line h k =
    let first = name_cut c line (text_of_name (name_of d)) (Some (tail_of d)) h ((told 32 (text_of_name (name_of d))).0 (name_lacks (name_of d)), k.1 ∙ whole d) in
    let tails : tail_of d ≡ tail_of c = some_inj (tail_of d) (tail_of c) first.1 in
    let second = side_cut c (letter_of (side_of d)) (Some (end_of d)) (subst (λ bs. IsCut 32 bs (letter_of (side_of d)) (Some (end_of d))) tails ((told 32 (letter_of (side_of d))).0 (letter_lacks (side_of d)), refl)) in
    let ends : end_of d ≡ end_of c = some_inj (end_of d) (end_of c) second.1 in
    let last = end_cut c line (third_of d) (fourth_of d) h (subst (λ bs. IsCut 32 bs (third_of d) (fourth_of d)) ends (tail_cut (third_of d) (fourth_of d) (third_lacks d line k))) in
    let names = same_name (name_of c) (name_of d) (sym first.0) in
    let sides = same_letter (side_of c) (side_of d) (sym second.0) in
    sym (rebuilt c h.0) ∙ ap (λ n. rebuild n (side_of c) (third_of c) (word_in (fourth_of c))) names ∙ ap (λ s. rebuild (name_of d) s (third_of c) (word_in (fourth_of c))) sides
    ∙ ap (λ t. rebuild (name_of d) (side_of d) t (word_in (fourth_of c))) (sym last.0) ∙ ap (λ t. rebuild (name_of d) (side_of d) (third_of d) (word_in t)) (sym last.1) ∙ rebuilt d k.0
