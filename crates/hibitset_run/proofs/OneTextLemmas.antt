-- No line says two commands.
use Rattle.std.proofs.Common.{◌≡◌, ℕ, ◌^◌, ◌<◌, List, [], refl, ap, sym, subst, ◌∙◌, arith, codes, cond}
use Rattle.std.specs.Prelude.{Some, None}
use Rattle.std.specs.declared.option.Option.{Option}
use Rattle.std.specs.Str.{bytes_eq}
use Rattle.std.specs.Str.Parse.{digits_value}
use Rattle.std.specs.Fmt.{decimal}
use Rattle.std.proofs.lemmas.Fmt.{decimal_is_IsNumeral}
use Rattle.hibitset_run.specs.declared.script.Slot.{Slot}
use Rattle.hibitset_run.specs.declared.script.Layers.{Layers}
use Rattle.hibitset_run.specs.declared.script.Layers.TheVariants.{One, Two, Three, Four}
use Rattle.hibitset_run.specs.declared.script.Command.{Command}
use Rattle.hibitset_run.specs.declared.script.Command.TheVariants as command
use Rattle.hibitset_run.specs.declared.script.parse.Name.{Name}
use Rattle.hibitset_run.specs.declared.script.parse.Name.TheVariants as name
use Rattle.hibitset_run.specs.Text.{IsLine, Fits, letter_of, digit_of}
use Rattle.hibitset_run.specs.ScriptParser.{IsCut, tail_of, text_of_name, name_of, set_of, third_of}
use Rattle.hibitset_run.proofs.LineLemmas.{name_cut, set_cut, line_cut, tail_cut, letter_lacks, some_inj, same_name, same_letter, letter_by, letter_by-text}

layers_by : List ℕ → Layers
layers_by w = cond (bytes_eq w (codes "1")) One (cond (bytes_eq w (codes "2")) Two (cond (bytes_eq w (codes "3")) Three Four))

layers_by-text : (l : Layers) → layers_by (digit_of l) ≡ l
unfolding layers_by
layers_by-text One = refl
layers_by-text Two = refl
layers_by-text Three = refl
layers_by-text Four = refl

number_back : (n : ℕ) → n < 2 ^ 32 → digits_value 10 (decimal n) ≡ n
number_back n h = (decimal_is_IsNumeral n (omega arith)).1

word_in : Option (List ℕ) → List ℕ
word_in None = []
word_in (Some w) = w

-- the command of a name, a set and a third word
rebuild : Name → Slot → List ℕ → Command
rebuild name.Add set w = command.Add set (digits_value 10 w)
rebuild name.Remove set w = command.Remove set (digits_value 10 w)
rebuild name.Has set w = command.Has set (digits_value 10 w)
rebuild name.List set w = command.List set
rebuild name.Count set w = command.Count set
rebuild name.And set w = command.And set (letter_by w)
rebuild name.Or set w = command.Or set (letter_by w)
rebuild name.Xor set w = command.Xor set (letter_by w)
rebuild name.Clear set w = command.Clear set
rebuild name.Same set w = command.Same set (letter_by w)
rebuild name.Within set w = command.Within set (letter_by w)
rebuild name.Split set w = command.Split set (layers_by w)

rebuilt : (c : Command) → Fits c → rebuild (name_of c) (set_of c) (word_in (third_of c)) ≡ c
unfolding rebuild word_in
rebuilt (command.Add set id) h = ap (λ i. command.Add set i) (number_back id h)
rebuilt (command.Remove set id) h = ap (λ i. command.Remove set i) (number_back id h)
rebuilt (command.Has set id) h = ap (λ i. command.Has set i) (number_back id h)
rebuilt (command.List set) h = refl
rebuilt (command.Count set) h = refl
rebuilt (command.And set other) h = ap (λ s. command.And set s) (letter_by-text other)
rebuilt (command.Or set other) h = ap (λ s. command.Or set s) (letter_by-text other)
rebuilt (command.Xor set other) h = ap (λ s. command.Xor set s) (letter_by-text other)
rebuilt (command.Clear set) h = refl
rebuilt (command.Same set other) h = ap (λ s. command.Same set s) (letter_by-text other)
rebuilt (command.Within set other) h = ap (λ s. command.Within set s) (letter_by-text other)
rebuilt (command.Split set layers) h = ap (λ l. command.Split set l) (layers_by-text layers)

pub no_other : (c d : Command) (line : List ℕ) → IsLine c line → IsLine d line → c ≡ d
no_other c d line h k =
    let first = name_cut c line (text_of_name (name_of d)) (Some (tail_of d)) h (line_cut d line k) in
    let tails : tail_of d ≡ tail_of c = some_inj (tail_of d) (tail_of c) first.1 in
    let second = set_cut c (letter_of (set_of d)) (third_of d) (subst (λ bs. IsCut 32 bs (letter_of (set_of d)) (third_of d)) tails (tail_cut (letter_of (set_of d)) (third_of d) (letter_lacks (set_of d)))) in
    let names = same_name (name_of c) (name_of d) (sym first.0) in
    let sets = same_letter (set_of c) (set_of d) (sym second.0) in
    sym (rebuilt c h.0) ∙ ap (λ n. rebuild n (set_of c) (word_in (third_of c))) names ∙ ap (λ s. rebuild (name_of d) s (word_in (third_of c))) sets
    ∙ ap (λ t. rebuild (name_of d) (set_of d) (word_in t)) (sym second.1) ∙ rebuilt d k.0
