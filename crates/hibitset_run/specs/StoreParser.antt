-- What the steps of reading a line of a store say.
use Rattle.std.specs.Prelude.{◌≡◌, ℕ, List, ◌∷◌, ◌++◌, Some, None, codes}
use Rattle.std.specs.declared.option.Option.{Option}
use Rattle.std.specs.Fmt.{decimal}
use Rattle.hibitset_run.specs.declared.store.Side.{Side}
use Rattle.hibitset_run.specs.declared.store.StoreCommand.{StoreCommand}
use Rattle.hibitset_run.specs.declared.store.StoreCommand.TheVariants as command
use Rattle.hibitset_run.specs.declared.store.text.Name.{Name}
use Rattle.hibitset_run.specs.declared.store.text.Name.TheVariants as name
use Rattle.hibitset_run.specs.ScriptParser.{after}
use Rattle.hibitset_run.specs.StoreText.{Fits, letter_of}

abbrev pub text_of_name : Name → List ℕ
text_of_name name.Put = codes "put"
text_of_name name.Get = codes "get"
text_of_name name.Take = codes "take"
text_of_name name.Join = codes "join"

-- a command's name, its first column, and its third and fourth word
abbrev pub name_of : StoreCommand → Name
name_of (command.Put side id value) = name.Put
name_of (command.Get side id) = name.Get
name_of (command.Take side id) = name.Take
name_of (command.Join side other) = name.Join

abbrev pub side_of : StoreCommand → Side
side_of (command.Put side id value) = side
side_of (command.Get side id) = side
side_of (command.Take side id) = side
side_of (command.Join side other) = side

abbrev pub third_of : StoreCommand → List ℕ
third_of (command.Put side id value) = decimal id
third_of (command.Get side id) = decimal id
third_of (command.Take side id) = decimal id
third_of (command.Join side other) = letter_of other

abbrev pub fourth_of : StoreCommand → Option (List ℕ)
fourth_of (command.Put side id value) = Some (decimal value)
fourth_of (command.Get side id) = None
fourth_of (command.Take side id) = None
fourth_of (command.Join side other) = None

-- the command has this name, column, third and fourth word
pub record IsOf (name : Name) (side : Side) (third : List ℕ) (fourth : Option (List ℕ)) (c : StoreCommand) : Type 0 where
  pub name_is : name_of c ≡ name
  pub side_is : side_of c ≡ side
  pub third_is : third_of c ≡ third
  pub fourth_is : fourth_of c ≡ fourth
  pub fits : Fits c

abbrev pub ReadsOf : Name → Side → List ℕ → Option (List ℕ) → Option StoreCommand → Type 0
ReadsOf name side third fourth (Some c) = IsOf name side third fourth c
ReadsOf name side third fourth None = (c : StoreCommand) → IsOf name side third fourth c → ⊥

-- what follows the column of a command and a space, and what follows its name and a space
abbrev pub end_of : StoreCommand → List ℕ
end_of c = after (third_of c) (fourth_of c)

abbrev pub tail_of : StoreCommand → List ℕ
tail_of c = letter_of (side_of c) ++ 32 ∷ end_of c
