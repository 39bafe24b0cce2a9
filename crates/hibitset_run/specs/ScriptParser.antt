-- What the steps of reading a line say.
use Rattle.std.specs.Prelude.{◌≡◌, ◌≢◌, ℕ, ◌+◌, ⊤, Bool, true, not, ◌&&◌, ◌==◌, List, [], ◌∷◌, ◌++◌, Option, Some, None, codes}
use Rattle.std.specs.List.{All}
use Rattle.hibitset_run.specs.declared.script.Slot.{Slot}
use Rattle.hibitset_run.specs.declared.script.Command.{Command}
use Rattle.hibitset_run.specs.declared.script.Command.TheVariants as command
use Rattle.hibitset_run.specs.declared.script.parse.Name.{Name}
use Rattle.hibitset_run.specs.declared.script.parse.Name.TheVariants as name
use Rattle.hibitset_run.specs.declared.script.text.Ended.{Ended}
use Rattle.hibitset_run.specs.declared.script.text.Ended.TheVariants.{BadLine, NoMemory, InputFailed, OutputFailed}
use Rattle.std.specs.Io.KnownBytes.{Appends}
use Rattle.hibitset_run.specs.Text.{letter_of, digit_of, Fits, IsFirstBad}
use Rattle.std.specs.Fmt.{decimal}

-- the byte is not among them
abbrev pub Lacks : ℕ → List ℕ → Type 0
Lacks byte bytes = All (λ b. b ≢ byte) bytes

-- the bytes are cut at the first place of a byte, if it has one
abbrev pub IsCut : ℕ → List ℕ → List ℕ → Option (List ℕ) → Type 0
IsCut byte bytes front None = Lacks byte front × (bytes ≡ front)
IsCut byte bytes front (Some rest) = Lacks byte front × (bytes ≡ front ++ byte ∷ rest)

abbrev pub text_of_name : Name → List ℕ
text_of_name name.Add = codes "add"
text_of_name name.Remove = codes "remove"
text_of_name name.Has = codes "has"
text_of_name name.List = codes "list"
text_of_name name.Count = codes "count"
text_of_name name.And = codes "and"
text_of_name name.Or = codes "or"
text_of_name name.Xor = codes "xor"
text_of_name name.Clear = codes "clear"
text_of_name name.Same = codes "same"
text_of_name name.Within = codes "within"
text_of_name name.Split = codes "split"

-- a command's name, its first set, and its third word
abbrev pub name_of : Command → Name
name_of (command.Add set id) = name.Add
name_of (command.Remove set id) = name.Remove
name_of (command.Has set id) = name.Has
name_of (command.List set) = name.List
name_of (command.Count set) = name.Count
name_of (command.And set other) = name.And
name_of (command.Or set other) = name.Or
name_of (command.Xor set other) = name.Xor
name_of (command.Clear set) = name.Clear
name_of (command.Same set other) = name.Same
name_of (command.Within set other) = name.Within
name_of (command.Split set layers) = name.Split

abbrev pub set_of : Command → Slot
set_of (command.Add set id) = set
set_of (command.Remove set id) = set
set_of (command.Has set id) = set
set_of (command.List set) = set
set_of (command.Count set) = set
set_of (command.And set other) = set
set_of (command.Or set other) = set
set_of (command.Xor set other) = set
set_of (command.Clear set) = set
set_of (command.Same set other) = set
set_of (command.Within set other) = set
set_of (command.Split set layers) = set

abbrev pub third_of : Command → Option (List ℕ)
third_of (command.Add set id) = Some (decimal id)
third_of (command.Remove set id) = Some (decimal id)
third_of (command.Has set id) = Some (decimal id)
third_of (command.List set) = None
third_of (command.Count set) = None
third_of (command.And set other) = Some (letter_of other)
third_of (command.Or set other) = Some (letter_of other)
third_of (command.Xor set other) = Some (letter_of other)
third_of (command.Clear set) = None
third_of (command.Same set other) = Some (letter_of other)
third_of (command.Within set other) = Some (letter_of other)
third_of (command.Split set layers) = Some (digit_of layers)

-- the command has this name, set and third word
pub record IsOf (name : Name) (set : Slot) (third : Option (List ℕ)) (c : Command) : Type 0 where
  pub name_is : name_of c ≡ name
  pub set_is : set_of c ≡ set
  pub third_is : third_of c ≡ third
  pub fits : Fits c

abbrev pub ReadsOf : Name → Slot → Option (List ℕ) → Option Command → Type 0
ReadsOf name set third (Some c) = IsOf name set third c
ReadsOf name set third None = (c : Command) → IsOf name set third c → ⊥

-- the byte is not among them, as a test
abbrev pub lacks : ℕ → List ℕ → Bool
lacks byte [] = true
lacks byte (b ∷ bs) = not (b == byte) && lacks byte bs

-- a word, and behind a space the next, where there is one
abbrev pub after : List ℕ → Option (List ℕ) → List ℕ
after word None = word
after word (Some next) = word ++ 32 ∷ next

-- what follows the name of a command and a space
abbrev pub tail_of : Command → List ℕ
tail_of c = after (letter_of (set_of c)) (third_of c)

-- what reading, commands and printing fail with
abbrev pub IsReadFault : Ended → Type 0
IsReadFault NoMemory = ⊤
IsReadFault InputFailed = ⊤
IsReadFault other = ⊥

abbrev pub IsLineFault : {C : Type 0} → (C → List ℕ → Type 0) → List (List ℕ) → ℕ → Ended → Type 0
IsLineFault Says lines before NoMemory = ⊤
IsLineFault Says lines before (BadLine n) = (k : ℕ) × IsFirstBad Says lines k × (n ≡ before + k)
IsLineFault Says lines before other = ⊥

abbrev pub IsPrintFault : Ended → Type 0
IsPrintFault NoMemory = ⊤
IsPrintFault OutputFailed = ⊤
IsPrintFault other = ⊥

-- a part of the text that is ready went to the writer
abbrev pub Moves : Option (List ℕ) → Option (List ℕ) → List ℕ → List ℕ → Type 0
Moves old new before text = (part : List ℕ) × Appends old new part × (before ≡ part ++ text)

-- a front of the text went to the writer
abbrev pub WritesFront : Option (List ℕ) → Option (List ℕ) → List ℕ → Type 0
WritesFront old new text = (rest : List ℕ) × Moves old new text rest
