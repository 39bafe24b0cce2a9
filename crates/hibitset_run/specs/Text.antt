-- The text of commands: each has one line, and a line is one command's or none's.
use Rattle.std.specs.Prelude.{◌≡◌, ℕ, ◌+◌, ◌^◌, ◌<◌, ◌==◌, if◌then◌else◌, ⊤, List, [], ◌∷◌, ◌++◌, length, Option, Some, None, codes}
use Rattle.std.specs.List.{flat_map, join_by, join_with_byte, onto_first}
use Rattle.std.specs.Fmt.{decimal}
use Rattle.hibitset_run.specs.declared.script.Slot.{Slot}
use Rattle.hibitset_run.specs.declared.script.Slot.TheVariants.{A, B, C, D, E, F, G, H}
use Rattle.hibitset_run.specs.declared.script.Layers.{Layers}
use Rattle.hibitset_run.specs.declared.script.Layers.TheVariants.{One, Two, Three, Four}
use Rattle.hibitset_run.specs.declared.script.Command.{Command}
use Rattle.hibitset_run.specs.declared.script.Command.TheVariants as command
use Rattle.hibitset_run.specs.Script.{Answer}
use Rattle.hibitset_run.specs.Script as answer

-- the letter of a set
abbrev pub letter_of : Slot → List ℕ
letter_of A = codes "a"
letter_of B = codes "b"
letter_of C = codes "c"
letter_of D = codes "d"
letter_of E = codes "e"
letter_of F = codes "f"
letter_of G = codes "g"
letter_of H = codes "h"

-- the digit of a number of layers
abbrev pub digit_of : Layers → List ℕ
digit_of One = codes "1"
digit_of Two = codes "2"
digit_of Three = codes "3"
digit_of Four = codes "4"

-- The words of a command. A number is written in decimal, with no leading zero.
abbrev pub words_of : Command → List (List ℕ)
words_of (command.Add set id) = codes "add" ∷ letter_of set ∷ decimal id ∷ []
words_of (command.Remove set id) = codes "remove" ∷ letter_of set ∷ decimal id ∷ []
words_of (command.Has set id) = codes "has" ∷ letter_of set ∷ decimal id ∷ []
words_of (command.List set) = codes "list" ∷ letter_of set ∷ []
words_of (command.Count set) = codes "count" ∷ letter_of set ∷ []
words_of (command.And set other) = codes "and" ∷ letter_of set ∷ letter_of other ∷ []
words_of (command.Or set other) = codes "or" ∷ letter_of set ∷ letter_of other ∷ []
words_of (command.Xor set other) = codes "xor" ∷ letter_of set ∷ letter_of other ∷ []
words_of (command.Clear set) = codes "clear" ∷ letter_of set ∷ []
words_of (command.Same set other) = codes "same" ∷ letter_of set ∷ letter_of other ∷ []
words_of (command.Within set other) = codes "within" ∷ letter_of set ∷ letter_of other ∷ []
words_of (command.Split set layers) = codes "split" ∷ letter_of set ∷ digit_of layers ∷ []

-- the numbers that are written
abbrev pub IsNumber : ℕ → List ℕ → Type 0
IsNumber n bytes = (n < 2 ^ 32) × (bytes ≡ decimal n)

-- the index of the command, if it has one, is a number that is written
abbrev pub Fits : Command → Type 0
Fits (command.Add set id) = id < 2 ^ 32
Fits (command.Remove set id) = id < 2 ^ 32
Fits (command.Has set id) = id < 2 ^ 32
Fits other = ⊤

-- The line says the command: it has its words, with one space between two, and nothing else.
abbrev pub IsLine : Command → List ℕ → Type 0
IsLine command line = Fits command × (line ≡ join_with_byte 32 (words_of command))

-- The bytes were read as the value that they say, or as none where they say no value.
abbrev pub Reads : {X : Type 0} → (X → List ℕ → Type 0) → List ℕ → Option X → Type 0
Reads Says bytes (Some x) = Says x bytes
Reads Says bytes None = (x : _) → Says x bytes → ⊥

-- The lines of a text. A line ends with byte 10, which the last may lack.
abbrev pub lines_of : List ℕ → List (List ℕ)
lines_of [] = []
lines_of (b ∷ bs) = if b == 10 then [] ∷ lines_of bs else onto_first b (lines_of bs)

-- each line says its command
abbrev pub Say : {C : Type 0} → (C → List ℕ → Type 0) → List C → List (List ℕ) → Type 0
Say Says [] [] = ⊤
Say Says (c ∷ cs) (line ∷ lines) = Says c line × Say Says cs lines
Say Says [] (line ∷ lines) = ⊥
Say Says (c ∷ cs) [] = ⊥

-- Line n, counted from 1, is the first that says no command.
pub record IsFirstBad {C : Type 0} (Says : C → List ℕ → Type 0) (lines : List (List ℕ)) (n : ℕ) : Type 0 where
  pub commands : List C
  pub front : List (List ℕ)
  pub line : List ℕ
  pub rest : List (List ℕ)
  pub whole : lines ≡ front ++ line ∷ rest
  pub said : Say Says commands front
  pub bad : (c : C) → Says c line → ⊥
  pub number : n ≡ length front + 1

-- the text of a reply
abbrev pub reply_text : Answer → List ℕ
reply_text (answer.bool holds) = if holds then codes "true" else codes "false"
reply_text (answer.list indices) = join_by decimal (codes " ") indices
reply_text (answer.count number) = decimal number
reply_text answer.done = codes "ok"
reply_text answer.out_of_range = codes "out of range"
reply_text answer.no_memory = codes "no memory"

-- the texts, each with byte 10
abbrev pub printed : {X : Type 0} → (X → List ℕ) → List X → List ℕ
printed text xs = flat_map (λ x. text x ++ 10 ∷ []) xs
