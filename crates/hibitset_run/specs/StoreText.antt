-- The text of commands on two columns and of their replies.
use Rattle.std.specs.Prelude.{◌≡◌, ℕ, ◌^◌, ◌<◌, ⊤, List, [], ◌∷◌, ◌++◌, Some, None, codes}
use Rattle.std.specs.List.{join_by, join_with_byte}
use Rattle.std.specs.Fmt.{decimal}
use Rattle.hibitset_run.specs.declared.store.Side.{Side}
use Rattle.hibitset_run.specs.declared.store.Side.TheVariants.{P, Q}
use Rattle.hibitset_run.specs.declared.store.StoreCommand.{StoreCommand}
use Rattle.hibitset_run.specs.declared.store.StoreCommand.TheVariants as command
use Rattle.hibitset_run.specs.Store.{Answer}
use Rattle.hibitset_run.specs.Store as answer

-- the letter of a column
abbrev pub letter_of : Side → List ℕ
letter_of P = codes "p"
letter_of Q = codes "q"

-- the words of a command
abbrev pub words_of : StoreCommand → List (List ℕ)
words_of (command.Put side id value) = codes "put" ∷ letter_of side ∷ decimal id ∷ decimal value ∷ []
words_of (command.Get side id) = codes "get" ∷ letter_of side ∷ decimal id ∷ []
words_of (command.Take side id) = codes "take" ∷ letter_of side ∷ decimal id ∷ []
words_of (command.Join side other) = codes "join" ∷ letter_of side ∷ letter_of other ∷ []

-- its numbers are numbers that are written
abbrev pub Fits : StoreCommand → Type 0
Fits (command.Put side id value) = (id < 2 ^ 32) × (value < 2 ^ 32)
Fits (command.Get side id) = id < 2 ^ 32
Fits (command.Take side id) = id < 2 ^ 32
Fits (command.Join side other) = ⊤

-- The line says the command: it has its words, with one space between two, and nothing else.
abbrev pub IsLine : StoreCommand → List ℕ → Type 0
IsLine command line = Fits command × (line ≡ join_with_byte 32 (words_of command))

-- an index with its two values
abbrev pub pair_text : ℕ × ℕ × ℕ → List ℕ
pair_text pair = decimal pair.0 ++ (58 ∷ (decimal pair.1 ++ (58 ∷ decimal pair.2)))

-- the text of a reply
abbrev pub reply_text : Answer → List ℕ
reply_text (answer.value (Some v)) = decimal v
reply_text (answer.value None) = codes "none"
reply_text (answer.joint list) = join_by pair_text (codes " ") list
reply_text answer.out_of_range = codes "out of range"
reply_text answer.no_memory = codes "no memory"
