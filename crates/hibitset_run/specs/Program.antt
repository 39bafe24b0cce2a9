-- What the program writes, and how it ends, as a relation to the lines that it read.
use Rattle.std.specs.Prelude.{◌≡◌, ◌⊎◌, ℕ, ◌+◌, ⊤, Bool, false, List, [], ◌∷◌, ◌++◌, None, codes}
use Rattle.std.specs.declared.option.Option.{Option}
use Rattle.std.specs.Bool.{MatchBool}
use Rattle.std.specs.Str.{bytes_eq}
use Rattle.std.specs.Io.KnownBytes.{Appends, IsAtEnd, Keeps}
use Rattle.hibitset_run.specs.declared.script.Slot.{Slot}
use Rattle.hibitset_run.specs.declared.script.Command.{Command}
use Rattle.hibitset_run.specs.declared.script.text.Ended.{Ended}
use Rattle.hibitset_run.specs.declared.script.text.Ended.TheVariants.{Done, BadLine, NoMemory, InputFailed, OutputFailed}
use Rattle.hibitset_run.specs.declared.store.Side.{Side}
use Rattle.hibitset_run.specs.declared.store.StoreCommand.{StoreCommand}
use Rattle.hibitset_run.specs.Script as script
use Rattle.hibitset_run.specs.Store as store
use Rattle.hibitset_run.specs.Text.{IsLine, Say, IsFirstBad, printed, reply_text}
use Rattle.hibitset_run.specs.StoreText as store_text

-- The output that a script of these lines may have: each line says a command, the commands are run one after the other
-- on empty sets, and the text of each answer is a line.
pub record IsOutput (lines : List (List ℕ)) (output : List ℕ) : Type 0 where
  pub commands : List Command
  pub answers : List script.Answer
  pub before : script.Sets
  pub after : script.Sets
  pub said : Say IsLine commands lines
  pub none : (slot : Slot) (i : ℕ) → before slot i ≡ false
  pub run : script.IsRun commands before answers after
  pub text : output ≡ printed reply_text answers

-- the same of the lines of a store, on empty columns
pub record IsStoreOutput (lines : List (List ℕ)) (output : List ℕ) : Type 0 where
  pub commands : List StoreCommand
  pub answers : List store.Answer
  pub before : store.Columns
  pub after : store.Columns
  pub said : Say store_text.IsLine commands lines
  pub none : (side : Side) (i : ℕ) → before side i ≡ None
  pub run : store.IsRun commands before answers after
  pub text : output ≡ printed store_text.reply_text answers

-- A front of such an output was written: a part of it, or all.
pub record WritesPart (Output : List ℕ → Type 0) (old new : Option (List ℕ)) : Type 0 where
  pub output : List ℕ
  pub part : List ℕ
  pub rest : List ℕ
  pub is_output : Output output
  pub whole : output ≡ part ++ rest
  pub written : Appends old new part

-- How a script of these lines, which were read, may end, and what the writer holds then beside what it held, where its
-- bytes are known.
abbrev pub Ends : List (List ℕ) → Ended → Option (List ℕ) → Option (List ℕ) → Type 0
Ends lines Done old new = (output : List ℕ) × IsOutput lines output × Appends old new output
Ends lines (BadLine n) old new = IsFirstBad IsLine lines n × Keeps old new
Ends lines InputFailed old new = ⊥
Ends lines NoMemory old new = Keeps old new ⊎ WritesPart (IsOutput lines) old new
Ends lines OutputFailed old new = WritesPart (IsOutput lines) old new

-- The same of the lines of a store, which stand behind one line.
abbrev pub StoreEnds : List (List ℕ) → Ended → Option (List ℕ) → Option (List ℕ) → Type 0
StoreEnds lines Done old new = (output : List ℕ) × IsStoreOutput lines output × Appends old new output
StoreEnds lines (BadLine n) old new = (k : ℕ) × IsFirstBad store_text.IsLine lines k × (n ≡ 1 + k) × Keeps old new
StoreEnds lines InputFailed old new = ⊥
StoreEnds lines NoMemory old new = Keeps old new ⊎ WritesPart (IsStoreOutput lines) old new
StoreEnds lines OutputFailed old new = WritesPart (IsStoreOutput lines) old new

-- the first line is `store`
abbrev pub is_store : List (List ℕ) → Bool
is_store [] = false
is_store (line ∷ lines) = bytes_eq line (codes "store")

-- How a script that was read ends: a first line `store` makes the others those of a store.
abbrev pub EndsScript : List (List ℕ) → Ended → Option (List ℕ) → Option (List ℕ) → Type 0
EndsScript [] ended old new = Ends [] ended old new
EndsScript (line ∷ lines) ended old new = MatchBool (bytes_eq line (codes "store")) (StoreEnds lines ended old new) (Ends (line ∷ lines) ended old new)

-- How a text of these lines may end: a read may fail before the lines are run.
abbrev pub EndsText : List (List ℕ) → Ended → Option (List ℕ) → Option (List ℕ) → Type 0
EndsText lines InputFailed old new = Keeps old new
EndsText lines Done old new = EndsScript lines Done old new
EndsText lines (BadLine n) old new = EndsScript lines (BadLine n) old new
EndsText lines NoMemory old new = EndsScript lines NoMemory old new
EndsText lines OutputFailed old new = EndsScript lines OutputFailed old new

-- The reader is at its end, unless a read or an allocation failed.
abbrev pub ReadsAll : Ended → Option (List ℕ) → Type 0
ReadsAll Done left = IsAtEnd left
ReadsAll (BadLine n) left = IsAtEnd left
ReadsAll OutputFailed left = IsAtEnd left
ReadsAll NoMemory left = ⊤
ReadsAll InputFailed left = ⊤
