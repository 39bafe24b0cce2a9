-- How the program ends, from how its parts did.
use Rattle.std.proofs.Common.{◌≡◌, ℕ, Bool, true, false, List, [], ◌∷◌, ◌++◌, map, refl, ap, sym, subst, ◌∙◌, arith, codes, not, inl, inr}
use Rattle.std.specs.Prelude.{Some, None, IfSome}
use Rattle.std.specs.declared.option.Option.{Option}
use Rattle.std.specs.Bool.{MatchBool}
use Rattle.std.specs.Str.{bytes_eq}
use Rattle.std.specs.Io.KnownBytes.{IsAtEnd, Keeps}
use Rattle.hibitset_run.specs.declared.script.text.Ended.{Ended}
use Rattle.hibitset_run.specs.declared.script.text.Ended.TheVariants.{Done, BadLine, NoMemory, InputFailed, OutputFailed}
use Rattle.hibitset_run.specs.declared.script.Slot.{Slot}
use Rattle.hibitset_run.specs.declared.script.Command.{Command}
use Rattle.hibitset_run.specs.declared.script.Reply.{Reply}
use Rattle.hibitset_run.specs.declared.store.Side.{Side}
use Rattle.hibitset_run.specs.declared.store.StoreCommand.{StoreCommand}
use Rattle.hibitset_run.specs.declared.store.StoreReply.{StoreReply}
use Rattle.hibitset_run.specs.Script as script
use Rattle.hibitset_run.specs.Store as store
use Rattle.hibitset_run.specs.Text.{IsLine, Say, printed, lines_of, reply_text}
use Rattle.hibitset_run.specs.ScriptParser.{IsReadFault, IsPrintFault, WritesFront}
use Rattle.hibitset_run.specs.Program.{Ends, StoreEnds, EndsScript, EndsText, ReadsAll, IsOutput, IsStoreOutput, WritesPart, is_store}
use Rattle.hibitset_run.specs.StoreText as store_text
use Rattle.hibitset_run.specs.ScriptParser.{IsCut}
use Rattle.hibitset_run.proofs.TextLemmas.{cut_lines}

keeps_same : (o : Option (List ℕ)) → Keeps o o
keeps_same None = tt
keeps_same (Some xs) = refl

pub no_memory_ends : (lines : List (List ℕ)) (o : Option (List ℕ)) → Ends lines NoMemory o o
no_memory_ends lines o = inl (keeps_same o)

pub store_no_memory_ends : (lines : List (List ℕ)) (o : Option (List ℕ)) → StoreEnds lines NoMemory o o
store_no_memory_ends lines o = inl (keeps_same o)

part_of : (Output : List ℕ → Type 0) (output : List ℕ) (old new : Option (List ℕ)) → Output output → WritesFront old new output → WritesPart Output old new
part_of Output output old new is front = record { output = output; part = front.1.0; rest = front.0; is_output = is; whole = front.1.2; written = front.1.1 }

pub printed_map : {X Y : Type 0} (text : Y → List ℕ) (f : X → Y) (xs : List X) → printed (λ x. text (f x)) xs ≡ printed text (map f xs)
printed_map text f [] = refl
printed_map text f (x ∷ xs) = ap (λ z. (text (f x) ++ 10 ∷ []) ++ z) (printed_map text f xs)

-- the replies of a run on empty sets, and on empty columns, printed
pub output_of : (lines : List (List ℕ)) (commands : List Command) (replies : List Reply) (before after : script.Sets) → Say IsLine commands lines → ((slot : Slot) (i : ℕ) → before slot i ≡ false) → script.IsRun commands before (map script.answer_of replies) after → IsOutput lines (printed (λ r. reply_text (script.answer_of r)) replies)
output_of lines commands replies before after said none run = record {
  commands = commands;
  answers = map script.answer_of replies;
  before = before;
  after = after;
  said = said;
  none = none;
  run = run;
  text = printed_map reply_text script.answer_of replies;
}

pub store_output_of : (lines : List (List ℕ)) (commands : List StoreCommand) (replies : List StoreReply) (before after : store.Columns) → Say store_text.IsLine commands lines → ((side : Side) (i : ℕ) → before side i ≡ None) → store.IsRun commands before (map store.answer_of replies) after → IsStoreOutput lines (printed (λ r. store_text.reply_text (store.answer_of r)) replies)
store_output_of lines commands replies before after said none run = record {
  commands = commands;
  answers = map store.answer_of replies;
  before = before;
  after = after;
  said = said;
  none = none;
  run = run;
  text = printed_map store_text.reply_text store.answer_of replies;
}

pub print_ends : (lines : List (List ℕ)) (e : Ended) (output : List ℕ) (old new : Option (List ℕ)) → IsOutput lines output → IsPrintFault e → WritesFront old new output → Ends lines e old new
print_ends lines Done output old new is h front = absurd h
print_ends lines (BadLine n) output old new is h front = absurd h
print_ends lines NoMemory output old new is h front = inr (part_of (IsOutput lines) output old new is front)
print_ends lines InputFailed output old new is h front = absurd h
print_ends lines OutputFailed output old new is h front = part_of (IsOutput lines) output old new is front

pub store_print_ends : (lines : List (List ℕ)) (e : Ended) (output : List ℕ) (old new : Option (List ℕ)) → IsStoreOutput lines output → IsPrintFault e → WritesFront old new output → StoreEnds lines e old new
store_print_ends lines Done output old new is h front = absurd h
store_print_ends lines (BadLine n) output old new is h front = absurd h
store_print_ends lines NoMemory output old new is h front = inr (part_of (IsStoreOutput lines) output old new is front)
store_print_ends lines InputFailed output old new is h front = absurd h
store_print_ends lines OutputFailed output old new is h front = part_of (IsStoreOutput lines) output old new is front

either_way : (b : Bool) (X Y : Type 0) → X → Y → MatchBool b X Y
either_way true X Y x y = x
either_way false X Y x y = y

memory_ends : (lines : List (List ℕ)) (o : Option (List ℕ)) → EndsScript lines NoMemory o o
memory_ends [] o = no_memory_ends [] o
memory_ends (line ∷ lines) o = either_way (bytes_eq line (codes "store")) (StoreEnds lines NoMemory o o) (Ends (line ∷ lines) NoMemory o o) (store_no_memory_ends lines o) (no_memory_ends (line ∷ lines) o)

-- what ends before the lines are run
read_ends : (lines : List (List ℕ)) (e : Ended) (o : Option (List ℕ)) → IsReadFault e → EndsText lines e o o
read_ends lines Done o h = absurd h
read_ends lines (BadLine n) o h = absurd h
read_ends lines NoMemory o h = memory_ends lines o
read_ends lines InputFailed o h = keeps_same o
read_ends lines OutputFailed o h = absurd h

-- whatever was left to be read
pub unread : (left : Option (List ℕ)) (e : Ended) (o : Option (List ℕ)) → IsReadFault e → IfSome left (λ input. EndsText (lines_of input) e o o)
unread None e o h = tt
unread (Some input) e o h = read_ends (lines_of input) e o h

neither_way : (b : Bool) (X : Type 0) → MatchBool b ⊥ ⊥ → X
neither_way true X h = absurd h
neither_way false X h = absurd h

-- A script that was read ends as a text does.
script_ends : (lines : List (List ℕ)) (e : Ended) (old new : Option (List ℕ)) → EndsScript lines e old new → EndsText lines e old new
script_ends lines Done old new h = h
script_ends lines (BadLine n) old new h = h
script_ends lines NoMemory old new h = h
script_ends [] InputFailed old new h = absurd h
script_ends (line ∷ lines) InputFailed old new h = neither_way (bytes_eq line (codes "store")) (Keeps old new) h
script_ends lines OutputFailed old new h = h

pub read_all_of : (left : Option (List ℕ)) (input : List ℕ) (e : Ended) (old new : Option (List ℕ)) → IfSome left (λ bytes. input ≡ bytes) → EndsScript (lines_of input) e old new → IfSome left (λ input. EndsText (lines_of input) e old new)
read_all_of None input e old new same h = tt
read_all_of (Some bytes) input e old new same h = script_ends (lines_of bytes) e old new (subst (λ xs. EndsScript (lines_of xs) e old new) same h)

-- All was read before the lines were run.
pub reads_all : (e : Ended) (left : Option (List ℕ)) → IsAtEnd left → ReadsAll e left
reads_all Done left end = end
reads_all (BadLine n) left end = end
reads_all NoMemory left end = tt
reads_all InputFailed left end = tt
reads_all OutputFailed left end = end

-- Reading ended before all was read.
pub reads_some : (e : Ended) (left : Option (List ℕ)) → IsReadFault e → ReadsAll e left
reads_some Done left h = absurd h
reads_some (BadLine n) left h = absurd h
reads_some NoMemory left h = tt
reads_some InputFailed left h = tt
reads_some OutputFailed left h = absurd h

-- the first line decides
pub sets_script : (lines : List (List ℕ)) (e : Ended) (old new : Option (List ℕ)) → is_store lines ≡ false → Ends lines e old new → EndsScript lines e old new
sets_script [] e old new other h = h
sets_script (line ∷ lines) e old new other h = subst (λ b. MatchBool b (StoreEnds lines e old new) (Ends (line ∷ lines) e old new)) (sym other) h

pub store_script : (all lines : List (List ℕ)) (e : Ended) (old new : Option (List ℕ)) → all ≡ codes "store" ∷ lines → StoreEnds lines e old new → EndsScript all e old new
store_script all lines e old new first h = subst (λ ls. EndsScript ls e old new) (sym first) h

pub not_true : (b x : Bool) → b ≡ not x → b ≡ true → x ≡ false
not_true b true e f = absurd (cc)
not_true b false e f = refl

pub not_store : (input first : List ℕ) (r : Option (List ℕ)) → IsCut 10 input first r → bytes_eq first (codes "store") ≡ false → is_store (lines_of input) ≡ false
not_store [] first r k e = refl
not_store (b ∷ bs) first r k e = ap is_store (cut_lines (b ∷ bs) first r k (grind arith)) ∙ e
