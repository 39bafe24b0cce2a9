-- How many words of each mask a join reads.
use Rattle.std.proofs.Common.{◌≡◌, ℕ, ◌+◌, ◌-◌, ◌*◌, ◌≤◌, min, Bool, List, length, length-append, ap, ◌∙◌, arith}
use Rattle.std.specs.Option.{is_some}
use Rattle.std.proofs.Math.Path.{fun_ext}
use Rattle.hibitset_base.specs.Members.{members_below}
use Rattle.hibitset_base.specs.Places.{Place}
use Rattle.hibitset_base.specs.WordsRead.{AreBoundByMembers}
use Rattle.hibitset_base.specs.Walk.{StepKeeps, words_ahead}
use Rattle.hibitset_base.specs.declared.iter.BitIter.{BitIter}
use Rattle.hibitset_base.specs.declared.util.TheConstants.{LAYERS, MAX_EID}
use Rattle.hibitset_store.specs.Columns.{Map, keys_of}
use Rattle.hibitset_store.specs.Reads.{GoesOnReading}

-- a step of a walk goes on reading, and so do several
pub goes_on : {T : Type 0} (word : T → ℕ → ℕ → ℕ) (old new : BitIter T) → StepKeeps word old new → GoesOnReading word old new
goes_on word old new step =
    let long = ap length step.ahead in
    let sum = length-append step.read (words_ahead word new) in
    let count = step.count in
    (omega (arith, count), omega (arith, long, sum, count))

pub goes_both : {T : Type 0} (word : T → ℕ → ℕ → ℕ) (old between new : BitIter T) → GoesOnReading word old between → GoesOnReading word between new → GoesOnReading word old new
goes_both word old between new first second = (omega (arith, first.0, second.0), second.1 ∙ first.1)

-- a set with the indices that have a value has as many members as there are keys
keys-members : {V : Type 0} (m : Map V) (holds : ℕ → Bool) → ((i : ℕ) → holds i ≡ is_some (m i)) → members_below MAX_EID holds ≡ keys_of m
keys-members m holds same = ap (members_below MAX_EID) (fun_ext same)

pub few_reads : {V W : Type 0} (p : Map V) (q : Map W) (s t : ℕ → Bool) (words : List Place) → ((i : ℕ) → s i ≡ is_some (p i)) → ((i : ℕ) → t i ≡ is_some (q i)) → AreBoundByMembers LAYERS s words → AreBoundByMembers LAYERS t words
    → 1 + length words ≤ (LAYERS - 1) * min (length (keys_of p)) (length (keys_of q)) + 1
few_reads p q s t words first second one two =
    let e : length (members_below MAX_EID s) ≡ length (keys_of p) = ap length (keys-members p s first) in
    let f : length (members_below MAX_EID t) ≡ length (keys_of q) = ap length (keys-members q t second) in
    let h : length words ≤ (LAYERS - 1) * length (members_below MAX_EID s) = one.few in
    let k : length words ≤ (LAYERS - 1) * length (members_below MAX_EID t) = two.few in
    omega arith

pub few_reads_of : {V : Type 0} (p : Map V) (s : ℕ → Bool) (words : List Place) → ((i : ℕ) → s i ≡ is_some (p i)) → AreBoundByMembers LAYERS s words
    → 1 + length words ≤ (LAYERS - 1) * length (keys_of p) + 1
few_reads_of p s words same bound =
    let e : length (members_below MAX_EID s) ≡ length (keys_of p) = ap length (keys-members p s same) in
    let h : length words ≤ (LAYERS - 1) * length (members_below MAX_EID s) = bound.few in
    omega arith
