-- What a contract sees of ready tasks.
use Rattle.std.specs.Prelude.{ℕ, Bool, ◌&&◌, nat_le}
use Rattle.hibitset.specs.Prelude.{has, slice_len}
use Rattle.uses.specs.declared.ready.Ready.{Ready}

-- the task is ready to run
abbrev pub is_ready : Ready → ℕ → Bool
is_ready ready = has ready.tasks

-- the task is ready to run, and does not lie before `start`
abbrev pub is_ready_from : ℕ → Ready → ℕ → Bool
is_ready_from start ready i = nat_le start i && is_ready ready i

-- there is room at all times for the tasks below
abbrev pub limit_of : Ready → ℕ
limit_of ready = ready.limit

-- how many words of tasks there are
abbrev pub words_of : Ready → ℕ
words_of ready = slice_len ready.tasks 0
