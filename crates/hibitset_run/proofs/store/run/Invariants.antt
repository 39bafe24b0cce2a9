use Rattle.std.proofs.Common.{◌≡◌, ◌≤◌, length, map, take, vec_len, vec_capacity}
use Rattle.hibitset_run.specs.Store.{IsRun, answer_of, columns_of}
use Rattle.hibitset_run.proofs.store.run.Given as goal

-- the commands so far are a run, and there is room for the replies to the rest
abbrev pub invariant-loop-command : goal.invariant-loop-command
invariant-loop-command l = record {
  run : IsRun (take l.command-index l.commands) (columns_of l.fn.columns) (map answer_of l.replies.items) (columns_of l.columns);
  told : vec_len l.replies ≡ l.command-index;
  room : length l.commands ≤ vec_capacity l.replies;
}
