-- A run of store commands goes on by one step.
use Rattle.std.proofs.Common.{List, [], ◌∷◌, ◌++◌, refl, subst}
use Rattle.hibitset_run.specs.declared.store.StoreCommand.{StoreCommand}
use Rattle.hibitset_run.specs.Store.{Columns, Answer, IsStep, IsRun}

pub IsRun-push : (commands : List StoreCommand) (old : Columns) (answers : List Answer) (between : Columns) (command : StoreCommand) (given : Answer) (new : Columns)
    → IsRun commands old answers between → IsStep command between given new → IsRun (commands ++ command ∷ []) old (answers ++ given ∷ []) new
IsRun-push [] old [] between command given new run step = (new, subst (λ (s : Columns). IsStep command s given new) run step, refl)
IsRun-push [] old (first ∷ answers) between command given new run step = absurd run
IsRun-push (c ∷ commands) old [] between command given new run step = absurd run
IsRun-push (c ∷ commands) old (first ∷ answers) between command given new run step = (run.0, run.1, IsRun-push commands run.0 answers between command given new run.2 step)
