use Rattle.hibitset_base.specs.Cursor.{cursor_places}
use Rattle.hibitset_atomic.specs.History.{top_word}
use Rattle.hibitset_atomic.proofs.CursorWordLemmas.{ended_on}
use Rattle.hibitset_atomic.proofs.steps.walks.Progress.is_done.Goals as goal

pub returns-then-not-self : goal.returns-then-not-self
returns-then-not-self c = ended_on c.args.self.now.is_new c.is_done.result (top_word 4) (cursor_places c.args.self.now.cursor) c.if-not-self.true c.is_done.ensures
