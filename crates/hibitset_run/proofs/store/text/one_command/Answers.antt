use Rattle.hibitset_run.proofs.StoreOneTextLemmas.{no_other}
use Rattle.hibitset_run.proofs.store.text.one_command.Goals as goal

pub returns : goal.returns
returns c = no_other
