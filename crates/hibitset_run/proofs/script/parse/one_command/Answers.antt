use Rattle.hibitset_run.proofs.OneTextLemmas.{no_other}
use Rattle.hibitset_run.proofs.script.parse.one_command.Goals as goal

pub returns : goal.returns
returns c = no_other
