use Rattle.hibitset_run.specs.Parts.{parts_of}
use Rattle.hibitset_run.proofs.script.splits.+count_parts.Given as goal

abbrev pub decreases-count_parts : goal.decreases-count_parts
decreases-count_parts l = parts_of l.part
