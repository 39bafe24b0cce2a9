use Rattle.std.proofs.Common.{sym, ◌∙◌}
use Rattle.hibitset_roaring.proofs.RunLemmas.{shorter_array, shorter_bits, shorter_few}
use Rattle.hibitset_roaring.proofs.runs.are_shorter.Goals as goal

pub returns-then-count-le-MAX_ARRAY_LEN-clause-shorter : goal.returns-then-count-le-MAX_ARRAY_LEN-clause-shorter
returns-then-count-le-MAX_ARRAY_LEN-clause-shorter c = shorter_array c.args.runs c.args.count c.if-count-le-MAX_ARRAY_LEN.true

pub returns-then-count-le-MAX_ARRAY_LEN-clause-runs_max : goal.returns-then-count-le-MAX_ARRAY_LEN-clause-runs_max
returns-then-count-le-MAX_ARRAY_LEN-clause-runs_max c = λ on. shorter_few c.args.runs c.args.count (sym (shorter_array c.args.runs c.args.count c.if-count-le-MAX_ARRAY_LEN.true) ∙ on)

pub returns-else-count-le-MAX_ARRAY_LEN-clause-shorter : goal.returns-else-count-le-MAX_ARRAY_LEN-clause-shorter
returns-else-count-le-MAX_ARRAY_LEN-clause-shorter c = shorter_bits c.args.runs c.args.count c.if-count-le-MAX_ARRAY_LEN.false

pub returns-else-count-le-MAX_ARRAY_LEN-clause-runs_max : goal.returns-else-count-le-MAX_ARRAY_LEN-clause-runs_max
returns-else-count-le-MAX_ARRAY_LEN-clause-runs_max c = λ on. shorter_few c.args.runs c.args.count (sym (shorter_bits c.args.runs c.args.count c.if-count-le-MAX_ARRAY_LEN.false) ∙ on)
