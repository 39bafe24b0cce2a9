use Rattle.hibitset_base.proofs.ErrorLemmas.{IfErr-handed_on}
use Rattle.hibitset_roaring.proofs.LengthLemmas.{outside}
use Rattle.hibitset_roaring.proofs.sparse.read_sparse_from.Goals as goal

pub returns-in_err-bytes-clause-accepts : goal.returns-in_err-bytes-clause-accepts
returns-in_err-bytes-clause-accepts g c =
    IfErr-handed_on _ c.from_residual.result c.in_err-bytes.field-0.0 c.from_residual.ensures.1 (outside (g.R.Read.remaining c.args.reader.now) c.args.end c.in_err-bytes.field-0.0 c.in_err-bytes.ensures.reason)
