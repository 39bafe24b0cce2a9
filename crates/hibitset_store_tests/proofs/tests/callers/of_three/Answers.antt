use Rattle.std.proofs.Common.{◌≡◌, ap, rules}
use Rattle.std.specs.Option.{is_some}
use Rattle.std.proofs.Math.Path.{fun_ext}
use Rattle.hibitset.specs.BitSet.{has}
use Rattle.hibitset_store.specs.Columns.{value_of}
use Rattle.hibitset_store.specs.Joins.{joined_within}
use Rattle.hibitset_store_tests.proofs.tests.callers.of_three.Goals as goal

pub returns : goal.returns
returns g c =
    let p = value_of c.args.a.now in
    let q = value_of c.args.b.now in
    let same : joined_within p q (has c.mask.result.now) ≡ joined_within p q (λ i. is_some (value_of c.args.third.now i)) = ap (joined_within p q) (fun_ext c.mask.ensures.keys) in
    rw (← same) (search rules)
