use Rattle.std.proofs.Common.{arith}
use Rattle.hibitset_base.proofs.PlaceLemmas.{left-none}
use Rattle.hibitset_base.proofs.cursor.Cursor.take_lowest.Goals as goal

pub returns-in_default-clause-taken : goal.returns-in_default-clause-taken
returns-in_default-clause-taken g c =
    let cursor = c.args.self.now in
    let long = cursor.formed.long in
    left-none 0 cursor.masks cursor.prefix (λ j below. c.in_default.ensures.empty j (omega (arith, below, long)))

pub returns-in_default-clause-end : goal.returns-in_default-clause-end
returns-in_default-clause-end g c = returns-in_default-clause-taken g c

pub returns-in_default-clause-rest : goal.returns-in_default-clause-rest
returns-in_default-clause-rest g c =
    let cursor = c.args.self.now in
    let long = cursor.formed.long in
    left-none 0 cursor.masks cursor.prefix (λ j below. c.in_default.ensures.empty j (omega (arith, below, long)))
