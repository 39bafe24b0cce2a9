use Rattle.hibitset_base.proofs.CoverLemmas.{covers-own, covers-left, covers-right}
use Rattle.hibitset_base.proofs.laws.cover_laws.Goals as goal

pub returns-clause-own : goal.returns-clause-own
returns-clause-own c n holds own word e = covers-own e

pub returns-clause-left : goal.returns-clause-left
returns-clause-left c n holds own word other e = covers-left other e

pub returns-clause-right : goal.returns-clause-right
returns-clause-right c n holds own word other e = covers-right other e
