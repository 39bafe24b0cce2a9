use Rattle.hibitset_roaring.proofs.AddLemmas.{set_one}
use Rattle.hibitset_roaring.proofs.words.set_bit.Goals as goal

pub returns : goal.returns
returns c = set_one c.args.words.now c.args.number c.with_bit.result c.requires c.with_bit.ensures.same c.with_bit.ensures.here
