use Rattle.std.proofs.Common.{refl}
use Rattle.hibitset_c.proofs.LengthLemmas.{shows_next}
use Rattle.hibitset_c.proofs.words.Words.follow_top.Goals as goal

pub returns : goal.returns
returns c = λ before shows. shows_next c.args.self.now _ before c.args.set.now shows c.requires refl refl refl refl c.layer4-self.ensures
