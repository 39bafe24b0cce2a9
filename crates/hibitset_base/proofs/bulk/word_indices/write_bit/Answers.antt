use Rattle.std.proofs.Common.{refl}
use Rattle.hibitset_base.proofs.WriteLemmas.{wrote_bit}
use Rattle.hibitset_base.proofs.bulk.word_indices.write_bit.Goals as goal

pub returns : goal.returns
returns c at total done w = wrote_bit c.args.buffer.now at c.args.end total c.args.start c.args.rest done w c.requires.long_enough c.requires.aligned _ refl
