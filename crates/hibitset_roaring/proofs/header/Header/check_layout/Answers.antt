use Rattle.std.proofs.Common.{sym, ◌∙◌, arith}
use Rattle.hibitset_roaring.proofs.LayoutLemmas.{at_first}
use Rattle.hibitset_roaring.proofs.header.Header.check_layout.Goals as goal

pub containers-init : goal.containers-init
containers-init c = record {
  at_is = c.requires.first_is ∙ sym (at_first c.args.bytes.now);
  within = c.requires.within;
  offsets = λ has i below. absurd (omega (arith, below));
}
