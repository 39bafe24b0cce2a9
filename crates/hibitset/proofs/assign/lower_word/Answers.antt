use Rattle.std.proofs.Common.{◌+◌, ◌*◌, arith}
use Rattle.std.proofs.lemmas.Nat.Bits.{shr_and_one}
use Rattle.hibitset_base.specs.declared.util.TheConstants.{LAYERS}
use Rattle.hibitset_base.proofs.PlaceOrderLemmas.{lower_place}
use Rattle.hibitset.proofs.MergeLemmas.{lawful_covers, none_below}
use Rattle.hibitset.proofs.assign.lower_word.Goals as goal

pub returns-then-theirs-bit-eq1 : goal.returns-then-theirs-bit-eq1
returns-then-theirs-bit-eq1 g c =
    let other = c.args.other.now in
    let is = c.get_from_layer.ensures.below_top c.requires.layer.1 in
    rw is (lawful_covers LAYERS (g.B.BitSetLike.holds other) (g.B.BitSetLike.word other) (g.met.B.BitSetLike.lawful other) c.args.layer (64 * c.args.place + c.args.bit) c.requires.layer.0 (omega arith)
    (lower_place LAYERS c.args.layer c.args.place c.args.bit c.requires.layer.1 c.requires.in_range c.requires.bit))

pub returns-else-theirs-bit-eq1 : goal.returns-else-theirs-bit-eq1
returns-else-theirs-bit-eq1 g c =
    let other = c.args.other.now in
    none_below LAYERS (g.B.BitSetLike.holds other) (g.B.BitSetLike.word other) (g.met.B.BitSetLike.lawful other) c.args.layer c.args.place c.args.bit c.args.theirs c.requires.layer.0 (omega arith)
    (lower_place LAYERS c.args.layer c.args.place c.args.bit c.requires.layer.1 c.requires.in_range c.requires.bit) c.requires.bit c.requires.theirs
    (λ stands. absurd (let off = c.if-theirs-bit-eq1.false in let bit = shr_and_one c.args.theirs c.args.bit in omega (arith, off, stands, bit)))
