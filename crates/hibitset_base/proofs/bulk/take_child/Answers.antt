use Rattle.std.proofs.Common.{◌≡◌, ◌+◌, ◌-◌, ◌*◌, ◌%◌, ◌∙◌, ap, arith, bit_and, bit_or}
use Rattle.std.specs.Int.{trailing_zeros, w64}
use Rattle.hibitset_base.specs.declared.util.TheConstants.{LAYERS}
use Rattle.hibitset_base.proofs.MaskLemmas.{takes_first, or_is_sum}
use Rattle.hibitset_base.proofs.BlockLemmas.{under_first}
use Rattle.hibitset_base.proofs.bulk.take_child.Goals as goal

pub returns-clause-items : goal.returns-clause-items
returns-clause-items g c =
    let word = g.T.BitSetLike.word c.args.set.now in
    let start = c.args.start in
    let rest = c.args.rest.now in
    let bit = trailing_zeros w64 rest in
    let takes = takes_first rest c.requires.nonzero (omega arith) in
    let small = takes.small in
    let aligned = c.requires.aligned in
    let within = c.requires.within in
    let position = or_is_sum start bit aligned small in
    let first : bit_or start bit * 64 % 4294967296 ≡ (start + bit) * 64 = omega (arith, position, small, within) in
    let read : c.layer0.result ≡ word 0 (start + bit) = c.layer0.ensures ∙ ap (word 0) position in
    rw (first, read)
    (under_first LAYERS (g.T.BitSetLike.holds c.args.set.now) word (g.met.T.BitSetLike.lawful c.args.set.now) (omega arith) start rest bit (bit_and rest (rest - 1)) takes (omega (arith, small, aligned, within)))

pub returns-clause-less : goal.returns-clause-less
returns-clause-less g c = (takes_first c.args.rest.now c.requires.nonzero (omega arith)).less

pub returns-clause-within : goal.returns-clause-within
returns-clause-within g c =
    let small = (takes_first c.args.rest.now c.requires.nonzero (omega arith)).small in
    let aligned = c.requires.aligned in
    let within = c.requires.within in
    let position = or_is_sum c.args.start (trailing_zeros w64 c.args.rest.now) aligned small in
    (omega (arith, position, small, within), omega (arith, position, small, aligned, within))
