use Rattle.std.proofs.Common.{◌≡◌, ◌+◌, ◌*◌, arith, take}
use Rattle.hibitset_base.specs.declared.byte_table.TheConstants.{BITS_OF}
use Rattle.hibitset_base.proofs.ByteTableLemmas.{few_in_byte, place_small, row_ones, wrote_place, wrote_byte}
use Rattle.hibitset_base.proofs.bulk.word_indices.write_byte.Goals as goal

pub overflow_add-buffer-in-places : goal.overflow_add-buffer-in-places
overflow_add-buffer-in-places c = let small = place_small (8 * c.args.byte + c.places.place) in omega (arith, small)

pub places-preserved : goal.places-preserved
places-preserved c =
    let next : c.args.at + (c.places.place + 1) ≡ c.args.at + c.places.place + 1 = omega arith in
    rw next (wrote_place BITS_OF c.places.buffer (take c.args.at c.args.buffer.now) c.args.start c.args.byte (c.args.at + c.places.place) c.places.place (omega arith) (omega arith) c.places.invariant)

pub returns-clause-written : goal.returns-clause-written
returns-clause-written c =
    let end : c.places.place ≡ 8 = omega arith in
    rw (row_ones c.args.byte) (wrote_byte c.places.buffer c.args.buffer.now c.args.at c.args.start c.args.byte (omega arith) (omega arith) (rw end at c.places.invariant))

pub returns-clause-max : goal.returns-clause-max
returns-clause-max c = let same = row_ones c.args.byte in let few = few_in_byte c.args.byte (omega arith) in omega (arith, same, few)
