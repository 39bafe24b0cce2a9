use Rattle.std.proofs.Common.{◌≡◌, ◌+◌, ◌*◌, length, arith, ◌∙◌}
use Rattle.hibitset_base.specs.declared.byte_table.TheConstants.{BITS_OF}
use Rattle.hibitset_base.proofs.ByteTableLemmas.{place_small, row_ones, pushed_place, pushed_byte}
use Rattle.hibitset_base.proofs.bulk.word_indices.push_byte.Goals as goal

pub overflow_add-start : goal.overflow_add-start
overflow_add-start c = let small = place_small (8 * c.args.byte + c.places.place) in omega (arith, small)

pub places-preserved : goal.places-preserved
places-preserved c = record {
  pushed = rw c.push_reserved.ensures.items (pushed_place BITS_OF c.places.list.items c.args.list.items c.args.start c.args.byte c.places.place (omega arith) c.places.invariant.pushed);
  long = (let one = c.push_reserved.ensures.len in let so_far = c.places.invariant.long in omega (arith, one, so_far));
  room = c.push_reserved.ensures.capacity ∙ c.places.invariant.room;
}

pub returns-clause-pushed : goal.returns-clause-pushed
returns-clause-pushed c =
    let all : c.places.place ≡ 8 = omega arith in
    let before : c.len.result ≡ length c.args.list.items = (let len = c.len.ensures in omega (arith, len)) in
    rw (c.truncate.ensures.items, before, row_ones c.args.byte) (pushed_byte c.places.list.items c.args.list.items c.args.start c.args.byte (omega arith) (rw all at c.places.invariant.pushed))
