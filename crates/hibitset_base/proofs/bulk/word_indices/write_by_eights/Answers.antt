use Rattle.std.proofs.Common.{◌≡◌, ℕ, ◌+◌, ◌-◌, ◌%◌, ◌^◌, ◌<◌, ◌≤◌, List, arith}
use Rattle.std.specs.Int.RustNames.{count_ones}
use Rattle.hibitset_base.specs.WrittenIndices.{IsWritten}
use Rattle.hibitset_base.proofs.OneCountLemmas.{few_ones, some_ones}
use Rattle.hibitset_base.proofs.WriteLemmas.{written_none}
use Rattle.hibitset_base.proofs.bulk.word_indices.write_by_eights.Goals as goal

-- there is room for eight more
room_left : (buffer : List ℕ) (at end s m rest : ℕ) (done : List ℕ) → IsWritten buffer at end (count_ones m) s rest done → 0 < rest → m < 2 ^ 64 → (end - at) % 8 ≡ 0 → at ≤ end → end + 8 ≤ at + 64
room_left buffer at end s m rest done w some fits eights from =
    let room = w.room some in
    let few = few_ones m fits in
    let more = some_ones rest some in
    omega arith

pub eights-init : goal.eights-init
eights-init c = record {
  written = written_none c.args.buffer.now c.args.at c.args.start c.args.word (omega arith) (omega arith);
  eights = omega arith;
  from = omega arith;
}

pub write_bit-rest-requires-clause-long_enough : goal.write_bit-rest-requires-clause-long_enough
write_bit-rest-requires-clause-long_enough c =
    let more = room_left c.eights.buffer c.args.at c.eights.end c.args.start c.args.word c.eights.rest _ c.eights.invariant.written (omega arith) (omega arith) c.eights.invariant.eights c.eights.invariant.from in
    let room = c.requires.long_enough in
    omega (arith, more, room)

pub eights-smaller : goal.eights-smaller
eights-smaller c =
    let more = room_left c.eights.buffer c.args.at c.eights.end c.args.start c.args.word c.eights.rest _ c.eights.invariant.written (omega arith) (omega arith) c.eights.invariant.eights c.eights.invariant.from in
    omega (arith, more)

pub bits-preserved : goal.bits-preserved
bits-preserved c =
    let next : c.eights.end + (c.bits.bit + 1) ≡ c.eights.end + c.bits.bit + 1 = omega arith in
    rw next (c.write_bit-rest.ensures c.args.at _ _ c.bits.invariant)
