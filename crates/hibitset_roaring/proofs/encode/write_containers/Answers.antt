use Rattle.std.proofs.Common.{◌≡◌, ℕ, ◌+◌, get_or, length, sym, arith, inl, inr}
use Rattle.std.proofs.lemmas.Bool.{cases_lt}
use Rattle.hibitset_roaring.specs.Streams.{start_from}
use Rattle.hibitset_roaring.proofs.FrameLemmas.{before_none, before_both, before_less}
use Rattle.hibitset_roaring.proofs.RunPartLemmas.{from_first, from_next, from_mono, from_most, kind_written_same}
use Rattle.hibitset_roaring.proofs.encode.write_containers.Goals as goal

pub containers-init : goal.containers-init
containers-init g c = record {
  at_is = sym (from_first c.args.first c.args.counts.now c.args.runs.now);
  before = before_none c.args.first c.args.out.now;
  written = λ i below. absurd (omega (arith, below));
}

pub write_container-requires-clause-long_enough : goal.write_container-requires-clause-long_enough
write_container-requires-clause-long_enough g c =
    let n = from_next c.args.first c.args.counts.now c.args.runs.now c.containers.k in
    let t = c.containers-test.true in
    let m = from_mono c.args.first c.args.counts.now c.args.runs.now (c.containers.k + 1) (length c.args.keys.now) (omega (arith, t)) in
    let h = c.containers.invariant.at_is in
    let room = c.requires.long_enough in
    let same = c.containers.auto.out in
    omega (arith, n, m, h, room, same)

pub write_container-requires-clause-runs : goal.write_container-requires-clause-runs
write_container-requires-clause-runs g c = c.requires.runs.exact c.containers.k c.containers-test.true

pub overflow_add-at : goal.overflow_add-at
overflow_add-at g c =
    let m = from_most c.args.first c.args.counts.now c.args.runs.now c.containers.k in
    let h = c.containers.invariant.at_is in
    let t = c.containers-test.true in
    let few = c.requires.len_max in
    let first = c.requires.first in
    let size = c.container_size-at.ensures.max in
    omega (arith, m, h, t, few, first, size)

pub containers-preserved : goal.containers-preserved
containers-preserved g c =
    let h = c.containers.invariant in
    let k : ℕ = c.containers.k in
    let first : ℕ = c.args.first in
    let counts = c.args.counts.now in
    let runs = c.args.runs.now in
    let out = c.containers.out in
    let new = c.write_container.new.out in
    let before = c.write_container.ensures.before in
    let at_is : c.containers.at ≡ start_from first counts runs k = h.at_is in
    let size = c.container_size-at.ensures.size in
    let next = from_next first counts runs k in
    let begin = from_first first counts runs in
    let least = from_mono first counts runs 0 k (omega arith) in
    record {
      at_is = omega (arith, size, next, at_is);
      before = before_both first c.args.out.now out new h.before (before_less c.containers.at first out new (omega (arith, at_is, begin, least)) before);
      written = λ i below. elim (cases_lt i k) [
        | inl lower ↦
            let m = from_mono first counts runs (i + 1) k (omega (arith, lower)) in
            let s = from_next first counts runs i in
            kind_written_same c.containers.at out new before (g.S.ContainerSource.words c.args.source.now) (start_from first counts runs i) (get_or c.args.keys.now i 0) (get_or counts i 0) (get_or runs i 0) (omega (arith, m, s, at_is)) (h.written i lower)
        | inr upper ↦ (let e : i ≡ k = omega (arith, below, upper) in rw (e, ← at_is) c.write_container.ensures.written)
      ];
    }

pub returns-clause-written : goal.returns-clause-written
returns-clause-written g c = λ k below. c.containers.invariant.written k (let t = c.containers-test.false in omega (arith, below, t))
