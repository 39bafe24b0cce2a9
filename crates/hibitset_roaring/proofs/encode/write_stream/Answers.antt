use Rattle.std.proofs.Common.{◌≡◌, ℕ, ◌+◌, ◌*◌, ◌<◌, get_or, length, sym, ap, ◌∙◌, arith}
use Rattle.hibitset_roaring.specs.Numbers.{u32_at}
use Rattle.hibitset_roaring.specs.Streams.{start_from, fields_after, first_after, IsKindWritten, IsHeaded}
use Rattle.hibitset_roaring.proofs.FrameLemmas.{u32_same}
use Rattle.hibitset_roaring.proofs.RunPartLemmas.{from_first, from_mono, fields_first, offsets_first, headed_same}
use Rattle.hibitset_roaring.proofs.StreamLemmas.{stream_written, keys_written}
use Rattle.hibitset_roaring.proofs.encode.write_stream.Goals as goal

pub write_header-requires-clause-long_enough : goal.write_header-requires-clause-long_enough
write_header-requires-clause-long_enough g c =
    let n : ℕ = length c.args.counts.now in
    let first : ℕ = first_after c.args.some n in
    let f = fields_first c.args.some n in
    let b = from_first first c.args.counts.now c.args.runs.now in
    let m = from_mono first c.args.counts.now c.args.runs.now 0 n (omega arith) in
    let room = c.requires.exact_length in
    let same = c.requires.heads.same in
    omega (arith, f, b, m, room, same)

pub write_header-requires-clause-any : goal.write_header-requires-clause-any
write_header-requires-clause-any g c = λ on. (let h = c.requires.says.any on in let b = h.1 in omega (arith, b))

pub write_offsets-requires-clause-long_enough : goal.write_offsets-requires-clause-long_enough
write_offsets-requires-clause-long_enough g c = λ on.
    let n : ℕ = length c.args.counts.now in
    let first : ℕ = first_after c.args.some n in
    let is = c.keys_after.ensures in
    let f = offsets_first c.args.some n on in
    let b = from_first first c.args.counts.now c.args.runs.now in
    let m = from_mono first c.args.counts.now c.args.runs.now 0 n (omega arith) in
    let room = c.requires.exact_length in
    let out = c.write_header.auto.out in
    omega (arith, is, f, b, m, room, out)

pub write_containers-requires-clause-long_enough : goal.write_containers-requires-clause-long_enough
write_containers-requires-clause-long_enough g c =
    let n : ℕ = length c.args.keys.now in
    let counts = c.args.counts.now in
    let runs = c.args.runs.now in
    let is = c.first_of-first.ensures.first in
    let e = ap (λ f. start_from f counts runs n) is in
    let same = ap (λ m. start_from (first_after c.args.some (length counts)) counts runs m) c.requires.heads.same in
    let room = c.requires.exact_length in
    let a = c.write_header.auto.out in
    let b = c.write_offsets.auto.out in
    omega (arith, e, same, room, a, b)

pub returns-clause-stream : goal.returns-clause-stream
returns-clause-stream g c = λ kinds kinds_are.
    let words = g.S.ContainerSource.words c.args.source.now in
    let keys = c.args.keys.now in
    let counts = c.args.counts.now in
    let runs = c.args.runs.now in
    let some = c.args.some in
    let n : ℕ = length counts in
    let same = c.requires.heads.same in
    let short = g.met.S.ContainerSource.short c.args.source.now in
    let head = c.write_header.new.out in
    let mid = c.write_offsets.new.out in
    let out = c.write_containers.new.out in
    let at : ℕ = c.keys_after.result in
    let at_is : at ≡ fields_after some n = c.keys_after.ensures in
    let first : ℕ = c.first_of-first.result in
    let is : first ≡ first_after some n = c.first_of-first.ensures.first in
    let f = fields_first some n in
    let headed : IsHeaded some out keys counts runs =
    headed_same first mid out c.write_containers.ensures.before some counts runs keys (omega (arith, is, f, same))
    (headed_same (at + 4 * n) head mid c.write_offsets.ensures.before some counts runs keys (omega (arith, at_is, same)) c.write_header.ensures) in
    let written : (k : ℕ) → k < length keys → IsKindWritten words out (start_from (first_after some n) counts runs k) (get_or keys k 0) (get_or counts k 0) (get_or runs k 0) = rw (← is) c.write_containers.ensures.written in
    let room = c.requires.exact_length in
    let x = c.write_header.auto.out in
    let y = c.write_offsets.auto.out in
    let z = c.write_containers.auto.out in
    let whole = ap (λ m. start_from (first_after some n) counts runs m) same in
    stream_written words out keys counts runs some 16384 (g.met.S.ContainerSource.fits c.args.source.now) c.requires.heads (omega arith) c.requires.runs c.requires.says headed written
    (record { small = λ p. omega (arith, c.type_inv.out p) })
    (omega (arith, short))
    (λ on k below.
    let last = offsets_first some n on in
    ap (λ p. u32_at out (p + 4 * n + 4 * k)) (sym at_is)
    ∙ (u32_same first mid out c.write_containers.ensures.before (at + 4 * n + 4 * k) (omega (arith, is, at_is, last, below, same))
    ∙ (c.write_offsets.ensures.offsets on k (omega (arith, below, same)) ∙ ap (λ a. start_from a counts runs k) is)))
    (omega (arith, room, x, y, z, whole))
    kinds kinds_are

pub returns-clause-keys_below : goal.returns-clause-keys_below
returns-clause-keys_below g c =
    let words = g.S.ContainerSource.words c.args.source.now in
    let keys = c.args.keys.now in
    let counts = c.args.counts.now in
    let runs = c.args.runs.now in
    let some = c.args.some in
    let n : ℕ = length counts in
    let same = c.requires.heads.same in
    let head = c.write_header.new.out in
    let mid = c.write_offsets.new.out in
    let out = c.write_containers.new.out in
    let at : ℕ = c.keys_after.result in
    let at_is : at ≡ fields_after some n = c.keys_after.ensures in
    let first : ℕ = c.first_of-first.result in
    let is : first ≡ first_after some n = c.first_of-first.ensures.first in
    let f = fields_first some n in
    let headed : IsHeaded some out keys counts runs =
    headed_same first mid out c.write_containers.ensures.before some counts runs keys (omega (arith, is, f, same))
    (headed_same (at + 4 * n) head mid c.write_offsets.ensures.before some counts runs keys (omega (arith, at_is, same)) c.write_header.ensures) in
    keys_written words out keys counts runs some 16384 (g.met.S.ContainerSource.fits c.args.source.now) c.requires.heads (omega arith) c.requires.runs c.requires.says headed
