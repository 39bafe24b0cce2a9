use Rattle.std.proofs.Common.{◌≡◌, ℕ, ◌+◌, ◌*◌, length, sym, ap, ◌∙◌, arith}
use Rattle.hibitset_roaring.specs.Numbers.{u16_at}
use Rattle.hibitset_roaring.specs.Streams.{fields_after}
use Rattle.hibitset_roaring.proofs.RunPartLemmas.{front_same}
use Rattle.hibitset_roaring.proofs.encode.write_header.Goals as goal

pub keys_after-requires : goal.keys_after-requires
keys_after-requires c = (let few = c.requires.len_max in let same = c.requires.same in omega (arith, few, same))

pub write_fields-requires-clause-long_enough : goal.write_fields-requires-clause-long_enough
write_fields-requires-clause-long_enough c =
    let is = c.keys_after.ensures in
    let room = c.requires.long_enough in
    let out = c.write_front.auto.out in
    omega (arith, is, room, out)

pub returns : goal.returns
returns c =
    let n : ℕ = length c.args.counts.now in
    let at : ℕ = c.keys_after.result in
    let is : at ≡ fields_after c.args.some n = c.keys_after.ensures in
    let mid = c.write_front.new.out in
    let out = c.write_fields.new.out in
    let fields = c.write_fields.ensures in
    record {
      front = front_same at mid out fields.before c.args.some c.args.counts.now c.args.runs.now (omega (arith, is)) c.write_front.ensures;
      keys_are = λ k below. ap (λ p. u16_at out (p + 4 * k)) (sym is) ∙ fields.keys k below;
      counts_are = λ k below. ap (λ p. u16_at out (p + 4 * k + 2) + 1) (sym is) ∙ fields.counts k below;
    }
