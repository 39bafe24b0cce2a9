use Rattle.std.proofs.Common.{ℕ, ◌+◌, ◌*◌, cond, ap, ◌∙◌, arith}
use Rattle.hibitset_roaring.specs.Streams.{offsets_after}
use Rattle.hibitset_roaring.proofs.RunPartLemmas.{fields_few, first_few}
use Rattle.hibitset_roaring.proofs.encode.first_of.Goals as goal

pub first_after-requires-clause-keys : goal.first_after-requires-clause-keys
first_after-requires-clause-keys c = (let is = c.keys_after.ensures in let f = fields_few c.args.some c.args.count c.requires in omega (arith, is, f))

pub returns-clause-first : goal.returns-clause-first
returns-clause-first c =
    let n : ℕ = c.args.count in
    let keys : ℕ = c.keys_after.result in
    c.first_after.ensures ∙ (ap (λ o. cond o (keys + 4 * n + 4 * n) (keys + 4 * n)) c.offsets_are.ensures
    ∙ ap (λ k. cond (offsets_after c.args.some n) (k + 4 * n + 4 * n) (k + 4 * n)) c.keys_after.ensures)

pub returns-clause-max : goal.returns-clause-max
returns-clause-max c =
    let n : ℕ = c.args.count in
    let keys : ℕ = c.keys_after.result in
    let is = c.first_after.ensures ∙ (ap (λ o. cond o (keys + 4 * n + 4 * n) (keys + 4 * n)) c.offsets_are.ensures
    ∙ ap (λ k. cond (offsets_after c.args.some n) (k + 4 * n + 4 * n) (k + 4 * n)) c.keys_after.ensures) in
    let f = first_few c.args.some n c.requires in
    omega (arith, is, f)
