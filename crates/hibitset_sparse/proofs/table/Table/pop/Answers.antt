use Rattle.std.proofs.Common.{◌≡◌, ℕ, ◌+◌, ◌*◌, ◌/◌, ◌%◌, sym, ◌∙◌, ap, arith}
use Rattle.std.specs.Int.{bit_at}
use Rattle.std.proofs.lemmas.Option.{none-some}
use Rattle.hibitset_sparse.specs.Table.{group_word}
use Rattle.hibitset_sparse.proofs.WordLemmas.{group-on, root-bit}
use Rattle.hibitset_sparse.proofs.table.Table.pop.Goals as goal

pub last_bit-requires : goal.last_bit-requires
last_bit-requires g c =
    let bit = root-bit c.args.self.now c.last_bit-q.result c.last_bit-q.ensures.in_word in
    let some = bit.0 c.last_bit-q.ensures.bit_was_set in
    let word = c.word.ensures in
    omega (arith, some, word)

-- the place of a bit that is set has a value
pub returns-in_err-value-clause-empty : goal.returns-in_err-value-clause-empty
returns-in_err-value-clause-empty g c =
    let table = c.args.self.now in
    let q : ℕ = c.last_bit-q.result in
    let bit : ℕ = c.last_bit.result in
    let group : (64 * q + bit) / 64 ≡ q = omega arith in
    let rest : (64 * q + bit) % 64 ≡ bit = omega arith in
    let on : bit_at (group_word table q) bit ≡ 1 = ap (λ w. bit_at w bit) (sym c.word.ensures) ∙ c.last_bit.ensures.bit_was_set in
    let found = group-on table q bit c.last_bit-q.ensures.in_word on in
    absurd (none-some found.0 (c.in_err-value.ensures.old_value ∙ rw (group, rest) found.1))
