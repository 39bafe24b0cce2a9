use Rattle.std.proofs.Common.{◌≢◌, ℕ, ◌-◌, ◌<◌, arith, ◌⊎◌, inl, inr, ap, length, bit_and, w64}
use Rattle.std.specs.Int.{trailing_zeros}
use Rattle.std.proofs.lemmas.Bool.{cases_lt}
use Rattle.hibitset_base.proofs.MaskLemmas.{takes_first}
use Rattle.hibitset_base.proofs.OneCountLemmas.{bits-count}
use Rattle.hibitset_base.proofs.PlaceLemmas.{bits-first}
use Rattle.hibitset_base.proofs.bits.take_bit.Goals as goal

pub returns-clause-bit_was_set : goal.returns-clause-bit_was_set
returns-clause-bit_was_set c = (takes_first c.args.word.now c.requires (omega arith)).stood

pub returns-clause-lowest : goal.returns-clause-lowest
returns-clause-lowest c = (takes_first c.args.word.now c.requires (omega arith)).first

pub returns-clause-bit_cleared : goal.returns-clause-bit_cleared
returns-clause-bit_cleared c = (takes_first c.args.word.now c.requires (omega arith)).gone

either : (a b : ℕ) → a ≢ b → (a < b) ⊎ (b < a)
either a b other = elim (cases_lt a b) [ inl less ↦ inl less | inr more ↦ inr (omega arith) ]

pub returns-clause-same : goal.returns-clause-same
returns-clause-same c = λ b small other. (takes_first c.args.word.now c.requires (omega arith)).same b small (either b _ other)

pub returns-clause-first : goal.returns-clause-first
returns-clause-first c = λ start.
    let word : ℕ = c.args.word.now in
    bits-first start word (trailing_zeros w64 word) (bit_and word (word - 1)) (takes_first word c.requires (omega arith))

pub returns-clause-fewer : goal.returns-clause-fewer
returns-clause-fewer c =
    let word : ℕ = c.args.word.now in
    let rest : ℕ = bit_and word (word - 1) in
    let takes = takes_first word c.requires (omega arith) in
    let less = takes.less in
    let lengths = ap length (bits-first 0 word (trailing_zeros w64 word) rest takes) in
    let before = bits-count 0 word (omega arith) in
    let after = bits-count 0 rest (omega (arith, less)) in
    omega (arith, lengths, before, after)

pub returns-clause-less : goal.returns-clause-less
returns-clause-less c = (takes_first c.args.word.now c.requires (omega arith)).less
