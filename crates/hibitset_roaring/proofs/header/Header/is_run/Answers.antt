use Rattle.std.proofs.Common.{◌≡◌, ◌∙◌, sym, ap, ◌==◌, ◌/◌, ◌+◌, ◌%◌, ℕ, get_or, ◌&&◌, true, false}
use Rattle.std.specs.Int.{bit_at}
use Rattle.std.proofs.lemmas.Nat.Bits.{shr_and_one}
use Rattle.hibitset_roaring.specs.Format.{has_runs, is_run}
use Rattle.hibitset_roaring.proofs.header.Header.is_run.Goals as goal

pub returns-then-self : goal.returns-then-self
unfolding is_run
returns-then-self c =
    let byte : ℕ = get_or c.args.bytes.now (4 + c.args.k / 8) 0 in
    let has : has_runs c.args.bytes.now ≡ true = sym c.requires.header.runs_is ∙ c.if-self.true in
    ap (λ x. x == 1) (shr_and_one byte (c.args.k % 8)) ∙ sym (ap (λ t. t && (bit_at byte (c.args.k % 8) == 1)) has)

pub returns-else-self : goal.returns-else-self
unfolding is_run
returns-else-self c =
    let byte : ℕ = get_or c.args.bytes.now (4 + c.args.k / 8) 0 in
    let has : has_runs c.args.bytes.now ≡ false = sym c.requires.header.runs_is ∙ c.if-self.false in
    c.if-self.false ∙ sym (ap (λ t. t && (bit_at byte (c.args.k % 8) == 1)) has)
