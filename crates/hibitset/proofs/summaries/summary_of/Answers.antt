use Rattle.std.proofs.Common.{◌≡◌, ◌<◌, get_or, arith, inl, inr}
use Rattle.std.proofs.lemmas.Bool.{cases_lt}
use Rattle.std.proofs.lemmas.List.{get_or_past}
use Rattle.hibitset.proofs.BitTableLemmas.{told_none, told_blank, told_bit, one_bit}
use Rattle.hibitset.specs.declared.summaries.TheConstants.{ONE_BIT}
use Rattle.hibitset.proofs.summaries.summary_of.Goals as goal
use Rattle.hibitset.proofs.summaries.summary_of.Goals.{then-words-at-ne0, else-words-at-ne0}

pub loop-at-init : goal.loop-at-init
loop-at-init c = record { upto = omega arith; told = told_none c.args.words.now }

pub loop-at-preserved : goal.loop-at-preserved
loop-at-preserved c =
    let h = c.loop-at.invariant in
    record {
      upto = omega (arith, c.loop-at-test.true);
      told = elim c.if-words-at-ne0.branch [
        | then-words-at-ne0 w ↦
            let small : c.loop-at.at < 64 = omega (arith, c.loop-at-test.true, c.requires) in
            let some : 0 < get_or c.args.words.now c.loop-at.at 0 = (let ne = w.if-words-at-ne0.true in omega (arith, ne)) in
            rw w.summary-is (told_bit c.args.words.now c.loop-at.summary (get_or ONE_BIT c.loop-at.at 0) c.loop-at.at (one_bit c.loop-at.at small) some h.told)
        | else-words-at-ne0 w ↦ rw w.summary-is (told_blank c.args.words.now c.loop-at.summary c.loop-at.at w.if-words-at-ne0.false h.told)
      ];
    }

pub returns : goal.returns
returns c = λ b small.
    let h = c.loop-at.invariant in
    elim (cases_lt b c.loop-at.at) [
      | inl below ↦ h.told.told b below
      | inr past ↦
          let none : get_or c.args.words.now b 0 ≡ 0 = get_or_past c.args.words.now b 0 (omega (arith, past, c.loop-at-test.false)) in
          rw (none, h.told.rest b past) (λ one. absurd (omega (arith, one)), λ some. absurd (omega (arith, some)))
    ]
