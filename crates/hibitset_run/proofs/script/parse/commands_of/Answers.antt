use Rattle.std.proofs.Common.{◌≡◌, ◌<◌, ◌+◌, [], ◌∷◌, ◌++◌, length, refl, ap, sym, subst, arith, false-eqb, is_ok}
use Rattle.std.proofs.ResultArms.{chosen}
use Rattle.std.specs.Option.{option_map}
use Rattle.hibitset_run.specs.Text.{IsLine, lines_of}
use Rattle.hibitset_run.proofs.LineLemmas.{text_in}
use Rattle.hibitset_run.proofs.TextLemmas.{IsSaid, or_nothing, cut_lines, cut_shorter, unwrapped, not_false, said_push, said_bad}
use Rattle.hibitset_run.proofs.script.parse.commands_of.Goals as goal

pub returns-in_default-clause-err : goal.returns-in_default-clause-err
returns-in_default-clause-err c =
    let some : 0 < length c.loop-rest.rest.now = omega (arith, false-eqb _ 0 c.loop-rest-test.ensures) in
    let next = cut_lines c.loop-rest.rest.now c.cut.result.0.now (option_map text_in c.cut.result.1) c.cut.ensures some in
    let told : c.len.result + 1 ≡ length c.loop-rest.commands.items + 1 = omega (arith, c.len.ensures, c.loop-rest.commands.ok.0) in (
      c.len.result + 1,
      said_bad IsLine c.loop-rest.commands.items (lines_of c.args.input.now) (lines_of c.loop-rest.rest.now) (lines_of (or_nothing (option_map text_in c.cut.result.1))) c.cut.result.0.now (c.len.result + 1)
          c.loop-rest.invariant next c.in_default.ensures told,
      omega arith,
    )

pub loop-rest-smaller : goal.loop-rest-smaller
loop-rest-smaller c =
    let some : 0 < length c.loop-rest.rest.now = omega (arith, false-eqb _ 0 c.loop-rest-test.ensures) in
    let less = cut_shorter c.loop-rest.rest.now c.cut.result.0.now (option_map text_in c.cut.result.1) c.cut.ensures some in
    let rest : c.unwrap_or-rest.result.now ≡ or_nothing (option_map text_in c.cut.result.1) = unwrapped c.cut.result.1 _ c.unwrap_or-rest.result c.unwrap_or-rest.ensures refl in
    omega (arith, less, ap length rest)

pub loop-rest-preserved : goal.loop-rest-preserved
loop-rest-preserved c =
    let some : 0 < length c.loop-rest.rest.now = omega (arith, false-eqb _ 0 c.loop-rest-test.ensures) in
    let next = cut_lines c.loop-rest.rest.now c.cut.result.0.now (option_map text_in c.cut.result.1) c.cut.ensures some in
    let rest : c.unwrap_or-rest.result.now ≡ or_nothing (option_map text_in c.cut.result.1) = unwrapped c.cut.result.1 _ c.unwrap_or-rest.result c.unwrap_or-rest.ensures refl in
    let pushed = chosen _ _ _ _ c.push.ensures.items (not_false c.is_err.result (is_ok c.push.result) c.is_err.ensures.negation c.if-is_err.false) in
    subst (λ items. IsSaid IsLine items (lines_of c.args.input.now) (lines_of c.unwrap_or-rest.result.now)) (sym pushed)
    (subst (λ r. IsSaid IsLine (c.loop-rest.commands.items ++ c.in-Some.command ∷ []) (lines_of c.args.input.now) (lines_of r)) (sym rest)
    (said_push IsLine c.loop-rest.commands.items (lines_of c.args.input.now) (lines_of c.loop-rest.rest.now) (lines_of (or_nothing (option_map text_in c.cut.result.1))) c.in-Some.command c.cut.result.0.now
    c.loop-rest.invariant next c.in-Some.ensures))
