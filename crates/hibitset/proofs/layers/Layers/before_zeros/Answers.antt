use Rattle.std.proofs.Common.{rules, ℕ, ◌-◌, ◌^◌, ◌<◌, get_or, length, ◌∙◌, arith, lit≤, inl, inr}
use Rattle.std.proofs.lemmas.Bool.{cases_lt}
use Rattle.std.proofs.lemmas.List.{get_or_past}
use Rattle.hibitset_base.specs.declared.util.TheConstants.{LAYERS}
use Rattle.hibitset.proofs.LayerStartLemmas.{over_first, start_first, start_next, start_more}
use Rattle.hibitset.proofs.LayerLemmas.{keeps, count_is, length_first, words_first}
use Rattle.hibitset.proofs.layers.Layers.before_zeros.Goals as goal

-- the layers below the top take at least the words of layer 0
pub lengthen_to-requires : goal.lengthen_to-requires
lengthen_to-requires c =
    let len : ℕ = c.len-len.result in
    let first = start_first len in
    let next = start_next 0 len in
    let all = over_first len in
    let more = start_more 1 (LAYERS - 1) len (lit≤ tt) in
    omega (arith, first, next, all, more, c.starts_over-end.ensures.end)

-- the words of the vector fit, and so do those behind them, which are 0
fits : (c : goal.After-lens_over) (at : ℕ) → get_or c.lengthen_to.new.words.items at 0 < 2 ^ 64
fits c at =
    let same = c.lengthen_to.ensures.same at in
    elim (cases_lt at (length c.args.words.items)) [
      | inl within ↦ (let small : get_or c.args.words.items at 0 < 2 ^ 64 = search (rules, within) in omega (arith, same, small))
      | inr past ↦ (let none = get_or_past c.args.words.items at 0 past in omega (arith, same, none))
    ]

pub invariant_of-result : goal.invariant_of-result
invariant_of-result c = record {
  kept = keeps (record { words = c.lengthen_to.new.words.items; room = c.len-len.result; len = c.len-len.result; top = 0 }) c.starts_over-end.result.0 c.lens_over.result (record {
    whole = c.in_ok-lengthen_to.ensures.length ∙ c.starts_over-end.ensures.end;
    within = omega arith;
    short = omega (arith, c.requires);
    fits = fits c;
    top_fits = omega arith;
    blank = λ l p below from past. absurd (omega (arith, from, past));
  }) c.starts_over-end.ensures.starts c.lens_over.ensures;
}

pub returns-clause-words : goal.returns-clause-words
returns-clause-words c =
    words_first _ c.args.words.items (length_first _ ∙ (count_is c.lens_over.result c.len-len.result c.lens_over.ensures ∙ omega arith)) (λ at. c.lengthen_to.ensures.same at)

pub returns-clause-length : goal.returns-clause-length
returns-clause-length c = length_first _ ∙ (count_is c.lens_over.result c.len-len.result c.lens_over.ensures ∙ omega arith)
