use Rattle.std.proofs.Common.{◌≡◌, ℕ, ◌≤◌, get_or, length, sym, ◌∙◌, ap, arith, inl, inr}
use Rattle.std.proofs.lemmas.Bool.{cases_lt}
use Rattle.std.proofs.lemmas.List.{get_or_past}
use Rattle.hibitset_base.specs.Decisions.{same_or_not}
use Rattle.hibitset.specs.Layers.{word_in, len_in}
use Rattle.hibitset.proofs.LayerLemmas.{past_end}
use Rattle.hibitset.proofs.layers.Layers.put_layer.Goals as goal

pub loop-place-preserved : goal.loop-place-preserved
loop-place-preserved c =
    let h = c.loop-place.invariant in
    let place : ℕ = c.loop-place.place in
    let layer : ℕ = c.args.layer in
    let words = c.args.words.now in
    record {
      upto = omega (arith, c.loop-place-test.true);
      done = λ p here. elim (same_or_not p place) [
        | inl e ↦ ap (word_in c.store_word.new.self layer) e ∙ (c.store_word.ensures.here ∙ ap (λ q. get_or words q 0) (sym e))
        | inr other ↦ c.store_word.ensures.others p other ∙ h.done p (omega (arith, here, other))
      ];
      layers = λ k p other. c.store_word.ensures.layers k p other ∙ h.layers k p other;
      lengths = λ k. c.store_word.ensures.lengths k ∙ h.lengths k;
    }

pub returns-clause-here : goal.returns-clause-here
returns-clause-here c p =
    let h = c.loop-place.invariant in
    let layer : ℕ = c.args.layer in
    let words = c.args.words.now in
    let long : length words ≡ len_in c.loop-place.self layer = c.requires.length ∙ sym (h.lengths layer) in
    elim (cases_lt p c.loop-place.place) [
      | inl here ↦ h.done p here
      | inr past ↦
          let end : length words ≤ p = omega (arith, past, c.loop-place-test.false) in
          past_end c.loop-place.self layer p c.requires.layer (omega (arith, long, end)) ∙ sym (get_or_past words p 0 end)
    ]
