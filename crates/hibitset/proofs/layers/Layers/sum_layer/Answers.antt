use Rattle.std.proofs.Common.{◌≡◌, ◌≢◌, ℕ, ◌+◌, ◌-◌, ◌*◌, ◌<◌, length, ◌∙◌, arith, inl, inr}
use Rattle.std.proofs.lemmas.Bool.{cases_lt}
use Rattle.hibitset_base.specs.Decisions.{same_or_not}
use Rattle.hibitset.specs.Layers.{word_in, len_in}
use Rattle.hibitset.proofs.SummaryUpdateLemmas.{summed_list, none_past}
use Rattle.hibitset.proofs.LayerLemmas.{has_below, covers_below, past_end}
use Rattle.hibitset.proofs.layers.Layers.sum_layer.Goals as goal

-- the words below begin within the layer below
begins : (c : goal.After-slice-in-loop-place) → 64 * c.loop-place.place < length c.slice-in-loop-place.result.now
begins c =
    let h = has_below c.loop-place.self c.args.layer c.loop-place.place c.requires.layer.0 c.requires.layer.1 (omega (arith, c.loop-place-test.true, c.slice.ensures.length)) in
    omega (arith, h, c.slice-in-loop-place.ensures.length)

pub overflow_mul-place : goal.overflow_mul-place
overflow_mul-place c = let h = begins c in omega (arith, h, c.slice-in-loop-place.type_inv)

pub summary_at-word-requires : goal.summary_at-word-requires
summary_at-word-requires c = let h = begins c in omega (arith, h)

pub loop-place-preserved : goal.loop-place-preserved
loop-place-preserved c =
    let h = c.loop-place.invariant in
    let place : ℕ = c.loop-place.place in
    let layer : ℕ = c.args.layer in
    let under : layer - 1 ≢ layer = omega (arith, c.requires.layer.0) in
    let same : (p : ℕ) → _ = λ p. c.slice-in-loop-place.ensures.words p ∙ h.layers (layer - 1) p under in
    record {
      upto = omega (arith, c.loop-place-test.true, c.slice.ensures.length, h.lengths layer);
      done = λ p here. elim (same_or_not p place) [
        | inl e ↦ rw (e, c.store_word.ensures.here) (summed_list c.slice-in-loop-place.result.now (word_in c.args.self.now (layer - 1)) place c.summary_at-word.result same c.summary_at-word.ensures)
        | inr other ↦ rw (c.store_word.ensures.others p other) (h.done p (omega (arith, here, other)))
      ];
      layers = λ k p other. c.store_word.ensures.layers k p other ∙ h.layers k p other;
      lengths = λ k. c.store_word.ensures.lengths k ∙ h.lengths k;
    }

pub returns-clause-exact : goal.returns-clause-exact
returns-clause-exact c p =
    let h = c.loop-place.invariant in
    let layer : ℕ = c.args.layer in
    let now = c.args.self.now in
    let all : c.loop-place.place ≡ len_in now layer = omega (arith, h.upto, c.loop-place-test.false, c.slice.ensures.length, h.lengths layer) in
    elim (cases_lt p (len_in now layer)) [
      | inl here ↦ h.done p (omega (arith, here, all))
      | inr past ↦
          let zero : word_in c.loop-place.self layer p ≡ 0 = past_end c.loop-place.self layer p c.requires.layer.1 (omega (arith, past, h.lengths layer)) in
          let covered = covers_below now layer c.requires.layer.0 c.requires.layer.1 in
          none_past (word_in now (layer - 1)) p (word_in c.loop-place.self layer p) zero (λ b small. past_end now (layer - 1) (64 * p + b) (omega (arith, c.requires.layer.1)) (omega (arith, covered, past)))
    ]
