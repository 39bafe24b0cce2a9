use Rattle.std.proofs.Common.{◌≡◌, ◌≢◌, ℕ, ◌+◌, ◌-◌, ◌*◌, ◌/◌, ◌^◌, ◌<◌, ◌≤◌, [], get_or, arith, lit<, refl, sym, ◌∙◌}
use Rattle.std.proofs.lemmas.List.{get_or_past}
use Rattle.hibitset_base.specs.declared.util.TheConstants.{LAYERS}
use Rattle.hibitset.specs.BitSet.{layers, word_of, slice_len}
use Rattle.hibitset.specs.Layers.{word_in}
use Rattle.hibitset.specs.Layout.{SummariesExactExceptAt}
use Rattle.hibitset.specs.Merge.{Summarizes, MergedUnder, MergedAt}
use Rattle.hibitset.specs.declared.layers.Layers.{Layers}
use Rattle.hibitset.specs.declared.set.BitSet.{BitSet}
use Rattle.hibitset.proofs.LayerLemmas.{shaped}
use Rattle.hibitset.proofs.MergeLemmas.{block_merged}
use Rattle.hibitset.proofs.SummaryUpdateLemmas.{but_block}
use Rattle.hibitset.proofs.set.BitSet.merge_block.Goals as goal

-- our summary word of a block
summary_of : (s : BitSet) (q x : ℕ) → x ≡ word_of s 1 q → Summarizes (word_of s 0) q x
unfolding word_of
summary_of s q x is = record { bits = λ i small. rw is (s.summed.summed 0 q i (lit< tt) small) }

-- where a block has no room, the other has no word
no_room : (s : BitSet) (q : ℕ) (merged : ℕ → ℕ → ℕ) (theirs : ℕ → ℕ) → q < 64 ^ (LAYERS - 2) → slice_len s 1 ≤ q → ((p : ℕ) → p < 64 ^ (LAYERS - 1) → slice_len s 0 ≤ p → merged 0 (theirs p) ≡ 0)
    → MergedUnder merged theirs (word_of s 0) (word_of s 0) 64 q
unfolding word_of
no_room s q merged theirs range past fits = record {
  inside = λ p e.
      let over = (shaped s.layers).covered 0 (lit< tt) in
      let none : word_of s 0 p ≡ 0 = get_or_past (get_or (layers s) 0 []) p 0 (omega arith) in
      rw none (sym (fits p (omega arith) (omega arith)));
  outside = λ p other. refl;
}

merged_same : (merged : ℕ → ℕ → ℕ) (theirs old new now : ℕ → ℕ) (size q : ℕ) → ((p : ℕ) → now p ≡ new p) → MergedUnder merged theirs old new size q → MergedUnder merged theirs old now size q
merged_same merged theirs old new now size q same under = record {
  inside = λ p e. same p ∙ under.inside p e;
  outside = λ p other. same p ∙ under.outside p other;
}

pub returns-then-slice-place-clause-words : goal.returns-then-slice-place-clause-words
returns-then-slice-place-clause-words g c =
    no_room c.args.self.now c.args.place (g.O.Operator.merged) (g.B.BitSetLike.word c.args.other.now 0) c.requires.in_range (let e = c.slice.ensures.length in let t = c.if-slice-place.true in omega (arith, e, t)) c.requires.fits

-- The words below word q have been merged in two turns, and their summary was put over them.
module _ (s : BitSet) (kept merged new : Layers) (q word : ℕ) (base : (p : ℕ) → p / 64 ≢ q → word_in merged 0 p ≡ word_of s 0 p)
    (first : (l p : ℕ) → l ≢ 0 → word_in kept l p ≡ word_in s.layers l p) (second : (l p : ℕ) → l ≢ 0 → word_in merged l p ≡ word_in kept l p) (exact : Summarizes (word_in merged 0) q word)
    (here : word_in new 1 q ≡ word) (others : (p : ℕ) → p ≢ q → word_in new 1 p ≡ word_in merged 1 p) (layers-are : (l p : ℕ) → l ≢ 1 → word_in new l p ≡ word_in merged l p) where
  above : (l p : ℕ) → 1 < l → word_in new l p ≡ word_in s.layers l p
  above l p more = layers-are l p (λ e. absurd (omega (arith, e, more))) ∙ (second l p (λ e. absurd (omega (arith, e, more))) ∙ first l p (λ e. absurd (omega (arith, e, more))))

  block_but : SummariesExactExceptAt LAYERS (word_in new) 1 q
  unfolding word_of
  block_but = but_block LAYERS (word_in s.layers) (word_in new) q s.summed
      (λ p other. layers-are 0 p (λ e. absurd (omega (arith, e))) ∙ base p other)
      (λ p other. others p other ∙ (second 1 p (λ e. absurd (omega (arith, e))) ∙ first 1 p (λ e. absurd (omega (arith, e)))))
      above
      (record { bits = λ b small. rw (here, layers-are 0 (64 * q + b) (λ e. absurd (omega (arith, e)))) (exact.bits b small) })

-- where neither turn has merged
merged_base : (merged : ℕ → ℕ → ℕ) (none theirs old mid new : ℕ → ℕ) (q bits bits' : ℕ) → MergedAt merged none old mid 1 q bits → MergedAt merged theirs mid new 1 q bits' → (p : ℕ) → p / 64 ≢ q → new p ≡ old p
merged_base merged none theirs old mid new q bits bits' first second p other = let same : p / 1 ≡ p = omega arith in second.outside p (rw same other) ∙ first.outside p (rw same other)

pub update_above-requires-clause-summed : goal.update_above-requires-clause-summed
unfolding word_of
update_above-requires-clause-summed g c =
    let kept = c.merge-kept.ensures in
    let merged = c.merge-word.ensures in
    let put = c.store_word.ensures in
    block_but c.args.self.now c.merge-kept.new.self c.merge-word.new.self c.store_word.new.self c.args.place c.merge-word.result (merged_base _ _ _ _ _ _ c.args.place _ _ kept.words merged.words) kept.above merged.above merged.exact put.here put.others put.layers

pub returns-clause-words : goal.returns-clause-words
unfolding word_of
returns-clause-words g c =
    let visit = c.visit-visited.ensures in
    let ours : ℕ = get_or c.slice-2.result.now c.args.place 0 in
    merged_same _ _ _ (word_in c.merge-word.new.self 0) _ 64 c.args.place (λ p. c.update_above.ensures.lower 0 p (omega arith) ∙ c.store_word.ensures.layers 0 p (λ e. absurd (omega (arith, e))))
    (block_merged _ _ _ _ _ c.args.place ours c.args.theirs c.visit-visited.result (omega arith)
    (λ b x y off here there. g.met.O.Operator.keeps ours c.args.theirs b x y (rw visit at off) here there)
    (summary_of c.args.self.now c.args.place ours (c.slice-2.ensures.words c.args.place)) c.requires.theirs
    c.merge-kept.ensures.words c.merge-word.ensures.words)
