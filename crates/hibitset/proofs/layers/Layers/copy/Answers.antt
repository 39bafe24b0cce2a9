use Rattle.std.proofs.Common.{◌≡◌, ℕ, ◌+◌, ◌-◌, ◌^◌, ◌<◌, ◌++◌, List, get_or, length, sym, ◌∙◌, ap, arith, lit<, inl, inr}
use Rattle.std.proofs.lemmas.List.{length-append, get_or_append_left, get_or-append-add}
use Rattle.hibitset_base.specs.Decisions.{same_or_not}
use Rattle.hibitset_base.specs.declared.util.TheConstants.{LAYERS}
use Rattle.hibitset.specs.Layout.{layer_len, layer_start, count_of, AreStarts}
use Rattle.hibitset.specs.Layers.{lists, word_in, len_in}
use Rattle.hibitset.specs.declared.layers.Layers.{Layers}
use Rattle.hibitset.proofs.LayerStartLemmas.{start_first, start_next, in_room, over_first}
use Rattle.hibitset.proofs.LayoutLemmas.{with_list, appended, length_here}
use Rattle.hibitset.proofs.LayerLemmas.{layout_of, laid, opened, keeps, room_is, length_of, length_first, shaped, copied_laid, copied_same}
use Rattle.hibitset.proofs.layers.Layers.copy.Goals as goal

pub starts_over-end-requires : goal.starts_over-end-requires
starts_over-end-requires c = let x = c.args.self.now in let e = length_first x in let w = (laid x).within in let s = (laid x).short in omega (arith, e, w, s, c.len.ensures)

pub loop-layer-init : goal.loop-layer-init
loop-layer-init c =
    let none = c.in_ok-words.ensures.items in
    record {
      upto = omega arith;
      long = ap length none ∙ sym (start_first (count_of c.args.self.now.lens));
      words = λ k p below here. absurd (omega arith);
      fits = λ at. rw none (lit< tt);
    }

pub loop-layer-preserved : goal.loop-layer-preserved
loop-layer-preserved c =
    let self = c.args.self.now in
    let h = c.loop-layer.invariant in
    let layer : ℕ = c.loop-layer.layer in
    let len : ℕ = count_of self.lens in
    let below : layer < LAYERS - 1 = c.loop-layer-test.true in
    let xs = c.loop-layer.words.items in
    let ys = c.extend_from_slice.new.self.items in
    let zs = c.slice.result.now in
    let added : ys ≡ xs ++ zs = c.in_ok-extend_from_slice.ensures.items in
    let part : length zs ≡ layer_len layer len = c.slice.ensures.length ∙ length_of self layer below in
    let next = start_next layer len in
    let sum : length ys ≡ length xs + length zs = ap length added ∙ length-append xs zs in
    record {
      upto = omega arith;
      long = omega (arith, sum, part, next, h.long);
      words = λ k p upto here. ap (λ vs. get_or vs (layer_start k len + p) 0) added ∙ elim (same_or_not k layer) [
        | inl e ↦ (let at : layer_start k len + p ≡ length xs + p = rw e (omega (arith, h.long)) in rw at (get_or-append-add xs zs p 0 ∙ (c.slice.ensures.words p ∙ ap (λ l. word_in self l p) (sym e))))
        | inr other ↦ get_or_append_left xs zs 0 (layer_start k len + p) (let i = in_room k layer p len (omega arith) here in omega (arith, i, h.long)) ∙ h.words k p (omega arith) here
      ];
      fits = λ at. rw added (appended xs zs (λ x. x < 2 ^ 64) h.fits (λ i. rw (c.slice.ensures.words i) ((shaped self).words layer i)) at);
    }

-- the state of the loop at its end
module _ (x : Layers) (starts items : List ℕ) (layer : ℕ) (is : layer ≡ LAYERS - 1) (begins : AreStarts LAYERS starts (len_in x 0)) (long : length items ≡ layer_start layer (count_of x.lens))
    (words : (k p : ℕ) → k < layer → p < layer_len k (count_of x.lens) → get_or items (layer_start k (count_of x.lens) + p) 0 ≡ word_in x k p) (fits : (at : ℕ) → get_or items at 0 < 2 ^ 64) where
  all_long : length items ≡ layer_start (LAYERS - 1) (count_of x.lens)
  all_long = rw is at long

  all_words : (k p : ℕ) → k < LAYERS - 1 → p < layer_len k (count_of x.lens) → get_or items (layer_start k (count_of x.lens) + p) 0 ≡ word_in x k p
  all_words k p below here = words k p (rw is below) here

  begins_here : AreStarts LAYERS starts (count_of x.lens)
  begins_here = rw (length_first x) at begins

pub invariant_of-result : goal.invariant_of-result
invariant_of-result c =
    let x = c.args.self.now in
    let h = c.loop-layer.invariant in
    let all : c.loop-layer.layer ≡ LAYERS - 1 = omega (arith, h.upto, c.loop-layer-test.false) in
    let begins : AreStarts LAYERS c.starts_over-end.result.0 (len_in x 0) = rw c.len.ensures at c.starts_over-end.ensures.starts in
    record {
      kept = keeps (with_list (layout_of x) c.loop-layer.words.items (count_of x.lens)) c.starts_over-end.result.0 x.lens
          (copied_laid x c.loop-layer.words.items (rw all at h.long) (all_words x c.starts_over-end.result.0 c.loop-layer.words.items c.loop-layer.layer all begins h.long h.words h.fits) h.fits)
          (begins_here x c.starts_over-end.result.0 c.loop-layer.words.items c.loop-layer.layer all begins h.long h.words h.fits) (opened x.kept).lengths;
    }

pub returns-clause-same : goal.returns-clause-same
unfolding lists
returns-clause-same c =
    let x = c.args.self.now in
    let h = c.loop-layer.invariant in
    let all : c.loop-layer.layer ≡ LAYERS - 1 = omega (arith, h.upto, c.loop-layer-test.false) in
    let begins : AreStarts LAYERS c.starts_over-end.result.0 (len_in x 0) = rw c.len.ensures at c.starts_over-end.ensures.starts in
    rw (room_is c.starts_over-end.result.0 (count_of x.lens) (begins_here x c.starts_over-end.result.0 c.loop-layer.words.items c.loop-layer.layer all begins h.long h.words h.fits))
    (copied_same x c.loop-layer.words.items (rw all at h.long) (all_words x c.starts_over-end.result.0 c.loop-layer.words.items c.loop-layer.layer all begins h.long h.words h.fits) h.fits)

pub returns-clause-length : goal.returns-clause-length
unfolding lists
returns-clause-length c =
    let x = c.args.self.now in
    let h = c.loop-layer.invariant in
    let all : c.loop-layer.layer ≡ LAYERS - 1 = omega (arith, h.upto, c.loop-layer-test.false) in
    let begins : AreStarts LAYERS c.starts_over-end.result.0 (len_in x 0) = rw c.len.ensures at c.starts_over-end.ensures.starts in
    rw (room_is c.starts_over-end.result.0 (count_of x.lens) (begins_here x c.starts_over-end.result.0 c.loop-layer.words.items c.loop-layer.layer all begins h.long h.words h.fits))
    (length_here LAYERS (with_list (layout_of x) c.loop-layer.words.items (count_of x.lens)) (copied_laid x c.loop-layer.words.items (rw all at h.long) (all_words x c.starts_over-end.result.0 c.loop-layer.words.items c.loop-layer.layer all begins h.long h.words h.fits) h.fits) 0 (lit< tt)
    ∙ over_first (count_of x.lens)) ∙ sym (length_first x)
