use Rattle.std.proofs.Common.{◌≡◌, ◌≢◌, ℕ, ◌+◌, ◌*◌, ◌^◌, ◌<◌, ◌≤◌, List, get_or, length, sym, ◌∙◌, ap, arith, lit<}
use Rattle.hibitset_base.specs.declared.util.TheConstants.{LAYERS}
use Rattle.hibitset.specs.Layout.{count_of, LayoutInvariant}
use Rattle.hibitset.specs.Layers.{lists, word_in, len_in, room_in}
use Rattle.hibitset.specs.Merge.{prefix_word, MergedAt, Summarizes}
use Rattle.hibitset.specs.declared.layers.Layers.{Layers}
use Rattle.hibitset.proofs.LayoutLemmas.{IsLaid, list_of, layer_word, with_list, lowest_laid, lowest_words, lowest_above, lowest_lengths}
use Rattle.hibitset.proofs.LayerLemmas.{layout_of, laid, opened, keeps, length_first, slice_within, counted_first}
use Rattle.hibitset.proofs.layers.Layers.merge.Goals as goal

summary_same : (words words' : ℕ → ℕ) (q summary : ℕ) → ((p : ℕ) → words' p ≡ words p) → Summarizes words q summary → Summarizes words' q summary
summary_same words words' q summary same h = record { bits = λ b small. rw (same (64 * q + b)) (h.bits b small) }

merged_same : (merged : ℕ → ℕ → ℕ) (theirs old new old' new' : ℕ → ℕ) (size q bits : ℕ) → ((p : ℕ) → old' p ≡ old p) → ((p : ℕ) → new' p ≡ new p) → MergedAt merged theirs old new size q bits → MergedAt merged theirs old' new' size q bits
merged_same merged theirs old new old' new' size q bits olds news h = record {
  inside = λ p e on. news p ∙ (h.inside p e on ∙ ap (λ x. merged x (theirs p)) (sym (olds p)));
  kept = λ p e off. news p ∙ (h.kept p e off ∙ sym (olds p));
  outside = λ p e. news p ∙ (h.outside p e ∙ sym (olds p));
}

-- The words of layer 0 that count have been merged, and no others.
module _ (x : Layers) (len : ℕ) (new : List ℕ) (len-is : len ≡ len_in x 0) (long : length new ≡ length x.words.items) (others : (p : ℕ) → len ≤ p → get_or new p 0 ≡ get_or x.words.items p 0)
    (bounded : ((p : ℕ) → get_or x.words.items p 0 < 2 ^ 64) → (p : ℕ) → get_or new p 0 < 2 ^ 64) where
  others_here : (p : ℕ) → count_of x.lens ≤ p → get_or new p 0 ≡ get_or x.words.items p 0
  others_here p past = others p (let e = length_first x in omega (arith, e, len-is, past))

  new_laid : IsLaid LAYERS (with_list (layout_of x) new (room_in x))
  new_laid = lowest_laid LAYERS (layout_of x) new (laid x) long others_here (bounded (laid x).fits)

  new_kept : ∥ LayoutInvariant LAYERS new x.starts x.lens x.top ∥₁
  new_kept = keeps (with_list (layout_of x) new (room_in x)) x.starts x.lens new_laid (opened x.kept).begins (opened x.kept).lengths

  new_first : (p : ℕ) → layer_word LAYERS (with_list (layout_of x) new (room_in x)) 0 p ≡ prefix_word len new p
  new_first p =
      let is : len ≡ count_of x.lens = len-is ∙ length_first x in
      rw is (lowest_words LAYERS (layout_of x) new (laid x) long others_here (bounded (laid x).fits) (lit< tt) p)

  new_above : (l p : ℕ) → l ≢ 0 → layer_word LAYERS (with_list (layout_of x) new (room_in x)) l p ≡ word_in x l p
  unfolding lists
  new_above = lowest_above LAYERS (layout_of x) new (laid x) long others_here (bounded (laid x).fits)

  new_lengths : (l : ℕ) → length (list_of LAYERS (with_list (layout_of x) new (room_in x)) l) ≡ len_in x l
  unfolding lists
  new_lengths = lowest_lengths LAYERS (layout_of x) new (laid x) long others_here (bounded (laid x).fits)

pub merge_words-requires-clause-long_enough : goal.merge_words-requires-clause-long_enough
merge_words-requires-clause-long_enough g c = let h = slice_within c.args.self.now 0 (lit< tt) in omega (arith, h, c.len-len.ensures)

pub merge_words-requires-clause-exact : goal.merge_words-requires-clause-exact
merge_words-requires-clause-exact g c = summary_same _ _ _ _ (λ p. counted_first c.args.self.now c.len-len.result p c.len-len.ensures) c.requires.exact

pub invariant_of-self : goal.invariant_of-self
invariant_of-self g c =
    let e = c.merge_words.ensures in
    record { kept = new_kept c.args.self.now c.len-len.result c.merge_words.new.words.items c.len-len.ensures e.length e.others e.bounded }

pub returns-clause-lengths : goal.returns-clause-lengths
unfolding lists
returns-clause-lengths g c = let e = c.merge_words.ensures in new_lengths c.args.self.now c.len-len.result c.merge_words.new.words.items c.len-len.ensures e.length e.others e.bounded

pub returns-clause-words : goal.returns-clause-words
unfolding lists
returns-clause-words g c =
    let e = c.merge_words.ensures in
    merged_same _ _ (prefix_word c.len-len.result c.args.self.now.words.items) (prefix_word c.len-len.result c.merge_words.new.words.items) _ _ _ _ _ (λ p. sym (counted_first c.args.self.now c.len-len.result p c.len-len.ensures))
    (new_first c.args.self.now c.len-len.result c.merge_words.new.words.items c.len-len.ensures e.length e.others e.bounded) e.words

pub returns-clause-exact : goal.returns-clause-exact
unfolding lists
returns-clause-exact g c =
    let e = c.merge_words.ensures in
    summary_same (prefix_word c.len-len.result c.merge_words.new.words.items) _ _ _ (new_first c.args.self.now c.len-len.result c.merge_words.new.words.items c.len-len.ensures e.length e.others e.bounded) e.exact

pub returns-clause-above : goal.returns-clause-above
unfolding lists
returns-clause-above g c = let e = c.merge_words.ensures in new_above c.args.self.now c.len-len.result c.merge_words.new.words.items c.len-len.ensures e.length e.others e.bounded
