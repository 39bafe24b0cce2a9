-- The words of `Layers`, by layer and place.
use Rattle.std.proofs.Common.{◌≡◌, ℕ, zero, suc, ◌+◌, ◌-◌, ◌*◌, ◌/◌, ◌^◌, ◌<◌, ◌≤◌, List, [], ◌∷◌, take, drop, get_or, length, refl, sym, ◌∙◌, ap, arith, lit<, inl, inr}
use Rattle.std.proofs.Math.Logic.{∥∥₁_elim}
use Rattle.std.proofs.Props.{props}
use Rattle.std.proofs.lemmas.Bool.{cases_lt}
use Rattle.std.proofs.lemmas.List.{get_or-take, get_or_past, length-take}
use Rattle.hibitset_base.specs.Words.{IsShaped}
use Rattle.hibitset_base.specs.declared.util.TheConstants.{LAYERS}
use Rattle.hibitset.specs.Layout.{layer_len, layer_start, layer_words, room_of, count_of, AreStarts, AreLengths, LayoutInvariant}
use Rattle.hibitset.specs.Merge.{prefix_word}
use Rattle.hibitset.specs.Layers.{lists, word_in, len_in, room_in}
use Rattle.hibitset.specs.declared.layers.Layers.{Layers}
use Rattle.hibitset.proofs.LayerStartLemmas.{over_first, over_next, over_covers, over_up, start_first, start_next, start_bound, start_more, over_more, none_over}
use Rattle.hibitset.proofs.LayoutLemmas.{Layout, IsLaid, layer_word, with_list, none_of, from_top, at_layer, length_here, word_here, word_past, word_top, word_same, laid_shaped, empty_laid}

-- what is kept, opened
pub opened : {n : ℕ} {words starts lens : List ℕ} {top : ℕ} → ∥ LayoutInvariant n words starts lens top ∥₁ → LayoutInvariant n words starts lens top
opened kept = ∥∥₁_elim kept (Prim.hlevel props) (λ k. k)

-- the second layer begins behind the room of the first
pub room_is : (starts : List ℕ) (room : ℕ) → AreStarts LAYERS starts room → room_of starts ≡ room
room_is starts room are =
    let h : get_or starts 1 0 ≡ layer_start 1 room = are 1 (lit< tt) in
    let n : layer_start 1 room ≡ layer_start 0 room + layer_len 0 room = start_next 0 room in
    let a = start_first room in
    let b = over_first room in
    omega (arith, h, n, a, b)

pub count_is : (lens : List ℕ) (len : ℕ) → AreLengths LAYERS lens len → count_of lens ≡ len
count_is lens len are = are 0 (lit< tt) ∙ over_first len

-- what is kept of a list that is laid out, with the places and lengths of its layers
pub keeps : (a : Layout) (starts lens : List ℕ) → IsLaid LAYERS a → AreStarts LAYERS starts a.room → AreLengths LAYERS lens a.len → ∥ LayoutInvariant LAYERS a.words starts lens a.top ∥₁
keeps a starts lens laid starts-are lens-are =
    let r = room_is starts a.room starts-are in
    let c = count_is lens a.len lens-are in
    ∣ record { laid = rw (r, c) laid; begins = rw r starts-are; lengths = rw c lens-are } ∣₁

-- how the words of `Layers` lie in their list
abbrev pub layout_of : Layers → Layout
layout_of x = record { words = x.words.items; room = room_in x; len = count_of x.lens; top = x.top }

module _ (x : Layers) where
  pub laid : IsLaid LAYERS (layout_of x)
  laid = (opened x.kept).laid

  pub start_is : (l : ℕ) → l < LAYERS - 1 → get_or x.starts l 0 ≡ layer_start l (room_in x)
  start_is l below = (opened x.kept).begins l below

  pub slice_is : (l : ℕ) → l < LAYERS - 1 → take (layer_len l (count_of x.lens)) (drop (layer_start l (room_in x)) x.words.items) ≡ get_or (lists x) l []
  unfolding lists layer_words
  slice_is l below = sym (at_layer LAYERS (layout_of x) l below)

  pub length_of : (l : ℕ) → l < LAYERS - 1 → len_in x l ≡ layer_len l (count_of x.lens)
  unfolding lists
  length_of l below = length_here LAYERS (layout_of x) laid l below

  pub length_is : (l : ℕ) → l < LAYERS - 1 → get_or x.lens l 0 ≡ len_in x l
  length_is l below = (opened x.kept).lengths l below ∙ sym (length_of l below)

  pub length_first : len_in x 0 ≡ count_of x.lens
  length_first = length_of 0 (lit< tt) ∙ over_first (count_of x.lens)

  pub top_word : word_in x (LAYERS - 1) 0 ≡ x.top
  unfolding lists
  top_word = word_top LAYERS (layout_of x)

  pub word_there : (l p : ℕ) → l < LAYERS - 1 → p < len_in x l → word_in x l p ≡ get_or x.words.items (layer_start l (room_in x) + p) 0
  unfolding lists
  word_there l p below here = word_here LAYERS (layout_of x) l p below (let h = length_of l below in omega (arith, h, here))

  pub past_end : (l p : ℕ) → l < LAYERS - 1 → len_in x l ≤ p → word_in x l p ≡ 0
  unfolding lists
  past_end l p below past = word_past LAYERS (layout_of x) laid l p below (let h = length_of l below in omega (arith, h, past))

  -- the words of layer 0 are the first ones of the list
  pub counted_first : (len p : ℕ) → len ≡ len_in x 0 → prefix_word len x.words.items p ≡ word_in x 0 p
  counted_first len p is =
      let at : layer_start 0 (room_in x) + p ≡ p = (let z = start_first (room_in x) in omega (arith, z)) in
      elim (cases_lt p len) [
        | inl here ↦ get_or-take len x.words.items p 0 here ∙ (ap (λ q. get_or x.words.items q 0) (sym at) ∙ sym (word_there 0 p (lit< tt) (omega (arith, here, is))))
        | inr past ↦ get_or_past (take len x.words.items) p 0 (let h = length-take len x.words.items in omega (arith, h, past)) ∙ sym (past_end 0 p (lit< tt) (omega (arith, past, is)))
      ]

  -- layer 0 has the words of a list that the vector begins with
  pub words_first : (words : List ℕ) → len_in x 0 ≡ length words → ((at : ℕ) → get_or x.words.items at 0 ≡ get_or words at 0) → (p : ℕ) → word_in x 0 p ≡ get_or words p 0
  words_first words is same p =
      let at : layer_start 0 (room_in x) + p ≡ p = (let z = start_first (room_in x) in omega (arith, z)) in
      elim (cases_lt p (length words)) [
        | inl here ↦ word_there 0 p (lit< tt) (omega (arith, here, is)) ∙ (ap (λ q. get_or x.words.items q 0) at ∙ same p)
        | inr past ↦ past_end 0 p (lit< tt) (omega (arith, past, is)) ∙ sym (get_or_past words p 0 past)
      ]

  pub shaped : IsShaped LAYERS (lists x)
  unfolding lists
  shaped = laid_shaped LAYERS (layout_of x) laid (lit< tt)

  -- a layer's words lie within the list
  pub slice_within : (l : ℕ) → l < LAYERS - 1 → layer_start l (room_in x) + len_in x l ≤ length x.words.items
  slice_within l below =
      let h : layer_start (l + 1) (room_in x) ≤ layer_start (LAYERS - 1) (room_in x) = start_more (l + 1) (LAYERS - 1) (room_in x) (omega arith) in
      let e = start_next l (room_in x) in
      let k = over_more l (count_of x.lens) (room_in x) laid.within in
      let n = length_of l below in
      omega (arith, h, e, k, n, laid.whole)

  -- and the list is short
  pub list_short : length x.words.items ≤ (LAYERS - 1) * 64 ^ (LAYERS - 1)
  list_short = let h = start_bound (LAYERS - 1) (room_in x) (64 ^ (LAYERS - 1)) laid.short in omega (arith, h, laid.whole)

  -- under a word of a layer lies one of the layer below
  pub has_below : (l p : ℕ) → 0 < l → l < LAYERS - 1 → p < len_in x l → 64 * p < len_in x (l - 1)
  has_below l p positive below here =
      let up : l - 1 + 1 ≡ l = omega (arith, positive) in
      let next : layer_len l (count_of x.lens) ≡ (layer_len (l - 1) (count_of x.lens) + 63) / 64 = rw up at (over_next (l - 1) (count_of x.lens)) in
      let above = length_of l below in
      let under = length_of (l - 1) (omega (arith, below)) in
      omega (arith, next, above, under, here)

  -- a layer covers the one below
  pub covers_below : (l : ℕ) → 0 < l → l < LAYERS - 1 → len_in x (l - 1) ≤ 64 * len_in x l
  covers_below l positive below =
      let up : l - 1 + 1 ≡ l = omega (arith, positive) in
      let covers : layer_len (l - 1) (count_of x.lens) ≤ 64 * layer_len l (count_of x.lens) = rw up at (over_covers (l - 1) (count_of x.lens)) in
      let above = length_of l below in
      let under = length_of (l - 1) (omega (arith, below)) in
      omega (arith, covers, above, under)

  -- the word over a word that a layer has
  pub has_above : (l p : ℕ) → l + 1 < LAYERS - 1 → p < len_in x l → p / 64 < len_in x (l + 1)
  has_above l p below here = rw (length_of (l + 1) below) (over_up l p (count_of x.lens) (let h = length_of l (omega arith) in omega (arith, h, here)))

-- the top is one word
pub one_at_top : (x : Layers) (p : ℕ) → 0 < p → word_in x (LAYERS - 1) p ≡ 0
one_at_top x p some = get_or_past (get_or (lists x) (LAYERS - 1) []) p 0 (let h = (shaped x).short (LAYERS - 1) (lit< tt) in omega (arith, h, some))

-- as many words in layer 0 are as many in each
pub lengths_same : (x y : Layers) → len_in y 0 ≡ len_in x 0 → (l : ℕ) → len_in y l ≡ len_in x l
unfolding lists
lengths_same x y same l = elim (cases_lt l (LAYERS - 1)) [
  | inl below ↦ length_of y l below ∙ (ap (λ z. layer_len l z) (sym (length_first y) ∙ (same ∙ length_first x)) ∙ sym (length_of x l below))
  | inr upto ↦ from_top LAYERS (layout_of x) (layout_of y) (λ k xs ys. length ys ≡ length xs) refl (λ k past. refl) l upto
]

-- The words of x that count, in another list with no more room than they need.
module _ (x : Layers) (items : List ℕ) (whole : length items ≡ layer_start (LAYERS - 1) (count_of x.lens))
    (words : (l p : ℕ) → l < LAYERS - 1 → p < layer_len l (count_of x.lens) → get_or items (layer_start l (count_of x.lens) + p) 0 ≡ word_in x l p) (small : (at : ℕ) → get_or items at 0 < 2 ^ 64) where
  pub copied_laid : IsLaid LAYERS (with_list (layout_of x) items (count_of x.lens))
  copied_laid = record {
    whole = whole;
    within = omega arith;
    short = (let l = laid x in let w = l.within in let s = l.short in omega (arith, w, s));
    fits = small;
    top_fits = (laid x).top_fits;
    blank = λ l p below past here. absurd (omega (arith, past, here));
  }

  pub copied_same : (l p : ℕ) → layer_word LAYERS (with_list (layout_of x) items (count_of x.lens)) l p ≡ word_in x l p
  unfolding lists
  copied_same l p = word_same LAYERS (layout_of x) (with_list (layout_of x) items (count_of x.lens)) (laid x) copied_laid refl (omega arith) l p
      (λ below here. words l p below here ∙ word_there x l p below (let h = length_of x l below in omega (arith, h, here))) (λ below past here. absurd (omega (arith, past, here)))

-- no words
pub keeps_none : (words : List ℕ) → words ≡ [] → ∥ LayoutInvariant LAYERS words (0 ∷ 0 ∷ 0 ∷ 0 ∷ []) (0 ∷ 0 ∷ 0 ∷ 0 ∷ []) 0 ∥₁
keeps_none words none = keeps (none_of words 0) (0 ∷ 0 ∷ 0 ∷ 0 ∷ []) (0 ∷ 0 ∷ 0 ∷ 0 ∷ []) (empty_laid LAYERS words none) (λ l below. zeros l ∙ sym (none_start l)) (λ l below. zeros l ∙ sym (none_over l)) where
  zeros : (l : ℕ) → get_or {A = ℕ} (0 ∷ 0 ∷ 0 ∷ 0 ∷ []) l 0 ≡ 0
  zeros zero = refl
  zeros (suc zero) = refl
  zeros (suc (suc zero)) = refl
  zeros (suc (suc (suc zero))) = refl
  zeros (suc (suc (suc (suc l)))) = refl

  none_start : (l : ℕ) → layer_start l 0 ≡ 0
  none_start l = let h = start_bound l 0 0 (omega arith) in let z : l * 0 ≡ 0 = omega arith in omega (arith, h, z)
