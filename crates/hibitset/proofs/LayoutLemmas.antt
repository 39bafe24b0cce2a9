-- The words of layers in one list, for any number of layers.
use Rattle.std.proofs.Common.{◌≡◌, ◌≢◌, ℕ, zero, suc, ◌+◌, ◌-◌, ◌*◌, ◌^◌, ◌<◌, ◌≤◌, List, [], ◌∷◌, ◌++◌, take, drop, get_or, length, refl, sym, ◌∙◌, ap, arith, lit<, lit≤, inl, inr}
use Rattle.std.proofs.Math.ListN.{set}
use Rattle.std.proofs.lemmas.Bool.{cases_lt}
use Rattle.std.proofs.lemmas.List.{get_or_append_left, get_or-append_right, length-set, get_or-set_same, get_or-set_other, length-take, length-take-le, length-drop, get_or-take, get_or-drop, get_or_past}
use Rattle.hibitset_base.specs.Decisions.{same_or_not}
use Rattle.hibitset_base.specs.Words.{IsShaped, word_at}
use Rattle.hibitset.specs.Merge.{prefix_word}
use Rattle.hibitset.specs.Layout.{layer_len, layer_start, layer_words, all_layers, IsLayout}
use Rattle.hibitset.proofs.LayerStartLemmas.{over_covers, over_first, over_more, over_short, start_first, start_next, start_more, start_bound, none_over, in_room, apart}

-- A list of words, which has room for `room` words of layer 0 and those over them. Of layer 0 `len` count. The word of
-- the top lies apart.
pub record Layout : Type 0 where
  pub words : List ℕ
  pub room : ℕ
  pub len : ℕ
  pub top : ℕ

abbrev pub IsLaid : ℕ → Layout → Type 0
IsLaid n a = IsLayout n a.words a.room a.len a.top

-- where word p of layer l lies in the list
abbrev pub spot : Layout → ℕ → ℕ → ℕ
spot a l p = layer_start l a.room + p

-- the layers, from the lowest up
abbrev pub lists_of : ℕ → Layout → List (List ℕ)
lists_of n a = all_layers a.words a.room a.len a.top 0 (n - 1)

-- the words of a layer
abbrev pub list_of : ℕ → Layout → ℕ → List ℕ
list_of n a l = get_or (lists_of n a) l []

abbrev pub layer_word : ℕ → Layout → ℕ → ℕ → ℕ
layer_word n a = word_at (lists_of n a)

-- one thing is another: the word at position q of layer k, the list and its room, how many words count, or the top's word
abbrev pub with_word : Layout → ℕ → ℕ → ℕ → Layout
with_word a k q x = record { words = set a.words (spot a k q) x; room = a.room; len = a.len; top = a.top }

abbrev pub with_list : Layout → List ℕ → ℕ → Layout
with_list a words room = record { words = words; room = room; len = a.len; top = a.top }

abbrev pub with_len : Layout → ℕ → Layout
with_len a len = record { words = a.words; room = a.room; len = len; top = a.top }

abbrev pub with_top : Layout → ℕ → Layout
with_top a top = record { words = a.words; room = a.room; len = a.len; top = top }

parts_at : (a : Layout) (l k j : ℕ) → j < k → get_or (all_layers a.words a.room a.len a.top l k) j [] ≡ layer_words a.words a.room a.len (l + j)
unfolding all_layers
parts_at a l zero j below = absurd (omega arith)
parts_at a l (suc k) zero below = let e : l + 0 ≡ l = omega arith in rw e refl
parts_at a l (suc k) (suc j) below = let e : l + suc j ≡ l + 1 + j = omega arith in rw e (parts_at a (l + 1) k j (omega arith))

parts_from : (a b : Layout) (P : ℕ → List ℕ → List ℕ → Type 0) → P 0 (a.top ∷ []) (b.top ∷ []) → ((d : ℕ) → P (suc d) [] [])
    → (l k d : ℕ) → P d (get_or (all_layers a.words a.room a.len a.top l k) (k + d) []) (get_or (all_layers b.words b.room b.len b.top l k) (k + d) [])
unfolding all_layers
parts_from a b P one none l zero zero = one
parts_from a b P one none l zero (suc d) = let e : 0 + suc d ≡ suc d = omega arith in rw e (none d)
parts_from a b P one none l (suc k) d = let e : suc k + d ≡ suc (k + d) = omega arith in rw e (parts_from a b P one none (l + 1) k d)

-- what holds of the top, and where there are no words, holds of all layers that are not below the top
pub from_top : (n : ℕ) (a b : Layout) (P : ℕ → List ℕ → List ℕ → Type 0) → P (n - 1) (a.top ∷ []) (b.top ∷ []) → ((l : ℕ) → n - 1 < l → P l [] []) → (l : ℕ) → n - 1 ≤ l → P l (list_of n a l) (list_of n b l)
from_top n a b P one none l upto =
    let z : n - 1 + 0 ≡ n - 1 = omega arith in
    let e : n - 1 + (l - (n - 1)) ≡ l = omega (arith, upto) in
    let h : P (n - 1 + (l - (n - 1))) (list_of n a (n - 1 + (l - (n - 1)))) (list_of n b (n - 1 + (l - (n - 1)))) = parts_from a b (λ d. P (n - 1 + d)) (rw z one) (λ d. none (n - 1 + suc d) (omega arith)) 0 (n - 1) (l - (n - 1)) in
    rw e at h

module _ (n : ℕ) (a : Layout) where
  pub at_layer : (l : ℕ) → l < n - 1 → list_of n a l ≡ layer_words a.words a.room a.len l
  at_layer l below = let e : 0 + l ≡ l = omega arith in parts_at a 0 (n - 1) l below ∙ ap (λ x. layer_words a.words a.room a.len x) e

  -- the word of a layer below the top
  pub word_here : (l p : ℕ) → l < n - 1 → p < layer_len l a.len → layer_word n a l p ≡ get_or a.words (spot a l p) 0
  unfolding layer_words
  word_here l p below here = ap (λ xs. get_or xs p 0) (at_layer l below) ∙ (get_or-take (layer_len l a.len) (drop (layer_start l a.room) a.words) p 0 here ∙ get_or-drop (layer_start l a.room) a.words p 0)

  pub word_top : layer_word n a (n - 1) 0 ≡ a.top
  word_top = from_top n a a (λ l xs ys. l ≡ n - 1 → get_or xs 0 0 ≡ a.top) (λ e. refl) (λ l past e. absurd (omega (arith, past, e))) (n - 1) (omega arith) refl

  module _ (laid : IsLaid n a) where
    pub length_here : (l : ℕ) → l < n - 1 → length (list_of n a l) ≡ layer_len l a.len
    unfolding layer_words
    length_here l below =
        let e = start_next l a.room in
        let h : layer_start (l + 1) a.room ≤ layer_start (n - 1) a.room = start_more (l + 1) (n - 1) a.room (omega arith) in
        let k = over_more l a.len a.room laid.within in
        let d = length-drop (layer_start l a.room) a.words in
        ap length (at_layer l below) ∙ length-take-le (layer_len l a.len) (drop (layer_start l a.room) a.words) (omega (arith, laid.whole, e, h, k, d))

    pub word_past : (l p : ℕ) → l < n - 1 → layer_len l a.len ≤ p → layer_word n a l p ≡ 0
    word_past l p below past = get_or_past (list_of n a l) p 0 (let h = length_here l below in omega (arith, h, past))

    -- the layers have the shape of those of a set
    pub laid_shaped : 0 < n → IsShaped n (lists_of n a)
    laid_shaped some = record {
      words = λ l p. elim (cases_lt l (n - 1)) [
        | inl below ↦ elim (cases_lt p (layer_len l a.len)) [
          | inl here ↦ rw (word_here l p below here) (laid.fits (spot a l p))
          | inr past ↦ rw (word_past l p below past) (lit< tt)
        ]
        | inr upto ↦ from_top n a a (λ k xs ys. get_or xs p 0 < 2 ^ 64) (one_word p) (λ k past. lit< tt) l upto
      ];
      short = λ l within. elim (cases_lt l (n - 1)) [
        | inl below ↦ rw (length_here l below) (over_short n l a.len within (let k = laid.within in let m = laid.short in omega (arith, k, m)))
        | inr upto ↦ (let z : n - 1 - l ≡ 0 = omega (arith, upto) in rw z (from_top n a a (λ k xs ys. length xs ≤ 1) (lit≤ tt) (λ k past. lit≤ tt) l upto))
      ];
      covered = λ l within. rw (length_here l (omega arith), length_here (l + 1) (omega arith)) (over_covers l a.len);
    } where
      one_word : (p : ℕ) → get_or (a.top ∷ []) p 0 < 2 ^ 64
      one_word zero = laid.top_fits
      one_word (suc p) = lit< tt

-- the words of two lists, of which the second counts as many of each layer or more
module _ (n : ℕ) (a b : Layout) (laid : IsLaid n a) (laid' : IsLaid n b) where
  pub word_same : b.top ≡ a.top → a.len ≤ b.len → (l p : ℕ) → (l < n - 1 → p < layer_len l a.len → get_or b.words (spot b l p) 0 ≡ get_or a.words (spot a l p) 0)
      → (l < n - 1 → layer_len l a.len ≤ p → p < layer_len l b.len → get_or b.words (spot b l p) 0 ≡ 0) → layer_word n b l p ≡ layer_word n a l p
  word_same tops more l p same none = elim (cases_lt l (n - 1)) [
    | inl below ↦ elim (cases_lt p (layer_len l a.len)) [
      | inl here ↦ word_here n b l p below (let h = over_more l a.len b.len more in omega (arith, h, here)) ∙ (same below here ∙ sym (word_here n a l p below here))
      | inr past ↦ elim (cases_lt p (layer_len l b.len)) [
        | inl here ↦ word_here n b l p below here ∙ (none below past here ∙ sym (word_past n a laid l p below past))
        | inr out ↦ word_past n b laid' l p below out ∙ sym (word_past n a laid l p below past)
      ]
    ]
    | inr upto ↦ from_top n a b (λ k xs ys. get_or ys p 0 ≡ get_or xs p 0) (ap (λ x. get_or (x ∷ []) p 0) tops) (λ k past. refl) l upto
  ]

  -- as many words of each layer
  pub same_lengths : b.len ≡ a.len → (l : ℕ) → length (list_of n b l) ≡ length (list_of n a l)
  same_lengths e l = elim (cases_lt l (n - 1)) [
    | inl below ↦ length_here n b laid' l below ∙ (ap (λ x. layer_len l x) e ∙ sym (length_here n a laid l below))
    | inr upto ↦ from_top n a b (λ k xs ys. length ys ≡ length xs) refl (λ k past. refl) l upto
  ]

-- a word of layer k is put at position q
module _ (n : ℕ) (a : Layout) (laid : IsLaid n a) (k q x : ℕ) (below : k < n - 1) (here : q < layer_len k a.len) where
  put_room : q < layer_len k a.room
  put_room = let h = over_more k a.len a.room laid.within in omega (arith, h, here)

  pub put_within : spot a k q < length a.words
  put_within = let h = in_room k (n - 1) q a.room below put_room in rw laid.whole h

  -- nothing else is changed
  put_same : (l p : ℕ) → p < layer_len l a.room → (l ≡ k → p ≢ q) → get_or (with_word a k q x).words (spot a l p) 0 ≡ get_or a.words (spot a l p) 0
  put_same l p inside other = get_or-set_other a.words (spot a k q) (spot a l p) x 0 (λ e. elim (same_or_not l k) [
    | inl is ↦ (let at = rw is at e in absurd (other is (omega (arith, at))))
    | inr off ↦ absurd (apart l k p q a.room off inside put_room e)
  ])

  module _ (fits : x < 2 ^ 64) where
    pub put_laid : IsLaid n (with_word a k q x)
    put_laid = record {
      whole = length-set a.words (spot a k q) x ∙ laid.whole;
      within = laid.within;
      short = laid.short;
      fits = λ at. elim (same_or_not at (spot a k q)) [
        | inl e ↦ rw (e, get_or-set_same a.words (spot a k q) x 0 put_within) fits
        | inr other ↦ rw (get_or-set_other a.words (spot a k q) at x 0 other) (laid.fits at)
      ];
      top_fits = laid.top_fits;
      blank = λ l p lower past within.
          put_same l p within (λ is e. (let past_here = rw is at past in absurd (omega (arith, past_here, e, here)))) ∙ laid.blank l p lower past within;
    }

    pub put_here : layer_word n (with_word a k q x) k q ≡ x
    put_here = word_here n (with_word a k q x) k q below here ∙ get_or-set_same a.words (spot a k q) x 0 put_within

    elsewhere : (l p : ℕ) → (l ≡ k → p ≢ q) → layer_word n (with_word a k q x) l p ≡ layer_word n a l p
    elsewhere l p other = word_same n a (with_word a k q x) laid put_laid refl (omega arith) l p
        (λ lower there. put_same l p (let h = over_more l a.len a.room laid.within in omega (arith, h, there)) other) (λ lower past there. absurd (omega arith))

    pub put_others : (p : ℕ) → p ≢ q → layer_word n (with_word a k q x) k p ≡ layer_word n a k p
    put_others p other = elsewhere k p (λ is. other)

    pub put_layers : (l p : ℕ) → l ≢ k → layer_word n (with_word a k q x) l p ≡ layer_word n a l p
    put_layers l p other = elsewhere l p (λ is. absurd (other is))

    pub put_lengths : (l : ℕ) → length (list_of n (with_word a k q x) l) ≡ length (list_of n a l)
    put_lengths l = same_lengths n a (with_word a k q x) laid put_laid refl l

-- what a list has after another
pub appended : (xs ys : List ℕ) (P : ℕ → Type 0) → ((i : ℕ) → P (get_or xs i 0)) → ((i : ℕ) → P (get_or ys i 0)) → (i : ℕ) → P (get_or (xs ++ ys) i 0)
appended xs ys P first second i = elim (cases_lt i (length xs)) [
  | inl here ↦ rw (get_or_append_left xs ys 0 i here) (first i)
  | inr past ↦ rw (get_or-append_right xs ys (length xs) i 0 refl past) (second (i - length xs))
]

-- no words
abbrev pub none_of : List ℕ → ℕ → Layout
none_of words room = record { words = words; room = room; len = 0; top = 0 }

pub empty_laid : (n : ℕ) (words : List ℕ) → words ≡ [] → IsLaid n (none_of words 0)
empty_laid n words none = record {
  whole = (let h = start_bound (n - 1) 0 0 (omega arith) in let z : (n - 1) * 0 ≡ 0 = omega arith in rw none (omega (arith, h, z)));
  within = omega arith;
  short = omega arith;
  fits = λ at. rw none (lit< tt);
  top_fits = lit< tt;
  blank = λ l p below past here. absurd (let h = none_over l in omega (arith, h, here));
}

module _ (n : ℕ) (words : List ℕ) (room : ℕ) (laid : IsLaid n (none_of words room)) where
  pub none_lengths : (l : ℕ) → l < n - 1 → length (list_of n (none_of words room) l) ≡ 0
  none_lengths l below = length_here n (none_of words room) laid l below ∙ none_over l

  pub none_words : (l p : ℕ) → layer_word n (none_of words room) l p ≡ 0
  none_words l p = elim (cases_lt l (n - 1)) [
    | inl below ↦ word_past n (none_of words room) laid l p below (let h = none_over l in omega (arith, h))
    | inr upto ↦ from_top n (none_of words room) (none_of words room) (λ k xs ys. get_or xs p 0 ≡ 0) (zero_word p) (λ k past. refl) l upto
  ] where
    zero_word : (p : ℕ) → get_or {A = ℕ} (0 ∷ []) p 0 ≡ 0
    zero_word zero = refl
    zero_word (suc p) = refl

-- the top gets another word
module _ (n : ℕ) (a : Layout) (x : ℕ) (laid : IsLaid n a) (fits : x < 2 ^ 64) where
  pub top_laid : IsLaid n (with_top a x)
  top_laid = record { whole = laid.whole; within = laid.within; short = laid.short; fits = laid.fits; top_fits = fits; blank = laid.blank }

  pub top_others : (p : ℕ) → p ≢ 0 → layer_word n (with_top a x) (n - 1) p ≡ layer_word n a (n - 1) p
  top_others p other = from_top n a (with_top a x) (λ k xs ys. get_or ys p 0 ≡ get_or xs p 0) (past p other) (λ k past. refl) (n - 1) (omega arith)
    where
      past : (p : ℕ) → p ≢ 0 → get_or (x ∷ []) p 0 ≡ get_or (a.top ∷ []) p 0
      past zero other = absurd (other refl)
      past (suc p) other = refl

  pub top_layers : (l p : ℕ) → l ≢ n - 1 → layer_word n (with_top a x) l p ≡ layer_word n a l p
  top_layers l p other = elim (cases_lt l (n - 1)) [
    | inl below ↦ rw (at_layer n (with_top a x) l below, at_layer n a l below) refl
    | inr upto ↦ from_top n a (with_top a x) (λ k xs ys. k ≢ n - 1 → get_or ys p 0 ≡ get_or xs p 0) (λ off. absurd (off refl)) (λ k past off. refl) l upto other
  ]

-- More words are counted in.
module _ (n : ℕ) (a : Layout) (end : ℕ) (laid : IsLaid n a) (more : a.len ≤ end) (fits : end ≤ a.room) where
  pub counted_laid : IsLaid n (with_len a end)
  counted_laid = record {
    whole = laid.whole;
    within = fits;
    short = laid.short;
    fits = laid.fits;
    top_fits = laid.top_fits;
    blank = λ l p below past here. laid.blank l p below (let h = over_more l a.len end more in omega (arith, h, past)) here;
  }

  pub counted_same : (l p : ℕ) → layer_word n (with_len a end) l p ≡ layer_word n a l p
  counted_same l p = word_same n a (with_len a end) laid counted_laid refl more l p (λ below here. refl) (λ below past here. laid.blank l p below past (let h = over_more l end a.room fits in omega (arith, h, here)))

-- Words of layer 0 that count are changed.
module _ (n : ℕ) (a : Layout) (new : List ℕ) (laid : IsLaid n a) (long : length new ≡ length a.words) (others : (at : ℕ) → a.len ≤ at → get_or new at 0 ≡ get_or a.words at 0) (fits : (at : ℕ) → get_or new at 0 < 2 ^ 64) where
  abbrev lowest : Layout
  lowest = with_list a new a.room

  -- the layers above lie behind
  behind : (l p : ℕ) → l ≢ 0 → a.len ≤ spot a l p
  behind l p above =
      let h : layer_start 1 a.room ≤ layer_start l a.room = start_more 1 l a.room (omega (arith, above)) in
      let e : layer_start 1 a.room ≡ layer_start 0 a.room + layer_len 0 a.room = start_next 0 a.room in
      let o = over_first a.room in
      omega (arith, h, e, o, laid.within)

  pub lowest_laid : IsLaid n lowest
  lowest_laid = record {
    whole = long ∙ laid.whole;
    within = laid.within;
    short = laid.short;
    fits = fits;
    top_fits = laid.top_fits;
    blank = λ l p below past here.
        let past_end : a.len ≤ spot a l p = elim (same_or_not l 0) [
          | inl e ↦ (let z = start_first a.room in let o = over_first a.len in let past_now = rw e at past in rw e (omega (arith, z, o, past_now)))
          | inr above ↦ behind l p above
        ] in
        others (spot a l p) past_end ∙ laid.blank l p below past here;
  }

  pub lowest_words : 1 < n → (p : ℕ) → layer_word n lowest 0 p ≡ prefix_word a.len new p
  lowest_words some p =
      let o = over_first a.len in
      elim (cases_lt p a.len) [
        | inl here ↦
            let at : spot a 0 p ≡ p = (let z = start_first a.room in omega (arith, z)) in
            word_here n lowest 0 p (omega (arith, some)) (omega (arith, o, here)) ∙ (ap (λ q. get_or new q 0) at ∙ sym (get_or-take a.len new p 0 here))
        | inr past ↦ word_past n lowest lowest_laid 0 p (omega (arith, some)) (omega (arith, o, past)) ∙ sym (get_or_past (take a.len new) p 0 (let h = length-take a.len new in omega (arith, h, past)))
      ]

  pub lowest_above : (l p : ℕ) → l ≢ 0 → layer_word n lowest l p ≡ layer_word n a l p
  lowest_above l p above = word_same n a lowest laid lowest_laid refl (omega arith) l p (λ below here. others (spot a l p) (behind l p above)) (λ below past here. absurd (omega (arith, past, here)))

  pub lowest_lengths : (l : ℕ) → length (list_of n lowest l) ≡ length (list_of n a l)
  lowest_lengths l = same_lengths n a lowest laid lowest_laid refl l
