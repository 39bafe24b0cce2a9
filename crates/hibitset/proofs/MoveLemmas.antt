-- The layers are moved to where they begin in a list that has more room.
use Rattle.std.proofs.Common.{◌≡◌, ℕ, ◌+◌, ◌-◌, ◌^◌, ◌<◌, ◌≤◌, List, get_or, length, refl, ◌∙◌, arith, lit<, inl, inr}
use Rattle.std.proofs.lemmas.Bool.{cases_lt}
use Rattle.std.proofs.lemmas.List.{get_or_past}
use Rattle.hibitset_base.specs.Decisions.{same_or_not}
use Rattle.hibitset.specs.Layout.{layer_len, layer_start, IsMovedFrom}
use Rattle.hibitset.proofs.LayerStartLemmas.{over_more, start_first, start_next, start_more, start_wider}
use Rattle.hibitset.proofs.LayoutLemmas.{Layout, IsLaid, spot, layer_word, with_list, word_same}

module _ (n : ℕ) (a : Layout) (wider : ℕ) (laid : IsLaid n a) (more : a.room ≤ wider) where
  -- a layer's words are blank past those that count
  blank_from : (l at : ℕ) → l < n - 1 → layer_start l a.room + layer_len l a.len ≤ at → at < layer_start (l + 1) a.room → get_or a.words at 0 ≡ 0
  blank_from l at below past under =
      let e = start_next l a.room in
      let is : layer_start l a.room + (at - layer_start l a.room) ≡ at = omega (arith, past) in
      rw (← is) (laid.blank l (at - layer_start l a.room) below (omega (arith, past)) (omega (arith, past, under, e)))

  -- the list has been lengthened
  pub moved_first : (new : List ℕ) → length new ≡ layer_start (n - 1) wider → ((at : ℕ) → get_or new at 0 ≡ get_or a.words at 0) → IsMovedFrom (n - 1) a.room a.len wider (n - 1) a.words new
  moved_first new long same = record {
    long = long;
    below = λ at under. same at;
    between = λ at past under. same at ∙ get_or_past a.words at 0 (omega (arith, laid.whole, past));
    moved = λ l p past below here. absurd (omega (arith, past, below));
    blank = λ l p past below over_it here. absurd (omega (arith, past, below));
    fits = λ at. rw (same at) (laid.fits at);
  }

  -- one layer more is moved
  module _ (k : ℕ) (mid new : List ℕ) (inside : k < n - 1) (before : IsMovedFrom (n - 1) a.room a.len wider (k + 1) a.words mid) (long : length new ≡ length mid)
      (moved : (p : ℕ) → p < layer_len k a.len → get_or new (layer_start k wider + p) 0 ≡ get_or mid (spot a k p) 0)
      (left : (at : ℕ) → layer_start k a.room ≤ at → at < layer_start k a.room + layer_len k a.len → at < layer_start k wider → get_or new at 0 ≡ 0)
      (below : (at : ℕ) → at < layer_start k a.room → get_or new at 0 ≡ get_or mid at 0)
      (between : (at : ℕ) → layer_start k a.room + layer_len k a.len ≤ at → at < layer_start k wider → get_or new at 0 ≡ get_or mid at 0)
      (above : (at : ℕ) → layer_start k wider + layer_len k a.len ≤ at → get_or new at 0 ≡ get_or mid at 0) where
    next_old : layer_start (k + 1) a.room ≡ layer_start k a.room + layer_len k a.room
    next_old = start_next k a.room

    next_new : layer_start (k + 1) wider ≡ layer_start k wider + layer_len k wider
    next_new = start_next k wider

    held : layer_len k a.len ≤ layer_len k a.room
    held = over_more k a.len a.room laid.within

    widened : layer_len k a.room ≤ layer_len k wider
    widened = over_more k a.room wider more

    -- what lies past the words of layer k, before the next one
    rest_blank : (at : ℕ) → layer_start k a.room + layer_len k a.len ≤ at → at < layer_start (k + 1) wider → get_or mid at 0 ≡ 0
    rest_blank at past under = elim (cases_lt at (layer_start (k + 1) a.room)) [
      | inl early ↦ before.below at early ∙ blank_from k at inside past early
      | inr late ↦ before.between at late under
    ]

    -- what lies past layer k stays
    later : (at : ℕ) → layer_start (k + 1) wider ≤ at → get_or new at 0 ≡ get_or mid at 0
    later at past = above at (omega (arith, past, next_new, held, widened))

    later_layer : (l p : ℕ) → k < l → layer_start (k + 1) wider ≤ layer_start l wider + p
    later_layer l p higher = let h = start_more (k + 1) l wider (omega (arith, higher)) in omega (arith, h)

    pub moved_step : IsMovedFrom (n - 1) a.room a.len wider k a.words new
    moved_step = record {
      long = long ∙ before.long;
      below = λ at under. below at under ∙ before.below at (omega (arith, under, next_old));
      between = λ at past under. elim (cases_lt at (layer_start k a.room + layer_len k a.len)) [
        | inl early ↦ left at past early under
        | inr late ↦ between at late under ∙ rest_blank at late (omega (arith, under, next_new))
      ];
      moved = λ l p upto lower here. elim (same_or_not l k) [
        | inl e ↦ (let here_now = rw e at here in rw e (moved p here_now ∙ before.below (spot a k p) (omega (arith, here_now, next_old, held))))
        | inr other ↦ (let higher : k < l = omega (arith, upto, other) in later (layer_start l wider + p) (later_layer l p higher) ∙ before.moved l p (omega (arith, higher)) lower here)
      ];
      blank = λ l p upto lower past here. elim (same_or_not l k) [
        | inl e ↦ (let past_now = rw e at past in let here_now = rw e at here in let up = start_wider k a.room wider more in
            rw e (above (layer_start k wider + p) (omega (arith, past_now)) ∙ rest_blank (layer_start k wider + p) (omega (arith, past_now, up)) (omega (arith, here_now, next_new))))
        | inr other ↦ (let higher : k < l = omega (arith, upto, other) in later (layer_start l wider + p) (later_layer l p higher) ∙ before.blank l p (omega (arith, higher)) lower past here)
      ];
      fits = fits_all;
    } where
      fits_all : (at : ℕ) → get_or new at 0 < 2 ^ 64
      fits_all at = elim (cases_lt at (layer_start k a.room)) [
        | inl first ↦ rw (below at first) (before.fits at)
        | inr past ↦ elim (cases_lt at (layer_start k wider)) [
          | inl under ↦ elim (cases_lt at (layer_start k a.room + layer_len k a.len)) [
            | inl early ↦ rw (left at past early under) (lit< tt)
            | inr late ↦ rw (between at late under) (before.fits at)
          ]
          | inr over_it ↦ elim (cases_lt at (layer_start k wider + layer_len k a.len)) [
            | inl here ↦
                let is : layer_start k wider + (at - layer_start k wider) ≡ at = omega (arith, over_it) in
                rw (← is) (rw (moved (at - layer_start k wider) (omega (arith, over_it, here))) (before.fits (layer_start k a.room + (at - layer_start k wider))))
            | inr late ↦ rw (above at late) (before.fits at)
          ]
        ]
      ]

  -- layer 0 stays where it is
  pub moved_last : (new : List ℕ) → 1 < n → IsMovedFrom (n - 1) a.room a.len wider 1 a.words new → IsMovedFrom (n - 1) a.room a.len wider 0 a.words new
  moved_last new some before = moved_step 0 new new (omega (arith, some)) before refl
      (λ p here. rw (start_first wider, start_first a.room) refl) (λ at past here under. absurd (let z = start_first wider in omega (arith, z, under)))
      (λ at under. refl) (λ at past under. refl) (λ at past. refl)

  -- the layers lie in more room
  module _ (new : List ℕ) (all : IsMovedFrom (n - 1) a.room a.len wider 0 a.words new) (short : wider ≤ 64 ^ (n - 1)) where
    pub wider_laid : IsLaid n (with_list a new wider)
    wider_laid = record {
      whole = all.long;
      within = (let w = laid.within in omega (arith, w, more));
      short = short;
      fits = all.fits;
      top_fits = laid.top_fits;
      blank = λ l p below past here. all.blank l p (omega arith) below past here;
    }

    pub wider_same : (l p : ℕ) → layer_word n (with_list a new wider) l p ≡ layer_word n a l p
    wider_same l p = word_same n a (with_list a new wider) laid wider_laid refl (omega arith) l p (λ below here. all.moved l p (omega arith) below here) (λ below past here. absurd (omega (arith, past, here)))
