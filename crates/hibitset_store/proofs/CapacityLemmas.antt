-- What room there is for an index that has a value.
use Rattle.std.proofs.Common.{◌≡◌, ℕ, suc, ◌+◌, ◌*◌, ◌/◌, ◌<◌, ◌≤◌, Bool, true, false, cond, List, [], ◌∷◌, length, refl, sym, ◌∙◌, ap, inl, inr, arith}
use Rattle.std.specs.List.{filter}
use Rattle.std.specs.Option.{is_some}
use Rattle.std.specs.Prelude.{◌==◌, if◌then◌else◌, Option}
use Rattle.std.proofs.lemmas.Bool.{cases_lt, false≢true}
use Rattle.hibitset.specs.BitSet.{has, slice_len}
use Rattle.hibitset.specs.declared.set.BitSet.{BitSet}
use Rattle.hibitset.proofs.CallerLemmas.{none_past_slice}
use Rattle.hibitset_store.specs.declared.pages.Pages.{Pages}
use Rattle.hibitset_store.specs.declared.pages.TheConstants.{PAGE, MAX_SLOTS_PER_MADE_SLOT}
use Rattle.hibitset_base.specs.Decisions.{eq_other, same_or_not}
use Rattle.hibitset_base.specs.Members.{members, members_below}
use Rattle.hibitset_store.specs.Pages.{AreAsMany, PageTableInvariant, Covers, is_made, pages_made, slot_count, slot_of, slots_in, start_in, value_at}
use Rattle.hibitset_store.proofs.NewPageLemmas.{PageTableInvariant-kept}
use Rattle.hibitset_store.proofs.PageLemmas.{slot_of-same}

-- the mask has the word of each of its members
pub word-of_member : (mask : BitSet) (i : ℕ) → has mask i ≡ true → i / 64 < slice_len mask 0
word-of_member mask i there = elim (cases_lt (i / 64) (slice_len mask 0)) [
  | inl within ↦ within
  | inr past ↦ absurd (false≢true (sym (none_past_slice mask i past) ∙ there))
]

-- Pages are counted in the table or by their numbers.
pages-counted : (starts : List ℕ) (holds : ℕ → Bool) (a : ℕ) → ((p : ℕ) → p < length starts → holds (a + p) ≡ is_made (start_in starts p)) → length (members holds a (length starts)) ≡ pages_made starts
unfolding members
pages-counted [] holds a same = refl
pages-counted (start ∷ starts) holds a same = by (is_made start) (ap holds (omega arith) ∙ same 0 (omega arith)) (pages-counted starts holds (suc a) (λ p within. ap holds (omega arith) ∙ same (suc p) (omega (arith, within))))
  where
    by : (b : Bool) → holds a ≡ b → length (members holds (suc a) (length starts)) ≡ pages_made starts → length (cond (holds a) (a ∷ members holds (suc a) (length starts)) (members holds (suc a) (length starts))) ≡ length (cond b (start ∷ filter is_made starts) (filter is_made starts))
    by true is rest = rw is (ap suc rest)
    by false is rest = rw is rest

module _ {V : Type 0} where
  -- there is room for each index that has a value
  pub room-of_some : (mask : BitSet) (pages : Pages V) → Covers mask pages → PageTableInvariant pages → (i : ℕ) → is_some (value_at pages i) ≡ true → (slots_in pages (i / PAGE) ≡ PAGE) × (i / 64 < slice_len mask 0)
  room-of_some mask pages covers laid i some = (laid.made i some, word-of_member mask i (covers i ∙ some))

  -- the same pages have the same slots
  pub slots_in-many : (old new : Pages V) → AreAsMany old new → (p : ℕ) → slots_in new p ≡ slots_in old p
  slots_in-many old new many p = ap (λ starts. if is_made (start_in starts p) then PAGE else 0) many.starts

  -- and are laid out as they were, where no index of a page that is not made has got a value
  pub PageTableInvariant-many : (old new : Pages V) → PageTableInvariant old → AreAsMany old new → ((i : ℕ) → is_some (value_at new i) ≡ true → slots_in old (i / PAGE) ≡ PAGE) → PageTableInvariant new
  PageTableInvariant-many old new laid many made = PageTableInvariant-kept old new same many.count
      (rw many.starts laid.few)
      (rw many.order laid.whole)
      (rw (many.starts, many.order) laid.ordered)
      (many.count ∙ (laid.counts ∙ rw (many.order, many.starts) refl))
      (rw many.starts (omega arith))
      (λ i here. laid.there i (sym (slots_in-many old new many (i / PAGE)) ∙ here))
      (λ i some. slots_in-many old new many (i / PAGE) ∙ made i some)
      laid
    where
      same : (i : ℕ) → slot_of new i ≡ slot_of old i
      same i = slot_of-same old new i many.order (ap (λ starts. start_in starts (i / PAGE)) many.starts)

  -- as where one index of a page that is made has got another value, or none
  pub PageTableInvariant-put : (old new : Pages V) (id : ℕ) (value : Option V) → PageTableInvariant old → AreAsMany old new → slots_in old (id / PAGE) ≡ PAGE → ((i : ℕ) → value_at new i ≡ (if i == id then value else value_at old i)) → PageTableInvariant new
  PageTableInvariant-put old new id value laid many page put = PageTableInvariant-many old new laid many (λ i some. elim (same_or_not i id) [
    | inl here ↦ ap (λ i. slots_in old (i / PAGE)) here ∙ page
    | inr other ↦ laid.made i (ap is_some (sym (put i ∙ rw (eq_other i id other) refl)) ∙ some)
  ])

  -- and there are no more slots than `MAX_SLOTS_PER_MADE_SLOT` times those of the pages made
  pub slots-bounded : (pages : Pages V) → PageTableInvariant pages → slot_count pages ≤ MAX_SLOTS_PER_MADE_SLOT * (PAGE * length (members_below (length pages.starts.items) (λ p. slots_in pages p == PAGE)))
  slots-bounded pages laid =
      let counted = pages-counted pages.starts.items (λ p. slots_in pages p == PAGE) 0 (λ p within. ap (λ p. slots_in pages p == PAGE) (omega arith) ∙ by (is_made (start_in pages.starts.items p))) in
      let bounded = laid.bounded in
      omega (arith, counted, bounded)
    where
      by : (b : Bool) → ((if b then PAGE else 0) == PAGE) ≡ b
      by true = refl
      by false = refl
