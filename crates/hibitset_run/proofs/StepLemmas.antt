-- What one command does to one of the sets that are kept is its step.
use Rattle.std.proofs.Common.{◌≡◌, ℕ, ◌/◌, ◌<◌, ◌≤◌, Bool, true, false, not, nat_lt, ◌||◌, ◌&&◌, ◌==◌, List, length, get_or, set, refl, sym, ◌∙◌, ap, arith, inl, inr}
use Rattle.std.proofs.lemmas.Bool.{cases_lt, false≢true}
use Rattle.std.proofs.lemmas.Bool.Decides.{nat_tests}
use Rattle.std.proofs.lemmas.List.Sums.{list_all-from_AllPass}
use Rattle.hibitset.specs.declared.set.BitSet.{BitSet}
use Rattle.hibitset.specs.BitSet.{has, slice_len}
use Rattle.hibitset_base.specs.Members.{members_below}
use Rattle.hibitset_base.specs.declared.util.TheConstants.{MAX_EID}
use Rattle.hibitset_base.proofs.ListLemmas.{all_found}
use Rattle.hibitset_run.specs.declared.script.Slot.{Slot}
use Rattle.hibitset_run.specs.declared.script.Command.TheVariants as command
use Rattle.hibitset_run.specs.declared.script.Layers.{Layers}
use Rattle.hibitset_run.specs.Script.{bool, list, count, done, no_memory, members_of, has_members, is_past_all_words, sets_of, slot_number, unsplit_size, parts_in, IsStep}
use Rattle.hibitset.proofs.CallerLemmas.{none_past_slice}
use Rattle.hibitset_run.proofs.MemberLemmas.{has-in_range}
use Rattle.hibitset_run.proofs.KeptSetLemmas.{sets_of-at, sets_of-set, sets_of-set_same}

module _ (kept : List BitSet) (slot : Slot) (d : BitSet) (long : length kept ≡ 8) where
  pub added : (id : ℕ) (new : BitSet) (was : Bool) → id < MAX_EID → was ≡ has (get_or kept (slot_number slot) d) id
      → ((i : ℕ) → has new i ≡ (has (get_or kept (slot_number slot) d) i || i == id))
      → IsStep (command.Add slot id) (sets_of kept) (bool was) (sets_of (set kept (slot_number slot) new))
  added id new was below told members =
      let test : nat_lt id MAX_EID ≡ true = grind (arith, nat_tests) in
      let at = sets_of-at kept slot d long in
      rw test (ap bool (told ∙ ap (λ f. f id) (sym at)), sets_of-set kept slot d long new _ (λ i. members i ∙ ap (λ f. f i || i == id) (sym at)))

  -- where there is no room for the word of an index, it lies past those of all members
  past_words : (set : BitSet) (id : ℕ) → slice_len set 0 ≤ id / 64 → is_past_all_words (has set) id ≡ true
  past_words set id past =
      list_all-from_AllPass (λ i. nat_lt (i / 64) (id / 64)) (members_of (has set)) (all_found (λ i. nat_lt (i / 64) (id / 64) ≡ true) (has set) 0 MAX_EID (λ i from below holds.
      let before : i / 64 < slice_len set 0 = elim (cases_lt (i / 64) (slice_len set 0)) [ inl lt ↦ lt | inr ge ↦ absurd (false≢true (sym (none_past_slice set i ge) ∙ holds)) ] in
      grind (arith, nat_tests)))

  pub refused : (id : ℕ) (new : BitSet) → id < MAX_EID → (id / 64 < slice_len (get_or kept (slot_number slot) d) 0 → false ≡ true)
      → ((i : ℕ) → has new i ≡ has (get_or kept (slot_number slot) d) i)
      → IsStep (command.Add slot id) (sets_of kept) no_memory (sets_of (set kept (slot_number slot) new))
  refused id new below room same =
      let test : nat_lt id MAX_EID ≡ true = grind (arith, nat_tests) in
      let past : slice_len (get_or kept (slot_number slot) d) 0 ≤ id / 64 = elim (cases_lt (id / 64) (slice_len (get_or kept (slot_number slot) d) 0)) [ inl lt ↦ absurd (false≢true (room lt)) | inr ge ↦ ge ] in
      let last : is_past_all_words (sets_of kept slot) id ≡ true = ap (λ f. is_past_all_words f id) (sets_of-at kept slot d long) ∙ past_words (get_or kept (slot_number slot) d) id past in
      rw (test, last) (refl, sets_of-set_same kept slot d long new same)

  pub told : (id : ℕ) (holds : Bool) → holds ≡ has (get_or kept (slot_number slot) d) id → IsStep (command.Has slot id) (sets_of kept) (bool holds) (sets_of kept)
  told id holds is =
      (ap bool (is ∙ (sym (has-in_range (get_or kept (slot_number slot) d) id) ∙ ap (λ f. nat_lt id MAX_EID && f id) (sym (sets_of-at kept slot d long)))), refl)

  pub listed : (items : List ℕ) → items ≡ members_below MAX_EID (has (get_or kept (slot_number slot) d)) → IsStep (command.List slot) (sets_of kept) (list items) (sets_of kept)
  listed items is = (ap list (is ∙ ap (members_below MAX_EID) (sym (sets_of-at kept slot d long))), refl)

  pub unlisted : 0 < length (members_below MAX_EID (has (get_or kept (slot_number slot) d))) → IsStep (command.List slot) (sets_of kept) no_memory (sets_of kept)
  unlisted some =
      let members : has_members (sets_of kept slot) ≡ true = ap has_members (sets_of-at kept slot d long) ∙ (let test : has_members (has (get_or kept (slot_number slot) d)) ≡ true = grind (arith, nat_tests) in test) in
      rw members (refl, refl)

  pub removed : (id : ℕ) (new : BitSet) (was : Bool) → was ≡ has (get_or kept (slot_number slot) d) id → ((i : ℕ) → has new i ≡ (has (get_or kept (slot_number slot) d) i && not (i == id)))
      → IsStep (command.Remove slot id) (sets_of kept) (bool was) (sets_of (set kept (slot_number slot) new))
  removed id new was is members =
      ((told id was is).0, sets_of-set kept slot d long new _ (λ i. members i ∙ ap (λ f. f i && not (i == id)) (sym (sets_of-at kept slot d long))))

  pub counted : (number : ℕ) → number ≡ length (members_below MAX_EID (has (get_or kept (slot_number slot) d))) → IsStep (command.Count slot) (sets_of kept) (count number) (sets_of kept)
  counted number is = (ap count (is ∙ ap (λ f. length (members_below MAX_EID f)) (sym (sets_of-at kept slot d long))), refl)

  pub divided : (layers : Layers) (number : ℕ) → number ≡ parts_in (unsplit_size layers) (members_of (has (get_or kept (slot_number slot) d))) → IsStep (command.Split slot layers) (sets_of kept) (count number) (sets_of kept)
  divided layers number is = (ap count (is ∙ ap (λ f. parts_in (unsplit_size layers) (members_of f)) (sym (sets_of-at kept slot d long))), refl)

  pub cleared : (new : BitSet) → ((i : ℕ) → has new i ≡ false) → IsStep (command.Clear slot) (sets_of kept) done (sets_of (set kept (slot_number slot) new))
  cleared new empty = (refl, sets_of-set kept slot d long new _ empty)
