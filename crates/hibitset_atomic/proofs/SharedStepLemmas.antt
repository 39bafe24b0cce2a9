-- How a walk among adders begins, and what its users see of a step.
use Rattle.std.proofs.Common.{◌≡◌, ◌⊎◌, inl, inr, ⊎_elim, ℕ, zero, suc, ◌-◌, ◌<◌, ◌≤◌, List, [], ◌∷◌, All, Option, None, Some, MatchOption, IfSome, sym, refl, ap, ◌∙◌, subst, arith}
use Rattle.std.specs.Int.{bit_at}
use Rattle.std.specs.Iterator.{at_most, MakesProgress}
use Rattle.std.proofs.lemmas.Nat.Bits.{bit_at-zero, bit_at-suc}
use Rattle.std.proofs.lemmas.List.Elements.{All-nil, All-cons, All-head, All-tail}
use Rattle.hibitset_base.specs.Places.{Place, places_in, bits_from}
use Rattle.hibitset_base.specs.Cursor.{cursor_places, CanContinueAt}
use Rattle.hibitset_base.specs.WordsRead.{depth}
use Rattle.hibitset_base.proofs.PlaceLemmas.{bits-first, bits-none}
use Rattle.hibitset_base.proofs.MaskLemmas.{TakesFirst}
use Rattle.hibitset_base.proofs.DrainLemmas.{LiesBefore, later_than}
use Rattle.hibitset_atomic.specs.declared.shared.view.View.{View}
use Rattle.hibitset_atomic.specs.declared.shared.types.Seat.{Seat}
use Rattle.hibitset_atomic.specs.declared.shared.types.SharedBitSet.{SharedBitSet}
use Rattle.hibitset_atomic.specs.declared.shared.walk.SharedWalk.{SharedWalk}
use Rattle.hibitset_atomic.specs.declared.atomic.TheConstants.{ATOMIC_MAX_EID}
use Rattle.hibitset_atomic.specs.Lists.{Has}
use Rattle.hibitset_atomic.specs.Seats.{IsOld, BelongsTo, IsKnown}
use Rattle.hibitset_atomic.specs.SharedWalk.{view_of, IsSeen, IsBelowRoot, WalkInvariant, IsUnder, lowest, IsOldOrKnown, LoadsTo, set_of, seat_of, lender, loads_of, next_from, IsReady, IsDue, SharedSteps}
use Rattle.hibitset_atomic.proofs.SharedWalkLemmas.{seen_known, rest_low, depth_low, lowest_after, under_after, sure_still}

-- the root's one bit
root_takes : TakesFirst 1 0 0
root_takes = record {
  small = omega arith;
  stood = refl;
  first = λ i lower. absurd (omega arith);
  gone = bit_at-zero 0;
  same = λ i small other. bit_at-zero i ∙ sym (later_bit i (⊎_elim (λ below. absurd (omega (arith, below))) (λ above. above) other));
  less = omega arith;
}
  where
    later_bit : (i : ℕ) → 0 < i → bit_at 1 i ≡ 0
    later_bit zero later = absurd (omega arith)
    later_bit (suc i) later = bit_at-suc 1 i ∙ bit_at-zero i

abbrev pub root : Place
root = record { layer = 4; position = 0 }

pub root_left : (ps : List Place) → ps ≡ places_in 4 (bits_from 0 1) → ps ≡ root ∷ []
root_left ps e = e ∙ ap (places_in 4) (bits-first 0 1 0 0 root_takes ∙ ap (λ xs. 0 ∷ xs) (bits-none 0 0 refl))

root_seen : (v : View) → IsSeen v root
root_seen v = record { layer = omega arith; within = omega arith; seen = λ l from below. absurd (omega arith) }

pub root_stands : (v : View) (loads : ℕ) (ps : List Place) → loads ≡ 0 → ps ≡ root ∷ [] → WalkInvariant v loads ps
root_stands v loads ps none e = rw e record {
  seen = All-cons (IsSeen v) root [] (root_seen v) (All-nil (IsSeen v));
  rest = All-nil IsBelowRoot;
  opened = λ some. absurd (omega (arith, none, some));
  fresh = λ low. absurd (let h : 4 < 4 = All-head IsBelowRoot root [] low in omega (arith, h));
}

sure_small : (set : SharedBitSet) (s : Seat) (i : ℕ) → IsOldOrKnown set s i → i < ATOMIC_MAX_EID
unfolding IsOld IsKnown
sure_small set s i sure = ⊎_elim (λ o. o.0) (λ k. k.0) sure

pub root_under : (set : SharedBitSet) (s : Seat) (ps : List Place) (i : ℕ) → ps ≡ root ∷ [] → IsOldOrKnown set s i → IsUnder ps i
root_under set s ps i e sure = rw e (inl (let small = sure_small set s i sure in omega (arith, small)))

-- ---- for callers, which do not open a walk

-- the seat that a walk has on loan came from the walk's set, between any two steps
pub ready-came : (walk : SharedWalk) → IsReady walk → BelongsTo (set_of walk) (seat_of walk)
unfolding IsReady
ready-came walk ready = ready.0

-- ---- a step, as the walk's users see it

depth_most : (v : View) (ps : List Place) → All (IsSeen v) ps → depth ps ≤ 4
depth_most v [] h = omega arith
depth_most v (p ∷ ps) h = (All-head (IsSeen v) p ps h).layer

known_still : (old new : Seat) → ((m : ℕ) → Has (view_of old).seen m → Has (view_of new).seen m) → (i : ℕ) → IsKnown old i → IsKnown new i
unfolding IsKnown
known_still old new grew i k = (k.0, (grew _ k.1.0, grew _ k.1.1, grew _ k.1.2, grew _ k.1.3))

known_place : (s : Seat) (i : ℕ) → IsSeen (view_of s) (record { layer = 0; position = i }) → IsKnown s i
unfolding IsKnown
known_place s i seen = seen_known (view_of s) i seen

known_small : (s : Seat) (i : ℕ) → IsKnown s i → i < ATOMIC_MAX_EID
unfolding IsKnown
known_small s i k = k.0

module _ (old new : SharedWalk) (name : lender new ≡ lender old) (set : set_of new ≡ set_of old) (ready : IsReady old) where
  few_first : depth (cursor_places old.cursor) ≤ 4
  unfolding IsReady
  few_first = depth_most (view_of (seat_of old)) (cursor_places old.cursor) ready.1.seen

  few_later : 0 < loads_of old → depth (cursor_places old.cursor) ≤ 3
  unfolding IsReady
  few_later some = depth_low (cursor_places old.cursor) (ready.1.opened some)

  abbrev GoesTo : List Place → Type 0
  GoesTo qs = LoadsTo (set_of old) (seat_of old) (seat_of new) (loads_of old) (cursor_places old.cursor) (loads_of new) qs

  came_still : BelongsTo (set_of old) (seat_of new) → BelongsTo (set_of new) (seat_of new)
  came_still c = subst (λ s. BelongsTo s (seat_of new)) (sym set) c

  due_still : (i : ℕ) → ((m : ℕ) → Has (view_of (seat_of old)).seen m → Has (view_of (seat_of new)).seen m) → IsOldOrKnown (set_of old) (seat_of old) i → IsUnder (cursor_places new.cursor) i → IsDue new i
  unfolding IsDue
  due_still i grew sure under = (subst (λ s. IsOldOrKnown s (seat_of new) i) (sym set) (sure_still (set_of old) (seat_of old) (seat_of new) grew i sure), under)

  due_none : cursor_places new.cursor ≡ [] → GoesTo (cursor_places new.cursor) → (i : ℕ) → IsDue old i → ⊥
  unfolding IsDue
  due_none end goes i due = subst (λ ps. IsUnder ps i) end (goes.due i due.0 due.1)

  due_some : (x : ℕ) → GoesTo ((record { layer = 0; position = x }) ∷ cursor_places new.cursor) → (i : ℕ) → IsDue old i → (i ≡ x) ⊎ IsDue new i
  unfolding IsDue
  due_some x goes i due = ⊎_elim
      (λ e. inl (omega (arith, e)))
      (λ k. inr (due_still i goes.keeps.seen due.0 k))
      (goes.due i due.0 due.1)

  ahead_some : (x : ℕ) → All (LiesBefore x) (cursor_places new.cursor) → (i : ℕ) → IsDue new i → x < i
  unfolding IsDue
  ahead_some x later i due = under_after x i (cursor_places new.cursor) later due.1

  steps_none : cursor_places new.cursor ≡ [] → GoesTo (cursor_places new.cursor) → SharedSteps old None new
  unfolding IsReady next_from
  steps_none end goes = record {
    ready = (came_still goes.keeps.came, goes.stands);
    same_reference = name;
    set = set;
    came = came_still goes.keeps.came;
    weight = goes.keeps.weight;
    reports = goes.keeps.reports;
    known = known_still (seat_of old) (seat_of new) goes.keeps.seen;
    given = ap lowest end;
    ahead = tt;
    due = due_none end goes;
    first = let few = goes.few in let most = few_first in omega (arith, few, most);
    later = λ some. let few = goes.few in let most = few_later some in omega (arith, few, most);
    begun = goes.stands.fresh (rw end (All-nil IsBelowRoot));
    loaded = goes.loaded;
    exchanged = goes.keeps.exchanged;
  }

  rest_stands : (x : ℕ) → WalkInvariant (view_of (seat_of new)) (loads_of new) ((record { layer = 0; position = x }) ∷ cursor_places new.cursor) → WalkInvariant (view_of (seat_of new)) (loads_of new) (cursor_places new.cursor)
  rest_stands x s = record {
    seen = All-tail (IsSeen (view_of (seat_of new))) (record { layer = 0; position = x }) (cursor_places new.cursor) s.seen;
    rest = rest_low (cursor_places new.cursor) s.rest;
    opened = λ _. s.rest;
    fresh = λ low. s.fresh (All-cons IsBelowRoot (record { layer = 0; position = x }) (cursor_places new.cursor) (omega arith) low);
  }

  steps_some : (x : ℕ) → CanContinueAt new.cursor 0 x → GoesTo ((record { layer = 0; position = x }) ∷ cursor_places new.cursor) → SharedSteps old (Some x) new
  unfolding IsReady next_from
  steps_some x before goes =
      let known : IsKnown (seat_of new) x = known_place (seat_of new) x (All-head (IsSeen (view_of (seat_of new))) (record { layer = 0; position = x }) (cursor_places new.cursor) goes.stands.seen) in
      let later = later_than 5 new.cursor.masks new.cursor.prefix x before new.cursor.formed.long in
      record {
        ready = (came_still goes.keeps.came, rest_stands x goes.stands);
        same_reference = name;
        set = set;
        came = came_still goes.keeps.came;
        weight = goes.keeps.weight;
        reports = goes.keeps.reports;
        known = known_still (seat_of old) (seat_of new) goes.keeps.seen;
        given = (known, known_small (seat_of new) x known, (let from = goes.from in omega (arith, from)), lowest_after x (cursor_places new.cursor) (known_small (seat_of new) x known) later);
        ahead = ahead_some x later;
        due = due_some x goes;
        first = let few = goes.few in let most = few_first in omega (arith, few, most);
        later = λ some. let few = goes.few in let most = few_later some in omega (arith, few, most);
        begun = goes.stands.fresh (All-cons IsBelowRoot (record { layer = 0; position = x }) (cursor_places new.cursor) (omega arith) goes.stands.rest);
        loaded = goes.loaded;
        exchanged = goes.keeps.exchanged;
      }

  pub shared_steps : (item : Option ℕ) → (item ≡ None → cursor_places new.cursor ≡ []) → MatchOption item (GoesTo (cursor_places new.cursor)) (λ x. GoesTo ((record { layer = 0; position = x }) ∷ cursor_places new.cursor)) → IfSome item (λ x. CanContinueAt new.cursor 0 x)
      → SharedSteps old item new
  shared_steps None end goes comes = steps_none (end refl) goes
  shared_steps (Some x) end goes comes = steps_some x comes goes

pub nearer_end : (old new : SharedWalk) (item : Option ℕ) → SharedSteps old item new → MakesProgress IsReady (λ walk. at_most (ATOMIC_MAX_EID - next_from walk)) old item new
nearer_end old new None s = record { on = λ finite. tt; keeps = tt; rests = λ finite. tt }
nearer_end old new (Some x) s =
    let small = s.given.1 in
    let low = s.given.2 in
    let high = s.given.3 in
    record { on = λ finite. (s.ready, tt, omega (arith, small, low, high)); keeps = s.ready; rests = λ finite. tt }
