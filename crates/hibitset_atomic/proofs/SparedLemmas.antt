-- Which exchanges an addition leaves out, and that it reports nothing twice.
use Rattle.std.proofs.Common.{◌≡◌, ◌≢◌, ◌⊎◌, inl, inr, ⊎_elim, ℕ, zero, suc, ◌+◌, ◌/◌, ◌^◌, ◌<◌, ◌≤◌, Contains, sym, subst, arith}
use Rattle.hibitset_atomic.specs.declared.shared.view.View.{View}
use Rattle.hibitset_atomic.specs.declared.shared.types.Seat.{Seat}
use Rattle.hibitset_atomic.specs.declared.shared.types.SharedBitSet.{SharedBitSet}
use Rattle.hibitset_atomic.specs.Lists.{Has}
use Rattle.hibitset_atomic.specs.Levels.{first_mark, ShareBit}
use Rattle.hibitset_atomic.specs.Rule.{IsSet, Gap, IsOldOrKnownTo, SparesSharedBit}
use Rattle.hibitset_atomic.specs.declared.atomic.TheConstants.{ATOMIC_MAX_EID}
use Rattle.hibitset_atomic.specs.Seats.{IsOld, IsKnown, BelongsTo, reports_of, exchanges_by, SparesSharedBits}
use Rattle.hibitset_atomic.proofs.ListLemmas.{has-from_contains}
use Rattle.hibitset_atomic.proofs.InvariantLemmas.{knows_more}
use Rattle.hibitset_atomic.proofs.LevelLemmas.{whole_at}

-- a seat of the same set that has seen as much
abbrev pub SawMore : View → View → Type 0
SawMore v w = (w.old ≡ v.old) × ((m : ℕ) → Has v.seen m → Has w.seen m)

-- Where a seat finds the bit of an index clear, no index that is old or known to it has the same bit.
not_shared : (i j l : ℕ) (v w : View) → SawMore v w → l < 4 → Gap w (first_mark l + j / 64 ^ l) → IsOldOrKnownTo v i → ShareBit l i j → ⊥
not_shared i j l v w more lt gap known share =
    let there : IsSet gap.0 (first_mark l + i / 64 ^ l) → ⊥ = λ on. gap.1 (subst (λ q. IsSet gap.0 (first_mark l + q)) share on) in
    ⊎_elim
    (λ old. there (whole_at (IsSet gap.0) i l (gap.3 i known.0 (subst (λ words. IsSet words i) (sym more.0) old)) lt))
    (λ knows. there (gap.2 _ (more.1 _ (whole_at (Has v.seen) i l knows lt))))
    known.1

-- so whatever is exchanged then, is exchanged for a bit that none of these has
pub spared-gap : (j l : ℕ) (v w u : View) → SawMore v w → l < 4 → Gap w (first_mark l + j / 64 ^ l) → SparesSharedBit l j v u
unfolding SparesSharedBit
spared-gap j l v w u more lt gap i known share = absurd (not_shared i j l v w more lt gap known share)

pub spared-none : (j l : ℕ) (v u : View) → u.exchanges ≡ v.exchanges → SparesSharedBit l j v u
unfolding SparesSharedBit
spared-none j l v u same i known share = same

-- what is old or known stays so
still_known : (v w : View) (i : ℕ) → SawMore v w → IsOldOrKnownTo v i → IsOldOrKnownTo w i
still_known v w i more known = (
  known.0,
  ⊎_elim
      (λ old. inl (subst (λ words. IsSet words i) (sym more.0) old))
      (λ knows. inr (knows_more v w more.1 i knows))
      known.1,
)

-- An exchange in layer 0, and then at most one in each layer above: those from a layer on are left out in which an old or
-- known index has the same bit.
module _ (id : ℕ) (v0 v1 v2 v3 v4 : View) (more0 : SawMore v0 v1) (more1 : SawMore v1 v2) (more2 : SawMore v2 v3) (one : v1.exchanges ≡ v0.exchanges + 1)
    (few1 : v2.exchanges ≤ v1.exchanges + 1) (few2 : v3.exchanges ≤ v2.exchanges + 1) (few3 : v4.exchanges ≤ v3.exchanges + 1)
    (spared1 : SparesSharedBit 1 id v1 v2) (spared2 : SparesSharedBit 2 id v2 v3) (spared3 : SparesSharedBit 3 id v3 v4) where
  few_exchanges : (i layer : ℕ) → IsOldOrKnownTo v0 i → i ≢ id → ShareBit layer i id → v4.exchanges ≤ v0.exchanges + layer
  unfolding SparesSharedBit
  few_exchanges i zero known other share = absurd (other (omega (arith, share)))
  few_exchanges i (suc zero) known other share =
      let k1 = still_known v0 v1 i more0 known in
      let k2 = still_known v1 v2 i more1 k1 in
      let k3 = still_known v2 v3 i more2 k2 in
      let s1 = spared1 i k1 share in
      let s2 = spared2 i k2 (omega (arith, share)) in
      let s3 = spared3 i k3 (omega (arith, share)) in
      omega (arith, one, s1, s2, s3)
  few_exchanges i (suc (suc zero)) known other share =
      let k2 = still_known v1 v2 i more1 (still_known v0 v1 i more0 known) in
      let k3 = still_known v2 v3 i more2 k2 in
      let s2 = spared2 i k2 share in
      let s3 = spared3 i k3 (omega (arith, share)) in
      omega (arith, one, few1, s2, s3)
  few_exchanges i (suc (suc (suc zero))) known other share =
      let k3 = still_known v2 v3 i more2 (still_known v1 v2 i more1 (still_known v0 v1 i more0 known)) in
      let s3 = spared3 i k3 share in
      omega (arith, one, few1, few2, s3)
  few_exchanges i (suc (suc (suc (suc layer)))) known other share = omega (arith, one, few1, few2, few3)

-- what callers see as old or known
old_or_known : (set : SharedBitSet) (s : Seat) (i : ℕ) → BelongsTo set s → IsOld set i ⊎ IsKnown s i → IsOldOrKnownTo s.pass.me.0 i
unfolding BelongsTo IsOld IsKnown
old_or_known set s i came known = ⊎_elim (λ old. (old.0, inl (subst (λ words. IsSet words i) (sym came.1) old.1))) (λ knows. (knows.0, inr knows.1)) known

pub spared-exchange : (set : SharedBitSet) (old new : Seat) (id : ℕ) (v1 v2 v3 : View) → BelongsTo set old → ¬ IsOld set id → ¬ IsKnown old id
    → SawMore old.pass.me.0 v1 → SawMore v1 v2 → SawMore v2 v3 → v1.exchanges ≡ old.pass.me.0.exchanges + 1
    → v2.exchanges ≤ v1.exchanges + 1 → v3.exchanges ≤ v2.exchanges + 1 → new.pass.me.0.exchanges ≤ v3.exchanges + 1
    → SparesSharedBit 1 id v1 v2 → SparesSharedBit 2 id v2 v3 → SparesSharedBit 3 id v3 new.pass.me.0 → SparesSharedBits set old new id
unfolding SparesSharedBits exchanges_by
spared-exchange set old new id v1 v2 v3 came not_old not_known more0 more1 more2 one few1 few2 few3 spared1 spared2 spared3 i layer known share =
    few_exchanges id old.pass.me.0 v1 v2 v3 new.pass.me.0 more0 more1 more2 one few1 few2 few3 spared1 spared2 spared3 i layer (old_or_known set old i came known)
    (λ e. ⊎_elim (λ o. not_old (subst (IsOld set) e o)) (λ k. not_known (subst (IsKnown old) e k)) known) share

-- a seat knows what it reported
pub report_known : (set : SharedBitSet) (s : Seat) (i : ℕ) → BelongsTo set s → i < ATOMIC_MAX_EID → Contains (reports_of s) i → IsKnown s i
unfolding BelongsTo IsKnown reports_of
report_known set s i came lt reported = (lt, came.2 i (has-from_contains s.pass.me.0.reports i reported))

-- ---- for callers, which do not open it

-- how many exchanges an addition made at most, if an old or known index has the same bit in a layer
pub spared-below : (set : SharedBitSet) (old new : Seat) (id i layer : ℕ) → SparesSharedBits set old new id → IsOld set i ⊎ IsKnown old i → ShareBit layer i id → exchanges_by new ≤ exchanges_by old + layer
unfolding SparesSharedBits
spared-below set old new id i layer spared known share = spared i layer known share

pub spared-still : (set : SharedBitSet) (old new : Seat) (id : ℕ) → exchanges_by new ≡ exchanges_by old → SparesSharedBits set old new id
unfolding SparesSharedBits
spared-still set old new id same i layer known share = omega (arith, same)

-- an addition after a step that makes none, and keeps what is known
pub spared-after : (set : SharedBitSet) (old between new : Seat) (id : ℕ) → exchanges_by between ≡ exchanges_by old → ((i : ℕ) → IsKnown old i → IsKnown between i) → SparesSharedBits set between new id → SparesSharedBits set old new id
unfolding SparesSharedBits
spared-after set old between new id same keeps spared i layer known share =
    let few = spared i layer (⊎_elim (λ o. inl o) (λ k. inr (keeps i k)) known) share in
    omega (arith, few, same)
