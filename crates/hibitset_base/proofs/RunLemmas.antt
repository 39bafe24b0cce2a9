-- Walks and drains in std's words, so that its lemmas on chains apply.
use Rattle.std.proofs.Common.{◌≡◌, ℕ, ◌-◌, ◌≤◌, Bool, List, length, ap, arith}
use Rattle.std.specs.Iterator.Runs.{YieldsInOrder}
use Rattle.std.proofs.iter.runs.Sources.{from_front, as_is}
use Rattle.hibitset_base.specs.Members.{members, members_below}
use Rattle.hibitset_base.specs.Walk.{WalkSteps, items_left}
use Rattle.hibitset_base.specs.Drain.{DrainSteps, items_to_drain}
use Rattle.hibitset_base.specs.declared.util.TheConstants.{MAX_EID}
use Rattle.hibitset_base.proofs.MemberLemmas.{members-length}

-- no walk that begins at an index has more items than there are indices from there on
pub few_left : (p : ℕ → Bool) (from : ℕ) {xs : List ℕ} → xs ≡ members p from (MAX_EID - from) → length xs ≤ MAX_EID - from
few_left p from {xs} e = let few = members-length p from (MAX_EID - from) in let same = ap length e in omega arith

-- and none from the top more than there are indices
pub few_items : (p : ℕ → Bool) {xs : List ℕ} → xs ≡ members_below MAX_EID p → length xs ≤ MAX_EID
few_items p = few_left p 0

-- each run of a walk gives what was left, in order
pub walk_runs : {T : Type 0} (holds : T → ℕ → Bool) (word : T → ℕ → ℕ → ℕ) → YieldsInOrder (WalkSteps holds word) (items_left holds)
walk_runs holds word p s = as_is p (items_left holds p.from) (from_front (WalkSteps holds word) (λ x. x) (items_left holds) (λ t u h. ap length h.0.0) (λ t x u h. h.0) p s)

-- and so does each run of a drain
pub drain_runs : {T : Type 0} (holds : T → ℕ → Bool) (keeps_room : T → T → Type 0) → YieldsInOrder (DrainSteps holds keeps_room) (items_to_drain holds)
drain_runs holds keeps_room p s = as_is p (items_to_drain holds p.from) (from_front (DrainSteps holds keeps_room) (λ x. x) (items_to_drain holds) (λ t u h. ap length h.0.0) (λ t x u h. h.0) p s)
