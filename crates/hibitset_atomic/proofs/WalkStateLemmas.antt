-- What the state of a walk tells.
use Rattle.std.proofs.Common.{◌≡◌, ℕ, suc, ◌+◌, ◌*◌, ◌^◌, ◌<◌, ◌≤◌, Bool, List, [], ◌∷◌, length, arith, inl, inr, Some, lit<}
use Rattle.std.proofs.Math.Nat.{mul-le-mul_right, one-le-pow}
use Rattle.std.proofs.lemmas.Bool.{cases_lt}
use Rattle.hibitset_atomic.specs.declared.steps.event.Event.{Event}
use Rattle.hibitset_base.specs.Places.{Place}
use Rattle.hibitset_atomic.specs.History.{bit_of_history, Walk, walk_of}
use Rattle.hibitset_atomic.specs.HistoryFacts.{Ranges, Rises, IsFirst, IsNext, IsWithin, HasBits}
use Rattle.hibitset_atomic.proofs.SpanLemmas.{rises-weaker}
use Rattle.hibitset_atomic.proofs.HistoryBitLemmas.{summary}
use Rattle.hibitset_atomic.proofs.WalkReadLemmas.{Bound, AllUnder}
use Rattle.hibitset_atomic.proofs.HistoryWalkLemmas.{walks_sane, sane_at}

later : (a b s x : ℕ) → (a + 1) * s ≤ x → x ≤ b * s → 0 < s → a < b
later a b s x h k some = elim (cases_lt a b) [
  | inl less ↦ less
  | inr more ↦ absurd (let m : b * s ≤ a * s = mul-le-mul_right s more in omega arith)
]

is_first : (l p b : ℕ) (x : ℕ) (qs : List Place) → (p + 1) * 64 ^ suc l ≤ x → Rises l qs → Ranges x b qs → IsFirst (record { layer = l; position = p }) qs
is_first l p b x [] from rises ranges = tt
is_first l p b x (q ∷ qs) from rises ranges =
    let here : x ≤ q.position * 64 ^ suc q.layer = ranges.0 in
    let on : q.position * 64 ^ suc q.layer ≤ (q.position + 1) * 64 ^ suc q.layer = mul-le-mul_right (64 ^ suc q.layer) (let k : q.position ≤ q.position + 1 = omega arith in k) in (
      rises.0,
      λ e. (let f = rw e at from in later p q.position (64 ^ suc q.layer) x f here (one-le-pow (suc q.layer) 64 (lit< tt))),
      is_first l p b ((q.position + 1) * 64 ^ suc q.layer) qs (omega arith) (rises-weaker l q.layer qs rises.0 rises.1) ranges.1,
    )

is_next : (b x : ℕ) (left : List Place) → Rises 0 left → Ranges x b left → IsNext left
is_next b x [] rises ranges = tt
is_next b x (p ∷ ps) rises ranges = is_first p.layer p.position b ((p.position + 1) * 64 ^ suc p.layer) ps (omega arith) rises.1 ranges.1

within : (n k reads : ℕ) (left : List Place) → 0 < n → Bound n k reads left → IsWithin n k reads left
within n k reads [] layers h = h
within n k reads (p ∷ ps) layers h = omega arith

has_bits : (n : ℕ) (old : ℕ → Bool) (past : List Event) (left : List Place) → AllUnder n (bit_of_history old past) left → HasBits (bit_of_history old past) left
has_bits n old past [] h = tt
has_bits n old past (p ∷ ps) h = summary old past p.layer p.position h.1

pub lowest-first : (n : ℕ) (old : ℕ → Bool) (past : List Event) (w : ℕ) (walk : Walk) → 0 < n → walk_of n old past w ≡ Some walk → IsNext walk.left
lowest-first n old past w walk layers e =
    let s = sane_at n (bit_of_history old past) (walk_of n old past w) walk e (walks_sane n old past w layers) in
    is_next (64 ^ n) s.middle walk.left s.rises s.ranges

pub few-reads : (n : ℕ) (old : ℕ → Bool) (past : List Event) (w : ℕ) (walk : Walk) → 0 < n → walk_of n old past w ≡ Some walk → IsWithin n (length walk.items) walk.reads walk.left
few-reads n old past w walk layers e =
    let s = sane_at n (bit_of_history old past) (walk_of n old past w) walk e (walks_sane n old past w layers) in
    within n (length walk.items) walk.reads walk.left layers s.bound

pub none-empty : (n : ℕ) (old : ℕ → Bool) (past : List Event) (w : ℕ) (walk : Walk) → 0 < n → walk_of n old past w ≡ Some walk → 0 < walk.reads → HasBits (bit_of_history old past) walk.left
none-empty n old past w walk layers e some =
    let s = sane_at n (bit_of_history old past) (walk_of n old past w) walk e (walks_sane n old past w layers) in
    has_bits n old past walk.left (s.known some)
