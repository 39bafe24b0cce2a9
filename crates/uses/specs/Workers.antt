-- Lists that workers put into a set.
use Rattle.std.specs.Prelude.{◌≡◌, ◌↔◌, ℕ, ◌<◌, Bool, true, List, [], length, nat_eq, Contains, Vec}
use Rattle.std.specs.List.{flat_map, IsDistinct}
use Rattle.hibitset.specs.Prelude.{ATOMIC_MAX_EID, SHARES, AtomicBitSet, Seat, SharedBitSet, IsOld, BelongsTo, IsKnown, weight_of, reports_of}
use Rattle.std.specs.declared.alloc.Global.{Global}
use Rattle.uses.specs.declared.workers.Job.{Job}
use Rattle.uses.specs.declared.workers.Work.{Work}
use Rattle.uses.specs.declared.workers.Refused.{Refused}
use Rattle.uses.specs.declared.workers.Refused.TheVariants.{Sharing, Working, Settling}

-- the index is in some list, and in range
abbrev pub IsListed : List (Vec ℕ Global) → ℕ → Type 0
IsListed lists i = Contains (flat_map (λ list. list.items) lists) i × (i < ATOMIC_MAX_EID)

-- so many indices are new: as many as there are in a list of them, each once
abbrev pub IsNumberOfNew : (ℕ → Type 0) → (ℕ → Bool) → ℕ → Type 0
IsNumberOfNew old members n = (fresh : List ℕ) × (length fresh ≡ n) × IsDistinct nat_eq fresh × ((i : ℕ) → Contains fresh i ↔ ((members i ≡ true) × ¬ old i))

-- the set was shared with these old members, and the seat came from it
abbrev pub IsShared : (ℕ → Type 0) → SharedBitSet → Seat → Type 0
IsShared old set seat = BelongsTo set seat × ((i : ℕ) → old i ↔ IsOld set i)

-- Before the set is shared it is as it was. While workers are made, or are at work, it is shared and has a seat. Before
-- it settles that seat is whole, and knows all indices of the lists.
abbrev pub IsLeft : (ℕ → Type 0) → (AtomicBitSet → Type 0) → List (Vec ℕ Global) → Refused → Type 0
IsLeft old same lists (Sharing set) = same set
IsLeft old same lists (Working set seat) = IsShared old set seat
IsLeft old same lists (Settling set seat) = IsShared old set seat × (weight_of seat ≡ SHARES) × ((i : ℕ) → IsListed lists i → IsKnown seat i)

abbrev pub list_of : Job → List ℕ
list_of job = job.list.items

abbrev pub seat_weight : Work → ℕ
seat_weight work = weight_of work.seat

abbrev pub new_reports : Work → List ℕ
new_reports work = reports_of work.seat

-- a worker's seat came from the set, and has no reports yet
abbrev pub IsJob : SharedBitSet → Job → Type 0
IsJob set job = BelongsTo set job.seat × (reports_of job.seat ≡ [])

-- a worker's seat came from the set, its reports are counted and lie in range
abbrev pub IsWork : SharedBitSet → Work → Type 0
IsWork set work = BelongsTo set work.seat × (work.new ≡ length (reports_of work.seat)) × ((i : ℕ) → Contains (reports_of work.seat) i → i < ATOMIC_MAX_EID)

-- the worker knows each index of its list that lies in range, and has reported no others
pub record IsWorkOf (set : SharedBitSet) (job : Job) (work : Work) : Type 0 where
  pub sound : IsWork set work
  pub weight : weight_of work.seat ≡ weight_of job.seat
  pub known : (i : ℕ) → Contains job.list.items i → i < ATOMIC_MAX_EID → IsKnown work.seat i
  pub reported : (i : ℕ) → Contains (reports_of work.seat) i → Contains job.list.items i
