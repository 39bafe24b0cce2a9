-- The rule of the shared set.
-- Its words lie in one row: layer 0, then layers 1, 2 and 3. Bit b of the word p is the mark 64 * p + b, so the marks
-- below `ATOMIC_MAX_EID` are the indices.
-- The mark `ATOMIC_MAX_EID` + p is the summary bit over the word p, whatever its layer.
use Rattle.std.specs.Prelude.{◌≡◌, ◌⊎◌, ℕ, suc, zero, ◌+◌, ◌*◌, ◌/◌, ◌%◌, ◌^◌, ◌<◌, List, [], ◌∷◌, ◌++◌, length, slice_index, take, drop}
use Rattle.std.specs.Int.{bit_at}
use Rattle.std.specs.Int.Bits.{bit_or}
use mathlib.Core.Option.{some}
use lib.ListN.{get_elem?}
use Rattle.atomic_table.specs.Table.{State, Step, Me}
use Rattle.hibitset_atomic.specs.declared.shared.view.View.{View}
use Rattle.hibitset_atomic.specs.Lists.{Has, Distinct, Apart, below, Each, Pairs}
use Rattle.hibitset_atomic.specs.Levels.{ShareBit}
use Rattle.hibitset_atomic.specs.declared.shared.layout.TheConstants.{SHARES, ROW_WORDS}
use Rattle.hibitset_atomic.specs.declared.atomic.TheConstants.{ATOMIC_MAX_EID}

-- the mark is set
abbrev pub IsSet : List ℕ → ℕ → Type 0
IsSet words mark = bit_at (slice_index words (mark / 64)) (mark % 64) ≡ 1

abbrev pub above : ℕ → ℕ
above mark = ATOMIC_MAX_EID + mark / 64

-- the four marks of an index
abbrev pub HoldsOnPath : (ℕ → Type 0) → ℕ → Type 0
HoldsOnPath P i = P i × P (above i) × P (above (above i)) × P (above (above (above i)))

-- what a seat knows: it has seen the whole path
abbrev pub Knows : View → ℕ → Type 0
Knows v i = HoldsOnPath (Has v.seen) i

-- some bit of the word p is set
abbrev pub Nonzero : List ℕ → ℕ → Type 0
Nonzero words p = (mark : ℕ) × (mark / 64 ≡ p) × IsSet words mark

abbrev pub Reported : List View → ℕ → Type 0
Reported views i = (id : ℕ) × (v : View) × (get_elem? views id ≡ some v) × Has v.reports i

-- layer 0 has the old indices and all reports
pub record Layer0IsOldOrReported (old words : List ℕ) (views : List View) : Type 0 where
  pub old_set : (i : ℕ) → IsSet old i → IsSet words i
  pub told : (i : ℕ) → i < ATOMIC_MAX_EID → IsSet words i → IsSet old i ⊎ Reported views i

-- a seat's reports are indices in layer 0, not old, and each once
pub record ReportsAreNew (old words reports : List ℕ) : Type 0 where
  pub set : (i : ℕ) → Has reports i → IsSet words i
  pub new : (i : ℕ) → Has reports i → ¬ IsSet old i
  pub below : (i : ℕ) → Has reports i → i < ATOMIC_MAX_EID
  pub once : Distinct reports

-- what it has seen stands
abbrev pub Sees : List ℕ → View → Type 0
Sees words v = (mark : ℕ) → Has v.seen mark → IsSet words mark

-- at most one report is not known yet
abbrev pub AtMostOneUnfinished : View → Type 0
AtMostOneUnfinished v = (i j : ℕ) → Has v.reports i → Has v.reports j → ¬ Knows v i → ¬ Knows v j → i ≡ j

abbrev pub AllReportsKnown : View → Type 0
AllReportsKnown v = (i : ℕ) → Has v.reports i → Knows v i

-- shares are below `SHARES`, and each once
pub record Shares (shares : List ℕ) : Type 0 where
  pub below : (x : ℕ) → Has shares x → x < SHARES
  pub once : Distinct shares

-- a view with no share is no seat: it has no report
abbrev pub EmptyWithoutShares : View → Type 0
EmptyWithoutShares v = length v.shares ≡ 0 → v.reports ≡ []

-- what holds of each view beside the words
pub record SeatInvariant (old words : List ℕ) (v : View) : Type 0 where
  pub reports : ReportsAreNew old words v.reports
  pub seen : Sees words v
  pub unfinished : AtMostOneUnfinished v
  pub shares : Shares v.shares
  pub empty : EmptyWithoutShares v
  -- a seat has the words from before
  pub old_words : 0 < length v.shares → v.old ≡ old

-- two seats have no report and no share in common
abbrev pub AreDisjointSeats : View → View → Type 0
AreDisjointSeats v w = Apart v.reports w.reports × Apart v.shares w.shares

-- a summary bit is set only over a nonzero word
abbrev pub SummariesOverNonzero : List ℕ → Type 0
SummariesOverNonzero words = (p : ℕ) → IsSet words (ATOMIC_MAX_EID + p) → Nonzero words p

-- each old index has its whole path
abbrev pub OldPathsSet : List ℕ → List ℕ → Type 0
OldPathsSet old words = (i : ℕ) → i < ATOMIC_MAX_EID → IsSet old i → HoldsOnPath (IsSet words) i

-- what holds between any two steps of any seats
pub record Invariant (old : List ℕ) (s : State (Unit {0}) View) : Type 0 where
  -- the row has all its words
  pub size : length s.words ≡ ROW_WORDS
  pub layer0 : Layer0IsOldOrReported old s.words s.views
  pub seats : Each (SeatInvariant old s.words) s.views
  pub disjoint : Pairs AreDisjointSeats s.views
  pub old_paths : OldPathsSet old s.words
  pub summaries : SummariesOverNonzero s.words

abbrev pub pick : ℕ → ℕ → List ℕ → List ℕ
pick zero mark marks = marks
pick (suc _) mark marks = mark ∷ marks

-- the marks of the word p that stand where its number is n, of its first k bits
unfoldable pub marks : ℕ → ℕ → ℕ → List ℕ
marks p n zero = []
marks p n (suc k) = pick (bit_at n k) (p * 64 + k) (marks p n k)

-- the seat has seen the number n in the word p
abbrev pub seeing : ℕ → ℕ → View → View
seeing p n v = record { old = v.old; shares = v.shares; reports = v.reports; seen = marks p n 64 ++ v.seen; loads = v.loads; exchanges = v.exchanges }

abbrev pub reporting : ℕ → View → View
reporting i v = record { old = v.old; shares = v.shares; reports = i ∷ v.reports; seen = v.seen; loads = v.loads; exchanges = v.exchanges }

-- the seat has made so many loads and exchanges
abbrev pub counting : ℕ → ℕ → View → View
counting loads exchanges v = record { old = v.old; shares = v.shares; reports = v.reports; seen = v.seen; loads = loads; exchanges = exchanges }

-- one load more
abbrev pub loading : View → View
loading v = counting (v.loads + 1) v.exchanges v

-- one exchange more
abbrev pub exchanging : View → View
exchanging v = counting v.loads (v.exchanges + 1) v

-- what the rule tells a seat that finds n in the word p
pub record Finds (p n : ℕ) (v : View) : Type 0 where
  pub words : List ℕ
  pub found : slice_index words p ≡ n
  pub seat : SeatInvariant v.old words v
  pub old_paths : OldPathsSet v.old words
  pub summaries : SummariesOverNonzero words

-- the exchange at layer 0: the index is reported where its bit was clear
abbrev pub FetchOrLayer0At : ℕ → ℕ → Me (Unit {0}) View → ℕ → Me (Unit {0}) View → Type 0
FetchOrLayer0At p mask v n w = (w.1 ≡ v.1) × ((b : ℕ) → b < 64 → mask ≡ 2 ^ b
    → (bit_at n b ≡ 1 → w.0 ≡ seeing p (bit_or n mask) (exchanging v.0))
    × (bit_at n b ≡ 0 → (w.0 ≡ seeing p (bit_or n mask) (reporting (p * 64 + b) (exchanging v.0))) × ¬ IsSet v.0.old (p * 64 + b) × ¬ Has v.0.seen (p * 64 + b)))

-- an exchange above layer 0
abbrev pub FetchOrSummaryAt : ℕ → ℕ → Me (Unit {0}) View → ℕ → Me (Unit {0}) View → Type 0
FetchOrSummaryAt p mask v n w = (w.1 ≡ v.1) × (w.0 ≡ seeing p (bit_or n mask) (exchanging v.0))

-- a load
abbrev pub LoadAt : ℕ → Me (Unit {0}) View → ℕ → Me (Unit {0}) View → Type 0
LoadAt p v n w = (w.1 ≡ v.1) × (w.0 ≡ seeing p n (loading v.0)) × Finds p n v.0

abbrev pub IsFetchOrLayer0 : Step (Unit {0}) → Me (Unit {0}) View → ℕ → Me (Unit {0}) View → Type 0
IsFetchOrLayer0 step = FetchOrLayer0At step.word step.first

abbrev pub IsFetchOrSummary : Step (Unit {0}) → Me (Unit {0}) View → ℕ → Me (Unit {0}) View → Type 0
IsFetchOrSummary step = FetchOrSummaryAt step.word step.first

abbrev pub IsLoad : Step (Unit {0}) → Me (Unit {0}) View → ℕ → Me (Unit {0}) View → Type 0
IsLoad step = LoadAt step.word

abbrev pub opening_view : List ℕ → View
opening_view old = record { old = old; shares = below SHARES; reports = []; seen = []; loads = 0; exchanges = 0 }

abbrev pub empty_view : View
empty_view = record { old = []; shares = []; reports = []; seen = []; loads = 0; exchanges = 0 }

abbrev pub half : View → ℕ
half v = length v.shares / 2

abbrev pub first_half : View → View
first_half v = record { old = v.old; shares = drop (half v) v.shares; reports = v.reports; seen = v.seen; loads = v.loads; exchanges = v.exchanges }

abbrev pub second_half : View → View
second_half v = record { old = v.old; shares = take (half v) v.shares; reports = []; seen = v.seen; loads = 0; exchanges = 0 }

abbrev pub joined_view : View → View → View
joined_view v w = record { old = v.old; shares = v.shares ++ w.shares; reports = v.reports ++ w.reports; seen = v.seen ++ w.seen; loads = v.loads + w.loads; exchanges = v.exchanges + w.exchanges }

-- between two steps of one seat
abbrev pub Grew : Me (Unit {0}) View → Me (Unit {0}) View → Type 0
Grew v w = (w.1 ≡ v.1) × (w.0.old ≡ v.0.old) × (w.0.shares ≡ v.0.shares) × ((m : ℕ) → Has v.0.seen m → Has w.0.seen m)

-- at some moment the mark was clear, while all that the seat had seen was set, and the paths of all old indices
abbrev pub Gap : View → ℕ → Type 0
Gap v mark = (words : List ℕ) × ¬ IsSet words mark × Sees words v × OldPathsSet v.old words

-- the index was there when the set was shared, or the seat knows it
abbrev pub IsOldOrKnownTo : View → ℕ → Type 0
IsOldOrKnownTo v i = (i < ATOMIC_MAX_EID) × (IsSet v.old i ⊎ Knows v i)

-- between two steps of one seat, no exchange was made if an old or known index has the bit of this one in the layer
unfoldable pub SparesSharedBit : ℕ → ℕ → View → View → Type 0
SparesSharedBit layer id v w = (i : ℕ) → IsOldOrKnownTo v i → ShareBit layer i id → w.exchanges ≡ v.exchanges
