-- The words that contracts over a `BitSet` and over what is made of one are stated in: a caller has one `ghost use`.

-- the sets and their bounds
pub use Rattle.hibitset_base.specs.declared.util.TheConstants.{LAYERS, MAX_EID}
pub use Rattle.hibitset_atomic.specs.declared.atomic.TheConstants.{ATOMIC_MAX_EID}
pub use Rattle.hibitset_atomic.specs.declared.shared.layout.TheConstants.{SHARES}
pub use Rattle.hibitset_atomic.specs.declared.atomic.AtomicBitSet.{AtomicBitSet}
pub use Rattle.hibitset_atomic.specs.declared.shared.types.SharedBitSet.{SharedBitSet}
pub use Rattle.hibitset_atomic.specs.declared.shared.types.Seat.{Seat}
pub use Rattle.hibitset_base.specs.declared.virt.BitSetAnd.{BitSetAnd}
pub use Rattle.hibitset_base.specs.declared.virt.BitSetNot.{BitSetNot}
pub use Rattle.hibitset_base.specs.declared.iter.BitIter.{BitIter}
pub use Rattle.hibitset_base.specs.declared.parallel.BitProducer.{BitProducer}
pub use Rattle.hibitset_base.specs.declared.build.BuildError.{BuildError}
pub use Rattle.hibitset_base.specs.declared.build.BuildError.TheVariants.{Memory, OutOfRange}
-- members and words of a set
pub use Rattle.hibitset.specs.BitSet.{has, members_of, slice_len, word_of}
pub use Rattle.hibitset_base.specs.Members.{members, members_below}
pub use Rattle.hibitset_base.specs.Ranges.{in_range}
pub use Rattle.hibitset_base.specs.Places.{Place}
-- sets made of two, and comparisons
pub use Rattle.hibitset_base.specs.Connectives.{AreDisjoint, is_member, IsDifference, IsIntersection, IsSubset, IsSymmetricDifference, IsUnion}
pub use Rattle.hibitset_base.specs.Virtual.{differ, not_word}
pub use Rattle.hibitset.specs.Laws.{intersection_word}
-- first, last and nth members
pub use Rattle.hibitset_base.specs.First.{HasNone, is_gap_from, IsFirst, IsLast}
pub use Rattle.hibitset_base.specs.Ranks.{IsNth}
-- items that are added
pub use Rattle.hibitset_base.specs.Extension.{IsRefusalBelow, RefusesBelow, TakesAllBelow}
pub use Rattle.hibitset_base.specs.Slices.{InRangeBefore, IsRefusalIn, LacksRoom, LiesApartIn, place_of}
-- walks, drains and splits
pub use Rattle.hibitset_base.specs.Walk.{items_left, WalkSteps, words_ahead, words_read}
pub use Rattle.hibitset_base.specs.WalkFrom.{BeginsAfter, BeginsBy, IsAheadFrom}
pub use Rattle.hibitset_base.specs.RevWalk.{rev_items_left, RevWalkSteps}
pub use Rattle.hibitset_base.specs.WordsRead.{AreBoundByMembers, IsAboveMember, words_under}
pub use Rattle.hibitset_base.specs.Drain.{drained_set, items_to_drain, lender}
pub use Rattle.hibitset_base.specs.Splits.{items_of_second, part_items, part_reads, part_words, SplitReads}
pub use Rattle.hibitset_base.specs.Folds.{FoldsInParts}
-- seats of a shared set
pub use Rattle.hibitset_atomic.specs.Seats.{BelongsTo, exchanges_by, IsKnown, IsOld, loads_by, reports_of, weight_of}
pub use Rattle.hibitset_atomic.specs.SharedWalk.{IsDue, loads_of, next_from, seat_of}
