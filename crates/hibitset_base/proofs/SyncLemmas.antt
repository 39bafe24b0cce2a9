-- A walk may be looked at by several threads where its set may be.
use denote.Param.Send.{IsSync, sendable, whole-keyless}
use denote.RattleType.{RattleType}
use Rattle.hibitset_base.specs.contracts.iter.BitIter as BitIter
use Rattle.hibitset_base.specs.contracts.read_count.Reads as Reads

pub reads_sync : IsSync Reads.the_row
reads_sync = record { shared = λ x b o κ q. whole-keyless _ _ (λ z vs. (λ vss. (tt, tt), tt)) q x b o }

pub walk_sync : (T : RattleType) → IsSync T → IsSync (BitIter.the_row T)
walk_sync T s = search (sendable, reads_sync) depth 20
