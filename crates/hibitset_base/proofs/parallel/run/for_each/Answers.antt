use denote.Param.Send.{sendable}
use Rattle.hibitset_base.proofs.SyncLemmas.{walk_sync}
use Rattle.hibitset_base.proofs.parallel.run.for_each.Goals as goal

pub map_parts-requires-sync-P : goal.map_parts-requires-sync-P
map_parts-requires-sync-P g c κs within = search (sendable, walk_sync) depth 20
