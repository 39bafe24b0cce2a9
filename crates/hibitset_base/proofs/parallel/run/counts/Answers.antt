use Rattle.std.proofs.Common.{◌≡◌, length}
use denote.Param.Send.{sendable}
use Rattle.rayon.proofs.ListFacts.{IfOk-then}
use Rattle.rayon.proofs.ToStd.{slice-AllZip}
use Rattle.hibitset_base.specs.Walk.{items_left}
use Rattle.hibitset_base.proofs.SyncLemmas.{walk_sync}
use Rattle.hibitset_base.proofs.parallel.run.counts.Goals as goal

pub map_parts-requires-sync-P : goal.map_parts-requires-sync-P
map_parts-requires-sync-P g c κs within = search (sendable, walk_sync) depth 20

pub returns : goal.returns
returns g c =
    IfOk-then c.map_parts.result _ _ c.map_parts.ensures (λ v h.
    slice-AllZip h.0 c.args.parts.now h.1 (λ p n. n ≡ length (items_left (λ s. g.T.BitSetLike.holds s.now) p)) v.items h.2)
