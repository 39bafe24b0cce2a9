use denote.Param.Send.{sendable}
use Rattle.rayon.proofs.ListFacts.{IfOk-then}
use Rattle.rayon.proofs.ToStd.{slice-AllZip}
use Rattle.hibitset_base.specs.Folds.{FoldsFrom}
use Rattle.hibitset_base.specs.Walk.{items_left}
use Rattle.hibitset_base.proofs.SyncLemmas.{walk_sync}
use Rattle.hibitset_base.proofs.FoldLemmas.{pieces-are}
use Rattle.hibitset_base.proofs.parallel.run.fold_parts.Goals as goal

pub map_parts-requires-sync-P : goal.map_parts-requires-sync-P
map_parts-requires-sync-P g c κs within = search (sendable, walk_sync) depth 20

pub returns : goal.returns
returns g c =
    let items : _ → _ = items_left (λ s. g.T.BitSetLike.holds s.now) in
    let folds = FoldsFrom (goal.I-post g c.args.init.now) (λ a x b. goal.F-post g c.args.step.now a x b) in
    IfOk-then c.map_parts.result _ _ c.map_parts.ensures (λ v h.
    pieces-are items folds c.args.parts.now v.items (slice-AllZip h.0 c.args.parts.now h.1 (λ p u. folds (items p) u) v.items h.2))
