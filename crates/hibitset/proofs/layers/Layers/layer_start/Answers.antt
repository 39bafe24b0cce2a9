use Rattle.std.proofs.Common.{ℕ, sym, ◌∙◌, ap}
use Rattle.hibitset.specs.Layout.{layer_start}
use Rattle.hibitset.specs.Layers.{room_in}
use Rattle.hibitset.proofs.LayerStartLemmas.{start_first}
use Rattle.hibitset.proofs.LayerLemmas.{start_is}
use Rattle.hibitset.proofs.layers.Layers.layer_start.Goals as goal

pub returns-then-layer-eq0 : goal.returns-then-layer-eq0
returns-then-layer-eq0 c = sym (ap (λ (l : ℕ). layer_start l (room_in c.args.self.now)) c.if-layer-eq0.true ∙ start_first (room_in c.args.self.now))

pub returns-else-layer-eq0 : goal.returns-else-layer-eq0
returns-else-layer-eq0 c = start_is c.args.self.now c.args.layer c.requires
