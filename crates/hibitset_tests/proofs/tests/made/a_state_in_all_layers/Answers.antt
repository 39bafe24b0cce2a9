use Rattle.std.proofs.Common.{[], ◌∷◌, refl}
use Rattle.hibitset_base.specs.declared.util.TheConstants.{LAYERS}
use Rattle.hibitset_base.specs.Places.{IsWellFormed}
use Rattle.hibitset.proofs.CallerLemmas.{formed-by_test}
use Rattle.hibitset_tests.proofs.tests.made.a_state_in_all_layers.Goals as goal

formed : IsWellFormed LAYERS (4 ∷ 8 ∷ 2 ∷ 2 ∷ 0 ∷ []) (128 ∷ 0 ∷ 0 ∷ 0 ∷ [])
formed = formed-by_test _ _ _ refl

pub new-requires : goal.new-requires
new-requires g c = formed

pub new-requires-2 : goal.new-requires-2
new-requires-2 g c = formed

pub new-drain-requires : goal.new-drain-requires
new-drain-requires g c = formed
