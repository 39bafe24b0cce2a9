-- What a contract sees of a shared set, as a seat keeps it.
use Rattle.std.specs.Arc.{arc_value}
use Rattle.hibitset_atomic.specs.declared.shared.types.SharedBitSet.{SharedBitSet}
use Rattle.hibitset_c.specs.declared.shared.Shared.{Shared}
use Rattle.hibitset_c.specs.declared.shared.Shared.TheVariants.{Sole, Common}

-- the set itself
abbrev pub set_of : Shared → SharedBitSet
set_of (Sole set) = set
set_of (Common set) = arc_value set
