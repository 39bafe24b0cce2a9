-- Exclusive or of two tests.
use Rattle.std.proofs.Common.{◌≡◌, Bool, true, false, refl}
use Rattle.hibitset_base.specs.Virtual.{differ}

pub differ-comm : (a b : Bool) → differ a b ≡ differ b a
differ-comm true true = refl
differ-comm true false = refl
differ-comm false true = refl
differ-comm false false = refl

-- the same twice restores what was there
pub differ-twice : (a b : Bool) → differ (differ a b) b ≡ a
differ-twice true true = refl
differ-twice true false = refl
differ-twice false true = refl
differ-twice false false = refl

pub differ-back : (a b : Bool) → differ a (differ b a) ≡ b
differ-back true true = refl
differ-back true false = refl
differ-back false true = refl
differ-back false false = refl
