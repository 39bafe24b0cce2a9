use Rattle.std.proofs.Common.{◌≡◌, ℕ, ◌+◌, ◌*◌, ◌/◌, ◌^◌, ◌<◌, length, get_or}
use Rattle.hibitset_base.specs.declared.util.TheConstants.{LAYERS}
use Rattle.hibitset_base.proofs.iter_from.prefixes_over.Given as goal

abbrev pub invariant-layers : goal.invariant-layers
invariant-layers l = record {
  long : length l.prefixes ≡ LAYERS;
  begins : (j : ℕ) → j < l.layer → get_or l.prefixes j 0 ≡ 64 * (l.from / 64 ^ (j + 1));
}
