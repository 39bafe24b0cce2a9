use Rattle.std.proofs.Common.{◌≡◌, ℕ, ◌-◌, bit_and, arith}
use Rattle.std.specs.Int.{bit_at}
use Rattle.std.proofs.lemmas.Nat.Bits.{bit_at_and, bit_at-lt}
use Rattle.hibitset_base.specs.declared.util.TheConstants.{LAYERS}
use Rattle.hibitset_base.specs.Sets.{SummariesExact}
use Rattle.hibitset_base.specs.Splits.{AreWords}
use Rattle.hibitset_base.specs.StoredWords.{summed_exact}
use Rattle.hibitset_atomic.specs.declared.layers.TheConstants.{ATOMIC_LAYERS}
use Rattle.hibitset_atomic.specs.AtomicBitSet.{word_of, has, topped_word, topped_is_lawful}
use Rattle.hibitset_atomic.specs.Layers.{single_word}
use Rattle.hibitset_atomic.specs.TopLayerLemmas.{topped_exact, topped_fits}
use Rattle.hibitset_atomic.specs.declared.atomic.AtomicBitSet.{AtomicBitSet}
use Rattle.hibitset_atomic.proofs.LayerLemmas.{layers_fit, held_below, topped_past}
use Rattle.hibitset_atomic.proofs.laws.atomic_laws.Goals as goal

first_has : (x y b : ℕ) → bit_at (bit_and x y) b ≡ 1 → bit_at x b ≡ 1
first_has x y b stands = let h = bit_at_and x y b in let k = bit_at-lt x b in let m = bit_at-lt y b in omega (arith, h, k, m, stands)

second_has : (x y b : ℕ) → bit_at (bit_and x y) b ≡ 1 → bit_at y b ≡ 1
second_has x y b stands = let h = bit_at_and x y b in let k = bit_at-lt x b in let m = bit_at-lt y b in omega (arith, h, k, m, stands)

pub returns-clause-in_range : goal.returns-clause-in_range
unfolding has word_of
returns-clause-in_range c set i holds = held_below set.layers i holds

-- the words with the layer on top are exact
exact_topped : (set : AtomicBitSet) → SummariesExact LAYERS (topped_word set)
unfolding word_of
exact_topped set = topped_exact (ATOMIC_LAYERS - 1) (word_of set) set.summed (single_word set.layers)

fit_topped : (set : AtomicBitSet) → AreWords (topped_word set)
unfolding word_of
fit_topped set = topped_fits (ATOMIC_LAYERS - 1) (word_of set) (layers_fit set.layers)

pub returns-clause-exact : goal.returns-clause-exact
returns-clause-exact c set = (exact_topped set, fit_topped set)

pub returns-clause-kept : goal.returns-clause-kept
unfolding word_of
returns-clause-kept c set = (summed_exact ATOMIC_LAYERS set.summed, layers_fit set.layers)

pub returns-clause-zero_past : goal.returns-clause-zero_past
unfolding word_of
returns-clause-zero_past c set l p past = topped_past set.layers l p past

pub returns-clause-intersection_covered : goal.returns-clause-intersection_covered
returns-clause-intersection_covered c set word = (
  record { lawful = topped_is_lawful set; exact = exact_topped set; words = fit_topped set; inside = λ l q i stands. first_has (topped_word set l q) (word l q) i stands },
  record { lawful = topped_is_lawful set; exact = exact_topped set; words = fit_topped set; inside = λ l q i stands. second_has (word l q) (topped_word set l q) i stands },
)

pub returns-clause-intersection : goal.returns-clause-intersection
returns-clause-intersection c a b = ((returns-clause-intersection_covered c a (topped_word b)).0, (returns-clause-intersection_covered c b (topped_word a)).1)
