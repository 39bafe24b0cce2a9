use Rattle.std.proofs.Common.{◌≡◌, ℕ, ◌+◌, ◌*◌, ◌/◌, ◌%◌, ◌^◌, ◌<◌, arith}
use Rattle.hibitset_atomic.specs.Levels.{first_mark}
use Rattle.hibitset_atomic.proofs.LevelLemmas.{whole_words, mark-lt}
use Rattle.hibitset_atomic.proofs.shared.atomic_ops.mark_of.Goals as goal
use Rattle.hibitset_atomic.specs.declared.shared.layout.TheConstants.{ROW_WORDS}
use Rattle.hibitset_atomic.specs.declared.atomic.TheConstants.{ATOMIC_MAX_EID}

-- the bit of a word, and what comes before the word
module _ (i l first place bit : ℕ) (id : i < ATOMIC_MAX_EID) (layer : l < 4) (word : first ≡ first_mark l / 64) (at : place ≡ i / 64 ^ l / 64) (of : bit ≡ i / 64 ^ l % 64) where
  is_mark : (first + place) * 64 + bit ≡ first_mark l + i / 64 ^ l
  is_mark = let whole = whole_words l layer in omega (arith, whole, word, at, of)

  is_within : (first + place) * 64 + bit < 64 * ROW_WORDS
  is_within = let lt = mark-lt i l id layer in omega (arith, is_mark, lt)

pub overflow_add-result : goal.overflow_add-result
overflow_add-result c =
    let lt = is_within c.args.id c.args.layer c.first_word.result c.bit_over-place.result.0 c.bit_over-place.result.1 c.requires.id c.requires.layer c.first_word.ensures c.bit_over-place.ensures.word_index c.bit_over-place.ensures.bit in
    omega (arith, lt)

pub overflow_mul-result : goal.overflow_mul-result
overflow_mul-result c =
    let lt = is_within c.args.id c.args.layer c.first_word.result c.bit_over-place.result.0 c.bit_over-place.result.1 c.requires.id c.requires.layer c.first_word.ensures c.bit_over-place.ensures.word_index c.bit_over-place.ensures.bit in
    omega (arith, lt)

pub overflow_cast-result : goal.overflow_cast-result
overflow_cast-result c =
    let lt = is_within c.args.id c.args.layer c.first_word.result c.bit_over-place.result.0 c.bit_over-place.result.1 c.requires.id c.requires.layer c.first_word.ensures c.bit_over-place.ensures.word_index c.bit_over-place.ensures.bit in
    omega (arith, lt)

pub overflow_add-result-2 : goal.overflow_add-result-2
overflow_add-result-2 c =
    let lt = is_within c.args.id c.args.layer c.first_word.result c.bit_over-place.result.0 c.bit_over-place.result.1 c.requires.id c.requires.layer c.first_word.ensures c.bit_over-place.ensures.word_index c.bit_over-place.ensures.bit in
    omega (arith, lt)

pub returns-clause-mark : goal.returns-clause-mark
returns-clause-mark c = is_mark c.args.id c.args.layer c.first_word.result c.bit_over-place.result.0 c.bit_over-place.result.1 c.requires.id c.requires.layer c.first_word.ensures c.bit_over-place.ensures.word_index c.bit_over-place.ensures.bit

pub returns-clause-within : goal.returns-clause-within
returns-clause-within c = is_within c.args.id c.args.layer c.first_word.result c.bit_over-place.result.0 c.bit_over-place.result.1 c.requires.id c.requires.layer c.first_word.ensures c.bit_over-place.ensures.word_index c.bit_over-place.ensures.bit
