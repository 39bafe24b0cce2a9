use Rattle.std.proofs.Common.{◌+◌, ◌*◌, ◌≤◌, length, arith}
use Rattle.hibitset.specs.Prelude.{members_below, not_word, words_ahead, LAYERS, MAX_EID, has, word_of}
use Rattle.uses.specs.Nested.{words_chosen, budget_of_three}
use Rattle.uses.proofs.nested.chosen.Goals as goal

pub returns-clause-reads_max : goal.returns-clause-reads_max
returns-clause-reads_max c =
    let set = c.bitand-2.result in
    let x = set.0.0.0.now in
    let y = set.0.0.1.now in
    let z = set.1.now in
    let starts = c.into_iter.ensures.into_iter_gives in
    let words = words_ahead words_chosen c.into_iter.result in
    let both = c.laws.ensures.intersection x y in
    let left = c.cover_laws.ensures.left in
    let first = left LAYERS (has x) (word_of x) _ (word_of z) (left LAYERS (has x) (word_of x) _ (not_word (word_of set.0.1.0.now)) both.0) in
    let second = left LAYERS (has y) (word_of y) _ (word_of z) (left LAYERS (has y) (word_of y) _ (not_word (word_of set.0.1.0.now)) both.1) in
    let own = c.cover_laws.ensures.own LAYERS (has z) (word_of z) _ (c.laws.ensures.intersection_covered z (word_of z)) in
    let third = c.cover_laws.ensures.right LAYERS (has z) (word_of z) (word_of z) _ own in
    let few_x : length words ≤ 4 * length (members_below MAX_EID (has x)) = (starts.bound (has x) (word_of x) first).few in
    let few_y : length words ≤ 4 * length (members_below MAX_EID (has y)) = (starts.bound (has y) (word_of y) second).few in
    let few_z : length words ≤ 4 * length (members_below MAX_EID (has z)) = (starts.bound (has z) (word_of z) third).few in
    let few : 1 + length words ≤ budget_of_three x y z = omega (arith, few_x, few_y, few_z) in
    let here = rw (c.bitand-2.ensures.0, c.bitand-2.ensures.1, c.sub.ensures.0, c.bitand.ensures.0, c.bitand.ensures.1) at few in
    omega (arith, here, starts.read)
