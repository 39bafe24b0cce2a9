use Rattle.std.proofs.Common.{◌≡◌}
use Rattle.std.specs.Prelude.{slice_get}
use Rattle.hibitset_sparse.specs.Walk.{members_left, words_ahead}
use Rattle.hibitset_sparse.proofs.select.nth_of_words.Given as goal

-- the member that is sought stands so far from the first one in the next word
abbrev pub invariant-words : goal.invariant-words
invariant-words l = slice_get (members_left l.words) l.left ≡ slice_get (members_left l.fn.words) l.at

abbrev pub decreases-words : goal.decreases-words
decreases-words l = words_ahead l.words
