use Rattle.std.proofs.Common.{◌≡◌, ◌≤◌, ◌++◌, length}
use Rattle.std.specs.Vec.{vec_capacity}
use Rattle.hibitset_sparse.specs.Walk.{members_left, members_of, words_ahead}
use Rattle.hibitset_sparse.proofs.bulk.list_members.Given as goal

-- what is listed and what is left are all, and there is room for them
abbrev pub invariant-words : goal.invariant-words
invariant-words l = record {
  listed : l.list.items ++ members_left l.words ≡ members_of l.chunks;
  room : length (members_of l.chunks) ≤ vec_capacity l.list;
}

abbrev pub decreases-words : goal.decreases-words
decreases-words l = words_ahead l.words
