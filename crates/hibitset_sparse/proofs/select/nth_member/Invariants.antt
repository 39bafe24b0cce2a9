use Rattle.std.proofs.Common.{◌≡◌, length}
use Rattle.std.specs.Prelude.{slice_get}
use Rattle.hibitset_sparse.specs.Walk.{entries_left, in_chunks, members_of}
use Rattle.hibitset_sparse.proofs.select.nth_member.Given as goal

-- the member that is sought stands so far from the first one in the next chunk
abbrev pub invariant-chunks : goal.invariant-chunks
invariant-chunks l = slice_get (in_chunks (entries_left l.walk)) l.left ≡ slice_get (members_of l.chunks) l.at

abbrev pub decreases-chunks : goal.decreases-chunks
decreases-chunks l = length (entries_left l.walk)
