use Rattle.std.proofs.Common.{◌≡◌, ◌*◌, ◌++◌}
use Rattle.std.specs.Vec.{vec_capacity}
use Rattle.hibitset_base.specs.Members.{members}
use Rattle.hibitset_base.proofs.bulk.list.push_block.Given as goal

abbrev pub invariant-words : goal.invariant-words
invariant-words g l = record {
  pushed : l.taken.items ≡ l.fn.list.items ++ members (g.T.BitSetLike.holds l.set) (l.start * 64) (64 * l.word);
  room : vec_capacity l.taken ≡ vec_capacity l.fn.list;
}
