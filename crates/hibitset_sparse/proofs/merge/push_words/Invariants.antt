use Rattle.std.proofs.Common.{◌+◌, ◌^◌, ◌<◌, length}
use Rattle.hibitset_sparse.specs.GroupView.{view_word}
use Rattle.hibitset_sparse.specs.Parts.{BeginsWith}
use Rattle.hibitset_sparse.proofs.AppendLemmas.{AreBeingPushed}
use Rattle.hibitset_sparse.proofs.CursorLemmas.{IsBehind}
use Rattle.hibitset_sparse.proofs.merge.push_words.Given as goal

abbrev pub invariant-places : goal.invariant-places
invariant-places g l = record {
  before : BeginsWith l.fn.items.items l.items.items;
  fits : l.bits < 2 ^ 64;
  own : IsBehind l.fn.own.word l.left l.fn.own.start l.own_at;
  other : IsBehind l.fn.other.word l.left l.fn.other.start l.other_at;
  pushed : AreBeingPushed (length l.fn.items.items) l.left l.bits l.items.items (λ b. g.M.Merge.merged (view_word l.fn.own 0 b) (view_word l.fn.other 0 b));
}

abbrev pub decreases-places : goal.decreases-places
decreases-places g l = l.left
