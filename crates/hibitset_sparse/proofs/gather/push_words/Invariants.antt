use Rattle.std.proofs.Common.{◌+◌, ◌*◌, ◌^◌, ◌<◌, length}
use Rattle.hibitset_sparse.specs.Parts.{BeginsWith}
use Rattle.hibitset_sparse.proofs.AppendLemmas.{AreBeingPushed}
use Rattle.hibitset_sparse.proofs.gather.push_words.Given as goal

abbrev pub invariant-places : goal.invariant-places
invariant-places g l = record {
  before : BeginsWith l.fn.items.items l.items.items;
  fits : l.bits < 2 ^ 64;
  pushed : AreBeingPushed (length l.fn.items.items) l.places l.bits l.items.items (λ b. g.S.BitSetLike.word l.fn.set 0 (64 * l.fn.position + b));
}

abbrev pub decreases-places : goal.decreases-places
decreases-places g l = l.places
