use Rattle.std.proofs.Common.{◌≡◌, ◌≢◌, ℕ, ◌/◌, ◌<◌}
use Rattle.hibitset_sparse.specs.Table.{value_at}
use Rattle.hibitset_sparse.specs.declared.table.TheConstants.{PLACES_PER_TABLE}
use Rattle.hibitset_sparse.proofs.ChunksOfLemmas.{IsGroupDoneBut}
use Rattle.hibitset_sparse.proofs.gather.push_chunks.Given as goal

abbrev pub invariant-places : goal.invariant-places
invariant-places g l = record {
  done : IsGroupDoneBut (g.S.ChunkSource.holds l.fn.source) (g.T.BitSetLike.holds l.fn.touched) l.fn.q l.places (value_at l.chunks);
  others : (c : ℕ) → c < PLACES_PER_TABLE → c / 64 ≢ l.fn.q → value_at l.chunks c ≡ value_at l.fn.chunks c;
}

abbrev pub decreases-places : goal.decreases-places
decreases-places g l = l.places
