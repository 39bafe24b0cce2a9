-- What a contract sees of counts beside a set that stands still.
use Rattle.std.specs.Prelude.{ℕ, length}
use Rattle.hibitset_base.specs.declared.like.BitSetLike.{Ghosts}
use Rattle.hibitset_base.specs.declared.ranked.Ranked.{Ranked}

module _ {T : Type 0} {ghosts : Ghosts T} where
  -- the set that is counted
  unfoldable pub counted_set : Ranked T ghosts → T
  counted_set ranked = ranked.set

  -- how many counts there are
  unfoldable pub counts_len : Ranked T ghosts → ℕ
  counts_len ranked = length ranked.counts.items
