use Rattle.std.proofs.Common.{◌+◌, refl, ◌∙◌, ap}
use Rattle.hibitset_base.proofs.RunLemmas.{walk_runs, few_items}
use Rattle.hibitset_base.specs.Walk.{set_of, items_left}
use Rattle.hibitset_base.proofs.iter.BitIter.from_top.Goals as goal

pub returns : goal.returns
unfolding set_of items_left
returns g c =
    let cursor = c.root_cursor-cursor.ensures in
    record {
      set = refl;
      items = cursor.start.items;
      from_set = cursor.start.from_set;
      read = cursor.reads ∙ ap (λ n. n + 1) c.none-reads.ensures;
      one_mask = cursor.one_mask;
      bound = cursor.start.bound;
      ahead = cursor.start.ahead;
      runs = walk_runs g.T.BitSetLike.holds g.T.BitSetLike.word;
      fits = few_items _ cursor.start.items;
    }
