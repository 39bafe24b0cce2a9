use Rattle.std.proofs.Common.{◌+◌, reverse, refl, ◌∙◌, ap}
use Rattle.hibitset_base.specs.RevWalk.{rev_set_of, rev_items_left}
use Rattle.hibitset_base.specs.declared.util.TheConstants.{MAX_EID}
use Rattle.hibitset_base.proofs.RevWalkLemmas.{back_runs, few_back}
use Rattle.hibitset_base.proofs.rev_iter.BitRevIter.from_end.Goals as goal

pub returns : goal.returns
unfolding rev_set_of rev_items_left
returns g c =
    let cursor = c.start_at_end-cursor.ensures in
    record {
      set = refl;
      items = ap reverse cursor.start.items;
      from_set = cursor.start.from_set;
      read = cursor.reads ∙ ap (λ n. n + 1) c.none-reads.ensures;
      bound = cursor.start.bound;
      ahead = cursor.start.ahead;
      runs = back_runs g.T.BitSetLike.holds g.T.BitSetLike.word;
      fits = few_back (g.T.BitSetLike.holds c.args.set) MAX_EID (ap reverse cursor.start.items);
    }
