use Rattle.std.proofs.Common.{◌≡◌, ◌+◌, ◌≤◌, min, reverse, refl, subst, ◌∙◌, ap, arith}
use Rattle.hibitset_base.specs.RevWalk.{rev_set_of, rev_items_left}
use Rattle.hibitset_base.specs.Members.{members_below}
use Rattle.hibitset_base.specs.declared.util.TheConstants.{LAYERS, MAX_EID}
use Rattle.hibitset_base.proofs.RevWalkLemmas.{back_runs, few_back}
use Rattle.hibitset_base.proofs.rev_iter.BitRevIter.from_before.Goals as goal

pub returns-then-end-ge-MAX_EID : goal.returns-then-end-ge-MAX_EID
returns-then-end-ge-MAX_EID g c =
    let walk = c.from_end.ensures in
    let all : min c.args.end MAX_EID ≡ MAX_EID = omega arith in
    record {
      set = walk.set;
      items = rw all walk.items;
      from_set = walk.from_set;
      read = rw walk.read (omega arith);
      runs = walk.runs;
      fits = rw all walk.fits;
    }

pub returns : goal.returns
unfolding rev_set_of rev_items_left
returns g c =
    let cursor = c.start_before-cursor.ensures in
    let some : c.args.end ≡ min c.args.end MAX_EID = omega arith in
    let items = ap reverse (cursor.items ∙ ap (λ b. members_below b (g.T.BitSetLike.holds c.args.set)) some) in
    record {
      set = refl;
      items = items;
      from_set = cursor.from_set;
      read = subst (λ n. c.start_before-cursor.new.reads.count ≤ n + LAYERS) c.none-reads.ensures cursor.read;
      runs = back_runs g.T.BitSetLike.holds g.T.BitSetLike.word;
      fits = few_back (g.T.BitSetLike.holds c.args.set) (min c.args.end MAX_EID) items;
    }
