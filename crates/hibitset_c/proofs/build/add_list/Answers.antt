use Rattle.std.proofs.Common.{◌/◌, ◌<◌, length, slice_index}
use Rattle.std.proofs.lemmas.List.Elements.{All-more}
use Rattle.hibitset_base.specs.declared.util.TheConstants.{MAX_EID}
use Rattle.hibitset.specs.BitSet.{has, slice_len}
use Rattle.hibitset_c.proofs.ListLemmas.{adds_next, all_before, one_more, no_longer, no_shorter, next_within}
use Rattle.hibitset_c.proofs.build.add_list.Goals as goal

pub loop-count-preserved : goal.loop-count-preserved
loop-count-preserved c =
    let list = c.args.list.now in let count = c.loop-count.count in let below = c.loop-count-test.true in let now = c.loop-count.invariant in
    record {
      added = adds_next list count below (has c.args.set.now) (has c.loop-count.set) (has c.add.new.self) now.added c.in-Ok.ensures.added;
      within = next_within count (length list) below;
      in_range = All-more (λ i. i < MAX_EID) list count 0 below now.in_range c.if-index-ge-MAX_EID.false;
      len_min = no_shorter (slice_len c.args.set.now 0) (slice_len c.loop-count.set 0) (slice_len c.add.new.self 0) now.len_min c.in-Ok.ensures.len_min;
      len_max = λ end old all.
          no_longer (slice_len c.loop-count.set 0) (slice_len c.add.new.self 0) (slice_index list count / 64) end
          (now.len_max end old (all_before list count below (λ i. i / 64 < end) all)) (one_more list count below (λ i. i / 64 < end) all) c.in-Ok.ensures.len_max;
    }
