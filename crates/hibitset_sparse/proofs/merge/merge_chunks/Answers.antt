use Rattle.std.proofs.Common.{◌≡◌, length, ◌∙◌, ap, arith}
use Rattle.std.specs.List.{slice_get}
use Rattle.hibitset_sparse.specs.Chunk.{or_zero}
use Rattle.hibitset_sparse.specs.GroupView.{view_has}
use Rattle.hibitset_sparse.specs.Layout.{value_of_place}
use Rattle.hibitset_sparse.specs.PackedArray.{value_in}
use Rattle.hibitset_sparse.specs.Rank.{value_from}
use Rattle.hibitset_sparse.proofs.AppendLemmas.{TakesLowest, groups-first, group-made}
use Rattle.hibitset_sparse.proofs.MergeLemmas.{word-of-group, word-skipped}
use Rattle.hibitset_sparse.proofs.merge.merge_chunks.Goals as goal

pub groups-init : goal.groups-init
groups-init g c =
    let empty : length c.reserve-2.new.self.items ≡ length c.new-items.result.items = ap length c.reserve-2.ensures.items in
    groups-first c.merged_bits-left.result (value_in c.reserve.new.self) c.reserve-2.new.self.items _
    (let none = c.new-items.ensures.len in omega (arith, none, empty, c.new-items.result.ok.0))
    (λ p. ap (λ w. value_from (slice_get c.reserve.new.self.items.items) w p) c.reserve.ensures.word
    ∙ (ap (λ xs. value_from (slice_get xs) c.new-groups.result.word p) c.reserve.ensures.items ∙ c.new-groups.ensures.empty p))
    (λ p low off. word-skipped g.M.Merge.test c.args.own.now c.args.other.now c.layer2.result c.layer2-2.result c.merged_bits-left.result p
    c.layer2.ensures c.layer2-2.ensures c.merged_bits-left.ensures low off)

pub groups-preserved : goal.groups-preserved
groups-preserved g c =
    let bit = c.take_bit-q.ensures in
    let made = c.in_ok-push_merged.ensures in
    let takes : TakesLowest c.groups.left c.take_bit-q.new.word c.take_bit-q.result = record {
      below = bit.in_word;
      stood = bit.bit_was_set;
      lowest = bit.lowest;
      gone = bit.bit_cleared;
      same = bit.same;
    } in
    group-made c.groups.left c.take_bit-q.new.word c.take_bit-q.result (value_in c.groups.groups) c.groups.items.items _ takes c.groups.invariant
    (value_in c.push_merged.new.groups) c.push_merged.new.items.items made.made
    (λ p low here. word-of-group g.M.Merge.test c.args.own.now c.args.other.now (view_has c.of-of_own.result)
    (view_has c.of-of_other.result) c.take_bit-q.result p
    (or_zero (value_of_place (value_in c.push_merged.new.groups) c.push_merged.new.items.items p)) here c.of-of_own.ensures.members c.of-of_other.ensures.members
    (made.pushed p low here))
    made.others
