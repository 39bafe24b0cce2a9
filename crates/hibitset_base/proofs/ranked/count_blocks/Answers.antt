use Rattle.std.proofs.Common.{◌≡◌, ◌+◌, ◌-◌, ◌*◌, ◌^◌, [], ◌∷◌, ◌++◌, length, ◌∙◌, ap, arith, length-append}
use Rattle.hibitset_base.specs.Ranks.{block_size}
use Rattle.hibitset_base.proofs.MemberLemmas.{members-length}
use Rattle.hibitset_base.proofs.RankedLemmas.{none_before, first_count, next_count, count_block}
use Rattle.hibitset_base.proofs.ranked.count_blocks.Goals as goal

pub starts-init : goal.starts-init
starts-init g c =
    let holds = g.T.BitSetLike.holds c.args.set.now in
    let empty : c.in_ok-counts.counts.items ≡ [] = c.in_ok-counts.ensures.items in
    let items : c.push.new.self.items ≡ 0 ∷ [] = c.in_ok-push.ensures.items ∙ ap (λ xs. xs ++ 0 ∷ []) empty in
    record {
      many = ap length items;
      each = first_count holds _ items;
      count = none_before holds;
    }

pub overflow_cast-count : goal.overflow_cast-count
overflow_cast-count g c =
    let holds = g.T.BitSetLike.holds c.args.set.now in
    let count = c.count_part.ensures in
    let few = members-length holds (64 * c.starts.block * 64 ^ 1) ((64 * c.starts.block + 64 - 64 * c.starts.block) * 64 ^ 1) in
    omega (arith, count, few)

pub overflow_add-count : goal.overflow_add-count
overflow_add-count g c =
    let holds = g.T.BitSetLike.holds c.args.set.now in
    let count = count_block holds c.starts.block c.starts.count _ c.starts.invariant.count c.count_part.ensures in
    let few = members-length holds 0 (block_size * (c.starts.block + 1)) in
    omega (arith, count, few, c.requires, c.starts-test.true)

pub starts-preserved : goal.starts-preserved
starts-preserved g c =
    let holds = g.T.BitSetLike.holds c.args.set.now in
    let items : c.push-in-starts.new.self.items ≡ c.starts.counts.items ++ (c.starts.count + c.count_part.result) ∷ [] = c.in_ok-push-2.ensures.items in
    let count = count_block holds c.starts.block c.starts.count _ c.starts.invariant.count c.count_part.ensures in
    record {
      many = ap length items ∙ (length-append c.starts.counts.items ((c.starts.count + c.count_part.result) ∷ []) ∙ ap (λ n. n + 1) c.starts.invariant.many);
      each = next_count holds c.starts.counts.items _ (c.starts.count + c.count_part.result) c.starts.block c.starts.invariant.many items count c.starts.invariant.each;
      count = count;
    }
