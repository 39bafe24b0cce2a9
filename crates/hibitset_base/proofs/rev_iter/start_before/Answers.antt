use Rattle.std.proofs.Common.{◌≡◌, ℕ, ◌+◌, ◌-◌, ◌++◌, [], sym, ◌∙◌, ap, arith}
use Rattle.std.proofs.lemmas.List.Elements.{All-nil, All-same}
use Rattle.hibitset_base.specs.Members.{members, members_below}
use Rattle.hibitset_base.specs.Places.{items_of}
use Rattle.hibitset_base.specs.Ranks.{start_over}
use Rattle.hibitset_base.specs.WordsRead.{BitIsSet}
use Rattle.hibitset_base.specs.declared.util.TheConstants.{LAYERS}
use Rattle.hibitset_base.proofs.MemberLemmas.{members-none}
use Rattle.hibitset_base.proofs.RankLemmas.{none_start, parts_here, ends_before}
use Rattle.hibitset_base.proofs.rev_iter.start_before.Goals as goal

pub layers-init : goal.layers-init
layers-init g c =
    let holds = g.T.BitSetLike.holds c.args.set.now in
    let left = c.empty-cursor.ensures.left in
    let first : start_over c.args.end LAYERS ≡ 0 = none_start LAYERS c.args.end c.requires in
    let none : members_below (start_over c.args.end LAYERS) holds ≡ [] = ap (members holds 0) first ∙ members-none holds 0 0 (λ i from below. absurd (omega (arith, from, below))) in
    record {
      reads = omega arith;
      items = ap (items_of holds) left ∙ sym none;
      from_set = All-same (BitIsSet (g.T.BitSetLike.word c.args.set.now)) _ [] left (All-nil (BitIsSet (g.T.BitSetLike.word c.args.set.now)));
      below = c.empty-cursor.ensures.empty_below;
    }

pub put_head-requires-clause-lowest : goal.put_head-requires-clause-lowest
put_head-requires-clause-lowest g c = λ l lower. c.layers.invariant.below l (omega (arith, lower))

pub returns-then-not-put_head : goal.returns-then-not-put_head
returns-then-not-put_head g c =
    let holds = g.T.BitSetLike.holds c.args.set.now in
    let l : ℕ = LAYERS - 1 - c.layers.depth in
    let here : LAYERS - c.layers.depth ≡ l + 1 = omega arith in
    let so_far = rw here at c.layers.invariant.items in
    let reads = c.layers.invariant.reads in
    let one = c.put_head.ensures.reads in
    record {
      read = omega (arith, reads, one);
      items = c.put_head.ensures.items ∙ (ap (λ xs. xs ++ members holds (start_over c.args.end (l + 1)) (start_over c.args.end l - start_over c.args.end (l + 1))) so_far ∙ (sym (parts_here holds c.args.end l) ∙ ends_before holds c.args.end l (c.put_head.ensures.clear c.if-not-put_head.true)));
      from_set = c.put_head.ensures.from_set c.layers.invariant.from_set;
    }

pub layers-preserved : goal.layers-preserved
layers-preserved g c =
    let holds = g.T.BitSetLike.holds c.args.set.now in
    let l : ℕ = LAYERS - 1 - c.layers.depth in
    let here : LAYERS - c.layers.depth ≡ l + 1 = omega arith in
    let next : LAYERS - (c.layers.depth + 1) ≡ l = omega arith in
    let so_far = rw here at c.layers.invariant.items in
    let reads = c.layers.invariant.reads in
    let one = c.put_head.ensures.reads in
    record {
      reads = omega (arith, reads, one);
      items = rw next (c.put_head.ensures.items ∙ (ap (λ xs. xs ++ members holds (start_over c.args.end (l + 1)) (start_over c.args.end l - start_over c.args.end (l + 1))) so_far ∙ sym (parts_here holds c.args.end l)));
      from_set = c.put_head.ensures.from_set c.layers.invariant.from_set;
      below = rw next c.put_head.ensures.empty_below;
    }

pub returns : goal.returns
returns g c =
    let holds = g.T.BitSetLike.holds c.args.set.now in
    let none : LAYERS - c.layers.depth ≡ 0 = omega arith in
    let items = rw none at c.layers.invariant.items in
    let all : start_over c.args.end 0 ≡ c.args.end = omega arith in
    let reads = c.layers.invariant.reads in
    record {
      read = omega (arith, reads);
      items = items ∙ ap (λ b. members_below b holds) all;
      from_set = c.layers.invariant.from_set;
    }
