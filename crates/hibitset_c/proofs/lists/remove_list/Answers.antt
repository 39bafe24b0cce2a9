use Rattle.std.proofs.Common.{length, slice_index, sym, ◌∙◌, rules, arith}
use Rattle.hibitset_base.specs.Members.{members_below}
use Rattle.hibitset_base.specs.declared.util.TheConstants.{MAX_EID}
use Rattle.hibitset_c.proofs.RemovalLemmas.{none_less, one_less, removes_next, removes_none, removes_whole, still_within}
use Rattle.hibitset_c.proofs.lists.remove_list.Goals as goal
use Rattle.hibitset_c.proofs.lists.remove_list.Goals.{then-remove, else-remove}

pub loop-slot-init : goal.loop-slot-init
loop-slot-init g c =
    let holds = g.T.BitSetLike.holds in
    record {
      within = c.requires;
      removed = removes_none c.args.list.now (holds c.args.set.now);
      counted = omega arith;
      few = omega arith;
      keeps = g.met.T.DrainableBitSet.keeps_own c.args.set.now;
    }

pub loop-slot-preserved : goal.loop-slot-preserved
loop-slot-preserved g c =
    let holds = g.T.BitSetLike.holds in
    let list = c.args.list.now in
    let slot = c.loop-slot.slot in
    let now = c.loop-slot.invariant in
    let middle = c.loop-slot.set in
    let new = c.remove.new.self in
    let x = slice_index list slot in
    let total = length (members_below MAX_EID (holds c.args.set.now)) in
    record {
      within = still_within (holds middle) (holds new) x c.remove.ensures.removed now.within;
      removed = removes_next list slot (search rules) (holds c.args.set.now) (holds middle) (holds new) now.removed c.remove.ensures.removed;
      counted = elim c.if-remove.branch [
        | then-remove w ↦
            let there = sym c.remove.ensures.was_member ∙ w.if-remove.true in
            let h = one_less (holds middle) (holds new) x total c.loop-slot.count c.remove.ensures.removed now.counted there (now.within x there) in
            let is = w.count-is in
            omega (arith, h, is)
        | else-remove w ↦
            let h = none_less (holds middle) (holds new) x total c.loop-slot.count c.remove.ensures.removed now.counted (sym c.remove.ensures.was_member ∙ w.if-remove.false) in
            let is = w.count-is in
            omega (arith, h, is)
      ];
      few = let few = now.few in elim c.if-remove.branch [
        | then-remove w ↦ let is = w.count-is in omega (arith, few, is)
        | else-remove w ↦ let is = w.count-is in omega (arith, few, is)
      ];
      keeps = g.met.T.DrainableBitSet.keeps_both c.args.set.now middle new now.keeps c.remove.ensures.keeps_room;
    }

pub returns-clause-removed : goal.returns-clause-removed
returns-clause-removed g c =
    removes_whole c.args.list.now c.loop-slot.slot (g.T.BitSetLike.holds c.args.set.now) (g.T.BitSetLike.holds c.loop-slot.set) (search rules) c.loop-slot.invariant.removed
