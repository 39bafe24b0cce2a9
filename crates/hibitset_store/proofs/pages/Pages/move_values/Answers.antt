use Rattle.std.proofs.Common.{is_some, ap, refl, ◌∙◌, inl, length, arith}
use Rattle.std.proofs.lemmas.List.{length-set}
use Rattle.hibitset_base.specs.declared.util.TheConstants.{MAX_EID}
use Rattle.hibitset_base.proofs.MemberLemmas.{members-same}
use Rattle.hibitset.specs.BitSet.{has}
use Rattle.hibitset_store.specs.Pages.{value_at, value_in}
use Rattle.hibitset_store.proofs.MoveLemmas.{AreMoving-next, first-left, moved-all, within-table}
use Rattle.hibitset_store.proofs.PageLemmas.{slot_of-some}
use Rattle.hibitset_store.proofs.pages.Pages.move_values.Goals as goal

pub keys-init : goal.keys-init
keys-init g c = record {
  moving = record {
    laid_out = c.requires.laid_out;
    starts = refl;
    left = c.into_iter-id-iterator.ensures.into_iter_gives.items ∙ members-same (has c.args.keys.now) (λ i. is_some (value_at c.args.self.now i)) 0 MAX_EID (λ i from below. c.requires.keys i);
    one = λ i. inl (refl, c.requires.empty i);
  };
  long = refl;
}

pub slot_of_key-slot-requires-clause-has_value : goal.slot_of_key-slot-requires-clause-has_value
slot_of_key-slot-requires-clause-has_value g c = first-left c.args.self.now _ _ c.in-Some.id c.keys.self c.keys.slots.items c.keys.invariant.moving c.in-Some.ensures.steps.0

pub swap_value-requires-clause-in_range : goal.swap_value-requires-clause-in_range
swap_value-requires-clause-in_range g c =
    let some = first-left c.args.self.now _ _ c.in-Some.id c.keys.self c.keys.slots.items c.keys.invariant.moving c.in-Some.ensures.steps.0 in
    let there = slot_of-some c.keys.self c.in-Some.id some in
    let slot = c.slot_of_key-slot.ensures in
    omega (arith, there, slot)

pub index_mut-requires : goal.index_mut-requires
index_mut-requires g c =
    let some = first-left c.args.self.now _ _ c.in-Some.id c.keys.self c.keys.slots.items c.keys.invariant.moving c.in-Some.ensures.steps.0 in
    let within = within-table c.keys.self c.keys.invariant.moving.laid_out c.in-Some.id some in
    let starts = ap length c.keys.invariant.moving.starts in
    let long = c.keys.invariant.long in
    let room = c.requires.long in
    let count = c.keys.slots.ok.0 in
    omega (arith, within, starts, long, room, count)

pub keys-preserved-in-Some : goal.keys-preserved-in-Some
keys-preserved-in-Some g c =
    let inv = c.keys.invariant in
    let some = first-left c.args.self.now _ _ c.in-Some.id c.keys.self c.keys.slots.items inv.moving c.in-Some.ensures.steps.0 in
    let within = within-table c.keys.self inv.moving.laid_out c.in-Some.id some in
    let starts = ap length inv.moving.starts in
    let long = inv.long in
    let room = c.requires.long in
    record {
      moving = AreMoving-next c.args.self.now _ _ c.in-Some.id c.keys.self c.swap_value.new.self c.keys.slots.items c.swap_value.result inv.moving c.in-Some.ensures.steps.0 (c.swap_value.ensures.old_value ∙ ap (value_in c.keys.self.slots.items) c.slot_of_key-slot.ensures) (omega (arith, within, starts, long, room)) c.swap_value.ensures.many (c.swap_value.ensures.put c.in-Some.id c.slot_of_key-slot.ensures);
      long = length-set c.keys.slots.items c.in-Some.id c.swap_value.result ∙ long;
    }

pub keys-preserved : goal.keys-preserved
keys-preserved g c =
    let inv = c.keys.invariant in
    let some = first-left c.args.self.now _ _ c.in-Some.id c.keys.self c.keys.slots.items inv.moving c.in-Some.ensures.steps.0 in
    let within = within-table c.keys.self inv.moving.laid_out c.in-Some.id some in
    let starts = ap length inv.moving.starts in
    let long = inv.long in
    let room = c.requires.long in
    record {
      moving = AreMoving-next c.args.self.now _ _ c.in-Some.id c.keys.self c.swap_value.new.self c.keys.slots.items c.swap_value.result inv.moving c.in-Some.ensures.steps.0 (c.swap_value.ensures.old_value ∙ ap (value_in c.keys.self.slots.items) c.slot_of_key-slot.ensures) (omega (arith, within, starts, long, room)) c.swap_value.ensures.many (c.swap_value.ensures.put c.in-Some.id c.slot_of_key-slot.ensures);
      long = length-set c.keys.slots.items c.in-Some.id c.swap_value.result ∙ long;
    }

pub returns-clause-moved : goal.returns-clause-moved
returns-clause-moved g c = moved-all c.args.self.now _ _ _ c.keys.invariant.moving c.in-None.ensures.steps.0.0
