use Rattle.std.proofs.Common.{◌<◌, length, slice_index, sym, ◌∙◌, rules}
use Rattle.std.proofs.lemmas.List.{length-set}
use Rattle.std.proofs.lemmas.List.Elements.{All-more}
use Rattle.std.proofs.lemmas.Option.{get_or_from_slice_get, slice_get_within}
use Rattle.hibitset_base.specs.Members.{members_below}
use Rattle.hibitset_base.specs.declared.util.TheConstants.{MAX_EID}
use Rattle.hibitset_c.proofs.BulkLemmas.{next_rest, next_written}
use Rattle.hibitset_c.proofs.SelectLemmas.{past_of_none}
use Rattle.hibitset_c.proofs.lookups.select_each.Goals as goal

pub returns-in_default-clause-stops : goal.returns-in_default-clause-stops
returns-in_default-clause-stops g c = λ less.
    past_of_none (members_below MAX_EID (g.T.BitSetLike.holds c.args.set.now)) (slice_index c.args.positions.now c.loop-slot.slot) (search rules)

pub loop-slot-preserved : goal.loop-slot-preserved
loop-slot-preserved g c =
    let ms = members_below MAX_EID (g.T.BitSetLike.holds c.args.set.now) in
    let positions = c.args.positions.now in
    let slot = c.loop-slot.slot in
    let now = c.loop-slot.invariant in
    let below : slot < length positions = search rules in
    let there = sym c.select_by.ensures ∙ c.in-Some.is in
    record {
      found = All-more (λ at. at < length ms) positions slot 0 below now.found (slice_get_within ms (slice_index positions slot) c.in-Some.index there);
      written = next_written (λ at. slice_index ms at) positions c.loop-slot.indices slot c.in-Some.index (search rules) below now.written (sym (get_or_from_slice_get ms (slice_index positions slot) c.in-Some.index 0 there));
      rest = next_rest c.args.indices.now c.loop-slot.indices slot c.in-Some.index now.rest;
      length_stays = length-set c.loop-slot.indices slot c.in-Some.index ∙ now.length_stays;
    }
