use Rattle.std.proofs.Common.{◌≡◌, ℕ, Bool, ◌+◌, ◌∷◌, [], length, refl, sym, ◌∙◌, ap, arith}
use Rattle.hibitset_base.specs.Cursor.{cursor_places}
use Rattle.hibitset_base.specs.Places.{items_of}
use Rattle.hibitset_base.specs.declared.util.TheConstants.{LAYERS, MAX_EID}
use Rattle.hibitset_base.proofs.DrainLemmas.{items_without, later_than}
use Rattle.hibitset_base.proofs.RetainLemmas.{retained_none, retained_more, all_answered, others_stay}
use Rattle.hibitset_base.proofs.drain.retain_members.Goals as goal

pub items-init : goal.items-init
items-init g c = record {
  callable = c.requires;
  retained = (0, retained_none MAX_EID _ (g.T.BitSetLike.holds c.args.set.now) _ c.root_cursor-cursor.ensures.start.items);
  room = g.met.T.DrainableBitSet.keeps_own c.args.set.now;
}

pub items-preserved : goal.items-preserved
items-preserved g c =
    let x : ℕ = c.in-Some.index in
    let cursor = c.next_index.new.cursor in
    let old : ℕ → Bool = g.T.BitSetLike.holds c.args.set.now in
    let p : ℕ → Bool = g.T.BitSetLike.holds c.items.set in
    let r : ℕ → Bool = g.T.BitSetLike.holds c.keep_or_remove.new.set in
    let later = later_than LAYERS cursor.masks cursor.prefix x c.in-Some.ensures.before cursor.formed.long in
    let same : items_of p (cursor_places cursor) ≡ items_of r (cursor_places cursor) = items_without p r x (λ j other. sym (c.keep_or_remove.ensures.others j other)) (cursor_places cursor) later in
    let gave : items_of p (cursor_places c.items.cursor) ≡ x ∷ items_of r (cursor_places cursor) = sym c.in-Some.ensures.goes.items ∙ ap (λ xs. x ∷ xs) same in
    let so_far = c.items.invariant.retained in
    record {
      callable = c.items.invariant.callable;
      retained = (x + 1, retained_more MAX_EID _ old p r (items_of p (cursor_places c.items.cursor)) (items_of r (cursor_places cursor)) so_far.0 x so_far.1 gave c.keep_or_remove.ensures.answer c.keep_or_remove.ensures.others);
      room = g.met.T.DrainableBitSet.keeps_both c.args.set.now c.items.set c.keep_or_remove.new.set c.items.invariant.room c.keep_or_remove.ensures.keeps_room;
    }

pub items-smaller : goal.items-smaller
items-smaller g c =
    let x : ℕ = c.in-Some.index in
    let cursor = c.next_index.new.cursor in
    let p : ℕ → Bool = g.T.BitSetLike.holds c.items.set in
    let r : ℕ → Bool = g.T.BitSetLike.holds c.keep_or_remove.new.set in
    let later = later_than LAYERS cursor.masks cursor.prefix x c.in-Some.ensures.before cursor.formed.long in
    let same : items_of p (cursor_places cursor) ≡ items_of r (cursor_places cursor) = items_without p r x (λ j other. sym (c.keep_or_remove.ensures.others j other)) (cursor_places cursor) later in
    let gave : items_of p (cursor_places c.items.cursor) ≡ x ∷ items_of r (cursor_places cursor) = sym c.in-Some.ensures.goes.items ∙ ap (λ xs. x ∷ xs) same in
    let shorter = ap length gave in
    omega (arith, shorter)

pub returns-clause-kept : goal.returns-clause-kept
returns-clause-kept g c =
    let old : ℕ → Bool = g.T.BitSetLike.holds c.args.set.now in
    let p : ℕ → Bool = g.T.BitSetLike.holds c.items.set in
    let none : items_of p (cursor_places c.items.cursor) ≡ [] = sym c.in_default.ensures.goes.items ∙ ap (items_of p) (c.in_default.ensures.end refl) in
    let done = c.items.invariant.retained in
    all_answered MAX_EID _ old p (items_of p (cursor_places c.items.cursor)) done.0 done.1 none

pub returns-clause-others : goal.returns-clause-others
returns-clause-others g c =
    let old : ℕ → Bool = g.T.BitSetLike.holds c.args.set.now in
    let p : ℕ → Bool = g.T.BitSetLike.holds c.items.set in
    let done = c.items.invariant.retained in
    others_stay _ old p (items_of p (cursor_places c.items.cursor)) done.0 done.1
