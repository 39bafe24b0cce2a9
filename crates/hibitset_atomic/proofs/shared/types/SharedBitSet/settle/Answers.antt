use Rattle.std.proofs.Common.{◌∙◌, sym, subst, ⊎_elim, inl, inr}
use Rattle.std.specs.Slots.{slots_items}
use Rattle.hibitset_atomic.specs.AtomicBitSet.{word_of, has}
use Rattle.hibitset_atomic.specs.Rule.{IsSet}
use Rattle.hibitset_atomic.specs.Seats.{BelongsTo, IsKnown, IsOld, weight_of, reports_of, HasAllReports}
use Rattle.hibitset_atomic.proofs.InvariantLemmas.{whole}
use Rattle.hibitset_atomic.proofs.ListLemmas.{contains-from_has, has-from_contains, is_distinct-from}
use Rattle.hibitset_atomic.proofs.LayerLemmas.{held_below}
use Rattle.hibitset_atomic.proofs.RowLemmas.{held_lit, lit_held}
use Rattle.hibitset_atomic.proofs.shared.types.SharedBitSet.settle.Goals as goal

pub returns-clause-complete : goal.returns-clause-complete
unfolding BelongsTo IsKnown IsOld weight_of reports_of has word_of
returns-clause-complete c = λ all i held.
    let f = c.close_with-closed.ensures.values.2 in
    let small = held_below c.fill.new.set.layers i held in
    let lit = held_lit (word_of c.fill.new.set) (slots_items c.close_with-closed.result.words) c.fill.ensures.words i small held in
    ⊎_elim (λ old. inl (small, old)) (λ reported. inr (contains-from_has _ i reported))
    (whole _ f.0 _ _ f.1.0 f.1.1 (sym c.args.seat.counted ∙ all) i small (subst (λ row. IsSet row i) (sym f.2) lit))

pub returns-clause-reported : goal.returns-clause-reported
unfolding BelongsTo IsKnown IsOld weight_of reports_of has word_of
returns-clause-reported c = λ i there.
    let f = c.close_with-closed.ensures.values.2 in
    let row = slots_items c.close_with-closed.result.words in
    let reports = (f.1.0.seats _ _ f.1.1).reports in
    let reported = has-from_contains _ i there in
    lit_held (word_of c.fill.new.set) row c.fill.ensures.words i (reports.below i reported) (subst (λ row. IsSet row i) f.2 (reports.set i reported))

pub returns-clause-distinct : goal.returns-clause-distinct
unfolding BelongsTo IsKnown IsOld weight_of reports_of
returns-clause-distinct c = λ ok.
    let f = c.close_with-closed.ensures.values.2 in
    let reports = (f.1.0.seats _ _ f.1.1).reports in
    (is_distinct-from _ reports.once, λ i there old. reports.new i (has-from_contains _ i there) old.1)

pub returns-clause-all : goal.returns-clause-all
unfolding HasAllReports IsOld has word_of
returns-clause-all c =
    let f = c.close_with-closed.ensures.values.2 in
    let words = c.fill.ensures.words in
    let row = slots_items c.close_with-closed.result.words in (
      f.0,
      f.1,
      λ i. (
        λ held.
            let small = held_below c.fill.new.set.layers i held in
            let lit = held_lit (word_of c.fill.new.set) row words i small held in
            ⊎_elim (λ old. inl (small, old)) (λ r. inr r) (f.1.0.layer0.told i small (subst (λ row. IsSet row i) (sym f.2) lit)),
        ⊎_elim
            (λ old. lit_held (word_of c.fill.new.set) row words i old.0 (subst (λ row. IsSet row i) f.2 (f.1.0.layer0.old_set i old.1)))
            (λ r. let reports = (f.1.0.seats r.0 r.1 r.2).reports in
            lit_held (word_of c.fill.new.set) row words i (reports.below i r.3) (subst (λ row. IsSet row i) f.2 (reports.set i r.3))),
      ),
    )
