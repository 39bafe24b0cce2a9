use Rattle.std.proofs.Common.{arith, refl, sym, subst, ap, inl, inr, ⊎_elim, ◌∙◌, length}
use Rattle.std.proofs.lemmas.List.{nil_from_length, length-append}
use Rattle.hibitset_atomic.proofs.SeatPairLemmas.{joins, both_fit}
use Rattle.hibitset_atomic.proofs.CallerStepLemmas.{looked_once, united_parts, united_knows, united_settled, united_counts, looked_honest}
use Rattle.hibitset_atomic.proofs.ListLemmas.{has-from_contains, is_distinct-from}
use Rattle.hibitset_atomic.specs.Rule.{IsSet}
use Rattle.hibitset_atomic.specs.Seats.{BelongsTo, IsKnown, IsOld, weight_of, reports_of, loads_by, exchanges_by}
use Rattle.hibitset_atomic.proofs.shared.types.SharedBitSet.join.Goals as goal
use Rattle.hibitset_atomic.specs.declared.shared.layout.TheConstants.{LAYER3_START}

pub join_seat-requires : goal.join_seat-requires
unfolding BelongsTo IsKnown IsOld weight_of reports_of
join_seat-requires c = (
  c.requires.0.0,
  c.requires.1.0,
  nil_from_length _ c.args.b.empty_handed,
  (let e = c.args.self.now.counts.0 in omega (arith, e)),
  joins _ _ _ _ _ (let e = c.args.a.counted in let p = c.args.a.some_share.0 in omega (arith, e, p)) c.requires.0.2 c.requires.1.2,
)

pub invariant_of-result : goal.invariant_of-result
unfolding BelongsTo IsKnown IsOld weight_of reports_of
invariant_of-result c =
    let t = united_parts LAYER3_START c.load.result c.args.a.pass.me.0 c.args.b.pass.me.0 c.args.a.pass.me.1 _ _ c.load.ensures.found c.join_seat.ensures.2 c.requires.0.2 c.requires.1.2 in
    let f = (both_fit LAYER3_START c.load.result c.args.a.pass.me.0 c.args.b.pass.me.0 _ _ c.load.ensures.found (ap (λ m. m.0) c.join_seat.ensures.2)).1 in
    let l = length-append c.args.a.pass.me.0.shares c.args.b.pass.me.0.shares in let d = c.args.a.counted in let e = c.args.b.counted in let k = ap length t.2 in let p = c.args.a.some_share.0 in
    record { counted = omega (arith, l, d, e, k); some_share = (omega (arith, p), omega (arith, f, d, e)); empty_handed = ap length t.0 ∙ c.args.a.empty_handed }

pub returns-clause-belongs : goal.returns-clause-belongs
unfolding BelongsTo IsKnown IsOld weight_of reports_of
returns-clause-belongs c =
    let t = united_parts LAYER3_START c.load.result c.args.a.pass.me.0 c.args.b.pass.me.0 c.args.a.pass.me.1 _ _ c.load.ensures.found c.join_seat.ensures.2 c.requires.0.2 c.requires.1.2 in (
      c.load.ensures.same.0 ∙ c.join_seat.ensures.0 ∙ c.requires.0.0,
      t.1 ∙ c.requires.0.1,
      united_settled LAYER3_START c.load.result c.args.a.pass.me.0 c.args.b.pass.me.0 c.args.a.pass.me.1 _ _ c.load.ensures.found c.join_seat.ensures.2 c.requires.0.2 c.requires.1.2,
    )

pub returns-clause-weight : goal.returns-clause-weight
unfolding BelongsTo IsKnown IsOld weight_of reports_of
returns-clause-weight c = let f = (both_fit LAYER3_START c.load.result c.args.a.pass.me.0 c.args.b.pass.me.0 _ _ c.load.ensures.found (ap (λ m. m.0) c.join_seat.ensures.2)).1 in let d = c.args.a.counted in let e = c.args.b.counted in (refl, omega (arith, f, d, e))

pub returns-clause-reports : goal.returns-clause-reports
unfolding BelongsTo IsKnown IsOld weight_of reports_of
returns-clause-reports c = let t = united_parts LAYER3_START c.load.result c.args.a.pass.me.0 c.args.b.pass.me.0 c.args.a.pass.me.1 _ _ c.load.ensures.found c.join_seat.ensures.2 c.requires.0.2 c.requires.1.2 in t.3

pub returns-clause-apart : goal.returns-clause-apart
unfolding BelongsTo IsKnown IsOld weight_of reports_of
returns-clause-apart c = λ i first second.
    let apart = (both_fit LAYER3_START c.load.result c.args.a.pass.me.0 c.args.b.pass.me.0 _ _ c.load.ensures.found (ap (λ m. m.0) c.join_seat.ensures.2)).0 in
    apart i (has-from_contains _ i first) (has-from_contains _ i second)

pub returns-clause-distinct : goal.returns-clause-distinct
unfolding BelongsTo IsKnown IsOld weight_of reports_of
returns-clause-distinct c = is_distinct-from _ (looked_once _ _ _ _ c.load.ensures.found)

pub returns-clause-honest : goal.returns-clause-honest
unfolding BelongsTo IsKnown IsOld weight_of reports_of
returns-clause-honest c = λ i there old.
    let t = united_parts LAYER3_START c.load.result c.args.a.pass.me.0 c.args.b.pass.me.0 c.args.a.pass.me.1 _ _ c.load.ensures.found c.join_seat.ensures.2 c.requires.0.2 c.requires.1.2 in
    looked_honest _ _ _ _ c.load.ensures.found i (has-from_contains _ i there) (subst (λ items. IsSet items i) (sym (t.1 ∙ c.requires.0.1)) old.1)

pub returns-clause-known : goal.returns-clause-known
unfolding BelongsTo IsKnown IsOld weight_of reports_of
returns-clause-known c = λ i k. (
  ⊎_elim (λ x. x.0) (λ y. y.0) k,
  united_knows LAYER3_START c.load.result c.args.a.pass.me.0 c.args.b.pass.me.0 c.args.a.pass.me.1 _ _ c.load.ensures.found c.join_seat.ensures.2 c.requires.0.2 c.requires.1.2 i (⊎_elim (λ x. inl x.1) (λ y. inr y.1) k),
)

pub returns-clause-steps : goal.returns-clause-steps
unfolding BelongsTo IsKnown IsOld weight_of reports_of loads_by exchanges_by
returns-clause-steps c = united_counts LAYER3_START c.load.result c.args.a.pass.me.0 c.args.b.pass.me.0 c.args.a.pass.me.1 _ _ c.load.ensures.found c.join_seat.ensures.2 c.requires.0.2 c.requires.1.2
