use Rattle.std.proofs.Common.{◌≡◌, inl, inr, Contains, refl, sym, subst, arith}
use Rattle.hibitset.specs.Prelude.{SHARES, weight_of, reports_of}
use Rattle.uses.proofs.WorkerLemmas.{all_sound, same_weights, listed_known, reported_listed}
use Rattle.uses.proofs.workers.add_shared.Goals as goal

pub together-seat-requires-clause-works : goal.together-seat-requires-clause-works
together-seat-requires-clause-works g c = all_sound c.args.set c.in-Ok.both.1.items c.in-Ok-run.works.items c.in-Ok-run.ensures

-- the joined seat is whole, and has reported what is in the lists, and knows it
pub returns-in-Ok-settle-clause-members : goal.returns-in-Ok-settle-clause-members
returns-in-Ok-settle-clause-members g c =
    let jobs = c.in-Ok.both.1.items in
    let works = c.in-Ok-run.works.items in
    let each = c.in-Ok-run.ensures in
    let joined = c.together-seat.ensures in
    let lists = c.in-Ok.ensures.lists in
    let settled = c.in-Ok-settle.ensures in
    let weights = same_weights c.args.set jobs works each in
    let whole : weight_of c.together-seat.result.seat ≡ SHARES = (let a = joined.weight in let b = c.in-Ok.ensures.weight in let d = c.requires.seat.2 in omega (arith, a, b, d, weights)) in
    λ i. (
      (λ on. elim (settled.complete whole i on) [
        | inl old ↦ inl old
        | inr reported ↦ inr (let t = reported_listed c.args.set jobs works i each (subst (λ r. Contains r i) joined.reports reported) in (subst (λ is. Contains is i) lists t.0, t.1))
      ]),
      (λ h. elim h [
        | inl old ↦ settled.old i old
        | inr listed ↦ settled.known i (joined.known i (listed_known c.args.set jobs works i each listed.1 (subst (λ is. Contains is i) (sym lists) listed.0)))
      ]),
    )

pub returns-in-Ok-settle-clause-new : goal.returns-in-Ok-settle-clause-new
returns-in-Ok-settle-clause-new g c =
    let jobs = c.in-Ok.both.1.items in
    let works = c.in-Ok-run.works.items in
    let joined = c.together-seat.ensures in
    let settled = c.in-Ok-settle.ensures in
    let weights = same_weights c.args.set jobs works c.in-Ok-run.ensures in
    let whole : weight_of c.together-seat.result.seat ≡ SHARES = (let a = joined.weight in let b = c.in-Ok.ensures.weight in let d = c.requires.seat.2 in omega (arith, a, b, d, weights)) in (
      reports_of c.together-seat.result.seat,
      sym joined.new,
      (settled.distinct refl).0,
      λ i. (
        (λ fresh. (settled.reported i fresh, (settled.distinct refl).1 i fresh)),
        (λ h. elim (settled.complete whole i h.0) [ inl old ↦ absurd (h.1 old) | inr reported ↦ reported ]),
      ),
    )

pub returns-in-Err-settle-clause-left : goal.returns-in-Err-settle-clause-left
returns-in-Err-settle-clause-left g c =
    let jobs = c.in-Ok.both.1.items in
    let works = c.in-Ok-run.works.items in
    let each = c.in-Ok-run.ensures in
    let joined = c.together-seat.ensures in
    let lists = c.in-Ok.ensures.lists in
    let back = c.in-Err-settle.ensures.value_returned in
    let weights = same_weights c.args.set jobs works each in
    let whole : weight_of c.together-seat.result.seat ≡ SHARES = (let a = joined.weight in let b = c.in-Ok.ensures.weight in let d = c.requires.seat.2 in omega (arith, a, b, d, weights)) in
    rw (back.0, back.1) (
      (joined.belongs, λ i. ((λ old. old), (λ old. old))),
      whole,
      λ i listed. joined.known i (listed_known c.args.set jobs works i each listed.1 (subst (λ is. Contains is i) (sym lists) listed.0)),
    )
