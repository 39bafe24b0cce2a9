use Rattle.std.proofs.Common.{◌≡◌, ℕ, ◌+◌, ◌-◌, ◌*◌, ◌/◌, ◌<◌, ◌≤◌, [], ◌∷◌, ◌++◌, ap, ◌∙◌, length-append, arith}
use Rattle.std.specs.Int.{div_ceil}
use Rattle.std.specs.List.{sum_by}
use Rattle.std.proofs.lemmas.List.Elements.{All-push}
use Rattle.std.proofs.lemmas.List.Sums.{sum_by-append}
use Rattle.hibitset_atomic.specs.Seats.{BelongsTo, weight_of, reports_of, loads_by, exchanges_by}
use Rattle.hibitset_atomic.specs.Division.{IsEvenShare, KnowsAllOf}
use Rattle.hibitset_atomic.proofs.ShareLemmas.{share-less, share-at_least, share-at_most, left-at_least, left-at_most, first-keeps}
use Rattle.hibitset_atomic.proofs.shared.types.SharedBitSet.give_seats.Goals as goal

pub seats-preserved : goal.seats-preserved
seats-preserved c =
    let inv = c.seats.invariant in
    let first = c.args.seat in
    let whole = weight_of first in
    let n = c.args.n in
    let w = weight_of c.seats.rest in
    let s = c.share_of_one-share.result in
    let next = c.cut_off-next.result.0 in
    let others = c.cut_off-next.result.1 in
    let p : ℕ = n - (c.seats.given + 1) in
    let weight = c.weight-weight.ensures.weight in
    let one_more : n - c.seats.given ≡ p + 1 = (let t = c.seats-test.true in omega (arith, t)) in
    let up : w ≤ (p + 1) * s = rw (weight, one_more) at c.share_of_one-share.ensures.up in
    let near : (p + 1) * s < w + (p + 1) = rw (weight, one_more) at c.share_of_one-share.ensures.share_max in
    let low : (p + 1) * (whole / n) ≤ w = rw one_more at inv.at_least in
    let high : w ≤ (p + 1) * div_ceil whole n = rw one_more at inv.at_most in
    let enough : p + 1 ≤ w = rw one_more at inv.enough in
    let less : s < w = share-less w p s up near (let t = c.seats-test.true in omega (arith, t)) (omega (arith, enough)) in
    let given_weight : weight_of next ≡ s = (let k = c.cut_off-next.ensures.weights.0 in omega (arith, k, weight, less)) in
    let left_weight : weight_of others ≡ w - s = (let k = c.cut_off-next.ensures.weights.1 in omega (arith, k, weight)) in
    let items : c.push.new.self.items ≡ c.seats.seats.items ++ next ∷ [] = rw c.unwrap.ensures at c.push.ensures.items in
    let loads = c.cut_off-next.ensures.loads 15 (let k = c.weight-weight.ensures.in_range.1 in omega (arith, k, weight)) in
    let sum : sum_by weight_of (c.seats.seats.items ++ next ∷ []) ≡ sum_by weight_of c.seats.seats.items + (0 + weight_of next) = sum_by-append weight_of c.seats.seats.items (next ∷ []) in
    rw items (record {
      number = length-append c.seats.seats.items (next ∷ []) ∙ ap (λ k. k + 1) inv.number;
      room = (let a = inv.room in let b = c.push.ensures.capacity in omega (arith, a, b));
      came = (All-push (BelongsTo c.args.self.now) c.seats.seats.items next inv.came.0 c.cut_off-next.ensures.belongs.0, c.cut_off-next.ensures.belongs.1);
      even = All-push (IsEvenShare whole n) c.seats.seats.items next inv.even (rw given_weight (share-at_least w p s up near (whole / n) low), rw given_weight (share-at_most w p s up near (div_ceil whole n) high));
      at_least = rw left_weight (left-at_least w p s up near (whole / n) low);
      at_most = rw left_weight (left-at_most w p s up near (div_ceil whole n) high);
      enough = rw left_weight (let k = left-at_least w p s up near 1 (omega (arith, enough)) in omega (arith, k));
      shares = (let k = inv.shares in omega (arith, k, sum, given_weight, left_weight, less));
      reports = first-keeps reports_of (reports_of first) [] c.seats.seats.items c.seats.rest next others c.seats.given inv.reports c.cut_off-next.ensures.reports.0 c.cut_off-next.ensures.reports.1;
      known = (All-push (KnowsAllOf first) c.seats.seats.items next inv.known.0 (λ i k. (c.cut_off-next.ensures.known i (inv.known.1 i k)).0), λ i k. (c.cut_off-next.ensures.known i (inv.known.1 i k)).1);
      loads = (All-push (λ s. loads_by s ≤ loads_by first + 30) c.seats.seats.items next inv.loads.0 (let l = loads.0 in let m = inv.loads.1 in omega (arith, l, m)), (let l = loads.1 in omega (arith, l)));
      exchanges = first-keeps exchanges_by (exchanges_by first) 0 c.seats.seats.items c.seats.rest next others c.seats.given inv.exchanges c.cut_off-next.ensures.exchanges.0 c.cut_off-next.ensures.exchanges.1;
    })

pub returns-clause-even_shares : goal.returns-clause-even_shares
returns-clause-even_shares c =
    let inv = c.seats.invariant in
    let items : c.push-2.new.self.items ≡ c.seats.seats.items ++ c.seats.rest ∷ [] = rw c.unwrap-2.ensures at c.push-2.ensures.items in
    let last : c.args.n - c.seats.given ≡ 1 = (let t = c.seats-test.false in let e = c.seats.auto.given-end in let some = c.requires.nonzero in omega (arith, t, e, some)) in
    let low = rw last at inv.at_least in
    let high = rw last at inv.at_most in
    rw items (All-push (IsEvenShare (weight_of c.args.seat) c.args.n) c.seats.seats.items c.seats.rest inv.even (omega (arith, low), omega (arith, high)))
