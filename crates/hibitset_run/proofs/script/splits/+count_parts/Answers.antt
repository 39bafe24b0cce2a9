use Rattle.std.proofs.Common.{◌<◌, arith}
use Rattle.hibitset_run.specs.Parts.{parts_of}
use Rattle.hibitset_run.proofs.SplitLemmas.{IsCut, is_one, is_cut, parts_of-le, parts_of-some}
use Rattle.hibitset_run.proofs.script.splits.+count_parts.Goals as goal

cut : (t : _) (c : goal.In-Some t) → IsCut c.args.part c.split-lower.result.0 c.in-Some.higher
cut t c =
    let may = c.requires in
    let exact = c.laws.ensures.exact c.args.part.0.set.now in
    let items = rw c.in-Some.is at c.split-lower.ensures.items in
    let apart = rw c.in-Some.is at c.split-lower.ensures.apart in
    let some = rw c.in-Some.is at (c.split-lower.ensures.nonempty exact.0 exact.1 may.from_set) in
    let same = rw c.in-Some.is at c.split-lower.ensures.same in
    let drawn = rw c.in-Some.is at (c.split-lower.ensures.from_set may.from_set) in
    let one_mask = rw c.in-Some.is at (c.split-lower.ensures.one_mask may.one_mask) in
    is_cut c.args.part may c.split-lower.result.0 c.in-Some.higher items apart some.0 some.1 same.0 same.1 drawn one_mask

pub count_parts-requires : goal.count_parts-requires
count_parts-requires t c =
    let both = cut t c in
    let some = parts_of-some c.in-Some.higher in
    let fewer : parts_of c.split-lower.result.0 < t = let count = both.count in omega (arith, count, some, c.decreases) in
    (fewer, both.lower_may)

pub count_parts-requires-in-Some : goal.count_parts-requires-in-Some
count_parts-requires-in-Some t c =
    let both = cut t c.before in
    let some = parts_of-some c.split-lower.result.0 in
    let fewer : parts_of c.in-Some.higher < t = let count = both.count in omega (arith, count, some, c.decreases) in
    (fewer, both.higher_may)

pub overflow_add-result : goal.overflow_add-result
overflow_add-result t c =
    let lower = parts_of-le c.split-lower.result.0 in
    let higher = parts_of-le c.in-Some.higher in
    omega (arith, lower, higher, c.count_parts.ensures, c.count_parts-in-Some.ensures)

pub returns-in-None : goal.returns-in-None
returns-in-None t c =
    let one = is_one c.args.part c.requires (c.split-lower.ensures.indivisible c.requires.one_mask c.in-None.is) in
    omega (arith, one)

pub returns-in-Some : goal.returns-in-Some
returns-in-Some t c =
    let both = cut t c.before.before in
    let count = both.count in
    omega (arith, count, c.count_parts.ensures, c.count_parts-in-Some.ensures)
