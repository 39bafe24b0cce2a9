use Rattle.std.proofs.Common.{◌≡◌, ℕ, ◌-◌, ◌<◌, List, get_or, length, ◌∙◌, ap, ap₂, arith}
use Rattle.std.specs.Prelude.{slice_get}
use Rattle.hibitset_base.specs.Ranked.{counted_set}
use Rattle.hibitset_base.proofs.ListLemmas.{get_or_any}
use Rattle.hibitset_base.proofs.RankedLemmas.{some_upto, none_past, upto_block, in_block, block_of_word}
use Rattle.hibitset_base.proofs.ranked.Ranked.select.Goals as goal

pub overflow_sub-block : goal.overflow_sub-block
overflow_sub-block g c = some_upto _ _ c.args.self.now.counted c.args.at _ c.counts_upto-next.ensures.point

pub returns-then-next-len : goal.returns-then-next-len
unfolding counted_set
returns-then-next-len g c =
    none_past _ _ c.args.self.now.counted c.args.at _ c.counts_upto-next.ensures.point (let end = c.if-next-len.true in let long = c.len.ensures in let same = c.args.self.now.counts.ok.0 in omega (arith, end, long, same))

pub overflow_sub-at : goal.overflow_sub-at
overflow_sub-at g c =
    let are = c.args.self.now.counted in
    let counts : List ℕ = c.args.self.now.counts.items in
    let next : ℕ = c.counts_upto-next.result in
    let point = c.counts_upto-next.ensures.point in
    let some = some_upto _ _ are c.args.at _ point in
    let bound = c.counts_upto-next.ensures.bound in
    let here : c.index.result.now ≡ get_or counts (next - 1) 0 = c.index.ensures ∙ get_or_any counts (next - 1) c.index.result.now 0 (omega (arith, some, bound)) in
    let upto = upto_block _ _ are c.args.at next point in
    omega (arith, here, upto)

pub returns : goal.returns
unfolding counted_set
returns g c =
    let set = c.args.self.now.set in
    let holds = g.T.BitSetLike.holds set in
    let are = c.args.self.now.counted in
    let counts : List ℕ = c.args.self.now.counts.items in
    let next : ℕ = c.counts_upto-next.result in
    let point = c.counts_upto-next.ensures.point in
    let some = some_upto _ _ are c.args.at _ point in
    let within : next < length counts = (let bound = c.counts_upto-next.ensures.bound in let other = c.if-next-len.false in let end = c.len.ensures in let same = c.args.self.now.counts.ok.0 in omega (arith, bound, other, end, same)) in
    let here : c.index.result.now ≡ get_or counts (next - 1) 0 = c.index.ensures ∙ get_or_any counts (next - 1) c.index.result.now 0 (omega (arith, some, within)) in
    let fits = are.within in
    let block = block_of_word holds (g.T.BitSetLike.word set) (g.met.T.BitSetLike.lawful set) (next - 1) c.read-word.result (omega (arith, some, within, fits)) c.read-word.ensures.word in
    c.nth_under.ensures ∙ (ap₂ slice_get block (ap (λ n. c.args.at - n) here) ∙ in_block holds counts are c.args.at next point within)
