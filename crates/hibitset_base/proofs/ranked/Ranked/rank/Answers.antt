use Rattle.std.proofs.Common.{◌≡◌, ℕ, ◌+◌, ◌-◌, ◌*◌, ◌/◌, ◌<◌, ◌≤◌, Bool, List, get_or, min, length, ◌∙◌, ap, arith}
use Rattle.hibitset_base.specs.Members.{members_below}
use Rattle.hibitset_base.specs.Ranked.{counted_set}
use Rattle.hibitset_base.specs.Ranks.{AreCounts, block_size}
use Rattle.hibitset_base.specs.declared.util.TheConstants.{MAX_EID}
use Rattle.hibitset_base.proofs.ListLemmas.{get_or_any}
use Rattle.hibitset_base.proofs.MemberLemmas.{members-length}
use Rattle.hibitset_base.proofs.RankedLemmas.{count_of_all, count_to}
use Rattle.hibitset_base.proofs.ranked.Ranked.rank.Goals as goal

pub returns-then-block-len : goal.returns-then-block-len
unfolding counted_set
returns-then-block-len g c =
    let counts : List ℕ = c.args.self.now.counts.items in
    let are = c.args.self.now.counted in
    let some = are.some in
    let long = c.len.ensures in
    let same = c.args.self.now.counts.ok.0 in
    let last : c.len-then-block-len.result - 1 ≡ length counts - 1 = (let again = c.len-then-block-len.ensures in omega (arith, again, same)) in
    let past = c.if-block-len.true in
    c.index.ensures
    ∙ (get_or_any counts (c.len-then-block-len.result - 1) c.index.result.now 0 (omega (arith, some, last))
    ∙ (ap (λ j. get_or counts j 0) last ∙ count_of_all _ _ are c.args.end (omega (arith, some, long, same, past))))

-- the count before the block of an index, and the members between
counted_to : (p : ℕ → Bool) (counts : List ℕ) → AreCounts p counts → (end : ℕ) → end / 4096 + 1 < length counts → get_or counts (end / 4096) 0 + length (members_below end p) - length (members_below (block_size * (end / 4096)) p) ≡ length (members_below (min end MAX_EID) p)
counted_to p counts are end before =
    let within = are.within in
    let low : end ≤ MAX_EID = omega (arith, before, within) in
    let whole : min end MAX_EID ≡ end = omega (arith, low) in
    let all = ap (λ b. length (members_below b p)) whole in
    let count = are.each (end / 4096) (omega (arith, before)) in
    omega (arith, all, count)

pub returns : goal.returns
unfolding counted_set
returns g c =
    let holds = g.T.BitSetLike.holds c.args.self.now.set in
    let counts : List ℕ = c.args.self.now.counts.items in
    let are = c.args.self.now.counted in
    let block : ℕ = c.args.end / 4096 in
    let before : block + 1 < length counts = (let long = c.len.ensures in let same = c.args.self.now.counts.ok.0 in let less = c.if-block-len.false in omega (arith, long, same, less)) in
    let here : c.index-2.result.now ≡ get_or counts block 0 = c.index-2.ensures ∙ get_or_any counts block c.index-2.result.now 0 (omega (arith, before)) in
    let sum = count_to holds (block_size * block) c.args.end (omega arith) in
    let rest = c.count_range.ensures in
    let all = counted_to holds counts are c.args.end before in
    omega (arith, here, sum, rest, all)

pub overflow_add-result : goal.overflow_add-result
overflow_add-result g c =
    let holds = g.T.BitSetLike.holds c.args.self.now.set in
    let counts : List ℕ = c.args.self.now.counts.items in
    let are = c.args.self.now.counted in
    let block : ℕ = c.args.end / 4096 in
    let before : block + 1 < length counts = (let long = c.len.ensures in let same = c.args.self.now.counts.ok.0 in let less = c.if-block-len.false in omega (arith, long, same, less)) in
    let here : c.index-2.result.now ≡ get_or counts block 0 = c.index-2.ensures ∙ get_or_any counts block c.index-2.result.now 0 (omega (arith, before)) in
    let sum = count_to holds (block_size * block) c.args.end (omega arith) in
    let rest = c.count_range.ensures in
    let all = counted_to holds counts are c.args.end before in
    let few = members-length holds 0 (min c.args.end MAX_EID) in
    omega (arith, here, sum, rest, all, few)
