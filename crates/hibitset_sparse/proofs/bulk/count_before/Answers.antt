use Rattle.std.proofs.Common.{ℕ, ◌/◌, ◌≤◌, length, take, ap, ◌∙◌, arith}
use Rattle.std.specs.List.{zip}
use Rattle.hibitset_base.specs.Members.{members}
use Rattle.hibitset_sparse.specs.Walk.{in_chunks}
use Rattle.hibitset_sparse.proofs.BeforeLemmas.{before-chunk, before-gap, chunks-before, taken-few, taken-long}
use Rattle.hibitset_sparse.proofs.EntryLemmas.{is_taken}
use Rattle.hibitset_sparse.proofs.bulk.count_before.Goals as goal

pub count_chunks-count-requires : goal.count_chunks-count-requires
count_chunks-count-requires c = taken-few c.args.chunks.now c.rank.result c.deref.result.now c.deref.ensures.value

pub returns-in-Some : goal.returns-in-Some
returns-in-Some c =
    let chunks = c.args.chunks.now in
    let place : ℕ = c.args.end / 262144 in
    let low : place ≤ 4096 = omega arith in
    let same = c.deref.ensures.value in
    let long = taken-long chunks place c.rank.result c.deref.result.now low c.rank.ensures.rank c.rank.ensures.within same in
    let is = ap (λ xs. length (in_chunks (zip (members (is_taken chunks) 0 place) xs))) (ap (λ k. take k c.deref.result.now) c.rank.ensures.rank
    ∙ ap (take _) same) in
    let counted = c.count_chunks-count.ensures.counted (members (is_taken chunks) 0 place) long ∙ (is ∙ chunks-before chunks place low) in
    before-chunk chunks c.args.end c.count_chunks-count.result c.count_words_before.result c.in-Some.chunk.now c.in-Some.ensures counted c.count_words_before.ensures.rank

pub returns-in-None : goal.returns-in-None
returns-in-None c =
    let chunks = c.args.chunks.now in
    let place : ℕ = c.args.end / 262144 in
    let low : place ≤ 4096 = omega arith in
    let same = c.deref.ensures.value in
    let long = taken-long chunks place c.rank.result c.deref.result.now low c.rank.ensures.rank c.rank.ensures.within same in
    let is = ap (λ xs. length (in_chunks (zip (members (is_taken chunks) 0 place) xs))) (ap (λ k. take k c.deref.result.now) c.rank.ensures.rank
    ∙ ap (take _) same) in
    let counted = c.count_chunks-count.ensures.counted (members (is_taken chunks) 0 place) long ∙ (is ∙ chunks-before chunks place low) in
    before-gap chunks c.args.end c.count_chunks-count.result c.in-None.ensures counted

pub overflow_add-result : goal.overflow_add-result
overflow_add-result c =
    let most = taken-few c.args.chunks.now c.rank.result c.deref.result.now c.deref.ensures.value in
    let few = c.count_chunks-count.ensures.max in
    let more = c.count_words_before.ensures.max in
    omega (arith, most, few, more)
