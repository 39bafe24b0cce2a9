use Rattle.std.proofs.Common.{ℕ, ◌+◌, ◌/◌, ◌%◌, ◌≤◌, length, take, ap, ◌∙◌, arith}
use Rattle.std.specs.List.{zip}
use Rattle.hibitset_base.specs.Members.{members}
use Rattle.hibitset_base.proofs.MemberLemmas.{members-length}
use Rattle.hibitset_sparse.specs.Walk.{has_in_words, in_words}
use Rattle.hibitset_sparse.proofs.BeforeLemmas.{before-none, before-word, rank-few, taken-few, taken-long, words-before}
use Rattle.hibitset_sparse.proofs.EntryLemmas.{is_taken}
use Rattle.hibitset_sparse.proofs.bulk.count_words_before.Goals as goal

pub count_words-count-requires : goal.count_words-count-requires
count_words-count-requires c = taken-few c.args.words.now c.rank.result c.deref.result.now c.deref.ensures.value

pub returns-in-Some-clause-rank : goal.returns-in-Some-clause-rank
returns-in-Some-clause-rank c =
    let words = c.args.words.now in
    let place : ℕ = c.args.end / 64 in
    let low : place ≤ 4096 = omega arith in
    let same = c.deref.ensures.value in
    let long = taken-long words place c.rank.result c.deref.result.now low c.rank.ensures.rank c.rank.ensures.within same in
    let is = ap (λ ws. length (in_words 0 (zip (members (is_taken words) 0 place) ws))) (ap (λ k. take k c.deref.result.now) c.rank.ensures.rank
    ∙ ap (take _) same) in
    let counted = c.count_words-count.ensures.counted 0 (members (is_taken words) 0 place) long ∙ (is ∙ words-before words place low) in
    ap (λ k. c.count_words-count.result + k) c.rank-in-Some.ensures
    ∙ before-word words c.args.end c.count_words-count.result c.in-Some.word.now c.in-Some.ensures counted

pub returns-in-Some-clause-max : goal.returns-in-Some-clause-max
returns-in-Some-clause-max c =
    let is = returns-in-Some-clause-rank c in
    let few = members-length (has_in_words c.args.words.now) 0 c.args.end in
    omega (arith, is, few)

pub returns-in-None-clause-rank : goal.returns-in-None-clause-rank
returns-in-None-clause-rank c =
    let words = c.args.words.now in
    let place : ℕ = c.args.end / 64 in
    let low : place ≤ 4096 = omega arith in
    let same = c.deref.ensures.value in
    let long = taken-long words place c.rank.result c.deref.result.now low c.rank.ensures.rank c.rank.ensures.within same in
    let is = ap (λ ws. length (in_words 0 (zip (members (is_taken words) 0 place) ws))) (ap (λ k. take k c.deref.result.now) c.rank.ensures.rank
    ∙ ap (take _) same) in
    let counted = c.count_words-count.ensures.counted 0 (members (is_taken words) 0 place) long ∙ (is ∙ words-before words place low) in
    before-none words c.args.end c.count_words-count.result c.in-None.ensures counted

pub returns-in-None-clause-max : goal.returns-in-None-clause-max
returns-in-None-clause-max c =
    let is = returns-in-None-clause-rank c in
    let few = members-length (has_in_words c.args.words.now) 0 c.args.end in
    omega (arith, is, few)

pub overflow_add-result : goal.overflow_add-result
overflow_add-result c =
    let few = c.count_words-count.ensures.max in
    let is = c.rank-in-Some.ensures in
    let more = rank-few c.in-Some.word.now (c.args.end % 64) in
    omega (arith, few, is, more)
