use Rattle.std.proofs.Common.{◌≡◌, ℕ, suc, ◌/◌, ◌%◌, ◌<◌, ◌≤◌, length, ap, ◌∙◌, arith}
use Rattle.hibitset_sparse.specs.PackedArray.{value_in}
use Rattle.hibitset_sparse.specs.Rank.{rank_in}
use Rattle.hibitset_sparse.specs.Table.{group_word, values_before_place}
use Rattle.hibitset_sparse.specs.declared.table.Table.{Table}
use Rattle.hibitset_sparse.proofs.LayoutLemmas.{before-more, before-upto, laid-few}
use Rattle.hibitset_sparse.proofs.RankLemmas.{rank-most}
use Rattle.hibitset_sparse.proofs.table.Table.rank.Goals as goal

-- no more values lie before a place than there are
at-most : {T : Type 0} (table : Table T) (i : ℕ) → i < 4096 → values_before_place table i ≤ length table.items.items
at-most table i low =
    let q : ℕ = i / 64 in
    let rank = rank-most (group_word table q) (i % 64) in
    let step = before-more (value_in table.groups) q in
    let rest = before-upto (value_in table.groups) (suc q) 64 (omega arith) in
    let all = table.laid_out.all in
    omega (arith, rank, step, rest, all)

pub overflow_add-result : goal.overflow_add-result
overflow_add-result g c =
    let table = c.args.self.now in
    let i = c.args.i in
    let most = at-most table i c.requires in
    let few = laid-few (value_in table.groups) (length table.items.items) table.laid_out in
    let start = c.start.ensures in
    let rank : c.rank.result ≡ rank_in (group_word table (i / 64)) (i % 64) = c.rank.ensures ∙ ap (λ w. rank_in w (i % 64)) c.word.ensures in
    omega (arith, most, few, start, rank)

pub returns-clause-rank : goal.returns-clause-rank
returns-clause-rank g c =
    let table = c.args.self.now in
    let i = c.args.i in
    let start = c.start.ensures in
    let rank : c.rank.result ≡ rank_in (group_word table (i / 64)) (i % 64) = c.rank.ensures ∙ ap (λ w. rank_in w (i % 64)) c.word.ensures in
    omega (arith, start, rank)

pub returns-clause-within : goal.returns-clause-within
returns-clause-within g c =
    let table = c.args.self.now in
    let i = c.args.i in
    let most = at-most table i c.requires in
    let start = c.start.ensures in
    let rank : c.rank.result ≡ rank_in (group_word table (i / 64)) (i % 64) = c.rank.ensures ∙ ap (λ w. rank_in w (i % 64)) c.word.ensures in
    omega (arith, most, start, rank)
