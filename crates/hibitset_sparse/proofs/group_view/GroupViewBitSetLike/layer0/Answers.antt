use Rattle.std.proofs.Common.{◌≡◌, ◌+◌, ◌≤◌, length, Some, sym, ◌∙◌, ap, arith}
use Rattle.std.specs.List.{slice_get}
use Rattle.std.proofs.lemmas.Option.{slice_get_read}
use Rattle.std.proofs.lemmas.Grind.{common_steps}
use Rattle.hibitset_sparse.specs.Rank.{rank_in}
use Rattle.hibitset_sparse.proofs.RankLemmas.{rank-most}
use Rattle.hibitset_sparse.proofs.GroupViewLemmas.{read-on, read-off, read-past}
use Rattle.hibitset_sparse.proofs.group_view.GroupViewBitSetLike.layer0.Goals as goal
use Rattle.hibitset_sparse.proofs.group_view.GroupViewBitSetLike.layer0.Goals.{in-Some, in_default, in_default-via-in-Some+else-is_set, in_default-via-in_default}

pub overflow_add-at : goal.overflow_add-at
overflow_add-at c =
    let most = rank-most c.args.self.now.word c.args.i in
    let within = c.args.self.now.within in
    let is = c.rank.ensures in
    omega (arith, most, within, is)

pub returns : goal.returns
returns c =
    let view = c.args.self.now in
    let small = c.if-i-ge64.false in
    let at : view.start + c.rank.result ≡ view.start + rank_in view.word c.args.i = ap (λ r. view.start + r) c.rank.ensures in
    elim c.match-get.branch [
      | in-Some w ↦
          let lookup = rw w.in-Some.is at c.get.ensures.lookup in
          let found : slice_get view.items.now (view.start + c.rank.result) ≡ Some w.in-Some.value.now = grind (arith, common_steps, lookup, slice_get_read) in
          ap (λ r. r.now) w.source-is ∙ read-on view.items.now view.start view.word c.args.i w.in-Some.value.now (omega (arith, small))
          (sym w.is_set.ensures ∙ w.if-is_set.true) (sym (ap (slice_get view.items.now) at) ∙ found)
      | in_default w ↦ elim w.in_default.branch [
        | in_default-via-in-Some+else-is_set v ↦ ap (λ r. r.now) w.source-is
            ∙ read-off view.items.now view.start view.word c.args.i (omega (arith, small)) (sym v.is_set.ensures ∙ v.if-is_set.false)
        | in_default-via-in_default v ↦
            let lookup = rw v.in_default.is at c.get.ensures.lookup in
            let past : length view.items.now ≤ view.start + c.rank.result = lookup.3 in
            ap (λ r. r.now) w.source-is ∙ read-past view.items.now view.start view.word c.args.i (omega (arith, small)) (omega (arith, past, at))
      ]
    ]
