use Rattle.std.proofs.Common.{◌≡◌, ℕ, ◌+◌, ◌^◌, ◌<◌, ◌==◌, true, false, Option, Some, refl, sym, ◌∙◌, ap, arith, inl, inr}
use Rattle.std.proofs.lemmas.Bool.{false≢true}
use Rattle.std.proofs.lemmas.Option.{same_Some}
use Rattle.hibitset_base.proofs.OneCountLemmas.{few_ones}
use Rattle.hibitset_base.specs.Decisions.{eq_other, eq_same, same_or_not}
use Rattle.hibitset_sparse.specs.Layout.{AreMovedUp, HaveRoom, IsPutAt}
use Rattle.hibitset_sparse.specs.Rank.{rank_in}
use Rattle.hibitset_sparse.specs.PackedArray.{value_in}
use Rattle.hibitset_sparse.specs.declared.group.Group.{Group}
use Rattle.hibitset_sparse.proofs.LayoutLemmas.{widened-from}
use Rattle.hibitset_sparse.proofs.RankLemmas.{rank-most}
use Rattle.hibitset_sparse.proofs.WordLemmas.{can-move}
use Rattle.hibitset_sparse.proofs.table.widen.Goals as goal

-- there is room after one group was put in
put-room : (q bit start : ℕ) (old new : ℕ → Option Group) → IsPutAt q bit start old new → HaveRoom old → start + 1 < 2 ^ 64 → HaveRoom new
put-room q bit start old new is room fits p g low some = elim (same_or_not p q) [
  | inl same ↦
      let yes : (p == q) ≡ true = eq_same p q same in
      let here : new p ≡ Some (record { word = is.word; start = start }) = is.put p low ∙ rw yes refl in
      let g-is : record { word = is.word; start = start } ≡ g = same_Some (record { word = is.word; start = start }) g (sym here ∙ some) in
      let start-is : start ≡ g.start = ap (λ h. h.start) g-is in
      omega (arith, start-is, fits)
  | inr other ↦
      let no : (p == q) ≡ false = eq_other p q other in
      let here : new p ≡ old p = is.put p low ∙ rw no refl in
      room p g low (sym here ∙ some)
]

pub move_up-requires : goal.move_up-requires
move_up-requires c =
    let groups = c.set_place.new.groups in
    can-move groups (put-room c.args.q c.args.bit c.args.start (value_in c.args.groups.now) (value_in groups) c.in_ok-set_place.ensures.put c.requires.have_room c.requires.fits)

pub overflow_add-next : goal.overflow_add-next
overflow_add-next c =
    let groups = c.set_place.new.groups in
    let few = few_ones groups.word groups.fits in
    let most = rank-most groups.word c.args.q in
    let rank = c.rank-next.ensures in
    omega (arith, few, most, rank)

pub returns-in_err-set_place-clause-succeeds : goal.returns-in_err-set_place-clause-succeeds
returns-in_err-set_place-clause-succeeds c = λ n room. let put = c.in_err-set_place.ensures.succeeds n room in absurd (false≢true put.0)

pub returns-clause-succeeds : goal.returns-clause-succeeds
returns-clause-succeeds c = λ n room.
    let put = c.in_ok-set_place.ensures.succeeds n room in
    (refl, rw (c.move_up.ensures.length, c.move_up.ensures.capacity) put.1)

pub returns-clause-wider : goal.returns-clause-wider
returns-clause-wider c =
    let groups = c.set_place.new.groups in
    let is = c.in_ok-set_place.ensures.put in
    let next : c.rank-next.result + 1 ≡ rank_in groups.word c.args.q + 1 = ap (λ k. k + 1) c.rank-next.ensures in
    let moved : AreMovedUp (rank_in groups.word c.args.q + 1) groups.items.items c.move_up.new.groups.items = rw next at c.move_up.ensures.moved in
    record {
      word = is.word;
      fits = is.fits;
      set = is.set;
      wider = widened-from groups.word c.args.q is.word c.args.start (value_in c.args.groups.now) groups.items.items c.move_up.new.groups.items c.in_ok-set_place.ensures.is_set c.requires.group is.put moved;
    }
