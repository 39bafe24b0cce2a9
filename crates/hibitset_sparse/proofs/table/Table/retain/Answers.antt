use Rattle.std.proofs.Common.{◌≡◌, ◌<◌, length, set, take, Some, refl, sym, ◌∙◌, ap, subst, arith}
use Rattle.std.specs.List.{slice_get}
use Rattle.std.proofs.Math.ListN.{length-set}
use Rattle.std.proofs.lemmas.Option.{slice_get_read}
use Rattle.hibitset_sparse.specs.Layout.{AreLaidOut, value_of_place}
use Rattle.hibitset_sparse.specs.Rank.{rank_in, value_from}
use Rattle.hibitset_sparse.specs.Retain.{LeavesOf}
use Rattle.hibitset_sparse.specs.Table.{value_at}
use Rattle.hibitset_sparse.proofs.AppendLemmas.{TakesLowest}
use Rattle.hibitset_sparse.proofs.EditLemmas.{get-set_at, get-set_other}
use Rattle.hibitset_sparse.proofs.RankLemmas.{rank-within}
use Rattle.hibitset_sparse.proofs.RetainLemmas.{at-upto, cut-laid, cut-values, group-gone, group-kept, groups-retain-first, masked-off, masked-on, retain-order, retain-within}
use Rattle.hibitset_sparse.proofs.table.Table.retain.Goals as goal

pub groups-init : goal.groups-init
groups-init g c =
    let word = c.args.self.groups.word in
    let mask = c.groups-2.result in
    groups-retain-first (g.G.GroupChange.leaves c.args.by.now) c.args.self.groups.word c.args.self.groups.items.items c.args.self.items.items _ (λ q small on. masked-on word mask q on)
    (λ q b x low small off on. c.groups-2.ensures q b x low small (masked-off word mask q off on))

pub index-group-requires : goal.index-group-requires
index-group-requires g c =
    let bit = c.take_bit-q.ensures in
    let takes : TakesLowest c.groups.left c.take_bit-q.new.word c.take_bit-q.result = record {
      below = bit.in_word;
      stood = bit.bit_was_set;
      lowest = bit.lowest;
      gone = bit.bit_cleared;
      same = bit.same;
    } in
    let row = c.args.self.groups in
    let list = c.groups.list.items in
    let on = c.groups.invariant.groups.part c.take_bit-q.result bit.in_word bit.bit_was_set in
    let ranked = rank-within row.word c.take_bit-q.result on in
    let rank = c.rank.ensures in
    let counted = row.counted in
    let long = c.groups.invariant.groups.long in
    let inside : rank_in row.word c.take_bit-q.result < length list = omega (arith, ranked, counted, long) in
    omega (arith, inside, rank, c.groups.list.ok.0)

pub retain_group-word-requires-clause-order : goal.retain_group-word-requires-clause-order
retain_group-word-requires-clause-order g c =
    let bit = c.take_bit-q.ensures in
    let takes : TakesLowest c.groups.left c.take_bit-q.new.word c.take_bit-q.result = record {
      below = bit.in_word;
      stood = bit.bit_was_set;
      lowest = bit.lowest;
      gone = bit.bit_cleared;
      same = bit.same;
    } in
    let row = c.args.self.groups in
    let list = c.groups.list.items in
    let on = c.groups.invariant.groups.part c.take_bit-q.result bit.in_word bit.bit_was_set in
    let ranked = rank-within row.word c.take_bit-q.result on in
    let rank = c.rank.ensures in
    let counted = row.counted in
    let long = c.groups.invariant.groups.long in
    let inside : rank_in row.word c.take_bit-q.result < length list = omega (arith, ranked, counted, long) in
    let read : slice_get list (rank_in row.word c.take_bit-q.result) ≡ Some c.index-group.result.now =
    ap (slice_get list) (sym rank) ∙ slice_get_read list (length list) c.rank.result c.index-group.result.now refl (omega (arith, inside, rank)) c.index-group.ensures in
    retain-order (g.G.GroupChange.leaves c.args.by.now) c.args.self.groups.word c.args.self.groups.items.items c.args.self.items.items c.args.self.laid_out c.groups.left c.take_bit-q.new.word c.take_bit-q.result c.groups.root c.groups.at c.groups.to list c.groups.items.items takes c.groups.invariant c.index-group.result.now read

pub retain_group-word-requires-clause-within : goal.retain_group-word-requires-clause-within
retain_group-word-requires-clause-within g c =
    let bit = c.take_bit-q.ensures in
    let takes : TakesLowest c.groups.left c.take_bit-q.new.word c.take_bit-q.result = record {
      below = bit.in_word;
      stood = bit.bit_was_set;
      lowest = bit.lowest;
      gone = bit.bit_cleared;
      same = bit.same;
    } in
    let row = c.args.self.groups in
    let list = c.groups.list.items in
    let on = c.groups.invariant.groups.part c.take_bit-q.result bit.in_word bit.bit_was_set in
    let ranked = rank-within row.word c.take_bit-q.result on in
    let rank = c.rank.ensures in
    let counted = row.counted in
    let long = c.groups.invariant.groups.long in
    let inside : rank_in row.word c.take_bit-q.result < length list = omega (arith, ranked, counted, long) in
    let read : slice_get list (rank_in row.word c.take_bit-q.result) ≡ Some c.index-group.result.now =
    ap (slice_get list) (sym rank) ∙ slice_get_read list (length list) c.rank.result c.index-group.result.now refl (omega (arith, inside, rank)) c.index-group.ensures in
    retain-within (g.G.GroupChange.leaves c.args.by.now) c.args.self.groups.word c.args.self.groups.items.items c.args.self.items.items c.args.self.laid_out c.groups.left c.take_bit-q.new.word c.take_bit-q.result c.groups.root c.groups.at c.groups.to list c.groups.items.items takes c.groups.invariant c.index-group.result.now read

pub index_mut-requires : goal.index_mut-requires
index_mut-requires g c =
    let bit = c.take_bit-q.ensures in
    let takes : TakesLowest c.groups.left c.take_bit-q.new.word c.take_bit-q.result = record {
      below = bit.in_word;
      stood = bit.bit_was_set;
      lowest = bit.lowest;
      gone = bit.bit_cleared;
      same = bit.same;
    } in
    let row = c.args.self.groups in
    let list = c.groups.list.items in
    let on = c.groups.invariant.groups.part c.take_bit-q.result bit.in_word bit.bit_was_set in
    let ranked = rank-within row.word c.take_bit-q.result on in
    let rank = c.rank.ensures in
    let counted = row.counted in
    let long = c.groups.invariant.groups.long in
    let inside : rank_in row.word c.take_bit-q.result < length list = omega (arith, ranked, counted, long) in
    let upto = at-upto (λ p h o. Unit {0}) row.word 0 0 row.items.items (omega arith) c.groups.left c.take_bit-q.new.word c.take_bit-q.result c.groups.root c.groups.at list takes c.groups.invariant.groups in
    omega (arith, inside, upto, c.groups.list.ok.0)

pub groups-preserved-then-word-ne0 : goal.groups-preserved-then-word-ne0
groups-preserved-then-word-ne0 g c =
    let bit = c.take_bit-q.ensures in
    let takes : TakesLowest c.groups.left c.take_bit-q.new.word c.take_bit-q.result = record {
      below = bit.in_word;
      stood = bit.bit_was_set;
      lowest = bit.lowest;
      gone = bit.bit_cleared;
      same = bit.same;
    } in
    let row = c.args.self.groups in
    let list = c.groups.list.items in
    let on = c.groups.invariant.groups.part c.take_bit-q.result bit.in_word bit.bit_was_set in
    let ranked = rank-within row.word c.take_bit-q.result on in
    let rank = c.rank.ensures in
    let counted = row.counted in
    let long = c.groups.invariant.groups.long in
    let inside : rank_in row.word c.take_bit-q.result < length list = omega (arith, ranked, counted, long) in
    let read : slice_get list (rank_in row.word c.take_bit-q.result) ≡ Some c.index-group.result.now =
    ap (slice_get list) (sym rank) ∙ slice_get_read list (length list) c.rank.result c.index-group.result.now refl (omega (arith, inside, rank)) c.index-group.ensures in
    let upto = at-upto (λ p h o. Unit {0}) row.word 0 0 row.items.items (omega arith) c.groups.left c.take_bit-q.new.word c.take_bit-q.result c.groups.root c.groups.at list takes c.groups.invariant.groups in
    let some : 0 < c.retain_group-word.result = (let other = c.if-word-ne0.true in omega (arith, other)) in
    group-kept (g.G.GroupChange.leaves c.args.by.now) c.args.self.groups.word c.args.self.groups.items.items c.args.self.items.items c.args.self.laid_out c.groups.left c.take_bit-q.new.word c.take_bit-q.result c.groups.root c.groups.at c.groups.to list c.groups.items.items takes c.groups.invariant c.index-group.result.now read c.retain_group-word.result c.retain_group-word.new.items.items c.retain_group-word.ensures
    c.with_bit-root.result (set list c.groups.at (record { word = c.retain_group-word.result; start = c.groups.to })) some (omega arith) (omega arith) c.with_bit-root.ensures.here c.with_bit-root.ensures.same
    (get-set_at list c.groups.at (record { word = c.retain_group-word.result; start = c.groups.to }) (omega (arith, inside, upto)))
    (λ k apart. get-set_other list c.groups.at (record { word = c.retain_group-word.result; start = c.groups.to }) k apart)
    (length-set list c.groups.at (record { word = c.retain_group-word.result; start = c.groups.to }))

pub groups-preserved : goal.groups-preserved
groups-preserved g c =
    let bit = c.take_bit-q.ensures in
    let takes : TakesLowest c.groups.left c.take_bit-q.new.word c.take_bit-q.result = record {
      below = bit.in_word;
      stood = bit.bit_was_set;
      lowest = bit.lowest;
      gone = bit.bit_cleared;
      same = bit.same;
    } in
    let row = c.args.self.groups in
    let list = c.groups.list.items in
    let on = c.groups.invariant.groups.part c.take_bit-q.result bit.in_word bit.bit_was_set in
    let ranked = rank-within row.word c.take_bit-q.result on in
    let rank = c.rank.ensures in
    let counted = row.counted in
    let long = c.groups.invariant.groups.long in
    let inside : rank_in row.word c.take_bit-q.result < length list = omega (arith, ranked, counted, long) in
    let read : slice_get list (rank_in row.word c.take_bit-q.result) ≡ Some c.index-group.result.now =
    ap (slice_get list) (sym rank) ∙ slice_get_read list (length list) c.rank.result c.index-group.result.now refl (omega (arith, inside, rank)) c.index-group.ensures in
    group-gone (g.G.GroupChange.leaves c.args.by.now) c.args.self.groups.word c.args.self.groups.items.items c.args.self.items.items c.args.self.laid_out c.groups.left c.take_bit-q.new.word c.take_bit-q.result c.groups.root c.groups.at c.groups.to list c.groups.items.items takes c.groups.invariant c.index-group.result.now read c.retain_group-word.result c.retain_group-word.new.items.items c.retain_group-word.ensures c.if-word-ne0.false

pub invariant_of-result-2 : goal.invariant_of-result-2
invariant_of-result-2 g c = record {
  laid_out = subst (λ xs. AreLaidOut (value_from (slice_get xs) c.groups.root) (length c.truncate-2.new.self.items)) (sym c.truncate.ensures.items)
      (subst (λ ys. AreLaidOut (value_from (slice_get (take c.groups.at c.groups.list.items)) c.groups.root) (length ys)) (sym c.truncate-2.ensures.items)
      (cut-laid (g.G.GroupChange.leaves c.args.by.now) c.args.self.groups.word c.args.self.groups.items.items c.args.self.items.items c.groups.left c.groups.root c.groups.at c.groups.to c.groups.list.items c.groups.items.items c.groups-test.false c.groups.invariant));
}

pub returns : goal.returns
returns g c = λ i low.
    subst (λ xs. LeavesOf (g.G.GroupChange.leaves c.args.by.now i) (value_at c.args.self i) (value_of_place (value_from (slice_get xs) c.groups.root) c.truncate-2.new.self.items i))
    (sym c.truncate.ensures.items)
    (subst (λ ys. LeavesOf (g.G.GroupChange.leaves c.args.by.now i) (value_at c.args.self i)
    (value_of_place (value_from (slice_get (take c.groups.at c.groups.list.items)) c.groups.root) ys i)) (sym c.truncate-2.ensures.items)
    (cut-values (g.G.GroupChange.leaves c.args.by.now) c.args.self.groups.word c.args.self.groups.items.items c.args.self.items.items c.groups.left c.groups.root c.groups.at c.groups.to c.groups.list.items c.groups.items.items c.groups-test.false c.groups.invariant i low))
