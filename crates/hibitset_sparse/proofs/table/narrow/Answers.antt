use Rattle.std.proofs.Common.{◌≡◌, ℕ, ◌+◌, ◌<◌, ◌==◌, true, false, Option, Some, None, refl, sym, ◌∙◌, ap, set, arith, length}
use Rattle.std.specs.Prelude.{◌≢◌, if◌then◌else◌, option_map}
use Rattle.std.specs.Int.{bit_at}
use Rattle.std.specs.List.{slice_get}
use Rattle.std.proofs.lemmas.Option.{slice_get_read}
use Rattle.hibitset_base.specs.Decisions.{eq_other, eq_same}
use Rattle.hibitset_sparse.specs.Layout.{AreMovedUp, moved_up, word_or_none}
use Rattle.hibitset_sparse.specs.Rank.{IsSetAt, rank_in, value_from}
use Rattle.hibitset_sparse.specs.PackedArray.{value_in}
use Rattle.hibitset_sparse.specs.declared.group.Group.{Group}
use Rattle.hibitset_sparse.proofs.LayoutLemmas.{narrowed-from, written-over}
use Rattle.hibitset_sparse.proofs.RankLemmas.{rank-within}
use Rattle.hibitset_sparse.proofs.PackedArrayLemmas.{one-is-set, value-on}
use Rattle.hibitset_sparse.proofs.WordLemmas.{can-move-down, word-on}
use Rattle.hibitset_sparse.proofs.table.narrow.Goals as goal

pub move_down-requires : goal.move_down-requires
move_down-requires c = λ k g from is. let rank = c.rank-k.ensures in can-move-down c.args.groups.now c.args.q c.requires.can_lower k g (omega (arith, from, rank)) is

-- by the test of one place
at-q : (q : ℕ) (x y : Option Group) (v : Option Group) → v ≡ (if q == q then x else y) → v ≡ x
at-q q x y v e = e ∙ (let same : (q == q) ≡ true = eq_same q q refl in rw same refl)

beside-q : (p q : ℕ) (x y : Option Group) (v : Option Group) → p ≢ q → v ≡ (if p == q then x else y) → v ≡ y
beside-q p q x y v other e = e ∙ (let no : (p == q) ≡ false = eq_other p q other in rw no refl)

pub returns-then-word-eq0-clause-narrower : goal.returns-then-word-eq0-clause-narrower
returns-then-word-eq0-clause-narrower c =
    let row = c.args.groups.now in
    let q : ℕ = c.args.q in
    let root : bit_at row.word q ≡ 1 = word-on row q c.args.bit c.requires.on in
    let inside = rank-within row.word q root in
    let counted = row.counted in
    let rank = c.rank-k.ensures in
    let within : c.rank-k.result < length row.items.items = omega (arith, inside, counted, rank) in
    let of : Group = c.index-group.result.now in
    let there : slice_get row.items.items c.rank-k.result ≡ Some of = slice_get_read row.items.items (length row.items.items) c.rank-k.result of (omega arith) within c.index-group.ensures in
    let is : value_in row q ≡ Some of = value-on (slice_get row.items.items) row.word q (one-is-set row.word q root) ∙ (ap (slice_get row.items.items) (sym rank) ∙ there) in
    let bit = c.with_bit-word.ensures in
    let on : bit_at of.word c.args.bit ≡ 1 = sym (ap (λ o. bit_at (word_or_none o) c.args.bit) is) ∙ c.requires.on in
    let set_at : IsSetAt of.word c.with_bit-word.result c.args.bit = record { within = c.requires.bit; clear = bit.here; set = on; same = λ j small other. sym (bit.same j small other) } in
    let next : c.rank-k.result + 1 ≡ rank_in row.word q + 1 = ap (λ k. k + 1) rank in
    let moved : AreMovedUp (rank_in row.word q + 1) c.move_down.new.groups.items row.items.items = rw next at c.move_down.ensures.moved in
    let from = narrowed-from row.word q row.items.items c.move_down.new.groups.items root moved in
    let put = c.remove-group.ensures.put in
    let low = c.requires.group in
    record {
      of = of;
      is = is;
      word = c.with_bit-word.result;
      fits = omega arith;
      set = set_at;
      here = λ some. absurd (let zero_word = c.if-word-eq0.true in omega (arith, some, zero_word));
      gone = λ none. at-q q None _ _ (put q low);
      before = λ p less. beside-q p q None _ _ (λ e. absurd (omega arith)) (put p (omega arith)) ∙ from.0 p less;
      after = λ p more small. from.1 p more ∙ ap (option_map moved_up) (sym (beside-q p q None _ _ (λ e. absurd (omega arith)) (put p small)));
    }

pub index_mut-requires : goal.index_mut-requires
index_mut-requires c =
    let row = c.args.groups.now in
    let root : bit_at row.word c.args.q ≡ 1 = word-on row c.args.q c.args.bit c.requires.on in
    let inside = rank-within row.word c.args.q root in
    let counted = row.counted in
    let rank = c.rank-k.ensures in
    let long = c.move_down.ensures.length in
    omega (arith, inside, counted, rank, long, c.move_down.new.groups.ok.0)

pub returns-clause-narrower : goal.returns-clause-narrower
returns-clause-narrower c =
    let row = c.args.groups.now in
    let q : ℕ = c.args.q in
    let root : bit_at row.word q ≡ 1 = word-on row q c.args.bit c.requires.on in
    let inside = rank-within row.word q root in
    let counted = row.counted in
    let rank = c.rank-k.ensures in
    let within : c.rank-k.result < length row.items.items = omega (arith, inside, counted, rank) in
    let of : Group = c.index-group.result.now in
    let there : slice_get row.items.items c.rank-k.result ≡ Some of = slice_get_read row.items.items (length row.items.items) c.rank-k.result of (omega arith) within c.index-group.ensures in
    let is : value_in row q ≡ Some of = value-on (slice_get row.items.items) row.word q (one-is-set row.word q root) ∙ (ap (slice_get row.items.items) (sym rank) ∙ there) in
    let bit = c.with_bit-word.ensures in
    let on : bit_at of.word c.args.bit ≡ 1 = sym (ap (λ o. bit_at (word_or_none o) c.args.bit) is) ∙ c.requires.on in
    let set_at : IsSetAt of.word c.with_bit-word.result c.args.bit = record { within = c.requires.bit; clear = bit.here; set = on; same = λ j small other. sym (bit.same j small other) } in
    let next : c.rank-k.result + 1 ≡ rank_in row.word q + 1 = ap (λ k. k + 1) rank in
    let moved : AreMovedUp (rank_in row.word q + 1) c.move_down.new.groups.items row.items.items = rw next at c.move_down.ensures.moved in
    let from = narrowed-from row.word q row.items.items c.move_down.new.groups.items root moved in
    let x : Group = record { word = c.with_bit-word.result; start = of.start } in
    let mid = c.move_down.new.groups.items in
    let long = c.move_down.ensures.length in
    let within2 : rank_in row.word q < length mid = omega (arith, inside, counted, long) in
    let written = written-over row.word q mid x root within2 in
    let low = c.requires.group in
    let put : (p : ℕ) → p < 64 → value_from (slice_get (set mid c.rank-k.result x)) row.word p ≡ (if p == q then Some x else value_from (slice_get mid) row.word p) =
    λ p small. ap (λ k. value_from (slice_get (set mid k x)) row.word p) rank ∙ written p small in
    record {
      of = of;
      is = is;
      word = c.with_bit-word.result;
      fits = omega arith;
      set = set_at;
      here = λ some. at-q q (Some x) _ _ (put q low);
      gone = λ none. absurd (let other = c.if-word-eq0.false in other none);
      before = λ p less. beside-q p q (Some x) _ _ (λ e. absurd (omega arith)) (put p (omega arith)) ∙ from.0 p less;
      after = λ p more small. from.1 p more ∙ ap (option_map moved_up) (sym (beside-q p q (Some x) _ _ (λ e. absurd (omega arith)) (put p small)));
    }

pub returns-then-word-eq0-clause-capacity : goal.returns-then-word-eq0-clause-capacity
returns-then-word-eq0-clause-capacity c = λ n room. c.remove-group.ensures.capacity n (rw (c.move_down.ensures.length, c.move_down.ensures.capacity) room)
