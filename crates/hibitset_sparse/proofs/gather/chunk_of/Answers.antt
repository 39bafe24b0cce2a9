use Rattle.std.proofs.Common.{◌≡◌, ◌/◌, ◌%◌, length, sym, ◌∙◌, ap, arith}
use Rattle.std.specs.Int.{bit_at}
use Rattle.std.specs.List.{slice_get}
use Rattle.std.proofs.lemmas.Nat.Bits.{bit_at-zero}
use Rattle.hibitset_sparse.specs.PackedArray.{value_in}
use Rattle.hibitset_sparse.specs.Rank.{value_from}
use Rattle.hibitset_sparse.proofs.AppendLemmas.{TakesLowest, groups-first, group-made}
use Rattle.hibitset_sparse.proofs.LawfulWordLemmas.{holds-clear}
use Rattle.hibitset_sparse.proofs.gather.chunk_of.Goals as goal

pub groups-init : goal.groups-init
groups-init g c =
    let word = g.S.BitSetLike.word c.args.set.now in
    let empty : length c.reserve-2.new.self.items ≡ length c.new-items.result.items = ap length c.reserve-2.ensures.items in
    groups-first c.layer2-left.result (value_in c.reserve.new.self) c.reserve-2.new.self.items _
    (let none = c.new-items.ensures.len in omega (arith, none, empty, c.new-items.result.ok.0))
    (λ p. ap (λ w. value_from (slice_get c.reserve.new.self.items.items) w p) c.reserve.ensures.word
    ∙ (ap (λ xs. value_from (slice_get xs) c.new-groups.result.word p) c.reserve.ensures.items ∙ c.new-groups.ensures.empty p))
    (λ p low off b few. holds-clear (g.S.BitSetLike.holds c.args.set.now) word (g.met.S.BitSetLike.lawful c.args.set.now) c.args.c p b c.requires low few
    (ap (λ w. bit_at w (p / 64)) (sym c.layer2-left.ensures) ∙ off))

pub groups-preserved : goal.groups-preserved
groups-preserved g c =
    let word = g.S.BitSetLike.word c.args.set.now in
    let bit = c.take_bit-q.ensures in
    let made = c.in_ok-push_group.ensures in
    let takes : TakesLowest c.groups.left c.take_bit-q.new.word c.take_bit-q.result = record {
      below = bit.in_word;
      stood = bit.bit_was_set;
      lowest = bit.lowest;
      gone = bit.bit_cleared;
      same = bit.same;
    } in
    group-made c.groups.left c.take_bit-q.new.word c.take_bit-q.result (value_in c.groups.groups) c.groups.items.items _ takes c.groups.invariant
    (value_in c.push_group.new.groups) c.push_group.new.items.items made.made
    (λ p low here b few. made.pushed p b low here few ∙ ap (g.S.BitSetLike.holds c.args.set.now) (omega (arith, here)))
    made.others

pub returns : goal.returns
returns g c = λ i low.
    let clear : bit_at c.groups.left (i / 64 / 64) ≡ 0 = ap (λ w. bit_at w (i / 64 / 64)) c.groups-test.false ∙ bit_at-zero (i / 64 / 64) in
    c.groups.invariant.done (i / 64) (omega arith) clear (i % 64) (omega arith) ∙ ap (g.S.BitSetLike.holds c.args.set.now) (omega arith)
