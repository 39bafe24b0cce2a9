use Rattle.std.proofs.Common.{◌∙◌, ap, max}
use Rattle.std.specs.Int.{bit_at}
use Rattle.std.specs.Prelude.{bit_or}
use Rattle.std.proofs.lemmas.Nat.Bits.{bit_at_or}
use Rattle.hibitset_sparse.specs.Table.{group_word}
use Rattle.hibitset_sparse.proofs.AppendLemmas.{TakesLowest}
use Rattle.hibitset_sparse.proofs.JoinLemmas.{covers-all, covers-first, covers-more}
use Rattle.hibitset_sparse.proofs.table.Table.covers.Goals as goal

pub groups-init : goal.groups-init
groups-init g c = covers-first c.args.self.now c.args.other.now

pub groups-preserved : goal.groups-preserved
groups-preserved g c =
    let bit = c.take_bit-q.ensures in
    let takes : TakesLowest c.groups.left c.take_bit-q.new.word c.take_bit-q.result = record {
      below = bit.in_word;
      stood = bit.bit_was_set;
      lowest = bit.lowest;
      gone = bit.bit_cleared;
      same = bit.same;
    } in
    covers-more c.args.self.now c.args.other.now c.groups.left c.take_bit-q.new.word c.take_bit-q.result (bit_or c.word.result c.word-word.result) takes
    (λ b. bit_at_or c.word.result c.word-word.result b
    ∙ (ap (λ w. max (bit_at w b) (bit_at c.word-word.result b)) c.word.ensures ∙ ap (λ w. max (bit_at (group_word c.args.other.now c.take_bit-q.result) b) (bit_at w b)) c.word-word.ensures))
    (c.if-word.false ∙ c.word-word.ensures) c.groups.invariant

pub returns : goal.returns
returns g c = λ yes. covers-all c.args.self.now c.args.other.now c.groups.left c.groups-test.false c.groups.invariant
