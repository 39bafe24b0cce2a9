use Rattle.std.proofs.Common.{length, sym}
use Rattle.std.proofs.lemmas.Bool.{eqb-true}
use Rattle.std.proofs.lemmas.List.{nil_from_length}
use Rattle.hibitset_base.proofs.MembershipLemmas.{OnErr-always}
use Rattle.hibitset_roaring.proofs.TransferLemmas.{moves_all, moves_front, moves_kept, moves_more, moves_none}
use Rattle.hibitset_roaring.proofs.to_writer.put_bytes.Goals as goal

pub rounds-init : goal.rounds-init
rounds-init g c = moves_none (g.W.Write.contents c.args.writer.now) c.args.bytes.now

pub returns-then-is_empty-clause-ok : goal.returns-then-is_empty-clause-ok
returns-then-is_empty-clause-ok g c =
    moves_all (g.W.Write.contents c.args.writer.now) (g.W.Write.contents c.rounds.writer) c.args.bytes.now c.rounds.rest.now c.rounds.invariant (nil_from_length c.rounds.rest.now (eqb-true (length c.rounds.rest.now) 0 (sym c.if-is_empty.ensures)))

pub returns-in_err-count-clause-err : goal.returns-in_err-count-clause-err
returns-in_err-count-clause-err g c =
    OnErr-always c.from_residual.result (moves_kept (g.W.Write.contents c.args.writer.now) (g.W.Write.contents c.rounds.writer) (g.W.Write.contents c.put_some.new.writer) c.args.bytes.now c.rounds.rest.now c.rounds.invariant c.in_err-count.ensures.written)

pub rounds-preserved : goal.rounds-preserved
rounds-preserved g c =
    moves_more (g.W.Write.contents c.args.writer.now) (g.W.Write.contents c.rounds.writer) (g.W.Write.contents c.put_some.new.writer) c.args.bytes.now c.rounds.rest.now c.in_ok-count.count c.rounds.invariant c.in_ok-count.ensures.written

pub returns-clause-err : goal.returns-clause-err
returns-clause-err g c = moves_front (g.W.Write.contents c.args.writer.now) (g.W.Write.contents c.rounds.writer) c.args.bytes.now c.rounds.rest.now c.rounds.invariant
