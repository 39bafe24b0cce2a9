use Rattle.std.proofs.Common.{arith}
use Rattle.hibitset_roaring.specs.declared.from_reader.TheConstants.{CHUNK}
use Rattle.hibitset_roaring.proofs.TransferLemmas.{all_given, consumes_none, gives_more, reads_on, too_many}
use Rattle.hibitset_roaring.proofs.from_reader.read_all.Goals as goal

pub rounds-init : goal.rounds-init
rounds-init g c = record {
  given = rw c.new-input.ensures.items (consumes_none (g.R.Read.remaining c.args.reader.now));
  few = rw c.new-input.ensures.items (omega arith);
}

pub returns-in_err-read_some-clause-reads_front : goal.returns-in_err-read_some-clause-reads_front
returns-in_err-read_some-clause-reads_front g c =
    gives_more (g.R.Read.remaining c.args.reader.now) (g.R.Read.remaining c.rounds.reader) (g.R.Read.remaining c.read_some.new.reader) c.rounds.input.items c.args.most CHUNK c.rounds.invariant.given c.rounds.invariant.few c.in_err-read_some.ensures.reads_front

pub returns-then-branch-clause-bytes : goal.returns-then-branch-clause-bytes
returns-then-branch-clause-bytes g c =
    let now = g.R.Read.remaining c.read_some.new.reader in
    let all = reads_on (g.R.Read.remaining c.args.reader.now) (g.R.Read.remaining c.rounds.reader) now c.rounds.input.items c.read_some.new.input.items c.rounds.invariant.given c.in_ok-read_some.ensures.bytes in
    all_given (g.R.Read.remaining c.args.reader.now) now c.read_some.new.input.items all (c.in_ok-read_some.ensures.end c.if-branch.true)

pub returns-then-branch-clause-reads_front : goal.returns-then-branch-clause-reads_front
returns-then-branch-clause-reads_front g c =
    gives_more (g.R.Read.remaining c.args.reader.now) (g.R.Read.remaining c.rounds.reader) (g.R.Read.remaining c.read_some.new.reader) c.rounds.input.items c.args.most CHUNK c.rounds.invariant.given c.rounds.invariant.few c.in_ok-read_some.ensures.reads_front

pub returns-then-len-most-clause-reason : goal.returns-then-len-most-clause-reason
returns-then-len-most-clause-reason g c =
    let now = g.R.Read.remaining c.read_some.new.reader in
    let all = reads_on (g.R.Read.remaining c.args.reader.now) (g.R.Read.remaining c.rounds.reader) now c.rounds.input.items c.read_some.new.input.items c.rounds.invariant.given c.in_ok-read_some.ensures.bytes in
    too_many (g.R.Read.remaining c.args.reader.now) now c.read_some.new.input.items c.args.most all (let l = c.len.ensures in let o = c.read_some.new.input.ok in let t = c.if-len-most.true in omega (arith, l, o, t))

pub returns-then-len-most-clause-reads_front : goal.returns-then-len-most-clause-reads_front
returns-then-len-most-clause-reads_front g c =
    gives_more (g.R.Read.remaining c.args.reader.now) (g.R.Read.remaining c.rounds.reader) (g.R.Read.remaining c.read_some.new.reader) c.rounds.input.items c.args.most CHUNK c.rounds.invariant.given c.rounds.invariant.few c.in_ok-read_some.ensures.reads_front

pub rounds-preserved : goal.rounds-preserved
rounds-preserved g c = record {
  given = reads_on (g.R.Read.remaining c.args.reader.now) (g.R.Read.remaining c.rounds.reader) (g.R.Read.remaining c.read_some.new.reader) c.rounds.input.items c.read_some.new.input.items c.rounds.invariant.given c.in_ok-read_some.ensures.bytes;
  few = (let l = c.len.ensures in let o = c.read_some.new.input.ok in let t = c.if-len-most.false in omega (arith, l, o, t));
}

pub returns-clause-reads_front : goal.returns-clause-reads_front
returns-clause-reads_front g c = (c.rounds.input.items, c.rounds.invariant.given, (let few = c.rounds.invariant.few in omega (arith, few)))
