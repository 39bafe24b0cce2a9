use Rattle.std.proofs.Common.{◌≡◌, true, false, sym, ◌∙◌, arith}
use Rattle.std.proofs.lemmas.Bool.{both_ways}
use Rattle.hibitset_roaring.specs.Runs.{are_runs_shorter}
use Rattle.hibitset_roaring.proofs.RunPartLemmas.{bytes_as_runs, bytes_flat}
use Rattle.hibitset_roaring.proofs.encode_container.write_kind.Goals as goal

pub write_runs-requires-clause-long_enough : goal.write_runs-requires-clause-long_enough
write_runs-requires-clause-long_enough c =
    let on : are_runs_shorter c.args.runs c.args.count ≡ true = sym c.are_shorter.ensures.shorter ∙ c.if-are_shorter.true in
    let b = bytes_as_runs c.args.count c.args.runs on in
    let room = c.requires.long_enough in
    omega (arith, b, room)

pub write_runs-requires-clause-runs : goal.write_runs-requires-clause-runs
write_runs-requires-clause-runs c = c.requires.runs (sym c.are_shorter.ensures.shorter ∙ c.if-are_shorter.true)

pub write_runs-requires-clause-in_range : goal.write_runs-requires-clause-in_range
write_runs-requires-clause-in_range c = (let f = c.are_shorter.ensures.runs_max c.if-are_shorter.true in omega (arith, f))

pub write_flat-requires-clause-long_enough : goal.write_flat-requires-clause-long_enough
write_flat-requires-clause-long_enough c =
    let off : are_runs_shorter c.args.runs c.args.count ≡ false = sym c.are_shorter.ensures.shorter ∙ c.if-are_shorter.false in
    let b = bytes_flat c.args.count c.args.runs off in
    let room = c.requires.long_enough in
    omega (arith, b, room)

pub returns-then-are_shorter-clause-written : goal.returns-then-are_shorter-clause-written
returns-then-are_shorter-clause-written c =
    let on : are_runs_shorter c.args.runs c.args.count ≡ true = sym c.are_shorter.ensures.shorter ∙ c.if-are_shorter.true in
    record {
      flat = λ off. absurd (both_ways (are_runs_shorter c.args.runs c.args.count) off on);
      as_runs = λ _. c.write_runs.ensures.written;
    }

pub returns-else-are_shorter-clause-written : goal.returns-else-are_shorter-clause-written
returns-else-are_shorter-clause-written c =
    let off : are_runs_shorter c.args.runs c.args.count ≡ false = sym c.are_shorter.ensures.shorter ∙ c.if-are_shorter.false in
    record {
      flat = λ _. c.write_flat.ensures.written;
      as_runs = λ on. absurd (both_ways (are_runs_shorter c.args.runs c.args.count) off on);
    }
