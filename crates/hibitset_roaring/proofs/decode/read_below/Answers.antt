use Rattle.std.proofs.Common.{rules}
use Rattle.hibitset_roaring.proofs.FaultLemmas.{not_stream, only_memory}
use Rattle.hibitset_roaring.proofs.decode.read_below.Goals as goal

pub returns-in_err-header-clause-accepts : goal.returns-in_err-header-clause-accepts
returns-in_err-header-clause-accepts c = λ stream below.
    let m = c.in_err-header.field-0.0 in
    absurd (not_stream c.args.bytes.now c.args.end stream below m.fault m.at c.in_err-header.ensures.fault)

pub returns-in_err-read_containers-clause-reason : goal.returns-in_err-read_containers-clause-reason
returns-in_err-read_containers-clause-reason c = let reason = c.in_err-read_containers.ensures.reason c.args.end in search (rules, reason)

pub returns-in_err-read_containers-clause-accepts : goal.returns-in_err-read_containers-clause-accepts
returns-in_err-read_containers-clause-accepts c = λ stream below.
    let error = c.in_err-read_containers.field-0.0 in
    let memory = only_memory c.args.bytes.now c.args.end stream below error (c.in_err-read_containers.ensures.reason c.args.end) in
    search (rules, memory)
