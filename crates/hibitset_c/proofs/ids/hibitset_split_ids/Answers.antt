use Rattle.std.proofs.Common.{◌%◌, ◌^◌, rules}
use Rattle.hibitset_c.proofs.BulkLemmas.{fills_first}
use Rattle.hibitset_c.proofs.ids.hibitset_split_ids.Goals as goal

pub returns-clause-lows : goal.returns-clause-lows
returns-clause-lows c =
    let now = c.loop-slot.invariant in
    fills_first (λ id. id % 2 ^ c.args.bits) c.args.ids.now c.args.lows.now c.loop-slot.lows c.min-count.result (search rules) (search rules) (search rules) now.lows_length
