use Rattle.std.proofs.Common.{refl, arith, inl}
use Rattle.hibitset_roaring.proofs.HeaderLemmas.{reckoned_keys, reckoned_offsets, reckoned_first, flags_within, fields_within, offsets_within}
use Rattle.hibitset_roaring.proofs.header.Header.read.Goals as goal

pub returns-then-bytes-first-clause-fault : goal.returns-then-bytes-first-clause-fault
returns-then-bytes-first-clause-fault c = λ end.
    let is = reckoned_first c.args.bytes.now c.in_ok-runs.runs c.in_ok-runs.count c.keys_after-keys.result c.offsets_are-offsets.result c.first_after-first.result c.in_ok-runs.ensures.runs c.in_ok-runs.ensures.count c.keys_after-keys.ensures c.offsets_are-offsets.ensures c.first_after-first.ensures in
    let less = c.if-bytes-first.true in
    inl (refl, omega (arith, is, less))

pub returns-clause-header : goal.returns-clause-header
returns-clause-header c =
    let within = c.if-bytes-first.false in
    let fields = fields_within c.args.bytes.now c.in_ok-runs.runs c.in_ok-runs.count c.keys_after-keys.result c.offsets_are-offsets.result c.first_after-first.result c.in_ok-runs.ensures.runs c.in_ok-runs.ensures.count c.keys_after-keys.ensures c.offsets_are-offsets.ensures c.first_after-first.ensures in
    record {
      cookie = c.in_ok-runs.ensures.cookie;
      runs_is = c.in_ok-runs.ensures.runs;
      count_is = c.in_ok-runs.ensures.count;
      keys_is = reckoned_keys c.args.bytes.now c.in_ok-runs.runs c.in_ok-runs.count c.keys_after-keys.result c.offsets_are-offsets.result c.first_after-first.result c.in_ok-runs.ensures.runs c.in_ok-runs.ensures.count c.keys_after-keys.ensures c.offsets_are-offsets.ensures c.first_after-first.ensures;
      offsets_is = reckoned_offsets c.args.bytes.now c.in_ok-runs.runs c.in_ok-runs.count c.keys_after-keys.result c.offsets_are-offsets.result c.first_after-first.result c.in_ok-runs.ensures.runs c.in_ok-runs.ensures.count c.keys_after-keys.ensures c.offsets_are-offsets.ensures c.first_after-first.ensures;
      first_is = reckoned_first c.args.bytes.now c.in_ok-runs.runs c.in_ok-runs.count c.keys_after-keys.result c.offsets_are-offsets.result c.first_after-first.result c.in_ok-runs.ensures.runs c.in_ok-runs.ensures.count c.keys_after-keys.ensures c.offsets_are-offsets.ensures c.first_after-first.ensures;
      few = c.in_ok-runs.ensures.max;
      within = within;
      flags = λ yes. (let f = flags_within c.args.bytes.now c.in_ok-runs.runs c.in_ok-runs.count c.keys_after-keys.result c.offsets_are-offsets.result c.first_after-first.result c.in_ok-runs.ensures.runs c.in_ok-runs.ensures.count c.keys_after-keys.ensures c.offsets_are-offsets.ensures c.first_after-first.ensures yes in omega (arith, f, within));
      fields = omega (arith, fields, within);
      offsets_fit = λ yes. (let f = offsets_within c.args.bytes.now c.in_ok-runs.runs c.in_ok-runs.count c.keys_after-keys.result c.offsets_are-offsets.result c.first_after-first.result c.in_ok-runs.ensures.runs c.in_ok-runs.ensures.count c.keys_after-keys.ensures c.offsets_are-offsets.ensures c.first_after-first.ensures yes in omega (arith, f, within));
    }
