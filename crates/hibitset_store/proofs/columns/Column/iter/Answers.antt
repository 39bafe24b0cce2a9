use Rattle.std.specs.Option.{is_some}
use Rattle.std.proofs.Common.{◌≡◌, true, sym, ◌∙◌, length, ap, arith}
use Rattle.std.proofs.iter.runs.Sources.{from_front}
use Rattle.hibitset.specs.BitSet.{has, word_of}
use Rattle.hibitset_base.specs.Walk.{items_left, words_ahead}
use Rattle.hibitset_store.specs.Columns.{entry_seen, value_of}
use Rattle.hibitset_store.specs.Walks.{IterSteps, entries_left}
use Rattle.hibitset_store.proofs.JoinLemmas.{all-items, entries-length}
use Rattle.hibitset_base.proofs.CoverLemmas.{covers-own}
use Rattle.hibitset_store.proofs.ReadBoundLemmas.{few_reads_of}
use Rattle.hibitset_store.proofs.columns.Column.iter.Goals as goal

pub returns-clause-bound : goal.returns-clause-bound
returns-clause-bound g c =
    let mask = c.mask.result.now in
    let within = c.laws.ensures.intersection mask mask in
    let few = few_reads_of (value_of c.args.self.now) (has mask) (words_ahead (λ set. word_of set.now) c.iter.result) c.mask.ensures.keys
    (c.iter.ensures.bound (has mask) (word_of mask) (covers-own within.0)) in
    omega (arith, few, c.iter.ensures.read)

pub returns-clause-runs : goal.returns-clause-runs
returns-clause-runs g c = from_front IterSteps entry_seen entries_left (λ s t h. ap length h.0.0) (λ s x t h. h.0)

pub returns-clause-fits : goal.returns-clause-fits
returns-clause-fits g c =
    let few = entries-length (value_of c.args.self.now) (items_left (λ set. has set.now) c.iter.result) in
    omega (arith, few, c.iter.ensures.fits)

pub invariant_of-result : goal.invariant_of-result
invariant_of-result g c = record {
  keyed = all-items (λ i. is_some (value_of c.args.self.now i) ≡ true) (has c.mask.result.now) (items_left (λ set. has set.now) c.iter.result) c.iter.ensures.items (λ i on. sym (c.mask.ensures.keys i) ∙ on);
}
