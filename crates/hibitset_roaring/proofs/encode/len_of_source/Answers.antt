use Rattle.std.proofs.Common.{◌≡◌, ℕ, ◌+◌, List, length, ap, ◌∙◌, arith}
use Rattle.hibitset.specs.WordBits.{stands_in}
use Rattle.hibitset_roaring.specs.Streams.{first_after}
use Rattle.hibitset_roaring.specs.Kinds.{chosen_are_runs}
use Rattle.hibitset_roaring.proofs.SizeLemmas.{sizes_none, sizes_upto, from_shift}
use Rattle.hibitset_roaring.proofs.StartLemmas.{length_is}
use Rattle.hibitset_roaring.proofs.encode.len_of_source.Goals as goal

pub keys-init : goal.keys-init
keys-init g c =
    let words : List ℕ = g.S.ContainerSource.words c.args.source.now in
    let next = c.next_key-key.ensures in
    record {
      sizes = sizes_upto words (chosen_are_runs c.args.optimized (stands_in words)) 0 c.next_key-key.result 0 _ 0 next.order next.skips (sizes_none words (chosen_are_runs c.args.optimized (stands_in words)));
      within = next.within;
    }

pub keys-preserved : goal.keys-preserved
keys-preserved g c =
    let words : List ℕ = g.S.ContainerSource.words c.args.source.now in
    let next = c.next_key-key-in-keys.ensures in
    record {
      sizes = sizes_upto words (chosen_are_runs c.args.optimized (stands_in words)) (c.keys.key + 1) c.next_key-key-in-keys.result _ _ _ next.order next.skips c.with_container-sizes.ensures;
      within = next.within;
    }

pub returns : goal.returns
returns g c = λ bytes stream.
    let words : List ℕ = g.S.ContainerSource.words c.args.source.now in
    let h = c.keys.invariant.sizes in
    let n : ℕ = length h.keys in
    let t = c.keys-test.false in
    let short = g.met.S.ContainerSource.short c.args.source.now in
    let first : ℕ = first_after c.keys.sizes.some n in
    let is : c.first_of.result ≡ first = c.first_of.ensures.first ∙ ap (λ m. first_after c.keys.sizes.some m) h.counted in
    let long = length_is words h.keys h.counts c.keys.key (g.met.S.ContainerSource.fits c.args.source.now) h.heads (omega (arith, t, short)) (chosen_are_runs c.args.optimized (stands_in words)) bytes stream h.runs h.numbers h.kinds c.keys.sizes.some h.says in
    let shift = from_shift first h.counts h.runs n in
    let size = h.long in
    omega (arith, is, long, shift, size)
