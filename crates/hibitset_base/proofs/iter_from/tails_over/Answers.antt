use Rattle.std.proofs.Common.{◌≡◌, ℕ, ◌+◌, ◌-◌, arith, refl, replicate}
use Rattle.hibitset_base.specs.declared.util.TheConstants.{LAYERS}
use Rattle.hibitset_base.proofs.StartLemmas.{none_left}
use Rattle.hibitset_base.proofs.SkipLemmas.{reaches_none, reaches_more, stops_at, ends_at}
use Rattle.hibitset_base.proofs.iter_from.tails_over.Goals as goal

pub layers-init : goal.layers-init
layers-init g c =
    let holds = g.T.BitSetLike.holds c.args.set.now in
    let word = g.T.BitSetLike.word c.args.set.now in
    record {
      reads = c.requires.fresh;
      reaches = reaches_none LAYERS holds word (g.met.T.BitSetLike.lawful c.args.set.now) c.args.from c.requires.within c.args.prefixes c.requires.prefixes (replicate LAYERS 0) refl (λ j _. none_left LAYERS j);
    }

pub layers-preserved : goal.layers-preserved
layers-preserved g c =
    let holds = g.T.BitSetLike.holds c.args.set.now in
    let word = g.T.BitSetLike.word c.args.set.now in
    let l : ℕ = LAYERS - 1 - c.layers.depth in
    let here : LAYERS - c.layers.depth ≡ l + 1 = omega arith in
    let next : LAYERS - (c.layers.depth + 1) ≡ l = omega arith in
    let so_far = rw here at c.layers.invariant.reaches in
    let reads = c.layers.invariant.reads in
    let one = c.read_over-mask.ensures.reads in
    record {
      reads = omega (arith, reads, one);
      reaches = rw next
          (reaches_more LAYERS holds word (g.met.T.BitSetLike.lawful c.args.set.now) c.args.from c.requires.within c.args.prefixes c.requires.prefixes l c.layers.depth c.read_over-mask.result.0 c.layers.masks so_far (omega arith) c.read_over-mask.ensures.tail
          (c.read_over-mask.ensures.stands c.if-not-stands.false));
    }

pub returns-then-not-stands : goal.returns-then-not-stands
returns-then-not-stands g c =
    let holds = g.T.BitSetLike.holds c.args.set.now in
    let word = g.T.BitSetLike.word c.args.set.now in
    let l : ℕ = LAYERS - 1 - c.layers.depth in
    let here : LAYERS - c.layers.depth ≡ l + 1 = omega arith in
    let so_far = rw here at c.layers.invariant.reaches in
    let read : c.read_over-mask.new.reads.count ≡ c.layers.depth + 1 = (let reads = c.layers.invariant.reads in let one = c.read_over-mask.ensures.reads in omega (arith, reads, one)) in
    rw read
    (stops_at LAYERS holds word (g.met.T.BitSetLike.lawful c.args.set.now) c.args.from c.requires.within c.args.prefixes c.requires.prefixes l c.layers.depth c.read_over-mask.result.0 c.layers.masks so_far (omega arith) c.read_over-mask.ensures.tail (omega arith)
    (c.read_over-mask.ensures.clear c.if-not-stands.true))

pub returns : goal.returns
returns g c =
    let holds = g.T.BitSetLike.holds c.args.set.now in
    let word = g.T.BitSetLike.word c.args.set.now in
    let all : c.layers.depth ≡ LAYERS = omega arith in
    let none : LAYERS - c.layers.depth ≡ 0 = omega arith in
    let so_far = rw none at c.layers.invariant.reaches in
    rw c.layers.invariant.reads (ends_at LAYERS holds word (g.met.T.BitSetLike.lawful c.args.set.now) c.args.from c.requires.within c.args.prefixes c.requires.prefixes c.layers.depth c.layers.masks (omega arith) so_far)
