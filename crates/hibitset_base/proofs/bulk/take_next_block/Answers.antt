use Rattle.std.proofs.Common.{refl, arith}
use Rattle.hibitset_base.proofs.PlaceLemmas.{left-none}
use Rattle.hibitset_base.proofs.ReadsToLemmas.{goes_both}
use Rattle.hibitset_base.proofs.bulk.take_next_block.Goals as goal

pub returns-then-not-load_next_from_layer2-clause-end : goal.returns-then-not-load_next_from_layer2-clause-end
returns-then-not-load_next_from_layer2-clause-end g c _ =
    let long = c.load_next_from_layer2.new.cursor.formed.long in
    left-none 0 c.load_next_from_layer2.new.cursor.masks c.load_next_from_layer2.new.cursor.prefix (λ l within. c.if-not-load_next_from_layer2.ensures.end refl l (omega (arith, within, long)))

pub returns-then-not-load_next_from_layer2-clause-goes : goal.returns-then-not-load_next_from_layer2-clause-goes
returns-then-not-load_next_from_layer2-clause-goes g c = goes_both c.layers.invariant.0 c.load_next_from_layer2.ensures.goes

pub layers-preserved : goal.layers-preserved
layers-preserved g c = (goes_both c.layers.invariant.0 c.load_next_from_layer2.ensures.goes, c.load_next_from_layer2.ensures.empty_below)
