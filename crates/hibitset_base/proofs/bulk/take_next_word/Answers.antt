use Rattle.std.proofs.Common.{refl, arith}
use Rattle.hibitset_base.proofs.PlaceLemmas.{left-none}
use Rattle.hibitset_base.proofs.ReadsToLemmas.{goes_both}
use Rattle.hibitset_base.proofs.bulk.take_next_word.Goals as goal

pub returns-then-not-load_next_word-clause-end : goal.returns-then-not-load_next_word-clause-end
returns-then-not-load_next_word-clause-end g c _ =
    let long = c.load_next_word.new.cursor.formed.long in
    left-none 0 c.load_next_word.new.cursor.masks c.load_next_word.new.cursor.prefix (λ l within. c.if-not-load_next_word.ensures.end refl l (omega (arith, within, long)))

pub returns-then-not-load_next_word-clause-goes : goal.returns-then-not-load_next_word-clause-goes
returns-then-not-load_next_word-clause-goes g c = goes_both c.layers.invariant c.load_next_word.ensures.goes

pub layers-preserved : goal.layers-preserved
layers-preserved g c = goes_both c.layers.invariant c.load_next_word.ensures.goes
