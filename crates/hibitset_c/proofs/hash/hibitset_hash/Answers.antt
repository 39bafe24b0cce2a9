use Rattle.std.proofs.Common.{◌∙◌, sym, ap, get_or, arith}
use Rattle.hibitset_c.specs.Hash.{hash_to, with_word}
use Rattle.hibitset_c.specs.LentSet.{has}
use Rattle.hibitset_c.proofs.HashLemmas.{hash_none, hash_next, hash_whole, word_bits}
use Rattle.hibitset_c.proofs.hash.hibitset_hash.Goals as goal

pub loop-position-init : goal.loop-position-init
loop-position-init c = record { hash = hash_none (has c.args.set.now); within = omega arith }

pub loop-position-preserved : goal.loop-position-preserved
loop-position-preserved c =
    let set = c.args.set.now in
    let short = set.short in
    let p = c.loop-position.position in
    let below = c.loop-position-test.true in
    let word = get_or set.layer0.now p 0 in
    record {
      hash =
          c.mix_word-hash.ensures
          ∙ (ap (λ h. with_word h p word) c.loop-position.invariant.hash
          ∙ (ap (λ w. with_word (hash_to (has set) p) p w) (word_bits set p (omega (arith, short, below)) (c.are_words.ensures p))
          ∙ sym (hash_next (has set) p)));
      within = omega (arith, below);
    }

pub returns : goal.returns
returns c =
    let set = c.args.set.now in
    let past = c.loop-position-test.false in
    let within = c.loop-position.invariant.within in
    c.loop-position.invariant.hash ∙ (ap (hash_to (has set)) (omega (arith, past, within)) ∙ hash_whole set)
