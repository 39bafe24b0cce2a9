use Rattle.std.proofs.Common.{◌≡◌, ◌++◌, [], take, sym, ◌∙◌, ap, arith, length-append}
use Rattle.std.proofs.lemmas.List.{append-nil, length-take-le}
use Rattle.hibitset_base.specs.Places.{places_in, items_of, bits_from}
use Rattle.hibitset_base.proofs.PlaceLemmas.{bits-none}
use Rattle.hibitset_base.proofs.OneCountLemmas.{count_front}
use Rattle.hibitset_base.proofs.WriteLemmas.{written_on, places_left}
use Rattle.hibitset_base.proofs.bulk.slice.write_subtree.Goals as goal

pub write_word-end-requires-clause-long_enough : goal.write_word-end-requires-clause-long_enough
write_word-end-requires-clause-long_enough g c =
    let holds = g.T.BitSetLike.holds c.args.set.now in
    let taken = c.take_child-first in
    let count = count_front taken.result.0 taken.result.1 _ _ taken.ensures.items taken.ensures.fits in
    let here = places_left c.bits.list (items_of holds (places_in 1 (bits_from c.args.start c.bits.rest))) _ c.bits.end c.bits.invariant.within c.bits.invariant.written in
    let both = length-append (take c.args.at c.args.list.now) (items_of holds (places_in 1 (bits_from c.args.start c.args.word))) in
    let room = c.requires.long_enough in
    let front = length-take-le c.args.at c.args.list.now (omega (arith, room)) in
    omega (arith, count, here, both, front, room)

pub bits-preserved : goal.bits-preserved
bits-preserved g c =
    let holds = g.T.BitSetLike.holds c.args.set.now in
    let taken = c.take_child-first in
    record {
      written = written_on (take c.bits.end c.bits.list) (take c.write_word-end.result c.write_word-end.new.list) (bits_from taken.result.0 taken.result.1) (items_of holds (places_in 1 (bits_from c.args.start c.bits.rest)))
          (items_of holds (places_in 1 (bits_from c.args.start taken.new.rest))) _ c.write_word-end.ensures.written taken.ensures.items c.bits.invariant.written;
      within = c.write_word-end.ensures.within;
    }

pub returns-clause-written : goal.returns-clause-written
returns-clause-written g c =
    let none : items_of (g.T.BitSetLike.holds c.args.set.now) (places_in 1 (bits_from c.args.start c.bits.rest)) ≡ [] =
    ap (λ xs. items_of (g.T.BitSetLike.holds c.args.set.now) (places_in 1 xs)) (bits-none c.args.start c.bits.rest c.bits-test.false) in
    sym (ap (λ xs. take c.bits.end c.bits.list ++ xs) none ∙ append-nil (take c.bits.end c.bits.list)) ∙ c.bits.invariant.written
