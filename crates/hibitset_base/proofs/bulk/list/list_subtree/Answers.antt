use Rattle.std.proofs.Common.{◌≡◌, ◌*◌, ◌++◌, [], take, sym, ◌∙◌, ap, arith}
use Rattle.std.proofs.lemmas.List.{append-nil}
use Rattle.hibitset_base.specs.Places.{places_in, items_of, bits_from}
use Rattle.hibitset_base.specs.Members.{members}
use Rattle.hibitset_base.proofs.BlockLemmas.{under_all}
use Rattle.hibitset_base.proofs.PlaceLemmas.{bits-none}
use Rattle.hibitset_base.proofs.WriteLemmas.{listed_block, listed_on}
use Rattle.hibitset_base.proofs.bulk.list.list_subtree.Goals as goal

pub returns-then-capacity-len-clause-listed : goal.returns-then-capacity-len-clause-listed
returns-then-capacity-len-clause-listed g c =
    let holds = g.T.BitSetLike.holds c.args.set.now in
    rw c.if-word-eq18446744073709551615.true (listed_block c.args.list.now.items c.extend_from_slice.new.self.items c.push_block.new.list.items (take c.args.end c.args.buffer.now) (members holds (c.args.start * 64) (64 * 64)) _
    c.in_ok-extend_from_slice.ensures.items c.push_block.ensures (under_all holds c.args.start))

pub bits-preserved : goal.bits-preserved
bits-preserved g c =
    let holds = g.T.BitSetLike.holds c.args.set.now in
    let taken = c.take_child-first in
    record {
      listed = listed_on c.bits.list.items c.flush_if_full.new.list.items (take c.bits.end c.bits.buffer) (take c.in_ok-end.end c.bits.buffer) (take c.write_bits-end.result c.write_bits-end.new.buffer) (bits_from taken.result.0 taken.result.1)
          (items_of holds (places_in 1 (bits_from c.args.start c.bits.rest))) (items_of holds (places_in 1 (bits_from c.args.start taken.new.rest))) _ c.write_bits-end.ensures.written c.in_ok-end.ensures.same taken.ensures.items c.bits.invariant.listed;
      within = (let room = c.in_ok-end.ensures.long_enough in let few = c.write_bits-end.ensures.max in omega (arith, room, few));
    }

pub returns-clause-listed : goal.returns-clause-listed
returns-clause-listed g c =
    let none : items_of (g.T.BitSetLike.holds c.args.set.now) (places_in 1 (bits_from c.args.start c.bits.rest)) ≡ [] =
    ap (λ xs. items_of (g.T.BitSetLike.holds c.args.set.now) (places_in 1 xs)) (bits-none c.args.start c.bits.rest c.bits-test.false) in
    ap (λ xs. c.bits.list.items ++ xs) (sym (ap (λ xs. take c.bits.end c.bits.buffer ++ xs) none ∙ append-nil (take c.bits.end c.bits.buffer))) ∙ c.bits.invariant.listed
