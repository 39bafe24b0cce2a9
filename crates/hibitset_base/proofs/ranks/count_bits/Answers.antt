use Rattle.std.proofs.Common.{◌≡◌, [], length, sym, ◌∙◌, ap, arith}
use Rattle.std.proofs.lemmas.List.{append-nil}
use Rattle.hibitset_base.specs.Places.{places_in, bits_from, items_of}
use Rattle.hibitset_base.proofs.OneCountLemmas.{bits-count, items_in_word}
use Rattle.hibitset_base.proofs.ranks.count_bits.Goals as goal

pub returns-then-layer-eq0 : goal.returns-then-layer-eq0
returns-then-layer-eq0 g c =
    let holds = g.T.BitSetLike.holds c.args.set.now in
    let bits = bits_from c.args.start c.args.word in
    let listed : items_of holds (places_in 0 bits) ≡ bits = ap (items_of holds) (sym (append-nil (places_in 0 bits))) ∙ (items_in_word holds bits [] ∙ append-nil bits) in
    rw c.if-layer-eq0.true (sym (ap length listed ∙ bits-count c.args.start c.args.word (omega arith)))

pub returns-then-layer-eq1 : goal.returns-then-layer-eq1
returns-then-layer-eq1 g c = rw c.if-layer-eq1.true c.count_subtree.ensures

pub returns : goal.returns
returns g c = c.count_left.ensures ∙ ap (λ ps. length (items_of (g.T.BitSetLike.holds c.args.set.now) ps)) c.of_word-cursor.ensures
