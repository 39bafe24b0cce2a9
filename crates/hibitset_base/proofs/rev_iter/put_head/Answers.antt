use Rattle.std.proofs.Common.{◌≡◌, ℕ, ◌+◌, ◌-◌, ◌*◌, ◌/◌, ◌%◌, ◌^◌, ◌++◌, List, sym, ◌∙◌, ap, arith}
use Rattle.std.proofs.lemmas.Grind.{flat_map-append}
use Rattle.std.proofs.lemmas.List.Elements.{All-append, All-same}
use Rattle.hibitset_base.specs.Bits.{HasPart}
use Rattle.hibitset_base.specs.Places.{Place, places_in, bits_from, items_under, items_of}
use Rattle.hibitset_base.specs.WordsRead.{BitIsSet}
use Rattle.hibitset_base.specs.RevCursor.{rev_left}
use Rattle.hibitset_base.specs.declared.util.TheConstants.{LAYERS}
use Rattle.hibitset_base.proofs.WalkFromLemmas.{over, word_within}
use Rattle.hibitset_base.proofs.PartLemmas.{drawn_part}
use Rattle.hibitset_base.proofs.PlaceCutLemmas.{shift_is, bit_clear}
use Rattle.hibitset_base.proofs.RankLemmas.{count_head, none_over}
use Rattle.hibitset_base.proofs.rev_iter.put_head.Goals as goal

-- the place over the index, and its word
place_is : (end l : ℕ) → end / 2 ^ (6 * l) ≡ end / 64 ^ l
place_is end l = ap (λ x. end / x) (shift_is l)

word_is : (end l : ℕ) → end / 2 ^ (6 * l) / 64 ≡ end / 64 ^ (l + 1)
word_is end l = ap (λ x. x / 64) (place_is end l) ∙ sym (over end l)

pub push_bits-requires : goal.push_bits-requires
push_bits-requires g c =
    let layer = c.requires.layer in
    let at = word_is c.args.end c.args.layer in
    (omega arith, (layer, (rw at (word_within LAYERS (g.T.BitSetLike.holds c.args.set.now) (g.T.BitSetLike.word c.args.set.now) (g.met.T.BitSetLike.lawful c.args.set.now) c.args.end c.requires.within c.args.layer (LAYERS - 1 - c.args.layer) (omega (arith, layer))), c.requires.lowest)))

pub returns-clause-items : goal.returns-clause-items
returns-clause-items g c =
    let holds = g.T.BitSetLike.holds c.args.set.now in
    let word = g.T.BitSetLike.word c.args.set.now in
    let layer = c.requires.layer in
    let place : ℕ = c.args.end / 2 ^ (6 * c.args.layer) in
    let old : List Place = rev_left c.args.cursor.now in
    let more : List Place = places_in c.args.layer (bits_from (64 * (place / 64)) c.head.result) in
    let head = count_head LAYERS holds word (g.met.T.BitSetLike.lawful c.args.set.now) c.args.end c.requires.within c.args.layer (LAYERS - 1 - c.args.layer) (omega (arith, layer)) place c.read-word.result (64 * (place / 64)) c.head.result
    (place_is c.args.end c.args.layer) c.read-word.ensures.word (omega arith) c.head.ensures in
    ap (items_of holds) c.push_bits.ensures.left ∙ (flat_map-append (λ x. items_under holds x.layer x.position) old more ∙ ap (λ ys. items_of holds old ++ ys) head)

pub returns-clause-from_set : goal.returns-clause-from_set
returns-clause-from_set g c drawn =
    let word = g.T.BitSetLike.word c.args.set.now in
    let q : ℕ = c.args.end / 2 ^ (6 * c.args.layer) / 64 in
    let has : HasPart (word c.args.layer q) 0 (c.args.end / 2 ^ (6 * c.args.layer) % 64) c.head.result = rw c.read-word.ensures.word at c.head.ensures in
    All-same (BitIsSet word) _ _ c.push_bits.ensures.left (All-append (BitIsSet word) _ _ drawn (drawn_part word c.args.layer q 0 _ c.head.result has))

pub returns-clause-clear : goal.returns-clause-clear
returns-clause-clear g c none =
    let holds = g.T.BitSetLike.holds c.args.set.now in
    let word = g.T.BitSetLike.word c.args.set.now in
    let layer = c.requires.layer in
    none_over LAYERS holds word (g.met.T.BitSetLike.lawful c.args.set.now) c.args.end c.requires.within c.args.layer (LAYERS - 1 - c.args.layer) (omega (arith, layer))
    (bit_clear word c.args.end c.args.layer _ c.read-word.result (place_is c.args.end c.args.layer) c.read-word.ensures.word none)

pub returns-clause-empty_below : goal.returns-clause-empty_below
returns-clause-empty_below g c = λ l lower. c.push_bits.ensures.others l (λ e. absurd (omega (arith, e, lower))) ∙ c.requires.lowest l (omega (arith, lower))
