use Rattle.std.proofs.Common.{◌≡◌, ℕ, ◌*◌, ◌/◌, ◌^◌, ap}
use Rattle.hibitset_base.proofs.PlaceCutLemmas.{shift_is, tail_is, bit_stands, bit_clear}
use Rattle.hibitset_base.proofs.iter_from.read_over.Goals as goal

-- the place over the index
place_is : (from l : ℕ) → from / 2 ^ (6 * l) ≡ from / 64 ^ l
place_is from l = ap (λ x. from / x) (shift_is l)

pub returns-clause-tail : goal.returns-clause-tail
returns-clause-tail g c =
    tail_is (g.T.BitSetLike.word c.args.set.now) c.args.from c.args.layer _ c.read-word.result (place_is c.args.from c.args.layer) c.read-word.ensures.word c.left_over.result c.left_over.ensures.lowest c.left_over.ensures.above

pub returns-clause-stands : goal.returns-clause-stands
returns-clause-stands g c stands = bit_stands (g.T.BitSetLike.word c.args.set.now) c.args.from c.args.layer _ c.read-word.result (place_is c.args.from c.args.layer) c.read-word.ensures.word stands

pub returns-clause-clear : goal.returns-clause-clear
returns-clause-clear g c none = bit_clear (g.T.BitSetLike.word c.args.set.now) c.args.from c.args.layer _ c.read-word.result (place_is c.args.from c.args.layer) c.read-word.ensures.word none
