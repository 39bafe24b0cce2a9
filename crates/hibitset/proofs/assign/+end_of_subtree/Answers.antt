use Rattle.std.proofs.Common.{◌≡◌, ℕ, suc, ◌-◌, ◌*◌, ◌^◌, ◌<◌, ap, ◌∙◌, lit<, arith}
use Rattle.std.proofs.Math.Nat.{pow-suc, one-le-pow}
use Rattle.hibitset_base.specs.declared.util.TheConstants.{LAYERS}
use Rattle.hibitset_base.proofs.PlaceOrderLemmas.{place_below, place_fits}
use Rattle.hibitset.proofs.LastWordLemmas.{end_after, last_after}
use Rattle.hibitset.proofs.assign.+end_of_subtree.Goals as goal

-- the size of a place of a layer
whole_is : (layer : ℕ) → 0 < layer → 64 ^ layer ≡ 64 ^ (layer - 1) * 64
whole_is layer some = let s : layer ≡ suc (layer - 1) = omega (arith, some) in ap (λ x. 64 ^ x) s ∙ pow-suc 64 (layer - 1)

pub overflow_mul-place : goal.overflow_mul-place
overflow_mul-place g t c =
    let h = place_fits LAYERS c.args.layer c.args.place 0 (let h = c.if-layer-eq0.false in omega (arith, h)) c.requires.layer c.requires.in_range (lit< tt) in
    omega (arith, h)

pub overflow_add-place : goal.overflow_add-place
overflow_add-place g t c =
    let h = place_fits LAYERS c.args.layer c.args.place c.take_last_bit-bit.result (let h = c.if-layer-eq0.false in omega (arith, h)) c.requires.layer c.requires.in_range c.take_last_bit-bit.ensures.in_word in
    omega (arith, h)

pub end_of_subtree-end-requires : goal.end_of_subtree-end-requires
end_of_subtree-end-requires g t c κs within =
    let some : 0 < c.args.layer = (let h = c.if-layer-eq0.false in omega (arith, h)) in
    (omega (arith, some, c.decreases), (within, (omega (arith, c.requires.layer), place_below LAYERS c.args.layer c.args.place c.take_last_bit-bit.result some c.requires.layer c.requires.in_range c.take_last_bit-bit.ensures.in_word)))

pub returns-then-end-gt0-clause-end : goal.returns-then-end-gt0-clause-end
returns-then-end-gt0-clause-end g t c =
    let layer : ℕ = c.args.layer in
    let bit = c.take_last_bit-bit.ensures in
    let below = c.end_of_subtree-end.ensures in
    let some = c.if-end-gt0.true in
    end_after (g.B.BitSetLike.word c.args.other.now 0) (64 ^ (layer - 1)) (64 ^ layer) c.args.place c.loop-left.left c.take_last_bit-bit.result c.end_of_subtree-end.result (whole_is layer (let h = c.if-layer-eq0.false in omega (arith, h)))
    (one-le-pow (layer - 1) 64 (lit< tt)) c.loop-left.invariant.rest below.end bit.highest some ((below.last some).1)

pub returns-then-end-gt0-clause-last : goal.returns-then-end-gt0-clause-last
returns-then-end-gt0-clause-last g t c =
    let layer : ℕ = c.args.layer in
    let last = c.end_of_subtree-end.ensures.last c.if-end-gt0.true in
    λ some. (
      last.0,
      last_after (g.B.BitSetLike.word c.args.other.now 0) (64 ^ (layer - 1)) (64 ^ layer) c.args.place c.loop-left.left c.take_last_bit-bit.result c.end_of_subtree-end.result (whole_is layer (let h = c.if-layer-eq0.false in omega (arith, h)))
          c.take_last_bit-bit.ensures.in_word last.1,
    )
