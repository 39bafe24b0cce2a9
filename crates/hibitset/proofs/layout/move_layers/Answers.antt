use Rattle.std.proofs.Common.{◌≡◌, ℕ, ◌+◌, ◌-◌, ◌<◌, ◌≤◌, ◌∙◌, arith, lit<}
use Rattle.hibitset_base.specs.declared.util.TheConstants.{LAYERS}
use Rattle.hibitset.specs.Layout.{layer_len, layer_start, room_of, count_of}
use Rattle.hibitset.proofs.LayerStartLemmas.{over_more, start_next, start_more, start_wider}
use Rattle.hibitset.proofs.MoveLemmas.{moved_step, moved_last}
use Rattle.hibitset.proofs.layout.move_layers.Goals as goal

-- a layer that is moved lies within the list
within : (k room len wider : ℕ) → k < LAYERS - 1 → len ≤ room → room ≤ wider → layer_start k wider + layer_len k len ≤ layer_start (LAYERS - 1) wider
within k room len wider below fits more =
    let h : layer_start (k + 1) wider ≤ layer_start (LAYERS - 1) wider = start_more (k + 1) (LAYERS - 1) wider (omega arith) in
    let e = start_next k wider in
    let a = over_more k len room fits in
    let b = over_more k room wider more in
    omega (arith, h, e, a, b)

pub move_up-requires-clause-up : goal.move_up-requires-clause-up
move_up-requires-clause-up c =
    let h = c.loop-layer.invariant in
    let k : ℕ = c.loop-layer.layer - 1 in
    let below : k < LAYERS - 1 = omega (arith, h.upto, c.loop-layer-test.true) in
    rw (c.requires.from k below, c.requires.to k below) (start_wider k (room_of c.args.from) (room_of c.args.to) c.requires.capacity_min)

pub move_up-requires-clause-within : goal.move_up-requires-clause-within
move_up-requires-clause-within c =
    let h = c.loop-layer.invariant in
    let k : ℕ = c.loop-layer.layer - 1 in
    let below : k < LAYERS - 1 = omega (arith, h.upto, c.loop-layer-test.true) in
    rw (c.requires.to k below, c.requires.lens k below, h.long, c.requires.length) (within k (room_of c.args.from) (count_of c.args.lens) (room_of c.args.to) below c.requires.fits c.requires.capacity_min)

pub loop-layer-preserved : goal.loop-layer-preserved
loop-layer-preserved c =
    let h = c.loop-layer.invariant in
    let k : ℕ = c.loop-layer.layer - 1 in
    let below : k < LAYERS - 1 = omega (arith, h.upto, c.loop-layer-test.true) in
    let next : k + 1 ≡ c.loop-layer.layer = omega (arith, c.loop-layer-test.true) in
    let from = c.requires.from k below in
    let to = c.requires.to k below in
    let lens = c.requires.lens k below in
    let move = c.move_up.ensures in
    record {
      some = omega (arith, c.loop-layer-test.true);
      upto = omega (arith, h.upto);
      long = move.length ∙ h.long;
      moved = λ old top laid first. moved_step LAYERS (record { words = old; room = room_of c.args.from; len = count_of c.args.lens; top = top }) (room_of c.args.to) laid c.requires.capacity_min k c.loop-layer.words.items c.move_up.new.words.items below
          (rw next (h.moved old top laid first)) move.length
          (rw (from, to, lens) at move.moved) (rw (from, to, lens) at move.left) (rw from at move.same_before) (rw (from, to, lens) at move.between) (rw (to, lens) at move.above);
    }

pub returns : goal.returns
returns c = λ old top laid first.
    let h = c.loop-layer.invariant in
    let one : c.loop-layer.layer ≡ 1 = omega (arith, h.some, c.loop-layer-test.false) in
    moved_last LAYERS (record { words = old; room = room_of c.args.from; len = count_of c.args.lens; top = top }) (room_of c.args.to) laid c.requires.capacity_min c.loop-layer.words.items (lit< tt) (rw one at (h.moved old top laid first))
