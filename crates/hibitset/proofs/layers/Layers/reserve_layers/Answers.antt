use Rattle.std.proofs.Common.{◌≡◌, ℕ, ◌-◌, ◌^◌, ◌≤◌, List, get_or, length, refl, ◌∙◌, arith, lit<}
use Rattle.hibitset_base.specs.declared.util.TheConstants.{LAYERS}
use Rattle.hibitset.specs.Layout.{layer_start, room_of, count_of, AreStarts, AreMovedFrom, IsMovedFrom, IsLayout, LayoutInvariant}
use Rattle.hibitset.specs.Layers.{lists, word_in, len_in, room_in}
use Rattle.hibitset.specs.declared.layers.Layers.{Layers}
use Rattle.hibitset.proofs.LayerStartLemmas.{start_wider, over_first}
use Rattle.hibitset.proofs.LayoutLemmas.{IsLaid, list_of, layer_word, with_list, length_here}
use Rattle.hibitset.proofs.MoveLemmas.{moved_first, wider_laid, wider_same}
use Rattle.hibitset.proofs.LayerLemmas.{layout_of, laid, opened, keeps, room_is, length_first}
use Rattle.hibitset.proofs.layers.Layers.reserve_layers.Goals as goal

-- The list has been lengthened, and then the layers were moved.
module _ (x : Layers) (room : ℕ) (more : room_in x ≤ room) (short : room ≤ 64 ^ (LAYERS - 1)) (starts longer new : List ℕ) (begins : AreStarts LAYERS starts room)
    (moved : (old : List ℕ) (top : ℕ) → IsLayout LAYERS old (room_in x) (count_of x.lens) top → AreMovedFrom LAYERS x.lens x.starts starts (LAYERS - 1) old longer → AreMovedFrom LAYERS x.lens x.starts starts 0 old new)
    (long : length longer ≡ layer_start (LAYERS - 1) room) (same : (at : ℕ) → get_or longer at 0 ≡ get_or x.words.items at 0) where
  all_moved : IsMovedFrom (LAYERS - 1) (room_in x) (count_of x.lens) room 0 x.words.items new
  all_moved =
      let e = room_is starts room begins in
      rw e at (moved x.words.items x.top (laid x) (rw e (moved_first LAYERS (layout_of x) room (laid x) more longer long same)))

  new_laid : IsLaid LAYERS (with_list (layout_of x) new room)
  new_laid = wider_laid LAYERS (layout_of x) room (laid x) more new all_moved short

  new_kept : ∥ LayoutInvariant LAYERS new starts x.lens x.top ∥₁
  new_kept = keeps (with_list (layout_of x) new room) starts x.lens new_laid begins (opened x.kept).lengths

  new_same : (l p : ℕ) → layer_word LAYERS (with_list (layout_of x) new (room_of starts)) l p ≡ word_in x l p
  unfolding lists
  new_same = rw (room_is starts room begins) (wider_same LAYERS (layout_of x) room (laid x) more new all_moved short)

  new_length : length (list_of LAYERS (with_list (layout_of x) new (room_of starts)) 0) ≡ len_in x 0
  new_length = rw (room_is starts room begins, length_first x) (length_here LAYERS (with_list (layout_of x) new room) new_laid 0 (lit< tt) ∙ over_first (count_of x.lens))

pub lengthen_to-requires : goal.lengthen_to-requires
lengthen_to-requires c =
    let x = c.args.self.now in
    let h = start_wider (LAYERS - 1) (room_in x) c.args.room c.requires.capacity_min in
    omega (arith, h, (laid x).whole, c.starts_over-end.ensures.end)

pub returns-in_err-lengthen_to-clause-same : goal.returns-in_err-lengthen_to-clause-same
unfolding lists
returns-in_err-lengthen_to-clause-same c = rw c.in_err-lengthen_to.ensures.err (λ l p. refl)

pub returns-in_err-lengthen_to-clause-length : goal.returns-in_err-lengthen_to-clause-length
unfolding lists
returns-in_err-lengthen_to-clause-length c = rw c.in_err-lengthen_to.ensures.err refl

pub move_layers-requires-clause-lens : goal.move_layers-requires-clause-lens
move_layers-requires-clause-lens c = (opened c.args.self.now.kept).lengths

pub move_layers-requires-clause-from : goal.move_layers-requires-clause-from
move_layers-requires-clause-from c = (opened c.args.self.now.kept).begins

pub move_layers-requires-clause-to : goal.move_layers-requires-clause-to
move_layers-requires-clause-to c = rw (room_is c.starts_over-end.result.0 c.args.room c.starts_over-end.ensures.starts) c.starts_over-end.ensures.starts

pub move_layers-requires-clause-fits : goal.move_layers-requires-clause-fits
move_layers-requires-clause-fits c = (laid c.args.self.now).within

pub move_layers-requires-clause-capacity_min : goal.move_layers-requires-clause-capacity_min
move_layers-requires-clause-capacity_min c = rw (room_is c.starts_over-end.result.0 c.args.room c.starts_over-end.ensures.starts) c.requires.capacity_min

pub move_layers-requires-clause-length : goal.move_layers-requires-clause-length
move_layers-requires-clause-length c = rw (room_is c.starts_over-end.result.0 c.args.room c.starts_over-end.ensures.starts) (c.in_ok-lengthen_to.ensures.length ∙ c.starts_over-end.ensures.end)

pub invariant_of-self-2 : goal.invariant_of-self-2
invariant_of-self-2 c =
    let e = c.lengthen_to.ensures in
    record {
      kept = new_kept c.args.self.now c.args.room c.requires.capacity_min c.requires.within c.starts_over-end.result.0 c.lengthen_to.new.words.items c.move_layers.new.words.items c.starts_over-end.ensures.starts c.move_layers.ensures
          (c.in_ok-lengthen_to.ensures.length ∙ c.starts_over-end.ensures.end) e.same;
    }

pub returns-clause-same : goal.returns-clause-same
unfolding lists
returns-clause-same c = new_same c.args.self.now c.args.room c.requires.capacity_min c.requires.within c.starts_over-end.result.0 c.lengthen_to.new.words.items c.move_layers.new.words.items c.starts_over-end.ensures.starts c.move_layers.ensures
    (c.in_ok-lengthen_to.ensures.length ∙ c.starts_over-end.ensures.end) c.lengthen_to.ensures.same

pub returns-clause-length : goal.returns-clause-length
unfolding lists
returns-clause-length c = new_length c.args.self.now c.args.room c.requires.capacity_min c.requires.within c.starts_over-end.result.0 c.lengthen_to.new.words.items c.move_layers.new.words.items c.starts_over-end.ensures.starts c.move_layers.ensures
    (c.in_ok-lengthen_to.ensures.length ∙ c.starts_over-end.ensures.end) c.lengthen_to.ensures.same

pub returns-clause-capacity : goal.returns-clause-capacity
returns-clause-capacity c = room_is c.starts_over-end.result.0 c.args.room c.starts_over-end.ensures.starts
