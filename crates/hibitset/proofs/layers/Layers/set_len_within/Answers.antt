use Rattle.std.proofs.Common.{ℕ, ◌≤◌, ◌∙◌, arith, lit<}
use Rattle.hibitset_base.specs.declared.util.TheConstants.{LAYERS}
use Rattle.hibitset.specs.Layout.{count_of}
use Rattle.hibitset.specs.Layers.{lists, len_in, room_in}
use Rattle.hibitset.specs.declared.layers.Layers.{Layers}
use Rattle.hibitset.proofs.LayerStartLemmas.{over_first}
use Rattle.hibitset.proofs.LayoutLemmas.{IsLaid, with_len, counted_laid, counted_same, length_here}
use Rattle.hibitset.proofs.LayerLemmas.{layout_of, laid, opened, keeps, count_is, length_first}
use Rattle.hibitset.proofs.layers.Layers.set_len_within.Goals as goal

pub lens_over-self-requires : goal.lens_over-self-requires
lens_over-self-requires c = let h = (laid c.args.self.now).short in let f = c.requires.fits in omega (arith, h, f)

more : (x : Layers) (len : ℕ) → len_in x 0 ≤ len → count_of x.lens ≤ len
more x len upto = let e = length_first x in omega (arith, e, upto)

longer_laid : (x : Layers) (len : ℕ) → len_in x 0 ≤ len → len ≤ room_in x → IsLaid LAYERS (with_len (layout_of x) len)
longer_laid x len upto fits = counted_laid LAYERS (layout_of x) len (laid x) (more x len upto) fits

pub invariant_of-self : goal.invariant_of-self
invariant_of-self c =
    let self = c.args.self.now in
    record { kept = keeps (with_len (layout_of self) c.args.len) self.starts c.lens_over-self.result (longer_laid self c.args.len c.requires.len_min c.requires.fits) (opened self.kept).begins c.lens_over-self.ensures }

pub returns-clause-same : goal.returns-clause-same
unfolding lists
returns-clause-same c =
    let self = c.args.self.now in
    rw (count_is c.lens_over-self.result c.args.len c.lens_over-self.ensures)
    (counted_same LAYERS (layout_of self) c.args.len (laid self) (more self c.args.len c.requires.len_min) c.requires.fits)

pub returns-clause-length : goal.returns-clause-length
unfolding lists
returns-clause-length c =
    let self = c.args.self.now in
    rw (count_is c.lens_over-self.result c.args.len c.lens_over-self.ensures)
    (length_here LAYERS (with_len (layout_of self) c.args.len) (longer_laid self c.args.len c.requires.len_min c.requires.fits) 0 (lit< tt) ∙ over_first c.args.len)
