-- What a handle owns, where there is something; and the handle whose set is lent. Assumes `Logic`.
use Rattle.std.proofs.Common.{◌≡◌, ℕ, List, [], ◌∷◌, refl, sym, Option, Some, None, true}
use mathlib.Core.Bool.{◌&&◌, true≢false}
use lib.Dec.{T, lit<}
use seplogic.Ra.Ura.{Ura}
use base.Fraction.{full_share}
use base.Logic.{ent, sep}
use base.Fml.{Fml, fsep}
use mir.Raw.{raw as bare}
use mir.Syntax.{ty_ptr}
use mir.Val.{Val, vstruct, vcons, vnil, has_ty, WT}
use types.Logic.{Logic, sem}
use types.Kit.{‵, ◌$◌, ◌∵◌, !, qed, done, move, fsplit3, fjoin, fpack, rewrite}
use denote.Memory.{cell_at, part_at, part_of, mem, lone}
use denote.RawPtr.{Ptr, block_ptr, null_ptr, ptr_val}
use denote.Struct.Struct.{Struct}
use denote.Struct.Owning.{shape}
use Rattle.std.specs.Prelude.{is_some}
use Rattle.std.specs.Box.Ownership.{box_owns}
use Rattle.hibitset.specs.contracts.set.BitSet.{the_row as set_row}
use Rattle.hibitset.specs.declared.set.BitSet.{BitSet}
use Rattle.hibitset_c.specs.Handle.{may_free}
use Rattle.hibitset_c.specs.SetLoan.{with_set}
use Rattle.hibitset_c.specs.contracts.handle.Handle.{the_row, the_type}
use Rattle.hibitset_c.specs.declared.handle.Handle.{Handle}

-- what lies behind a handle that has something
pub held_of : {X : Type 0} (held : Option X) → is_some held ≡ true → (x : X) × (held ≡ Some x)
held_of (Some x) there = (x, refl)
held_of None there = absurd (true≢false (sym there))

-- the machine value of a handle has its type
pub handle_fits : (at : Ptr) → T (has_ty ty_ptr (ptr_val at) && true) × WT (vstruct (vcons (ptr_val at) vnil))
handle_fits (block_ptr b o) = (tt, (tt, tt))
handle_fits null_ptr = (tt, (record { fits = lit< tt }, tt))

-- a handle, whose own fields lie at a place, but for its set, which lies at another
abbrev pub but_the_set : Handle → List Val → (at : ℕ × ℕ) → (own : ℕ × ℕ) → Fml
but_the_set h us at own =
    fsep (may_free (bare (lone set_row.mir)) (block_ptr at.0 at.1)) (fsep ((Struct (shape the_type)).own_val (h.at, tt) us) (cell_at full_share the_row.mir us own.0 own.1))

module _ {M : Type 1} {𝓤 : Ura M} (𝓛 : Logic 𝓤) (h : Handle) (us : List Val) (at own : ℕ × ℕ) (lies : h.at ≡ block_ptr at.0 at.1) where
  -- with any set at its place it is the handle of that set
  pub comes_together : (w : BitSet) → ent 𝓤 (sep 𝓤 (sem 𝓛 ((mem set_row).own_at w at.0 at.1)) (sem 𝓛 (but_the_set h us at own))) (sem 𝓛 ((mem the_row).own_at (with_set h w) own.0 own.1))
  unfolding part_of
  comes_together w =
      qed 𝓛 (‵ (part_at set_row full_share w at.0 at.1) ∷ ‵ (but_the_set h us at own) ∷ []) ∵ move ! (1 ∷ []) $ fsplit3 ! $ move ! (3 ∷ 0 ∷ []) $ fjoin ! $
      rewrite ! 0 (λ (p : Ptr). ‵ (box_owns may_free set_row p w)) (sym lies) refl $ move ! (1 ∷ 0 ∷ []) $ fjoin ! $ move ! (1 ∷ 0 ∷ []) $ fjoin ! $
      fpack ! (List Val) (λ vs. fsep (cell_at full_share the_row.mir vs own.0 own.1) (the_row.own_val (with_set h w) vs)) us $ done !
