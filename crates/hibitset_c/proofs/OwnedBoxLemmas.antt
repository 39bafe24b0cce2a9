-- The handle of an atomic set, a seat or a sparse set, while what lies behind it is lent. Assumes `Logic`.
use Rattle.std.proofs.Common.{◌≡◌, ℕ, List, [], ◌∷◌, refl, sym}
use seplogic.Ra.Ura.{Ura}
use base.Fraction.{full_share}
use base.Logic.{ent, sep}
use base.Fml.{Fml, fsep}
use mir.Raw.{raw as bare}
use mir.Val.{Val}
use types.Logic.{Logic, sem}
use types.Kit.{‵, ◌$◌, ◌∵◌, !, qed, done, move, fsplit3, fjoin, fpack, rewrite}
use denote.Memory.{cell_at, part_at, part_of, mem, lone}
use denote.RawPtr.{Ptr, block_ptr}
use denote.Struct.Struct.{Struct}
use denote.Struct.Owning.{shape}
use Rattle.std.specs.Box.Ownership.{box_owns}
use Rattle.hibitset_c.specs.Handle.{may_free}
use Rattle.hibitset_c.specs.OwnedBoxLoan.{with_content}
use Rattle.hibitset_c.specs.contracts.owned_box.OwnedBox.{the_row, the_type}
use Rattle.hibitset_c.specs.contracts.set_or_seat.SetOrSeat.{the_row as content_row}
use Rattle.hibitset_c.specs.declared.owned_box.OwnedBox.{OwnedBox}
use Rattle.hibitset_c.specs.declared.set_or_seat.SetOrSeat.{SetOrSeat}

-- a handle, whose own fields lie at a place, but for what it keeps, which lies at another
abbrev pub but_the_content : OwnedBox → List Val → (at : ℕ × ℕ) → (own : ℕ × ℕ) → Fml
but_the_content h us at own =
    fsep (may_free (bare (lone content_row.mir)) (block_ptr at.0 at.1)) (fsep ((Struct (shape the_type)).own_val (h.at, tt) us) (cell_at full_share the_row.mir us own.0 own.1))

module _ {M : Type 1} {𝓤 : Ura M} (𝓛 : Logic 𝓤) (h : OwnedBox) (us : List Val) (at own : ℕ × ℕ) (lies : h.at ≡ block_ptr at.0 at.1) where
  -- with anything at its place it is the handle of that
  pub comes_together : (w : SetOrSeat) → ent 𝓤 (sep 𝓤 (sem 𝓛 ((mem content_row).own_at w at.0 at.1)) (sem 𝓛 (but_the_content h us at own))) (sem 𝓛 ((mem the_row).own_at (with_content h w) own.0 own.1))
  unfolding part_of
  comes_together w =
      qed 𝓛 (‵ (part_at content_row full_share w at.0 at.1) ∷ ‵ (but_the_content h us at own) ∷ []) ∵ move ! (1 ∷ []) $ fsplit3 ! $ move ! (3 ∷ 0 ∷ []) $ fjoin ! $
      rewrite ! 0 (λ (p : Ptr). ‵ (box_owns may_free content_row p w)) (sym lies) refl $ move ! (1 ∷ 0 ∷ []) $ fjoin ! $ move ! (1 ∷ 0 ∷ []) $ fjoin ! $
      fpack ! (List Val) (λ vs. fsep (cell_at full_share the_row.mir vs own.0 own.1) (the_row.own_val (with_content h w) vs)) us $ done !
