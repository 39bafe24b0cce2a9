-- A `RawBox` is two machine values, the pointer and the allocator's. Assumes `Logic`.
use Rattle.std.proofs.Common.{◌≡◌, List, [], ◌∷◌, ◌++◌, refl, ◌∙◌}
use mathlib.Core.Bool.{true, ◌&&◌}
use lib.Dec.{T, lit<}
use seplogic.Ra.Ura.{Ura}
use mir.Syntax.{ty_ptr, impl, tnil, dnil}
use mir.Val.{Val, vstruct, vcons, vnil, of_list, has_ty, WT}
use types.Logic.{Logic}
use types.Kit.{Item, Goal, Seq, Step, step, ‵, ◌$◌, move, drop, fsplit, fjoin, fpick, fpack, feq_i, feq_l}
use denote.RattleType.{RattleType, Valss}
use denote.Builtin.{RawPtr}
use denote.RawPtr.{Ptr, block_ptr, null_ptr, ptr_val}
use denote.Steps.{nothing}
use denote.Param.{layout}
use denote.Param.Laws.{Laws}
use denote.Struct.Struct.{within}
use denote.Struct.Owning.{shape}
use Rattle.std.specs.declared.alloc.Allocator.{Ghosts}
use Rattle.std.specs.Box.Ownership.{box_owns}
use Rattle.std.proofs.alloc.Calls.{Al, handle_tells}
use Rattle.std.proofs.cell.Inside.{Good}
use Rattle.std.proofs.ResultValues.{and_tt}
use Rattle.hibitset_c.specs.contracts.raw_box.RawBox as raw_box

-- the pointer, and what the allocator is
abbrev pub two : Ptr → Val → Val
two at alloc = vstruct (vcons (ptr_val at) (vcons alloc vnil))

module _ (Z : RattleType) (alloc : Val) (fits : Good (layout Z) alloc) where
  pub two_fits : (at : Ptr) → T (has_ty ty_ptr (ptr_val at) && (has_ty (layout Z) alloc && true)) × WT (two at alloc)
  two_fits (block_ptr b o) = (and_tt (has_ty (layout Z) alloc) fits.0, (tt, (fits.1, tt)))
  two_fits null_ptr = (and_tt (has_ty (layout Z) alloc) fits.0, (record { fits = lit< tt }, (fits.1, tt)))

-- the machine value of a pointer has its type
pub ptr_fits : (at : Ptr) → T (has_ty ty_ptr (ptr_val at)) × WT (ptr_val at)
ptr_fits (block_ptr b o) = (tt, tt)
ptr_fits null_ptr = (tt, record { fits = lit< tt })

module _ (R Z : RattleType) (laws : Laws Z) (g : Ghosts Z.Denot) where
  abbrev pub Raw : RattleType
  Raw = raw_box.the_row R Z g

  abbrev freeing : Al
  freeing = record { row = Z; laws = laws; g = g; d = impl [] tnil dnil; drops = impl [] tnil dnil }

  module _ {M : Type 1} {𝓤 : Ura M} {𝓛 : Logic 𝓤} {K : Type 0} {Γ : List (Item 𝓤)} {G : Goal 𝓤 𝓛.H} where
    -- what it owns: the value with its block, and the allocator
    pub raw_opens : K → (d : Raw.Denot) (vs : List Val)
        → ((alloc : Val) → vs ≡ two d.at alloc ∷ [] → Good (layout Z) alloc → Seq K 𝓛 (‵ (box_owns (g.dealloc_token d.alloc) R d.at d.value) ∷ ‵ (Z.own_val d.alloc (alloc ∷ [])) ∷ Γ) G)
        → Seq K 𝓛 (‵ (Raw.own_val d vs) ∷ Γ) G
    raw_opens t d vs rest =
        fsplit t $ fpick t (λ parts. fsplit t $ feq_l t (λ whole. fsplit t $ feq_l t (λ first. fsplit t $
        handle_tells freeing t d.alloc parts.1.0 (λ alloc second fits. move t (1 ∷ []) $ drop t $ move t (1 ∷ []) $
        rest alloc (whole ∙ (λ i. vstruct (of_list (first i ++ (second i ++ []))) ∷ [])) fits))))

    pub raw_closes : K → (at : Ptr) (alloc : Val) (a : Z.Denot) (x : R.Denot)
        → Step K 𝓛 (‵ (Raw.own_val (record { at = at; alloc = a; value = x }) (two at alloc ∷ [])) ∷ Γ) G
        (‵ (box_owns (g.dealloc_token a) R at x) ∷ ‵ (Z.own_val a (alloc ∷ [])) ∷ Γ) G
    raw_closes t at alloc a x = step (λ rest.
        nothing t $ move t (2 ∷ 0 ∷ []) $ fjoin t $ feq_i t (List Val) (ptr_val at ∷ []) (ptr_val at ∷ []) refl $ fjoin t $
        feq_i t (List Val) (two at alloc ∷ []) (two at alloc ∷ []) refl $ fjoin t $
        fpack t (Valss (RawPtr ∷ Z ∷ [])) (within (shape (raw_box.the_type R Z g)) (at, (a, tt)) (two at alloc ∷ [])) (ptr_val at ∷ [], (alloc ∷ [], tt)) $ fjoin t $ rest)
