-- `take` hands the set over, and leaves a handle that owns nothing.
use Rattle.std.proofs.Common.{◌≡◌, List, [], ◌∷◌, ◌++◌, refl, sym, Some, None, Option, true}
use Rattle.std.proofs.raw_atomic.Walks.{proved_at, leaves}
use prog.Wp.{WpFn}
use base.Fraction.{full_share}
use base.Logic.{SProp, emp}
use base.Fml.{ftrue, flft}
use mir.Syntax.{named, impl, tnil, dnil}
use mir.Val.{Val}
use contract.Monad.{fact, fact_i}
use contract.Running.{tables}
use types.Kit.{Item, ‵, raw, ◌⊛◌, prop, ◌$◌, ◌∵◌, !, qed, by, move, keep, use0, split, join, fsplit, fsplit3, fjoin, fjoin3, rewrite, regoal}
use types.Part.{agg, sub, whole, look_in}
use types.Run.{stop, fld, load, of_opd, no_more, and_then, returns, enter}
use types.ByLocal.{alloc_all, pass_all, free_all, look_at, get, through, sets}
use denote.Laws.{shows}
use denote.Memory.{cell_at}
use denote.RattleType.{RattleType, owns}
use denote.Ref.{MutRef, mut_vals, mut_Tells}
use denote.Signature.{types_at, plain}
use denote.Steps.{nothing, opens, closes, peeks, heard}
use denote.Triple.Walked.{Stays, stay_dropped, stay_ref, walk_of, Goes-ref}
use Rattle.std.proofs.alloc.Calls.{Al, Goes-blank, handle_tells}
use Rattle.std.proofs.alloc.Global.TheLaws as heap_laws
use Rattle.std.specs.contracts.alloc.Global as heap
use Rattle.std.specs.contracts.impls.GlobalAllocator.TheImpl.{ghosts}
use Rattle.std.specs.Prelude.{is_some}
use Rattle.hibitset_c.specs.Handle.{handle_owns}
use Rattle.hibitset_c.specs.contracts.owned_box.OwnedBox.{the_row as R}
use Rattle.hibitset_c.specs.contracts.owned_box.OwnedBox.take as f
use Rattle.hibitset_c.specs.contracts.set_or_seat.SetOrSeat.{the_row as content_row}
use Rattle.hibitset_c.specs.declared.owned_box.OwnedBox.{OwnedBox}
use Rattle.hibitset_c.specs.declared.set_or_seat.SetOrSeat.{SetOrSeat}
use Rattle.hibitset_c.proofs.HandleLemmas.{held_of}
use Rattle.hibitset_c.proofs.RawBoxLemmas.{two, two_fits, ptr_fits, raw_closes}
use Rattle.hibitset_c.proofs.owned_box.OwnedBox.TheLaws.{lowers}
use Rattle.hibitset_c.proofs.owned_box.OwnedBox.take.Statement.{statement}
use Rattle.hibitset_c.proofs.owned_box.OwnedBox.take.Code as code

abbrev Z : RattleType
Z = heap.the_row

abbrev freeing : Al
freeing = record { row = Z; laws = heap_laws.the_row_laws; g = ghosts; d = impl [] tnil dnil; drops = impl [] tnil dnil }

abbrev stayed : Stays f.ended.signature.params f.ended.kept
stayed = (stay_ref (0 ∷ []) tt (plain (λ _. R)), (stay_dropped (plain (λ _. Z)) f.ended.kept.1.0, tt))

pub take_spec : {M : Type 1} → statement M
take_spec 𝓤 𝓛 𝓜 𝓡 wired =
    let c = f.clauses 𝓛 𝓜.mem 𝓡.returns in let 𝓣 = tables 𝓤 𝓛.H 𝓜 𝓡 𝓡.env in
    proved_at 𝓛 f.ended stayed c 𝓜 𝓡 (Goes-ref 𝓛 1 0 tt (plain (λ _. R)), (Goes-blank 𝓛 1 (plain (λ _. Z)) f.ended.kept.1.0 (λ κs x w. tt), tt))
    f.Key.name code.function (code.unfolded 𝓤 𝓛.H 𝓜 𝓡 wired) (λ z are.
    let κ = z.0.0.0 in let q = z.0.1.0 in let self = z.0.3.0 in let h = self.now in let own = self.ref_ptr in let a = z.0.3.1.0 in
    let Self : OwnedBox → List Val → Item 𝓤 = λ now us. ‵ ((MutRef (named 0) κ R).own_val (record self { now = now }) us) in let emptied : OwnedBox = record h { content = None } in let self_is = mut_Tells (named 0) κ R self z.0.4.0 are.0 in
    let Post : Val → SProp 𝓤 = (walk_of 𝓛 f.ended stayed c).post z in
    qed 𝓛 (((‵ (flft κ q) ⊛ ‵ ftrue) ⊛ ‵ (owns (types_at f.ended.signature.params z.0.0) z.0.3 z.0.4)) ∷ raw (fact 𝓤 (is_some h.content ≡ true)) ∷ []) ∵
    move ! (1 ∷ []) $ heard ! _ (λ there. let x = (held_of h.content there).0 in let is_x = (held_of h.content there).1 in
    split ! $ split ! $ move ! (2 ∷ []) $ fsplit ! $ rewrite ! 0 (Self h) self_is refl $ move ! (1 ∷ []) $ fsplit ! $
    handle_tells freeing ! a z.0.4.1.0 (λ alloc alloc_is fits. keep ! (0 ∷ 2 ∷ 3 ∷ []) $
    -- [the allocator; the reference; the token]
    regoal ! (λ (us : List Val). prop (WpFn 𝓤 𝓛.H 𝓣.C 𝓣.Λ code.function us Post)) (λ i. self_is i ++ (alloc_is i ++ [])) refl $
    enter ! 𝓣.C 𝓣.Λ code.function (mut_vals self ++ (alloc ∷ [])) Post $
    alloc_all ! (λ l. pass_all ! refl ((tt, tt), (fits, tt)) $
    move ! (1 ∷ []) $ fsplit3 ! $ move ! (1 ∷ 2 ∷ 4 ∷ []) $ opens ! tt R own.0 own.1 (λ us.
    move ! (1 ∷ []) $ peeks ! R _ (shows 𝓛 R) h us (λ is. fsplit ! $ move ! (1 ∷ []) $
    -- [the set with its block; the fields; the cell of the handle; the open borrow in three entries; the rest of the
    -- reference; the allocator]
    let word = lowers.val_is h us is in let Cell = λ (ws : List Val). ‵ (cell_at full_share R.mir ws own.0 own.1) in
    rewrite ! 2 Cell word refl $
    sets ! (of_opd ! (load ! (through ! refl (fld ! refl (stop !))) (look_in ! 2 (sub ! 0 refl (whole !))))) refl (ptr_fits h.at) $
    sets ! (of_opd ! (get ! refl)) refl (ptr_fits h.at) $
    sets ! (agg ! (and_then ! (get ! refl) (and_then ! (get ! refl) (no_more !)))) refl (two_fits Z alloc fits h.at) $
    rewrite ! 2 Cell (sym word) refl $
    nothing ! $ move ! (2 ∷ 0 ∷ []) $ fjoin ! $ move ! (2 ∷ 0 ∷ 3 ∷ 4 ∷ 5 ∷ []) $ closes ! tt R emptied us own.0 own.1 $
    -- [the reference, in two entries; the token; the set with its block; the rest of the reference; the allocator]
    returns ! (look_at ! 0 refl) $ free_all ! refl $
    move ! (3 ∷ 5 ∷ []) $ rewrite ! 0 (λ (set : Option SetOrSeat). ‵ (handle_owns content_row h.at set)) is_x refl $ raw_closes content_row Z heap_laws.the_row_laws ghosts ! h.at alloc a x $
    let none : Option SetOrSeat = None in
    use0 𝓛 (raw (fact 𝓤 (none ≡ none))) (fact_i 𝓤 (none ≡ none) (emp 𝓤) refl) $ use0 𝓛 (raw (fact 𝓤 (h.content ≡ Some x))) (fact_i 𝓤 (h.content ≡ Some x) (emp 𝓤) is_x) $ join ! $
    move ! (5 ∷ 2 ∷ 3 ∷ []) $ fjoin3 ! $ rewrite ! 0 (Self emptied) (sym self_is) refl $ nothing ! $ nothing ! $ fjoin ! $ move ! (1 ∷ []) $ fjoin ! $ nothing ! $ move ! (4 ∷ []) $ join ! $
    keep ! (0 ∷ 1 ∷ 3 ∷ 2 ∷ []) $
    by ! (leaves 𝓛 f.ended stayed c z (two h.at alloc) (record { at = h.at; alloc = a; value = x }) (emptied, (tt, tt)) (tt, (tt, tt)))))))))
