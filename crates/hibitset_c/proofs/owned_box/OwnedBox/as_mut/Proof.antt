-- `as_mut` lends the set, and the handle follows it.
use Rattle.std.proofs.Common.{◌≡◌, List, [], ◌∷◌, refl, sym, ap, ◌∙◌, Option, true}
use Rattle.std.proofs.raw_atomic.Walks.{proved}
use base.Fraction.{full_share}
use base.Logic.{id⊢, never, fst∗}
use base.Fml.{GName, ftrue, flft}
use mir.Syntax.{named}
use mir.Raw.{raw as bare}
use mir.Val.{Val, vptr}
use contract.Monad.{fact}
use contract.Running.{tables}
use types.Logic.{sem}
use types.Kit.{‵, raw, ◌⊛◌, some, later, at_ret, ◌$◌, ◌∵◌, !, qed, done, move, keep, use1, split, split3, join, fsplit, fsplit3, fjoin, fjoin3, pick, await, rewrite, suffices, frame, group}
use types.Part.{whole, sub, look_in}
use types.Run.{enter, of_opd, addr, load, stop, fld, first, blocks, exec, returns}
use types.ByLocal.{alloc_all, pass_all, free_all, look_at, get, through, sets, sets_last, env}
use denote.Exit.{no}
use denote.Follow.{follows, Part, lends_Part}
use denote.Laws.{shows}
use denote.Memory.{cell_at, lone}
use denote.RawPtr.{Ptr, null_ptr, in_a_block}
use denote.Ref.{MutRef, mut_vals, mut_Tells}
use denote.Signature.{plain, mut_ref_to}
use denote.Steps.{nothing, opens, peeks, heard}
use denote.Triple.Walked.{Stays, walk_of, says, stay_dropped, Goes-spent_ref, ends_at}
use Rattle.std.proofs.VecSteps.Shapes.{after}
use Rattle.std.specs.Prelude.{is_some}
use Rattle.std.specs.Box.Ownership.{box_owns}
use Rattle.hibitset_c.specs.Handle.{may_free, handle_owns}
use Rattle.hibitset_c.specs.OwnedBoxLoan.{with_content}
use Rattle.hibitset_c.specs.contracts.owned_box.OwnedBox.{the_row as R}
use Rattle.hibitset_c.specs.contracts.owned_box.OwnedBox.as_mut as f
use Rattle.hibitset_c.specs.contracts.set_or_seat.SetOrSeat.{the_row as content_row}
use Rattle.hibitset_c.specs.declared.set_or_seat.SetOrSeat.{SetOrSeat}
use Rattle.hibitset_c.proofs.HandleLemmas.{held_of}
use Rattle.hibitset_c.proofs.OwnedBoxLemmas.{but_the_content, comes_together}
use Rattle.hibitset_c.proofs.owned_box.OwnedBox.TheLaws.{lowers}
use Rattle.hibitset_c.proofs.owned_box.OwnedBox.as_mut.Statement.{statement}
use Rattle.hibitset_c.proofs.owned_box.OwnedBox.as_mut.Code as code

abbrev stayed : Stays f.ended.signature.params f.ended.kept
stayed = (stay_dropped (mut_ref_to (0 ∷ []) tt (plain (λ _. R))) no, tt)

pub as_mut_spec : {M : Type 1} → statement M
as_mut_spec 𝓤 𝓛 𝓜 𝓡 wired =
    let c = f.clauses 𝓛 𝓜.mem 𝓡.returns in let W = walk_of 𝓛 f.ended stayed c in let 𝓣 = tables 𝓤 𝓛.H 𝓜 𝓡 𝓡.env in
    proved 𝓛 f.ended stayed c 𝓜 𝓡 (Goes-spent_ref 𝓛 1 (0 ∷ []) tt (plain (λ _. R)), tt)
    f.Key.name code.function (code.unfolded 𝓤 𝓛.H 𝓜 𝓡 wired)
    (λ κs. (mut_vals, tt)) (λ κs. (mut_Tells (named 0) κs.0 R, tt)) (λ κs qs bounds a _ are.
    let κ = κs.0 in let q = qs.0 in let own = a.0.ref_ptr in let γ = a.0.ghost_name in let h = a.0.now in let vs = mut_vals a.0 in
    let y : W.Ghost = ((κs, qs, bounds, a, (vs, tt)), tt) in
    qed 𝓛 (((‵ (flft κ q) ⊛ ‵ ftrue) ⊛ ‵ ((MutRef (named 0) κ R).own_val a.0 vs) ⊛ ‵ ftrue) ∷ raw (fact 𝓤 (is_some h.content ≡ true)) ∷ []) ∵
    move ! (1 ∷ []) $ heard ! _ (λ there. let x = (held_of h.content there).0 in let is_x = (held_of h.content there).1 in
    split ! $ split ! $ move ! (2 ∷ []) $ split ! $ keep ! (0 ∷ 2 ∷ []) $
    enter ! _ _ _ _ _ $ alloc_all ! (λ l. pass_all ! refl ((tt, tt), tt) $
    fsplit3 ! $ move ! (1 ∷ 2 ∷ 3 ∷ []) $ opens ! tt R own.0 own.1 (λ us.
    move ! (1 ∷ []) $ peeks ! R _ (shows 𝓛 R) h us (λ is. fsplit ! $ move ! (1 ∷ []) $
    -- [the set with its block; the fields; the cell of the handle; the open borrow in three entries]
    rewrite ! 0 (λ (set : Option SetOrSeat). ‵ (handle_owns content_row h.at set)) is_x refl $
    in_a_block ! h.at (λ p. box_owns may_free content_row p x) (fst∗ 𝓤 (never 𝓤) (sem 𝓛 (may_free (bare (lone content_row.mir)) null_ptr))) (λ b o lies.
    let word = lowers.val_is h us is ∙ ap (λ (p : Ptr). lowers.lowered (record h { at = p }) ∷ []) lies in
    let Cell = λ (ws : List Val). ‵ (cell_at full_share R.mir ws own.0 own.1) in
    fsplit ! $ rewrite ! 3 Cell word refl $
    sets ! (of_opd ! (load ! (through ! refl (fld ! refl (stop !))) (look_in ! 3 (sub ! 0 refl (whole !))))) refl (tt, tt) $
    sets ! (of_opd ! (get ! refl)) refl (tt, tt) $
    first ! $ blocks ! $ sets_last ! (addr ! (through ! refl (stop !))) refl (tt, tt) $
    exec ! 𝓣.C 𝓣.Λ (env code.Mir.locals l) (after 3 (code.function).body) (at_ret _ (W.post y)) $
    sets ! (of_opd ! (get ! refl)) refl (tt, tt) $
    rewrite ! 3 Cell (sym word) refl $ move ! (1 ∷ 2 ∷ 3 ∷ []) $ fjoin3 ! $ move ! (2 ∷ 3 ∷ 4 ∷ 1 ∷ 0 ∷ []) $ group ! 5 $
    let Rest = sem 𝓛 (but_the_content h us (b, o) own) in let back = comes_together 𝓛 h us (b, o) own lies in
    use1 𝓛 (later (some (λ (δ : GName). raw (Part 𝓛 R content_row (with_content h) (named 0) κ q own.0 own.1 b o γ Rest back x δ))))
    (lends_Part 𝓛 R content_row (with_content h) (named 0) κ q own.0 own.1 b o γ Rest back (R.coded.code h) (R.coded.code h) x) $ await ! tt $ pick ! (λ δ.
    use1 𝓛 (‵ ((MutRef (named 0) κ content_row).own_val (record { ref_ptr = (b, o); ghost_name = δ; now = x }) (vptr b o ∷ [])) ⊛ ‵ (flft κ q) ⊛ ‵ (follows R content_row γ δ (with_content h))) (id⊢ 𝓤 _) $ split3 ! $
    returns ! (look_at ! 0 refl) $ free_all ! refl $ keep ! (0 ∷ 1 ∷ 2 ∷ []) $
    suffices ! _ (ends_at 𝓛 f.ended stayed c y (vptr b o) (record { ref_ptr = (b, o); ghost_name = δ; now = x }) (tt, tt) (tt, tt)) $
    nothing ! $ nothing ! $ fjoin ! $ join ! $ nothing ! $ move ! (2 ∷ 0 ∷ []) $ join ! $ join ! $ frame ! $ says ! is_x $ done !)))))))
