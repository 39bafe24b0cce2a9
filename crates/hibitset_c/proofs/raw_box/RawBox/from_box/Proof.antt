-- `from_box` takes the box apart, and keeps what its pointer gives a right to.
use Rattle.std.proofs.Common.{◌≡◌, List, [], ◌∷◌, ◌++◌, refl, ap, ◌∙◌}
use Rattle.std.proofs.raw_atomic.Walks.{proved_at, leaves}
use prog.Wp.{WpFn}
use base.Logic.{SProp, emp, id⊢}
use base.Fml.{ftrue, flft}
use mir.MapTy.{inst_fn}
use mir.Syntax.{a_type, dcons, dnil}
use mir.Val.{Val, vstruct, of_list}
use contract.Monad.{fact, fact_i}
use contract.Running.{tables}
use types.Kit.{‵, raw, ◌⊛◌, some, later, prop, ◌$◌, ◌∵◌, !, qed, by, move, keep, drop, use0, use1, split, split3, join, fsplit, fjoin, fpick, feq_l, pick, await, rewrite, regoal}
use types.Part.{agg, sub, whole}
use types.Run.{stop, fld, of_opd, no_more, and_then, returns, enter}
use types.ByLocal.{alloc_all, pass_all, free_all, look_at, get, get_in, sets, lands_as}
use denote.Builtin.{RawPtr}
use denote.Param.{param, bounded}
use denote.Param.Laws.{param_laws}
use denote.RattleType.{RattleType, owns}
use denote.RawPtr.{Ptr}
use denote.Signature.{types_at, plain}
use denote.Steps.{nothing, only, heard}
use denote.Struct.Tuple.{Tuple}
use denote.Triple.Call.{calls_at}
use denote.Triple.Clauses.{Lasts, lasts}
use denote.Triple.Spec.{triple_of}
use denote.Triple.Table.{framed}
use denote.Triple.Walked.{Stays, stay_dropped, walk_of}
use Rattle.std.proofs.alloc.Calls.{Goes-blank, handle_tells}
use Rattle.std.proofs.BoxSteps.Form as form
use Rattle.std.proofs.BoxSteps.Steps.{box_out, box_in}
use Rattle.std.proofs.boxed.Box.into_raw_with_allocator.Met as called
use Rattle.std.specs.Box.Ownership.{box_owns}
use Rattle.std.specs.contracts.boxed.Box.into_raw_with_allocator as g
use Rattle.hibitset_c.specs.contracts.raw_box.RawBox.from_box as f
use Rattle.hibitset_c.proofs.RawBoxLemmas.{two, two_fits, ptr_fits, raw_closes}
use Rattle.hibitset_c.proofs.raw_box.RawBox.from_box.Statement.{statement}
use Rattle.hibitset_c.proofs.raw_box.RawBox.from_box.Code as code

pub from_box_spec : {M : Type 1} → statement M
from_box_spec 𝓤 𝓛 𝓜 𝓡 wired T A L LA ghosts d dx dd allocator glue glued =
    let 𝓣 = tables 𝓤 𝓛.H 𝓜 𝓡 𝓡.env in let X : RattleType = param 0 T in let Z : RattleType = param 1 A in let LZ = param_laws 1 A LA in
    let E : form.Bx = record { row = T; laws = L; al = record { row = A; laws = LA; g = ghosts; d = d; drops = dd } } in
    let ended = f.ended T A ghosts d dx dd in let c = f.clauses T A ghosts d dx dd 𝓛 𝓜.mem 𝓡.returns in
    let args = bounded (a_type ∷ a_type ∷ []) (T, (A, tt)) (dcons d (dcons dx (dcons dd dnil))) in let fn = inst_fn args code.function in
    let stayed : Stays ended.signature.params ended.kept = (stay_dropped (plain (λ _. form.B E)) ended.kept.0, tt) in
    let G = triple_of 𝓛 (g.signature T A ghosts d dd dx) (g.spec T A ghosts d dd dx 𝓛 𝓜.mem 𝓡.returns) in let ends = g.ended T A ghosts d dd dx in
    proved_at 𝓛 ended stayed c 𝓜 𝓡 (Goes-blank 𝓛 2 (plain (λ _. form.B E)) ended.kept.0 (λ κs x w. tt), tt)
    (f.Key.name args) fn (code.unfolded 𝓤 𝓛.H 𝓜 𝓡 wired (T, (A, tt)) d dx dd) (λ z are.
    let κs = z.0.0 in let qs = z.0.1 in let box = z.0.3.0 in let a = box.alloc in let Post : Val → SProp 𝓤 = (walk_of 𝓛 ended stayed c).post z in
    let tokens = ‵ (flft κs.0 qs.0) ⊛ ‵ (flft κs.1.0 qs.1.0) ⊛ ‵ ftrue in
    qed 𝓛 ((tokens ⊛ ‵ (owns (types_at ended.signature.params κs) z.0.3 z.0.4)) ∷ raw ((c κs z.0.3).requires z.1) ∷ []) ∵
    split ! $ move ! (1 ∷ []) $ fsplit ! $ box_out E ! box z.0.4.0 (λ b o alloc lies is fits. box_in E ! box b o box.value lies refl $
    let w : Val = form.word E alloc b o in let y : G.Ghost = ((κs, qs, tt, (box, tt), (w ∷ [], tt)), tt) in
    fjoin ! $ move ! (1 ∷ 0 ∷ []) $ join ! $ join ! $ use1 𝓛 (raw (G.pre y)) (id⊢ 𝓤 _) $
    regoal ! (λ (us : List Val). prop (WpFn 𝓤 𝓛.H 𝓣.C 𝓣.Λ fn us Post)) (λ i. is i ++ []) refl $
    enter ! 𝓣.C 𝓣.Λ fn (w ∷ []) Post $ alloc_all ! (λ l. pass_all ! refl (form.box_typed E alloc b o fits, tt) $
    sets ! (of_opd ! (get ! refl)) refl (form.box_typed E alloc b o fits) $
    calls_at ! (framed 𝓤 𝓛.H 𝓜 𝓣) G (called.met 𝓤 𝓛 𝓜 𝓡 (code.calls-std_alloc::boxed::Box::into_raw_with_allocator 𝓡.env wired) T A L LA ghosts d dd dx allocator glued glue) y
    (and_then ! (get ! refl) (no_more !)) (λ u.
    use1 𝓛 (later (some (λ (r : Ptr × A.Denot). (tokens ⊛ ‵ ((Tuple (RawPtr ∷ Z ∷ [])).own_val r (u ∷ []))) ⊛
    some (λ (ws : Lasts ends κs z.0.3). ‵ (lasts ends κs z.0.3 ws) ⊛ (raw (fact 𝓤 (r.1 ≡ a)) ⊛ ‵ (box_owns (ghosts.dealloc_token a) X r.0 box.value)))))) (id⊢ 𝓤 _) $
    await ! tt $ pick ! (λ r. split ! $ move ! (1 ∷ []) $ pick ! (λ ws. split3 ! $ drop ! $ heard ! (r.1 ≡ a) (λ same.
    move ! (1 ∷ []) $ split ! $ move ! (1 ∷ []) $
    -- [the pair; the tokens; the value with its block]
    fpick ! (λ parts. fsplit ! $ feq_l ! (λ whole'. fsplit ! $ feq_l ! (λ first'. fsplit ! $
    handle_tells E.al ! r.1 parts.1.0 (λ alloc' second' fits'. rewrite ! 0 (λ (s : A.Denot). ‵ (A.own_val s (alloc' ∷ []))) same refl $
    lands_as ! (ap only (whole' ∙ (λ i. vstruct (of_list (first' i ++ (second' i ++ []))) ∷ []))) refl (two_fits Z alloc' fits' r.0) $
    sets ! (of_opd ! (get_in ! (fld ! refl (stop !)) (sub ! 0 refl (whole !)))) refl (ptr_fits r.0) $
    sets ! (of_opd ! (get_in ! (fld ! refl (stop !)) (sub ! 1 refl (whole !)))) refl fits' $
    sets ! (of_opd ! (get ! refl)) refl fits' $
    sets ! (agg ! (and_then ! (get ! refl) (and_then ! (get ! refl) (no_more !)))) refl (two_fits Z alloc' fits' r.0) $
    returns ! (look_at ! 0 refl) $ free_all ! refl $
    move ! (3 ∷ 0 ∷ []) $ raw_closes X Z LZ ghosts ! r.0 alloc' a box.value $
    use0 𝓛 (raw (fact 𝓤 (box.value ≡ box.value))) (fact_i 𝓤 (box.value ≡ box.value) (emp 𝓤) refl) $ nothing ! $ nothing ! $ fjoin ! $ keep ! (4 ∷ 0 ∷ 2 ∷ 1 ∷ []) $
    by ! (leaves 𝓛 ended stayed c z (two r.0 alloc') (record { at = r.0; alloc = a; value = box.value }) ((tt, (tt, tt)), tt) (tt, tt)))))))))))))
