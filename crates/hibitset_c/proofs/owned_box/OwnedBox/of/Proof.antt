-- `of` keeps the pointer of a raw box, with the set there.
use Rattle.std.proofs.Common.{◌≡◌, List, [], ◌∷◌, ◌++◌, refl, Some, Option}
use Rattle.std.proofs.raw_atomic.Walks.{proved_at, leaves}
use prog.Wp.{WpFn}
use base.Logic.{SProp, emp}
use base.Fml.{ftrue}
use mir.Val.{Val, vstruct, vcons, vnil}
use contract.Monad.{fact, fact_i}
use contract.Running.{tables}
use types.Kit.{‵, raw, ◌⊛◌, prop, ◌$◌, ◌∵◌, !, qed, by, move, keep, drop, use0, split, fsplit, fjoin, fpack, feq_i, regoal}
use types.Part.{agg, sub, whole}
use types.Run.{stop, fld, of_opd, no_more, and_then, returns, enter}
use types.ByLocal.{alloc_all, pass_all, free_all, look_at, get, get_in, sets}
use denote.Builtin.{RawPtr}
use denote.RattleType.{RattleType, Valss, owns}
use denote.RawPtr.{ptr_val}
use denote.Signature.{types_at, plain}
use denote.Steps.{nothing}
use denote.Struct.Struct.{within}
use denote.Struct.Owning.{shape}
use denote.Triple.Walked.{Stays, stay_dropped, walk_of}
use Rattle.std.proofs.alloc.Calls.{Goes-blank}
use Rattle.std.proofs.alloc.Global.TheLaws as heap_laws
use Rattle.std.specs.contracts.alloc.Global as heap
use Rattle.std.specs.contracts.impls.GlobalAllocator.TheImpl.{ghosts}
use Rattle.hibitset_c.specs.contracts.owned_box.OwnedBox.{the_type}
use Rattle.hibitset_c.specs.contracts.owned_box.OwnedBox.of as f
use Rattle.hibitset_c.specs.contracts.set_or_seat.SetOrSeat.{the_row as content_row}
use Rattle.hibitset_c.specs.declared.set_or_seat.SetOrSeat.{SetOrSeat}
use Rattle.hibitset_c.proofs.HandleLemmas.{handle_fits}
use Rattle.hibitset_c.proofs.RawBoxLemmas.{Raw, two, two_fits, ptr_fits, raw_opens}
use Rattle.hibitset_c.proofs.owned_box.OwnedBox.of.Statement.{statement}
use Rattle.hibitset_c.proofs.owned_box.OwnedBox.of.Code as code

abbrev Boxed : RattleType
Boxed = Raw content_row heap.the_row heap_laws.the_row_laws ghosts

abbrev stayed : Stays f.ended.signature.params f.ended.kept
stayed = (stay_dropped (plain (λ _. Boxed)) f.ended.kept.0, tt)

pub of_spec : {M : Type 1} → statement M
of_spec 𝓤 𝓛 𝓜 𝓡 wired =
    let c = f.clauses 𝓛 𝓜.mem 𝓡.returns in let 𝓣 = tables 𝓤 𝓛.H 𝓜 𝓡 𝓡.env in
    proved_at 𝓛 f.ended stayed c 𝓜 𝓡 (Goes-blank 𝓛 0 (plain (λ _. Boxed)) f.ended.kept.0 (λ κs x w. tt), tt)
    f.Key.name code.function (code.unfolded 𝓤 𝓛.H 𝓜 𝓡 wired) (λ z are.
    let v = z.0.3.0 in let held : Option SetOrSeat = Some v.value in let word = vstruct (vcons (ptr_val v.at) vnil) in
    let Post : Val → SProp 𝓤 = (walk_of 𝓛 f.ended stayed c).post z in
    qed 𝓛 ((‵ ftrue ⊛ ‵ (owns (types_at f.ended.signature.params z.0.0) z.0.3 z.0.4)) ∷ raw ((c z.0.0 z.0.3).requires z.1) ∷ []) ∵
    split ! $ move ! (1 ∷ []) $ fsplit ! $ raw_opens content_row heap.the_row heap_laws.the_row_laws ghosts ! v z.0.4.0 (λ alloc is fits.
    -- [the set with its block; the allocator; nothing; no token; no condition]
    move ! (1 ∷ []) $ drop ! $
    regoal ! (λ (us : List Val). prop (WpFn 𝓤 𝓛.H 𝓣.C 𝓣.Λ code.function us Post)) (λ i. is i ++ []) refl $
    enter ! 𝓣.C 𝓣.Λ code.function (two v.at alloc ∷ []) Post $
    alloc_all ! (λ l. pass_all ! refl (two_fits heap.the_row alloc fits v.at, tt) $
    sets ! (of_opd ! (get_in ! (fld ! refl (stop !)) (sub ! 0 refl (whole !)))) refl (ptr_fits v.at) $
    sets ! (of_opd ! (get ! refl)) refl (ptr_fits v.at) $
    sets ! (agg ! (and_then ! (get ! refl) (no_more !))) refl (handle_fits v.at) $
    returns ! (look_at ! 0 refl) $ free_all ! refl $
    nothing ! $ feq_i ! (List Val) (ptr_val v.at ∷ []) (ptr_val v.at ∷ []) refl $ fjoin ! $ feq_i ! (List Val) (word ∷ []) (word ∷ []) refl $ fjoin ! $
    fpack ! (Valss (RawPtr ∷ [])) (within (shape the_type) (v.at, tt) (word ∷ [])) (ptr_val v.at ∷ [], tt) $ fjoin ! $
    use0 𝓛 (raw (fact 𝓤 (held ≡ held))) (fact_i 𝓤 (held ≡ held) (emp 𝓤) refl) $ nothing ! $ nothing ! $ fjoin ! $ keep ! (4 ∷ 0 ∷ 2 ∷ 1 ∷ []) $
    by ! (leaves 𝓛 f.ended stayed c z word (record { at = v.at; content = held }) (tt, tt) (tt, tt)))))
