-- `into_box` gives the block to the call that makes the box.
use Rattle.std.proofs.Common.{◌≡◌, List, [], ◌∷◌, ◌++◌, refl, sym, ap, subst}
use mir.Syntax.{a_type, dcons, dnil, impl, tcons, tnil}
use mir.Raw.{raw as bare}
use mir.Val.{Val, has_ty, WT}
use lib.Dec.{T as Holds}
use mir.MapTy.{inst_fn}
use base.Fraction.{full_share}
use base.Logic.{SProp, ent, emp, id⊢}
use base.Fml.{ftrue, flft}
use prog.Wp.{WpFn}
use types.Kit.{‵, raw, ◌⊛◌, some, later, ◌$◌, ◌∵◌, !, qed, by, move, keep, drop, split, join, fsplit, fjoin, feq_i, pick, rewrite, at_ret, await, use0, use1, suffices}
use types.Run.{of_opd, stop, fld, no_more, and_then, first, blocks, exec, returns, enter}
use types.ByLocal.{alloc_all, pass_all, free_all, look_at, get, get_in, sets, lands_last, env}
use types.Part.{sub, whole}
use contract.BorrowLft.{◌⊑◌, ⊑_static}
use contract.Monad.{fact, fact_i}
use contract.Running.{tables}
use denote.Exit.{yes, no}
use denote.Param.{param, arg, layout, bounded}
use denote.Param.Laws.{Laws, arg_laws}
use denote.Param.NoDrop as no_drop
use denote.RattleType.{RattleType, owns}
use denote.RawPtr.{ptr_val}
use denote.Signature.{types_at, plain}
use denote.Steps.{nothing, only, heard}
use denote.Triple.Call.{calls_at_last}
use denote.Triple.Clauses.{Lasts, lasts}
use denote.Triple.Spec.{triple_of}
use denote.Triple.Table.{framed}
use denote.Triple.Walked.{Stays, stay_dropped, walk_of, Goes-dropped}
use Rattle.std.proofs.alloc.Calls.{Goes-blank, handle_tells}
use Rattle.std.proofs.alloc.Global.TheLaws as global
use Rattle.std.proofs.impls.GlobalAllocator.TheImpl.Met as allocator
use Rattle.std.proofs.raw_atomic.Walks.{proved_at, leaves}
use Rattle.std.specs.contracts.alloc.Global as heap
use Rattle.std.specs.contracts.impls.GlobalAllocator.TheImpl as methods
use Rattle.std_alloc.proofs.BoxSteps.Form as box
use Rattle.std_alloc.proofs.BoxSteps.Steps.{box_out, box_in}
use Rattle.std_alloc.proofs.VecSteps.Shapes.{after}
use Rattle.std_alloc.proofs.boxed.Box.from_raw.Met.{met}
use Rattle.std_alloc.specs.contracts.boxed.Box as boxes
use Rattle.std_alloc.specs.contracts.boxed.Box.from_raw as callee
use Rattle.handles.specs.contracts.loose.Loose as loose
use Rattle.handles.proofs.HandleValues.{alone, loose_out, ptr_good, alone_good}
use Rattle.handles.specs.contracts.loose.Loose.into_box.{ended, clauses}
use Rattle.handles.specs.contracts.loose.Loose.into_box.Key.{name as #self}
use Rattle.handles.proofs.loose.Loose.into_box.Statement.{statement}
use Rattle.handles.proofs.loose.Loose.into_box.Code as code
use Rattle.handles.proofs.Destruct++none.drop.Code as unused

pub into_box_spec : {M : Type 1} → statement M
unfolding unused.code
into_box_spec {M} 𝓤 𝓛 𝓜 𝓡 wired T L dt glue =
    let H = 𝓛.H in let 𝓣 = tables 𝓤 H 𝓜 𝓡 𝓡.env in let R : RattleType = param 0 T in let G : RattleType = heap.the_row in let Z : RattleType = arg (bare (layout G)) no G in let LZ : Laws Z = arg_laws (bare (layout G)) no G global.the_row_laws refl in let En = ended T dt in let c = clauses T dt 𝓛 𝓜.mem 𝓡.returns in
    let none = impl ("handles::Destruct++none::drop" ∷ []) (tcons (layout Z) tnil) dnil in
    let E : box.Bx = record { row = T; laws = L; al = record { row = Z; laws = LZ; g = methods.ghosts; d = methods.dict; drops = none } } in
    let inst = bounded (a_type ∷ []) (T, tt) (dcons dt dnil) in let fn = inst_fn inst code.function in let B : RattleType = boxes.the_row R G methods.ghosts in let Lr : RattleType = loose.the_row R in
    let hs : Stays En.signature.params En.kept = (stay_dropped (plain (λ _. Lr)) no, (stay_dropped (plain (λ _. G)) yes, tt)) in
    let k = triple_of 𝓛 (callee.signature T Z methods.ghosts methods.dict none) (callee.spec T Z methods.ghosts methods.dict none 𝓛 𝓜.mem 𝓡.returns) in
    proved_at 𝓛 En hs c 𝓜 𝓡 (Goes-blank 𝓛 1 (plain (λ _. Lr)) no (λ κs x f. tt), (Goes-dropped 𝓛 1 (plain (λ _. G)) yes (λ κs x f. refl), tt)) (#self inst) fn (code.unfolded 𝓤 H 𝓜 𝓡 wired (T, tt) dt) (λ z are.
    let κs = z.0.0 in let qs = z.0.1 in let v = z.0.3.0 in let a = z.0.3.1.0 in let p = v.at in let x = v.value in let inT = κs.0 ⊑ T.lives in let inZ = [] ⊑ Z.lives in
    let Post : Val → SProp 𝓤 = (walk_of 𝓛 En hs c).post z in let Run : List Val → SProp 𝓤 = λ ws. WpFn 𝓤 H 𝓣.C 𝓣.Λ fn ws Post in
    qed 𝓛 (((‵ (flft κs.0 qs.0) ⊛ ‵ ftrue) ⊛ ‵ (owns (types_at En.signature.params κs) z.0.3 z.0.4)) ∷ (raw (fact 𝓤 inT) ⊛ ‵ ftrue) ∷ []) ∵
    move ! (1 ∷ []) $ split ! $ heard ! inT (λ le. drop ! $ split ! $ move ! (1 ∷ []) $ fsplit ! $ loose_out ! R v z.0.4.0 (λ is. move ! (1 ∷ []) $ fsplit ! $ handle_tells E.al ! a z.0.4.1.0 (λ h eh fits. keep ! (0 ∷ 2 ∷ 3 ∷ []) $
    -- [the allocator; the box; the token]
    let w : Val = alone (ptr_val p) in let y : k.Ghost = (((κs.0, ([], tt)), (qs.0, (full_share, tt)), tt, (a, (p, tt)), (h ∷ [], (ptr_val p ∷ [], tt))), x) in
    suffices ! (Run (w ∷ h ∷ [])) (subst (λ (us : List Val). ent 𝓤 (Run (w ∷ h ∷ [])) (Run us)) (sym (λ i. is i ++ (eh i ++ []))) (id⊢ 𝓤 (Run (w ∷ h ∷ [])))) $
    enter ! 𝓣.C 𝓣.Λ fn (w ∷ h ∷ []) Post $ alloc_all ! (λ l. pass_all ! refl (alone_good p, (fits, tt)) $ sets ! (of_opd ! (get_in ! (fld ! refl (stop !)) (sub ! 0 refl (whole !)))) refl (ptr_good p) $
    first ! $ blocks ! $
    nothing ! $ feq_i ! (List Val) (ptr_val p ∷ []) (ptr_val p ∷ []) refl $ fjoin ! $ move ! (1 ∷ 0 ∷ []) $ fjoin ! $
    move ! (2 ∷ []) $ split ! $ move ! (1 ∷ []) $ use0 𝓛 (‵ (flft [] full_share)) (𝓛.lfts.lft-nil full_share) $ join ! $ move ! (1 ∷ 0 ∷ []) $ join ! $ join ! $
    move ! (1 ∷ []) $ use0 𝓛 (raw (fact 𝓤 inZ)) (fact_i 𝓤 inZ (emp 𝓤) (⊑_static [])) $ join ! $ use0 𝓛 (raw (fact 𝓤 inT)) (fact_i 𝓤 inT (emp 𝓤) le) $ join ! $ move ! (1 ∷ 0 ∷ []) $ join ! $ use1 𝓛 (raw (k.pre y)) (id⊢ 𝓤 _) $
    calls_at_last ! (framed 𝓤 H 𝓜 𝓣) k (met 𝓤 𝓛 𝓜 𝓡 (code.calls-std_alloc::boxed::Box::from_raw 𝓡.env wired) T Z L LZ methods.ghosts methods.dict none
    (allocator.passed 𝓡.env (code.calls-std_heap::GlobalAllocator::allocate 𝓡.env wired) (code.calls-std_heap::GlobalAllocator::deallocate 𝓡.env wired) (code.calls-std_heap::GlobalAllocator::grow 𝓡.env wired) (code.calls-std_heap::GlobalAllocator::shrink 𝓡.env wired) M 𝓤 𝓛 𝓜 𝓡)
    (no_drop.glues "handles::Destruct++none::drop" 𝓡.env (code.calls-handles::Destruct++none::drop 𝓡.env wired) Z LZ M 𝓤 𝓛 𝓜 𝓡)) y (and_then ! (get ! refl) (and_then ! (get ! refl) (no_more !))) (λ u.
    use1 𝓛 (later (some (λ (r : B.Denot). ((‵ (flft κs.0 qs.0) ⊛ ‵ (flft [] full_share) ⊛ ‵ ftrue) ⊛ ‵ (B.own_val r (u ∷ []))) ⊛
    some (λ (ls : Lasts (callee.ended T Z methods.ghosts methods.dict none) y.0.0 y.0.3). ‵ (lasts (callee.ended T Z methods.ghosts methods.dict none) y.0.0 y.0.3 ls) ⊛ (raw (fact 𝓤 (r.value ≡ x)) ⊛ raw (fact 𝓤 (r.alloc ≡ a))))))) (id⊢ 𝓤 (k.post y u)) $
    await ! tt $ pick ! (λ r. split ! $ move ! (1 ∷ []) $ pick ! (λ _. split ! $ drop ! $ split ! $ move ! (2 ∷ []) $ split ! $ move ! (1 ∷ []) $
    -- [the box; the tokens; its value; its allocator]
    box_out E ! r (u ∷ []) (λ b o h' e us fits'. box_in E ! r b o r.value e refl $ rewrite ! 0 (λ (xs : List Val). ‵ (B.own_val r xs)) (sym us) refl $
    let good : Holds (has_ty (layout B) u) × WT u = subst (λ (v' : Val). Holds (has_ty (layout B) v') × WT v') (sym (ap only us)) (box.box_typed E h' b o fits') in
    lands_last ! refl good $ exec ! 𝓣.C 𝓣.Λ (env fn.locals l) (after 2 fn.body) (at_ret (env fn.locals l) Post) $ sets ! (of_opd ! (get ! refl)) refl good $
    move ! (1 ∷ []) $ split ! $ move ! (1 ∷ []) $ drop ! $ nothing ! $ move ! (1 ∷ 0 ∷ []) $ join ! $ nothing ! $ nothing ! $ fjoin ! $ nothing ! $ fjoin ! $
    returns ! (look_at ! 0 refl) $ free_all ! refl $ keep ! (1 ∷ 0 ∷ 2 ∷ 3 ∷ []) $ by ! (leaves 𝓛 En hs c z u r (tt, (tt, tt)) (tt, (tt, tt))))))))))))
