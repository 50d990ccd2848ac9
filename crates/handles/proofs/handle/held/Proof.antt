-- `held` moves what the handle owns to the box's pointer, where it owns one.
use Rattle.std.proofs.Common.{◌≡◌, List, [], ◌∷◌, ◌++◌, None, Some, refl, sym, subst, lit<}
use lib.Dec.{T}
use mir.Val.{Val, vcons, vnil, has_ty, WT}
use mathlib.Core.Bool.{Bool, true, false}
use base.Logic.{SProp, ent, emp, id⊢}
use prog.Wp.{WpFn}
use types.Kit.{‵, raw, ◌⊛◌, at_ret, ◌$◌, ◌∵◌, !, qed, by, keep, drop, split, fsplit, fjoin, use0, use1, suffices}
use types.Run.{stop, fld, of_opd, lit, no_more, and_then, first, branches, exec, returns, enter}
use types.ByLocal.{alloc_all, pass_all, free_all, look_at, get, get_in, sets, sets_last, env}
use types.Match.{live}
use types.Part.{agg, sub, whole}
use contract.Monad.{fact, fact_i}
use contract.Running.{tables}
use denote.Exit.{yes}
use denote.RattleType.{RattleType, owns}
use denote.RawPtr.{ptr_val}
use denote.Param.{layout}
use denote.Signature.{types_at, type_at, plain}
use denote.Steps.{nothing}
use denote.Triple.Entry.{alive}
use denote.Triple.Walked.{Stays, stay_dropped, walk_of, Goes-dropped}
use Rattle.std.proofs.raw_atomic.Walks.{proved_at, leaves}
use Rattle.std.proofs.option.Made.{Some-of, none_of}
use Rattle.handles.specs.contracts.held_run.HeldRun as held_run
use Rattle.handles.specs.contracts.handle.Handle as handle
use Rattle.handles.specs.contracts.loose.Loose as loose
use Rattle.handles.proofs.HandleValues.{alone, marked, handle_out, loose_in, ptr_good, and_true, alone_good, marked_good}
use Rattle.handles.specs.contracts.handle.held.{ended, clauses}
use Rattle.handles.specs.contracts.handle.held.Key.{name as #self}
use Rattle.handles.proofs.handle.held.Statement.{statement}
use Rattle.handles.proofs.handle.held.Code as code

pub held_spec : {M : Type 1} → statement M
held_spec 𝓤 𝓛 𝓜 𝓡 wired =
    let c = clauses 𝓛 𝓜.mem 𝓡.returns in let 𝓣 = tables 𝓤 𝓛.H 𝓜 𝓡 𝓡.env in let fn = code.function in let R : RattleType = handle.the_row in let L : RattleType = loose.the_row held_run.the_row in
    let hs : Stays (ended.signature).params ended.kept = (stay_dropped (plain (λ _. R)) yes, tt) in
    proved_at 𝓛 ended hs c 𝓜 𝓡 (Goes-dropped 𝓛 0 (plain (λ _. R)) yes (λ κs x f. refl), tt) #self fn (code.unfolded 𝓤 𝓛.H 𝓜 𝓡 wired) (λ z are.
    let Post : Val → SProp 𝓤 = (walk_of 𝓛 ended hs c).post z in let κs = z.0.0 in let qs = z.0.1 in let d = z.0.3.0 in let p = d.at in
    let Run : List Val → SProp 𝓤 = λ ws. WpFn 𝓤 𝓛.H 𝓣.C 𝓣.Λ fn ws Post in let word : Bool → Val = marked (ptr_val p) in let Out : RattleType = type_at (ended.signature).result κs in
    qed 𝓛 ((raw (alive 𝓛 ended.signature κs qs) ⊛ ‵ (owns (types_at ended.signature.params κs) z.0.3 z.0.4)) ∷ raw ((c κs z.0.3).requires z.1) ∷ []) ∵
    split ! $ drop ! $ fsplit ! $ handle_out ! d z.0.4.0
    (λ x holds is. let w = word true in keep ! (0 ∷ []) $
    suffices ! (Run (w ∷ [])) (subst (λ (us : List Val). ent 𝓤 (Run (w ∷ [])) (Run us)) (sym (λ i. is i ++ [])) (id⊢ 𝓤 (Run (w ∷ [])))) $
    enter ! 𝓣.C 𝓣.Λ fn (w ∷ []) Post $ alloc_all ! (λ l. pass_all ! refl (marked_good p true, tt) $
    sets ! (of_opd ! (get_in ! (fld ! refl (stop !)) (sub ! 0 refl (whole !)))) refl (ptr_good p) $
    sets ! (of_opd ! (get_in ! (fld ! refl (stop !)) (sub ! 1 refl (whole !)))) refl (tt, tt) $
    sets ! (of_opd ! (get ! refl)) refl (tt, tt) $
    first ! $ branches ! (get ! refl) (λ _. let made = live 1 (vcons (alone (ptr_val p)) vnil) in
    let good : T (has_ty (layout Out) made) × WT made = (and_true _ (alone_good p).0, (record { fits = lit< tt }, ((alone_good p).1, tt))) in
    let out : L.Denot = record { at = p; value = x } in
    sets ! (agg ! (and_then ! (get ! refl) (no_more !))) refl (alone_good p) $ sets_last ! (agg ! (and_then ! (lit ! tt) (and_then ! (get ! refl) (no_more !)))) refl good $
    exec ! 𝓣.C 𝓣.Λ (env fn.locals l) code.Mir.t-5 (at_ret (env fn.locals l) Post) $ sets ! (of_opd ! (get ! refl)) refl good $
    loose_in ! held_run.the_row p x $ use1 𝓛 (‵ (Out.own_val (Some out) (made ∷ []))) (Some-of 𝓛 L out (alone (ptr_val p))) $
    use0 𝓛 (raw (fact 𝓤 (d.run ≡ Some x))) (fact_i 𝓤 (d.run ≡ Some x) (emp 𝓤) holds) $ nothing ! $ nothing ! $ fjoin ! $ nothing ! $
    returns ! (look_at ! 0 refl) $ free_all ! refl $ keep ! (0 ∷ 1 ∷ 3 ∷ 2 ∷ []) $ by ! (leaves 𝓛 ended hs c z made (Some out) (tt, tt) (tt, tt))) (λ wrong. absurd wrong)))
    (λ none is. let w = word false in keep ! [] $
    suffices ! (Run (w ∷ [])) (subst (λ (us : List Val). ent 𝓤 (Run (w ∷ [])) (Run us)) (sym (λ i. is i ++ [])) (id⊢ 𝓤 (Run (w ∷ [])))) $
    enter ! 𝓣.C 𝓣.Λ fn (w ∷ []) Post $ alloc_all ! (λ l. pass_all ! refl (marked_good p false, tt) $
    sets ! (of_opd ! (get_in ! (fld ! refl (stop !)) (sub ! 0 refl (whole !)))) refl (ptr_good p) $
    sets ! (of_opd ! (get_in ! (fld ! refl (stop !)) (sub ! 1 refl (whole !)))) refl (tt, tt) $
    sets ! (of_opd ! (get ! refl)) refl (tt, tt) $
    first ! $ branches ! (get ! refl) (λ wrong. absurd wrong) (λ _. let made = live 0 vnil in let good : T (has_ty (layout Out) made) × WT made = (tt, (record { fits = lit< tt }, tt)) in
    sets_last ! (agg ! (and_then ! (lit ! tt) (no_more !))) refl good $
    exec ! 𝓣.C 𝓣.Λ (env fn.locals l) code.Mir.t-5 (at_ret (env fn.locals l) Post) $ sets ! (of_opd ! (get ! refl)) refl good $
    use0 𝓛 (‵ (Out.own_val None (made ∷ []))) (none_of 𝓛 L) $
    use0 𝓛 (raw (fact 𝓤 (d.run ≡ None))) (fact_i 𝓤 (d.run ≡ None) (emp 𝓤) none) $ nothing ! $ nothing ! $ fjoin ! $ nothing ! $
    returns ! (look_at ! 0 refl) $ free_all ! refl $ keep ! (0 ∷ 1 ∷ 3 ∷ 2 ∷ []) $ by ! (leaves 𝓛 ended hs c z made None (tt, tt) (tt, tt))))))
