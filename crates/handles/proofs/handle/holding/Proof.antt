-- `holding` moves what the box owns to the handle.
use Rattle.std.proofs.Common.{◌≡◌, List, [], ◌∷◌, ◌++◌, Some, refl, sym, subst}
use mir.Val.{Val}
use mathlib.Core.Bool.{true}
use base.Logic.{SProp, ent, emp, id⊢}
use prog.Wp.{WpFn}
use types.Kit.{‵, raw, ◌⊛◌, ◌$◌, ◌∵◌, !, qed, by, keep, drop, split, fsplit, fjoin, use0, suffices}
use types.Run.{stop, fld, of_opd, true_lit, no_more, and_then, returns, enter}
use types.ByLocal.{alloc_all, pass_all, free_all, look_at, get, get_in, sets}
use types.Part.{agg, sub, whole}
use contract.Monad.{fact, fact_i}
use contract.Running.{tables}
use denote.Exit.{yes}
use denote.RattleType.{RattleType, owns}
use denote.RawPtr.{ptr_val}
use denote.Signature.{types_at, plain}
use denote.Steps.{nothing}
use denote.Triple.Entry.{alive}
use denote.Triple.Walked.{Stays, stay_dropped, walk_of, Goes-dropped}
use Rattle.std.proofs.raw_atomic.Walks.{proved_at, leaves}
use Rattle.handles.specs.contracts.held_run.HeldRun as held_run
use Rattle.handles.specs.contracts.handle.Handle as handle
use Rattle.handles.specs.contracts.loose.Loose as loose
use Rattle.handles.proofs.HandleValues.{alone, marked, handle_in, loose_out, ptr_good, alone_good, marked_good}
use Rattle.handles.specs.contracts.handle.holding.{ended, clauses}
use Rattle.handles.specs.contracts.handle.holding.Key.{name as #self}
use Rattle.handles.proofs.handle.holding.Statement.{statement}
use Rattle.handles.proofs.handle.holding.Code as code

pub holding_spec : {M : Type 1} → statement M
holding_spec 𝓤 𝓛 𝓜 𝓡 wired =
    let c = clauses 𝓛 𝓜.mem 𝓡.returns in let 𝓣 = tables 𝓤 𝓛.H 𝓜 𝓡 𝓡.env in let fn = code.function in let R : RattleType = loose.the_row held_run.the_row in
    let hs : Stays (ended.signature).params ended.kept = (stay_dropped (plain (λ _. R)) yes, tt) in
    proved_at 𝓛 ended hs c 𝓜 𝓡 (Goes-dropped 𝓛 0 (plain (λ _. R)) yes (λ κs x f. refl), tt) #self fn (code.unfolded 𝓤 𝓛.H 𝓜 𝓡 wired) (λ z are.
    let Post : Val → SProp 𝓤 = (walk_of 𝓛 ended hs c).post z in let κs = z.0.0 in let qs = z.0.1 in let d = z.0.3.0 in let p = d.at in let x = d.value in
    let Run : List Val → SProp 𝓤 = λ ws. WpFn 𝓤 𝓛.H 𝓣.C 𝓣.Λ fn ws Post in let out : (handle.the_row).Denot = record { at = p; held = true; run = Some x } in
    qed 𝓛 ((raw (alive 𝓛 ended.signature κs qs) ⊛ ‵ (owns (types_at ended.signature.params κs) z.0.3 z.0.4)) ∷ raw ((c κs z.0.3).requires z.1) ∷ []) ∵
    split ! $ drop ! $ fsplit ! $ loose_out ! held_run.the_row d z.0.4.0 (λ is. keep ! (0 ∷ []) $
    suffices ! (Run (alone (ptr_val p) ∷ [])) (subst (λ (us : List Val). ent 𝓤 (Run (alone (ptr_val p) ∷ [])) (Run us)) (sym (λ i. is i ++ [])) (id⊢ 𝓤 (Run (alone (ptr_val p) ∷ [])))) $
    enter ! 𝓣.C 𝓣.Λ fn (alone (ptr_val p) ∷ []) Post $ alloc_all ! (λ l. pass_all ! refl (alone_good p, tt) $
    sets ! (of_opd ! (get_in ! (fld ! refl (stop !)) (sub ! 0 refl (whole !)))) refl (ptr_good p) $
    sets ! (agg ! (and_then ! (get ! refl) (and_then ! (true_lit !) (no_more !)))) refl (marked_good p true) $
    handle_in ! p (Some x) $ use0 𝓛 (raw (fact 𝓤 (out.run ≡ Some x))) (fact_i 𝓤 (out.run ≡ Some x) (emp 𝓤) refl) $ nothing ! $ nothing ! $ fjoin ! $ nothing ! $
    returns ! (look_at ! 0 refl) $ free_all ! refl $ keep ! (0 ∷ 1 ∷ 3 ∷ 2 ∷ []) $ by ! (leaves 𝓛 ended hs c z (marked (ptr_val p) true) out (tt, tt) (tt, tt)))))
