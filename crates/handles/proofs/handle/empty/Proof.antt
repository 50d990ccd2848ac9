-- `empty` owns nothing.
use Rattle.std.proofs.Common.{◌≡◌, [], ◌∷◌, None, refl, lit<}
use mathlib.Core.Bool.{false}
use mir.Val.{Val, vnull}
use base.Logic.{SProp, emp}
use types.Kit.{raw, ◌$◌, ◌∵◌, !, qed, by, keep, drop, use0}
use types.Run.{lit, false_lit, no_more, and_then, returns, enter}
use types.ByLocal.{alloc_all, pass_all, free_all, look_at, sets}
use types.Part.{agg}
use contract.Monad.{fact, fact_i}
use contract.Running.{tables}
use denote.RawPtr.{null_ptr}
use denote.Steps.{nothing}
use denote.Triple.Entry.{on_entry}
use denote.Triple.Walked.{walk_of}
use Rattle.std.proofs.raw_atomic.Walks.{proved_at, leaves}
use Rattle.handles.proofs.HandleValues.{marked, handle_in}
use Rattle.handles.specs.contracts.handle.Handle as handle
use Rattle.handles.specs.contracts.handle.empty.{ended, clauses}
use Rattle.handles.specs.contracts.handle.empty.Key.{name as #self}
use Rattle.handles.proofs.handle.empty.Statement.{statement}
use Rattle.handles.proofs.handle.empty.Code as code

pub empty_spec : {M : Type 1} → statement M
empty_spec 𝓤 𝓛 𝓜 𝓡 wired =
    let c = clauses 𝓛 𝓜.mem 𝓡.returns in let 𝓣 = tables 𝓤 𝓛.H 𝓜 𝓡 𝓡.env in let fn = code.function in
    proved_at 𝓛 ended tt c 𝓜 𝓡 tt #self fn (code.unfolded 𝓤 𝓛.H 𝓜 𝓡 wired) (λ z are.
    let Post : Val → SProp 𝓤 = (walk_of 𝓛 ended tt c).post z in let κs = z.0.0 in let qs = z.0.1 in
    let out : (handle.the_row).Denot = record { at = null_ptr; held = false; run = None } in
    qed 𝓛 (raw (on_entry 𝓛 ended.signature κs qs z.0.3 z.0.4) ∷ raw ((c κs z.0.3).requires z.1) ∷ []) ∵ drop ! $ drop ! $
    enter ! 𝓣.C 𝓣.Λ fn [] Post $ alloc_all ! (λ l. pass_all ! refl tt $
    sets ! (agg ! (and_then ! (lit ! tt) (and_then ! (false_lit !) (no_more !)))) refl (tt, (record { fits = lit< tt }, (tt, tt))) $
    nothing ! $ handle_in ! null_ptr None $ nothing ! $ nothing ! $
    returns ! (look_at ! 0 refl) $ free_all ! refl $
    use0 𝓛 (raw (fact 𝓤 (out.run ≡ None))) (fact_i 𝓤 (out.run ≡ None) (emp 𝓤) refl) $ keep ! (1 ∷ 2 ∷ 3 ∷ 0 ∷ []) $
    by ! (leaves 𝓛 ended tt c z (marked vnull false) out tt tt)))
