use Rattle.std.proofs.Common.{◌↔◌, ℕ, ◌-◌, length, sym, ap, subst}
use Rattle.std.specs.Prelude.{IsTrue}
use Rattle.std.proofs.lemmas.Result.{IfOk-weaker}
use Rattle.w_rules.specs.Types.{IsValidType}
use Rattle.w_rules.specs.Valid.{GlobalValid}
use Rattle.w_rules.specs.View.{context_in}
use Rattle.w_items.proofs.GlobalsBelow.{cut_below, decided}
use Rattle.w_items.proofs.globals.is_valid.Goals as goal

pub returns : goal.returns
returns c =
    let m = c.args.cx.now.candidate.now in
    let i = c.args.index in
    let cut = cut_below m (context_in c.args.cx.now.context) i _ c.requires.context (ap (λ (k : ℕ). length c.args.cx.now.context.globals.now - k) c.len.ensures) in
    let valid = subst (λ (n : ℕ). IsValidType n c.in-Some.global.now.kind.kind) c.type_count.ensures (sym c.if-not-has_type.ensures) in
    let d = decided m i c.in-Some.global.now (sym c.in-Some.ensures) valid _ cut in
    IfOk-weaker c.is_const_typed.result _ (λ typed. IsTrue typed ↔ GlobalValid m i)
    (λ typed h. (λ t. d.0 (h.0 t), λ g. h.1 (d.1 g))) c.is_const_typed.ensures
