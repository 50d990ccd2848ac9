use Rattle.std.proofs.Common.{IfOk, subst, sym}
use Rattle.w_rules.specs.Context.{Context}
use Rattle.w_valid.specs.Measured.{IsCodeMeasure}
use Rattle.w_valid.proofs.CodeOfFunctions.{function_answered}
use Rattle.w_valid.proofs.KnownClasses.{known_classes}
use Rattle.w_valid.proofs.functions.measure_function.Goals as goal

pub returns : goal.returns
returns c =
    let m = c.args.candidate.now in
    let x = c.in-Some.kind.now in
    let f = c.in-Some-item_at.code.now in
    let setting = c.setting-setting.result in
    let context = c.setting-setting.ensures.context m c.requires.tables in
    let known = known_classes m c.len.result setting.context context c.setting-setting.ensures.classes c.requires.keeps in
    function_answered c.measure_code.result m c.args.index x f (sym c.in-Some.ensures) (sym c.in-Some-item_at.ensures)
    (subst (λ (k : Context). IfOk c.measure_code.result (IsCodeMeasure k x f)) (rw c.len.ensures at context) (c.measure_code.ensures known))
