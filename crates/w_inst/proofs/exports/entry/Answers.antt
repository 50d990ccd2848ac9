use Rattle.std.proofs.Common.{◌≡◌, sym, ap, ◌∙◌, arith, List, ℕ, get_or}
use Rattle.std.specs.Prelude.{true, false, codes}
use Rattle.std.specs.Str.{bytes_eq}
use Rattle.std.proofs.lemmas.List.{drop_all}
use Rattle.w_syntax.specs.declared.module.Export.{Export}
use Rattle.w_reduce.specs.Start.{entry_in, entry_of}
use Rattle.w_inst.proofs.Entries.{entry_here, entry_later}
use Rattle.w_inst.proofs.exports.entry.Goals as goal

pub loop-export-init : goal.loop-export-init
loop-export-init c = ap (entry_in c.args.program.now) c.as_slice-export-items.ensures

pub returns-then-eq : goal.returns-then-eq
returns-then-eq c =
    let m = c.args.program.now in
    let xs = c.as_slice-export-items.result.now in
    let named : bytes_eq (get_or xs c.loop-export.export-index c.export-item.result).name (codes "main") ≡ true =
    ap (λ (x : Export). bytes_eq x.name (codes "main")) (sym c.export-item.is) ∙ ap (λ (n : List ℕ). bytes_eq n (codes "main")) (sym c.as_str.ensures) ∙ sym c.if-eq.ensures in
    c.entry_of.ensures
    ∙ ap (λ (x : Export). entry_of m x.index) c.export-item.is
    ∙ sym (entry_here m xs c.loop-export.export-index c.export-item.result c.loop-export-test.true named)
    ∙ c.loop-export.invariant

pub loop-export-preserved : goal.loop-export-preserved
loop-export-preserved c =
    let m = c.args.program.now in
    let xs = c.as_slice-export-items.result.now in
    let other : bytes_eq (get_or xs c.loop-export.export-index c.export-item.result).name (codes "main") ≡ false =
    ap (λ (x : Export). bytes_eq x.name (codes "main")) (sym c.export-item.is) ∙ ap (λ (n : List ℕ). bytes_eq n (codes "main")) (sym c.as_str.ensures) ∙ sym c.if-eq.ensures in
    entry_later m xs c.loop-export.export-index c.export-item.result c.loop-export-test.true other ∙ c.loop-export.invariant

pub returns : goal.returns
returns c =
    ap (entry_in c.args.program.now) (sym (drop_all c.loop-export.export-index c.as_slice-export-items.result.now (omega arith))) ∙ c.loop-export.invariant
