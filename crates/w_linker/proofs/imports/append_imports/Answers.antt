use Rattle.std.proofs.Common.{List, ◌++◌, sym, ap, ◌∙◌, append_assoc}
use Rattle.w_syntax.specs.declared.module.Import.{Import}
use Rattle.w_reduce.specs.Imports.{printer_of}
use Rattle.w_linked.specs.Linked.{host_import, host_imports}
use Rattle.w_linker.proofs.OneByOne.{host_imports_more}
use Rattle.w_linker.proofs.imports.append_imports.Goals as goal

pub loop-import-preserved : goal.loop-import-preserved
loop-import-preserved c =
    let m = c.args.module.now in
    let i = c.in-Some.import in
    let old = c.args.all.now.items in
    c.in_ok-append_import.ensures
    ∙ ap (λ (l : List Import). l ++ host_import c.args.n i i.kind (printer_of m i)) c.loop-import.invariant
    ∙ append_assoc old (host_imports c.args.n m c.loop-import.yielded) (host_import c.args.n i i.kind (printer_of m i))
    ∙ ap (λ (l : List Import). old ++ l) (sym (host_imports_more c.args.n m c.loop-import.yielded i))
