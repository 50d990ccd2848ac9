use Rattle.std.proofs.Common.{List, ◌++◌, ap, ◌∙◌, rules}
use Rattle.w_syntax.specs.declared.module.Import.{Import}
use Rattle.w_syntax.specs.declared.module.Module.{Module}
use Rattle.w_link.specs.Resolved.{Instance}
use Rattle.w_linked.specs.Linked.{host_imports}
use Rattle.w_linker.proofs.OneByOne.{host_imports_same}
use Rattle.w_linker.proofs.program.Declarations.add.Goals as goal

pub returns-clause-added : goal.returns-clause-added
returns-clause-added c =
    let m : Module = c.args.module.now in
    let n = c.instance.inside.types in
    let others = c.replace-imports.new.dest in
    record {
      imports =
          c.in_ok-append_imports.ensures
          ∙ ap (λ (l : List Import). c.args.self.now.imports.items ++ l)
          (ap (host_imports n (record m { imports = others })) c.replace-imports.ensures.value ∙ host_imports_same n m others m.imports
          ∙ ap (λ (i : Instance). host_imports i.types m m.imports) c.instance.view_is);
      types = search rules;
      functions = search rules;
      exports = search rules;
    }
