-- A module of these parts.
use Rattle.std.proofs.Common.{◌≡◌, ℕ, List, [], ◌∷◌, ◌++◌, map, ap, ◌∙◌}
use Rattle.std.specs.Prelude.{Option}
use Rattle.w_types.specs.declared.types.CompType.{CompType}
use Rattle.w_types.specs.declared.types.RecGroup.{RecGroup}
use Rattle.w_syntax.specs.declared.module.Data.{Data}
use Rattle.w_syntax.specs.declared.module.Elem.{Elem}
use Rattle.w_syntax.specs.declared.module.Export.{Export}
use Rattle.w_syntax.specs.declared.module.Func.{Func}
use Rattle.w_syntax.specs.declared.module.GlobalVariable.{GlobalVariable}
use Rattle.w_syntax.specs.declared.module.Import.{Import}
use Rattle.w_syntax.specs.declared.module.Limits.{Limits}
use Rattle.w_syntax.specs.declared.module.Module.{Module}
use Rattle.w_syntax.specs.declared.module.Table.{Table}
use Rattle.w_syntax.specs.declared.module.Tag.{Tag}
use Rattle.w_syntax.specs.Module.{empty_module}
use Rattle.s_syntax.specs.declared.script.Declaration.{Declaration}
use Rattle.s_index.specs.Handled.{handled}
use Rattle.s_index.specs.Indices.{type_table}
use Rattle.s_code.specs.Lowered.{function_type_of, handler_type_of, table_of, tag_of, group_tag, function_code_of, handler_code_of, for_each, grouped, printer_import, main_export, declared, lowered_all}
use Rattle.s_lower.specs.Views.{untyped}

of_parts : List RecGroup → List Import → List ℕ → List Table → List Limits → List Tag → List GlobalVariable → List Export → Option ℕ → List Elem → List Func → List Data → Module
of_parts ts xs fs tables memories tags globals exports start elements codes datas = record {
  types = ts;
  imports = xs;
  functions = fs;
  tables = tables;
  memories = memories;
  tags = tags;
  globals = globals;
  exports = exports;
  start = start;
  elements = elements;
  codes = codes;
  datas = datas;
}

alike : (ts ts' : List RecGroup) (xs xs' : List Import) (fs fs' : List ℕ) (tables tables' : List Table) (memories memories' : List Limits) (tags tags' : List Tag) (globals globals' : List GlobalVariable) (exports exports' : List Export) (start start' : Option ℕ) (elements elements' : List Elem) (codes codes' : List Func) (datas datas' : List Data)
    → ts ≡ ts' → xs ≡ xs' → fs ≡ fs' → tables ≡ tables' → memories ≡ memories' → tags ≡ tags' → globals ≡ globals' → exports ≡ exports' → start ≡ start' → elements ≡ elements' → codes ≡ codes' → datas ≡ datas'
    → of_parts ts xs fs tables memories tags globals exports start elements codes datas ≡ of_parts ts' xs' fs' tables' memories' tags' globals' exports' start' elements' codes' datas'
alike ts ts' xs xs' fs fs' tables tables' memories memories' tags tags' globals globals' exports exports' start start' elements elements' codes codes' datas datas' e1 e2 e3 e4 e5 e6 e7 e8 e9 e10 e11 e12 =
    ap (λ (x : List RecGroup). of_parts x xs fs tables memories tags globals exports start elements codes datas) e1
    ∙ ap (λ (x : List Import). of_parts ts' x fs tables memories tags globals exports start elements codes datas) e2
    ∙ ap (λ (x : List ℕ). of_parts ts' xs' x tables memories tags globals exports start elements codes datas) e3
    ∙ ap (λ (x : List Table). of_parts ts' xs' fs' x memories tags globals exports start elements codes datas) e4
    ∙ ap (λ (x : List Limits). of_parts ts' xs' fs' tables' x tags globals exports start elements codes datas) e5
    ∙ ap (λ (x : List Tag). of_parts ts' xs' fs' tables' memories' x globals exports start elements codes datas) e6
    ∙ ap (λ (x : List GlobalVariable). of_parts ts' xs' fs' tables' memories' tags' x exports start elements codes datas) e7
    ∙ ap (λ (x : List Export). of_parts ts' xs' fs' tables' memories' tags' globals' x start elements codes datas) e8
    ∙ ap (λ (x : Option ℕ). of_parts ts' xs' fs' tables' memories' tags' globals' exports' x elements codes datas) e9
    ∙ ap (λ (x : List Elem). of_parts ts' xs' fs' tables' memories' tags' globals' exports' start' x codes datas) e10
    ∙ ap (λ (x : List Func). of_parts ts' xs' fs' tables' memories' tags' globals' exports' start' elements' x datas) e11
    ∙ ap (λ (x : List Data). of_parts ts' xs' fs' tables' memories' tags' globals' exports' start' elements' codes' x) e12

-- the parts put into an empty module
pub assembled : (ds : List Declaration) (m : Module) (is : List Import) (fs gs : List ℕ) (tables : List Table) (tags : List Tag) (exports : List Export) (elements : List Elem) (codes all : List Func)
    → m ≡ empty_module → is ≡ m.imports ++ printer_import ∷ []
    → fs ≡ m.functions ++ for_each (λ (d : Declaration). function_type_of ds d.definition) ds → gs ≡ fs ++ for_each (λ (d : Declaration). handler_type_of ds d.definition) ds
    → tables ≡ m.tables ++ for_each (λ (d : Declaration). table_of d.definition) ds
    → tags ≡ m.tags ++ (for_each (λ (d : Declaration). tag_of ds d.definition) ds ++ group_tag ∷ []) → exports ≡ m.exports ++ main_export ds ∷ [] → elements ≡ m.elements ++ declared ds (handled ds)
    → codes ≡ m.codes ++ for_each (λ (d : Declaration). function_code_of ds d.definition) ds → all ≡ codes ++ for_each (λ (d : Declaration). handler_code_of ds d.name d.definition) ds
    → record m { imports = is; functions = gs; tables = tables; tags = tags; exports = exports; elements = elements; codes = all } ≡ untyped ds
unfolding of_parts
assembled ds m is fs gs tables tags exports elements codes all e e1 e2 e3 e0 e4 e5 e6 e7 e8 =
    alike m.types _ is _ gs _ tables _ m.memories _ tags _ m.globals _ exports _ m.start _ elements _ all _ m.datas _
    (ap (λ (x : Module). x.types) e) (e1 ∙ ap (λ (x : Module). x.imports ++ printer_import ∷ []) e)
    (e3 ∙ ap (λ (xs : List ℕ). xs ++ for_each (λ (d : Declaration). handler_type_of ds d.definition) ds) (e2 ∙ ap (λ (x : Module). x.functions ++ for_each (λ (d : Declaration). function_type_of ds d.definition) ds) e))
    (e0 ∙ ap (λ (x : Module). x.tables ++ for_each (λ (d : Declaration). table_of d.definition) ds) e) (ap (λ (x : Module). x.memories) e) (e4 ∙ ap (λ (x : Module). x.tags ++ (for_each (λ (d : Declaration). tag_of ds d.definition) ds ++ group_tag ∷ [])) e) (ap (λ (x : Module). x.globals) e)
    (e5 ∙ ap (λ (x : Module). x.exports ++ main_export ds ∷ []) e) (ap (λ (x : Module). x.start) e) (e6 ∙ ap (λ (x : Module). x.elements ++ declared ds (handled ds)) e)
    (e8 ∙ ap (λ (xs : List Func). xs ++ for_each (λ (d : Declaration). handler_code_of ds d.name d.definition) ds) (e7 ∙ ap (λ (x : Module). x.codes ++ for_each (λ (d : Declaration). function_code_of ds d.definition) ds) e)) (ap (λ (x : Module). x.datas) e)

-- the types put into it too
pub completed : (ds : List Declaration) (m : Module) (ts : List CompType) (gs : List RecGroup) → m ≡ untyped ds → gs ≡ grouped ts → ts ≡ type_table ds → record m { types = gs } ≡ lowered_all ds
completed ds m ts gs e g t = ap (λ (x : Module). record x { types = gs }) e ∙ ap (λ (xs : List RecGroup). record (lowered_all ds) { types = xs }) (g ∙ ap (λ (us : List CompType). grouped us) t)
