-- The canonical spelling of the module of a script is a spelling of it; so the script agrees with its module.
use Rattle.std.proofs.Common.{◌≡◌, ◌≤◌, List, [], ◌∷◌, length, refl, arith, length-append}
use Rattle.w_syntax.specs.Spells.{Spells}
use Rattle.w_encode.specs.Canon.{Canon}
use Rattle.w_encode.proofs.SpelledModules.{parts_spelled}
use Rattle.s_syntax.specs.declared.name.Name.{Name}
use Rattle.s_syntax.specs.declared.script.Definition.{Definition}
use Rattle.s_syntax.specs.declared.script.Definition.TheVariants as definition
use Rattle.s_syntax.specs.declared.script.Declaration.{Declaration}
use Rattle.s_syntax.specs.declared.script.Script.{Script}
use Rattle.s_check.specs.Refusal.{Good}
use Rattle.s_check.specs.Size.{Size, size_limit}
use Rattle.s_code.specs.Lowered.{function_type_of, handler_type_of, function_code_of, handler_code_of, for_each, lowered}
use Rattle.s_valid.proofs.LoweredValid.{lowered_valid}
use Rattle.s_valid.proofs.ModuleLimits.{within}
use Rattle.s_valid.proofs.ShortSpelling.{short_spelling}
use Rattle.s_valid.proofs.Starts.{starts}
use Rattle.s_agrees.specs.Agrees.{ScriptsAgree}
use Rattle.w_encode.specs.Spelled.{PartsSpelled}
use Rattle.s_agrees.proofs.SpelledParts.{types_spelled, imports_spelled, functions_spelled, tables_spelled, tags_spelled, exports_spelled, elements_spelled, few_codes}
use Rattle.s_agrees.proofs.SpelledHandlers.{codes_spelled}
use Rattle.s_agrees.proofs.Follow.{runs_follow}

-- ## Each function has its code

-- where each declaration adds as many to one list as to another, all do
as_many : {A B : Type 0} (make : Declaration → List A) (other : Declaration → List B) → ((d : Declaration) → length (make d) ≡ length (other d)) → (ds : List Declaration)
    → length (for_each make ds) ≡ length (for_each other ds)
as_many make other same [] = refl
as_many make other same (d ∷ ds) =
    let e = same d in
    let r = as_many make other same ds in
    let l = length-append (make d) (for_each make ds) in
    let m = length-append (other d) (for_each other ds) in
    omega (arith, e, r, l, m)

function_paired : (ds : List Declaration) (d : Definition) → length (function_type_of ds d) ≡ length (function_code_of ds d)
function_paired ds (definition.Effect n) = refl
function_paired ds (definition.Function f) = refl
function_paired ds (definition.Handler i) = refl
function_paired ds (definition.Slots s) = refl

handler_paired : (ds : List Declaration) (h : Name) (d : Definition) → length (handler_type_of ds d) ≡ length (handler_code_of ds h d)
handler_paired ds h (definition.Effect n) = refl
handler_paired ds h (definition.Function f) = refl
handler_paired ds h (definition.Handler i) = refl
handler_paired ds h (definition.Slots s) = refl

paired : (p : Script) → length (lowered p).functions ≡ length (lowered p).codes
paired p =
    let ds = p.declarations in
    let f = as_many (λ (d : Declaration). function_type_of ds d.definition) (λ (d : Declaration). function_code_of ds d.definition) (λ d. function_paired ds d.definition) ds in
    let h = as_many (λ (d : Declaration). handler_type_of ds d.definition) (λ (d : Declaration). handler_code_of ds d.name d.definition) (λ d. handler_paired ds d.name d.definition) ds in
    let l = length-append (for_each (λ (d : Declaration). function_type_of ds d.definition) ds) (for_each (λ (d : Declaration). handler_type_of ds d.definition) ds) in
    let m = length-append (for_each (λ (d : Declaration). function_code_of ds d.definition) ds) (for_each (λ (d : Declaration). handler_code_of ds d.name d.definition) ds) in
    omega (arith, f, h, l, m)

-- ## Modules

module _ (p : Script) (good : Good p) (size : Size p ≤ size_limit) where
  parts : PartsSpelled (lowered p)
  parts = record {
    types = types_spelled p good size;
    imports = imports_spelled p;
    functions = functions_spelled p good size;
    tables = tables_spelled p good size;
    memories = (omega arith, tt);
    tags = tags_spelled p good size;
    globals = (omega arith, tt);
    exports = exports_spelled p good size;
    start = tt;
    elements = elements_spelled p good size;
    paired = paired p;
    few_codes = few_codes p size;
    codes = codes_spelled p good size;
    datas = (omega arith, tt);
  }

  pub module_spelled : Spells (Canon (lowered p)) (lowered p)
  module_spelled = let short = short_spelling p good size in parts_spelled (lowered p) parts (omega (arith, short))

pub scripts_agree : ScriptsAgree
scripts_agree p good size = record {
  spelled = module_spelled p good size;
  short = short_spelling p good size;
  valid = lowered_valid p good;
  within = within p good size;
  begins = starts p good;
  follows = runs_follow p good;
}
