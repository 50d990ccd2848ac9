-- The typing of a global, in the context that has only globals of lower index.
use Rattle.std.proofs.Common.{◌≡◌, ◌↔◌, ℕ, ◌+◌, ◌-◌, List, ◌++◌, length, take, map, Some, sym, ap, subst, ◌∙◌, arith}
use Rattle.std.specs.Prelude.{slice_get}
use Rattle.std.proofs.lemmas.List.{length-append, length-map}
use Rattle.std.proofs.Math.Seq.{take-append-add}
use Rattle.w_types.specs.Groups.{types_of}
use Rattle.w_syntax.specs.declared.module.GlobalType.{GlobalType}
use Rattle.w_syntax.specs.declared.module.GlobalVariable.{GlobalVariable}
use Rattle.w_syntax.specs.declared.module.Module.{Module}
use Rattle.w_rules.specs.Bodies.{ConstTyped}
use Rattle.w_rules.specs.Context.{Context}
use Rattle.w_rules.specs.Spaces.{as_global, imports_by, globals_of, globals_below, context_of, context_below}
use Rattle.w_rules.specs.Types.{IsValidType}
use Rattle.w_rules.specs.Valid.{GlobalValid}

length-kinds : (gs : List GlobalVariable) → length (map (λ (g : GlobalVariable). g.kind) gs) ≡ length gs
length-kinds gs = simp length-map

-- of the globals of a module, those below one that it defines
front : (m : Module) (i n : ℕ) → n ≡ length (globals_of m) - length m.globals → take (n + i) (globals_of m) ≡ globals_below m i
front m i n e =
    let imports : List GlobalType = imports_by as_global m in
    let own : List GlobalType = map (λ (g : GlobalVariable). g.kind) m.globals in
    let same : n ≡ length imports = omega (arith, length-append imports own, length-kinds m.globals, e) in
    ap (λ (k : ℕ). take (k + i) (imports ++ own)) same ∙ take-append-add imports own i

-- the context of a module, with these globals alone
abbrev pub with_globals : Context → List GlobalType → Context
with_globals c gs = record c { globals = gs }

-- what a global begins with is typed in the context that is cut before it
pub cut_below : (m : Module) (c : Context) (i n : ℕ) → c ≡ context_of m → n ≡ length c.globals - length m.globals
    → with_globals c (take (n + i) c.globals) ≡ context_below m i
cut_below m c i n e f =
    let gs : c.globals ≡ globals_of m = ap (λ (d : Context). d.globals) e in
    let few : n ≡ length (globals_of m) - length m.globals = omega (arith, ap length gs, f) in
    ap (λ (d : Context). with_globals d (take (n + i) c.globals)) e ∙ ap (with_globals (context_of m)) (ap (take (n + i)) gs ∙ front m i n few)

-- of a global whose type is valid, what it begins with decides
pub decided : (m : Module) (i : ℕ) (g : GlobalVariable) → slice_get m.globals i ≡ Some g → IsValidType (length (types_of m.types)) g.kind.kind
    → (c : Context) → c ≡ context_below m i → ConstTyped c g.init g.kind.kind ↔ GlobalValid m i
decided m i g is valid c e = (
  λ t. record { global = g; is = is; valid = valid; init = subst (λ (d : Context). ConstTyped d g.init g.kind.kind) e t },
  λ t.
      let same : t.global ≡ g = let f = t.is in cc in
      subst (λ (d : Context). ConstTyped d g.init g.kind.kind) (sym e) (subst (λ (x : GlobalVariable). ConstTyped (context_below m i) x.init x.kind.kind) same t.init),
)
