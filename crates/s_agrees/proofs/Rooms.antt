-- How many locals functions and handlers have: one for each name that they bind, and their temporaries.
use Rattle.std.proofs.Common.{◌≡◌, ℕ, zero, suc, ◌+◌, List, [], ◌∷◌, ◌++◌, map, length, replicate, refl, ap, ◌∙◌, arith, length-append}
use Rattle.w_types.specs.declared.types.ValType.{ValType}
use Rattle.w_types.specs.declared.types.ValType.TheVariants.{I64}
use Rattle.w_syntax.specs.declared.locals.LocalRun.{LocalRun}
use Rattle.w_rules.specs.Bodies.{types_of_runs}
use Rattle.w_reduce.specs.Calls.{defaults}
use Rattle.w_reduce.specs.Values.{default_of}
use Rattle.s_syntax.specs.declared.name.Name.{Name}
use Rattle.s_syntax.specs.declared.script.Parameter.{Parameter}
use Rattle.s_syntax.specs.declared.script.Function.{Function}
use Rattle.s_syntax.specs.declared.script.Handler.{Handler}
use Rattle.s_syntax.specs.declared.script.Declaration.{Declaration}
use Rattle.s_check.specs.Scopes.{Bound, parameter}
use Rattle.s_code.specs.Places.{run, name_runs, locals_for, binds_in, function_layout, function_locals, return_names, clauses_names, handler_locals}
use Rattle.s_code.specs.Temporaries.{high_block}
use Rattle.w_rules.proofs.JoinedTypes.{types_of-joined}
use Rattle.s_agrees.proofs.StandsFor.{handler_high, handler_room}

replicated : {A : Type 0} (n : ℕ) (a : A) → length (replicate n a) ≡ n
replicated zero a = refl
replicated (suc n) a = ap suc (replicated n a)

-- locals begin with as many values as they have types
as_many : (ls : List LocalRun) → length (defaults ls) ≡ length (types_of_runs ls)
as_many [] = refl
as_many (l ∷ ls) =
    let a = length-append (replicate l.count (default_of l.kind)) (defaults ls) in
    let b = length-append (replicate l.count l.kind) (types_of_runs ls) in
    let c = replicated l.count (default_of l.kind) in
    let d = replicated l.count l.kind in
    let e = as_many ls in
    omega (arith, a, b, c, d, e)

-- of names, and of so many temporaries
many_types : (bs : List Bound) (n : ℕ) → length (types_of_runs (name_runs bs ++ run I64 n ∷ [])) ≡ length bs + n
many_types [] n =
    let a = length-append (replicate n I64) [] in
    let b = replicated n I64 in
    omega (arith, a, b)
many_types (b ∷ bs) n = let e = many_types bs n in omega (arith, e)

-- joining the runs adds and loses none
pub many_locals : (bs : List Bound) (n : ℕ) → length (defaults (locals_for bs n)) ≡ length bs + n
many_locals bs n =
    as_many (locals_for bs n) ∙ ap (λ (ts : List ValType). length ts) (types_of-joined (name_runs bs ++ run I64 n ∷ [])) ∙ many_types bs n

pub many_parameters : (ps : List Parameter) → length (map parameter ps) ≡ length ps
many_parameters [] = refl
many_parameters (p ∷ ps) = ap suc (many_parameters ps)

-- a function's, behind its parameters
pub function_room : (ds : List Declaration) (g : Function) → (function_layout ds g).temporaries + high_block g.body ≡ length g.parameters + length (defaults (function_locals ds g))
function_room ds g =
    let a = length-append (map parameter g.parameters) (binds_in ds g.body) in
    let b = many_parameters g.parameters in
    let c = many_locals (binds_in ds g.body) (high_block g.body) in
    omega (arith, a, b, c)

-- a handler's, behind its parameters and what is handled
pub handler_room_is : (ds : List Declaration) (h : Name) (i : Handler) → handler_room ds h i ≡ suc (length i.parameters) + length (defaults (handler_locals ds h i))
handler_room_is ds h i =
    let a = length-append (return_names ds i) (clauses_names ds h i.clauses) in
    let b = many_locals (return_names ds i ++ clauses_names ds h i.clauses) (handler_high i) in
    omega (arith, a, b)
