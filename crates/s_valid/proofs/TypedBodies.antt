-- The bodies of functions are typed.
use Rattle.std.proofs.Common.{◌≡◌, ℕ, ◌+◌, ◌≤◌, List, [], ◌∷◌, ◌++◌, map, length, replicate, Some, if◌then◌else◌, refl, sym, ap, ◌∙◌, subst, arith, append_assoc, length-append}
use Rattle.std.specs.Str.{bytes_eq}
use Rattle.w_types.specs.declared.types.ValType.{ValType}
use Rattle.w_types.specs.declared.types.ValType.TheVariants.{I64}
use Rattle.w_rules.specs.Bodies.{BodyTyped}
use Rattle.w_rules.specs.Context.{Context}
use Rattle.w_rules.specs.Spaces.{in_body}
use Rattle.s_syntax.specs.declared.name.Name.{Name}
use Rattle.s_syntax.specs.declared.script.Function.{Function}
use Rattle.s_syntax.specs.declared.script.Handler.{Handler}
use Rattle.s_syntax.specs.declared.script.Definition.{Definition}
use Rattle.s_syntax.specs.declared.script.Definition.TheVariants as definition
use Rattle.s_syntax.specs.declared.script.Declaration.{Declaration}
use Rattle.s_syntax.specs.declared.script.Script.{Script}
use Rattle.s_check.specs.Definitions.{definition_of, function_of, handler_of}
use Rattle.s_check.specs.Scopes.{parameter}
use Rattle.s_index.specs.Handled.{handled_in_definition, handled_in_block, handled_in_clauses, handled_names}
use Rattle.s_index.specs.Types.{val_types}
use Rattle.s_code.specs.Layouts.{Owner, numbered}
use Rattle.s_code.specs.Places.{binds_in, function_names, function_layout, function_locals}
use Rattle.s_code.specs.Statements.{body}
use Rattle.s_code.specs.Temporaries.{high_block}
use Rattle.s_meaning.specs.Typing.{ScriptTyped}
use Rattle.s_meaning.proofs.BoundInTurn.{among_left, among_right}
use Rattle.s_meaning.proofs.Good.{is_function, is_handler}
use Rattle.s_meaning.proofs.Scopes.{bool_of}
use Rattle.s_valid.specs.Offers.{Offers}
use Rattle.s_valid.proofs.LayoutTypes.{Scoped, AllHandled, EachTyped, offers_in_body}
use Rattle.s_valid.proofs.LocalTypes.{name_types, all_types, types_of_parameters, as_many_types, types_appended, body_of_rest, Segment, segment_there, temporaries_there, Stands, stands_one, placed_names, placed_lets}
use Rattle.s_valid.proofs.TypedStatements.{body_typed}

-- ## Functions that definitions handle

defined_handled : (ds : List Declaration) (f : Name) (d : Definition) → definition_of ds f ≡ Some d → AllHandled ds (handled_in_definition d)
defined_handled [] f d e = absurd (cc)
defined_handled (c ∷ ds) f d e =
    bool_of (bytes_eq c.name f) (λ q. (if q then Some c.definition else definition_of ds f) ≡ Some d → AllHandled (c ∷ ds) (handled_in_definition d))
    (λ q here. let P : Definition → Type 0 = λ b. AllHandled (c ∷ ds) (handled_in_definition b) in let same : c.definition ≡ d = cc in
    subst P same (record { handled = λ x h. among_left x (handled_in_definition c.definition) (handled_names ds) h }))
    (λ q there. let later = defined_handled ds f d there in record { handled = λ x h. among_right x (handled_in_definition c.definition) (handled_names ds) (later.handled x h) })
    e

-- what the body of a function handles is handled
function_handled : (ds : List Declaration) (f : Name) (g : Function) → function_of ds f ≡ Some g → AllHandled ds (handled_in_block g.body)
function_handled ds f g e = defined_handled ds f (definition.Function g) (is_function (definition_of ds f) g e)

-- and what the bodies of a handler do
pub handler_handled : (ds : List Declaration) (h : Name) (i : Handler) → handler_of ds h ≡ Some i → AllHandled ds (handled_in_block i.return_clause.body ++ handled_in_clauses i.clauses)
handler_handled ds h i e = defined_handled ds h (definition.Handler i) (is_handler (definition_of ds h) i e)

-- ## Functions

-- the names of a function have locals
function_stands : (ds : List Declaration) (g : Function) → Stands (val_types g.parameters ++ all_types (binds_in ds g.body) (high_block g.body)) (numbered 0 (function_names ds g)) (function_names ds g)
function_stands ds g =
    let ps = map parameter g.parameters in let n = high_block g.body in let bs = binds_in ds g.body in
    let P : List ValType → Type 0 = λ ls. Segment ls 0 (function_names ds g) in
    let one : name_types (ps ++ bs) ++ replicate n I64 ≡ val_types g.parameters ++ all_types bs n =
    ap (λ (z : List ValType). z ++ replicate n I64) (types_appended ps bs) ∙ append_assoc (name_types ps) (name_types bs) (replicate n I64)
    ∙ ap (λ (z : List ValType). z ++ all_types bs n) (sym (types_of_parameters g.parameters)) in
    stands_one (val_types g.parameters ++ all_types bs n) 0 (function_names ds g) (subst P one (segment_there [] (replicate n I64) (function_names ds g)))

function_place : (ds : List Declaration) (g : Function) → length (function_names ds g) ≡ length (val_types g.parameters) + length (binds_in ds g.body)
function_place ds g =
    let ps = map parameter g.parameters in
    length-append ps (binds_in ds g.body) ∙ ap (λ (k : ℕ). k + length (binds_in ds g.body)) (sym (as_many_types ps) ∙ ap (λ (z : List ValType). length z) (sym (types_of_parameters g.parameters)))

-- the layout of a function stands in its body
function_scoped : (ds : List Declaration) (C : Context) (g : Function) → Offers ds C
    → Scoped ds (function_layout ds g) (map parameter g.parameters) (high_block g.body) 0 (in_body C (val_types g.parameters ++ all_types (binds_in ds g.body) (high_block g.body)) (I64 ∷ []))
function_scoped ds C g o = record {
  offers = offers_in_body ds C (val_types g.parameters ++ all_types (binds_in ds g.body) (high_block g.body)) (I64 ∷ []) o;
  names = placed_names (function_layout ds g) (map parameter g.parameters) (binds_in ds g.body) (function_stands ds g);
  locals = (function_stands ds g).locals;
  temporaries = λ t h. temporaries_there (val_types g.parameters) (binds_in ds g.body) (high_block g.body) t (length (function_names ds g)) h (function_place ds g);
  results = refl;
  loop = λ w e. absurd (no_owner w e);
}
  where
    no_owner : (w : Owner) → (function_layout ds g).owner ≡ Some w → ⊥
    no_owner w e = cc

-- the body of a function is typed
pub function_typed : (p : Script) (C : Context) → ScriptTyped p → Offers p.declarations C → (f : Name) (g : Function) → function_of p.declarations f ≡ Some g → EachTyped (function_names p.declarations g)
    → BodyTyped C (val_types g.parameters) (function_locals p.declarations g) (I64 ∷ []) (body p.declarations (function_layout p.declarations g) 0 g.body)
function_typed p C script o f g is each =
    body_of_rest C (val_types g.parameters) (I64 ∷ []) (binds_in p.declarations g.body) (high_block g.body) (body p.declarations (function_layout p.declarations g) 0 g.body)
    (body_typed {p = p} g.body (function_scoped p.declarations C g o) (script.functions f g is) (placed_lets (function_layout p.declarations g) (map parameter g.parameters) (binds_in p.declarations g.body) (function_stands p.declarations g) each)
    (let z : high_block g.body ≤ high_block g.body = omega arith in z) (function_handled p.declarations f g is))
