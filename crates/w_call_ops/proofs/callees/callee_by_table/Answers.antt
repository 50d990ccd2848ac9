use Rattle.std.proofs.Common.{◌≡◌, ℕ, List, Some, inl, inr, sym, ap, ◌∙◌, subst, get_or, length}
use Rattle.std.specs.Prelude.{◌<◌, ◌↔◌, IsTrue}
use Rattle.std.proofs.lemmas.Option.{get_or_from_slice_get, slice_get_within}
use Rattle.w_types.specs.declared.value.Value.{Value}
use Rattle.w_canon.specs.Matching.{IndexMatches}
use Rattle.w_rules.specs.Spaces.{functions_of}
use Rattle.w_tables.specs.Operations.{table_get}
use Rattle.w_call_ops.proofs.FindingCallees.{indirect_some, indirect_number, indirect_table, indirect_past, indirect_null, indirect_kind, indirect_function, indirect_calls, indirect_mismatch, kinds_agree}
use Rattle.w_call_ops.proofs.callees.callee_by_table.Goals as goal

pub peek-requires : goal.peek-requires
peek-requires c = record { some = indirect_some c.args.program.now c.args.store.now c.args.stack.now c.args.call c.args.kind c.args.table c.requires.moves }

pub i32_of-index-requires : goal.i32_of-index-requires
i32_of-index-requires c = indirect_number c.args.program.now c.args.store.now c.args.stack.now c.args.call c.args.kind c.args.table c.requires.moves c.peek.result c.peek.ensures.value

pub table_get-requires : goal.table_get-requires
table_get-requires c =
    record { table = indirect_table c.args.program.now c.args.store.now c.args.stack.now c.args.call c.args.kind c.args.table c.requires.moves c.peek.result c.peek.ensures.value }

-- past the end
pub returns-in_default-clause-traps : goal.returns-in_default-clause-traps
returns-in_default-clause-traps c =
    indirect_past c.args.program.now c.args.store.now c.args.stack.now c.args.call c.args.kind c.args.table c.requires.moves c.peek.result c.peek.ensures.value
    (ap (table_get c.args.store.now c.args.table) (sym c.i32_of-index.ensures) ∙ sym c.table_get.ensures.element ∙ c.in_default.is)

-- the type of the function that was found
pub bounds-functions-address : goal.bounds-functions-address
bounds-functions-address c =
    let found = ap (table_get c.args.store.now c.args.table) (sym c.i32_of-index.ensures) ∙ sym c.table_get.ensures.element ∙ c.in-Some.is ∙ ap (λ (v : Value). Some v) c.in-Func.is in
    let z = indirect_function c.args.program.now c.args.store.now c.args.stack.now c.args.call c.args.kind c.args.table c.requires.moves c.peek.result c.peek.ensures.value c.in-Func.address found in
    subst (λ (l : List ℕ). c.in-Func.address < length l) (sym c.requires.functions) (slice_get_within (functions_of c.args.program.now) c.in-Func.address z.0 z.1)

pub unreachable-requires : goal.unreachable-requires
unreachable-requires c =
    let found = ap (table_get c.args.store.now c.args.table) (sym c.i32_of-index.ensures) ∙ sym c.table_get.ensures.element ∙ c.in-Some.is in
    elim (indirect_kind c.args.program.now c.args.store.now c.args.stack.now c.args.call c.args.kind c.args.table c.requires.moves c.peek.result c.peek.ensures.value c.in-Some.element found)
    [ inl e ↦ c.in_default-element.not-Null e | inr w ↦ c.in_default-element.not-Func w.0 w.1 ]

pub returns-in-Null-clause-traps : goal.returns-in-Null-clause-traps
returns-in-Null-clause-traps c =
    indirect_null c.args.program.now c.args.store.now c.args.stack.now c.args.call c.args.kind c.args.table c.requires.moves c.peek.result c.peek.ensures.value
    (ap (table_get c.args.store.now c.args.table) (sym c.i32_of-index.ensures) ∙ sym c.table_get.ensures.element ∙ c.in-Some.is ∙ ap (λ (v : Value). Some v) c.in-Null.is)

pub returns-then-matches_index-clause-found : goal.returns-then-matches_index-clause-found
returns-then-matches_index-clause-found c =
    let a = c.in-Func.address in
    let found = ap (table_get c.args.store.now c.args.table) (sym c.i32_of-index.ensures) ∙ sym c.table_get.ensures.element ∙ c.in-Some.is ∙ ap (λ (v : Value). Some v) c.in-Func.is in
    let z = indirect_function c.args.program.now c.args.store.now c.args.stack.now c.args.call c.args.kind c.args.table c.requires.moves c.peek.result c.peek.ensures.value a found in
    let same : get_or c.args.functions.now a 0 ≡ z.0 = ap (λ (l : List ℕ). get_or l a 0) c.requires.functions ∙ get_or_from_slice_get (functions_of c.args.program.now) a z.0 0 z.1 in
    let related = subst (λ (n : ℕ). IsTrue c.matches_index.result ↔ IndexMatches c.args.program.now.types n c.args.kind) same (c.matches_index.ensures.related c.args.program.now.types c.requires.classes) in
    indirect_calls c.args.program.now c.args.store.now c.args.stack.now c.args.call c.args.kind c.args.table c.requires.moves c.peek.result c.peek.ensures.value a found z.0 z.1
    (λ p e is. kinds_agree c.args.program.now c.matches_index.result z.0 c.args.kind related p e is ∙ c.if-matches_index.true)

pub returns-else-matches_index-clause-traps : goal.returns-else-matches_index-clause-traps
returns-else-matches_index-clause-traps c =
    let a = c.in-Func.address in
    let found = ap (table_get c.args.store.now c.args.table) (sym c.i32_of-index.ensures) ∙ sym c.table_get.ensures.element ∙ c.in-Some.is ∙ ap (λ (v : Value). Some v) c.in-Func.is in
    let z = indirect_function c.args.program.now c.args.store.now c.args.stack.now c.args.call c.args.kind c.args.table c.requires.moves c.peek.result c.peek.ensures.value a found in
    let same : get_or c.args.functions.now a 0 ≡ z.0 = ap (λ (l : List ℕ). get_or l a 0) c.requires.functions ∙ get_or_from_slice_get (functions_of c.args.program.now) a z.0 0 z.1 in
    let related = subst (λ (n : ℕ). IsTrue c.matches_index.result ↔ IndexMatches c.args.program.now.types n c.args.kind) same (c.matches_index.ensures.related c.args.program.now.types c.requires.classes) in
    indirect_mismatch c.args.program.now c.args.store.now c.args.stack.now c.args.call c.args.kind c.args.table c.requires.moves c.peek.result c.peek.ensures.value a found z.0 z.1
    (λ p e is. kinds_agree c.args.program.now c.matches_index.result z.0 c.args.kind related p e is ∙ c.if-matches_index.false)
