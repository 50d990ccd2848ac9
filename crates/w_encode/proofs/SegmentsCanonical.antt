-- The canonical spelling of an element or data segment spells it, and is at most twice as long as any.
use Rattle.std.proofs.Common.{◌≡◌, ℕ, zero, suc, ◌+◌, ◌*◌, ◌^◌, ◌<◌, ◌≤◌, Bool, true, false, cond, List, [], ◌∷◌, ◌++◌, length, Option, Some, None, refl, sym, ap, subst, ◌∙◌, arith}
use Rattle.std.specs.Prelude.{nat_eq, ◌&&◌, not, is_some}
use Rattle.std.specs.List.{flat_map}
use Rattle.std.proofs.lemmas.List.{length-append}
use Rattle.std.proofs.lemmas.Bool.{and_parts}
use Rattle.w_leb.specs.Format.{Grammar, ByNumber, Picked, Each, Counted}
use Rattle.w_leb.specs.Formats.{number, constant, vec, bytes, ◌⊗◌, ◌⇒◌}
use Rattle.w_leb.specs.Number.{Unsigned, shortest, shortest_in}
use Rattle.w_leb.specs.ShortestLaws.{shortest_spells, shortest_is_short, within_bits}
use Rattle.w_leb.specs.CanonicalLaws.{IsCanonical, canon_number, canon_pair, canon_image, canon_vec, canon_bytes, vec_written}
use Rattle.w_leb.specs.CanonicalTableLaws.{◌&◌, IsWrittenBy, canon_choice, of_number}
use Rattle.w_types.specs.declared.types.HeapType.{HeapType}
use Rattle.w_types.specs.declared.types.HeapType.TheVariants as heap
use Rattle.w_types.specs.declared.types.RefType.{RefType}
use Rattle.w_syntax.specs.declared.instructions.Op.{Op}
use Rattle.w_syntax.specs.declared.instructions.Op.TheVariants as op
use Rattle.w_syntax.specs.declared.instructions.ReferenceOp.TheVariants as reference
use Rattle.w_syntax.specs.declared.instructions.Token.TheVariants as tok
use Rattle.w_syntax.specs.declared.module.ElemMode.{ElemMode}
use Rattle.w_syntax.specs.declared.module.ElemMode.TheVariants as elem_mode
use Rattle.w_syntax.specs.declared.module.Elem.{Elem}
use Rattle.w_syntax.specs.declared.module.DataMode.TheVariants as data_mode
use Rattle.w_syntax.specs.declared.module.Data.{Data}
use Rattle.w_syntax.specs.Code.{Code, Done, Plain, Block, If, IfElse}
use Rattle.w_syntax.specs.Expr.{tokens, Expr}
use Rattle.w_syntax.specs.Types.{nullable_to, non_null_to, reftype}
use Rattle.w_syntax.specs.Tokens.{instruction, other, token, token_solid}
use Rattle.w_syntax.specs.Fields.{expr, elemkind, function_item, active, elems, elem, data_segments, data_segment}
use Rattle.w_encode.specs.TypesWritten.{reftype_written}
use Rattle.w_encode.specs.InstructionsWritten.{expr_written}
use Rattle.w_encode.specs.FieldsWritten.{bytes_written, referred_by, function_of, are_functions, if_function, function_written, is_func, is_ref_func, is_funcref, index_form, active_form, expression_form, elem_written, data_written}
use Rattle.w_encode.proofs.TypesCanonical.{canon_reftype}
use Rattle.w_encode.proofs.InstructionsCanonical.{canon_expr}

-- ## Functions by their indices

-- an instruction that refers to x is `ref.func x`
is_reference : (o : Op) (x : ℕ) → referred_by o ≡ Some x → o ≡ op.Reference (reference.Func x)
is_reference (op.Control o) x e = absurd cc
is_reference (op.Parametric o) x e = absurd cc
is_reference (op.Variable o) x e = absurd cc
is_reference (op.Table o) x e = absurd cc
is_reference (op.Memory o) x e = absurd cc
is_reference (op.Numeric o) x e = absurd cc
is_reference (op.Reference (reference.Null h)) x e = absurd cc
is_reference (op.Reference reference.IsNull) x e = absurd cc
is_reference (op.Reference (reference.Func y)) x e = cc
is_reference (op.Reference reference.AsNonNull) x e = absurd cc
is_reference (op.Switching o) x e = absurd cc

-- a body whose function is x is one `ref.func x`
is_function : (c : Code) (x : ℕ) → function_of c ≡ Some x → c ≡ Plain (op.Reference (reference.Func x)) Done
is_function Done x e = absurd cc
is_function (Plain o Done) x e = ap (λ (p : Op). Plain p Done) (is_reference o x e)
is_function (Plain o (Plain p r)) x e = absurd cc
is_function (Plain o (Block k b y r)) x e = absurd cc
is_function (Plain o (If b y r)) x e = absurd cc
is_function (Plain o (IfElse b y z r)) x e = absurd cc
is_function (Block k b y r) x e = absurd cc
is_function (If b y r) x e = absurd cc
is_function (IfElse b y z r) x e = absurd cc

abbrev reference_to : ℕ → Code
reference_to x = Plain (op.Reference (reference.Func x)) Done

-- the number behind the byte of `ref.func`
number_of : (l : List ℕ) (x : ℕ) → token.Spells (0xD2 ∷ l) (tok.Plain (op.Reference (reference.Func x))) → Unsigned 32 l x
unfolding token instruction other
number_of l x h =
    let y = h.1.0 in
    let same : op.Reference (reference.Func y) ≡ op.Reference (reference.Func x) = h.1.2 ∙ (let e : h.0 ≡ op.Reference (reference.Func x) = cc in e) in
    let is : y ≡ x = cc in
    subst (Unsigned 32 l) is h.1.1

first_token : (a c : List ℕ) (x : ℕ) → expr_written (reference_to x) ≡ a ++ c → token.Spells a (tok.Plain (op.Reference (reference.Func x))) → (l : List ℕ) × Unsigned 32 l x
unfolding tokens
first_token [] c x e h = absurd (token_solid (tok.Plain (op.Reference (reference.Func x))) h)
first_token (k ∷ a) c x e h = let is : k ≡ 0xD2 = cc in (a, number_of a x (subst (λ (j : ℕ). token.Spells (j ∷ a) (tok.Plain (op.Reference (reference.Func x)))) is h))

-- where `ref.func x` has its canonical spelling, x is a number of 32 bits
small_function : (x : ℕ) → expr.Spells (expr_written (reference_to x)) (reference_to x) → x < 2 ^ 32
unfolding expr Expr Each tokens
small_function x h = let n = first_token h.0 h.1 x h.2 h.3 in within_bits 32 x n.0 n.1

item_spelled : (c : Code) (o : Option ℕ) → function_of c ≡ o → is_some o ≡ true → expr.Spells (expr_written c) c → function_item.Spells (if_function o) c
unfolding function_item
item_spelled c None e t h = absurd cc
item_spelled c (Some x) e t h =
    let is = is_function c x e in
    let small = small_function x (subst (λ (d : Code). expr.Spells (expr_written d) d) is h) in
    (x, shortest_spells 9 32 x (omega arith) small, sym is)

-- items that are spelled as expressions, and are functions, are spelled by their indices
items_spelled : (b : List ℕ) (cs : List Code) → Each expr.Spells b cs → length b ≤ 2 ^ 30 → are_functions cs ≡ true → Each function_item.Spells (flat_map function_written cs) cs
unfolding Each
items_spelled b [] h le t = refl
items_spelled b (c ∷ cs) h le t =
    let len : length b ≡ length h.0 + length h.1 = ap length h.2 ∙ length-append h.0 h.1 in (
      function_written c,
      flat_map function_written cs,
      refl,
      item_spelled c (function_of c) refl (and_parts (is_some (function_of c)) (are_functions cs) t).0 (canon_expr.again h.0 c h.3 (omega arith)),
      items_spelled h.1 cs h.4 (omega arith) (and_parts (is_some (function_of c)) (are_functions cs) t).1,
    )

functions_spelled : (b : List ℕ) (cs : List Code) → (vec expr).Spells b cs → length b ≤ 2 ^ 30 → are_functions cs ≡ true → (vec function_item).Spells (vec_written function_written cs) cs
unfolding Counted
functions_spelled b cs h le t =
    let len : length b ≡ length h.0 + length h.1 = ap length h.2 ∙ length-append h.0 h.1 in
    (shortest (length cs), flat_map function_written cs, refl, shortest_spells 9 32 (length cs) (omega arith) (within_bits 32 (length cs) h.0 h.3), items_spelled h.1 cs h.4 (omega arith) t)

item_short : (c : Code) (o : Option ℕ) → function_of c ≡ o → length (if_function o) ≤ length (expr_written c)
unfolding tokens
item_short c None e = omega arith
item_short c (Some x) e = rw (is_function c x e) (omega (arith, length-append (shortest x) (0x0B ∷ [])))

-- an index is no longer than its expression
items_short : (cs : List Code) → length (flat_map function_written cs) ≤ length (flat_map expr_written cs)
items_short [] = omega arith
items_short (c ∷ cs) = omega (arith, item_short c (function_of c) refl, items_short cs, length-append (function_written c) (flat_map function_written cs), length-append (expr_written c) (flat_map expr_written cs))

canon_function_item : IsCanonical function_item function_written
unfolding function_item
canon_function_item = canon_image (number 32) shortest reference_to function_written (canon_number 32 (omega arith)) (λ x. refl)

item_is_function : (b : List ℕ) (c : Code) → function_item.Spells b c → is_some (function_of c) ≡ true
unfolding function_item
item_is_function b c h = subst (λ (d : Code). is_some (function_of d) ≡ true) h.2 refl

-- items that are spelled by indices are functions
items_are_functions : (b : List ℕ) (cs : List Code) → Each function_item.Spells b cs → are_functions cs ≡ true
unfolding Each
items_are_functions b [] h = refl
items_are_functions b (c ∷ cs) h = rw (item_is_function h.0 c h.3) (items_are_functions h.1 cs h.4)

all_functions : (b : List ℕ) (cs : List Code) → (vec function_item).Spells b cs → are_functions cs ≡ true
unfolding Counted
all_functions b cs h = items_are_functions h.1 cs h.4

-- ## The forms of an element segment

abbrev ElemSpells : Grammar Elem
ElemSpells = ByNumber (Unsigned 32) elems

abbrev elem_of : RefType → List Code → ElemMode → Elem
elem_of r items m = record { kind = r; items = items; mode = m }

-- the table and the place have their canonical spellings
abbrev ModeSpelled : ElemMode → Type 0
ModeSpelled (elem_mode.Active t c) = Unsigned 32 (shortest t) t × expr.Spells (expr_written c) c
ModeSpelled elem_mode.Passive = Unit {0}
ModeSpelled elem_mode.Declarative = Unit {0}

by_flag : (n : ℕ) (rest : List ℕ) (x : Elem) → n < 128 → Picked elems n rest x → ElemSpells (n ∷ rest) x
unfolding Unsigned
by_flag n rest x lt p = (n, n ∷ [], rest, refl, (lt, omega arith, refl), p)

kind_spelled : elemkind.Spells (0x00 ∷ []) (non_null_to heap.Func)
unfolding elemkind
kind_spelled = (refl, refl)

index_spelled : (m : ElemMode) (items : List Code) → ModeSpelled m → (vec function_item).Spells (vec_written function_written items) items → ElemSpells (index_form m (vec_written function_written items)) (elem_of (non_null_to heap.Func) items m)
index_spelled (elem_mode.Active zero c) items h s =
    let f = vec_written function_written items in
    by_flag 0 (expr_written c ++ f) _ (omega arith) ((c, items), (expr_written c, f, refl, h.1, s), refl)
index_spelled (elem_mode.Active (suc t) c) items h s =
    let f = vec_written function_written items in
    by_flag 2 (shortest (suc t) ++ (expr_written c ++ 0x00 ∷ f)) _ (omega arith)
    ((suc t, (c, (non_null_to heap.Func, items))), (shortest (suc t), expr_written c ++ 0x00 ∷ f, refl, h.0, (expr_written c, 0x00 ∷ f, refl, h.1, (0x00 ∷ [], f, refl, kind_spelled, s))), refl)
index_spelled elem_mode.Passive items h s =
    let f = vec_written function_written items in
    by_flag 1 (0x00 ∷ f) _ (omega arith) ((non_null_to heap.Func, items), (0x00 ∷ [], f, refl, kind_spelled, s), refl)
index_spelled elem_mode.Declarative items h s =
    let f = vec_written function_written items in
    by_flag 3 (0x00 ∷ f) _ (omega arith) ((non_null_to heap.Func, items), (0x00 ∷ [], f, refl, kind_spelled, s), refl)

func_is : (h : HeapType) → is_func h ≡ true → h ≡ heap.Func
func_is heap.Func e = refl
func_is heap.NoFunc e = absurd cc
func_is heap.Cont e = absurd cc
func_is heap.NoCont e = absurd cc
func_is (heap.Index x) e = absurd cc

ref_is : (n m : Bool) (h : HeapType) → n ≡ m → h ≡ heap.Func → ◌≡◌ {A = RefType} (record { nullable = n; heap = h }) (record { nullable = m; heap = heap.Func })
ref_is n m h e f = rw (e, f) refl

not_true : (n : Bool) → not n ≡ true → n ≡ false
not_true true e = absurd cc
not_true false e = refl

funcref_is : (r : RefType) → is_funcref r ≡ true → r ≡ nullable_to heap.Func
funcref_is r e = ref_is r.nullable true r.heap (and_parts (is_func r.heap) r.nullable e).1 (func_is r.heap (and_parts (is_func r.heap) r.nullable e).0)

ref_func_is : (r : RefType) → is_ref_func r ≡ true → r ≡ non_null_to heap.Func
ref_func_is r e = ref_is r.nullable false r.heap (not_true r.nullable (and_parts (is_func r.heap) (not r.nullable) e).1) (func_is r.heap (and_parts (is_func r.heap) (not r.nullable) e).0)

pair_is : (t : ℕ) (r : RefType) → t ≡ 0 → r ≡ nullable_to heap.Func → ◌≡◌ {A = ℕ × RefType} (0, nullable_to heap.Func) (t, r)
pair_is t r e f = rw (e, f) refl

active_spelled : (v : Bool) (t : ℕ) (c : Code) (r : RefType) (items : List Code) (e : List ℕ) → (v ≡ true → (t ≡ 0) × (r ≡ nullable_to heap.Func)) → Unsigned 32 (shortest t) t → expr.Spells (expr_written c) c → reftype.Spells (reftype_written r) r → (vec expr).Spells e items
    → ElemSpells (active_form v t c r e) (active t c r items)
active_spelled true t c r items e f ht hc hr s =
    let is = f refl in
    subst (λ (q : ℕ × RefType). ElemSpells (0x04 ∷ (expr_written c ++ e)) (active q.0 c q.1 items)) (pair_is t r is.0 is.1)
    (by_flag 4 (expr_written c ++ e) _ (omega arith) ((c, items), (expr_written c, e, refl, hc, s), refl))
active_spelled false t c r items e f ht hc hr s =
    by_flag 6 (shortest t ++ (expr_written c ++ (reftype_written r ++ e))) _ (omega arith)
    ((t, (c, (r, items))), (shortest t, expr_written c ++ (reftype_written r ++ e), refl, ht, (expr_written c, reftype_written r ++ e, refl, hc, (reftype_written r, e, refl, hr, s))), refl)

expression_spelled : (m : ElemMode) (r : RefType) (items : List Code) (e : List ℕ) → ModeSpelled m → reftype.Spells (reftype_written r) r → (vec expr).Spells e items → ElemSpells (expression_form m r e) (elem_of r items m)
expression_spelled (elem_mode.Active zero c) r items e h hr s = active_spelled (is_funcref r) 0 c r items e (λ v. (refl, funcref_is r v)) h.0 h.1 hr s
expression_spelled (elem_mode.Active (suc t) c) r items e h hr s = active_spelled false (suc t) c r items e (λ v. absurd cc) h.0 h.1 hr s
expression_spelled elem_mode.Passive r items e h hr s = by_flag 5 (reftype_written r ++ e) _ (omega arith) ((r, items), (reftype_written r, e, refl, hr, s), refl)
expression_spelled elem_mode.Declarative r items e h hr s = by_flag 7 (reftype_written r ++ e) _ (omega arith) ((r, items), (reftype_written r, e, refl, hr, s), refl)

abbrev by_form : Bool → Bool → ElemMode → RefType → List Code → List ℕ
by_form u v m r items = cond (u && v) (index_form m (vec_written function_written items)) (expression_form m r (vec_written expr_written items))

form_spelled : (u v : Bool) (m : ElemMode) (r : RefType) (items : List Code) (b : List ℕ) → is_ref_func r ≡ u → are_functions items ≡ v → ModeSpelled m → reftype.Spells (reftype_written r) r → (vec expr).Spells b items → length b ≤ 2 ^ 30 → ElemSpells (by_form u v m r items) (elem_of r items m)
form_spelled true true m r items b e f h hr s le =
    subst (λ (q : RefType). ElemSpells (index_form m (vec_written function_written items)) (elem_of q items m)) (sym (ref_func_is r e)) (index_spelled m items h (functions_spelled b items s le f))
form_spelled true false m r items b e f h hr s le = expression_spelled m r items (vec_written expr_written items) h hr ((canon_vec expr expr_written canon_expr).again b items s le)
form_spelled false v m r items b e f h hr s le = expression_spelled m r items (vec_written expr_written items) h hr ((canon_vec expr expr_written canon_expr).again b items s le)

-- ## How long they are

abbrev mode_length : ElemMode → ℕ
mode_length (elem_mode.Active t c) = length (shortest t) + length (expr_written c)
mode_length elem_mode.Passive = 0
mode_length elem_mode.Declarative = 0

index_short : (m : ElemMode) (f : List ℕ) → length (index_form m f) ≤ 2 + mode_length m + length f
index_short (elem_mode.Active zero c) f = omega (arith, length-append (expr_written c) f)
index_short (elem_mode.Active (suc t) c) f = omega (arith, length-append (shortest (suc t)) (expr_written c ++ 0x00 ∷ f), length-append (expr_written c) (0x00 ∷ f))
index_short elem_mode.Passive f = omega arith
index_short elem_mode.Declarative f = omega arith

active_short : (v : Bool) (t : ℕ) (c : Code) (r : RefType) (e : List ℕ) → length (active_form v t c r e) ≤ 1 + length (shortest t) + length (expr_written c) + length (reftype_written r) + length e
active_short true t c r e = omega (arith, length-append (expr_written c) e)
active_short false t c r e = omega (arith, length-append (shortest t) (expr_written c ++ (reftype_written r ++ e)), length-append (expr_written c) (reftype_written r ++ e), length-append (reftype_written r) e)

expression_short : (m : ElemMode) (r : RefType) (e : List ℕ) → length (expression_form m r e) ≤ 1 + mode_length m + length (reftype_written r) + length e
expression_short (elem_mode.Active zero c) r e = omega (arith, active_short (is_funcref r) 0 c r e)
expression_short (elem_mode.Active (suc t) c) r e = omega (arith, active_short false (suc t) c r e)
expression_short elem_mode.Passive r e = omega (arith, length-append (reftype_written r) e)
expression_short elem_mode.Declarative r e = omega (arith, length-append (reftype_written r) e)

vec_short : (cs : List Code) → length (vec_written function_written cs) ≤ length (vec_written expr_written cs)
vec_short cs = omega (arith, items_short cs, length-append (shortest (length cs)) (flat_map function_written cs), length-append (shortest (length cs)) (flat_map expr_written cs))

form_short : (u v : Bool) (m : ElemMode) (r : RefType) (items : List Code) → length (by_form u v m r items) ≤ 2 + mode_length m + length (reftype_written r) + length (vec_written expr_written items)
form_short true true m r items = omega (arith, index_short m (vec_written function_written items), vec_short items)
form_short true false m r items = omega (arith, expression_short m r (vec_written expr_written items))
form_short false v m r items = omega (arith, expression_short m r (vec_written expr_written items))

-- ## Element segments

-- how many bytes an active segment's table and place take, by those that spell them
abbrev ModeFrom : ElemMode → ℕ → Type 0
ModeFrom m k = (mode_length m ≤ 2 * k) × (k ≤ 2 ^ 30 → ModeSpelled m)

-- a segment of indices, whatever its mode
index_entry : (n k : ℕ) (b f : List ℕ) (m : ElemMode) (items : List Code) → ModeFrom m k → (vec function_item).Spells f items → k + length f ≤ length b → 1 ≤ length (shortest n) → IsWrittenBy n ElemSpells elem_written b (elem_of (non_null_to heap.Func) items m)
index_entry n k b f m items h s le one =
    let w = vec_written function_written items in
    let p = canon_vec function_item function_written canon_function_item in
    let e : elem_written (elem_of (non_null_to heap.Func) items m) ≡ index_form m w = ap (λ (v : Bool). by_form true v m (non_null_to heap.Func) items) (all_functions f items s) in
    (omega (arith, ap length e, index_short m w, p.short f items s, h.0), λ lt. subst (λ (l : List ℕ). ElemSpells l (elem_of (non_null_to heap.Func) items m)) (sym e) (index_spelled m items (h.1 (omega arith)) (p.again f items s (omega arith))))

-- a segment of expressions
expression_entry : (n k : ℕ) (b a f : List ℕ) (m : ElemMode) (r : RefType) (items : List Code) → ModeFrom m k → reftype.Spells a r → (vec expr).Spells f items → k + (length a + length f) ≤ length b → 1 ≤ length (shortest n) → IsWrittenBy n ElemSpells elem_written b (elem_of r items m)
expression_entry n k b a f m r items h hr s le one = (
  omega (arith, form_short (is_ref_func r) (are_functions items) m r items, h.0, canon_reftype.short a r hr, (canon_vec expr expr_written canon_expr).short f items s),
  λ lt. form_spelled (is_ref_func r) (are_functions items) m r items f refl refl (h.1 (omega arith)) (canon_reftype.again a r hr (omega arith)) s (omega arith),
)

-- a table's index and a place
table_place : (t : ℕ) (c : Code) (a b : List ℕ) → Unsigned 32 a t → expr.Spells b c → ModeFrom (elem_mode.Active t c) (length a + length b)
table_place t c a b ht hc = (omega (arith, shortest_is_short 9 32 t a ht, canon_expr.short b c hc), λ le. (shortest_spells 9 32 t (omega arith) (within_bits 32 t a ht), canon_expr.again b c hc (omega arith)))

one_kind : (v : Bool) (b : List ℕ) (r : RefType) → cond v ((constant (non_null_to heap.Func)).Spells b r) ⊥ → r ≡ non_null_to heap.Func
one_kind true b r h = h.1
one_kind false b r h = absurd h

elemkind_is : (b : List ℕ) (r : RefType) → elemkind.Spells b r → (r ≡ non_null_to heap.Func) × (1 ≤ length b)
unfolding elemkind
elemkind_is [] r h = absurd h
elemkind_is (k ∷ b) r h = (one_kind (nat_eq k 0x00) b r h, omega arith)

-- flags 0 and 4: table 0, with a place
first_index : (b : List ℕ) (x : Elem) → (expr ⊗ vec function_item ⇒ λ p. active 0 p.0 (non_null_to heap.Func) p.1).Spells b x → IsWrittenBy 0 ElemSpells elem_written b x
unfolding shortest_in
first_index b x h =
    let c = h.0.0 in
    let items = h.0.1 in
    let s = h.1 in
    let p = canon_vec function_item function_written canon_function_item in
    let w = vec_written function_written items in
    let e : elem_written (active 0 c (non_null_to heap.Func) items) ≡ 0x00 ∷ (expr_written c ++ w) = ap (λ (v : Bool). by_form true v (elem_mode.Active 0 c) (non_null_to heap.Func) items) (all_functions s.1 items s.4) in
    let len : length b ≡ length s.0 + length s.1 = ap length s.2 ∙ length-append s.0 s.1 in
    let few : length (elem_written (active 0 c (non_null_to heap.Func) items)) ≤ 2 * 1 + 2 * length b = omega (arith, ap length e, length-append (expr_written c) w, canon_expr.short s.0 c s.3, p.short s.1 items s.4) in
    subst (IsWrittenBy 0 ElemSpells elem_written b) h.2 (
      few,
      λ le. subst (λ (l : List ℕ). ElemSpells l (active 0 c (non_null_to heap.Func) items)) (sym e)
          (by_flag 0 (expr_written c ++ w) _ (omega arith) ((c, items), (expr_written c, w, refl, canon_expr.again s.0 c s.3 (omega arith), p.again s.1 items s.4 (omega arith)), refl)),
    )

first_expression : (b : List ℕ) (x : Elem) → (expr ⊗ vec expr ⇒ λ p. active 0 p.0 (nullable_to heap.Func) p.1).Spells b x → IsWrittenBy 4 ElemSpells elem_written b x
unfolding shortest_in
first_expression b x h =
    let c = h.0.0 in
    let items = h.0.1 in
    let s = h.1 in
    let p = canon_vec expr expr_written canon_expr in
    let w = vec_written expr_written items in
    let len : length b ≡ length s.0 + length s.1 = ap length s.2 ∙ length-append s.0 s.1 in
    let few : suc (length (expr_written c ++ w)) ≤ 2 * 1 + 2 * length b = omega (arith, length-append (expr_written c) w, canon_expr.short s.0 c s.3, p.short s.1 items s.4) in
    subst (IsWrittenBy 4 ElemSpells elem_written b) h.2 (
      few,
      λ le. by_flag 4 (expr_written c ++ w) _ (omega arith) ((c, items), (expr_written c, w, refl, canon_expr.again s.0 c s.3 (omega arith), p.again s.1 items s.4 (omega arith)), refl),
    )

-- flags 1 and 3: functions without a place
index_without : (n : ℕ) (m : ElemMode) (b : List ℕ) (x : Elem) → 1 ≤ length (shortest n) → ModeFrom m 0 → (elemkind ⊗ vec function_item ⇒ λ p. elem_of p.0 p.1 m).Spells b x → IsWrittenBy n ElemSpells elem_written b x
index_without n m b x one from h =
    let s = h.1 in
    let k = elemkind_is s.0 h.0.0 s.3 in
    let len : length b ≡ length s.0 + length s.1 = ap length s.2 ∙ length-append s.0 s.1 in
    subst (IsWrittenBy n ElemSpells elem_written b) (ap (λ (r : RefType). elem_of r h.0.1 m) (sym k.0) ∙ h.2)
    (index_entry n 0 b s.1 m h.0.1 from s.4 (omega arith) one)

-- flag 2: functions, with any table
index_in_table : (b : List ℕ) (x : Elem) → (number 32 ⊗ expr ⊗ elemkind ⊗ vec function_item ⇒ λ p. active p.0 p.1.0 p.1.1.0 p.1.1.1).Spells b x → IsWrittenBy 2 ElemSpells elem_written b x
unfolding shortest_in
index_in_table b x h =
    let p = h.0 in
    let s = h.1 in
    let t = s.4 in
    let u = t.4 in
    let k = elemkind_is u.0 p.1.1.0 u.3 in
    let len : length b ≡ length s.0 + length s.1 = ap length s.2 ∙ length-append s.0 s.1 in
    let len2 : length s.1 ≡ length t.0 + length t.1 = ap length t.2 ∙ length-append t.0 t.1 in
    let len3 : length t.1 ≡ length u.0 + length u.1 = ap length u.2 ∙ length-append u.0 u.1 in
    subst (IsWrittenBy 2 ElemSpells elem_written b) (ap (λ (r : RefType). active p.0 p.1.0 r p.1.1.1) (sym k.0) ∙ h.2)
    (index_entry 2 (length s.0 + length t.0) b u.1 (elem_mode.Active p.0 p.1.0) p.1.1.1 (table_place p.0 p.1.0 s.0 t.0 s.3 t.3) u.4 (omega arith) (omega arith))

-- flags 5 and 7: expressions without a place
expression_without : (n : ℕ) (m : ElemMode) (b : List ℕ) (x : Elem) → 1 ≤ length (shortest n) → ModeFrom m 0 → (reftype ⊗ vec expr ⇒ λ p. elem_of p.0 p.1 m).Spells b x → IsWrittenBy n ElemSpells elem_written b x
expression_without n m b x one from h =
    let s = h.1 in
    let len : length b ≡ length s.0 + length s.1 = ap length s.2 ∙ length-append s.0 s.1 in
    subst (IsWrittenBy n ElemSpells elem_written b) h.2 (expression_entry n 0 b s.0 s.1 m h.0.0 h.0.1 from s.3 s.4 (omega arith) one)

-- flag 6: expressions, with any table
expression_in_table : (b : List ℕ) (x : Elem) → (number 32 ⊗ expr ⊗ reftype ⊗ vec expr ⇒ λ p. active p.0 p.1.0 p.1.1.0 p.1.1.1).Spells b x → IsWrittenBy 6 ElemSpells elem_written b x
unfolding shortest_in
expression_in_table b x h =
    let p = h.0 in
    let s = h.1 in
    let t = s.4 in
    let u = t.4 in
    let len : length b ≡ length s.0 + length s.1 = ap length s.2 ∙ length-append s.0 s.1 in
    let len2 : length s.1 ≡ length t.0 + length t.1 = ap length t.2 ∙ length-append t.0 t.1 in
    let len3 : length t.1 ≡ length u.0 + length u.1 = ap length u.2 ∙ length-append u.0 u.1 in
    subst (IsWrittenBy 6 ElemSpells elem_written b) h.2
    (expression_entry 6 (length s.0 + length t.0) b u.0 u.1 (elem_mode.Active p.0 p.1.0) p.1.1.0 p.1.1.1 (table_place p.0 p.1.0 s.0 t.0 s.3 t.3) u.3 u.4 (omega arith) (omega arith))

pub canon_elem : IsCanonical elem elem_written
unfolding elem shortest_in
canon_elem = canon_choice elems elem_written
    (first_index
    & (λ b x h. index_without 1 elem_mode.Passive b x (omega arith) (omega arith, λ le. tt) h)
    & index_in_table
    & (λ b x h. index_without 3 elem_mode.Declarative b x (omega arith) (omega arith, λ le. tt) h)
    & first_expression
    & (λ b x h. expression_without 5 elem_mode.Passive b x (omega arith) (omega arith, λ le. tt) h)
    & expression_in_table
    & (λ b x h. expression_without 7 elem_mode.Declarative b x (omega arith) (omega arith, λ le. tt) h)
    & tt)

-- ## Data segments

abbrev DataSpells : Grammar Data
DataSpells = ByNumber (Unsigned 32) data_segments

data_flag : (n : ℕ) (rest : List ℕ) (x : Data) → n < 128 → Picked data_segments n rest x → DataSpells (n ∷ rest) x
unfolding Unsigned
data_flag n rest x lt p = (n, n ∷ [], rest, refl, (lt, omega arith, refl), p)

abbrev data_of : ℕ → Code → List ℕ → Data
data_of x c bs = record { bytes = bs; mode = data_mode.Active x c }

data_short : (x : ℕ) (c : Code) (bs : List ℕ) → length (data_written (data_of x c bs)) ≤ 1 + length (shortest x) + length (expr_written c) + length (bytes_written bs)
data_short zero c bs = omega (arith, length-append (expr_written c) (bytes_written bs))
data_short (suc x) c bs = omega (arith, length-append (shortest (suc x)) (expr_written c ++ bytes_written bs), length-append (expr_written c) (bytes_written bs))

data_spelled : (x : ℕ) (c : Code) (bs : List ℕ) → Unsigned 32 (shortest x) x → expr.Spells (expr_written c) c → bytes.Spells (bytes_written bs) bs → DataSpells (data_written (data_of x c bs)) (data_of x c bs)
data_spelled zero c bs ht hc hb = data_flag 0 (expr_written c ++ bytes_written bs) _ (omega arith) ((c, bs), (expr_written c, bytes_written bs, refl, hc, hb), refl)
data_spelled (suc x) c bs ht hc hb =
    data_flag 2 (shortest (suc x) ++ (expr_written c ++ bytes_written bs)) _ (omega arith)
    ((suc x, (c, bs)), (shortest (suc x), expr_written c ++ bytes_written bs, refl, ht, (expr_written c, bytes_written bs, refl, hc, hb)), refl)

abbrev of_parts : ℕ × (Code × List ℕ) → Data
of_parts p = data_of p.0 p.1.0 p.1.1

data_in_memory : (b : List ℕ) (x : Data) → (number 32 ⊗ expr ⊗ bytes ⇒ of_parts).Spells b x → IsWrittenBy 2 DataSpells data_written b x
unfolding shortest_in
data_in_memory b x h =
    let p = h.0 in
    let s = h.1 in
    let t = s.4 in
    let len : length b ≡ length s.0 + length s.1 = ap length s.2 ∙ length-append s.0 s.1 in
    let len2 : length s.1 ≡ length t.0 + length t.1 = ap length t.2 ∙ length-append t.0 t.1 in
    subst (IsWrittenBy 2 DataSpells data_written b) h.2 (
      omega (arith, data_short p.0 p.1.0 p.1.1, shortest_is_short 9 32 p.0 s.0 s.3, canon_expr.short t.0 p.1.0 t.3, canon_bytes.short t.1 p.1.1 t.4),
      λ le. data_spelled p.0 p.1.0 p.1.1 (shortest_spells 9 32 p.0 (omega arith) (within_bits 32 p.0 s.0 s.3)) (canon_expr.again t.0 p.1.0 t.3 (omega arith)) (canon_bytes.again t.1 p.1.1 t.4 (omega arith)),
    )

pub canon_data : IsCanonical data_segment data_written
unfolding data_segment shortest_in
canon_data = canon_choice data_segments data_written
    (of_number 0 (expr ⊗ bytes) (λ p. expr_written p.0 ++ bytes_written p.1) (λ p. record { bytes = p.1; mode = data_mode.Active 0 p.0 }) data_segments data_written (omega arith) (canon_pair expr bytes expr_written bytes_written canon_expr canon_bytes) (λ p. refl) (λ p s. (p, s, refl))
    & of_number 1 bytes bytes_written (λ b. record { bytes = b; mode = data_mode.Passive }) data_segments data_written (omega arith) canon_bytes (λ b. refl) (λ b s. (b, s, refl))
    & data_in_memory
    & tt)
