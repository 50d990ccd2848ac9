-- Code that is typed whatever is known of its locals, since all of them are set: where the rest is typed behind an instruction, the whole is
-- typed before it.
use Rattle.std.proofs.Common.{◌≡◌, inl, ℕ, zero, suc, ◌-◌, nat_le, Bool, true, ℤ, All, List, [], ◌∷◌, length, take, drop, Option, Some, slice_get, slice_set, refl, sym, ap, ap₂, ◌∙◌, subst, arith}
use Rattle.std.proofs.lemmas.List.Elements.{All-nil, All-cons}
use Rattle.w_types.specs.declared.types.ValType.{ValType}
use Rattle.w_types.specs.declared.types.HeapType.TheVariants.{Index}
use Rattle.w_types.specs.declared.types.ValType.TheVariants.{I32, I64, Ref}
use Rattle.w_types.specs.declared.types.FuncType.{FuncType}
use Rattle.w_types.specs.declared.types.CompType.{CompType}
use Rattle.w_types.specs.declared.types.CompType.TheVariants.{Cont}
use Rattle.w_types.specs.declared.types.RecGroup.{RecGroup}
use Rattle.lists.specs.Rows.{Row, ε, ◌▹◌, ◌⧺◌, row_of, listed}
use Rattle.w_syntax.specs.Code.{Code, Done, Plain, Block}
use Rattle.w_syntax.specs.declared.instructions.Op.{Op}
use Rattle.w_syntax.specs.declared.instructions.Clause.TheVariants.{Switch}
use Rattle.w_syntax.specs.declared.module.TableType.{TableType}
use Rattle.w_syntax.specs.declared.instructions.BlockKind.TheVariants as kind
use Rattle.w_syntax.specs.declared.instructions.BlockType.TheVariants as block
use Rattle.w_syntax.specs.declared.numeric.Binop.{Binop}
use Rattle.w_syntax.specs.declared.numeric.Relop.{Relop}
use Rattle.w_canon.specs.Relations as pairs
use Rattle.w_canon.specs.Matching.{ResultMatches, ref}
use Rattle.w_canon.specs.Supertypes.{KeepsKinds}
use Rattle.w_canon.proofs.EqualTypes.{result_equal_refl}
use Rattle.w_canon.proofs.Preorder.{heap_refl, result_refl}
use Rattle.w_rules.specs.Operands.{Operand}
use Rattle.w_rules.specs.Operands.{Known}
use Rattle.w_rules.specs.Matching.{RowMatches, none, more, value, known}
use Rattle.w_rules.specs.Context.{Context, labelled, type_of, type_count, index_in_cont, cont_of, type_of_func, type_of_tag}
use Rattle.w_rules.specs.Conditions.{Condition, Holds, ReturnsTyped, SwitchClauseTyped, ClauseTyped}
use Rattle.w_rules.specs.InstructionTypes.{InstrType, fixed, polymorphic, instr_type, sets, get_type, set_type, br_type, br_if_type, call_type, tail_call_type, ref_func_type, table_get_type, table_set_type, cont_new_type, cont_bind_type, resume_type, switched_type, switch_type, params_of, if_valid, nullable, non_null}
use Rattle.w_rules.specs.Typing.{HasInstrType, Derives}
use Rattle.w_rules.specs.Types.{has_heap}
use Rattle.w_rules.proofs.Preorder.{operand_refl, row_refl}
use Rattle.w_rules.proofs.Derive.{derives_left}
use Rattle.s_index.specs.Types.{computation_type}
use Rattle.s_code.specs.Instructions.{constant, constant_32, is_zero, is_zero_32, extend, wrap, binary, compare, select, unreachable, nop, branch, branch_if, leave, call, return_call, dropped, local_get, local_set, table_get, table_set, null as null_reference, non_null as checked, function_reference, new_continuation, bind_continuation, suspend, resume, switch, number_if_zero, if_zero, truth}
use Rattle.s_valid.specs.Offers.{arrow}

-- all of these locals are set
pub record AllSet (ls : List ValType) (s : List Bool) : Type 0 where
  pub is_set : (x : ℕ) (t : ValType) → slice_get ls x ≡ Some t → slice_get s x ≡ Some true

-- typed, whatever is known of the locals, since all are set
pub record Rest (C : Context) (c : Code) (ts us : Row Operand) : Type 0 where
  pub typed : (s : List Bool) → AllSet C.locals s → Derives C s c ts us

set_kept : (s : List Bool) (x y : ℕ) → slice_get s y ≡ Some true → slice_get (slice_set s x true) y ≡ Some true
set_kept [] x y h = h
set_kept (b ∷ s) zero zero h = refl
set_kept (b ∷ s) zero (suc y) h = h
set_kept (b ∷ s) (suc x) zero h = h
set_kept (b ∷ s) (suc x) (suc y) h = set_kept s x y h

-- one more that is set
still_set : (ls : List ValType) (s : List Bool) (x : ℕ) → AllSet ls s → AllSet ls (slice_set s x true)
still_set ls s x all = record { is_set = λ y t e. set_kept s x y (all.is_set y t e) }

exactly : (gs : List RecGroup) (l : InstrType) (ins outs : Row ValType) (vs : Row Operand) → l ≡ fixed ins outs → HasInstrType gs l (vs ⧺ known ins) (vs ⧺ known outs)
exactly gs l ins outs vs e =
    let P : InstrType → Type 0 = λ z. HasInstrType gs z (vs ⧺ known ins) (vs ⧺ known outs) in
    subst P (sym e) (record { beneath = vs; takes = row_refl gs (vs ⧺ known ins); gives = row_refl gs (vs ⧺ known outs) })

leaves : (gs : List RecGroup) (l : InstrType) (ins : Row ValType) (vs ws : Row Operand) → l ≡ polymorphic ins → HasInstrType gs l (vs ⧺ known ins) ws
leaves gs l ins vs ws e =
    let P : InstrType → Type 0 = λ z. HasInstrType gs z (vs ⧺ known ins) ws in
    subst P (sym e) (record { beneath = vs; takes = row_refl gs (vs ⧺ known ins) })

count_all : (n : ℕ) → n - 0 ≡ n
count_all n = omega arith

take_whole : (ts : List ValType) → take (length ts) ts ≡ ts
take_whole [] = refl
take_whole (t ∷ ts) = ap (λ (us : List ValType). t ∷ us) (take_whole ts)

take_all : (ts : List ValType) → take (length ts - 0) ts ≡ ts
take_all ts = ap (λ (n : ℕ). take n ts) (count_all (length ts)) ∙ take_whole ts

drop_whole : (ts : List ValType) → drop (length ts) ts ≡ []
drop_whole [] = refl
drop_whole (t ∷ ts) = drop_whole ts

drop_all : (ts : List ValType) → drop (length ts - 0) ts ≡ []
drop_all ts = ap (λ (n : ℕ). drop n ts) (count_all (length ts)) ∙ drop_whole ts

none_taken : (gs : List RecGroup) (ts : List ValType) → ResultMatches gs [] (drop (length ts - 0) ts)
none_taken gs ts = let P : List ValType → Type 0 = λ z. ResultMatches gs [] z in subst P (sym (drop_all ts)) pairs.none

bind_type : (x y : ℕ) (ts : List ValType) → if_valid (nat_le 0 (length ts)) (fixed (row_of (take (length ts - 0) ts) ▹ nullable x) (ε ▹ non_null y)) ≡ fixed (row_of ts ▹ nullable x) (ε ▹ non_null y)
bind_type x y ts =
    let least : nat_le 0 (length ts) ≡ true = grind arith in
    ap (λ (b : Bool). if_valid b (fixed (row_of (take (length ts - 0) ts) ▹ nullable x) (ε ▹ non_null y))) least
    ∙ ap (λ (us : List ValType). fixed (row_of us ▹ nullable x) (ε ▹ non_null y)) (take_all ts)

-- what a list of types is on top of a row
abbrev pub pushed : Row Operand → List ValType → Row Operand
pushed vs [] = vs
pushed vs (t ∷ ts) = pushed (vs ▹ Known t) ts

module _ {C : Context} {us : Row Operand} where
  -- an instruction of this type before the rest
  pub instr_typed : (o : Op) (ins outs : Row ValType) (vs : Row Operand) (c : Code) → Condition C o → ((s : List Bool) → AllSet C.locals s → instr_type C s o ≡ fixed ins outs)
      → ((s : List Bool) → AllSet C.locals s → AllSet C.locals (sets o s)) → Rest C c (vs ⧺ known outs) us → Rest C (Plain o c) (vs ⧺ known ins) us
  instr_typed o ins outs vs c condition is keeps r = record {
    typed = λ s all. (condition, (vs ⧺ known outs, exactly C.types (instr_type C s o) ins outs vs (is s all), r.typed (sets o s) (keeps s all)));
  }

  -- an instruction that leaves: what comes after is never run, and is typed as it stands
  leave_typed : (o : Op) (ins : Row ValType) (vs ws : Row Operand) (c : Code) → Condition C o → ((s : List Bool) → instr_type C s o ≡ polymorphic ins)
      → ((s : List Bool) → AllSet C.locals s → AllSet C.locals (sets o s)) → Rest C c ws us → Rest C (Plain o c) (vs ⧺ known ins) us
  leave_typed o ins vs ws c condition is keeps r = record {
    typed = λ s all. (condition, (ws, leaves C.types (instr_type C s o) ins vs ws (is s), r.typed (sets o s) (keeps s all)));
  }

  -- what is typed for a row is typed for one that matches it
  pub less_typed : KeepsKinds C.types → {ts ts' : Row Operand} {c : Code} → RowMatches C.types ts' ts → Rest C c ts us → Rest C c ts' us
  less_typed keeps {ts} {ts'} {c} m r = record { typed = λ s all. derives_left C keeps s c ts' ts us m (r.typed s all) }

  pub constant_typed : {vs : Row Operand} {c : Code} (z : ℤ) → Rest C c (vs ▹ Known I64) us → Rest C (Plain (constant z) c) vs us
  constant_typed {vs} {c} z r = instr_typed (constant z) ε (ε ▹ I64) vs c tt (λ s all. refl) (λ s all. all) r

  pub is_zero_typed : {vs : Row Operand} {c : Code} → Rest C c (vs ▹ Known I32) us → Rest C (Plain is_zero c) (vs ▹ Known I64) us
  is_zero_typed {vs} {c} r = instr_typed is_zero (ε ▹ I64) (ε ▹ I32) vs c tt (λ s all. refl) (λ s all. all) r

  is_zero_32_typed : {vs : Row Operand} {c : Code} → Rest C c (vs ▹ Known I32) us → Rest C (Plain is_zero_32 c) (vs ▹ Known I32) us
  is_zero_32_typed {vs} {c} r = instr_typed is_zero_32 (ε ▹ I32) (ε ▹ I32) vs c tt (λ s all. refl) (λ s all. all) r

  pub extend_typed : {vs : Row Operand} {c : Code} → Rest C c (vs ▹ Known I64) us → Rest C (Plain extend c) (vs ▹ Known I32) us
  extend_typed {vs} {c} r = instr_typed extend (ε ▹ I32) (ε ▹ I64) vs c tt (λ s all. refl) (λ s all. all) r

  pub constant_32_typed : {vs : Row Operand} {c : Code} (z : ℤ) → Rest C c (vs ▹ Known I32) us → Rest C (Plain (constant_32 z) c) vs us
  constant_32_typed {vs} {c} z r = instr_typed (constant_32 z) ε (ε ▹ I32) vs c tt (λ s all. refl) (λ s all. all) r

  pub wrap_typed : {vs : Row Operand} {c : Code} → Rest C c (vs ▹ Known I32) us → Rest C (Plain wrap c) (vs ▹ Known I64) us
  wrap_typed {vs} {c} r = instr_typed wrap (ε ▹ I64) (ε ▹ I32) vs c tt (λ s all. refl) (λ s all. all) r

  -- a choice between two i32
  pub select_typed : {vs : Row Operand} {c : Code} → Rest C c (vs ▹ Known I32) us → Rest C (Plain select c) (vs ▹ Known I32 ▹ Known I32 ▹ Known I32) us
  select_typed {vs} {c} r = record {
    typed = λ s all. (
      tt,
      (
        vs ▹ Known I32,
        (Known I32, inl (operand_refl C.types (Known I32)), record { beneath = vs; takes = row_refl C.types (vs ▹ Known I32 ▹ Known I32 ▹ Known I32); gives = row_refl C.types (vs ▹ Known I32) }),
        r.typed s all,
      ),
    );
  }

  pub binary_typed : {vs : Row Operand} {c : Code} (o : Binop) → Rest C c (vs ▹ Known I64) us → Rest C (Plain (binary o) c) (vs ▹ Known I64 ▹ Known I64) us
  binary_typed {vs} {c} o r = instr_typed (binary o) (ε ▹ I64 ▹ I64) (ε ▹ I64) vs c tt (λ s all. refl) (λ s all. all) r

  pub compare_typed : {vs : Row Operand} {c : Code} (o : Relop) → Rest C c (vs ▹ Known I32) us → Rest C (Plain (compare o) c) (vs ▹ Known I64 ▹ Known I64) us
  compare_typed {vs} {c} o r = instr_typed (compare o) (ε ▹ I64 ▹ I64) (ε ▹ I32) vs c tt (λ s all. refl) (λ s all. all) r

  pub nop_typed : {vs : Row Operand} {c : Code} → Rest C c vs us → Rest C (Plain nop c) vs us
  nop_typed {vs} {c} r = instr_typed nop ε ε vs c tt (λ s all. refl) (λ s all. all) r

  pub get_typed : {vs : Row Operand} {c : Code} {t : ValType} (x : ℕ) → slice_get C.locals x ≡ Some t → Rest C c (vs ▹ Known t) us → Rest C (Plain (local_get x) c) vs us
  get_typed {vs} {c} {t} x e r = instr_typed (local_get x) ε (ε ▹ t) vs c tt (λ s all. ap₂ get_type e (all.is_set x t e)) (λ s all. all) r

  pub set_typed : {vs : Row Operand} {c : Code} {t : ValType} (x : ℕ) → slice_get C.locals x ≡ Some t → Rest C c vs us → Rest C (Plain (local_set x) c) (vs ▹ Known t) us
  set_typed {vs} {c} {t} x e r = instr_typed (local_set x) (ε ▹ t) ε vs c tt (λ s all. ap set_type e) (λ s all. still_set C.locals s x all) r

  pub table_get_typed : {vs : Row Operand} {c : Code} {t : TableType} (x : ℕ) → slice_get C.tables x ≡ Some t → Rest C c (vs ▹ Known (Ref t.element)) us → Rest C (Plain (table_get x) c) (vs ▹ Known I32) us
  table_get_typed {vs} {c} {t} x e r = instr_typed (table_get x) (ε ▹ I32) (ε ▹ Ref t.element) vs c tt (λ s all. ap table_get_type e) (λ s all. all) r

  pub table_set_typed : {vs : Row Operand} {c : Code} {t : TableType} (x : ℕ) → slice_get C.tables x ≡ Some t → Rest C c vs us → Rest C (Plain (table_set x) c) (vs ▹ Known I32 ▹ Known (Ref t.element)) us
  table_set_typed {vs} {c} {t} x e r = instr_typed (table_set x) (ε ▹ I32 ▹ Ref t.element) ε vs c tt (λ s all. ap table_set_type e) (λ s all. all) r

  pub null_typed : {vs : Row Operand} {c : Code} (x : ℕ) → has_heap (type_count C) (Index x) ≡ true → Rest C c (vs ▹ Known (nullable x)) us → Rest C (Plain (null_reference x) c) vs us
  null_typed {vs} {c} x e r = instr_typed (null_reference x) ε (ε ▹ nullable x) vs c tt (λ s all. ap (λ (b : Bool). if_valid b (fixed ε (ε ▹ nullable x))) e) (λ s all. all) r

  -- a reference that isn't null goes on
  pub checked_typed : {vs : Row Operand} {c : Code} (x : ℕ) → Rest C c (vs ▹ Known (non_null x)) us → Rest C (Plain checked c) (vs ▹ Known (nullable x)) us
  checked_typed {vs} {c} x r = record {
    typed = λ s all. (
      tt,
      (vs ▹ Known (non_null x), (Some (Index x), record { beneath = vs; takes = row_refl C.types (vs ▹ Known (nullable x)); gives = row_refl C.types (vs ▹ Known (non_null x)) }), r.typed s all),
    );
  }

  pub call_typed : (vs : Row Operand) {c : Code} (x : ℕ) (ts rs : List ValType) → type_of_func C x ≡ Some (arrow ts rs) → Rest C c (vs ⧺ known (row_of rs)) us
      → Rest C (Plain (call x) c) (vs ⧺ known (row_of ts)) us
  call_typed vs {c} x ts rs e r = instr_typed (call x) (row_of ts) (row_of rs) vs c tt (λ s all. ap call_type e) (λ s all. all) r

  pub suspend_typed : (vs : Row Operand) {c : Code} (x : ℕ) (ts rs : List ValType) → type_of_tag C x ≡ Some (arrow ts rs) → Rest C c (vs ⧺ known (row_of rs)) us
      → Rest C (Plain (suspend x) c) (vs ⧺ known (row_of ts)) us
  suspend_typed vs {c} x ts rs e r = instr_typed (suspend x) (row_of ts) (row_of rs) vs c tt (λ s all. ap call_type e) (λ s all. all) r

  pub reference_typed : {vs : Row Operand} {c : Code} (x y : ℕ) → slice_get C.functions x ≡ Some y → slice_get C.declared x ≡ Some true → Rest C c (vs ▹ Known (non_null y)) us
      → Rest C (Plain (function_reference x) c) vs us
  reference_typed {vs} {c} x y e d r = instr_typed (function_reference x) ε (ε ▹ non_null y) vs c tt (λ s all. ap₂ ref_func_type e d) (λ s all. all) r

  pub new_typed : {vs : Row Operand} {c : Code} (x y : ℕ) → type_of C x ≡ Some (Cont y) → Rest C c (vs ▹ Known (non_null x)) us
      → Rest C (Plain (new_continuation x) c) (vs ▹ Known (nullable y)) us
  new_typed {vs} {c} x y e r =
      instr_typed (new_continuation x) (ε ▹ nullable y) (ε ▹ non_null x) vs c tt (λ s all. ap (λ (o : Option CompType). cont_new_type x (index_in_cont o)) e) (λ s all. all) r

  -- a continuation of all parameters, to a computation
  pub bind_typed : (vs : Row Operand) {c : Code} (x : ℕ) (ts : List ValType) → cont_of C x ≡ Some (arrow ts (I64 ∷ [])) → cont_of C computation_type ≡ Some (arrow [] (I64 ∷ []))
      → Rest C c (vs ▹ Known (non_null computation_type)) us → Rest C (Plain (bind_continuation x computation_type) c) ((vs ⧺ known (row_of ts)) ▹ Known (nullable x)) us
  bind_typed vs {c} x ts e d r =
      instr_typed (bind_continuation x computation_type) (row_of ts ▹ nullable x) (ε ▹ non_null computation_type) vs c
      (record { one = arrow ts (I64 ∷ []); other = arrow [] (I64 ∷ []); has_one = e; has_other = d; takes = none_taken C.types ts; gives = result_refl C.types (I64 ∷ []) })
      (λ s all. ap₂ (cont_bind_type x computation_type) e d ∙ bind_type x computation_type ts) (λ s all. all) r

  -- what takes a number runs in a group, whose one clause lets coroutines switch on this tag
  pub resume_group_typed : {vs : Row Operand} {c : Code} (x e : ℕ) → cont_of C x ≡ Some (arrow (I64 ∷ []) (I64 ∷ [])) → type_of_tag C e ≡ Some (arrow [] (I64 ∷ []))
      → Rest C c (vs ▹ Known I64) us → Rest C (Plain (resume x (Switch e ∷ [])) c) (vs ▹ Known I64 ▹ Known (nullable x)) us
  resume_group_typed {vs} {c} x e is tag r =
      let Q : Option FuncType → Type 0 = λ z. Holds z (λ (t : FuncType). All (ClauseTyped C t.results) (Switch e ∷ [])) in
      let one : SwitchClauseTyped C (I64 ∷ []) e = record { tag = arrow [] (I64 ∷ []); has_tag = tag; no_params = refl; equal = result_equal_refl C.types (I64 ∷ []) } in
      instr_typed (resume x (Switch e ∷ [])) (ε ▹ I64 ▹ nullable x) (ε ▹ I64) vs c
      (subst Q (sym is) (All-cons (ClauseTyped C (I64 ∷ [])) (Switch e) [] one (All-nil (ClauseTyped C (I64 ∷ [])))))
      (λ s all. ap (resume_type x) is) (λ s all. all) r

  -- a switch to a coroutine gives back what a coroutine takes
  pub switch_typed : {vs : Row Operand} {c : Code} (x e : ℕ) → cont_of C x ≡ Some (arrow (I64 ∷ nullable x ∷ []) (I64 ∷ [])) → type_of_tag C e ≡ Some (arrow [] (I64 ∷ []))
      → Rest C c (vs ▹ Known I64 ▹ Known (nullable x)) us → Rest C (Plain (switch x e) c) (vs ▹ Known I64 ▹ Known (nullable x)) us
  switch_typed {vs} {c} x e is tag r =
      let t = arrow (I64 ∷ nullable x ∷ []) (I64 ∷ []) in
      instr_typed (switch x e) (ε ▹ I64 ▹ nullable x) (ε ▹ I64 ▹ nullable x) vs c
      (record {
        one = t;
        beneath = ε ▹ I64;
        is_null = true;
        index = x;
        other = t;
        tag = arrow [] (I64 ∷ []);
        has_one = is;
        params = refl;
        has_other = is;
        has_tag = tag;
        no_params = refl;
        results = result_refl C.types (I64 ∷ []);
        comes_back = result_refl C.types (I64 ∷ []);
      })
      (λ s all. ap (λ (o : Option FuncType). switch_type C x (params_of o)) is ∙ ap (switched_type x (ε ▹ I64)) is) (λ s all. all) r

-- a reference that isn't null is one that may be
pub weaker : (C : Context) (vs : Row Operand) (x : ℕ) → RowMatches C.types (vs ▹ Known (non_null x)) (vs ▹ Known (nullable x))
weaker C vs x = more (row_refl C.types vs) (value (ref (record { nullable = λ h. refl; heap = heap_refl C.types (Index x) })))

-- ## Blocks

-- an end, where what is there is what is wanted
pub end_typed : {C : Context} (ts : Row Operand) → Rest C Done ts ts
end_typed {C} ts = record { typed = λ s all. row_refl C.types ts }

-- 0 or 1, as the number on the stack is 0 or not
pub truth_typed : {C : Context} → Rest C truth (ε ▹ Known I64) (ε ▹ Known I64)
truth_typed {C} = is_zero_typed {vs = ε} (is_zero_32_typed {vs = ε} (extend_typed {vs = ε} (end_typed (ε ▹ Known I64))))

-- a number that is put on the stack at the end
pub value_typed : {C : Context} (z : ℤ) → Rest C (Plain (constant z) Done) ε (ε ▹ Known I64)
value_typed {C} z = constant_typed {vs = ε} z (end_typed (ε ▹ Known I64))

module _ {C : Context} {us : Row Operand} where
  -- two branches, each of which leaves a number
  pub number_if_typed : {vs : Row Operand} {a b c : Code} → Rest (labelled C (ε ▹ I64)) a ε (ε ▹ Known I64) → Rest (labelled C (ε ▹ I64)) b ε (ε ▹ Known I64)
      → Rest C c (vs ▹ Known I64) us → Rest C (number_if_zero a b c) (vs ▹ Known I64) us
  number_if_typed {vs} {a} {b} {c} x y r = is_zero_typed (record {
    typed = λ s all. (
      x.typed s (record { is_set = all.is_set }),
      y.typed s (record { is_set = all.is_set }),
      (vs ▹ Known I64, record { beneath = vs; takes = row_refl C.types (vs ▹ Known I32); gives = row_refl C.types (vs ▹ Known I64) }, r.typed s all),
    );
  })

  -- two branches that leave nothing
  pub if_typed : {a b c : Code} → Rest (labelled C ε) a ε ε → Rest (labelled C ε) b ε ε → Rest C c ε us → Rest C (if_zero a b c) (ε ▹ Known I64) us
  if_typed {a} {b} {c} x y r = is_zero_typed {vs = ε} (record {
    typed = λ s all. (
      x.typed s (record { is_set = all.is_set }),
      y.typed s (record { is_set = all.is_set }),
      (ε, record { beneath = ε; takes = row_refl C.types (ε ▹ Known I32); gives = none }, r.typed s all),
    );
  })

  -- a loop in a block
  pub loop_typed : {a c : Code} → Rest (labelled (labelled C ε) ε) a ε ε → Rest C c ε us → Rest C (Block kind.Block block.Empty (Block kind.Loop block.Empty a Done) c) ε us
  loop_typed {a} {c} x r = record {
    typed = λ s all. (
      (x.typed s (record { is_set = all.is_set }), (ε, record { beneath = ε; takes = none; gives = none }, none)),
      (ε, record { beneath = ε; takes = none; gives = none }, r.typed s all),
    );
  }

  pub branch_if_typed : {c : Code} (l : ℕ) → slice_get C.labels l ≡ Some ε → Rest C c ε us → Rest C (Plain (branch_if l) c) (ε ▹ Known I32) us
  branch_if_typed {c} l e r = instr_typed (branch_if l) (ε ▹ I32) ε ε c tt (λ s all. ap br_if_type e) (λ s all. all) r

  -- what is dropped
  pub dropped_typed : {c : Code} → Rest C c ε us → Rest C (Plain dropped c) (ε ▹ Known I64) us
  dropped_typed {c} r = record {
    typed = λ s all. (tt, (ε, (Known I64, record { beneath = ε; takes = row_refl C.types (ε ▹ Known I64); gives = none }), r.typed s all));
  }

  -- after these nothing runs, so the rest may be typed at any row
  pub branch_typed : {vs : Row Operand} {c : Code} (ws : Row Operand) (l : ℕ) → slice_get C.labels l ≡ Some ε → Rest C c ws us → Rest C (Plain (branch l) c) vs us
  branch_typed {vs} {c} ws l e r = leave_typed (branch l) ε vs ws c tt (λ s. ap br_type e) (λ s all. all) r

  pub returned_typed : {vs : Row Operand} {c : Code} (ws : Row Operand) → C.results ≡ ε ▹ I64 → Rest C c ws us → Rest C (Plain leave c) (vs ▹ Known I64) us
  returned_typed {vs} {c} ws e r = leave_typed leave (ε ▹ I64) vs ws c tt (λ s. ap polymorphic e) (λ s all. all) r

  -- a function that gives what this one gives takes its place
  pub return_call_typed : (vs ws : Row Operand) {c : Code} (x : ℕ) (ts : List ValType) → type_of_func C x ≡ Some (arrow ts (I64 ∷ [])) → C.results ≡ ε ▹ I64 → Rest C c ws us
      → Rest C (Plain (return_call x) c) (vs ⧺ known (row_of ts)) us
  return_call_typed vs ws {c} x ts e q r =
      let Fits : Row ValType → Type 0 = λ rs. ResultMatches C.types (I64 ∷ []) (listed rs) in
      let Gives : Option FuncType → Type 0 = λ t. ReturnsTyped C t in
      let fits : Fits C.results = subst Fits (sym q) (result_refl C.types (I64 ∷ [])) in
      leave_typed (return_call x) (row_of ts) vs ws c (subst Gives (sym e) fits) (λ s. ap tail_call_type e) (λ s all. all) r

  pub unreachable_typed : {vs : Row Operand} {c : Code} (ws : Row Operand) → Rest C c ws us → Rest C (Plain unreachable c) vs us
  unreachable_typed {vs} {c} ws r = leave_typed unreachable ε vs ws c tt (λ s. refl) (λ s all. all) r
