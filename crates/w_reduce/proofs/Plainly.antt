-- What a reduction by no rule of switching prints, and that it goes on apart from the store's continuations: one that prints leaves its
-- context as it was, or leaves its frame, and every other prints nothing; it neither looks at continuations nor changes them; but for a
-- call it adds no frame; and its trap is none of a tag that nothing handles.
use Rattle.std.proofs.Common.{◌≡◌, ◌≤◌, ℕ, ℤ, zero, suc, ◌+◌, ◌%◌, Bool, true, false, List, [], ◌∷◌, length, Option, Some, None, refl, sym, subst, arith}
use Rattle.std.specs.Prelude.{nat_eq, slice_get}
use Rattle.lists.specs.Rows.{Row, ◌▹◌, ◌⧺◌, size}
use Rattle.w_syntax.specs.Code.{Code, Done, Plain, Block, If, IfElse}
use Rattle.w_syntax.specs.Functions.{type_of_function, code_of_function}
use Rattle.w_syntax.specs.declared.instructions.BlockKind.{BlockKind}
use Rattle.w_syntax.specs.declared.instructions.BlockKind.TheVariants as kind
use Rattle.w_syntax.specs.declared.instructions.BlockType.{BlockType}
use Rattle.w_syntax.specs.declared.instructions.ControlOp.{ControlOp}
use Rattle.w_syntax.specs.declared.instructions.ControlOp.TheVariants as control
use Rattle.w_syntax.specs.declared.instructions.Op.{Op}
use Rattle.w_syntax.specs.declared.instructions.Op.TheVariants as op
use Rattle.w_syntax.specs.declared.instructions.ParametricOp.{ParametricOp}
use Rattle.w_syntax.specs.declared.instructions.ParametricOp.TheVariants as parametric
use Rattle.w_syntax.specs.declared.instructions.ReferenceOp.{ReferenceOp}
use Rattle.w_syntax.specs.declared.instructions.ReferenceOp.TheVariants as reference
use Rattle.w_syntax.specs.declared.instructions.TableOp.{TableOp}
use Rattle.w_syntax.specs.declared.instructions.TableOp.TheVariants as table
use Rattle.w_syntax.specs.declared.instructions.VariableOp.{VariableOp}
use Rattle.w_syntax.specs.declared.instructions.VariableOp.TheVariants as variable
use Rattle.w_syntax.specs.declared.memory_instructions.MemoryOp.{MemoryOp}
use Rattle.w_syntax.specs.declared.memory_instructions.MemoryOp.TheVariants as memory
use Rattle.w_syntax.specs.declared.numeric.IntType.TheVariants as int
use Rattle.w_syntax.specs.declared.numeric.NumericOp.{NumericOp}
use Rattle.w_syntax.specs.declared.numeric.NumericOp.TheVariants as numeric
use Rattle.w_memory.specs.Memory.{load, store, fill, init}
use Rattle.w_tables.specs.declared.entries.FuncEntry.{FuncEntry}
use Rattle.w_tables.specs.declared.entries.FuncEntry.TheVariants as entry
use Rattle.w_tables.specs.declared.entries.Printer.{Printer}
use Rattle.w_tables.specs.declared.entries.Printer.TheVariants as printer
use Rattle.w_tables.specs.Elements.{get, replaced, filled, copied, grown}
use Rattle.w_tables.specs.Outcomes.{growth}
use Rattle.w_num.specs.Signed.{inverse}
use Rattle.w_rules.specs.Spaces.{functions_of}
use Rattle.w_reduce.specs.declared.limit.RunLimit.{RunLimit}
use Rattle.w_reduce.specs.declared.trap.Trap.{Trap}
use Rattle.w_reduce.specs.declared.trap.Trap.TheVariants as trap
use Rattle.w_reduce.specs.Values.{Val, I32}
use Rattle.w_reduce.specs.Store.{Store, Table, with_conts}
use Rattle.w_reduce.specs.Terms.{Administrative, Invoke, Branch, Rest, rest_of, Label, Frame, Handle, Context, Term, Continuation, locals_of, with_local, frames, handles}
use Rattle.w_reduce.specs.Program.{Program, arity_of}
use Rattle.w_reduce.specs.Reduced.{Reduced, Went, Trapped, Limited, Ended, Stuck}
use Rattle.w_reduce.specs.Reduced.{steps_to}
use Rattle.w_reduce.specs.Numeric.{numeric_op, width, binop, taken_by}
use Rattle.w_reduce.specs.Parametric.{parametric_op, select}
use Rattle.w_reduce.specs.Variable.{variable_op}
use Rattle.w_reduce.specs.Memories.{memory_op, loaded_size, stored_type, stored_size}
use Rattle.w_reduce.specs.Tables.{table_op, with_elements}
use Rattle.w_reduce.specs.Reference.{reference_op}
use Rattle.w_reduce.specs.Branches.{block, chosen, choice, branch, returns}
use Rattle.w_reduce.specs.Calls.{enter, print, invoked, invoke, params_of, around_frame, return_invoke}
use Rattle.w_reduce.specs.Control.{control_op, callee_in_table, callee_in_reference, label_in}
use Rattle.w_reduce.specs.Exits.{leave}
use Rattle.w_reduce.specs.Reduce.{instruction, next}
use Rattle.w_reduce.specs.Apart.{is_switching, switches, apart, PlainReductionsGoApart}
use Rattle.w_reduce.specs.Entering.{is_call, calls, OnlyCallsAddFrames}
use Rattle.w_reduce.specs.Unhandled.{is_unhandled, OnlySwitchesAreUnhandled}
use Rattle.w_reduce.proofs.GoesOn.{Relates, both_or_stuck, both_or_trap, both_unless_fault, both_take_value, both_take_values, both_take_number, both_take_three, both_as_function, both_if, both_unless_zero, both_by_null}

-- what stands outside of a frame
pub record IsOutside (f e : Context) : Type 0 where
  pub fewer : suc (frames f) ≤ frames e
  pub no_more : handles f ≤ handles e

-- Of two reductions that see the same store but for its continuations, ks in the second: both do the same, print nothing or leave the
-- context as it was, have so many frames at most where they don't leave it, and change no continuation; they may be the end where that is said.
pub data Plainly (ks : List (Option Continuation)) (e : Context) (last : Bool) (most : ℕ) : Reduced → Reduced → Type 0 where
  silent : {s : Store} {t : Term} → frames t.around ≤ most → Plainly ks e last most (Went [] s t) (Went [] (with_conts ks s) t)
  stays : {out : List ℕ} {s : Store} {t : Term} → t.around ≡ e → Plainly ks e last most (Went out s t) (Went out (with_conts ks s) t)
  -- it leaves the innermost frame
  leaves_frame : {out : List ℕ} {s : Store} {t : Term} → IsOutside t.around e → Plainly ks e last most (Went out s t) (Went out (with_conts ks s) t)
  silent_trap : {t : Trap} → is_unhandled t ≡ false → Plainly ks e last most (Trapped t) (Trapped t)
  silent_limit : {l : RunLimit} → Plainly ks e last most (Limited l) (Limited l)
  silent_end : {vs : Row Val} → last ≡ true → Plainly ks e last most (Ended vs) (Ended vs)
  silent_stuck : Plainly ks e last most Stuck Stuck

with_growth : Context → Row Val → Code → ℤ × Store → Reduced
with_growth e vs k g = steps_to g.1 e (vs ▹ I32 (inverse 32 g.0)) (rest_of k)

-- the most frames after a reduction of a term with this context, where it calls and where not
abbrev pub frames_after : Bool → Context → ℕ
frames_after true e = suc (frames e)
frames_after false e = frames e

at_least : (b : Bool) (e : Context) → frames e ≤ frames_after b e
at_least true e = omega arith
at_least false e = omega arith

one_more : (b : Bool) (e : Context) → b ≡ true → suc (frames e) ≤ frames_after b e
one_more true e h = omega arith
one_more false e h = absurd (cc)

-- a local that is set adds none
with_local_frames : (x : ℕ) (v : Val) (e : Context) → frames (with_local x v e) ≡ frames e
with_local_frames x v [] = refl
with_local_frames x v (Label below n again rest ∷ e) = with_local_frames x v e
with_local_frames x v (Frame below n g locals rest ∷ e) = refl
with_local_frames x v (Handle below hs rest ∷ e) = refl

-- what goes on plainly outside of a frame does so inside, as one that leaves it
farther : {ks : List (Option Continuation)} {e f : Context} {last : Bool} {most : ℕ} {r r' : Reduced} → IsOutside f e → Plainly ks f last most r r' → Plainly ks e last most r r'
farther less (silent few) = silent few
farther {e = e} less (stays is) = leaves_frame (subst (λ (g : Context). IsOutside g e) (sym is) less)
farther less (leaves_frame h) = leaves_frame (record {
  fewer = let a = h.fewer in let b = less.fewer in omega (arith, a, b);
  no_more = let a = h.no_more in let b = less.no_more in omega (arith, a, b);
})
farther less (silent_trap is) = silent_trap is
farther less silent_limit = silent_limit
farther less (silent_end is) = silent_end is
farther less silent_stuck = silent_stuck

module _ (ks : List (Option Continuation)) (e : Context) (last : Bool) (most : ℕ) (few : frames e ≤ most) where
  -- where there is no rule, and where both trap, both do the same
  closed : Relates (Plainly ks e last most)
  closed = record { stuck = silent_stuck; traps = λ t is. silent_trap is }

  -- ## Instructions that hold no others

  -- numeric instructions
  pub plainly_numeric : (s : Store) (vs : Row Val) (o : NumericOp) (k : Code) → Plainly ks e last most (numeric_op s e vs o k) (numeric_op (with_conts ks s) e vs o k)
  plainly_numeric s vs (numeric.I32Const z) k = stays refl
  plainly_numeric s vs (numeric.I64Const z) k = stays refl
  plainly_numeric s vs (numeric.Eqz t) k = both_take_number closed t vs _ _ (λ p. stays refl)
  plainly_numeric s vs (numeric.Compare t o) k = both_take_number closed t vs _ _ (λ p. both_take_number closed t p.0 _ _ (λ q. stays refl))
  plainly_numeric s vs (numeric.Unary t o) k = both_take_number closed t vs _ _ (λ p. stays refl)
  plainly_numeric s vs (numeric.Binary t o) k =
      both_take_number closed t vs _ _ (λ p. both_take_number closed t p.0 _ _ (λ q. both_unless_fault closed (binop o (width t) q.1 p.1) _ _ (λ r. stays refl)))
  plainly_numeric s vs (numeric.Convert o) k = both_take_number closed (taken_by o) vs _ _ (λ p. stays refl)

  plainly_select : (s : Store) (vs : Row Val) (k : Code) → Plainly ks e last most (select s e vs k) (select (with_conts ks s) e vs k)
  plainly_select s vs k = both_take_number closed int.I32 vs _ _ (λ p. both_take_value closed p.0 _ _ (λ q. both_take_value closed q.0 _ _ (λ r. stays refl)))

  -- parametric instructions
  pub plainly_parametric : (s : Store) (vs : Row Val) (o : ParametricOp) (k : Code) → Plainly ks e last most (parametric_op s e vs o k) (parametric_op (with_conts ks s) e vs o k)
  plainly_parametric s vs parametric.Drop k = both_take_value closed vs _ _ (λ p. stays refl)
  plainly_parametric s vs parametric.Select k = plainly_select s vs k
  plainly_parametric s vs (parametric.SelectOf ts) k = plainly_select s vs k

  in_local : (x : ℕ) (v : Val) → frames (with_local x v e) ≤ most
  in_local x v = let same = with_local_frames x v e in omega (arith, same, few)

  -- variable instructions
  pub plainly_variable : (s : Store) (vs : Row Val) (o : VariableOp) (k : Code) → Plainly ks e last most (variable_op s e vs o k) (variable_op (with_conts ks s) e vs o k)
  plainly_variable s vs (variable.LocalGet x) k = both_or_stuck closed (slice_get (locals_of e) x) _ _ (λ l. both_or_stuck closed l _ _ (λ v. stays refl))
  plainly_variable s vs (variable.LocalSet x) k = both_or_stuck closed (slice_get (locals_of e) x) _ _ (λ l. both_take_value closed vs _ _ (λ p. silent (in_local x p.1)))
  plainly_variable s vs (variable.LocalTee x) k = both_or_stuck closed (slice_get (locals_of e) x) _ _ (λ l. both_take_value closed vs _ _ (λ p. silent (in_local x p.1)))
  plainly_variable s vs (variable.GlobalGet x) k = both_or_stuck closed (slice_get s.globals x) _ _ (λ v. stays refl)
  plainly_variable s vs (variable.GlobalSet x) k = both_or_stuck closed (slice_get s.globals x) _ _ (λ v. both_take_value closed vs _ _ (λ p. stays refl))

  -- memory instructions
  pub plainly_memory : (s : Store) (vs : Row Val) (o : MemoryOp) (k : Code) → Plainly ks e last most (memory_op s e vs o k) (memory_op (with_conts ks s) e vs o k)
  plainly_memory s vs (memory.Load o arg) k =
      both_take_number closed int.I32 vs _ _ (λ p. both_or_stuck closed (slice_get s.memories arg.memory) _ _ (λ m.
      both_or_trap closed trap.MemoryOutOfBounds refl (load m (p.1 + arg.offset) (loaded_size o)) _ _ (λ n. stays refl)))
  plainly_memory s vs (memory.Store o arg) k =
      both_take_number closed (stored_type o) vs _ _ (λ p. both_take_number closed int.I32 p.0 _ _ (λ q. both_or_stuck closed (slice_get s.memories arg.memory) _ _ (λ m.
      both_or_trap closed trap.MemoryOutOfBounds refl (store m (q.1 + arg.offset) (stored_size o) p.1) _ _ (λ n. stays refl))))
  plainly_memory s vs (memory.Size x) k = both_or_stuck closed (slice_get s.memories x) _ _ (λ m. stays refl)
  plainly_memory s vs (memory.Grow x) k = both_take_number closed int.I32 vs _ _ (λ p. both_or_stuck closed (slice_get s.memories x) _ _ (λ m. stays refl))
  plainly_memory s vs (memory.Init y x) k =
      both_take_three closed vs _ _ (λ n j d. both_or_stuck closed (slice_get s.memories x) _ _ (λ m. both_or_stuck closed (slice_get s.datas y) _ _ (λ bytes.
      both_or_trap closed trap.MemoryOutOfBounds refl (init m bytes d.1 j.1 n.1) _ _ (λ new. stays refl))))
  plainly_memory s vs (memory.DataDrop y) k = both_or_stuck closed (slice_get s.datas y) _ _ (λ bytes. stays refl)
  plainly_memory s vs (memory.Copy x y) k =
      both_take_three closed vs _ _ (λ n j d. both_or_stuck closed (slice_get s.memories x) _ _ (λ m. both_or_stuck closed (slice_get s.memories y) _ _ (λ source.
      both_or_trap closed trap.MemoryOutOfBounds refl (init m source.bytes d.1 j.1 n.1) _ _ (λ new. stays refl))))
  plainly_memory s vs (memory.Fill x) k =
      both_take_three closed vs _ _ (λ n b d. both_or_stuck closed (slice_get s.memories x) _ _ (λ m. both_or_trap closed trap.MemoryOutOfBounds refl (fill m d.1 (b.1 % 256) n.1) _ _ (λ new. stays refl)))

  -- a table that grew, or did not
  plainly_grown : (s : Store) (x : ℕ) (t : Table) (vs : Row Val) (k : Code) (o : Option (List Val)) → Plainly ks e last most (with_growth e vs k (growth (length t.elements) s (with_elements s x t) o))
      (with_growth e vs k (growth (length t.elements) (with_conts ks s) (with_elements (with_conts ks s) x t) o))
  unfolding with_growth
  plainly_grown s x t vs k None = stays refl
  plainly_grown s x t vs k (Some new) = stays refl

  -- table instructions
  pub plainly_table : (s : Store) (vs : Row Val) (o : TableOp) (k : Code) → Plainly ks e last most (table_op s e vs o k) (table_op (with_conts ks s) e vs o k)
  unfolding with_growth
  plainly_table s vs (table.Get x) k =
      both_take_number closed int.I32 vs _ _ (λ i. both_or_stuck closed (slice_get s.tables x) _ _ (λ t. both_or_trap closed trap.TableOutOfBounds refl (get t.elements i.1) _ _ (λ v. stays refl)))
  plainly_table s vs (table.Set x) k =
      both_take_value closed vs _ _ (λ v. both_take_number closed int.I32 v.0 _ _ (λ i. both_or_stuck closed (slice_get s.tables x) _ _ (λ t.
      both_or_trap closed trap.TableOutOfBounds refl (replaced t.elements i.1 v.1) _ _ (λ new. stays refl))))
  plainly_table s vs (table.Init y x) k =
      both_take_three closed vs _ _ (λ n j d. both_or_stuck closed (slice_get s.tables x) _ _ (λ t. both_or_stuck closed (slice_get s.elements y) _ _ (λ segment.
      both_or_trap closed trap.TableOutOfBounds refl (copied t.elements segment d.1 j.1 n.1) _ _ (λ new. stays refl))))
  plainly_table s vs (table.ElemDrop y) k = both_or_stuck closed (slice_get s.elements y) _ _ (λ segment. stays refl)
  plainly_table s vs (table.Copy x y) k =
      both_take_three closed vs _ _ (λ n j d. both_or_stuck closed (slice_get s.tables x) _ _ (λ t. both_or_stuck closed (slice_get s.tables y) _ _ (λ source.
      both_or_trap closed trap.TableOutOfBounds refl (copied t.elements source.elements d.1 j.1 n.1) _ _ (λ new. stays refl))))
  plainly_table s vs (table.Grow x) k =
      both_take_number closed int.I32 vs _ _ (λ n. both_take_value closed n.0 _ _ (λ v. both_or_stuck closed (slice_get s.tables x) _ _ (λ t.
      plainly_grown s x t v.0 k (grown t.elements t.max v.1 n.1))))
  plainly_table s vs (table.Size x) k = both_or_stuck closed (slice_get s.tables x) _ _ (λ t. stays refl)
  plainly_table s vs (table.Fill x) k =
      both_take_number closed int.I32 vs _ _ (λ n. both_take_value closed n.0 _ _ (λ v. both_take_number closed int.I32 v.0 _ _ (λ i.
      both_or_stuck closed (slice_get s.tables x) _ _ (λ t. both_or_trap closed trap.TableOutOfBounds refl (filled t.elements i.1 v.1 n.1) _ _ (λ new. stays refl)))))

  -- reference instructions
  pub plainly_reference : (s : Store) (vs : Row Val) (o : ReferenceOp) (k : Code) → Plainly ks e last most (reference_op s e vs o k) (reference_op (with_conts ks s) e vs o k)
  plainly_reference s vs (reference.Null x) k = stays refl
  plainly_reference s vs reference.IsNull k = both_take_value closed vs _ _ (λ p. both_by_null closed p.1 _ _ _ _ (stays refl) (stays refl))
  plainly_reference s vs (reference.Func x) k = both_or_stuck closed (slice_get s.functions x) _ _ (λ f. stays refl)
  plainly_reference s vs reference.AsNonNull k = both_take_value closed vs _ _ (λ p. both_by_null closed p.1 _ _ _ _ (silent_trap refl) (stays refl))

  -- ## Blocks, branches and exits

  -- a block
  pub plainly_block : (p : Program) (s : Store) (vs : Row Val) (b : BlockKind) (t : BlockType) (x k : Code) → Plainly ks e last most (block p s e vs b t x k) (block p (with_conts ks s) e vs b t x k)
  plainly_block p s vs kind.Block t x k = both_or_stuck closed (arity_of p.source t) _ _ (λ a. both_take_values closed a.params vs _ _ (λ q. silent few))
  plainly_block p s vs kind.Loop t x k = both_or_stuck closed (arity_of p.source t) _ _ (λ a. both_take_values closed a.params vs _ _ (λ q. silent few))

  -- a choice of two blocks
  pub plainly_choice : (p : Program) (s : Store) (vs : Row Val) (t : BlockType) (x y k : Code) → Plainly ks e last most (choice p s e vs t x y k) (choice p (with_conts ks s) e vs t x y k)
  plainly_choice p s vs t x y k = both_take_number closed int.I32 vs _ _ (λ q. plainly_block p s q.0 kind.Block t (chosen q.1 x y) k)

  -- a branch out of any context
  pub plainly_branch : (s : Store) (l : ℕ) (f : Context) (vs : Row Val) → frames f ≤ most → Plainly ks e last most (branch s l f vs) (branch (with_conts ks s) l f vs)
  plainly_branch s l [] vs h = silent_stuck
  plainly_branch s zero (Label below a again rest ∷ f) vs h = both_take_values closed a vs _ _ (λ q. silent h)
  plainly_branch s (suc l) (Label below a again rest ∷ f) vs h = plainly_branch s l f vs h
  plainly_branch s l (Frame below a g locals rest ∷ f) vs h = silent_stuck
  plainly_branch s l (Handle below hs rest ∷ f) vs h = silent_stuck

  -- a return out of any context
  pub plainly_returns : (s : Store) (f : Context) (vs : Row Val) → frames f ≤ most → Plainly ks e last most (returns s f vs) (returns (with_conts ks s) f vs)
  plainly_returns s [] vs h = silent_stuck
  plainly_returns s (Label below a again rest ∷ f) vs h = plainly_returns s f vs h
  plainly_returns s (Frame below a g locals rest ∷ f) vs h = let fewer : frames f ≤ most = omega (arith, h) in both_take_values closed a vs _ _ (λ q. silent fewer)
  plainly_returns s (Handle below hs rest ∷ f) vs h = silent_stuck

  -- ## Calls

  -- a call of a function of the module
  pub plainly_enter : (p : Program) (s : Store) (vs : Row Val) (i : ℕ) (r : Rest) → suc (frames e) ≤ most → Plainly ks e last most (enter p s e vs i r) (enter p (with_conts ks s) e vs i r)
  plainly_enter p s vs i r more =
      both_or_stuck closed (type_of_function p.source i) _ _ (λ t. both_or_stuck closed (code_of_function p.source i) _ _ (λ code.
      both_take_values closed (length t.params) vs _ _ (λ q. silent more)))

  -- a call of a function of the host's prints, and its context stays
  pub plainly_print : (s : Store) (vs : Row Val) (o : Printer) (r : Rest) → Plainly ks e last most (print s e vs o r) (print (with_conts ks s) e vs o r)
  plainly_print s vs printer.I32 r = both_take_number closed int.I32 vs _ _ (λ q. stays refl)
  plainly_print s vs printer.I64 r = both_take_number closed int.I64 vs _ _ (λ q. stays refl)
  plainly_print s vs printer.Byte r = both_take_number closed int.I32 vs _ _ (λ q. stays refl)

  plainly_invoked : (p : Program) (s : Store) (vs : Row Val) (f : FuncEntry) (r : Rest) → suc (frames e) ≤ most → Plainly ks e last most (invoked p s e vs f r) (invoked p (with_conts ks s) e vs f r)
  plainly_invoked p s vs (entry.Own i) r more = plainly_enter p s vs i r more
  plainly_invoked p s vs (entry.Printer o) r more = plainly_print s vs o r

  -- a call
  pub plainly_invoke : (p : Program) (s : Store) (vs : Row Val) (a : ℕ) (r : Rest) → suc (frames e) ≤ most → Plainly ks e last most (invoke p s e vs a r) (invoke p (with_conts ks s) e vs a r)
  plainly_invoke p s vs a r more = both_or_stuck closed (slice_get s.functions a) _ _ (λ f. plainly_invoked p s vs f r more)

  -- a callee that is found in a table, or by a reference
  plainly_in_table : (p : Program) (s : Store) (vs : Row Val) (y x : ℕ) (go go' : Row Val × ℕ → Reduced) → ((q : Row Val × ℕ) → Plainly ks e last most (go q) (go' q))
      → Plainly ks e last most (callee_in_table p s vs y x go) (callee_in_table p (with_conts ks s) vs y x go')
  plainly_in_table p s vs y x go go' h =
      both_take_number closed int.I32 vs _ _ (λ q. both_or_stuck closed (slice_get s.tables x) _ _ (λ t. both_or_trap closed trap.UndefinedElement refl (slice_get t.elements q.1) _ _ (λ r.
      both_as_function closed trap.NullElement refl r _ _ (λ a. both_or_stuck closed (slice_get (functions_of p.source) a) _ _ (λ z.
      both_if closed (p.matches z y) _ _ _ _ (h (q.0, a)) (silent_trap refl))))))

  plainly_in_reference : (vs : Row Val) (go go' : Row Val × ℕ → Reduced) → ((q : Row Val × ℕ) → Plainly ks e last most (go q) (go' q))
      → Plainly ks e last most (callee_in_reference vs go) (callee_in_reference vs go')
  plainly_in_reference vs go go' h = both_take_value closed vs _ _ (λ q. both_as_function closed trap.NullReference refl q.1 _ _ (λ a. h (q.0, a)))

  -- a tail call goes on outside of the innermost frame
  plainly_around : (f : Context) (go go' : Row Val × Rest × Context → Reduced) → ((q : Row Val × Rest × Context) → IsOutside q.2 f → Plainly ks e last most (go q) (go' q))
      → Plainly ks e last most (around_frame f go) (around_frame f go')
  plainly_around [] go go' h = silent_stuck
  plainly_around (Label below n again rest ∷ f) go go' h = plainly_around f go go' (λ q less. h q (record { fewer = less.fewer; no_more = less.no_more }))
  plainly_around (Frame below n g locals rest ∷ f) go go' h = h (below, rest, f) (record { fewer = omega arith; no_more = omega arith })
  plainly_around (Handle below hs rest ∷ f) go go' h = silent_stuck

  plainly_return_invoke : (p : Program) (s : Store) (vs : Row Val) (a : ℕ)
      → ((f : Context) (ws : Row Val) (x : FuncEntry) (r : Rest) → IsOutside f e → Plainly ks f last most (invoked p s f ws x r) (invoked p (with_conts ks s) f ws x r))
      → Plainly ks e last most (return_invoke p s e vs a) (return_invoke p (with_conts ks s) e vs a)
  plainly_return_invoke p s vs a outer =
      both_or_stuck closed (slice_get s.functions a) _ _ (λ x. both_or_stuck closed (params_of p x) _ _ (λ n.
      both_take_values closed n vs _ _ (λ q. plainly_around e _ _ (λ g less. farther less (outer g.2 (g.0 ⧺ q.1) x g.1 less)))))

  -- control instructions that hold no others
  pub plainly_control : (p : Program) (s : Store) (vs : Row Val) (o : ControlOp) (k : Code) → (is_call (op.Control o) ≡ true → suc (frames e) ≤ most)
      → ((f : Context) (ws : Row Val) (x : FuncEntry) (r : Rest) → IsOutside f e → Plainly ks f last most (invoked p s f ws x r) (invoked p (with_conts ks s) f ws x r))
      → Plainly ks e last most (control_op p s e vs o k) (control_op p (with_conts ks s) e vs o k)
  plainly_control p s vs control.Unreachable k more outer = silent_trap refl
  plainly_control p s vs control.Nop k more outer = stays refl
  plainly_control p s vs (control.Br l) k more outer = plainly_branch s l e vs few
  plainly_control p s vs (control.BrIf l) k more outer = both_take_number closed int.I32 vs _ _ (λ q. both_unless_zero closed q.1 _ _ _ _ (plainly_branch s l e q.0 few) (stays refl))
  plainly_control p s vs (control.BrTable ls l) k more outer = both_take_number closed int.I32 vs _ _ (λ q. plainly_branch s (label_in (slice_get ls q.1) l) e q.0 few)
  plainly_control p s vs control.Return k more outer = plainly_returns s e vs few
  plainly_control p s vs (control.BrOnNull l) k more outer = both_take_value closed vs _ _ (λ q. both_by_null closed q.1 _ _ _ _ (plainly_branch s l e q.0 few) (stays refl))
  plainly_control p s vs (control.BrOnNonNull l) k more outer = both_take_value closed vs _ _ (λ q. both_by_null closed q.1 _ _ _ _ (stays refl) (plainly_branch s l e (q.0 ▹ q.1) few))
  plainly_control p s vs (control.Call x) k more outer = plainly_invoke p s vs x (rest_of k) (more refl)
  plainly_control p s vs (control.CallIndirect y x) k more outer = plainly_in_table p s vs y x _ _ (λ q. plainly_invoke p s q.0 q.1 (rest_of k) (more refl))
  plainly_control p s vs (control.CallRef y) k more outer = plainly_in_reference vs _ _ (λ q. plainly_invoke p s q.0 q.1 (rest_of k) (more refl))
  plainly_control p s vs (control.ReturnCall x) k more outer = plainly_return_invoke p s vs x outer
  plainly_control p s vs (control.ReturnCallIndirect y x) k more outer = plainly_in_table p s vs y x _ _ (λ q. plainly_return_invoke p s q.0 q.1 outer)
  plainly_control p s vs (control.ReturnCallRef y) k more outer = plainly_in_reference vs _ _ (λ q. plainly_return_invoke p s q.0 q.1 outer)

-- ## One reduction

-- an instruction that holds no others, and has no rule of switching
pub plainly_instruction : (ks : List (Option Continuation)) (p : Program) (s : Store) (e : Context) (vs : Row Val) (o : Op) (k : Code) → is_switching o ≡ false
    → Plainly ks e false (frames_after (is_call o) e) (instruction p s e vs o k) (instruction p (with_conts ks s) e vs o k)
plainly_instruction ks p s e vs (op.Control o) k h =
    plainly_control ks e false (frames_after (is_call (op.Control o)) e) (at_least (is_call (op.Control o)) e) p s vs o k (one_more (is_call (op.Control o)) e)
    (λ f ws x r outer. let least = at_least (is_call (op.Control o)) e in let less = outer.fewer in
    plainly_invoked ks f false (frames_after (is_call (op.Control o)) e) (omega (arith, less, least)) p s ws x r (omega (arith, less, least)))
plainly_instruction ks p s e vs (op.Parametric o) k h = plainly_parametric ks e false (frames e) (at_least false e) s vs o k
plainly_instruction ks p s e vs (op.Variable o) k h = plainly_variable ks e false (frames e) (at_least false e) s vs o k
plainly_instruction ks p s e vs (op.Table o) k h = plainly_table ks e false (frames e) (at_least false e) s vs o k
plainly_instruction ks p s e vs (op.Memory o) k h = plainly_memory ks e false (frames e) (at_least false e) s vs o k
plainly_instruction ks p s e vs (op.Numeric o) k h = plainly_numeric ks e false (frames e) (at_least false e) s vs o k
plainly_instruction ks p s e vs (op.Reference o) k h = plainly_reference ks e false (frames e) (at_least false e) s vs o k
plainly_instruction ks p s e vs (op.Switching o) k h = absurd (cc)

-- nothing is left to come, and nothing stands around
abbrev pub is_last : Context → List Administrative → Code → Bool
is_last [] [] Done = true
is_last e ahead k = false

-- the exit of a label, of a frame and of a handle
plainly_leave : (ks : List (Option Continuation)) (s : Store) (e : Context) (vs : Row Val) → Plainly ks e (is_last e [] Done) (frames e) (leave s e vs) (leave (with_conts ks s) e vs)
plainly_leave ks s [] vs = silent_end refl
plainly_leave ks s (Label below n again rest ∷ e) vs = silent (at_least false e)
plainly_leave ks s (Frame below n g locals rest ∷ e) vs =
    both_if (closed ks (Frame below n g locals rest ∷ e) false (suc (frames e)) (at_least false (Frame below n g locals rest ∷ e))) (nat_eq (size vs) n) _ _ _ _ (silent (at_least true e)) silent_stuck
plainly_leave ks s (Handle below hs rest ∷ e) vs = silent (at_least false e)

plainly_code : (ks : List (Option Continuation)) (p : Program) (s : Store) (e : Context) (vs : Row Val) (k : Code) → switches [] k ≡ false
    → Plainly ks e (is_last e [] k) (frames_after (calls [] k) e) (next p s e vs [] k) (next p (with_conts ks s) e vs [] k)
plainly_code ks p s [] vs (Plain o k) h = plainly_instruction ks p s [] vs o k h
plainly_code ks p s [] vs (Block b t x k) h = plainly_block ks [] false (frames []) (at_least false []) p s vs b t x k
plainly_code ks p s [] vs (If t x k) h = plainly_choice ks [] false (frames []) (at_least false []) p s vs t x Done k
plainly_code ks p s [] vs (IfElse t x y k) h = plainly_choice ks [] false (frames []) (at_least false []) p s vs t x y k
plainly_code ks p s [] vs Done h = plainly_leave ks s [] vs
plainly_code ks p s (l ∷ e) vs (Plain o k) h = plainly_instruction ks p s (l ∷ e) vs o k h
plainly_code ks p s (l ∷ e) vs (Block b t x k) h = plainly_block ks (l ∷ e) false (frames (l ∷ e)) (at_least false (l ∷ e)) p s vs b t x k
plainly_code ks p s (l ∷ e) vs (If t x k) h = plainly_choice ks (l ∷ e) false (frames (l ∷ e)) (at_least false (l ∷ e)) p s vs t x Done k
plainly_code ks p s (l ∷ e) vs (IfElse t x y k) h = plainly_choice ks (l ∷ e) false (frames (l ∷ e)) (at_least false (l ∷ e)) p s vs t x y k
plainly_code ks p s (l ∷ e) vs Done h = plainly_leave ks s (l ∷ e) vs

plainly_ahead : (ks : List (Option Continuation)) (p : Program) (s : Store) (e : Context) (vs : Row Val) (a : Administrative) (ahead : List Administrative) (k : Code)
    → Plainly ks e (is_last e (a ∷ ahead) k) (frames_after (calls (a ∷ ahead) k) e) (next p s e vs (a ∷ ahead) k) (next p (with_conts ks s) e vs (a ∷ ahead) k)
plainly_ahead ks p s [] vs (Invoke a) ahead k = plainly_invoke ks [] false (suc (frames [])) (at_least true []) p s vs a (record { ahead = ahead; code = k }) (one_more true [] refl)
plainly_ahead ks p s (l ∷ e) vs (Invoke a) ahead k = plainly_invoke ks (l ∷ e) false (suc (frames (l ∷ e))) (at_least true (l ∷ e)) p s vs a (record { ahead = ahead; code = k }) (one_more true (l ∷ e) refl)
plainly_ahead ks p s [] vs (Branch l) ahead k = silent_stuck
plainly_ahead ks p s (f ∷ e) vs (Branch l) ahead k = plainly_branch ks (f ∷ e) false (frames (f ∷ e)) (at_least false (f ∷ e)) s l (f ∷ e) vs (at_least false (f ∷ e))

-- what comes next, where that is no instruction that switches stacks; it is the end only where nothing is left
pub plainly_next : (ks : List (Option Continuation)) (p : Program) (s : Store) (e : Context) (vs : Row Val) (ahead : List Administrative) (k : Code) → switches ahead k ≡ false
    → Plainly ks e (is_last e ahead k) (frames_after (calls ahead k) e) (next p s e vs ahead k) (next p (with_conts ks s) e vs ahead k)
plainly_next ks p s e vs [] k h = plainly_code ks p s e vs k h
plainly_next ks p s e vs (a ∷ ahead) k h = plainly_ahead ks p s e vs a ahead k

-- so it goes on apart from continuations
goes_apart : {ks : List (Option Continuation)} {e : Context} {last : Bool} {most : ℕ} {r r' : Reduced} → Plainly ks e last most r r' → r' ≡ apart ks r
goes_apart (silent few) = refl
goes_apart (stays is) = refl
goes_apart (leaves_frame less) = refl
goes_apart (silent_trap is) = refl
goes_apart silent_limit = refl
goes_apart (silent_end is) = refl
goes_apart silent_stuck = refl

pub plain_apart : PlainReductionsGoApart
plain_apart ks p s e vs ahead k h = goes_apart (plainly_next ks p s e vs ahead k h)

-- with no more frames, where its context has none more
few_after : {ks : List (Option Continuation)} {e : Context} {last : Bool} {most : ℕ} {r r' : Reduced} → frames e ≤ most → Plainly ks e last most r r'
    → (out : List ℕ) (v : Store) (t : Term) → r ≡ Went out v t → frames t.around ≤ most
few_after {most = most} few (silent {t = old} h) out v t is = let same : old ≡ t = cc in subst (λ (y : Term). frames y.around ≤ most) same h
few_after {most = most} few (stays {t = old} h) out v t is =
    let same : old ≡ t = cc in subst (λ (y : Term). frames y.around ≤ most) same (subst (λ (f : Context). frames f ≤ most) (sym h) few)
few_after {most = most} few (leaves_frame {t = old} h) out v t is =
    let same : old ≡ t = cc in let less = h.fewer in subst (λ (y : Term). frames y.around ≤ most) same (omega (arith, few, less))
few_after few (silent_trap h) out v t is = absurd (cc)
few_after few silent_limit out v t is = absurd (cc)
few_after few (silent_end h) out v t is = absurd (cc)
few_after few silent_stuck out v t is = absurd (cc)

pub no_more_frames : OnlyCallsAddFrames
no_more_frames p s e vs ahead k plain none out v t is =
    subst (λ (b : Bool). frames t.around ≤ frames_after b e) none
    (few_after (at_least (calls ahead k) e) (plainly_next [] p s e vs ahead k plain) out v t is)

-- its trap names no tag
trap_after : {ks : List (Option Continuation)} {e : Context} {last : Bool} {most : ℕ} {r r' : Reduced} → Plainly ks e last most r r' → (t : Trap) → r ≡ Trapped t → is_unhandled t ≡ false
trap_after (silent few) t is = absurd (cc)
trap_after (stays h) t is = absurd (cc)
trap_after (leaves_frame less) t is = absurd (cc)
trap_after (silent_trap {t = old} h) t is = let same : old ≡ t = cc in subst (λ (u : Trap). is_unhandled u ≡ false) same h
trap_after silent_limit t is = absurd (cc)
trap_after (silent_end h) t is = absurd (cc)
trap_after silent_stuck t is = absurd (cc)

pub only_switches : OnlySwitchesAreUnhandled
only_switches p s e vs ahead k plain t is = trap_after (plainly_next [] p s e vs ahead k plain) t is
