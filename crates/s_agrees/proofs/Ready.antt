-- Where a redex of the script stands in the machine's term: all that it needs are values.
use Rattle.std.proofs.Common.{◌≡◌, ℕ, ◌+◌, ◌≤◌, true, false, ℤ, pos, List, [], ◌∷◌}
use Rattle.lists.specs.Rows.{Row, ε, ◌▹◌, ◌⧺◌}
use Rattle.w_syntax.specs.Code.{Code, Done, Plain}
use Rattle.w_reduce.specs.Values.{Val}
use Rattle.w_reduce.specs.Terms.{Label, Context}
use Rattle.s_syntax.specs.declared.name.Name.{Name}
use Rattle.s_syntax.specs.declared.number.Number.{Number as WrittenNumber}
use Rattle.s_syntax.specs.declared.script.VariableType.TheVariants.{Coroutine}
use Rattle.s_syntax.specs.declared.script.Declaration.{Declaration}
use Rattle.s_syntax.specs.declared.operators.UnaryOperator.{UnaryOperator}
use Rattle.s_syntax.specs.declared.operators.BinaryOperator.TheVariants.{Connects, Compares, Computes}
use Rattle.s_syntax.specs.declared.operators.Connective.{Connective}
use Rattle.s_syntax.specs.declared.operators.Comparison.{Comparison}
use Rattle.s_syntax.specs.declared.operators.Arithmetic.{Arithmetic}
use Rattle.s_syntax.specs.ExprTree.{ExprTree, Read, Exprs, Operands}
use Rattle.s_syntax.specs.BlockTree.{BlockTree}
use Rattle.s_check.specs.Scopes.{is_among}
use Rattle.s_index.specs.Handled.{handled_names}
use Rattle.s_index.specs.Numbers.{function_index, tag_index}
use Rattle.s_code.specs.Instructions.{constant, call, return_call, local_get, nop, suspend, unreachable, truth, unary_operator, connective, comparison, arithmetic}
use Rattle.s_code.specs.Layouts.{Layout, local_number, stays, is_own}
use Rattle.s_code.specs.Expressions.{expr, operands}
use Rattle.s_code.specs.Coroutines.{group_code, spawn_code}
use Rattle.s_code.specs.Statements.{ending}
use Rattle.s_meaning.specs.Numbers.{decided}
use Rattle.s_meaning.specs.Terms.{Value, Number, Calling, Doing, Handling, Resuming, TailResuming, TailCalling, Grouping, Use, Work, Among}
use Rattle.s_meaning.specs.Focus.{Redex, Constant, Lookup, OnUnary, OnBinary, Decides, Applies, Uses, Fails, Spawns, Ends, followed_by}
use Rattle.s_valid.proofs.LayoutTypes.{Placed as HasLocal}
use Rattle.s_agrees.proofs.ScriptRows.{Values, no_values, ◌▸◌, ◌⧻◌, many}
use Rattle.s_agrees.proofs.StandsFor as standing
use Rattle.s_agrees.proofs.StandsFor.{Same, Sames, Locals, LocalIs, HeldAt, WellExpr, WellOperands, Deep, Rest, Asides, asides_code, handle_code, resume_code, tail_code, Works}

-- the redex, with the pending work around it; the code in e is what does it, and then that work
pub data Ready (ds : List Declaration) (ρ : List ℕ) (Γ : Layout) (n D0 : ℕ) (f : Context) : Redex → ℕ → Locals → List Work → Row Val → Code → Context → Type 0 where
  constant_ready : {t : ℕ} {k : WrittenNumber} {L : Locals} {w : List Work} {ops : Row Val} {c : Code} {e : Context} → Works ds ρ Γ n D0 f t L w ops c e
      → Ready ds ρ Γ n D0 f (Constant k) t L w ops (Plain (constant (pos k.value)) c) e
  lookup_ready : {t : ℕ} {x : Name} {L : Locals} {w : List Work} {ops : Row Val} {c : Code} {e : Context} → Works ds ρ Γ n D0 f t L w ops c e
      → Ready ds ρ Γ n D0 f (Lookup x) t L w ops (Plain (local_get (local_number Γ x)) c) e
  -- a first argument of a handle that is read where it lies
  aside_ready : {t t0 m u : ℕ} {x g h : Name} {L : Locals} {us : Values} {es bs : Exprs} {k : List Work} {ops : Row Val} {c : Code} {e : Context} (ns : Row ℕ)
      → stays Γ (Read x) ≡ true → t0 ≤ t → Asides ds ρ Γ n L g m t u ns us es bs → Works ds ρ Γ n D0 f t0 L k ops c e
      → Ready ds ρ Γ n D0 f (Lookup x) t L (Among (Handling g m h) us (followed_by es bs) ∷ k) ops (Plain nop (asides_code ds Γ g h t u (ns ▹ local_number Γ x) es bs c)) e
  unary_ready : {t : ℕ} {o : UnaryOperator} {v : Value} {a : Val} {L : Locals} {w : List Work} {ops : Row Val} {c : Code} {e : Context} → Same ρ v a → Works ds ρ Γ n D0 f t L w ops c e
      → Ready ds ρ Γ n D0 f (OnUnary o v) t L w (ops ▹ a) (unary_operator o c) e
  comparison_ready : {t : ℕ} {o : Comparison} {u v : Value} {a b : Val} {L : Locals} {w : List Work} {ops : Row Val} {c : Code} {e : Context} → Same ρ u a → Same ρ v b → Works ds ρ Γ n D0 f t L w ops c e
      → Ready ds ρ Γ n D0 f (OnBinary (Compares o) u v) t L w ((ops ▹ a) ▹ b) (comparison o c) e
  arithmetic_ready : {t : ℕ} {o : Arithmetic} {u v : Value} {a b : Val} {L : Locals} {w : List Work} {ops : Row Val} {c : Code} {e : Context} → Same ρ u a → Same ρ v b → Works ds ρ Γ n D0 f t L w ops c e
      → Ready ds ρ Γ n D0 f (OnBinary (Computes o) u v) t L w ((ops ▹ a) ▹ b) (arithmetic o c) e
  -- the right side of && or ||, inside its label
  truth_ready : {t : ℕ} {o : Connective} {z : ℤ} {v : Value} {b : Val} {L : Locals} {w : List Work} {ops : Row Val} {c : Code} {e : Context} → decided o z ≡ false → Same ρ v b
      → Works ds ρ Γ n D0 f t L w ops c e → Ready ds ρ Γ n D0 f (OnBinary (Connects o) (Number z) v) t L w (ε ▹ b) truth (Label ops 1 Done c ∷ e)
  decides_ready : {t : ℕ} {o : Connective} {v : Value} {a : Val} {x : ExprTree} {more : Operands} {L : Locals} {k : List Work} {ops : Row Val} {c : Code} {e : Context}
      → Same ρ v a → WellExpr ds n t x → WellOperands ds n t more → Works ds ρ Γ n D0 f t L k ops c e
      → Ready ds ρ Γ n D0 f (Decides o v x more) t L k (ops ▹ a) (connective o (expr ds Γ t x truth) (operands ds Γ t more c)) e
  call_ready : {t : ℕ} {g : Name} {vs : Values} {ws : Row Val} {L : Locals} {w : List Work} {ops : Row Val} {c : Code} {e : Context} → Sames ρ vs ws → Works ds ρ Γ n D0 f t L w ops c e
      → Ready ds ρ Γ n D0 f (Applies (Calling g) vs) t L w (ops ⧺ ws) (Plain (call (function_index ds g)) c) e
  do_ready : {t : ℕ} {op : Name} {vs : Values} {ws : Row Val} {L : Locals} {w : List Work} {ops : Row Val} {c : Code} {e : Context} → Sames ρ vs ws → Works ds ρ Γ n D0 f t L w ops c e
      → Ready ds ρ Γ n D0 f (Applies (Doing op) vs) t L w (ops ⧺ ws) (Plain (suspend (tag_index ds op)) c) e
  handle_ready : {t m b : ℕ} {g h : Name} {us vs : Values} {ws : Row Val} {L : Locals} {w : List Work} {ops : Row Val} {c : Code} {e : Context} (ns : Row ℕ)
      → m ≡ many us → is_among (handled_names ds) g ≡ true → HeldAt ρ L b ns us → Sames ρ vs ws → Works ds ρ Γ n D0 f t L w ops c e
      → Ready ds ρ Γ n D0 f (Applies (Handling g m h) (us ⧻ vs)) t L w (ops ⧺ ws) (handle_code ds g h ns c) e
  resume_ready : {t y : ℕ} {x : Name} {u : Value} {vs : Values} {ws : Row Val} {L : Locals} {w : List Work} {ops : Row Val} {c : Code} {e : Context}
      → LocalIs ρ L y u → Sames ρ vs ws → Works ds ρ Γ n D0 f t L w ops c e
      → Ready ds ρ Γ n D0 f (Applies (Resuming x) ((no_values ▸ u) ⧻ vs)) t L w (ops ⧺ ws) (resume_code ds Γ x y c) e
  group_ready : {t : ℕ} {g : Name} {v : Value} {a : Val} {L : Locals} {w : List Work} {ops : Row Val} {c : Code} {e : Context}
      → is_among (handled_names ds) g ≡ true → Same ρ v a → Works ds ρ Γ n D0 f t L w ops c e
      → Ready ds ρ Γ n D0 f (Applies (Grouping g) (no_values ▸ v)) t L w (ops ▹ a) (group_code ds g c) e
  tail_ready : {t y D d : ℕ} {x : Name} {u : Value} {vs : Values} {ws : Row Val} {L : Locals} {e : Context} (c : Code)
      → is_own Γ x ≡ true → LocalIs ρ L y u → Sames ρ vs ws → Deep f d e → D ≡ d + D0
      → Ready ds ρ Γ n D0 f (Applies (TailResuming x) ((no_values ▸ u) ⧻ vs)) t L [] (ε ⧺ ws) (tail_code Γ D x y c) e
  tail_call_ready : {t d : ℕ} {g : Name} {vs : Values} {ws : Row Val} {L : Locals} {e : Context} (c : Code) → Sames ρ vs ws → Deep f d e
      → Ready ds ρ Γ n D0 f (Applies (TailCalling g) vs) t L [] (ε ⧺ ws) (Plain (return_call (function_index ds g)) c) e
  use_ready : {t : ℕ} {u : Use} {v : Value} {a : Val} {b : BlockTree} {L : Locals} {c : Code} {e : Context} → Same ρ v a → standing.Uses ds Γ n D0 f u b c e
      → Ready ds ρ Γ n D0 f (Uses u v b) t L [] (ε ▹ a) c e
  fail_ready : {t d : ℕ} {L : Locals} {e : Context} (c : Code) → Deep f d e → Ready ds ρ Γ n D0 f Fails t L [] ε (Plain unreachable c) e
  spawn_ready : {t D : ℕ} {k g : Name} {b : BlockTree} {L : Locals} {c : Code} {e : Context} → HasLocal Γ k Coroutine → is_among (handled_names ds) g ≡ true → Rest ds Γ n D0 f D b c e
      → Ready ds ρ Γ n D0 f (Spawns k g b) t L [] ε (spawn_code ds Γ k g c) e
  end_ready : {t : ℕ} {L : Locals} → Ready ds ρ Γ n D0 f Ends t L [] ε ending f
