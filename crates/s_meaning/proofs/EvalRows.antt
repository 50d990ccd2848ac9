-- The worked scripts: what they print, how they end and after how many steps, and how many activations, active handles and groups, and kept contexts there are midway.
use Rattle.std.specs.Int.{int_wrap}
use Rattle.std.proofs.Common.{◌≡◌, ◌∙◌, ℕ, zero, suc, pos, negsuc, List, [], ◌∷◌, ◌++◌, codes, refl, append-nil, arith, min}
use Rattle.std.proofs.Math.Nat.{min-le_right}
use Rattle.following.specs.Follows.{Going, Value, Fault}
use Rattle.s_syntax.specs.declared.name.Name.{Name}
use Rattle.s_syntax.specs.declared.script.Definition.{Definition}
use Rattle.s_syntax.specs.declared.script.Definition.TheVariants as definition
use Rattle.s_syntax.specs.declared.script.Script.{Script}
use Rattle.s_syntax.specs.declared.script.VariableType.TheVariants.{Int, Resumption, Coroutine}
use Rattle.s_syntax.specs.declared.operators.UnaryOperator.TheVariants.{Minus, Not}
use Rattle.s_syntax.specs.declared.operators.Connective.TheVariants.{Or, And}
use Rattle.s_syntax.specs.declared.operators.Comparison.TheVariants.{Less}
use Rattle.s_syntax.specs.declared.operators.Arithmetic.TheVariants.{Add, Subtract, Multiply, Divide}
use Rattle.s_syntax.specs.declared.operators.BinaryOperator.TheVariants.{Connects, Compares, Computes}
use Rattle.s_syntax.specs.ExprTree.{ExprTree, Literal, Read, Unary, Run, Call, Do, Handle, Resume, Group, Exprs, NoExprs, MoreExprs, NoOperands, MoreOperands}
use Rattle.s_syntax.specs.declared.statement.Use.TheVariants as use_for
use Rattle.s_syntax.specs.BlockTree.{BlockTree, Evaluate, If, While, Spawn, Done, ◌⨟◌}
use Rattle.s_meaning.specs.Numbers.{line, Overflow, Reused, Empty, Unhandled}
use Rattle.s_meaning.specs.Terms.{acts, hands, kept}
use Rattle.s_meaning.specs.Eval.{Eval}

-- a literal; a number above the greatest is cut to that
abbrev int : ℕ → ExprTree
int n = Literal (record { value = min n 9223372036854775807; small = min-le_right n 9223372036854775807 })

infixr 55 ◌⊕◌
abbrev ◌⊕◌ : ExprTree → Exprs → Exprs
e ⊕ es = MoreExprs e es

-- effects without an argument, and of one
abbrev effect_of_0 : Definition
effect_of_0 = definition.Effect (record { value = 0; small = omega arith })

abbrev effect_of_1 : Definition
effect_of_1 = definition.Effect (record { value = 1; small = omega arith })

-- what was printed, after n steps that print nothing
abbrev still : ℕ → List ℕ → List ℕ
still zero out = out
still (suc n) out = still n out ++ []

same : (n : ℕ) (out : List ℕ) → still n out ≡ out
same zero out = refl
same (suc n) out = append-nil (still n out) ∙ same n out

unfoldable counts_asks : Script
counts_asks = record {
  declarations =
      record { name = (codes "ask"); definition = effect_of_0 }
      ∷ record { name = (codes "body"); definition = definition.Function (record { parameters = ([]); body = (Evaluate use_for.Print (Run (Do (codes "ask") NoExprs) (MoreOperands (Computes Add) (Do (codes "ask") NoExprs) NoOperands)) ⨟ Evaluate use_for.Return (int 7) ⨟ Done) }) }
      ∷ record { name = (codes "one"); definition = definition.Function (record { parameters = ([]); body = (Evaluate use_for.Return (Do (codes "ask") NoExprs) ⨟ Done) }) }
      ∷ record { name = (codes "h"); definition = definition.Handler (record { parameters = (record { name = (codes "s"); ty = Int } ∷ []); return_clause = record { value = (codes "x"); body = (Evaluate use_for.Return (Run (Read (codes "x")) (MoreOperands (Computes Add) (Read (codes "s")) NoOperands)) ⨟ Done) }; clauses = (record { effect = (codes "ask"); arguments = ([]); resumption = (codes "k"); body = (Evaluate use_for.Return (Resume (codes "k") (Read (codes "s")) ((Run (Read (codes "s")) (MoreOperands (Computes Add) (int 1) NoOperands)) ⊕ NoExprs)) ⨟ Done) } ∷ []) }) }
      ∷ record { name = (codes "main"); definition = definition.Function (record { parameters = ([]); body = (Evaluate use_for.Return (Handle (codes "body") NoExprs (codes "h") ((int 10) ⊕ NoExprs)) ⨟ Done) }) }
      ∷ [];
}

counts_asks-ends : (Eval counts_asks 24).outcome ≡ Value (pos 19)
unfolding counts_asks int_wrap
counts_asks-ends = refl

counts_asks-prints : (Eval counts_asks 24).printed ≡ still 7 (line (pos 21))
unfolding counts_asks int_wrap
counts_asks-prints = refl

counts_asks-goes-on : (Eval counts_asks 23).outcome ≡ Going
unfolding counts_asks int_wrap
counts_asks-goes-on = refl

counts_asks-acts : acts (Eval counts_asks 12).term ≡ 2
unfolding counts_asks int_wrap
counts_asks-acts = refl

counts_asks-hands : hands (Eval counts_asks 12).term ≡ 0
unfolding counts_asks int_wrap
counts_asks-hands = refl

counts_asks-kept : kept (Eval counts_asks 12).term ≡ 1
unfolding counts_asks int_wrap
counts_asks-kept = refl

unfoldable one : Script
one = record {
  declarations =
      record { name = (codes "main"); definition = definition.Function (record { parameters = ([]); body = (Evaluate use_for.Return (int 1) ⨟ Done) }) }
      ∷ [];
}

one-ends : (Eval one 2).outcome ≡ Value (pos 1)
unfolding one int_wrap
one-ends = refl

one-prints : (Eval one 2).printed ≡ []
unfolding one int_wrap
one-prints = refl

one-goes-on : (Eval one 1).outcome ≡ Going
unfolding one int_wrap
one-goes-on = refl

unfoldable a_loop_of_asks : Script
a_loop_of_asks = record {
  declarations =
      record { name = (codes "ask"); definition = effect_of_0 }
      ∷ record { name = (codes "body"); definition = definition.Function (record { parameters = ([]); body = (Evaluate (use_for.Let (codes "i")) (int 0) ⨟ While (Run (Read (codes "i")) (MoreOperands (Compares Less) (int 5) NoOperands)) (Evaluate use_for.Drop (Do (codes "ask") NoExprs) ⨟ Evaluate (use_for.Assign (codes "i")) (Run (Read (codes "i")) (MoreOperands (Computes Add) (int 1) NoOperands)) ⨟ Done) ⨟ Evaluate use_for.Return (Read (codes "i")) ⨟ Done) }) }
      ∷ record { name = (codes "one"); definition = definition.Function (record { parameters = ([]); body = (Evaluate use_for.Return (Do (codes "ask") NoExprs) ⨟ Done) }) }
      ∷ record { name = (codes "h"); definition = definition.Handler (record { parameters = (record { name = (codes "s"); ty = Int } ∷ []); return_clause = record { value = (codes "x"); body = (Evaluate use_for.Return (Run (Read (codes "x")) (MoreOperands (Computes Add) (Read (codes "s")) NoOperands)) ⨟ Done) }; clauses = (record { effect = (codes "ask"); arguments = ([]); resumption = (codes "k"); body = (Evaluate use_for.Return (Resume (codes "k") (Read (codes "s")) ((Run (Read (codes "s")) (MoreOperands (Computes Add) (int 1) NoOperands)) ⊕ NoExprs)) ⨟ Done) } ∷ []) }) }
      ∷ record { name = (codes "main"); definition = definition.Function (record { parameters = ([]); body = (Evaluate use_for.Return (Handle (codes "body") NoExprs (codes "h") ((int 0) ⊕ NoExprs)) ⨟ Done) }) }
      ∷ [];
}

a_loop_of_asks-ends : (Eval a_loop_of_asks 91).outcome ≡ Value (pos 10)
unfolding a_loop_of_asks int_wrap
a_loop_of_asks-ends = refl

a_loop_of_asks-prints : (Eval a_loop_of_asks 91).printed ≡ []
unfolding a_loop_of_asks int_wrap
a_loop_of_asks-prints = refl

a_loop_of_asks-goes-on : (Eval a_loop_of_asks 90).outcome ≡ Going
unfolding a_loop_of_asks int_wrap
a_loop_of_asks-goes-on = refl

a_loop_of_asks-acts : acts (Eval a_loop_of_asks 45).term ≡ 2
unfolding a_loop_of_asks int_wrap
a_loop_of_asks-acts = refl

a_loop_of_asks-hands : hands (Eval a_loop_of_asks 45).term ≡ 1
unfolding a_loop_of_asks int_wrap
a_loop_of_asks-hands = refl

a_loop_of_asks-kept : kept (Eval a_loop_of_asks 45).term ≡ 0
unfolding a_loop_of_asks int_wrap
a_loop_of_asks-kept = refl

unfoldable a_resumed_value_is_used : Script
a_resumed_value_is_used = record {
  declarations =
      record { name = (codes "ask"); definition = effect_of_0 }
      ∷ record { name = (codes "body"); definition = definition.Function (record { parameters = ([]); body = (Evaluate use_for.Print (Run (Do (codes "ask") NoExprs) (MoreOperands (Computes Add) (Do (codes "ask") NoExprs) NoOperands)) ⨟ Evaluate use_for.Return (int 7) ⨟ Done) }) }
      ∷ record { name = (codes "one"); definition = definition.Function (record { parameters = ([]); body = (Evaluate use_for.Return (Do (codes "ask") NoExprs) ⨟ Done) }) }
      ∷ record { name = (codes "h"); definition = definition.Handler (record { parameters = (record { name = (codes "s"); ty = Int } ∷ []); return_clause = record { value = (codes "x"); body = (Evaluate use_for.Return (Run (Read (codes "x")) (MoreOperands (Computes Add) (Read (codes "s")) NoOperands)) ⨟ Done) }; clauses = (record { effect = (codes "ask"); arguments = ([]); resumption = (codes "k"); body = (Evaluate use_for.Return (Run (int 100) (MoreOperands (Computes Add) (Resume (codes "k") (Read (codes "s")) ((Run (Read (codes "s")) (MoreOperands (Computes Add) (int 1) NoOperands)) ⊕ NoExprs)) NoOperands)) ⨟ Done) } ∷ []) }) }
      ∷ record { name = (codes "main"); definition = definition.Function (record { parameters = ([]); body = (Evaluate use_for.Return (Handle (codes "body") NoExprs (codes "h") ((int 10) ⊕ NoExprs)) ⨟ Done) }) }
      ∷ [];
}

a_resumed_value_is_used-ends : (Eval a_resumed_value_is_used 30).outcome ≡ Value (pos 219)
unfolding a_resumed_value_is_used int_wrap
a_resumed_value_is_used-ends = refl

a_resumed_value_is_used-prints : (Eval a_resumed_value_is_used 30).printed ≡ still 11 (line (pos 21))
unfolding a_resumed_value_is_used int_wrap
a_resumed_value_is_used-prints = refl

a_resumed_value_is_used-goes-on : (Eval a_resumed_value_is_used 29).outcome ≡ Going
unfolding a_resumed_value_is_used int_wrap
a_resumed_value_is_used-goes-on = refl

a_resumed_value_is_used-acts : acts (Eval a_resumed_value_is_used 15).term ≡ 3
unfolding a_resumed_value_is_used int_wrap
a_resumed_value_is_used-acts = refl

a_resumed_value_is_used-hands : hands (Eval a_resumed_value_is_used 15).term ≡ 0
unfolding a_resumed_value_is_used int_wrap
a_resumed_value_is_used-hands = refl

a_resumed_value_is_used-kept : kept (Eval a_resumed_value_is_used 15).term ≡ 1
unfolding a_resumed_value_is_used int_wrap
a_resumed_value_is_used-kept = refl

unfoldable resumed_twice : Script
resumed_twice = record {
  declarations =
      record { name = (codes "ask"); definition = effect_of_0 }
      ∷ record { name = (codes "body"); definition = definition.Function (record { parameters = ([]); body = (Evaluate use_for.Print (Run (Do (codes "ask") NoExprs) (MoreOperands (Computes Add) (Do (codes "ask") NoExprs) NoOperands)) ⨟ Evaluate use_for.Return (int 7) ⨟ Done) }) }
      ∷ record { name = (codes "one"); definition = definition.Function (record { parameters = ([]); body = (Evaluate use_for.Return (Do (codes "ask") NoExprs) ⨟ Done) }) }
      ∷ record { name = (codes "h"); definition = definition.Handler (record { parameters = (record { name = (codes "s"); ty = Int } ∷ []); return_clause = record { value = (codes "x"); body = (Evaluate use_for.Return (Run (Read (codes "x")) (MoreOperands (Computes Add) (Read (codes "s")) NoOperands)) ⨟ Done) }; clauses = (record { effect = (codes "ask"); arguments = ([]); resumption = (codes "k"); body = (Evaluate (use_for.Let (codes "a")) (Resume (codes "k") (Read (codes "s")) ((Read (codes "s")) ⊕ NoExprs)) ⨟ Evaluate use_for.Return (Resume (codes "k") (Read (codes "s")) ((Read (codes "s")) ⊕ NoExprs)) ⨟ Done) } ∷ []) }) }
      ∷ record { name = (codes "main"); definition = definition.Function (record { parameters = ([]); body = (Evaluate use_for.Return (Handle (codes "one") NoExprs (codes "h") ((int 10) ⊕ NoExprs)) ⨟ Done) }) }
      ∷ [];
}

resumed_twice-ends : (Eval resumed_twice 16).outcome ≡ Fault Reused
unfolding resumed_twice int_wrap
resumed_twice-ends = refl

resumed_twice-prints : (Eval resumed_twice 16).printed ≡ []
unfolding resumed_twice int_wrap
resumed_twice-prints = refl

resumed_twice-goes-on : (Eval resumed_twice 15).outcome ≡ Going
unfolding resumed_twice int_wrap
resumed_twice-goes-on = refl

resumed_twice-acts : acts (Eval resumed_twice 8).term ≡ 3
unfolding resumed_twice int_wrap
resumed_twice-acts = refl

resumed_twice-hands : hands (Eval resumed_twice 8).term ≡ 0
unfolding resumed_twice int_wrap
resumed_twice-hands = refl

resumed_twice-kept : kept (Eval resumed_twice 8).term ≡ 0
unfolding resumed_twice int_wrap
resumed_twice-kept = refl

unfoldable two_handlers : Script
two_handlers = record {
  declarations =
      record { name = (codes "a"); definition = effect_of_0 }
      ∷ record { name = (codes "b"); definition = effect_of_0 }
      ∷ record { name = (codes "inner"); definition = definition.Function (record { parameters = ([]); body = (Evaluate use_for.Return (Run (Run (Do (codes "a") NoExprs) (MoreOperands (Computes Multiply) (int 10) NoOperands)) (MoreOperands (Computes Add) (Do (codes "b") NoExprs) NoOperands)) ⨟ Done) }) }
      ∷ record { name = (codes "hb"); definition = definition.Handler (record { parameters = (record { name = (codes "v"); ty = Int } ∷ []); return_clause = record { value = (codes "x"); body = (Evaluate use_for.Return (Read (codes "x")) ⨟ Done) }; clauses = (record { effect = (codes "b"); arguments = ([]); resumption = (codes "k"); body = (Evaluate use_for.Return (Resume (codes "k") (Read (codes "v")) ((Read (codes "v")) ⊕ NoExprs)) ⨟ Done) } ∷ []) }) }
      ∷ record { name = (codes "mid"); definition = definition.Function (record { parameters = ([]); body = (Evaluate use_for.Return (Handle (codes "inner") NoExprs (codes "hb") ((int 3) ⊕ NoExprs)) ⨟ Done) }) }
      ∷ record { name = (codes "ha"); definition = definition.Handler (record { parameters = (record { name = (codes "v"); ty = Int } ∷ []); return_clause = record { value = (codes "x"); body = (Evaluate use_for.Return (Read (codes "x")) ⨟ Done) }; clauses = (record { effect = (codes "a"); arguments = ([]); resumption = (codes "k"); body = (Evaluate use_for.Return (Resume (codes "k") (Read (codes "v")) ((Read (codes "v")) ⊕ NoExprs)) ⨟ Done) } ∷ []) }) }
      ∷ record { name = (codes "main"); definition = definition.Function (record { parameters = ([]); body = (Evaluate use_for.Return (Handle (codes "mid") NoExprs (codes "ha") ((int 4) ⊕ NoExprs)) ⨟ Done) }) }
      ∷ [];
}

two_handlers-ends : (Eval two_handlers 24).outcome ≡ Value (pos 43)
unfolding two_handlers int_wrap
two_handlers-ends = refl

two_handlers-prints : (Eval two_handlers 24).printed ≡ []
unfolding two_handlers int_wrap
two_handlers-prints = refl

two_handlers-goes-on : (Eval two_handlers 23).outcome ≡ Going
unfolding two_handlers int_wrap
two_handlers-goes-on = refl

two_handlers-acts : acts (Eval two_handlers 12).term ≡ 3
unfolding two_handlers int_wrap
two_handlers-acts = refl

two_handlers-hands : hands (Eval two_handlers 12).term ≡ 1
unfolding two_handlers int_wrap
two_handlers-hands = refl

two_handlers-kept : kept (Eval two_handlers 12).term ≡ 1
unfolding two_handlers int_wrap
two_handlers-kept = refl

unfoldable recursion : Script
recursion = record {
  declarations =
      record { name = (codes "f"); definition = definition.Function (record { parameters = (record { name = (codes "n"); ty = Int } ∷ []); body = (If (Read (codes "n")) (Evaluate use_for.Return (Call (codes "f") ((Run (Read (codes "n")) (MoreOperands (Computes Subtract) (int 1) NoOperands)) ⊕ NoExprs)) ⨟ Done) (Done) ⨟ Evaluate use_for.Return (int 0) ⨟ Done) }) }
      ∷ record { name = (codes "main"); definition = definition.Function (record { parameters = ([]); body = (Evaluate use_for.Return (Call (codes "f") ((int 6) ⊕ NoExprs)) ⨟ Done) }) }
      ∷ [];
}

recursion-ends : (Eval recursion 42).outcome ≡ Value (pos 0)
unfolding recursion int_wrap
recursion-ends = refl

recursion-prints : (Eval recursion 42).printed ≡ []
unfolding recursion int_wrap
recursion-prints = refl

recursion-goes-on : (Eval recursion 41).outcome ≡ Going
unfolding recursion int_wrap
recursion-goes-on = refl

recursion-acts : acts (Eval recursion 24).term ≡ 1
unfolding recursion int_wrap
recursion-acts = refl

recursion-hands : hands (Eval recursion 24).term ≡ 0
unfolding recursion int_wrap
recursion-hands = refl

recursion-kept : kept (Eval recursion 24).term ≡ 0
unfolding recursion int_wrap
recursion-kept = refl

unfoldable overflow : Script
overflow = record {
  declarations =
      record { name = (codes "main"); definition = definition.Function (record { parameters = ([]); body = (Evaluate use_for.Return (Run (Run (int 0) (MoreOperands (Computes Subtract) (int 9223372036854775807) (MoreOperands (Computes Subtract) (int 1) NoOperands))) (MoreOperands (Computes Divide) (Run (int 0) (MoreOperands (Computes Subtract) (int 1) NoOperands)) NoOperands)) ⨟ Done) }) }
      ∷ [];
}

overflow-ends : (Eval overflow 9).outcome ≡ Fault Overflow
unfolding overflow int_wrap
overflow-ends = refl

overflow-prints : (Eval overflow 9).printed ≡ []
unfolding overflow int_wrap
overflow-prints = refl

overflow-goes-on : (Eval overflow 8).outcome ≡ Going
unfolding overflow int_wrap
overflow-goes-on = refl

overflow-acts : acts (Eval overflow 4).term ≡ 1
unfolding overflow int_wrap
overflow-acts = refl

overflow-hands : hands (Eval overflow 4).term ≡ 0
unfolding overflow int_wrap
overflow-hands = refl

overflow-kept : kept (Eval overflow 4).term ≡ 0
unfolding overflow int_wrap
overflow-kept = refl

unfoldable handlers_in_one_another : Script
handlers_in_one_another = record {
  declarations =
      record { name = (codes "f"); definition = definition.Function (record { parameters = (record { name = (codes "n"); ty = Int } ∷ []); body = (If (Read (codes "n")) (Evaluate use_for.Return (Handle (codes "f") ((Run (Read (codes "n")) (MoreOperands (Computes Subtract) (int 1) NoOperands)) ⊕ NoExprs) (codes "id") NoExprs) ⨟ Done) (Done) ⨟ Evaluate use_for.Return (int 0) ⨟ Done) }) }
      ∷ record { name = (codes "id"); definition = definition.Handler (record { parameters = ([]); return_clause = record { value = (codes "x"); body = (Evaluate use_for.Return (Read (codes "x")) ⨟ Done) }; clauses = ([]) }) }
      ∷ record { name = (codes "main"); definition = definition.Function (record { parameters = ([]); body = (Evaluate use_for.Return (Call (codes "f") ((int 5) ⊕ NoExprs)) ⨟ Done) }) }
      ∷ [];
}

handlers_in_one_another-ends : (Eval handlers_in_one_another 56).outcome ≡ Value (pos 0)
unfolding handlers_in_one_another int_wrap
handlers_in_one_another-ends = refl

handlers_in_one_another-prints : (Eval handlers_in_one_another 56).printed ≡ []
unfolding handlers_in_one_another int_wrap
handlers_in_one_another-prints = refl

handlers_in_one_another-goes-on : (Eval handlers_in_one_another 55).outcome ≡ Going
unfolding handlers_in_one_another int_wrap
handlers_in_one_another-goes-on = refl

handlers_in_one_another-acts : acts (Eval handlers_in_one_another 28).term ≡ 5
unfolding handlers_in_one_another int_wrap
handlers_in_one_another-acts = refl

handlers_in_one_another-hands : hands (Eval handlers_in_one_another 28).term ≡ 4
unfolding handlers_in_one_another int_wrap
handlers_in_one_another-hands = refl

handlers_in_one_another-kept : kept (Eval handlers_in_one_another 28).term ≡ 0
unfolding handlers_in_one_another int_wrap
handlers_in_one_another-kept = refl

unfoldable unhandled : Script
unhandled = record {
  declarations =
      record { name = (codes "ask"); definition = effect_of_0 }
      ∷ record { name = (codes "main"); definition = definition.Function (record { parameters = ([]); body = (Evaluate use_for.Print (int 5) ⨟ Evaluate use_for.Return (Do (codes "ask") NoExprs) ⨟ Done) }) }
      ∷ [];
}

unhandled-ends : (Eval unhandled 3).outcome ≡ Fault (Unhandled (codes "ask"))
unfolding unhandled int_wrap
unhandled-ends = refl

unhandled-prints : (Eval unhandled 3).printed ≡ line (pos 5)
unfolding unhandled int_wrap
unhandled-prints = refl

unhandled-goes-on : (Eval unhandled 2).outcome ≡ Going
unfolding unhandled int_wrap
unhandled-goes-on = refl

unhandled-acts : acts (Eval unhandled 1).term ≡ 1
unfolding unhandled int_wrap
unhandled-acts = refl

unhandled-hands : hands (Eval unhandled 1).term ≡ 0
unfolding unhandled int_wrap
unhandled-hands = refl

unhandled-kept : kept (Eval unhandled 1).term ≡ 0
unfolding unhandled int_wrap
unhandled-kept = refl

unfoldable a_resumption_is_handed_over : Script
a_resumption_is_handed_over = record {
  declarations =
      record { name = (codes "ask"); definition = effect_of_0 }
      ∷ record { name = (codes "body"); definition = definition.Function (record { parameters = ([]); body = (Evaluate use_for.Print (Run (Do (codes "ask") NoExprs) (MoreOperands (Computes Add) (Do (codes "ask") NoExprs) NoOperands)) ⨟ Evaluate use_for.Return (int 7) ⨟ Done) }) }
      ∷ record { name = (codes "go"); definition = definition.Function (record { parameters = (record { name = (codes "k"); ty = (Resumption (codes "h")) } ∷ record { name = (codes "v"); ty = Int } ∷ []); body = (Evaluate use_for.Return (Resume (codes "k") (Read (codes "v")) ((Read (codes "v")) ⊕ NoExprs)) ⨟ Done) }) }
      ∷ record { name = (codes "one"); definition = definition.Function (record { parameters = ([]); body = (Evaluate use_for.Return (Do (codes "ask") NoExprs) ⨟ Done) }) }
      ∷ record { name = (codes "h"); definition = definition.Handler (record { parameters = (record { name = (codes "s"); ty = Int } ∷ []); return_clause = record { value = (codes "x"); body = (Evaluate use_for.Return (Run (Read (codes "x")) (MoreOperands (Computes Add) (Read (codes "s")) NoOperands)) ⨟ Done) }; clauses = (record { effect = (codes "ask"); arguments = ([]); resumption = (codes "k"); body = (Evaluate use_for.Return (Call (codes "go") ((Read (codes "k")) ⊕ ((int 5) ⊕ NoExprs))) ⨟ Done) } ∷ []) }) }
      ∷ record { name = (codes "main"); definition = definition.Function (record { parameters = ([]); body = (Evaluate use_for.Return (Handle (codes "one") NoExprs (codes "h") ((int 10) ⊕ NoExprs)) ⨟ Done) }) }
      ∷ [];
}

a_resumption_is_handed_over-ends : (Eval a_resumption_is_handed_over 17).outcome ≡ Value (pos 10)
unfolding a_resumption_is_handed_over int_wrap
a_resumption_is_handed_over-ends = refl

a_resumption_is_handed_over-prints : (Eval a_resumption_is_handed_over 17).printed ≡ []
unfolding a_resumption_is_handed_over int_wrap
a_resumption_is_handed_over-prints = refl

a_resumption_is_handed_over-goes-on : (Eval a_resumption_is_handed_over 16).outcome ≡ Going
unfolding a_resumption_is_handed_over int_wrap
a_resumption_is_handed_over-goes-on = refl

a_resumption_is_handed_over-acts : acts (Eval a_resumption_is_handed_over 9).term ≡ 3
unfolding a_resumption_is_handed_over int_wrap
a_resumption_is_handed_over-acts = refl

a_resumption_is_handed_over-hands : hands (Eval a_resumption_is_handed_over 9).term ≡ 1
unfolding a_resumption_is_handed_over int_wrap
a_resumption_is_handed_over-hands = refl

a_resumption_is_handed_over-kept : kept (Eval a_resumption_is_handed_over 9).term ≡ 0
unfolding a_resumption_is_handed_over int_wrap
a_resumption_is_handed_over-kept = refl

unfoldable resumptions_handed_down : Script
resumptions_handed_down = record {
  declarations =
      record { name = (codes "ask"); definition = effect_of_0 }
      ∷ record { name = (codes "body"); definition = definition.Function (record { parameters = ([]); body = (Evaluate use_for.Print (Run (Do (codes "ask") NoExprs) (MoreOperands (Computes Add) (Do (codes "ask") NoExprs) NoOperands)) ⨟ Evaluate use_for.Return (int 7) ⨟ Done) }) }
      ∷ record { name = (codes "go"); definition = definition.Function (record { parameters = (record { name = (codes "k"); ty = (Resumption (codes "h")) } ∷ record { name = (codes "n"); ty = Int } ∷ []); body = (If (Read (codes "n")) (Evaluate use_for.Return (Run (int 0) (MoreOperands (Computes Add) (Call (codes "go") ((Read (codes "k")) ⊕ ((Run (Read (codes "n")) (MoreOperands (Computes Subtract) (int 1) NoOperands)) ⊕ NoExprs))) NoOperands)) ⨟ Done) (Done) ⨟ Evaluate use_for.Return (Resume (codes "k") (Read (codes "n")) ((Read (codes "n")) ⊕ NoExprs)) ⨟ Done) }) }
      ∷ record { name = (codes "one"); definition = definition.Function (record { parameters = ([]); body = (Evaluate use_for.Return (Do (codes "ask") NoExprs) ⨟ Done) }) }
      ∷ record { name = (codes "h"); definition = definition.Handler (record { parameters = (record { name = (codes "s"); ty = Int } ∷ []); return_clause = record { value = (codes "x"); body = (Evaluate use_for.Return (Run (Read (codes "x")) (MoreOperands (Computes Add) (Read (codes "s")) NoOperands)) ⨟ Done) }; clauses = (record { effect = (codes "ask"); arguments = ([]); resumption = (codes "k"); body = (Evaluate (use_for.Let (codes "a")) (Resume (codes "k") (Read (codes "s")) ((Read (codes "s")) ⊕ NoExprs)) ⨟ Evaluate use_for.Return (Run (int 0) (MoreOperands (Computes Add) (Call (codes "go") ((Read (codes "k")) ⊕ ((int 7) ⊕ NoExprs))) NoOperands)) ⨟ Done) } ∷ []) }) }
      ∷ record { name = (codes "main"); definition = definition.Function (record { parameters = ([]); body = (Evaluate use_for.Return (Handle (codes "one") NoExprs (codes "h") ((int 10) ⊕ NoExprs)) ⨟ Done) }) }
      ∷ [];
}

resumptions_handed_down-ends : (Eval resumptions_handed_down 78).outcome ≡ Fault Reused
unfolding resumptions_handed_down int_wrap
resumptions_handed_down-ends = refl

resumptions_handed_down-prints : (Eval resumptions_handed_down 78).printed ≡ []
unfolding resumptions_handed_down int_wrap
resumptions_handed_down-prints = refl

resumptions_handed_down-goes-on : (Eval resumptions_handed_down 77).outcome ≡ Going
unfolding resumptions_handed_down int_wrap
resumptions_handed_down-goes-on = refl

resumptions_handed_down-acts : acts (Eval resumptions_handed_down 39).term ≡ 5
unfolding resumptions_handed_down int_wrap
resumptions_handed_down-acts = refl

resumptions_handed_down-hands : hands (Eval resumptions_handed_down 39).term ≡ 0
unfolding resumptions_handed_down int_wrap
resumptions_handed_down-hands = refl

resumptions_handed_down-kept : kept (Eval resumptions_handed_down 39).term ≡ 0
unfolding resumptions_handed_down int_wrap
resumptions_handed_down-kept = refl

unfoldable ticks : Script
ticks = record {
  declarations =
      record { name = (codes "tick"); definition = effect_of_1 }
      ∷ record { name = (codes "task"); definition = definition.Function (record { parameters = (record { name = (codes "id"); ty = Int } ∷ record { name = (codes "n"); ty = Int } ∷ []); body = (Evaluate (use_for.Let (codes "i")) (int 0) ⨟ While (Run (Read (codes "i")) (MoreOperands (Compares Less) (Read (codes "n")) NoOperands)) (Evaluate use_for.Drop (Do (codes "tick") ((Read (codes "id")) ⊕ NoExprs)) ⨟ Evaluate (use_for.Assign (codes "i")) (Run (Read (codes "i")) (MoreOperands (Computes Add) (int 1) NoOperands)) ⨟ Done) ⨟ Evaluate use_for.Return (int 0) ⨟ Done) }) }
      ∷ record { name = (codes "count"); definition = definition.Handler (record { parameters = (record { name = (codes "ticks"); ty = Int } ∷ record { name = (codes "total"); ty = Int } ∷ []); return_clause = record { value = (codes "x"); body = (Evaluate use_for.Print (Read (codes "ticks")) ⨟ Evaluate use_for.Return (Read (codes "total")) ⨟ Done) }; clauses = (record { effect = (codes "tick"); arguments = ((codes "w") ∷ []); resumption = (codes "k"); body = (Evaluate use_for.Return (Resume (codes "k") (int 0) ((Run (Read (codes "ticks")) (MoreOperands (Computes Add) (int 1) NoOperands)) ⊕ ((Run (Read (codes "total")) (MoreOperands (Computes Add) (Read (codes "w")) NoOperands)) ⊕ NoExprs))) ⨟ Done) } ∷ []) }) }
      ∷ record { name = (codes "all"); definition = definition.Function (record { parameters = ([]); body = (Evaluate use_for.Drop (Call (codes "task") ((int 1) ⊕ ((int 3) ⊕ NoExprs))) ⨟ Done) }) }
      ∷ record { name = (codes "main"); definition = definition.Function (record { parameters = ([]); body = (Evaluate use_for.Print (int 1) ⨟ Evaluate use_for.Return (Handle (codes "all") NoExprs (codes "count") ((int 0) ⊕ ((int 0) ⊕ NoExprs))) ⨟ Done) }) }
      ∷ [];
}

ticks-ends : (Eval ticks 81).outcome ≡ Value (pos 3)
unfolding ticks int_wrap
ticks-ends = refl

ticks-prints : (Eval ticks 81).printed ≡ still 2 (still 75 (line (pos 1)) ++ line (pos 3))
unfolding ticks int_wrap
ticks-prints = refl

ticks-goes-on : (Eval ticks 80).outcome ≡ Going
unfolding ticks int_wrap
ticks-goes-on = refl

ticks-acts : acts (Eval ticks 40).term ≡ 2
unfolding ticks int_wrap
ticks-acts = refl

ticks-hands : hands (Eval ticks 40).term ≡ 0
unfolding ticks int_wrap
ticks-hands = refl

ticks-kept : kept (Eval ticks 40).term ≡ 1
unfolding ticks int_wrap
ticks-kept = refl

unfoldable another_handler : Script
another_handler = record {
  declarations =
      record { name = (codes "a"); definition = effect_of_0 }
      ∷ record { name = (codes "b"); definition = effect_of_0 }
      ∷ record { name = (codes "f"); definition = definition.Function (record { parameters = ([]); body = (Evaluate use_for.Return (Run (Do (codes "a") NoExprs) (MoreOperands (Computes Add) (int 1) NoOperands)) ⨟ Done) }) }
      ∷ record { name = (codes "f2"); definition = definition.Function (record { parameters = ([]); body = (Evaluate use_for.Return (Run (Do (codes "b") NoExprs) (MoreOperands (Computes Add) (int 2) NoOperands)) ⨟ Done) }) }
      ∷ record { name = (codes "h"); definition = definition.Handler (record { parameters = ([]); return_clause = record { value = (codes "x"); body = (Evaluate use_for.Return (Run (Read (codes "x")) (MoreOperands (Computes Add) (int 10) NoOperands)) ⨟ Done) }; clauses = (record { effect = (codes "a"); arguments = ([]); resumption = (codes "k"); body = (Evaluate use_for.Return (Handle (codes "f2") NoExprs (codes "g") ((Read (codes "k")) ⊕ NoExprs)) ⨟ Done) } ∷ []) }) }
      ∷ record { name = (codes "g"); definition = definition.Handler (record { parameters = (record { name = (codes "k"); ty = (Resumption (codes "h")) } ∷ []); return_clause = record { value = (codes "x"); body = (Evaluate use_for.Return (Run (Read (codes "x")) (MoreOperands (Computes Add) (int 100) NoOperands)) ⨟ Done) }; clauses = (record { effect = (codes "b"); arguments = ([]); resumption = (codes "j"); body = (Evaluate use_for.Return (Resume (codes "k") (int 1) NoExprs) ⨟ Done) } ∷ []) }) }
      ∷ record { name = (codes "main"); definition = definition.Function (record { parameters = ([]); body = (Evaluate use_for.Return (Handle (codes "f") NoExprs (codes "h") NoExprs) ⨟ Done) }) }
      ∷ [];
}

another_handler-ends : (Eval another_handler 18).outcome ≡ Value (pos 12)
unfolding another_handler int_wrap
another_handler-ends = refl

another_handler-prints : (Eval another_handler 18).printed ≡ []
unfolding another_handler int_wrap
another_handler-prints = refl

another_handler-goes-on : (Eval another_handler 17).outcome ≡ Going
unfolding another_handler int_wrap
another_handler-goes-on = refl

another_handler-acts : acts (Eval another_handler 9).term ≡ 4
unfolding another_handler int_wrap
another_handler-acts = refl

another_handler-hands : hands (Eval another_handler 9).term ≡ 1
unfolding another_handler int_wrap
another_handler-hands = refl

another_handler-kept : kept (Eval another_handler 9).term ≡ 1
unfolding another_handler int_wrap
another_handler-kept = refl

unfoldable connectives : Script
connectives = record {
  declarations =
      record { name = (codes "t"); definition = definition.Function (record { parameters = (record { name = (codes "x"); ty = Int } ∷ []); body = (Evaluate use_for.Print (Read (codes "x")) ⨟ Evaluate use_for.Return (Read (codes "x")) ⨟ Done) }) }
      ∷ record { name = (codes "main"); definition = definition.Function (record { parameters = ([]); body = (Evaluate use_for.Print (Run (Call (codes "t") ((int 0) ⊕ NoExprs)) (MoreOperands (Connects And) (Call (codes "t") ((int 1) ⊕ NoExprs)) NoOperands)) ⨟ Evaluate use_for.Print (Run (Call (codes "t") ((int 2) ⊕ NoExprs)) (MoreOperands (Connects And) (Call (codes "t") ((int 3) ⊕ NoExprs)) (MoreOperands (Connects And) (Call (codes "t") ((int 0) ⊕ NoExprs)) (MoreOperands (Connects And) (Call (codes "t") ((int 9) ⊕ NoExprs)) NoOperands)))) ⨟ Evaluate use_for.Print (Run (Call (codes "t") ((int 0) ⊕ NoExprs)) (MoreOperands (Connects Or) (Call (codes "t") ((int 4) ⊕ NoExprs)) NoOperands)) ⨟ Evaluate use_for.Print (Run (Call (codes "t") ((int 5) ⊕ NoExprs)) (MoreOperands (Connects Or) (Call (codes "t") ((int 6) ⊕ NoExprs)) NoOperands)) ⨟ Evaluate use_for.Print (Run (int 1) (MoreOperands (Connects And) (Run (int 0) (MoreOperands (Connects Or) (int 7) NoOperands)) NoOperands)) ⨟ Evaluate use_for.Return (Run (Unary Not (int 3)) (MoreOperands (Computes Add) (Unary Minus (int 2)) NoOperands)) ⨟ Done) }) }
      ∷ [];
}

connectives-ends : (Eval connectives 69).outcome ≡ Value (negsuc 1)
unfolding connectives int_wrap
connectives-ends = refl

connectives-prints : (Eval connectives 69).printed ≡ still 5 (still 7 (still 3 (still 3 (still 3 (still 6 (still 3 (still 4 (still 7 (still 6 (still 3 (still 3 (line (pos 0)) ++ line (pos 0)) ++ line (pos 2)) ++ line (pos 3)) ++ line (pos 0)) ++ line (pos 0)) ++ line (pos 0)) ++ line (pos 4)) ++ line (pos 1)) ++ line (pos 5)) ++ line (pos 1)) ++ line (pos 1))
unfolding connectives int_wrap
connectives-prints = refl

connectives-goes-on : (Eval connectives 68).outcome ≡ Going
unfolding connectives int_wrap
connectives-goes-on = refl

connectives-acts : acts (Eval connectives 34).term ≡ 2
unfolding connectives int_wrap
connectives-acts = refl

connectives-hands : hands (Eval connectives 34).term ≡ 0
unfolding connectives int_wrap
connectives-hands = refl

connectives-kept : kept (Eval connectives 34).term ≡ 0
unfolding connectives int_wrap
connectives-kept = refl

-- slots keep the resumptions of jobs, which go on later in another order; then comes the rest of main

unfoldable keeps_jobs : BlockTree → Script
keeps_jobs rest = record {
  declarations =
      record { name = (codes "wait"); definition = effect_of_1 }
      ∷ record { name = (codes "q"); definition = definition.Slots (record { handler = (codes "run"); places = record { value = 2; small = omega arith } }) }
      ∷ record { name = (codes "job"); definition = definition.Function (record { parameters = (record { name = (codes "id"); ty = Int } ∷ []); body = (Evaluate use_for.Print (Read (codes "id")) ⨟ Evaluate use_for.Drop (Do (codes "wait") ((Read (codes "id")) ⊕ NoExprs)) ⨟ Evaluate use_for.Print (Run (Read (codes "id")) (MoreOperands (Computes Add) (int 10) NoOperands)) ⨟ Evaluate use_for.Return (int 0) ⨟ Done) }) }
      ∷ record { name = (codes "run"); definition = definition.Handler (record { parameters = ([]); return_clause = record { value = (codes "x"); body = (Evaluate use_for.Return (Read (codes "x")) ⨟ Done) }; clauses = (record { effect = (codes "wait"); arguments = ((codes "i") ∷ []); resumption = (codes "k"); body = (Evaluate (use_for.Store (codes "q") (codes "k")) (Read (codes "i")) ⨟ Evaluate use_for.Return (int 0) ⨟ Done) } ∷ []) }) }
      ∷ record { name = (codes "main"); definition = definition.Function (record { parameters = ([]); body = (Evaluate use_for.Drop (Handle (codes "job") ((int 0) ⊕ NoExprs) (codes "run") NoExprs) ⨟ Evaluate use_for.Drop (Handle (codes "job") ((int 1) ⊕ NoExprs) (codes "run") NoExprs) ⨟ Evaluate (use_for.Take (codes "a") (codes "q")) (int 1) ⨟ Evaluate use_for.Drop (Resume (codes "a") (int 0) NoExprs) ⨟ Evaluate (use_for.Take (codes "b") (codes "q")) (int 0) ⨟ Evaluate use_for.Drop (Resume (codes "b") (int 0) NoExprs) ⨟ rest) }) }
      ∷ [];
}

unfoldable in_order : Script
in_order = keeps_jobs (Evaluate use_for.Return (int 5) ⨟ Done)

-- a place that is empty by then
unfoldable takes_twice : Script
takes_twice = keeps_jobs (Evaluate (use_for.Take (codes "c") (codes "q")) (int 1) ⨟ Done)

-- place -1
unfoldable takes_below : Script
takes_below = keeps_jobs (Evaluate (use_for.Take (codes "c") (codes "q")) (Run (int 0) (MoreOperands (Computes Subtract) (int 1) NoOperands)) ⨟ Done)

in_order-ends : (Eval in_order 54).outcome ≡ Value (pos 5)
unfolding in_order keeps_jobs int_wrap
in_order-ends = refl

in_order-goes-on : (Eval in_order 53).outcome ≡ Going
unfolding in_order keeps_jobs int_wrap
in_order-goes-on = refl

in_order-prints : (Eval in_order 54).printed ≡ still 7 (still 14 (still 15 (still 10 (still 3 [] ++ line (pos 0)) ++ line (pos 1)) ++ line (pos 11)) ++ line (pos 10))
unfolding in_order keeps_jobs int_wrap
in_order-prints = refl

in_order-kept : kept (Eval in_order 22).term ≡ 2
unfolding in_order keeps_jobs int_wrap
in_order-kept = refl

takes_twice-ends : (Eval takes_twice 54).outcome ≡ Fault Empty
unfolding takes_twice keeps_jobs int_wrap
takes_twice-ends = refl

takes_below-ends : (Eval takes_below 56).outcome ≡ Fault Empty
unfolding takes_below keeps_jobs int_wrap
takes_below-ends = refl

-- two coroutines that switch to one another in a group; ping switches to a coroutine of this name at last

abbrev plus_one : ExprTree → ExprTree
plus_one e = Run e (MoreOperands (Computes Add) (int 1) NoOperands)

abbrev pong : Definition
pong = definition.Function (record { parameters = (record { name = (codes "y"); ty = Int } ∷ record { name = (codes "p"); ty = Coroutine } ∷ []); body = (Evaluate use_for.Print (Read (codes "y")) ⨟ Evaluate (use_for.Switch (codes "c") (codes "q") (codes "p")) (plus_one (Read (codes "y"))) ⨟ Evaluate use_for.Print (Read (codes "c")) ⨟ Evaluate (use_for.Switch (codes "d") (codes "r") (codes "q")) (plus_one (Read (codes "c"))) ⨟ Evaluate use_for.Return (int 0) ⨟ Done) })

unfoldable ping_and_pong : Name → Script
ping_and_pong last = record {
  declarations =
      record { name = (codes "ping"); definition = definition.Function (record { parameters = (record { name = (codes "x"); ty = Int } ∷ []); body = (Spawn (codes "t") (codes "pong") ⨟ Evaluate (use_for.Switch (codes "a") (codes "u") (codes "t")) (plus_one (Read (codes "x"))) ⨟ Evaluate use_for.Print (Read (codes "a")) ⨟ Evaluate (use_for.Switch (codes "b") (codes "w") last) (plus_one (Read (codes "a"))) ⨟ Evaluate use_for.Print (Read (codes "b")) ⨟ Evaluate use_for.Return (Read (codes "b")) ⨟ Done) }) }
      ∷ record { name = (codes "pong"); definition = pong }
      ∷ record { name = (codes "main"); definition = definition.Function (record { parameters = ([]); body = (Evaluate use_for.Return (Group (codes "ping") (int 1)) ⨟ Done) }) }
      ∷ [];
}

unfoldable takes_turns : Script
takes_turns = ping_and_pong (codes "u")

-- a coroutine that was switched to before
unfoldable switches_twice : Script
switches_twice = ping_and_pong (codes "t")

-- no group is around
unfoldable switches_outside : Script
switches_outside = record {
  declarations =
      record { name = (codes "pong"); definition = pong }
      ∷ record { name = (codes "main"); definition = definition.Function (record { parameters = ([]); body = (Spawn (codes "t") (codes "pong") ⨟ Evaluate (use_for.Switch (codes "a") (codes "u") (codes "t")) (int 1) ⨟ Evaluate use_for.Return (int 0) ⨟ Done) }) }
      ∷ [];
}

takes_turns-ends : (Eval takes_turns 31).outcome ≡ Value (pos 5)
unfolding takes_turns ping_and_pong int_wrap
takes_turns-ends = refl

takes_turns-goes-on : (Eval takes_turns 30).outcome ≡ Going
unfolding takes_turns ping_and_pong int_wrap
takes_turns-goes-on = refl

takes_turns-prints : (Eval takes_turns 31).printed ≡ still 3 (still 5 (still 5 (still 5 (still 8 [] ++ line (pos 2)) ++ line (pos 3)) ++ line (pos 4)) ++ line (pos 5))
unfolding takes_turns ping_and_pong int_wrap
takes_turns-prints = refl

takes_turns-acts : acts (Eval takes_turns 7).term ≡ 2
unfolding takes_turns ping_and_pong int_wrap
takes_turns-acts = refl

takes_turns-hands : hands (Eval takes_turns 7).term ≡ 1
unfolding takes_turns ping_and_pong int_wrap
takes_turns-hands = refl

takes_turns-kept : kept (Eval takes_turns 7).term ≡ 1
unfolding takes_turns ping_and_pong int_wrap
takes_turns-kept = refl

switches_twice-ends : (Eval switches_twice 19).outcome ≡ Fault Reused
unfolding switches_twice ping_and_pong int_wrap
switches_twice-ends = refl

switches_twice-prints : (Eval switches_twice 19).printed ≡ still 3 (still 5 (still 8 [] ++ line (pos 2)) ++ line (pos 3))
unfolding switches_twice ping_and_pong int_wrap
switches_twice-prints = refl

switches_outside-ends : (Eval switches_outside 3).outcome ≡ Fault (Unhandled (codes "group"))
unfolding switches_outside int_wrap
switches_outside-ends = refl

switches_outside-kept : kept (Eval switches_outside 3).term ≡ 1
unfolding switches_outside int_wrap
switches_outside-kept = refl

-- a handler around a coroutine's call goes with the coroutine

unfoldable handlers_travel : Script
handlers_travel = record {
  declarations =
      record { name = (codes "ask"); definition = effect_of_0 }
      ∷ record { name = (codes "h"); definition = definition.Handler (record { parameters = (record { name = (codes "s"); ty = Int } ∷ []); return_clause = record { value = (codes "x"); body = (Evaluate use_for.Return (Run (Read (codes "x")) (MoreOperands (Computes Add) (Read (codes "s")) NoOperands)) ⨟ Done) }; clauses = (record { effect = (codes "ask"); arguments = ([]); resumption = (codes "k"); body = (Evaluate use_for.Return (Resume (codes "k") (Read (codes "s")) ((plus_one (Read (codes "s"))) ⊕ NoExprs)) ⨟ Done) } ∷ []) }) }
      ∷ record { name = (codes "work"); definition = definition.Function (record { parameters = (record { name = (codes "y"); ty = Int } ∷ record { name = (codes "p"); ty = Coroutine } ∷ []); body = (Evaluate (use_for.Switch (codes "c") (codes "q") (codes "p")) (plus_one (Read (codes "y"))) ⨟ Evaluate use_for.Return (Run (Do (codes "ask") NoExprs) (MoreOperands (Computes Add) (Read (codes "c")) NoOperands)) ⨟ Done) }) }
      ∷ record { name = (codes "co"); definition = definition.Function (record { parameters = (record { name = (codes "y"); ty = Int } ∷ record { name = (codes "p"); ty = Coroutine } ∷ []); body = (Evaluate use_for.Return (Handle (codes "work") ((Read (codes "y")) ⊕ (Read (codes "p")) ⊕ NoExprs) (codes "h") ((int 10) ⊕ NoExprs)) ⨟ Done) }) }
      ∷ record { name = (codes "begin"); definition = definition.Function (record { parameters = (record { name = (codes "x"); ty = Int } ∷ []); body = (Spawn (codes "t") (codes "co") ⨟ Evaluate (use_for.Switch (codes "a") (codes "u") (codes "t")) (Read (codes "x")) ⨟ Evaluate (use_for.Switch (codes "b") (codes "w") (codes "u")) (plus_one (Read (codes "a"))) ⨟ Evaluate use_for.Return (Read (codes "b")) ⨟ Done) }) }
      ∷ record { name = (codes "main"); definition = definition.Function (record { parameters = ([]); body = (Evaluate use_for.Return (Group (codes "begin") (int 1)) ⨟ Done) }) }
      ∷ [];
}

handlers_travel-ends : (Eval handlers_travel 34).outcome ≡ Value (pos 24)
unfolding handlers_travel int_wrap
handlers_travel-ends = refl

handlers_travel-goes-on : (Eval handlers_travel 33).outcome ≡ Going
unfolding handlers_travel int_wrap
handlers_travel-goes-on = refl

handlers_travel-hands : hands (Eval handlers_travel 14).term ≡ 1
unfolding handlers_travel int_wrap
handlers_travel-hands = refl

handlers_travel-kept : kept (Eval handlers_travel 14).term ≡ 1
unfolding handlers_travel int_wrap
handlers_travel-kept = refl

-- an effect is performed through a group, which its resumption holds

unfoldable through_a_group : Script
through_a_group = record {
  declarations =
      record { name = (codes "ask"); definition = effect_of_0 }
      ∷ record { name = (codes "h"); definition = definition.Handler (record { parameters = (record { name = (codes "s"); ty = Int } ∷ []); return_clause = record { value = (codes "x"); body = (Evaluate use_for.Return (Run (Read (codes "x")) (MoreOperands (Computes Add) (Read (codes "s")) NoOperands)) ⨟ Done) }; clauses = (record { effect = (codes "ask"); arguments = ([]); resumption = (codes "k"); body = (Evaluate use_for.Return (Resume (codes "k") (Read (codes "s")) ((plus_one (Read (codes "s"))) ⊕ NoExprs)) ⨟ Done) } ∷ []) }) }
      ∷ record { name = (codes "inner"); definition = definition.Function (record { parameters = (record { name = (codes "x"); ty = Int } ∷ []); body = (Evaluate use_for.Return (Run (Do (codes "ask") NoExprs) (MoreOperands (Computes Add) (Read (codes "x")) NoOperands)) ⨟ Done) }) }
      ∷ record { name = (codes "mid"); definition = definition.Function (record { parameters = ([]); body = (Evaluate use_for.Return (Run (Group (codes "inner") (int 1)) (MoreOperands (Computes Multiply) (int 2) NoOperands)) ⨟ Done) }) }
      ∷ record { name = (codes "main"); definition = definition.Function (record { parameters = ([]); body = (Evaluate use_for.Return (Handle (codes "mid") NoExprs (codes "h") ((int 5) ⊕ NoExprs)) ⨟ Done) }) }
      ∷ [];
}

through_a_group-ends : (Eval through_a_group 23).outcome ≡ Value (pos 18)
unfolding through_a_group int_wrap
through_a_group-ends = refl

through_a_group-goes-on : (Eval through_a_group 22).outcome ≡ Going
unfolding through_a_group int_wrap
through_a_group-goes-on = refl

through_a_group-hands : hands (Eval through_a_group 5).term ≡ 0
unfolding through_a_group int_wrap
through_a_group-hands = refl

through_a_group-kept : kept (Eval through_a_group 5).term ≡ 1
unfolding through_a_group int_wrap
through_a_group-kept = refl
