-- The laws of parts of productions, with what can be found left out.
use Rattle.std.proofs.Common.{◌≡◌, ℕ, zero, suc, ◌≤◌, Bool, true, false, List, [], ◌++◌, None, refl, arith}
use Rattle.std.specs.Prelude.{IsTrue}
use Rattle.s_syntax.specs.ExprTree.{ExprTree}
use Rattle.s_syntax.specs.declared.token.Kind.{Kind}
use Rattle.s_syntax.specs.declared.token.Kind.TheVariants as kind
use Rattle.s_syntax.specs.declared.token.Token.{Token}
use Rattle.s_grammar.specs.Grammar.{Grammar, InTurn, Image, Maybe, Each, One}
use Rattle.s_grammar.specs.Kinds.{is, Kinds, other_than, kind_of}
use Rattle.s_grammar.specs.Operators.{operator_of}
use Rattle.s_grammar.specs.Parts.{itself, latter, former, or_nothing, run_of, once_of}
use Rattle.s_grammar.specs.Reading.{Reading, in_turn, image, maybe, many, cons, one, Got, inside}
use Rattle.s_grammar.specs.Reads.{key, led, ended, listed, run, once}
use Rattle.s_grammar.specs.Syntax.{Key, Led, ClosedBy, Listed, RunOf, OnceOf}
use Rattle.s_grammar.proofs.Enclosures.{AreBrackets, InsideLaws}
use Rattle.s_grammar.proofs.Ends.{begins_expr}
use Rattle.s_grammar.proofs.Images.{image_laws, wider_laws, deeper_laws, fewer_laws, image_got}
use Rattle.s_grammar.proofs.InTurn.{stopped, in_turn_laws, in_turn_got}
use Rattle.s_grammar.proofs.KindSets.{Within, plain, any_kind}
use Rattle.s_grammar.proofs.ReadingLaws.{Laws, Begins}
use Rattle.s_grammar.proofs.OneToken.{one_laws}
use Rattle.s_grammar.proofs.Optional.{halted, maybe_laws, maybe_nothing}
use Rattle.s_grammar.proofs.Repetitions.{many_laws, many_none}

-- a token of a kind that is no bracket and not the end
pub key_laws : (n : ℕ) (k : Kind) → Within (is k) plain → IsTrue (is k k) → Laws n 0 false (is k) any_kind (λ m. Key k) (key k)
key_laws n k p q = one_laws n (is k) itself k p q

-- one behind another
pub in_turn_of : {A B : Type 0} {n d : ℕ} {e : Bool} {first a second b : Kinds} {G : ℕ → Grammar A} {H : ℕ → Grammar B} {r : Reading A} {s : Reading B} → d ≤ 3 → Laws n d false first a G r → Laws n d e second b H s → Within second a
    → Laws n d false first (stopped e a b) (λ m. InTurn (G m) (H m)) (in_turn r s)
in_turn_of {n = n} {d = d} {e = e} {first = first} {a = a} {second = second} {b = b} {G = G} {H = H} {r = r} {s = s} l p q w = in_turn_laws n d e first a second b G H r s l p q w

-- what is made of a part
pub image_of : {A B : Type 0} {n d : ℕ} {e : Bool} {first stops : Kinds} {G : ℕ → Grammar A} {r : Reading A} (f : A → B) → Laws n d e first stops G r → Laws n d e first stops (λ m. Image f (G m)) (image f r)
image_of {n = n} {d = d} {e = e} {first = first} {stops = stops} {G = G} {r = r} f p = image_laws n d e first stops f G r p

-- more may begin it, and fewer may follow
pub wider_of : {A : Type 0} {n d : ℕ} {e : Bool} {first stops : Kinds} {G : ℕ → Grammar A} {r : Reading A} (firsts fewer : Kinds) → Within first firsts → Within fewer stops → Laws n d e first stops G r → Laws n d e firsts fewer G r
wider_of {n = n} {d = d} {e = e} {first = first} {stops = stops} {G = G} {r = r} firsts fewer v w p = wider_laws n d d e first stops firsts fewer G r (omega arith) v w p

-- a part behind a token
pub led_laws : {A : Type 0} {n d : ℕ} {first stops : Kinds} {G : ℕ → Grammar A} {r : Reading A} (k : Kind) → d ≤ 3 → Within (is k) plain → IsTrue (is k k) → Within first any_kind → Laws n d false first stops G r → Laws n d false (is k) stops (λ m. Led k (G m)) (led k r)
unfolding led
led_laws {n = n} {d = d} k small p q w l = image_of latter (in_turn_of small (deeper_laws d (omega arith) (key_laws n k p q)) l w)

-- a part with a token behind it
pub ended_laws : {A : Type 0} {n d : ℕ} {first stops : Kinds} {G : ℕ → Grammar A} {r : Reading A} (k : Kind) → d ≤ 3 → Within (is k) plain → IsTrue (is k k) → Within (is k) stops → Laws n d false first stops G r → Laws n d false first any_kind (λ m. ClosedBy (G m) k) (ended r k)
unfolding ended
ended_laws {n = n} {d = d} k small p q w l = image_of former (in_turn_of small l (deeper_laws d (omega arith) (key_laws n k p q)) w)

-- a part or nothing
pub maybe_of : {A : Type 0} {n d : ℕ} {first stops : Kinds} {G : ℕ → Grammar A} {r : Reading A} (go : Kinds) → Within first go → Laws n d false first stops G r → Laws n 0 true first (halted go stops) (λ m. Maybe (G m)) (maybe go r)
maybe_of {n = n} {d = d} {first = first} {stops = stops} {G = G} {r = r} go w p = maybe_laws n d first stops go G r p w

-- any number of parts
pub many_of : {A : Type 0} {n d : ℕ} {first stops : Kinds} {G : ℕ → Grammar A} {r : Reading A} (go : Kinds) → Within first go → Within first stops → Laws n d false first stops G r → Laws n 0 true first (halted go stops) (λ m. Each (G m)) (many go r)
many_of {n = n} {d = d} {first = first} {stops = stops} {G = G} {r = r} go w v p = many_laws n d first stops go G r p w v

-- a list with commas between, in parentheses
abbrev listed_stops : Kinds → Kinds
listed_stops stops = halted (other_than (is kind.CloseParenthesis)) (stopped true stops (halted (is kind.Comma) stops))

-- a list with commas between
pub listed_laws : {A : Type 0} {n d : ℕ} {first stops : Kinds} {G : ℕ → Grammar A} {r : Reading A} → d ≤ 3 → Within first any_kind → Within (is kind.Comma) stops → Within first (other_than (is kind.CloseParenthesis)) → Within (is kind.CloseParenthesis) (listed_stops stops)
    → Laws n d false first stops G r → Laws n 0 true first (is kind.CloseParenthesis) (λ m. Listed (G m)) (listed r)
unfolding listed
listed_laws small w c f g l =
    image_of or_nothing (fewer_laws (is kind.CloseParenthesis) g (maybe_of (other_than (is kind.CloseParenthesis)) f (image_of cons (in_turn_of small l (deeper_laws _ (omega arith) (many_of (is kind.Comma) refl c (led_laws kind.Comma small refl refl w l))) c))))

-- parentheses are brackets
pub parentheses : AreBrackets kind.OpenParenthesis kind.CloseParenthesis
parentheses = record { opens = refl; closes = refl; no_end = refl; close_no_end = refl; open_is = refl; close_is = refl }

-- braces are brackets
pub braces : AreBrackets kind.OpenBrace kind.CloseBrace
braces = record { opens = refl; closes = refl; no_end = refl; close_no_end = refl; open_is = refl; close_is = refl }

-- an operator and an operand
pub operand_laws : {n : ℕ} {stops : Kinds} {G : ℕ → Grammar ExprTree} {r : Reading ExprTree} (ops : Kinds) (k : Kind) → Within ops plain → IsTrue (ops k) → Laws n 0 false begins_expr stops G r
    → Laws n 0 false ops stops (λ m. InTurn (One ops operator_of) (G m)) (in_turn (one ops operator_of) r)
operand_laws {n = n} ops k p h l = in_turn_of (omega arith) (one_laws n ops operator_of k p h) l refl

-- what ends a run of operators
abbrev run_stops : Kinds → Kinds → Kinds
run_stops ops stops = stopped true stops (halted ops stops)

-- runs of operators
pub run_laws : {n : ℕ} {stops : Kinds} {G : ℕ → Grammar ExprTree} {r : Reading ExprTree} (ops fewer : Kinds) (k : Kind) → Within ops plain → IsTrue (ops k) → Within ops ops → Within ops stops → Within fewer (run_stops ops stops)
    → Laws n 0 false begins_expr stops G r → Laws n 0 false begins_expr fewer (λ m. RunOf ops (G m)) (run ops r)
unfolding run
run_laws ops fewer k p h s w f l = fewer_laws fewer f (image_of run_of (in_turn_of (omega arith) l (many_of ops s w (operand_laws ops k p h l)) w))

-- at most one operator
pub once_laws : {n : ℕ} {stops : Kinds} {G : ℕ → Grammar ExprTree} {r : Reading ExprTree} (ops fewer : Kinds) (k : Kind) → Within ops plain → IsTrue (ops k) → Within ops ops → Within ops stops → Within fewer (run_stops ops stops)
    → Laws n 0 false begins_expr stops G r → Laws n 0 false begins_expr fewer (λ m. OnceOf ops (G m)) (once ops r)
unfolding once
once_laws ops fewer k p h s w f l = fewer_laws fewer f (image_of once_of (in_turn_of (omega arith) l (maybe_of ops s (operand_laws ops k p h l)) w))

-- an operand alone is a run
pub run_begins : (ops : Kinds) (g : Grammar ExprTree) → Begins g [] → Begins (RunOf ops g) []
run_begins ops g q = (q.0 ++ [], run_of (q.1, []), ((q.1, []), (q.0, [], refl, q.2, refl), refl))

-- and an operand without an operator
pub once_begins : (ops : Kinds) (g : Grammar ExprTree) → Begins g [] → Begins (OnceOf ops g) []
once_begins ops g q = (q.0 ++ [], run_of (q.1, []), ((q.1, None), (q.0, [], refl, q.2, refl), refl))

-- a list may be empty
pub listed_begins : {A : Type 0} (g : Grammar A) → Begins (Listed g) []
listed_begins g = ([], [], (None, refl, refl))

-- an expression doesn't go on from a name to =
pub run_alone : (ops : Kinds) (r : Reading ExprTree) (ts rest : List Token) (x : ExprTree) → ops (kind_of rest) ≡ false → r ts ≡ Got x rest → run ops r ts ≡ Got x rest
unfolding run
run_alone ops r ts rest x h e = image_got run_of (in_turn r (many ops (in_turn (one ops operator_of) r))) ts rest (x, []) (in_turn_got r (many ops (in_turn (one ops operator_of) r)) ts rest rest x [] e (many_none ops (in_turn (one ops operator_of) r) rest h))

-- and where one operator may stand
pub once_alone : (ops : Kinds) (r : Reading ExprTree) (ts rest : List Token) (x : ExprTree) → ops (kind_of rest) ≡ false → r ts ≡ Got x rest → once ops r ts ≡ Got x rest
unfolding once
once_alone ops r ts rest x h e = image_got once_of (in_turn r (maybe ops (in_turn (one ops operator_of) r))) ts rest (x, None) (in_turn_got r (maybe ops (in_turn (one ops operator_of) r)) ts rest rest x None e (maybe_nothing ops (in_turn (one ops operator_of) r) rest h))

-- the laws of what stands in brackets, from those at each depth
pub inside_of : {A : Type 0} {d : ℕ} {e : Bool} {first stops : Kinds} {G : ℕ → Grammar A} (r : ℕ → Reading A) → ((n : ℕ) → Laws n d e first stops G (r n)) → (n : ℕ) → InsideLaws n d e first stops G (inside r n)
inside_of r l zero = (l 0).sample
inside_of r l (suc n) = l n
