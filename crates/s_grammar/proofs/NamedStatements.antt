-- The laws of a statement that begins with a name: behind it, `=` decides.
use Rattle.std.proofs.Common.{◌≡◌, ℕ, zero, suc, Bool, true, false, if◌then◌else◌, ◌⊎◌, inl, inr, List, [], ◌∷◌, ◌++◌, drop, Some, None, refl, sym, ap, subst, ◌∙◌, append_assoc, arith}
use Rattle.std.specs.Prelude.{IsTrue}
use Rattle.s_syntax.specs.declared.statement.Use.TheVariants as use_for
use Rattle.s_syntax.specs.BlockTree.{Evaluate, StatementTree}
use Rattle.s_syntax.specs.ExprTree.{ExprTree, Read}
use Rattle.s_syntax.specs.declared.name.Name.{Name}
use Rattle.s_syntax.specs.declared.token.Kind.{Kind}
use Rattle.s_syntax.specs.declared.token.Kind.TheVariants as kind
use Rattle.s_syntax.specs.declared.token.Token.{Token}
use Rattle.s_grammar.specs.Grammar.{Grammar, Choice, Never}
use Rattle.s_grammar.specs.Kinds.{kind_of, turn, is}
use Rattle.s_grammar.specs.Operators.{or_operators, and_operators, comparisons, sum_operators, product_operators}
use Rattle.s_grammar.specs.Parts.{assign_of, read_or_call, former, itself, latter}
use Rattle.s_grammar.specs.Reading.{Why, Answer, Got, Refused, Reading, choice, in_turn, maybe, Wrong, image, and_then}
use Rattle.s_grammar.specs.Reads.{assigned, evaluated, unary_by, primary_by, name, expr_by, ands, compares, sums, products, expr, in_parentheses, listed, ended, key, ahead, led}
use Rattle.s_grammar.specs.Syntax.{AssignOf, EvaluateOf, Expr, ExprOf, UnaryBy, PrimaryBy, InParentheses, Listed, ClosedBy}
use Rattle.s_grammar.specs.Texts.{name_of}
use Rattle.s_grammar.proofs.Ends.{begins_expr, ends_expr}
use Rattle.s_grammar.proofs.ExprLaws.{name_laws, expr_laws}
use Rattle.s_grammar.proofs.ForParts.{image_of, in_turn_of, led_laws, ended_laws, run_alone, once_alone}
use Rattle.s_grammar.proofs.Images.{image_got, image_refused}
use Rattle.s_grammar.proofs.InTurn.{in_turn_got, in_turn_second, no_tokens}
use Rattle.s_grammar.proofs.KindSets.{any_kind, is_kind}
use Rattle.s_grammar.proofs.ReadingLaws.{Laws, Known, must, Begins}
use Rattle.s_grammar.proofs.OneToken.{token_of, one_got, one_refused}
use Rattle.s_grammar.proofs.Optional.{maybe_nothing}
use Rattle.s_grammar.proofs.Walks.{front_kind, walk, walk_by}

-- a semicolon, wherever it stands
abbrev pub semicolon : Token
semicolon = token_of kind.Semicolon

-- behind a front of one token at least, the first two kinds stay
same_two : (front ts rest s : List Token) → ts ≡ front ++ rest → (front ≡ [] → ⊥) → kind_of s ≡ kind_of rest → (kind_of (front ++ s) ≡ kind_of ts) × (kind_of (drop 1 (front ++ s)) ≡ kind_of (drop 1 ts))
same_two [] ts rest s e h k = absurd (h refl)
same_two (t ∷ f) ts rest s e h k = (ap kind_of (sym e), front_kind f s rest k ∙ ap (λ (l : List Token). kind_of (drop 1 l)) (sym e))

-- and the first
head_kind : (front ts rest : List Token) → ts ≡ front ++ rest → (front ≡ [] → ⊥) → (c : List Token) → kind_of (front ++ c) ≡ kind_of ts
head_kind [] ts rest e h c = absurd (h refl)
head_kind (t ∷ f) ts rest e h c = ap kind_of (sym e)

-- no reading is both
got_refused : {A : Type 0} (x : A) (l : List Token) (w : Why) (m : List Token) → ◌≡◌ {A = Answer A} (Got x l) (Refused w m) → ⊥
got_refused x l w m e = cc

-- nothing behind a list
pub append_none : (l : List Token) → l ++ [] ≡ l
append_none [] = refl
append_none (t ∷ l) = ap (λ (m : List Token). t ∷ m) (append_none l)

-- a name and `=` are no brackets
walk_two : (n j : ℕ) (t u : Token) (b : List Token) → t.kind ≡ kind.Name → u.kind ≡ kind.Assign → walk n b ≡ Some j → walk n (t ∷ u ∷ b) ≡ Some j
walk_two n j t u b h k e = ap (λ (i : Kind). walk_by (turn i) n (λ k. walk k (u ∷ b))) h ∙ ap (λ (i : Kind). walk_by (turn i) n (λ k. walk k b)) k ∙ e

-- falsity is not truth
false_true : {A : Type 0} → false ≡ true → A
false_true e = absurd cc

-- the first kind stays
head_append : (b s : List Token) → is kind.Name (kind_of b) ≡ true → is kind.Name (kind_of (b ++ s)) ≡ true
head_append [] s h = false_true h
head_append (t ∷ b) s h = h

module _ (bytes : List ℕ) where
  -- An assignment or an expression: behind a name, = decides.
  assign_laws : (n : ℕ) (E : ℕ → Grammar ExprTree) (e : Reading ExprTree) → Laws n 0 false begins_expr ends_expr E e → Laws n 0 false (is kind.Name) any_kind (λ m. AssignOf bytes (E m)) (assigned bytes e)
  unfolding assigned
  assign_laws n E e l = image_of assign_of (in_turn_of (omega arith) (name_laws bytes n) (led_laws kind.Assign (omega arith) refl refl refl (ended_laws kind.Semicolon (omega arith) refl refl refl l)) refl)

  -- an expression that is evaluated
  evaluate_laws : (n : ℕ) (E : ℕ → Grammar ExprTree) (e : Reading ExprTree) → Laws n 0 false begins_expr ends_expr E e → Laws n 0 false begins_expr any_kind (λ m. EvaluateOf (E m)) (evaluated e)
  unfolding evaluated
  evaluate_laws n E e l = image_of (λ t. Evaluate use_for.Drop t) (ended_laws kind.Semicolon (omega arith) refl refl refl l)

  -- a name in front of `=` is an operand alone
  name_primary : (e : Reading ExprTree) (a : Reading (List ExprTree)) (t u : Token) (z : List Token) → t.kind ≡ kind.Name → u.kind ≡ kind.Assign → choice (unary_by bytes e a) (t ∷ u ∷ z) ≡ Got (Read (name_of bytes t)) (u ∷ z)
  unfolding unary_by primary_by
  name_primary e a t u z h k =
      ap (λ (j : Kind). unary_by bytes e a j (t ∷ u ∷ z)) h
      ∙ image_got read_or_call (in_turn (name bytes) (maybe (is kind.OpenParenthesis) a)) (t ∷ u ∷ z) (u ∷ z) (name_of bytes t, None)
      (in_turn_got (name bytes) (maybe (is kind.OpenParenthesis) a) (t ∷ u ∷ z) (u ∷ z) (u ∷ z) (name_of bytes t) None (one_got (is kind.Name) (name_of bytes) t (u ∷ z) (ap (is kind.Name) h)) (maybe_nothing (is kind.OpenParenthesis) a (u ∷ z) (ap (is kind.OpenParenthesis) k)))

  -- and an expression alone
  name_alone : (e : Reading ExprTree) (a : Reading (List ExprTree)) (t u : Token) (z : List Token) → t.kind ≡ kind.Name → u.kind ≡ kind.Assign → expr_by bytes e a (t ∷ u ∷ z) ≡ Got (Read (name_of bytes t)) (u ∷ z)
  unfolding expr_by ands compares sums products
  name_alone e a t u z h k =
      run_alone or_operators (ands bytes e a) (t ∷ u ∷ z) (u ∷ z) (Read (name_of bytes t)) (ap or_operators k)
      (run_alone and_operators (compares bytes e a) (t ∷ u ∷ z) (u ∷ z) (Read (name_of bytes t)) (ap and_operators k)
      (once_alone comparisons (sums bytes e a) (t ∷ u ∷ z) (u ∷ z) (Read (name_of bytes t)) (ap comparisons k)
      (run_alone sum_operators (products bytes e a) (t ∷ u ∷ z) (u ∷ z) (Read (name_of bytes t)) (ap sum_operators k)
      (run_alone product_operators (choice (unary_by bytes e a)) (t ∷ u ∷ z) (u ∷ z) (Read (name_of bytes t)) (ap product_operators k) (name_primary e a t u z h k)))))

  -- at each depth
  expr_alone : (n : ℕ) (t u : Token) (z : List Token) → t.kind ≡ kind.Name → u.kind ≡ kind.Assign → expr bytes n (t ∷ u ∷ z) ≡ Got (Read (name_of bytes t)) (u ∷ z)
  unfolding expr
  expr_alone zero t u z h k = name_alone (in_parentheses None) (in_parentheses None) t u z h k
  expr_alone (suc n) t u z h k = name_alone (in_parentheses (Some (expr bytes n))) (in_parentheses (Some (listed (expr bytes n)))) t u z h k

  -- so an expression to be evaluated is refused at the `=`
  evaluate_refused : (n : ℕ) (t u : Token) (z : List Token) → t.kind ≡ kind.Name → u.kind ≡ kind.Assign → evaluated (expr bytes n) (t ∷ u ∷ z) ≡ Refused Wrong (u ∷ z)
  unfolding evaluated ended
  evaluate_refused n t u z h k =
      image_refused (λ t. Evaluate use_for.Drop t) (image former (in_turn (expr bytes n) (key kind.Semicolon))) (t ∷ u ∷ z) (u ∷ z) Wrong
      (image_refused former (in_turn (expr bytes n) (key kind.Semicolon)) (t ∷ u ∷ z) (u ∷ z) Wrong
      (in_turn_second (expr bytes n) (key kind.Semicolon) (t ∷ u ∷ z) (u ∷ z) (u ∷ z) (Read (name_of bytes t)) Wrong (expr_alone n t u z h k) (one_refused (is kind.Semicolon) itself (u ∷ z) (ap (is kind.Semicolon) k))))

  -- a statement that begins with a name
  unfoldable pub NameOf : ℕ → Grammar StatementTree
  NameOf m b x = IsTrue (is kind.Name (kind_of b)) × (AssignOf bytes (Expr bytes m) b x ⊎ EvaluateOf (Expr bytes m) b x)

  -- how it is read
  unfoldable pub named : ℕ → Reading StatementTree
  named n = ahead kind.Name kind.Assign (assigned bytes (expr bytes n)) (evaluated (expr bytes n))

  -- where `=` follows, as an assignment
  named_assign : (n : ℕ) (ts : List Token) → is kind.Name (kind_of ts) ≡ true → is kind.Assign (kind_of (drop 1 ts)) ≡ true → named n ts ≡ assigned bytes (expr bytes n) ts
  unfolding named
  named_assign n ts h k =
      ap (λ (v : Bool). if v then (if is kind.Assign (kind_of (drop 1 ts)) then (assigned bytes) (expr bytes n) ts else evaluated (expr bytes n) ts) else Refused Wrong ts) h
      ∙ ap (λ (v : Bool). if v then (assigned bytes) (expr bytes n) ts else evaluated (expr bytes n) ts) k

  -- where it does not, as an expression
  named_evaluate : (n : ℕ) (ts : List Token) → is kind.Name (kind_of ts) ≡ true → is kind.Assign (kind_of (drop 1 ts)) ≡ false → named n ts ≡ evaluated (expr bytes n) ts
  unfolding named
  named_evaluate n ts h k =
      ap (λ (v : Bool). if v then (if is kind.Assign (kind_of (drop 1 ts)) then (assigned bytes) (expr bytes n) ts else evaluated (expr bytes n) ts) else Refused Wrong ts) h
      ∙ ap (λ (v : Bool). if v then (assigned bytes) (expr bytes n) ts else evaluated (expr bytes n) ts) k

  -- where no name stands, not at all
  named_wrong : (n : ℕ) (ts : List Token) → is kind.Name (kind_of ts) ≡ false → named n ts ≡ Refused Wrong ts
  unfolding named
  named_wrong n ts h = ap (λ (v : Bool). if v then (if is kind.Assign (kind_of (drop 1 ts)) then (assigned bytes) (expr bytes n) ts else evaluated (expr bytes n) ts) else Refused Wrong ts) h

  -- a name alone is an expression, whatever bracket may be opened
  name_expr_of : (E : Grammar ExprTree) (A : Grammar (List ExprTree)) (t : Token) → t.kind ≡ kind.Name → ExprOf bytes E A (t ∷ []) (Read (name_of bytes t))
  unfolding ExprOf UnaryBy PrimaryBy
  name_expr_of E A t h =
      let primary : Choice (UnaryBy bytes E A) (t ∷ []) (Read (name_of bytes t)) = subst (λ (k : Kind). UnaryBy bytes E A k (t ∷ []) (Read (name_of bytes t))) (sym h) ((name_of bytes t, None), (t ∷ [], [], refl, (t, refl, ap (is kind.Name) h, refl), refl), refl) in
      ((Read (name_of bytes t), []), (t ∷ [], [], refl, ((Read (name_of bytes t), []), (t ∷ [], [], refl, ((Read (name_of bytes t), None), (t ∷ [], [], refl, ((Read (name_of bytes t), []), (t ∷ [], [], refl, ((Read (name_of bytes t), []), (t ∷ [], [], refl, primary, refl), refl), refl), refl), refl), refl), refl), refl), refl), refl)

  -- at each depth
  name_expr : (m : ℕ) (t : Token) → t.kind ≡ kind.Name → Expr bytes m (t ∷ []) (Read (name_of bytes t))
  unfolding Expr
  name_expr zero t h = name_expr_of (InParentheses Never) (InParentheses Never) t h
  name_expr (suc m) t h = name_expr_of (InParentheses (Expr bytes m)) (InParentheses (Listed (Expr bytes m))) t h

  -- with a semicolon it is a statement
  name_statement : (m : ℕ) (t : Token) → t.kind ≡ kind.Name → EvaluateOf (Expr bytes m) (t ∷ semicolon ∷ []) (Evaluate use_for.Drop (Read (name_of bytes t)))
  name_statement m t h = (Read (name_of bytes t), ((Read (name_of bytes t), semicolon), (t ∷ [], semicolon ∷ [], refl, name_expr m t h, (semicolon, refl, refl, refl)), refl), refl)

  -- expressions to be evaluated, at each depth
  pub semicolon_laws : (n : ℕ) → Laws n 0 false begins_expr any_kind (λ m. EvaluateOf (Expr bytes m)) (evaluated (expr bytes n))
  semicolon_laws n = evaluate_laws n (Expr bytes) (expr bytes n) (expr_laws bytes n)

  -- a name and a semicolon are read so
  evaluates : (n : ℕ) (t : Token) → t.kind ≡ kind.Name → evaluated (expr bytes n) (t ∷ semicolon ∷ []) ≡ Got (Evaluate use_for.Drop (Read (name_of bytes t))) []
  evaluates n t h = (semicolon_laws n).only (t ∷ semicolon ∷ []) (Evaluate use_for.Drop (Read (name_of bytes t))) [] (name_statement n t h) refl

  -- reading such a statement is not refused at its name
  not_refused : (n : ℕ) (w : Why) (rest ts front : List Token) → ts ≡ front ++ rest → front ≡ [] → is kind.Name (kind_of ts) ≡ true → ((s : List Token) → kind_of s ≡ kind_of rest → evaluated (expr bytes n) (front ++ s) ≡ Refused w s) → ⊥
  not_refused n w rest ts front e f h again =
      let t : Token = token_of kind.Name in
      let ts_rest : ts ≡ rest = e ∙ ap (λ (l : List Token). l ++ rest) f in
      let same : kind.Name ≡ kind_of rest = sym (is_kind kind.Name (kind_of ts) h) ∙ ap kind_of ts_rest in
      let other_than : evaluated (expr bytes n) (t ∷ semicolon ∷ []) ≡ Refused w (t ∷ semicolon ∷ []) = ap (λ (l : List Token). evaluated (expr bytes n) (l ++ t ∷ semicolon ∷ [])) (sym f) ∙ again (t ∷ semicolon ∷ []) same in
      let yes : evaluated (expr bytes n) (t ∷ semicolon ∷ []) ≡ Got (Evaluate use_for.Drop (Read (name_of bytes t))) [] = evaluates n t refl in
      got_refused (Evaluate use_for.Drop (Read (name_of bytes t))) [] w (t ∷ semicolon ∷ []) (sym yes ∙ other_than)

  -- what is told of the expression is told of the statement
  named_by_evaluate : (n : ℕ) (ts : List Token) → is kind.Name (kind_of ts) ≡ true → is kind.Assign (kind_of (drop 1 ts)) ≡ false → (o : Answer StatementTree) → Known n (λ m. EvaluateOf (Expr bytes m)) (evaluated (expr bytes n)) ts o → Known n NameOf (named n) ts o
  unfolding NameOf
  named_by_evaluate n ts h k (Got x rest) g =
      let solid : g.front ≡ [] → ⊥ = λ e. no_tokens (semicolon_laws n) n x (subst (λ (l : List Token). EvaluateOf (Expr bytes n) l x) e (g.spelled n (omega arith))) in
      record {
        front = g.front;
        parts = g.parts;
        spelled = λ m l. (ap (is kind.Name) (ap kind_of (sym (append_none g.front)) ∙ head_kind g.front ts rest g.parts solid []) ∙ h, inr (g.spelled m l));
        level = g.level;
        again = λ s same. let q = same_two g.front ts rest s g.parts solid same in named_evaluate n (g.front ++ s) (ap (is kind.Name) q.0 ∙ h) (ap (is kind.Assign) q.1 ∙ k) ∙ g.again s same;
      }
  named_by_evaluate n ts h k (Refused w rest) g =
      let solid : g.front ≡ [] → ⊥ = λ e. not_refused n w rest ts g.front g.parts e h g.again in
      record {
        front = g.front;
        parts = g.parts;
        begins = λ m l. let q = g.begins m l in (q.0, q.1, (ap (is kind.Name) (ap kind_of (append_assoc g.front (must w rest) q.0) ∙ head_kind g.front ts rest g.parts solid (must w rest ++ q.0)) ∙ h, inr q.2));
        left = g.left;
        level = g.level;
        cause = g.cause;
        again = λ s same. let q = same_two g.front ts rest s g.parts solid same in named_evaluate n (g.front ++ s) (ap (is kind.Name) q.0 ∙ h) (ap (is kind.Assign) q.1 ∙ k) ∙ g.again s same;
      }

  -- what is read behind a name and =
  abbrev behind_assign : Token → Token → Answer ExprTree → Answer StatementTree
  behind_assign t u o = and_then (and_then {B = Name × ExprTree} (and_then (and_then {B = Token × ExprTree} o (λ y more. Got (u, y) more)) (λ x rest. Got (latter x) rest)) (λ y more. Got (name_of bytes t, y) more)) (λ p rest. Got (Evaluate (use_for.Assign p.0) p.1) rest)

  -- the name and the `=` leave the rest as it is
  assign_prefix : (t u : Token) (o : Answer ExprTree) → behind_assign t u o ≡ and_then o (λ x rest. Got (Evaluate (use_for.Assign (name_of bytes t)) x) rest)
  assign_prefix t u (Got x rest) = refl
  assign_prefix t u (Refused w rest) = refl

  -- an assignment is read by what stands behind the `=`
  assign_reads : (n : ℕ) (t u : Token) (z : List Token) → t.kind ≡ kind.Name → u.kind ≡ kind.Assign → assigned bytes (expr bytes n) (t ∷ u ∷ z) ≡ and_then (ended (expr bytes n) kind.Semicolon z) (λ x rest. Got (Evaluate (use_for.Assign (name_of bytes t)) x) rest)
  unfolding assigned led
  assign_reads n t u z h k =
      let r = ended (expr bytes n) kind.Semicolon in
      let one_name = one_got (is kind.Name) (name_of bytes) t (u ∷ z) (ap (is kind.Name) h) in
      let one_key = one_got (is kind.Assign) itself u z (ap (is kind.Assign) k) in
      ap (λ (o : Answer Name). and_then (and_then {B = Name × ExprTree} o (λ x rest. and_then (image latter (in_turn (key kind.Assign) r) rest) (λ y more. Got (x, y) more))) (λ p rest. Got (Evaluate (use_for.Assign p.0) p.1) rest)) one_name
      ∙ ap (λ (o : Answer Token). and_then (and_then {B = Name × ExprTree} (and_then (and_then {B = Token × ExprTree} o (λ x rest. and_then (r rest) (λ y more. Got (x, y) more))) (λ x rest. Got (latter x) rest)) (λ y more. Got (name_of bytes t, y) more)) (λ p rest. Got (Evaluate (use_for.Assign p.0) p.1) rest)) one_key
      ∙ assign_prefix t u (r z)

  -- and spelled so
  assigns : (m : ℕ) (t u : Token) (b : List Token) (x : ExprTree) → t.kind ≡ kind.Name → u.kind ≡ kind.Assign → ClosedBy (Expr bytes m) kind.Semicolon b x → AssignOf bytes (Expr bytes m) (t ∷ u ∷ b) (Evaluate (use_for.Assign (name_of bytes t)) x)
  assigns m t u b x h k g = ((name_of bytes t, x), (t ∷ [], u ∷ b, refl, (t, refl, ap (is kind.Name) h, refl), ((u, x), (u ∷ [], b, refl, (u, refl, ap (is kind.Assign) k, refl), g), refl)), refl)

  -- what is told behind the `=` is told of the statement
  named_by_assign : (n : ℕ) (t u : Token) (z : List Token) → t.kind ≡ kind.Name → u.kind ≡ kind.Assign → (o : Answer ExprTree) → Known n (λ m. ClosedBy (Expr bytes m) kind.Semicolon) (ended (expr bytes n) kind.Semicolon) z o
      → Known n NameOf (named n) (t ∷ u ∷ z) (and_then o (λ x rest. Got (Evaluate (use_for.Assign (name_of bytes t)) x) rest))
  unfolding NameOf
  named_by_assign n t u z h k (Got x rest) g = record {
    front = t ∷ u ∷ g.front;
    parts = ap (λ (l : List Token). t ∷ u ∷ l) g.parts;
    spelled = λ m l. (ap (is kind.Name) h, inl (assigns m t u g.front x h k (g.spelled m l)));
    level = walk_two n n t u g.front h k g.level;
    again = λ s same. named_assign n (t ∷ u ∷ (g.front ++ s)) (ap (is kind.Name) h) (ap (is kind.Assign) k) ∙ assign_reads n t u (g.front ++ s) h k ∙ ap (λ (o : Answer ExprTree). and_then o (λ x rest. Got (Evaluate (use_for.Assign (name_of bytes t)) x) rest)) (g.again s same);
  }
  named_by_assign n t u z h k (Refused w rest) g = record {
    front = t ∷ u ∷ g.front;
    parts = ap (λ (l : List Token). t ∷ u ∷ l) g.parts;
    begins = λ m l. let q = g.begins m l in (q.0, Evaluate (use_for.Assign (name_of bytes t)) q.1, (ap (is kind.Name) h, inl (assigns m t u ((g.front ++ must w rest) ++ q.0) q.1 h k q.2)));
    left = g.left;
    level = walk_two n g.left t u g.front h k g.level;
    cause = g.cause;
    again = λ s same. named_assign n (t ∷ u ∷ (g.front ++ s)) (ap (is kind.Name) h) (ap (is kind.Assign) k) ∙ assign_reads n t u (g.front ++ s) h k ∙ ap (λ (o : Answer ExprTree). and_then o (λ x rest. Got (Evaluate (use_for.Assign (name_of bytes t)) x) rest)) (g.again s same);
  }

  -- an expression and a semicolon
  pub end_laws : (n : ℕ) → Laws n 0 false begins_expr any_kind (λ m. ClosedBy (Expr bytes m) kind.Semicolon) (ended (expr bytes n) kind.Semicolon)
  end_laws n = ended_laws kind.Semicolon (omega arith) refl refl refl (expr_laws bytes n)

  -- a statement that begins with a name is always spelled
  named_begins : (m : ℕ) → Begins (NameOf m) []
  unfolding NameOf
  named_begins m = let t : Token = token_of kind.Name in (t ∷ semicolon ∷ [], Evaluate use_for.Drop (Read (name_of bytes t)), (refl, inr (name_statement m t refl)))

  -- what is told, by whether a name stands and whether `=` follows
  named_known_by : (n : ℕ) (ts : List Token) (v w : Bool) → is kind.Name (kind_of ts) ≡ v → is kind.Assign (kind_of (drop 1 ts)) ≡ w
      → Known n NameOf (named n) ts (if v then (if w then (assigned bytes) (expr bytes n) ts else evaluated (expr bytes n) ts) else Refused Wrong ts)
  named_known_by n ts false w h k = record {
    front = [];
    parts = refl;
    begins = λ m l. named_begins m;
    left = n;
    level = refl;
    cause = tt;
    again = λ s same. named_wrong n s (ap (is kind.Name) same ∙ h);
  }
  named_known_by n ts true false h k = named_by_evaluate n ts h k (evaluated (expr bytes n) ts) ((semicolon_laws n).known ts)
  named_known_by n [] true true h k = false_true h
  named_known_by n (t ∷ []) true true h k = false_true k
  named_known_by n (t ∷ u ∷ z) true true h k =
      let p = is_kind kind.Name t.kind h in
      let q = is_kind kind.Assign u.kind k in
      subst (Known n NameOf (named n) (t ∷ u ∷ z)) (sym (assign_reads n t u z p q)) (named_by_assign n t u z p q (ended (expr bytes n) kind.Semicolon z) ((end_laws n).known z))

  -- what reading tells
  named_known : (n : ℕ) (ts : List Token) → Known n NameOf (named n) ts (named n ts)
  unfolding named
  named_known n ts = named_known_by n ts (is kind.Name (kind_of ts)) (is kind.Assign (kind_of (drop 1 ts))) refl refl

  -- an assignment has `=` behind its name
  assign_second : (e : Grammar ExprTree) (b : List Token) (x : StatementTree) (s : List Token) → AssignOf bytes e b x → is kind.Assign (kind_of (drop 1 (b ++ s))) ≡ true
  assign_second e b x s g =
      let name_part = g.1.3 in
      let key_part = g.1.4.1 in
      let whole : b ≡ name_part.0 ∷ key_part.3.0 ∷ key_part.1 = g.1.2 ∙ ap (λ (l : List Token). l ++ g.1.1) name_part.1 ∙ ap (λ (l : List Token). name_part.0 ∷ l) (key_part.2 ∙ ap (λ (l : List Token). l ++ key_part.1) key_part.3.1) in
      ap (λ (l : List Token). is kind.Assign (kind_of (drop 1 (l ++ s)))) whole ∙ key_part.3.2

  -- an expression has not
  evaluate_second : (n : ℕ) (l s : List Token) (x : StatementTree) (v : Bool) → evaluated (expr bytes n) l ≡ Got x s → is kind.Name (kind_of l) ≡ true → is kind.Assign (kind_of (drop 1 l)) ≡ v → is kind.Assign (kind_of (drop 1 l)) ≡ false
  evaluate_second n l s x false e h k = k
  evaluate_second n [] s x true e h k = false_true h
  evaluate_second n (t ∷ []) s x true e h k = false_true k
  evaluate_second n (t ∷ u ∷ z) s x true e h k = absurd (got_refused x s Wrong (u ∷ z) (sym e ∙ evaluate_refused n t u z (is_kind kind.Name t.kind h) (is_kind kind.Assign u.kind k)))

  -- assignments, at each depth
  assign_all : (n : ℕ) → Laws n 0 false (is kind.Name) any_kind (λ m. AssignOf bytes (Expr bytes m)) (assigned bytes (expr bytes n))
  assign_all n = assign_laws n (Expr bytes) (expr bytes n) (expr_laws bytes n)

  -- what is spelled is read, by which of both it is
  named_only_by : (n : ℕ) (b : List Token) (x : StatementTree) (s : List Token) → is kind.Name (kind_of b) ≡ true → AssignOf bytes (Expr bytes n) b x ⊎ EvaluateOf (Expr bytes n) b x → named n (b ++ s) ≡ Got x s
  named_only_by n b x s h (inl g) = named_assign n (b ++ s) (head_append b s h) (assign_second (Expr bytes n) b x s g) ∙ (assign_all n).only b x s g refl
  named_only_by n b x s h (inr g) =
      let e = (semicolon_laws n).only b x s g refl in
      named_evaluate n (b ++ s) (head_append b s h) (evaluate_second n (b ++ s) s x (is kind.Assign (kind_of (drop 1 (b ++ s)))) e (head_append b s h) refl) ∙ e

  -- what is spelled is read
  named_only : (n : ℕ) (b : List Token) (x : StatementTree) (s : List Token) → NameOf n b x → named n (b ++ s) ≡ Got x s
  unfolding NameOf
  named_only n b x s g = named_only_by n b x s g.0 g.1

  -- it begins with a name
  named_starts : (m : ℕ) (t : Token) (b : List Token) (x : StatementTree) → NameOf m (t ∷ b) x → IsTrue (is kind.Name t.kind)
  unfolding NameOf
  named_starts m t b x g = g.0

  -- no tokens spell nothing
  named_empties : (m : ℕ) (x : StatementTree) → NameOf m [] x → ⊥
  unfolding NameOf
  named_empties m x g = false_true g.0

  -- the laws of such statements
  pub name_of_laws : (n : ℕ) → Laws n 0 false (is kind.Name) any_kind NameOf (named n)
  name_of_laws n = record {
    known = named_known n;
    only = λ b x s g k. named_only n b x s g;
    sample = λ m l. named_begins m;
    starts = named_starts;
    empties = λ m x g. absurd (named_empties m x g);
  }
