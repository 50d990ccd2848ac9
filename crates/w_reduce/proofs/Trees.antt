-- Terms are read as trees without loss: a tree is taken apart again.
use Rattle.std.proofs.Common.{◌≡◌, List, [], ◌∷◌, refl, sym, ap, ◌∙◌}
use Rattle.w_syntax.specs.Code.{Code, Done, Plain, Block, If, IfElse}
use Rattle.lists.specs.Rows.{Row, ε, ◌▹◌, ◌⧺◌}
use Rattle.w_reduce.specs.Values.{Val}
use Rattle.w_reduce.specs.Terms.{Administrative, Rest, Label, Frame, Handle, Context, Term}
use Rattle.w_reduce.specs.Reduced.{Went}
use Rattle.w_reduce.specs.Reduce.{reduce}
use Rattle.w_reduce.specs.Tree.{Const, Admin, Instr, InstrBlock, InstrIf, InstrIfElse, InLabel, InFrame, InHandle, Sequence, Nil, ◌∙∙◌, values_then, instructions_of, admin_then, sequence_of, plugged, tree, Decomposes, Deterministic}
use Rattle.lists.proofs.Rows.{unit_left}

-- the code, and the rest of a sequence, that instructions are
code_in : Sequence → Code
code_in Nil = Done
code_in (Instr o ∙∙ x) = Plain o (code_in x)
code_in (InstrBlock kind b y ∙∙ x) = Block kind b y (code_in x)
code_in (InstrIf b y ∙∙ x) = If b y (code_in x)
code_in (InstrIfElse b y z ∙∙ x) = IfElse b y z (code_in x)
code_in (Const v ∙∙ x) = Done
code_in (Admin a ∙∙ x) = Done
code_in (InLabel n again y ∙∙ x) = Done
code_in (InFrame n f ls y ∙∙ x) = Done
code_in (InHandle hs y ∙∙ x) = Done

with_ahead : Administrative → Rest → Rest
with_ahead a r = record r { ahead = a ∷ r.ahead }

rest_in : Sequence → Rest
rest_in (Admin a ∙∙ x) = with_ahead a (rest_in x)
rest_in Nil = record { ahead = []; code = Done }
rest_in (Instr o ∙∙ x) = record { ahead = []; code = Plain o (code_in x) }
rest_in (InstrBlock kind b y ∙∙ x) = record { ahead = []; code = Block kind b y (code_in x) }
rest_in (InstrIf b y ∙∙ x) = record { ahead = []; code = If b y (code_in x) }
rest_in (InstrIfElse b y z ∙∙ x) = record { ahead = []; code = IfElse b y z (code_in x) }
rest_in (Const v ∙∙ x) = record { ahead = []; code = Done }
rest_in (InLabel n again y ∙∙ x) = record { ahead = []; code = Done }
rest_in (InFrame n f ls y ∙∙ x) = record { ahead = []; code = Done }
rest_in (InHandle hs y ∙∙ x) = record { ahead = []; code = Done }

-- a sequence, at the hole of e and after vs, taken apart
apart : Context → Row Val → Sequence → Term
apart e vs Nil = record { around = e; operands = vs; rest = record { ahead = []; code = Done } }
apart e vs (Const v ∙∙ x) = apart e (vs ▹ v) x
apart e vs (Admin a ∙∙ x) = record { around = e; operands = vs; rest = with_ahead a (rest_in x) }
apart e vs (Instr o ∙∙ x) = record { around = e; operands = vs; rest = record { ahead = []; code = Plain o (code_in x) } }
apart e vs (InstrBlock kind b y ∙∙ x) = record { around = e; operands = vs; rest = record { ahead = []; code = Block kind b y (code_in x) } }
apart e vs (InstrIf b y ∙∙ x) = record { around = e; operands = vs; rest = record { ahead = []; code = If b y (code_in x) } }
apart e vs (InstrIfElse b y z ∙∙ x) = record { around = e; operands = vs; rest = record { ahead = []; code = IfElse b y z (code_in x) } }
apart e vs (InLabel n again y ∙∙ x) = apart (Label vs n again (code_in x) ∷ e) ε y
apart e vs (InFrame n f ls y ∙∙ x) = apart (Frame vs n f ls (rest_in x) ∷ e) ε y
apart e vs (InHandle hs y ∙∙ x) = apart (Handle vs hs (code_in x) ∷ e) ε y

code_written : (c : Code) → code_in (instructions_of c) ≡ c
unfolding code_in
code_written Done = refl
code_written (Plain o c) = ap (Plain o) (code_written c)
code_written (Block kind b x c) = ap (Block kind b x) (code_written c)
code_written (If b x c) = ap (If b x) (code_written c)
code_written (IfElse b x y c) = ap (IfElse b x y) (code_written c)

only_code : (c : Code) → rest_in (instructions_of c) ≡ record { ahead = []; code = c }
unfolding rest_in
only_code Done = refl
only_code (Plain o c) = ap (λ (d : Code). let r : Rest = record { ahead = []; code = Plain o d } in r) (code_written c)
only_code (Block kind b x c) = ap (λ (d : Code). let r : Rest = record { ahead = []; code = Block kind b x d } in r) (code_written c)
only_code (If b x c) = ap (λ (d : Code). let r : Rest = record { ahead = []; code = If b x d } in r) (code_written c)
only_code (IfElse b x y c) = ap (λ (d : Code). let r : Rest = record { ahead = []; code = IfElse b x y d } in r) (code_written c)

rest_written : (ahead : List Administrative) (c : Code) → rest_in (admin_then ahead (instructions_of c)) ≡ record { ahead = ahead; code = c }
unfolding rest_in with_ahead
rest_written [] c = only_code c
rest_written (a ∷ as2) c = ap (with_ahead a) (rest_written as2 c)

apart_rest : (e : Context) (vs : Row Val) (ahead : List Administrative) (c : Code) → apart e vs (admin_then ahead (instructions_of c)) ≡ record { around = e; operands = vs; rest = record { ahead = ahead; code = c } }
unfolding apart with_ahead
apart_rest e vs [] Done = refl
apart_rest e vs [] (Plain o c) = ap (λ (d : Code). let t : Term = record { around = e; operands = vs; rest = record { ahead = []; code = Plain o d } } in t) (code_written c)
apart_rest e vs [] (Block kind b x c) = ap (λ (d : Code). let t : Term = record { around = e; operands = vs; rest = record { ahead = []; code = Block kind b x d } } in t) (code_written c)
apart_rest e vs [] (If b x c) = ap (λ (d : Code). let t : Term = record { around = e; operands = vs; rest = record { ahead = []; code = If b x d } } in t) (code_written c)
apart_rest e vs [] (IfElse b x y c) = ap (λ (d : Code). let t : Term = record { around = e; operands = vs; rest = record { ahead = []; code = IfElse b x y d } } in t) (code_written c)
apart_rest e vs (a ∷ as2) c = ap (λ (r : Rest). let t : Term = record { around = e; operands = vs; rest = with_ahead a r } in t) (rest_written as2 c)

apart_values : (e : Context) (vs : Row Val) (ws : Row Val) (x : Sequence) → apart e vs (values_then ws x) ≡ apart e (vs ⧺ ws) x
unfolding apart
apart_values e vs ε x = refl
apart_values e vs (ws ▹ w) x = apart_values e vs ws (Const w ∙∙ x)

apart_filled : (e : Context) (x : Sequence) → apart [] ε (plugged e x) ≡ apart e ε x
unfolding apart
apart_filled [] x = refl
apart_filled (Label below n again rest ∷ e) x =
    apart_filled e (values_then below (InLabel n again x ∙∙ instructions_of rest))
    ∙ apart_values e ε below (InLabel n again x ∙∙ instructions_of rest)
    ∙ rw (unit_left below, code_written rest) refl
apart_filled (Frame below n f ls rest ∷ e) x =
    apart_filled e (values_then below (InFrame n f ls x ∙∙ sequence_of rest))
    ∙ apart_values e ε below (InFrame n f ls x ∙∙ sequence_of rest)
    ∙ rw (unit_left below, rest_written rest.ahead rest.code) refl
apart_filled (Handle below hs rest ∷ e) x =
    apart_filled e (values_then below (InHandle hs x ∙∙ instructions_of rest))
    ∙ apart_values e ε below (InHandle hs x ∙∙ instructions_of rest)
    ∙ rw (unit_left below, code_written rest) refl

apart_tree : (t : Term) → apart [] ε (tree t) ≡ t
apart_tree t =
    apart_filled t.around (values_then t.operands (sequence_of t.rest))
    ∙ apart_values t.around ε t.operands (sequence_of t.rest)
    ∙ ap (λ vs. apart t.around vs (sequence_of t.rest)) (unit_left t.operands)
    ∙ apart_rest t.around t.operands t.rest.ahead t.rest.code

pub decomposes : Decomposes
decomposes t t' p = sym (apart_tree t) ∙ ap (λ x. apart [] ε x) p ∙ apart_tree t'

pub deterministic : Deterministic
deterministic p s s' s'' T T' T'' out out' r r' =
    let e : r.before ≡ r'.before = decomposes r.before r'.before (sym r.from ∙ r'.from) in
    let q : Went out s' r.after ≡ Went out' s'' r'.after = sym r.rule ∙ ap (λ t. reduce p s t) e ∙ r'.rule in
    let after : r.after ≡ r'.after = cc q in
    (cc q, cc q, r.to ∙ ap tree after ∙ sym r'.to)
