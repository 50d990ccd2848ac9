-- One part behind another keeps the laws.
use Rattle.std.proofs.Common.{◌≡◌, ℕ, ◌+◌, ◌≤◌, Bool, true, false, List, [], ◌∷◌, ◌++◌, refl, sym, ap, subst, ◌∙◌, append_assoc, arith}
use Rattle.std.specs.Prelude.{IsTrue}
use Rattle.s_syntax.specs.declared.token.Kind.{Kind}
use Rattle.s_syntax.specs.declared.token.Token.{Token}
use Rattle.s_grammar.specs.Grammar.{Grammar, InTurn}
use Rattle.s_grammar.specs.Kinds.{kind_of, Kinds}
use Rattle.s_grammar.specs.Reading.{Reading, Got, in_turn, Answer, and_then, Why, Refused}
use Rattle.s_grammar.proofs.KindSets.{both, and_parts, Within, within}
use Rattle.s_grammar.proofs.ReadingLaws.{GotAt, Known, must, Begins, Laws}
use Rattle.s_grammar.proofs.Walks.{front_kind, walk_append}

-- both are read
pub in_turn_got : {A B : Type 0} (r : Reading A) (s : Reading B) (ts rest more : List Token) (x : A) (y : B) → r ts ≡ Got x rest → s rest ≡ Got y more → in_turn r s ts ≡ Got (x, y) more
in_turn_got r s ts rest more x y e f = ap (λ (o : Answer _). and_then o (λ x rest. and_then (s rest) (λ y more. Got (x, y) more))) e ∙ ap (λ (o : Answer _). and_then o (λ y more. Got (x, y) more)) f

-- the first is refused
pub in_turn_first : {A B : Type 0} (r : Reading A) (s : Reading B) (ts rest : List Token) (w : Why) → r ts ≡ Refused w rest → in_turn r s ts ≡ Refused w rest
in_turn_first r s ts rest w e = ap (λ (o : Answer _). and_then o (λ x rest. and_then (s rest) (λ y more. Got (x, y) more))) e

-- the second is refused
pub in_turn_second : {A B : Type 0} (r : Reading A) (s : Reading B) (ts rest more : List Token) (x : A) (w : Why) → r ts ≡ Got x rest → s rest ≡ Refused w more → in_turn r s ts ≡ Refused w more
in_turn_second r s ts rest more x w e f = ap (λ (o : Answer _). and_then o (λ x rest. and_then (s rest) (λ y more. Got (x, y) more))) e ∙ ap (λ (o : Answer _). and_then o (λ y more. Got (x, y) more)) f

-- the first is read again with other tokens behind
again_first : {A : Type 0} (n : ℕ) (G : ℕ → Grammar A) (r : Reading A) (ts : List Token) (x : A) (rest : List Token) (t : GotAt n G r ts x rest)
    → (b more z : List Token) → rest ≡ b ++ more → kind_of z ≡ kind_of more → r ((t.front ++ b) ++ z) ≡ Got x (b ++ z)
again_first n G r ts x rest t b more z e k = ap r (append_assoc t.front b z) ∙ t.again (b ++ z) (front_kind b z more k ∙ ap kind_of (sym e))

-- lists regrouped
regroup : (a b c d : List Token) → ((a ++ b) ++ c) ++ d ≡ a ++ ((b ++ c) ++ d)
regroup a b c d = simp append_assoc

-- what the second tells, behind what the first read
in_turn_by : {A B : Type 0} (n : ℕ) (G : ℕ → Grammar A) (H : ℕ → Grammar B) (r : Reading A) (s : Reading B) (ts : List Token) (x : A) (rest : List Token)
    → GotAt n G r ts x rest → (p : Answer B) → Known n H s rest p → Known n (λ m. InTurn (G m) (H m)) (in_turn r s) ts (and_then p (λ y more. Got (x, y) more))
in_turn_by n G H r s ts x rest t (Got y more) u = record {
  front = t.front ++ u.front;
  parts = t.parts ∙ ap (λ (l : List Token). t.front ++ l) u.parts ∙ sym (append_assoc t.front u.front more);
  spelled = λ m l. (t.front, u.front, refl, t.spelled m l, u.spelled m l);
  level = walk_append t.front u.front n n t.level ∙ u.level;
  again = λ z k. in_turn_got r s ((t.front ++ u.front) ++ z) (u.front ++ z) z x y (again_first n G r ts x rest t u.front more z u.parts k) (u.again z k);
}
in_turn_by n G H r s ts x rest t (Refused w more) u = record {
  front = t.front ++ u.front;
  parts = t.parts ∙ ap (λ (l : List Token). t.front ++ l) u.parts ∙ sym (append_assoc t.front u.front more);
  begins = λ m l. let q = u.begins m l in (q.0, (x, q.1), (t.front, (u.front ++ must w more) ++ q.0, regroup t.front u.front (must w more) q.0, t.spelled m (omega arith), q.2));
  left = u.left;
  level = walk_append t.front u.front n n t.level ∙ u.level;
  cause = u.cause;
  again = λ z k. in_turn_second r s ((t.front ++ u.front) ++ z) (u.front ++ z) z x w (again_first n G r ts x rest t u.front more z u.parts k) (u.again z k);
}

-- what both tell
pub in_turn_known : {A B : Type 0} (n : ℕ) (G : ℕ → Grammar A) (H : ℕ → Grammar B) (r : Reading A) (s : Reading B) → ((m : ℕ) → n + 3 ≤ m → Begins (H m) [])
    → (ts : List Token) (o : Answer A) → Known n G r ts o → ((x : A) (rest : List Token) → o ≡ Got x rest → GotAt n G r ts x rest → Known n H s rest (s rest))
    → Known n (λ m. InTurn (G m) (H m)) (in_turn r s) ts (and_then o (λ x rest. and_then (s rest) (λ y more. Got (x, y) more)))
in_turn_known n G H r s sample ts (Got x rest) t u = in_turn_by n G H r s ts x rest t (s rest) (u x rest refl t)
in_turn_known n G H r s sample ts (Refused w rest) t u = record {
  front = t.front;
  parts = t.parts;
  begins = λ m l. let q = t.begins m l in let p = sample m l in (q.0 ++ p.0, (q.1, p.1), ((t.front ++ must w rest) ++ q.0, p.0, sym (append_assoc (t.front ++ must w rest) q.0 p.0), q.2, p.2));
  left = t.left;
  level = t.level;
  cause = t.cause;
  again = λ z k. in_turn_first r s (t.front ++ z) z w (t.again z k);
}

-- after f, g follows: what stops f too, where g may be spelled by no tokens
abbrev pub stopped : Bool → Kinds → Kinds → Kinds
stopped false a b = b
stopped true a b = both a b

-- what is of both sets is of each
both_parts : (a b : Kinds) (k : Kind) → IsTrue (both a b k) → IsTrue (a k) × IsTrue (b k)
both_parts a b k h = and_parts (a k) (b k) h

-- what stops both stops the second
stopped_second : (e : Bool) (a b : Kinds) (k : Kind) → IsTrue (stopped e a b k) → IsTrue (b k)
stopped_second false a b k h = h
stopped_second true a b k h = (both_parts a b k h).1

-- and the first, where the second may be spelled by no tokens
stopped_first : (e : Bool) (a b : Kinds) (k : Kind) → IsTrue e → IsTrue (stopped e a b k) → IsTrue (a k)
stopped_first false a b k p h = absurd cc
stopped_first true a b k p h = (both_parts a b k h).0

-- what follows a value of the first stops it
pub next_stops : {B : Type 0} (e : Bool) (a b first : Kinds) (H : Grammar B) → ((t : Token) (v : List Token) (y : B) → H (t ∷ v) y → IsTrue (first t.kind)) → ((y : B) → H [] y → IsTrue e) → Within first a
    → (v : List Token) (y : B) (s : List Token) → H v y → IsTrue (stopped e a b (kind_of s)) → IsTrue (a (kind_of (v ++ s)))
next_stops e a b first H starts empties w [] y s h p = stopped_first e a b (kind_of s) (empties y h) p
next_stops e a b first H starts empties w (t ∷ v) y s h p = within first a w t.kind (starts t v y h)

-- the first token is one of the first part
pub in_turn_starts : {A B : Type 0} (first : Kinds) (g : Grammar A) (h : Grammar B) → ((t : Token) (v : List Token) (x : A) → g (t ∷ v) x → IsTrue (first t.kind)) → ((x : A) → g [] x → ⊥)
    → (t : Token) (b : List Token) (u v : List Token) (x : A) → t ∷ b ≡ u ++ v → g u x → IsTrue (first t.kind)
in_turn_starts first g h starts solid t b [] v x e p = absurd (solid x p)
in_turn_starts first g h starts solid t b (j ∷ u) v x e p = let q : j ≡ t = cc in subst (λ (i : Token). IsTrue (first i.kind)) q (starts j u x p)

-- no tokens spell nothing
in_turn_solid : {A : Type 0} (g : Grammar A) → ((x : A) → g [] x → ⊥) → (u v : List Token) (x : A) → [] ≡ u ++ v → g u x → ⊥
in_turn_solid g solid [] v x e p = solid x p
in_turn_solid g solid (t ∷ u) v x e p = cc (e)

-- a part that takes a token is not spelled by none
pub no_tokens : {A : Type 0} {n d : ℕ} {first stops : Kinds} {G : ℕ → Grammar A} {r : Reading A} → Laws n d false first stops G r → (m : ℕ) (x : A) → G m [] x → ⊥
no_tokens l m x h = let p : false ≡ true = l.empties m x h in cc

-- what is spelled is read
in_turn_only : {A B : Type 0} (n : ℕ) (e : Bool) (d : ℕ) (first a second b : Kinds) (G : ℕ → Grammar A) (H : ℕ → Grammar B) (r : Reading A) (s : Reading B)
    → Laws n d false first a G r → Laws n d e second b H s → Within second a
    → (u v : List Token) (x : A) (y : B) (z : List Token) → G n u x → H n v y → IsTrue (stopped e a b (kind_of z)) → in_turn r s ((u ++ v) ++ z) ≡ Got (x, y) z
in_turn_only n e d first a second b G H r s p q w u v x y z g h k =
    in_turn_got r s ((u ++ v) ++ z) (v ++ z) z x y
    (ap r (append_assoc u v z) ∙ p.only u x (v ++ z) g (next_stops e a b second (H n) (q.starts n) (q.empties n) w v y z h k))
    (q.only v y z h (stopped_second e a b (kind_of z) k))

-- the laws of one part behind another
pub in_turn_laws : {A B : Type 0} (n d : ℕ) (e : Bool) (first a second b : Kinds) (G : ℕ → Grammar A) (H : ℕ → Grammar B) (r : Reading A) (s : Reading B)
    → d ≤ 3 → Laws n d false first a G r → Laws n d e second b H s → Within second a → Laws n d false first (stopped e a b) (λ m. InTurn (G m) (H m)) (in_turn r s)
in_turn_laws n d e first a second b G H r s small p q w = record {
  known = λ ts. in_turn_known n G H r s (λ m l. q.sample m (omega arith)) ts (r ts) (p.known ts) (λ x rest o t. q.known rest);
  only = λ c x z g k. ap (λ (l : List Token). in_turn r s (l ++ z)) g.2 ∙ in_turn_only n e d first a second b G H r s p q w g.0 g.1 x.0 x.1 z g.3 g.4 k;
  sample = λ m l. let i = p.sample m l in let j = q.sample m l in (i.0 ++ j.0, (i.1, j.1), (i.0, j.0, refl, i.2, j.2));
  starts = λ m t c x g. in_turn_starts first (G m) (H m) (p.starts m) (no_tokens p m) t c g.0 g.1 x.0 g.2 g.3;
  empties = λ m x g. absurd (in_turn_solid (G m) (no_tokens p m) g.0 g.1 x.0 g.2 g.3);
}
