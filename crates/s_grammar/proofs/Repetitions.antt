-- Any number of parts keep the laws.
use Rattle.std.proofs.Common.{◌≡◌, ℕ, zero, suc, ◌<◌, Bool, true, false, ◌&&◌, if◌then◌else◌, List, [], ◌∷◌, ◌++◌, length, refl, sym, ap, subst, ◌∙◌, append_assoc, arith}
use Rattle.std.specs.Prelude.{IsTrue}
use Rattle.s_syntax.specs.declared.token.Kind.{Kind}
use Rattle.s_syntax.specs.declared.token.Token.{Token}
use Rattle.s_grammar.specs.Grammar.{Grammar, Image, InTurn, Each}
use Rattle.s_grammar.specs.Kinds.{Kinds, kind_of}
use Rattle.s_grammar.specs.Reading.{Reading, Got, Answer, and_then, Refused, image, cons, in_turn, many_by, many}
use Rattle.s_grammar.proofs.Images.{known_as, image_known, image_got}
use Rattle.s_grammar.proofs.InTurn.{no_tokens, in_turn_known, in_turn_starts, in_turn_got, next_stops}
use Rattle.s_grammar.proofs.KindSets.{both, Within}
use Rattle.s_grammar.proofs.ReadingLaws.{GotAt, Laws, Known}
use Rattle.s_grammar.proofs.Optional.{halted, halted_parts, goes_on}
use Rattle.s_grammar.proofs.Walks.{shorter}

-- what is read takes a token
unfoldable pub Shrinks : {A : Type 0} → Reading A → Type 0
Shrinks {A} r = (ts : List Token) (x : A) (rest : List Token) → r ts ≡ Got x rest → length rest < length ts

-- what is read of a part that no tokens spell takes one
got_shrinks : {A : Type 0} (n : ℕ) (G : ℕ → Grammar A) (r : Reading A) → ((x : A) → G n [] x → ⊥) → (ts : List Token) (x : A) (rest : List Token) → GotAt n G r ts x rest → length rest < length ts
got_shrinks n G r solid ts x rest t = shorter t.front ts rest t.parts (λ e. solid x (subst (λ (l : List Token). G n l x) e (t.spelled n (omega arith))))

-- so does any part with such laws
pub shrinks : {A : Type 0} (n d : ℕ) (first stops : Kinds) (G : ℕ → Grammar A) (r : Reading A) → Laws n d false first stops G r → Shrinks r
unfolding Shrinks
shrinks n d first stops G r p ts x rest e = got_shrinks n G r (no_tokens p n) ts x rest (subst (Known n G r ts) e (p.known ts))

-- readings that are the same behind the first are the same
in_turn_same : {A B : Type 0} (s s' : Reading B) (o : Answer A) → ((x : A) (rest : List Token) → o ≡ Got x rest → s rest ≡ s' rest)
    → ◌≡◌ {A = Answer (A × B)} (and_then o (λ x rest. and_then (s rest) (λ y more. Got (x, y) more))) (and_then o (λ x rest. and_then (s' rest) (λ y more. Got (x, y) more)))
in_turn_same s s' (Got x rest) h = ap (λ (a : Answer _). and_then a (λ y more. Got (x, y) more)) (h x rest refl)
in_turn_same s s' (Refused w rest) h = refl

-- one step of a repetition
abbrev pub step : {A : Type 0} → Kinds → Reading A → Reading (List A) → Reading (List A)
step go r s ts = if go (kind_of ts) then image cons (in_turn r s) ts else Got [] ts

-- it depends on what follows alone
step_same : {A : Type 0} (go : Kinds) (r : Reading A) (s s' : Reading (List A)) (ts : List Token) → ((x : A) (rest : List Token) → r ts ≡ Got x rest → s rest ≡ s' rest) → step go r s ts ≡ step go r s' ts
step_same go r s s' ts h = ap (λ (a : Answer _). if go (kind_of ts) then and_then a (λ x rest. Got (cons x) rest) else Got [] ts) (in_turn_same s s' (r ts) h)

-- a repetition that is long enough is as any other
many_enough : {A : Type 0} (go : Kinds) (r : Reading A) → Shrinks r → (k j : ℕ) (ts : List Token) → length ts < k → length ts < j → many_by go r k ts ≡ many_by go r j ts
unfolding many_by Shrinks
many_enough go r h zero j ts l m = absurd (omega arith)
many_enough go r h (suc k) zero ts l m = absurd (omega arith)
many_enough go r h (suc k) (suc j) ts l m =
    step_same go r (many_by go r k) (many_by go r j) ts (λ x rest e. let s : length rest < length ts = h ts x rest e in many_enough go r h k j rest (omega arith) (omega arith))

-- a repetition is a step, and a repetition
pub many_step : {A : Type 0} (go : Kinds) (r : Reading A) → Shrinks r → (ts : List Token) → many go r ts ≡ step go r (many go r) ts
unfolding many_by
many_step go r h ts = step_same go r (many_by go r (length ts)) (many go r) ts (λ x rest e. let s : length rest < length ts = unfold Shrinks in h ts x rest e in many_enough go r h (length ts) (suc (length rest)) rest s (omega arith))

-- it goes on
pub step_on : {A : Type 0} (go : Kinds) (r : Reading A) (s : Reading (List A)) (ts : List Token) → go (kind_of ts) ≡ true → step go r s ts ≡ image cons (in_turn r s) ts
step_on go r s ts e = ap (λ (v : Bool). if v then image cons (in_turn r s) ts else Got [] ts) e

-- it ends
pub step_off : {A : Type 0} (go : Kinds) (r : Reading A) (s : Reading (List A)) (ts : List Token) → go (kind_of ts) ≡ false → step go r s ts ≡ Got [] ts
step_off go r s ts e = ap (λ (v : Bool). if v then image cons (in_turn r s) ts else Got [] ts) e

-- a part and others are parts
each_cons : {A : Type 0} (g : Grammar A) (b : List Token) (xs : List A) → Image cons (InTurn g (Each g)) b xs → Each g b xs
each_cons g b xs h = subst (Each g b) h.2 h.1

-- what is told by whether it goes on
many_known_by : {A : Type 0} (n : ℕ) (go : Kinds) (G : ℕ → Grammar A) (r : Reading A) → Shrinks r → (ts : List Token) → Known n G r ts (r ts)
    → ((x : A) (rest : List Token) → r ts ≡ Got x rest → GotAt n G r ts x rest → Known n (λ m. Each (G m)) (many go r) rest (many go r rest))
    → (v : Bool) → go (kind_of ts) ≡ v → Known n (λ m. Each (G m)) (many go r) ts (if v then image cons (in_turn r (many go r)) ts else Got [] ts)
many_known_by n go G r h ts t u true e =
    known_as n (λ m. Image cons (InTurn (G m) (Each (G m)))) (λ m. Each (G m)) (image cons (in_turn r (many go r))) (many go r) ts
    (λ m. each_cons (G m)) (λ z k. many_step go r h z ∙ step_on go r (many go r) z (ap go k ∙ e))
    (image cons (in_turn r (many go r)) ts)
    (image_known n cons (λ m. InTurn (G m) (Each (G m))) (in_turn r (many go r)) ts (in_turn r (many go r) ts)
    (in_turn_known n G (λ m. Each (G m)) r (many go r) (λ m l. ([], [], refl)) ts (r ts) t u))
many_known_by n go G r h ts t u false e = record {
  front = [];
  parts = refl;
  spelled = λ m l. refl;
  level = refl;
  again = λ s k. many_step go r h s ∙ step_off go r (many go r) s (ap go k ∙ e);
}

-- what reading tells
many_known : {A : Type 0} (n : ℕ) (go : Kinds) (G : ℕ → Grammar A) (r : Reading A) → Shrinks r → ((ts : List Token) → Known n G r ts (r ts)) → (k : ℕ) (ts : List Token) → length ts < k → Known n (λ m. Each (G m)) (many go r) ts (many go r ts)
many_known n go G r h t zero ts l = absurd (omega arith)
many_known n go G r h t (suc k) ts l =
    subst (Known n (λ m. Each (G m)) (many go r) ts) (sym (many_step go r h ts))
    (many_known_by n go G r h ts (t ts) (λ x rest e g. let s : length rest < length ts = unfold Shrinks in h ts x rest e in many_known n go G r h t k rest (omega arith)) (go (kind_of ts)) refl)

-- it begins as the part does
each_starts : {A : Type 0} (first : Kinds) (g : Grammar A) → ((t : Token) (b : List Token) (x : A) → g (t ∷ b) x → IsTrue (first t.kind)) → ((x : A) → g [] x → ⊥) → (t : Token) (b : List Token) (xs : List A) → Each g (t ∷ b) xs → IsTrue (first t.kind)
each_starts first g starts solid t b [] h = cc (h)
each_starts first g starts solid t b (x ∷ xs) h = in_turn_starts first g (Each g) starts solid t b h.0 h.1 x h.2 h.3

-- a conjunction of both
both_are : (v w : Bool) → IsTrue v → IsTrue w → IsTrue (v && w)
both_are true w p q = q
both_are false w p q = cc (p)

-- what ends a repetition stops the part, and does not go on
both_stop : (go stops : Kinds) (k : Kind) → IsTrue (halted go stops k) → IsTrue (both stops (halted go stops) k)
both_stop go stops k h = both_are (stops k) (halted go stops k) (halted_parts (go k) (stops k) h).1 h

-- what is spelled is read
many_only : {A : Type 0} (n d : ℕ) (first stops go : Kinds) (G : ℕ → Grammar A) (r : Reading A) → Laws n d false first stops G r → Within first go → Within first stops
    → (b : List Token) (xs : List A) (s : List Token) → Each (G n) b xs → IsTrue (halted go stops (kind_of s)) → many go r (b ++ s) ≡ Got xs s
many_only n d first stops go G r p w v b [] s g k =
    ap (λ (l : List Token). many go r (l ++ s)) g ∙ many_step go r (shrinks n d first stops G r p) s ∙ step_off go r (many go r) s (halted_parts (go (kind_of s)) (stops (kind_of s)) k).0
many_only n d first stops go G r p w v b (x ∷ xs) s g k =
    let e : (g.0 ++ g.1) ++ s ≡ g.0 ++ (g.1 ++ s) = append_assoc g.0 g.1 s in
    ap (λ (l : List Token). many go r (l ++ s)) g.2 ∙ ap (many go r) e ∙ many_step go r (shrinks n d first stops G r p) (g.0 ++ (g.1 ++ s))
    ∙ step_on go r (many go r) (g.0 ++ (g.1 ++ s)) (goes_on first go (G n) (p.starts n) (no_tokens p n) w g.0 (g.1 ++ s) x g.3)
    ∙ image_got cons (in_turn r (many go r)) (g.0 ++ (g.1 ++ s)) s (x, xs)
    (in_turn_got r (many go r) (g.0 ++ (g.1 ++ s)) (g.1 ++ s) s x xs
    (p.only g.0 x (g.1 ++ s) g.3 (next_stops true stops (halted go stops) first (Each (G n)) (each_starts first (G n) (p.starts n) (no_tokens p n)) (λ y h. refl) v g.1 xs s g.4 (both_stop go stops (kind_of s) k)))
    (many_only n d first stops go G r p w v g.1 xs s g.4 k))

-- the laws of any number of parts
pub many_laws : {A : Type 0} (n d : ℕ) (first stops go : Kinds) (G : ℕ → Grammar A) (r : Reading A) → Laws n d false first stops G r → Within first go → Within first stops → Laws n 0 true first (halted go stops) (λ m. Each (G m)) (many go r)
many_laws n d first stops go G r p w v = record {
  known = λ ts. many_known n go G r (shrinks n d first stops G r p) p.known (suc (length ts)) ts (omega arith);
  only = many_only n d first stops go G r p w v;
  sample = λ m l. ([], [], refl);
  starts = λ m t b x g. each_starts first (G m) (p.starts m) (no_tokens p m) t b x g;
  empties = λ m x g. refl;
}

-- nothing is read where no part may begin
pub many_none : {A : Type 0} (go : Kinds) (r : Reading A) (s : List Token) → go (kind_of s) ≡ false → many go r s ≡ Got [] s
unfolding many_by
many_none go r s e = ap (λ (v : Bool). if v then image cons (in_turn r (many_by go r (length s))) s else Got [] s) e
