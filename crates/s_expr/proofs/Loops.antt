-- A loop over items, and reading by the repetition that it stands for.
use Rattle.std.proofs.Common.{◌≡◌, ℕ, ◌<◌, ◌≤◌, true, false, List, [], ◌∷◌, ◌++◌, length, drop, refl, sym, ap, ◌∙◌, append_assoc, arith, length-drop}
use Rattle.s_syntax.specs.declared.token.Token.{Token}
use Rattle.s_grammar.specs.Kinds.{Kinds, kind_of}
use Rattle.s_grammar.specs.Reading.{Answer, and_then, Got, Reading, many, Refused, cons, Why, in_turn}
use Rattle.s_grammar.proofs.Images.{image_refused}
use Rattle.s_grammar.proofs.InTurn.{in_turn_first}
use Rattle.s_grammar.proofs.Repetitions.{Shrinks, many_step, step_on, many_none}

-- the items so far, and what the tokens from the place on give
abbrev pub with_items : {A : Type 0} → List A → Answer (List A) → Answer (List A)
with_items xs o = and_then o (λ ys more. Got (xs ++ ys) more)

-- the items so far, and the place behind them
pub record Ahead {A : Type 0} (go : Kinds) (r : Reading A) (ts : List Token) (start : ℕ) (xs : List A) (at : ℕ) : Type 0 where
  pub gives : with_items xs (many go r (drop at ts)) ≡ many go r (drop start ts)
  pub fits : at ≤ length ts

-- no items in front change nothing
with_none : {A : Type 0} (o : Answer (List A)) → with_items [] o ≡ o
with_none (Got x rest) = refl
with_none (Refused w rest) = refl

-- no items yet
pub loop_begins : {A : Type 0} (go : Kinds) (r : Reading A) (ts : List Token) (start : ℕ) → start ≤ length ts → Ahead go r ts start [] start
loop_begins go r ts start h = record { gives = with_none (many go r (drop start ts)); fits = h }

-- one item more in front
with_more : {A : Type 0} (xs : List A) (x : A) (o : Answer (List A)) → with_items (xs ++ x ∷ []) o ≡ with_items xs (and_then o (λ ys more. Got (x ∷ ys) more))
with_more xs x (Got ys rest) = ap (λ (l : List _). Got l rest) (append_assoc xs (x ∷ []) ys)
with_more xs x (Refused w rest) = refl

-- an item in front of others
consed : {A : Type 0} (x : A) (o : Answer (List A)) → and_then (and_then {B = A × List A} o (λ y more. Got (x, y) more)) (λ p rest. Got (cons p) rest) ≡ and_then o (λ ys more. Got (x ∷ ys) more)
consed x (Got ys rest) = refl
consed x (Refused w rest) = refl

-- a repetition that goes on
many_on : {A : Type 0} (go : Kinds) (r : Reading A) → Shrinks r → (ts rest : List Token) (x : A) → go (kind_of ts) ≡ true → r ts ≡ Got x rest → many go r ts ≡ and_then (many go r rest) (λ ys more. Got (x ∷ ys) more)
many_on go r h ts rest x g e =
    many_step go r h ts ∙ step_on go r (many go r) ts g ∙ ap (λ (o : Answer _). and_then (and_then o (λ x rest. and_then (many go r rest) (λ y more. Got (x, y) more))) (λ p rest. Got (cons p) rest)) e ∙ consed x (many go r rest)

-- one item more
pub loop_goes_on : {A : Type 0} (go : Kinds) (r : Reading A) → Shrinks r → (ts : List Token) (start : ℕ) (xs : List A) (at : ℕ) → Ahead go r ts start xs at → go (kind_of (drop at ts)) ≡ true
    → (x : A) (next : ℕ) → r (drop at ts) ≡ Got x (drop next ts) → next ≤ length ts → Ahead go r ts start (xs ++ x ∷ []) next
loop_goes_on go r h ts start xs at a g x next e l = record {
  gives = with_more xs x (many go r (drop next ts)) ∙ ap (with_items xs) (sym (many_on go r h (drop at ts) (drop next ts) x g e)) ∙ a.gives;
  fits = l;
}

-- nothing behind a list
append_nothing : {A : Type 0} (xs : List A) → xs ++ [] ≡ xs
append_nothing [] = refl
append_nothing (x ∷ xs) = ap (λ (l : List _). x ∷ l) (append_nothing xs)

-- the items are all
pub loop_ends : {A : Type 0} (go : Kinds) (r : Reading A) (ts : List Token) (start : ℕ) (xs : List A) (at : ℕ) → Ahead go r ts start xs at → go (kind_of (drop at ts)) ≡ false → many go r (drop start ts) ≡ Got xs (drop at ts)
loop_ends go r ts start xs at a g = sym a.gives ∙ ap (with_items xs) (many_none go r (drop at ts) g) ∙ ap (λ (l : List _). Got l (drop at ts)) (append_nothing xs)

-- a refusal of an item
pub loop_stops : {A : Type 0} (go : Kinds) (r : Reading A) → Shrinks r → (ts : List Token) (start : ℕ) (xs : List A) (at : ℕ) → Ahead go r ts start xs at → go (kind_of (drop at ts)) ≡ true
    → (w : Why) (rest : List Token) → r (drop at ts) ≡ Refused w rest → many go r (drop start ts) ≡ Refused w rest
loop_stops go r h ts start xs at a g w rest e =
    sym a.gives ∙ ap (with_items xs) (many_step go r h (drop at ts) ∙ step_on go r (many go r) (drop at ts) g ∙ image_refused cons (in_turn r (many go r)) (drop at ts) rest w (in_turn_first r (many go r) (drop at ts) rest w e))

-- an item takes a token
pub further : {A : Type 0} (r : Reading A) → Shrinks r → (ts : List Token) (at next : ℕ) (x : A) → r (drop at ts) ≡ Got x (drop next ts) → at ≤ length ts → next ≤ length ts → at < next
further r h ts at next x e k l =
    let s : length (drop next ts) < length (drop at ts) = unfold Shrinks in h (drop at ts) x (drop next ts) e in
    omega (arith, s, length-drop at ts, length-drop next ts)

-- items as they are seen
abbrev pub viewed : {X A : Type 0} → (X → A) → List X → List A
viewed f [] = []
viewed f (x ∷ xs) = f x ∷ viewed f xs

-- one item more, seen
pub viewed_more : {X A : Type 0} (f : X → A) (xs : List X) (x : X) → viewed f (xs ++ x ∷ []) ≡ viewed f xs ++ f x ∷ []
viewed_more f [] x = refl
viewed_more f (y ∷ xs) x = ap (λ (l : List _). f y ∷ l) (viewed_more f xs x)
