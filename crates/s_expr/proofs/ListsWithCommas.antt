-- Reading a list with commas between, step by step.
use Rattle.std.proofs.Common.{◌≡◌, ℕ, ◌≤◌, Bool, true, false, not, if◌then◌else◌, List, [], ◌∷◌, ◌++◌, length, drop, Some, None, refl, sym, ap, ◌∙◌}
use Rattle.s_syntax.specs.declared.token.Kind.TheVariants as kind
use Rattle.s_syntax.specs.declared.token.Token.{Token}
use Rattle.s_grammar.specs.Kinds.{is, kind_of, Kinds, other_than}
use Rattle.s_grammar.specs.Parts.{or_nothing}
use Rattle.s_grammar.specs.Reading.{Reading, Got, maybe, image, cons, in_turn, many, Answer, and_then, Why, Refused}
use Rattle.s_grammar.specs.Reads.{led, listed}
use Rattle.s_grammar.proofs.Images.{image_got}
use Rattle.s_grammar.proofs.InTurn.{in_turn_first, in_turn_second, in_turn_got}
use Rattle.s_grammar.proofs.Optional.{maybe_nothing}
use Rattle.s_grammar.proofs.Repetitions.{Shrinks}
use Rattle.s_expr.proofs.Loops.{Ahead, loop_stops, loop_ends, loop_begins, loop_goes_on}

-- the first was read, and what stands behind commas so far
pub record ListedAhead {A : Type 0} (r : Reading A) (ts : List Token) (start : ℕ) (xs : List A) (at : ℕ) : Type 0 where
  pub first : A
  pub others : List A
  pub after : ℕ
  pub items : xs ≡ first ∷ others
  pub first_read : r (drop start ts) ≡ Got first (drop after ts)
  pub more_to_come : is kind.CloseParenthesis (kind_of (drop start ts)) ≡ false
  pub ahead : Ahead (is kind.Comma) (led kind.Comma r) ts after others at

-- what is not so is so negated
pub negated : (v : Bool) → v ≡ false → not v ≡ true
negated true h = absurd cc
negated false h = refl

-- and the other way round
pub turned : (v : Bool) → v ≡ true → not v ≡ false
turned true h = refl
turned false h = absurd cc

-- a part that may begin is read
some_of : {A : Type 0} (go : Kinds) (r : Reading A) (ts : List Token) → go (kind_of ts) ≡ true → maybe go r ts ≡ image (λ x. Some x) r ts
some_of go r ts h = ap (λ (v : Bool). if v then image (λ x. Some x) r ts else Got None ts) h

-- the parenthesis ends an empty list
pub listed_empty : {A : Type 0} (r : Reading A) (ts : List Token) → is kind.CloseParenthesis (kind_of ts) ≡ true → listed r ts ≡ Got [] ts
unfolding listed
listed_empty r ts h = image_got or_nothing (maybe (other_than (is kind.CloseParenthesis)) (image cons (in_turn r (many (is kind.Comma) (led kind.Comma r))))) ts ts None (maybe_nothing (other_than (is kind.CloseParenthesis)) (image cons (in_turn r (many (is kind.Comma) (led kind.Comma r)))) ts (turned (is kind.CloseParenthesis (kind_of ts)) h))

-- otherwise an item stands there
listed_some : {A : Type 0} (r : Reading A) (ts : List Token) → is kind.CloseParenthesis (kind_of ts) ≡ false → listed r ts ≡ image or_nothing (image (λ x. Some x) (image cons (in_turn r (many (is kind.Comma) (led kind.Comma r))))) ts
unfolding listed
listed_some r ts h = ap (λ (o : Answer _). and_then o (λ x rest. Got (or_nothing x) rest)) (some_of (other_than (is kind.CloseParenthesis)) (image cons (in_turn r (many (is kind.Comma) (led kind.Comma r)))) ts (negated (is kind.CloseParenthesis (kind_of ts)) h))

-- a refusal of the first item
pub listed_first : {A : Type 0} (r : Reading A) (ts rest : List Token) (w : Why) → is kind.CloseParenthesis (kind_of ts) ≡ false → r ts ≡ Refused w rest → listed r ts ≡ Refused w rest
listed_first r ts rest w h e =
    let q = in_turn_first r (many (is kind.Comma) (led kind.Comma r)) ts rest w e in
    listed_some r ts h ∙ ap (λ (o : Answer _). and_then (and_then (and_then o (λ x rest. Got (cons x) rest)) (λ x rest. Got (Some x) rest)) (λ x rest. Got (or_nothing x) rest)) q

-- a refusal behind a comma
pub listed_stops : {A : Type 0} (r : Reading A) → Shrinks (led kind.Comma r) → (ts : List Token) (start : ℕ) (xs : List A) (at : ℕ) → ListedAhead r ts start xs at → is kind.Comma (kind_of (drop at ts)) ≡ true
    → (w : Why) (rest : List Token) → led kind.Comma r (drop at ts) ≡ Refused w rest → listed r (drop start ts) ≡ Refused w rest
listed_stops r h ts start xs at a g w rest e =
    let p = loop_stops (is kind.Comma) (led kind.Comma r) h ts a.after a.others at a.ahead g w rest e in
    let q = in_turn_second r (many (is kind.Comma) (led kind.Comma r)) (drop start ts) (drop a.after ts) rest a.first w a.first_read p in
    listed_some r (drop start ts) a.more_to_come ∙ ap (λ (o : Answer _). and_then (and_then (and_then o (λ x rest. Got (cons x) rest)) (λ x rest. Got (Some x) rest)) (λ x rest. Got (or_nothing x) rest)) q

-- the list ends where no comma follows
pub listed_got : {A : Type 0} (r : Reading A) (ts : List Token) (start : ℕ) (xs : List A) (at : ℕ) → ListedAhead r ts start xs at → is kind.Comma (kind_of (drop at ts)) ≡ false → listed r (drop start ts) ≡ Got xs (drop at ts)
listed_got r ts start xs at a g =
    let p = loop_ends (is kind.Comma) (led kind.Comma r) ts a.after a.others at a.ahead g in
    let q = in_turn_got r (many (is kind.Comma) (led kind.Comma r)) (drop start ts) (drop a.after ts) (drop at ts) a.first a.others a.first_read p in
    listed_some r (drop start ts) a.more_to_come ∙ ap (λ (o : Answer _). and_then (and_then (and_then o (λ x rest. Got (cons x) rest)) (λ x rest. Got (Some x) rest)) (λ x rest. Got (or_nothing x) rest)) q
    ∙ ap (λ (l : List _). Got l (drop at ts)) (sym a.items)

-- the first item is read
pub listed_starts : {A : Type 0} (r : Reading A) (ts : List Token) (start : ℕ) (xs : List A) (x : A) (at : ℕ) → is kind.CloseParenthesis (kind_of (drop start ts)) ≡ false → r (drop start ts) ≡ Got x (drop at ts) → at ≤ length ts → xs ≡ x ∷ [] → ListedAhead r ts start xs at
listed_starts r ts start xs x at h e l i = record {
  first = x;
  others = [];
  after = at;
  items = i;
  first_read = e;
  more_to_come = h;
  ahead = loop_begins (is kind.Comma) (led kind.Comma r) ts at l;
}

-- one more is read
pub listed_goes_on : {A : Type 0} (r : Reading A) → Shrinks (led kind.Comma r) → (ts : List Token) (start : ℕ) (xs : List A) (at : ℕ) → ListedAhead r ts start xs at → is kind.Comma (kind_of (drop at ts)) ≡ true
    → (x : A) (next : ℕ) → led kind.Comma r (drop at ts) ≡ Got x (drop next ts) → next ≤ length ts → (ys : List A) → ys ≡ xs ++ x ∷ [] → ListedAhead r ts start ys next
listed_goes_on r h ts start xs at a g x next e l ys i = record {
  first = a.first;
  others = a.others ++ x ∷ [];
  after = a.after;
  items = i ∙ ap (λ (l : List _). l ++ x ∷ []) a.items;
  first_read = a.first_read;
  more_to_come = a.more_to_come;
  ahead = loop_goes_on (is kind.Comma) (led kind.Comma r) h ts a.after a.others at a.ahead g x next e l;
}
