-- Reading from the front of tokens, with the place of a refusal.
use Rattle.std.specs.Prelude.{ℕ, zero, suc, Bool, true, false, List, [], ◌∷◌, length, Option, Some, None, if◌then◌else◌}
use Rattle.s_syntax.specs.declared.token.Kind.{Kind}
use Rattle.s_syntax.specs.declared.token.Token.{Token}
use Rattle.s_grammar.specs.Kinds.{Kinds, kind_of, is}

-- why reading stops: the token fits nothing that could stand there, or it opens one bracket too many
pub data Why : Type 0 where
  Wrong : Why
  TooDeep : Why

-- A value, and the tokens behind it; or a refusal, with the tokens from the one refused on.
pub data Answer (A : Type 0) : Type 0 where
  Got : A → List Token → Answer A
  Refused : Why → List Token → Answer A

abbrev pub Reading : Type 0 → Type 0
Reading A = List Token → Answer A

abbrev pub and_then : {A B : Type 0} → Answer A → (A → Reading B) → Answer B
and_then (Got x rest) k = k x rest
and_then (Refused w rest) k = Refused w rest

-- one token of these kinds
abbrev pub one : {A : Type 0} → Kinds → (Token → A) → Reading A
one ks f [] = Refused Wrong []
one ks f (t ∷ ts) = if ks t.kind then Got (f t) ts else Refused Wrong (t ∷ ts)

-- one, and then the other
abbrev pub in_turn : {A B : Type 0} → Reading A → Reading B → Reading (A × B)
in_turn r s ts = and_then (r ts) (λ x rest. and_then (s rest) (λ y more. Got (x, y) more))

-- f of what is read
abbrev pub image : {A B : Type 0} → (A → B) → Reading A → Reading B
image f r ts = and_then (r ts) (λ x rest. Got (f x) rest)

-- r where the next token is of these kinds, and nothing otherwise
abbrev pub maybe : {A : Type 0} → Kinds → Reading A → Reading (Option A)
maybe go r ts = if go (kind_of ts) then image (λ x. Some x) r ts else Got None ts

abbrev pub cons : {A : Type 0} → A × List A → List A
cons p = p.0 ∷ p.1

-- r while the next token is of these kinds, at most so many times; a list of tokens has no more items than tokens
unfoldable pub many_by : {A : Type 0} → Kinds → Reading A → ℕ → Reading (List A)
many_by go r zero ts = Got [] ts
many_by go r (suc k) ts = if go (kind_of ts) then image cons (in_turn r (many_by go r k)) ts else Got [] ts

abbrev pub many : {A : Type 0} → Kinds → Reading A → Reading (List A)
many go r ts = many_by go r (suc (length ts)) ts

-- the first token decides
abbrev pub choice : {A : Type 0} → (Kind → Reading A) → Reading A
choice r ts = r (kind_of ts) ts

-- Between two brackets of these kinds; r is `None` where no more brackets may be opened.

abbrev pub closed : {A : Type 0} → Kind → A → Reading A
closed c x ts = image (λ _. x) (one (is c) (λ t. t)) ts

abbrev pub behind : {A : Type 0} → Kind → Option (Reading A) → List Token → Reading A
behind c None all ts = Refused TooDeep all
behind c (Some r) all ts = and_then (r ts) (closed c)

abbrev pub opened : {A : Type 0} → Bool → Kind → Option (Reading A) → List Token → Reading A
opened true c r all ts = behind c r all ts
opened false c r all ts = Refused Wrong all

abbrev pub between : {A : Type 0} → Kind → Kind → Option (Reading A) → Reading A
between o c r [] = Refused Wrong []
between o c r (t ∷ ts) = opened (is o t.kind) c r (t ∷ ts) ts

-- r, where one more bracket may be opened
abbrev pub inside : {A : Type 0} → (ℕ → Reading A) → ℕ → Option (Reading A)
inside r zero = None
inside r (suc n) = Some (r n)
