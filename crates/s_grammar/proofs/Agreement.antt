-- Readings that may open more brackets agree with those that may open fewer, where these find no bracket too many.
use Rattle.std.proofs.Common.{◌≡◌, ℕ, zero, suc, Bool, true, false, if◌then◌else◌, ◌⊎◌, inl, inr, List, [], ◌∷◌, length, Option, Some, None, refl, ap, ◌∙◌}
use Rattle.s_syntax.specs.declared.token.Kind.{Kind}
use Rattle.s_syntax.specs.declared.token.Token.{Token}
use Rattle.s_grammar.specs.Kinds.{Kinds, kind_of, is}
use Rattle.s_grammar.specs.Reading.{Answer, Reading, and_then, Got, Refused, Wrong, TooDeep, image, in_turn, maybe, many_by, cons, many, choice, behind, closed, opened, between}
use Rattle.s_grammar.proofs.ReadingLaws.{IsDeep, Agree}

-- what stays: deep, or the same
or_same : {A : Type 0} {P : Type 0} (a b c : A) → P ⊎ (a ≡ b) → b ≡ c → P ⊎ (a ≡ c)
or_same a b c (inl p) e = inl p
or_same a b c (inr q) e = inr (q ∙ e)

-- one reading behind another agrees where both parts do
agree_then : {A B : Type 0} (a b : Answer A) (k l : A → Reading B) → IsDeep a ⊎ (a ≡ b) → ((x : A) (rest : List Token) → IsDeep (k x rest) ⊎ (k x rest ≡ l x rest)) → IsDeep (and_then a k) ⊎ (and_then a k ≡ and_then b l)
agree_then (Got x rest) b k l (inl d) h = absurd d
agree_then (Got x rest) b k l (inr e) h = or_same (k x rest) (l x rest) (and_then b l) (h x rest) (ap (λ (a : Answer _). and_then a l) e)
agree_then (Refused Wrong rest) b k l (inl d) h = absurd d
agree_then (Refused Wrong rest) b k l (inr e) h = inr (ap (λ (a : Answer _). and_then a l) e)
agree_then (Refused TooDeep rest) b k l p h = inl tt

-- a test chooses among readings that agree
pub agree_cond : {A : Type 0} (v : Bool) (a b c d : Answer A) → IsDeep a ⊎ (a ≡ b) → IsDeep c ⊎ (c ≡ d) → IsDeep (if v then a else c) ⊎ ((if v then a else c) ≡ (if v then b else d))
agree_cond true a b c d p q = p
agree_cond false a b c d p q = q

-- a reading agrees with itself
pub agree_same : {A : Type 0} (r : Reading A) → Agree r r
agree_same r ts = inr refl

-- what is made of readings that agree
pub agree_image : {A B : Type 0} (f : A → B) (r s : Reading A) → Agree r s → Agree (image f r) (image f s)
agree_image f r s h ts = agree_then (r ts) (s ts) (λ x rest. Got (f x) rest) (λ x rest. Got (f x) rest) (h ts) (λ x rest. inr refl)

-- one behind another
pub agree_in_turn : {A B : Type 0} (r r' : Reading A) (s s' : Reading B) → Agree r r' → Agree s s' → Agree (in_turn r s) (in_turn r' s')
agree_in_turn r r' s s' h k ts =
    agree_then (r ts) (r' ts) (λ x rest. and_then (s rest) (λ y more. Got (x, y) more)) (λ x rest. and_then (s' rest) (λ y more. Got (x, y) more)) (h ts)
    (λ x rest. agree_then (s rest) (s' rest) (λ y more. Got (x, y) more) (λ y more. Got (x, y) more) (k rest) (λ y more. inr refl))

-- a part or nothing
pub agree_maybe : {A : Type 0} (go : Kinds) (r s : Reading A) → Agree r s → Agree (maybe go r) (maybe go s)
agree_maybe go r s h ts = agree_cond (go (kind_of ts)) (image (λ x. Some x) r ts) (image (λ x. Some x) s ts) (Got None ts) (Got None ts) (agree_image (λ x. Some x) r s h ts) (inr refl)

-- so many parts at most
agree_many_by : {A : Type 0} (go : Kinds) (r s : Reading A) → Agree r s → (k : ℕ) → Agree (many_by go r k) (many_by go s k)
unfolding many_by
agree_many_by go r s h zero ts = inr refl
agree_many_by go r s h (suc k) ts =
    agree_cond (go (kind_of ts)) (image cons (in_turn r (many_by go r k)) ts) (image cons (in_turn s (many_by go s k)) ts) (Got [] ts) (Got [] ts)
    (agree_image cons (in_turn r (many_by go r k)) (in_turn s (many_by go s k)) (agree_in_turn r s (many_by go r k) (many_by go s k) h (agree_many_by go r s h k)) ts) (inr refl)

-- any number of parts
pub agree_many : {A : Type 0} (go : Kinds) (r s : Reading A) → Agree r s → Agree (many go r) (many go s)
agree_many go r s h ts = agree_many_by go r s h (suc (length ts)) ts

-- a choice by the first token
pub agree_choice : {A : Type 0} (r s : Kind → Reading A) → ((k : Kind) → Agree (r k) (s k)) → Agree (choice r) (choice s)
agree_choice r s h ts = h (kind_of ts) ts

-- what stands in brackets agrees; where no bracket may be opened, anything does
abbrev pub AgreeInside : {A : Type 0} → Option (Reading A) → Option (Reading A) → Type 0
AgreeInside None o = Unit {0}
AgreeInside (Some r) None = ⊥
AgreeInside (Some r) (Some s) = Agree r s

-- behind the bracket that opens
agree_behind : {A : Type 0} (c : Kind) (r s : Option (Reading A)) → AgreeInside r s → (all ts : List Token) → IsDeep (behind c r all ts) ⊎ (behind c r all ts ≡ behind c s all ts)
agree_behind c None s h all ts = inl tt
agree_behind c (Some r) None h all ts = absurd h
agree_behind c (Some r) (Some s) h all ts = agree_then (r ts) (s ts) (closed c) (closed c) (h ts) (λ x rest. inr refl)

-- by whether a bracket opens
agree_opened : {A : Type 0} (v : Bool) (c : Kind) (r s : Option (Reading A)) → AgreeInside r s → (all ts : List Token) → IsDeep (opened v c r all ts) ⊎ (opened v c r all ts ≡ opened v c s all ts)
agree_opened true c r s h all ts = agree_behind c r s h all ts
agree_opened false c r s h all ts = inr refl

-- between brackets
pub agree_between : {A : Type 0} (o c : Kind) (r s : Option (Reading A)) → AgreeInside r s → Agree (between o c r) (between o c s)
agree_between o c r s h [] = inr refl
agree_between o c r s h (t ∷ ts) = agree_opened (is o t.kind) c r s h (t ∷ ts) ts
