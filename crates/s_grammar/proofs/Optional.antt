-- A part or nothing keeps the laws.
use Rattle.std.proofs.Common.{◌≡◌, ℕ, Bool, true, false, if◌then◌else◌, List, [], ◌∷◌, ◌++◌, Option, Some, None, refl, ap, subst, ◌∙◌}
use Rattle.std.specs.Prelude.{IsTrue}
use Rattle.s_syntax.specs.declared.token.Token.{Token}
use Rattle.s_grammar.specs.Grammar.{Grammar, Maybe, Image}
use Rattle.s_grammar.specs.Kinds.{Kinds, kind_of}
use Rattle.s_grammar.specs.Reading.{Reading, maybe, Got, image}
use Rattle.s_grammar.proofs.Images.{known_as, image_known, image_got}
use Rattle.s_grammar.proofs.InTurn.{no_tokens}
use Rattle.s_grammar.proofs.KindSets.{Within, within}
use Rattle.s_grammar.proofs.ReadingLaws.{Known, Laws}

-- nothing is read where the part may not begin
pub maybe_nothing : {A : Type 0} (go : Kinds) (r : Reading A) (s : List Token) → go (kind_of s) ≡ false → maybe go r s ≡ Got None s
maybe_nothing go r s e = ap (λ (v : Bool). if v then image (λ x. Some x) r s else Got None s) e

-- and the part where it may
maybe_one : {A : Type 0} (go : Kinds) (r : Reading A) (s : List Token) → go (kind_of s) ≡ true → maybe go r s ≡ image (λ x. Some x) r s
maybe_one go r s e = ap (λ (v : Bool). if v then image (λ x. Some x) r s else Got None s) e

-- what is told by whether it may
maybe_known : {A : Type 0} (n : ℕ) (go : Kinds) (G : ℕ → Grammar A) (r : Reading A) (ts : List Token) → Known n G r ts (r ts) → (v : Bool) → go (kind_of ts) ≡ v
    → Known n (λ m. Maybe (G m)) (maybe go r) ts (if v then image (λ x. Some x) r ts else Got None ts)
maybe_known n go G r ts t true e =
    known_as n (λ m. Image (λ x. Some x) (G m)) (λ m. Maybe (G m)) (image (λ x. Some x) r) (maybe go r) ts
    (λ m b x g. subst (Maybe (G m) b) g.2 g.1) (λ z k. maybe_one go r z (ap go k ∙ e)) (image (λ x. Some x) r ts) (image_known n (λ x. Some x) G r ts (r ts) t)
maybe_known n go G r ts t false e = record {
  front = [];
  parts = refl;
  spelled = λ m l. refl;
  level = refl;
  again = λ s k. maybe_nothing go r s (ap go k ∙ e);
}

-- what stops a repetition or an option: no token that goes on, and what stops the part
abbrev pub halted : Kinds → Kinds → Kinds
halted go stops k = if go k then false else stops k

-- such a token does not go on, and stops the part
pub halted_parts : (v w : Bool) → IsTrue (if v then false else w) → (v ≡ false) × IsTrue w
halted_parts true w h = absurd cc
halted_parts false w h = (refl, h)

-- a part goes on with its first token
pub goes_on : {A : Type 0} (first go : Kinds) (g : Grammar A) → ((t : Token) (b : List Token) (x : A) → g (t ∷ b) x → IsTrue (first t.kind)) → ((x : A) → g [] x → ⊥) → Within first go
    → (b s : List Token) (x : A) → g b x → IsTrue (go (kind_of (b ++ s)))
goes_on first go g starts solid w [] s x h = absurd (solid x h)
goes_on first go g starts solid w (t ∷ b) s x h = within first go w t.kind (starts t b x h)

-- what is spelled is read
maybe_only : {A : Type 0} (n d : ℕ) (first stops go : Kinds) (G : ℕ → Grammar A) (r : Reading A) → Laws n d false first stops G r → Within first go
    → (b : List Token) (x : Option A) (s : List Token) → Maybe (G n) b x → IsTrue (halted go stops (kind_of s)) → maybe go r (b ++ s) ≡ Got x s
maybe_only n d first stops go G r p w b None s g k = ap (λ (l : List Token). maybe go r (l ++ s)) g ∙ maybe_nothing go r s (halted_parts (go (kind_of s)) (stops (kind_of s)) k).0
maybe_only n d first stops go G r p w b (Some x) s g k =
    maybe_one go r (b ++ s) (goes_on first go (G n) (p.starts n) (no_tokens p n) w b s x g) ∙ image_got (λ x. Some x) r (b ++ s) s x (p.only b x s g (halted_parts (go (kind_of s)) (stops (kind_of s)) k).1)

-- it begins as the part does
maybe_starts : {A : Type 0} (first : Kinds) (g : Grammar A) → ((t : Token) (b : List Token) (x : A) → g (t ∷ b) x → IsTrue (first t.kind)) → (t : Token) (b : List Token) (x : Option A) → Maybe g (t ∷ b) x → IsTrue (first t.kind)
maybe_starts first g starts t b None h = cc (h)
maybe_starts first g starts t b (Some x) h = starts t b x h

-- the laws of a part or nothing
pub maybe_laws : {A : Type 0} (n d : ℕ) (first stops go : Kinds) (G : ℕ → Grammar A) (r : Reading A) → Laws n d false first stops G r → Within first go → Laws n 0 true first (halted go stops) (λ m. Maybe (G m)) (maybe go r)
maybe_laws n d first stops go G r p w = record {
  known = λ ts. maybe_known n go G r ts (p.known ts) (go (kind_of ts)) refl;
  only = maybe_only n d first stops go G r p w;
  sample = λ m l. ([], None, refl);
  starts = λ m t b x g. maybe_starts first (G m) (p.starts m) t b x g;
  empties = λ m x g. refl;
}
