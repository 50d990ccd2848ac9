-- What is made of a part keeps its laws, and so does what spells the same.
use Rattle.std.proofs.Common.{◌≡◌, ℕ, ◌≤◌, Bool, List, [], ◌∷◌, ◌++◌, refl, sym, ap, ◌∙◌, arith}
use Rattle.s_syntax.specs.declared.token.Token.{Token}
use Rattle.s_grammar.specs.Grammar.{Grammar, Image}
use Rattle.s_grammar.specs.Kinds.{Kinds, kind_of}
use Rattle.s_grammar.specs.Reading.{Reading, Got, image, Answer, and_then, Why, Refused}
use Rattle.s_grammar.proofs.KindSets.{Within, within}
use Rattle.s_grammar.proofs.ReadingLaws.{Known, Laws, must}
use Rattle.s_grammar.proofs.Walks.{front_kind}

-- what is made of a value that is read
pub image_got : {A B : Type 0} (f : A → B) (r : Reading A) (ts rest : List Token) (x : A) → r ts ≡ Got x rest → image f r ts ≡ Got (f x) rest
image_got f r ts rest x e = ap (λ (o : Answer _). and_then o (λ x rest. Got (f x) rest)) e

-- a refusal stays
pub image_refused : {A B : Type 0} (f : A → B) (r : Reading A) (ts rest : List Token) (w : Why) → r ts ≡ Refused w rest → image f r ts ≡ Refused w rest
image_refused f r ts rest w e = ap (λ (o : Answer _). and_then o (λ x rest. Got (f x) rest)) e

-- what reading tells, of what is made of it
pub image_known : {A B : Type 0} (n : ℕ) (f : A → B) (G : ℕ → Grammar A) (r : Reading A) (ts : List Token) (o : Answer A) → Known n G r ts o → Known n (λ m. Image f (G m)) (image f r) ts (and_then o (λ x rest. Got (f x) rest))
image_known n f G r ts (Got x rest) t = record {
  front = t.front;
  parts = t.parts;
  spelled = λ m l. (x, t.spelled m l, refl);
  level = t.level;
  again = λ s k. image_got f r (t.front ++ s) s x (t.again s k);
}
image_known n f G r ts (Refused w rest) t = record {
  front = t.front;
  parts = t.parts;
  begins = λ m l. let q = t.begins m l in (q.0, f q.1, (q.1, q.2, refl));
  left = t.left;
  level = t.level;
  cause = t.cause;
  again = λ s k. image_refused f r (t.front ++ s) s w (t.again s k);
}

-- the laws of what is made of a part
pub image_laws : {A B : Type 0} (n d : ℕ) (e : Bool) (first stops : Kinds) (f : A → B) (G : ℕ → Grammar A) (r : Reading A) → Laws n d e first stops G r → Laws n d e first stops (λ m. Image f (G m)) (image f r)
image_laws n d e first stops f G r p = record {
  known = λ ts. image_known n f G r ts (r ts) (p.known ts);
  only = λ b y s g k. image_got f r (b ++ s) s g.0 (p.only b g.0 s g.1 k) ∙ ap (λ (v : _). Got v s) g.2;
  sample = λ m l. let q = p.sample m l in (q.0, f q.1, (q.1, q.2, refl));
  starts = λ m t b y g. p.starts m t b g.0 g.1;
  empties = λ m y g. p.empties m g.0 g.1;
}

-- what is told of a grammar holds of one that spells as much, and of a reading that is the same
pub known_as : {A : Type 0} (n : ℕ) (G H : ℕ → Grammar A) (r s : Reading A) (ts : List Token) → ((m : ℕ) (b : List Token) (x : A) → G m b x → H m b x) → ((z : List Token) → kind_of z ≡ kind_of ts → s z ≡ r z)
    → (o : Answer A) → Known n G r ts o → Known n H s ts o
known_as n G H r s ts f same (Got x rest) t = record {
  front = t.front;
  parts = t.parts;
  spelled = λ m l. f m t.front x (t.spelled m l);
  level = t.level;
  again = λ z k. same (t.front ++ z) (front_kind t.front z rest k ∙ ap kind_of (sym t.parts)) ∙ t.again z k;
}
known_as n G H r s ts f same (Refused w rest) t = record {
  front = t.front;
  parts = t.parts;
  begins = λ m l. let q = t.begins m l in (q.0, q.1, f m ((t.front ++ must w rest) ++ q.0) q.1 q.2);
  left = t.left;
  level = t.level;
  cause = t.cause;
  again = λ z k. same (t.front ++ z) (front_kind t.front z rest k ∙ ap kind_of (sym t.parts)) ∙ t.again z k;
}

-- fewer may be demanded
pub wider_laws : {A : Type 0} (n d j : ℕ) (e : Bool) (first stops firsts fewer : Kinds) (G : ℕ → Grammar A) (r : Reading A) → d ≤ j → Within first firsts → Within fewer stops → Laws n d e first stops G r → Laws n j e firsts fewer G r
wider_laws n d j e first stops firsts fewer G r l v w p = record {
  known = p.known;
  only = λ b x s g k. p.only b x s g (within fewer stops w (kind_of s) k);
  sample = λ m k. p.sample m (omega arith);
  starts = λ m t b x g. within first firsts v t.kind (p.starts m t b x g);
  empties = p.empties;
}

-- fewer tokens may follow
pub fewer_laws : {A : Type 0} {n d : ℕ} {e : Bool} {first stops : Kinds} {G : ℕ → Grammar A} {r : Reading A} (fewer : Kinds) → Within fewer stops → Laws n d e first stops G r → Laws n d e first fewer G r
fewer_laws {stops = stops} fewer w p = record {
  known = p.known;
  only = λ b x s g k. p.only b x s g (within fewer stops w (kind_of s) k);
  sample = p.sample;
  starts = p.starts;
  empties = p.empties;
}

-- more brackets may be open where something is to be spelled
pub deeper_laws : {A : Type 0} {n d : ℕ} {e : Bool} {first stops : Kinds} {G : ℕ → Grammar A} {r : Reading A} (j : ℕ) → d ≤ j → Laws n d e first stops G r → Laws n j e first stops G r
deeper_laws j l p = record {
  known = p.known;
  only = p.only;
  sample = λ m k. p.sample m (omega arith);
  starts = p.starts;
  empties = p.empties;
}

-- for a grammar that spells the same
pub laws_as : {A : Type 0} (n d : ℕ) (e : Bool) (first stops : Kinds) (G H : ℕ → Grammar A) (r : Reading A) → ((m : ℕ) (b : List Token) (x : A) → G m b x → H m b x) → ((m : ℕ) (b : List Token) (x : A) → H m b x → G m b x)
    → Laws n d e first stops G r → Laws n d e first stops H r
laws_as n d e first stops G H r f g p = record {
  known = λ ts. known_as n G H r r ts f (λ z k. refl) (r ts) (p.known ts);
  only = λ b x s h. p.only b x s (g n b x h);
  sample = λ m l. let q = p.sample m l in (q.0, q.1, f m ([] ++ q.0) q.1 q.2);
  starts = λ m t b x h. p.starts m t b x (g m (t ∷ b) x h);
  empties = λ m x h. p.empties m x (g m [] x h);
}
