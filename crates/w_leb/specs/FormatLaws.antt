-- Each combination is read exactly, where its parts are.
use Rattle.std.proofs.Common.{◌≡◌, ℕ, zero, suc, Bool, true, false, cond, List, [], ◌∷◌, ◌++◌, length, Option, Some, None, refl, sym, ap, subst, ◌∙◌, append_assoc, arith}
use Rattle.std.specs.Prelude.{IsTrue, nat_eq}
use Rattle.std.proofs.lemmas.Option.{some_pair_parts}
use Rattle.std.proofs.lemmas.List.{append-nil}
use Rattle.w_leb.specs.Format.{Grammar, Reading, IsExact, Format, then, NoBytes, no_bytes, OneByte, byte, InTurn, in_turn, Image, image, Such, such, Chosen, chosen, ByFirst, by_first, Picked, picked, ByNumber, by_number, Each, many, Decoded, within, IsSolid, IsDecided, Counted, counted, whole, with_rest, Never, never}

pub then_some : {A B : Type 0} (o : Option (A × List ℕ)) (k : A → Reading B) (y : B) (rest : List ℕ) → then o k ≡ Some (y, rest) → (x : A) × (r : List ℕ) × (o ≡ Some (x, r)) × (k x r ≡ Some (y, rest))
then_some None k y rest e = absurd cc
then_some (Some p) k y rest e = (p.0, p.1, refl, e)

pub some_parts : {A : Type 0} (x y : A) (r s : List ℕ) → ◌≡◌ {A = Option (A × List ℕ)} (Some (x, r)) (Some (y, s)) → (x ≡ y) × (r ≡ s)
some_parts x y r s e = some_pair_parts x y r s e

pub joined : (bytes a b after more rest : List ℕ) → bytes ≡ a ++ after → after ≡ b ++ more → more ≡ rest → bytes ≡ (a ++ b) ++ rest
joined bytes a b after more rest p q r = p ∙ ap (λ (t : List ℕ). a ++ t) (q ∙ ap (λ (t : List ℕ). b ++ t) r) ∙ sym (append_assoc a b rest)

byte_sound : (bytes : List ℕ) (k : ℕ) (rest : List ℕ) → byte bytes ≡ Some (k, rest) → (b : List ℕ) × (bytes ≡ b ++ rest) × OneByte b k
byte_sound [] k rest e = absurd cc
byte_sound (j ∷ bytes) k rest e = let d = some_parts j k bytes rest e in (j ∷ [], ap (λ (l : List ℕ). j ∷ l) d.1, ap (λ (i : ℕ). i ∷ []) d.0)

pub no_bytes_exact : {A : Type 0} (v : A) → IsExact (NoBytes v) (no_bytes v)
no_bytes_exact v = record {
  sound = λ bytes x rest e. let d = some_parts v x bytes rest e in ([], d.1, (refl, sym d.0));
  complete = λ b x rest h. rw (h.0, h.1) refl;
}

pub byte_exact : IsExact OneByte byte
byte_exact = record { sound = byte_sound; complete = λ b k rest h. rw h refl }

pub in_turn_exact : {A B : Type 0} (g : Grammar A) (r : Reading A) (h : A → Grammar B) (s : A → Reading B) → IsExact g r → ((x : A) → IsExact (h x) (s x)) → IsExact (InTurn g h) (in_turn r s)
in_turn_exact g r h s p q = record {
  sound = λ bytes x rest e.
      let a = then_some (r bytes) (λ x rest. then (s x rest) (λ y more. Some ((x, y), more))) x rest e in
      let b = then_some (s a.0 a.1) (λ y more. Some ((a.0, y), more)) x rest a.3 in
      let c = p.sound bytes a.0 a.1 a.2 in
      let d = (q a.0).sound a.1 b.0 b.1 b.2 in
      let f = some_parts (a.0, b.0) x b.1 rest b.3 in
      (c.0 ++ d.0, joined bytes c.0 d.0 a.1 b.1 rest c.1 d.1 f.1, subst (InTurn g h (c.0 ++ d.0)) f.0 (c.0, d.0, refl {a = c.0 ++ d.0}, c.2, d.2));
  complete = λ b x rest t.
      let first : r (b ++ rest) ≡ Some (x.0, t.1 ++ rest) = ap r (ap (λ (l : List ℕ). l ++ rest) t.2 ∙ append_assoc t.0 t.1 rest) ∙ p.complete t.0 x.0 (t.1 ++ rest) t.3 in
      let second : s x.0 (t.1 ++ rest) ≡ Some (x.1, rest) = (q x.0).complete t.1 x.1 rest t.4 in
      rw (first, second) refl;
}

pub image_exact : {A B : Type 0} (f : A → B) (g : Grammar A) (r : Reading A) → IsExact g r → IsExact (Image f g) (image f r)
image_exact f g r p = record {
  sound = λ bytes y rest e.
      let a = then_some (r bytes) (λ x rest. Some (f x, rest)) y rest e in
      let c = p.sound bytes a.0 a.1 a.2 in
      let d = some_parts (f a.0) y a.1 rest a.3 in
      (c.0, c.1 ∙ ap (λ (t : List ℕ). c.0 ++ t) d.1, (a.0, c.2, d.0));
  complete = λ b y rest t. rw (p.complete b t.0 rest t.1, t.2) refl;
}

test_some : {A : Type 0} (b : Bool) (x y : A) (r s : List ℕ) → ◌≡◌ {A = Option (A × List ℕ)} (cond b (Some (x, r)) None) (Some (y, s)) → IsTrue b × (x ≡ y) × (r ≡ s)
test_some true x y r s e = let d = some_parts x y r s e in (refl, d.0, d.1)
test_some false x y r s e = absurd cc

pub such_exact : {A : Type 0} (t : A → Bool) (g : Grammar A) (r : Reading A) → IsExact g r → IsExact (Such t g) (such t r)
such_exact t g r p = record {
  sound = λ bytes y rest e.
      let a = then_some (r bytes) (λ x rest. cond (t x) (Some (x, rest)) None) y rest e in
      let c = p.sound bytes a.0 a.1 a.2 in
      let d = test_some (t a.0) a.0 y a.1 rest a.3 in
      (c.0, c.1 ∙ ap (λ (u : List ℕ). c.0 ++ u) d.2, (subst (g c.0) d.1 c.2, subst (λ (v : _). IsTrue (t v)) d.1 d.0));
  complete = λ b y rest h. rw (p.complete b y rest h.0) (rw h.1 refl);
}

pub each_nil : {A : Type 0} (g : Grammar A) → Each g [] []
unfolding Each
each_nil g = refl

pub each_cons : {A : Type 0} (g : Grammar A) (a c : List ℕ) (x : A) (xs : List A) → g a x → Each g c xs → Each g (a ++ c) (x ∷ xs)
unfolding Each
each_cons g a c x xs h t = (a, c, refl, h, t)

many_sound : {A : Type 0} (g : Grammar A) (r : Reading A) → IsExact g r → (n : ℕ) (bytes : List ℕ) (xs : List A) (rest : List ℕ) → many r n bytes ≡ Some (xs, rest) → (b : List ℕ) × (bytes ≡ b ++ rest) × (Each g b xs × (length xs ≡ n))
unfolding many
many_sound g r p zero bytes xs rest e =
    let d = some_parts [] xs bytes rest e in
    ([], d.1, subst (λ (v : List _). Each g [] v × (length v ≡ 0)) d.0 (each_nil g, refl))
many_sound g r p (suc n) bytes xs rest e =
    let a = then_some (r bytes) (λ x rest. then (many r n rest) (λ xs more. Some (x ∷ xs, more))) xs rest e in
    let b = then_some (many r n a.1) (λ xs more. Some (a.0 ∷ xs, more)) xs rest a.3 in
    let c = p.sound bytes a.0 a.1 a.2 in
    let d = many_sound g r p n a.1 b.0 b.1 b.2 in
    let f = some_parts (a.0 ∷ b.0) xs b.1 rest b.3 in (
      c.0 ++ d.0,
      joined bytes c.0 d.0 a.1 b.1 rest c.1 d.1 f.1,
      subst (λ (v : List _). Each g (c.0 ++ d.0) v × (length v ≡ suc n)) f.0 (each_cons g c.0 d.0 a.0 b.0 c.2 d.2.0, ap suc d.2.1),
    )

many_complete : {A : Type 0} (g : Grammar A) (r : Reading A) → IsExact g r → (n : ℕ) (b : List ℕ) (xs : List A) (rest : List ℕ) → Each g b xs × (length xs ≡ n) → many r n (b ++ rest) ≡ Some (xs, rest)
unfolding Each many
many_complete g r p zero b [] rest h = ap (λ (l : List ℕ). Some ([], l ++ rest)) h.0
many_complete g r p zero b (x ∷ xs) rest h = absurd (omega (arith, h.1))
many_complete g r p (suc n) b [] rest h = absurd (omega (arith, h.1))
many_complete g r p (suc n) b (x ∷ xs) rest h =
    let t = h.0 in
    let first : r (b ++ rest) ≡ Some (x, t.1 ++ rest) = ap r (ap (λ (l : List ℕ). l ++ rest) t.2 ∙ append_assoc t.0 t.1 rest) ∙ p.complete t.0 x (t.1 ++ rest) t.3 in
    let second : many r n (t.1 ++ rest) ≡ Some (xs, rest) = many_complete g r p n t.1 xs rest (t.4, omega (arith, h.1)) in
    rw (first, second) refl

pub many_exact : {A : Type 0} (g : Grammar A) (r : Reading A) → IsExact g r → (n : ℕ) → IsExact (λ b (xs : List A). Each g b xs × (length xs ≡ n)) (many r n)
many_exact g r p n = record { sound = many_sound g r p n; complete = many_complete g r p n }

pub never_exact : {A : Type 0} → IsExact {A = A} Never never
never_exact = record { sound = λ bytes x rest e. absurd cc; complete = λ b x rest h. absurd h }

whole_pair : {A : Type 0} (y : A) (l : List ℕ) (x : A) → whole (Some (y, l)) ≡ Some x → ◌≡◌ {A = Option (A × List ℕ)} (Some (y, l)) (Some (x, []))
whole_pair y [] x e = ap (λ (o : Option _). with_rest [] o) e
whole_pair y (k ∷ l) x e = absurd cc

whole_some : {A : Type 0} (o : Option (A × List ℕ)) (x : A) → whole o ≡ Some x → o ≡ Some (x, [])
whole_some None x e = absurd cc
whole_some (Some p) x e = whole_pair p.0 p.1 x e

with_rest_some : {A : Type 0} (rest : List ℕ) (o : Option A) (x : A) (r : List ℕ) → with_rest rest o ≡ Some (x, r) → (o ≡ Some x) × (rest ≡ r)
with_rest_some rest None x r e = absurd cc
with_rest_some rest (Some y) x r e = let d = some_parts y x rest r e in (ap (λ (z : _). Some z) d.0, d.1)

pub decoded_exact : {E A : Type 0} (g : Grammar E) (r : Reading E) (h : E → A → Type 0) (o : E → Option A) → IsExact g r → IsDecided h o → IsExact (Decoded g h) (within r o)
decoded_exact g r h o p q = record {
  sound = λ bytes x rest e.
      let a = then_some (r bytes) (λ e rest. with_rest rest (o e)) x rest e in
      let b = with_rest_some a.1 (o a.0) x rest a.3 in
      let c = p.sound bytes a.0 a.1 a.2 in
      (c.0, c.1 ∙ ap (λ (t : List ℕ). c.0 ++ t) b.1, (a.0, c.2, q.found a.0 x b.0));
  complete = λ b x rest t. rw (p.complete b t.0 rest t.1, q.only t.0 x t.2) refl;
}

-- bytes that are wholly spelled
pub wholly_decided : {A : Type 0} (h : Grammar A) (s : Reading A) → IsExact h s → IsDecided h (λ e. whole (s e))
wholly_decided h s q = record {
  found = λ e x k. let d = q.sound e x [] (whole_some (s e) x k) in subst (λ (l : List ℕ). h l x) (sym (d.1 ∙ append-nil d.0)) d.2;
  only = λ e x k. let f : s e ≡ Some (x, []) = ap s (sym (append-nil e)) ∙ q.complete e x [] k in rw f refl;
}

-- ---- by the first byte

one_or_other : {A : Type 0} (v : Bool) (o p : Option (A × List ℕ)) (G H : List ℕ → Type 0) (bytes : List ℕ) (x : A) (rest : List ℕ)
    → (o ≡ Some (x, rest) → (b : List ℕ) × (bytes ≡ b ++ rest) × G b) → (p ≡ Some (x, rest) → (b : List ℕ) × (bytes ≡ b ++ rest) × H b)
    → cond v o p ≡ Some (x, rest) → (b : List ℕ) × (bytes ≡ b ++ rest) × cond v (G b) (H b)
one_or_other true o p G H bytes x rest f h e = f e
one_or_other false o p G H bytes x rest f h e = h e

by_default : {A : Type 0} (g : Grammar A) → IsSolid g → (k : ℕ) (bytes b : List ℕ) (x : A) (rest : List ℕ) → k ∷ bytes ≡ b ++ rest → g b x → (c : List ℕ) × (bytes ≡ c ++ rest) × g (k ∷ c) x
by_default g solid k bytes [] x rest e h = absurd (solid x h)
by_default g solid k bytes (j ∷ c) x rest e h =
    let same : j ≡ k = cc in
    (c, cc, subst (λ (i : ℕ). g (i ∷ c) x) same h)

chosen_sound : {A : Type 0} (t : List (ℕ × Format A)) (g : Grammar A) (r : Reading A) → IsExact g r → IsSolid g → (k : ℕ) (bytes : List ℕ) (x : A) (rest : List ℕ) → chosen t r k (k ∷ bytes) bytes ≡ Some (x, rest) → (b : List ℕ) × (bytes ≡ b ++ rest) × Chosen t g k b x
chosen_sound [] g r p solid k bytes x rest e =
    let a = p.sound (k ∷ bytes) x rest e in
    by_default g solid k bytes a.0 x rest a.1 a.2
chosen_sound (f ∷ t) g r p solid k bytes x rest e =
    one_or_other (nat_eq k f.0) (f.1.read bytes) (chosen t r k (k ∷ bytes) bytes) (λ b. f.1.Spells b x) (λ b. Chosen t g k b x) bytes x rest
    (f.1.exact.sound bytes x rest) (chosen_sound t g r p solid k bytes x rest) e

one_or_other_again : {A : Type 0} (v : Bool) (o p : Option (A × List ℕ)) (G H : Type 0) (x : A) (rest : List ℕ)
    → (G → o ≡ Some (x, rest)) → (H → p ≡ Some (x, rest)) → cond v G H → cond v o p ≡ Some (x, rest)
one_or_other_again true o p G H x rest f h e = f e
one_or_other_again false o p G H x rest f h e = h e

chosen_complete : {A : Type 0} (t : List (ℕ × Format A)) (g : Grammar A) (r : Reading A) → IsExact g r → (k : ℕ) (b : List ℕ) (x : A) (rest : List ℕ) → Chosen t g k b x → chosen t r k (k ∷ (b ++ rest)) (b ++ rest) ≡ Some (x, rest)
chosen_complete [] g r p k b x rest h = p.complete (k ∷ b) x rest h
chosen_complete (f ∷ t) g r p k b x rest h =
    one_or_other_again (nat_eq k f.0) (f.1.read (b ++ rest)) (chosen t r k (k ∷ (b ++ rest)) (b ++ rest)) (f.1.Spells b x) (Chosen t g k b x) x rest
    (f.1.exact.complete b x rest) (chosen_complete t g r p k b x rest) h

by_first_sound : {A : Type 0} (t : List (ℕ × Format A)) (g : Grammar A) (r : Reading A) → IsExact g r → IsSolid g → (bytes : List ℕ) (x : A) (rest : List ℕ) → by_first t r bytes ≡ Some (x, rest) → (b : List ℕ) × (bytes ≡ b ++ rest) × ByFirst t g b x
by_first_sound t g r p solid [] x rest e = absurd cc
by_first_sound t g r p solid (k ∷ bytes) x rest e =
    let a = chosen_sound t g r p solid k bytes x rest e in
    (k ∷ a.0, ap (λ (l : List ℕ). k ∷ l) a.1, a.2)

by_first_complete : {A : Type 0} (t : List (ℕ × Format A)) (g : Grammar A) (r : Reading A) → IsExact g r → (b : List ℕ) (x : A) (rest : List ℕ) → ByFirst t g b x → by_first t r (b ++ rest) ≡ Some (x, rest)
by_first_complete t g r p [] x rest h = absurd h
by_first_complete t g r p (k ∷ b) x rest h = chosen_complete t g r p k b x rest h

pub by_first_exact : {A : Type 0} (t : List (ℕ × Format A)) (g : Grammar A) (r : Reading A) → IsExact g r → IsSolid g → IsExact (ByFirst t g) (by_first t r)
by_first_exact t g r p solid = record { sound = by_first_sound t g r p solid; complete = by_first_complete t g r p }

-- ---- by a number

picked_sound : {A : Type 0} (t : List (ℕ × Format A)) (n : ℕ) (bytes : List ℕ) (x : A) (rest : List ℕ) → picked t n bytes ≡ Some (x, rest) → (b : List ℕ) × (bytes ≡ b ++ rest) × Picked t n b x
picked_sound [] n bytes x rest e = absurd cc
picked_sound (f ∷ t) n bytes x rest e =
    one_or_other (nat_eq n f.0) (f.1.read bytes) (picked t n bytes) (λ b. f.1.Spells b x) (λ b. Picked t n b x) bytes x rest (f.1.exact.sound bytes x rest) (picked_sound t n bytes x rest) e

picked_complete : {A : Type 0} (t : List (ℕ × Format A)) (n : ℕ) (b : List ℕ) (x : A) (rest : List ℕ) → Picked t n b x → picked t n (b ++ rest) ≡ Some (x, rest)
picked_complete [] n b x rest h = absurd h
picked_complete (f ∷ t) n b x rest h =
    one_or_other_again (nat_eq n f.0) (f.1.read (b ++ rest)) (picked t n (b ++ rest)) (f.1.Spells b x) (Picked t n b x) x rest (f.1.exact.complete b x rest) (picked_complete t n b x rest) h

pub by_number_exact : {A : Type 0} (g : Grammar ℕ) (r : Reading ℕ) (t : List (ℕ × Format A)) → IsExact g r → IsExact (ByNumber g t) (by_number r t)
by_number_exact g r t p = record {
  sound = λ bytes x rest e.
      let a = then_some (r bytes) (λ n rest. picked t n rest) x rest e in
      let c = p.sound bytes a.0 a.1 a.2 in
      let d = picked_sound t a.0 a.1 x rest a.3 in
      (c.0 ++ d.0, joined bytes c.0 d.0 a.1 rest rest c.1 d.1 refl, (a.0, c.0, d.0, refl, c.2, d.2));
  complete = λ b x rest h.
      let first : r (b ++ rest) ≡ Some (h.0, h.2 ++ rest) = ap r (ap (λ (l : List ℕ). l ++ rest) h.3 ∙ append_assoc h.1 h.2 rest) ∙ p.complete h.1 h.0 (h.2 ++ rest) h.4 in
      rw first (picked_complete t h.0 h.2 x rest h.5);
}

-- ---- a count, and that many

vec_sound : {A : Type 0} (c : Grammar ℕ) (n : Reading ℕ) (g : Grammar A) (r : Reading A) → IsExact c n → IsExact g r → (bytes : List ℕ) (xs : List A) (rest : List ℕ) → then (n bytes) (λ k more. many r k more) ≡ Some (xs, rest) → (b : List ℕ) × (bytes ≡ b ++ rest) × Counted c g b xs
unfolding Counted
vec_sound c n g r p q bytes xs rest e =
    let a = then_some (n bytes) (λ k more. many r k more) xs rest e in
    let s = p.sound bytes a.0 a.1 a.2 in
    let d = many_sound g r q a.0 a.1 xs rest a.3 in
    (s.0 ++ d.0, joined bytes s.0 d.0 a.1 rest rest s.1 d.1 refl, (s.0, d.0, refl, subst (c s.0) (sym d.2.1) s.2, d.2.0))

vec_complete : {A : Type 0} (c : Grammar ℕ) (n : Reading ℕ) (g : Grammar A) (r : Reading A) → IsExact c n → IsExact g r → (b : List ℕ) (xs : List A) (rest : List ℕ) → Counted c g b xs → then (n (b ++ rest)) (λ k more. many r k more) ≡ Some (xs, rest)
unfolding Counted
vec_complete c n g r p q b xs rest t =
    let first : n (b ++ rest) ≡ Some (length xs, t.1 ++ rest) = ap n (ap (λ (l : List ℕ). l ++ rest) t.2 ∙ append_assoc t.0 t.1 rest) ∙ p.complete t.0 (length xs) (t.1 ++ rest) t.3 in
    rw first (many_complete g r q (length xs) t.1 xs rest (t.4, refl))

pub counted_exact : {A : Type 0} (c : Grammar ℕ) (n : Reading ℕ) (g : Grammar A) (r : Reading A) → IsExact c n → IsExact g r → IsExact (Counted c g) (counted n r)
unfolding counted
counted_exact c n g r p q = record { sound = vec_sound c n g r p q; complete = vec_complete c n g r p q }
