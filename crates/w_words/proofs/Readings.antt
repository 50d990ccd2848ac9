-- What is read was written so, and what is written is read: of words, and of lists of words.
use Rattle.std.proofs.Common.{◌≡◌, ℕ, Bool, true, false, ◌&&◌, cond, List, [], ◌∷◌, ◌++◌, length, take, drop, map, Option, Some, None, refl, sym, ap, subst, ◌∙◌, ◌⊎◌, inl, inr}
use Rattle.std.specs.Prelude.{nat_eq, option_map}
use Rattle.std.specs.Str.{bytes_eq}
use Rattle.std.specs.Cmp.Lexicographic.{pointwise}
use Rattle.std.proofs.lemmas.Bool.Decides.{Decides-eqb}
use Rattle.std.proofs.lemmas.Slice.Eq.{bytes_eq-Decides}
use Rattle.w_words.specs.Words.{Word, ◌>>=◌, IsClean, Each, behind, or_else, ended, one_of, two_of, each_of, each_until}

-- words of values that fit: what is read fits and was written so, what fits is read as it is written, and no separator is in it
pub record IsSpelling {A : Type 0} (word : A → Word) (of : Word → Option A) (Fits : A → Type 0) : Type 0 where
  pub sound : (w : Word) (x : A) → of w ≡ Some x → Fits x × (word x ≡ w)
  pub complete : (x : A) → Fits x → of (word x) ≡ Some x
  pub clean : (x : A) → Fits x → IsClean (word x)

-- ## Tests and prefixes

pub both : (a b : Bool) → (a && b) ≡ true → (a ≡ true) × (b ≡ true)
both true b e = (refl, e)
both false b e = absurd cc

pub true_and : (a b : Bool) → a ≡ true → b ≡ true → (a && b) ≡ true
true_and a b e f = rw (e, f) refl

pub cond_some : {A : Type 0} (b : Bool) (x y : A) → cond b (Some x) None ≡ Some y → (b ≡ true) × (x ≡ y)
cond_some true x y e = (refl, cc)
cond_some false x y e = absurd cc

-- either the test holds of equal words, or what stands behind it
pub tested : {A : Type 0} (b : Bool) (w v : Word) (x y : A) (o : Option A) → bytes_eq w v ≡ b → cond b (Some x) o ≡ Some y → ((w ≡ v) × (x ≡ y)) ⊎ (o ≡ Some y)
tested true w v x y o e h = inl ((bytes_eq-Decides w v).0 e, cc)
tested false w v x y o e h = inr h

pub mapped : {A B : Type 0} (f : A → B) (o : Option A) (y : B) → option_map f o ≡ Some y → (x : A) × (o ≡ Some x) × (f x ≡ y)
mapped f None y e = absurd cc
mapped f (Some x) y e = (x, refl, cc)

pub then_some : {A B : Type 0} (o : Option A) (f : A → Option B) (y : B) → (o >>= f) ≡ Some y → (x : A) × (o ≡ Some x) × (f x ≡ Some y)
then_some None f y e = absurd cc
then_some (Some x) f y e = (x, refl, e)

pub either : {A : Type 0} (o p : Option A) (y : A) → or_else o p ≡ Some y → (o ≡ Some y) ⊎ (p ≡ Some y)
either (Some x) p y e = inl e
either None p y e = inr e

behind_with : (b : Bool) (p c : ℕ) (ps bs v : Word) → nat_eq c p ≡ b → (behind ps bs ≡ Some v → bs ≡ ps ++ v) → cond b (behind ps bs) None ≡ Some v → c ∷ bs ≡ (p ∷ ps) ++ v
behind_with true p c ps bs v e f h = let s : c ≡ p = (Decides-eqb c p).0 e in rw (s, f h) refl
behind_with false p c ps bs v e f h = absurd cc

pub behind_sound : (p w v : Word) → behind p w ≡ Some v → w ≡ p ++ v
behind_sound [] w v e = cc
behind_sound (p ∷ ps) [] v e = absurd cc
behind_sound (p ∷ ps) (c ∷ bs) v e = behind_with (nat_eq c p) p c ps bs v refl (behind_sound ps bs v) e

-- a word that begins with a prefix, and one that does not
behind_cut : (p w : Word) (b : Bool) → pointwise nat_eq (take (length p) w) p ≡ b → behind p w ≡ cond b (Some (drop (length p) w)) None
behind_cut [] w true e = refl
behind_cut [] w false e = absurd cc
behind_cut (p ∷ ps) [] true e = absurd cc
behind_cut (p ∷ ps) [] false e = refl
behind_cut (p ∷ ps) (c ∷ bs) b e = cases (nat_eq c p) e (behind_cut ps bs b)
  where
    cases : (v : Bool) → (v && pointwise nat_eq (take (length ps) bs) ps) ≡ b → (pointwise nat_eq (take (length ps) bs) ps ≡ b → behind ps bs ≡ cond b (Some (drop (length ps) bs)) None) → cond v (behind ps bs) None ≡ cond b (Some (drop (length ps) bs)) None
    cases true f h = h f
    cases false f h = ap (λ (u : Bool). cond u (Some (drop (length ps) bs)) None) f

pub begins_so : (p w : Word) → pointwise nat_eq (take (length p) w) p ≡ true → behind p w ≡ Some (drop (length p) w)
begins_so p w e = behind_cut p w true e

pub begins_otherwise : (p w : Word) → pointwise nat_eq (take (length p) w) p ≡ false → behind p w ≡ None
begins_otherwise p w e = behind_cut p w false e

pub clean_behind : (v w : Word) → IsClean v → IsClean w → IsClean (v ++ w)
clean_behind [] w h g = g
clean_behind (b ∷ v) w h g = (h.0, clean_behind v w h.1 g)

-- ## Lists of words

pub ended_told : {A : Type 0} (x y : A) (ws : List Word) → ended x ws ≡ Some y → (ws ≡ []) × (x ≡ y)
ended_told x y [] e = (refl, cc)
ended_told x y (w ∷ ws) e = absurd cc

-- the same of lists of words
pub record IsListSpelling {A : Type 0} (words : A → List Word) (of : List Word → Option A) (Fits : A → Type 0) : Type 0 where
  pub sound : (ws : List Word) (x : A) → of ws ≡ Some x → Fits x × (words x ≡ ws)
  pub complete : (x : A) → Fits x → of (words x) ≡ Some x
  pub clean : (x : A) → Fits x → Each IsClean (words x)

one_sound : {A : Type 0} {word : A → Word} {of : Word → Option A} {Fits : A → Type 0} → IsSpelling word of Fits → (ws : List Word) (x : A) → one_of of ws ≡ Some x → Fits x × (word x ∷ [] ≡ ws)
one_sound s [] x e = absurd cc
one_sound s (w ∷ []) x e = let h = s.sound w x e in (h.0, ap (λ (v : Word). v ∷ []) h.1)
one_sound s (w ∷ v ∷ ws) x e = absurd cc

-- one word
pub ones : {A : Type 0} {word : A → Word} {of : Word → Option A} {Fits : A → Type 0} → IsSpelling word of Fits → IsListSpelling (λ x. word x ∷ []) (one_of of) Fits
ones s = record { sound = one_sound s; complete = s.complete; clean = λ x f. (s.clean x f, tt) }

module _ {A B : Type 0} {word : A → Word} {other_word : B → Word} {of : Word → Option A} {other : Word → Option B} {Fits : A → Type 0} {OtherFits : B → Type 0} (s : IsSpelling word of Fits) (r : IsSpelling other_word other OtherFits) where
  two_sound : (ws : List Word) (p : A × B) → two_of of other ws ≡ Some p → (Fits p.0 × OtherFits p.1) × (word p.0 ∷ other_word p.1 ∷ [] ≡ ws)
  two_sound [] p e = absurd cc
  two_sound (v ∷ []) p e = absurd cc
  two_sound (v ∷ w ∷ []) p e =
      let a = then_some (of v) (λ x. option_map (λ (y : B). (x, y)) (other w)) p e in
      let b = mapped (λ (y : B). (a.0, y)) (other w) p a.2 in
      let h = s.sound v a.0 a.1 in
      let g = r.sound w b.0 b.1 in
      subst (λ (q : A × B). (Fits q.0 × OtherFits q.1) × (word q.0 ∷ other_word q.1 ∷ [] ≡ v ∷ w ∷ [])) b.2 ((h.0, g.0), rw (h.1, g.1) refl)
  two_sound (v ∷ w ∷ u ∷ ws) p e = absurd cc

  two_complete : (p : A × B) → Fits p.0 × OtherFits p.1 → two_of of other (word p.0 ∷ other_word p.1 ∷ []) ≡ Some p
  two_complete p f = rw (s.complete p.0 f.0) (ap (option_map (λ (y : B). (p.0, y))) (r.complete p.1 f.1))

  -- two words
  pub twos : IsListSpelling (λ p. word p.0 ∷ other_word p.1 ∷ []) (two_of of other) (λ p. Fits p.0 × OtherFits p.1)
  twos = record { sound = two_sound; complete = two_complete; clean = λ p f. (s.clean p.0 f.0, (r.clean p.1 f.1, tt)) }

pub each_sound : {A : Type 0} {word : A → Word} {of : Word → Option A} {Fits : A → Type 0} → IsSpelling word of Fits → (ws : List Word) (xs : List A) → each_of of ws ≡ Some xs → Each Fits xs × (map word xs ≡ ws)
each_sound {A} {word} {of} {Fits} s [] xs e = let h : [] ≡ xs = cc in subst (λ (ys : List A). Each Fits ys × (map word ys ≡ [])) h (tt, refl)
each_sound {A} {word} {of} {Fits} s (w ∷ ws) xs e =
    let a = then_some (of w) (λ x. option_map (λ (ys : List A). x ∷ ys) (each_of of ws)) xs e in
    let b = mapped (λ (ys : List A). a.0 ∷ ys) (each_of of ws) xs a.2 in
    let v = s.sound w a.0 a.1 in
    let t = each_sound s ws b.0 b.1 in
    subst (λ (ys : List A). Each Fits ys × (map word ys ≡ w ∷ ws)) b.2 ((v.0, t.0), rw (v.1, t.1) refl)

pub each_complete : {A : Type 0} {word : A → Word} {of : Word → Option A} {Fits : A → Type 0} → IsSpelling word of Fits → (xs : List A) → Each Fits xs → each_of of (map word xs) ≡ Some xs
each_complete s [] f = refl
each_complete s (x ∷ xs) f = rw (s.complete x f.0, each_complete s xs f.1) refl

pub each_clean : {A : Type 0} {word : A → Word} {of : Word → Option A} {Fits : A → Type 0} → IsSpelling word of Fits → (xs : List A) → Each Fits xs → Each IsClean (map word xs)
each_clean s [] f = tt
each_clean s (x ∷ xs) f = (s.clean x f.0, each_clean s xs f.1)

-- any number of words
pub eaches : {A : Type 0} {word : A → Word} {of : Word → Option A} {Fits : A → Type 0} → IsSpelling word of Fits → IsListSpelling (map word) (each_of of) (Each Fits)
eaches s = record { sound = each_sound s; complete = each_complete s; clean = each_clean s }

-- a word of none is no word of a value
not_end : {A : Type 0} {word : A → Word} {of : Word → Option A} {Fits : A → Type 0} → IsSpelling word of Fits → (end : Word) → of end ≡ None → (x : A) → Fits x → bytes_eq (word x) end ≡ false
not_end {A} {word} {of} s end n x f = cases (bytes_eq (word x) end) refl
  where
    cases : (b : Bool) → bytes_eq (word x) end ≡ b → b ≡ false
    cases true h = let clash : Some x ≡ None = sym (s.complete x f) ∙ ap of ((bytes_eq-Decides (word x) end).0 h) ∙ n in absurd cc
    cases false h = refl

abbrev UntilTold : {A : Type 0} → (A → Word) → (A → Type 0) → Word → List Word → List A × List Word → Type 0
UntilTold word Fits end ws p = Each Fits p.0 × (map word p.0 ++ end ∷ p.1 ≡ ws)

pub until_sound : {A : Type 0} {word : A → Word} {of : Word → Option A} {Fits : A → Type 0} → IsSpelling word of Fits → (end : Word) (ws : List Word) (p : List A × List Word) → each_until end of ws ≡ Some p → Each Fits p.0 × (map word p.0 ++ end ∷ p.1 ≡ ws)
until_sound s end [] p e = absurd cc
until_sound {A} {word} {of} {Fits} s end (w ∷ ws) p e = cases (bytes_eq w end) refl (until_sound s end ws) e
  where
    cases : (b : Bool) → bytes_eq w end ≡ b → ((q : List A × List Word) → each_until end of ws ≡ Some q → UntilTold word Fits end ws q) → cond b (Some ([], ws)) (of w >>= λ x. option_map (λ (q : List A × List Word). (x ∷ q.0, q.1)) (each_until end of ws)) ≡ Some p → UntilTold word Fits end (w ∷ ws) p
    cases true h again g =
        let is : ([], ws) ≡ p = cc in
        subst (UntilTold word Fits end (w ∷ ws)) is (tt, ap (λ (v : Word). v ∷ ws) (sym ((bytes_eq-Decides w end).0 h)))
    cases false h again g =
        let a = then_some (of w) (λ x. option_map (λ (q : List A × List Word). (x ∷ q.0, q.1)) (each_until end of ws)) p g in
        let b = mapped (λ (q : List A × List Word). (a.0 ∷ q.0, q.1)) (each_until end of ws) p a.2 in
        let v = s.sound w a.0 a.1 in
        let t = again b.0 b.1 in
        subst (UntilTold word Fits end (w ∷ ws)) b.2 ((v.0, t.0), rw (v.1, t.1) refl)

pub until_complete : {A : Type 0} {word : A → Word} {of : Word → Option A} {Fits : A → Type 0} → IsSpelling word of Fits → (end : Word) → of end ≡ None → (bytes_eq end end ≡ true) → (xs : List A) (rest : List Word) → Each Fits xs → each_until end of (map word xs ++ end ∷ rest) ≡ Some (xs, rest)
until_complete s end n r [] rest f = rw r refl
until_complete s end n r (x ∷ xs) rest f = rw (not_end s end n x f.0, s.complete x f.0, until_complete s end n r xs rest f.1) refl
