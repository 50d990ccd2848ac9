-- What is bound behind names that are bound one after another: a name keeps the type that it had first.
use Rattle.std.proofs.Common.{◌≡◌, ◌⊎◌, inl, inr, Bool, true, false, ◌||◌, List, [], ◌∷◌, ◌++◌, map, Option, Some, None, is_some, if◌then◌else◌, refl, sym, ap, ◌∙◌, subst}
use Rattle.std.specs.Str.{bytes_eq}
use Rattle.s_syntax.specs.declared.name.Name.{Name}
use Rattle.s_syntax.specs.declared.script.VariableType.{VariableType}
use Rattle.s_check.specs.Scopes.{Bound, Scope, type_in, bind, bind_all, is_among, some_twice}
use Rattle.s_meaning.specs.Typing.{Fits}
use Rattle.s_meaning.proofs.Scopes.{same_is, same_refl, bool_of, Agree}

-- the first of two types that is there
abbrev pub or_else : Option VariableType → Option VariableType → Option VariableType
or_else None o = o
or_else (Some t) o = Some t

or_none : (o : Option VariableType) → or_else o None ≡ o
or_none None = refl
or_none (Some t) = refl

type_appended : (b : Bound) (y : Name) (bs : Scope) → type_in (bs ++ b ∷ []) y ≡ or_else (type_in bs y) (if bytes_eq b.name y then Some b.ty else None)
type_appended b y [] = refl
type_appended b y (c ∷ bs) = bool_of (bytes_eq c.name y) (λ q. (if q then Some c.ty else type_in (bs ++ b ∷ []) y) ≡ or_else (if q then Some c.ty else type_in bs y) (if bytes_eq b.name y then Some b.ty else None))
    (λ q. refl) (λ q. type_appended b y bs)

-- a name that is bound already keeps its type
kept_type : (b : Bound) (y : Name) (bs : Scope) → is_some (type_in bs b.name) ≡ true → type_in bs y ≡ or_else (type_in bs y) (if bytes_eq b.name y then Some b.ty else None)
kept_type b y bs there = bool_of (bytes_eq b.name y) (λ q. type_in bs y ≡ or_else (type_in bs y) (if q then Some b.ty else None))
    (λ q. kept (type_in bs y) (ap (λ (z : Name). is_some (type_in bs z)) (same_is y b.name q) ∙ there)) (λ q. sym (or_none (type_in bs y)))
  where
    kept : (o : Option VariableType) → is_some o ≡ true → o ≡ or_else o (Some b.ty)
    kept None e = absurd (cc)
    kept (Some t) e = refl

pub bound_type : (b : Bound) (y : Name) (bs : Scope) → type_in (bind b bs) y ≡ or_else (type_in bs y) (if bytes_eq b.name y then Some b.ty else None)
bound_type b y bs = bool_of (is_some (type_in bs b.name)) (λ q. type_in (if q then bs else bs ++ b ∷ []) y ≡ or_else (type_in bs y) (if bytes_eq b.name y then Some b.ty else None))
    (λ q. kept_type b y bs q) (λ q. type_appended b y bs)

one_and_more : (q : Bool) (t : VariableType) (a o : Option VariableType) → or_else (or_else a (if q then Some t else None)) o ≡ or_else a (if q then Some t else o)
one_and_more true t None o = refl
one_and_more false t None o = refl
one_and_more q t (Some u) o = refl

all_bound : (cs : List Bound) (bs : Scope) (y : Name) → type_in (bind_all cs bs) y ≡ or_else (type_in bs y) (type_in cs y)
all_bound [] bs y = sym (or_none (type_in bs y))
all_bound (c ∷ cs) bs y =
    all_bound cs (bind c bs) y ∙ ap (λ (o : Option VariableType). or_else o (type_in cs y)) (bound_type c y bs)
    ∙ one_and_more (bytes_eq c.name y) c.ty (type_in bs y) (type_in cs y)

-- ## Scopes that agree

-- at the start of a body
pub starts_agree : (cs : List Bound) → Agree (bind_all cs []) cs
starts_agree cs = record { type_of = λ y. all_bound cs [] y }

-- behind a name that fits
pub bound_agrees : (b : Bound) (bs : Scope) → Fits b.name b.ty bs → Agree (bind b bs) (b ∷ bs)
bound_agrees b bs f = record { type_of = λ y. bound_type b y bs ∙ either y }
  where
    same_type : (y : Name) (o : Option VariableType) → type_in bs y ≡ o → bytes_eq b.name y ≡ true → or_else o (Some b.ty) ≡ Some b.ty
    same_type y None e q = refl
    same_type y (Some t) e q = ap Some (f.fits t (ap (λ (z : Name). type_in bs z) (sym (same_is y b.name q)) ∙ e))

    either : (y : Name) → or_else (type_in bs y) (if bytes_eq b.name y then Some b.ty else None) ≡ (if bytes_eq b.name y then Some b.ty else type_in bs y)
    either y = bool_of (bytes_eq b.name y) (λ q. or_else (type_in bs y) (if q then Some b.ty else None) ≡ (if q then Some b.ty else type_in bs y))
        (λ q. same_type y (type_in bs y) refl q) (λ q. or_none (type_in bs y))

-- what isn't bound before another name is bound isn't bound behind it
pub none_behind : (b : Bound) (y : Name) (bs : Scope) → bytes_eq b.name y ≡ false → type_in bs y ≡ None → type_in (bind b bs) y ≡ None
none_behind b y bs other none = bound_type b y bs ∙ ap (λ (o : Option VariableType). or_else o (if bytes_eq b.name y then Some b.ty else None)) none ∙ ap (λ (q : Bool). if q then Some b.ty else None) other

-- a type that a name has behind one that is bound it had before, or it is the type of that one
pub type_behind : (b : Bound) (y : Name) (bs : Scope) (t : VariableType) → type_in (bind b bs) y ≡ Some t → (type_in bs y ≡ Some t) ⊎ (b.ty ≡ t)
type_behind b y bs t e = was (bytes_eq b.name y) (type_in bs y) (sym (bound_type b y bs) ∙ e)
  where
    was : (q : Bool) (o : Option VariableType) → or_else o (if q then Some b.ty else None) ≡ Some t → (o ≡ Some t) ⊎ (b.ty ≡ t)
    was true None f = inr (cc)
    was false None f = absurd (cc)
    was q (Some u) f = inl f

-- ## Names that are bound twice

pub or_left : (a b : Bool) → a ≡ true → (a || b) ≡ true
or_left true b e = refl
or_left false b e = absurd (cc)

pub or_right : (a b : Bool) → b ≡ true → (a || b) ≡ true
or_right true b e = refl
or_right false b e = e

pub among_left : (x : Name) (xs ys : List Name) → is_among xs x ≡ true → is_among (xs ++ ys) x ≡ true
among_left x [] ys e = absurd (cc)
among_left x (z ∷ xs) ys e = bool_of (bytes_eq z x) (λ b. (b || is_among xs x) ≡ true → (b || is_among (xs ++ ys) x) ≡ true) (λ q f. refl) (λ q f. among_left x xs ys f) e

pub among_right : (x : Name) (xs ys : List Name) → is_among ys x ≡ true → is_among (xs ++ ys) x ≡ true
among_right x [] ys e = e
among_right x (z ∷ xs) ys e = or_right (bytes_eq z x) (is_among (xs ++ ys) x) (among_right x xs ys e)

twice_before : (x : Name) (before ms : List Name) → is_among before x ≡ true → is_among ms x ≡ true → some_twice before ms ≡ true
twice_before x before [] e f = absurd (cc)
twice_before x before (z ∷ ms) e f = bool_of (bytes_eq z x) (λ b. (b || is_among ms x) ≡ true → (is_among before z || some_twice (z ∷ before) ms) ≡ true)
    (λ q g. or_left (is_among before z) (some_twice (z ∷ before) ms) (subst (λ (y : Name). is_among before y ≡ true) (same_is x z q) e))
    (λ q g. or_right (is_among before z) (some_twice (z ∷ before) ms) (twice_before x (z ∷ before) ms (or_right (bytes_eq z x) (is_among before x) e) g)) f

pub twice_of : (x : Name) (before ns ms : List Name) → is_among ns x ≡ true → is_among ms x ≡ true → some_twice before (ns ++ ms) ≡ true
twice_of x before [] ms e f = absurd (cc)
twice_of x before (z ∷ ns) ms e f = bool_of (bytes_eq z x) (λ b. (b || is_among ns x) ≡ true → (is_among before z || some_twice (z ∷ before) (ns ++ ms)) ≡ true)
    (λ q g. or_right (is_among before z) (some_twice (z ∷ before) (ns ++ ms)) (twice_before x (z ∷ before) (ns ++ ms) (or_left (bytes_eq z x) (is_among before x) q) (among_right x ns ms f)))
    (λ q g. or_right (is_among before z) (some_twice (z ∷ before) (ns ++ ms)) (twice_of x (z ∷ before) ns ms g f)) e

pub type_among : (x : Name) (t : VariableType) (bs : Scope) → type_in bs x ≡ Some t → is_among (map (λ (c : Bound). c.name) bs) x ≡ true
type_among x t [] e = absurd (cc)
type_among x t (b ∷ bs) e = bool_of (bytes_eq b.name x) (λ c. (if c then Some b.ty else type_in bs x) ≡ Some t → (c || is_among (map (λ (d : Bound). d.name) bs) x) ≡ true)
    (λ q f. refl) (λ q f. type_among x t bs f) e

-- ## Names that are bound once

-- each of these names stands there once
pub data Apart : List Name → Type 0 where
  no_names : Apart []
  name : {x : Name} {xs : List Name} → is_among xs x ≡ false → Apart xs → Apart (x ∷ xs)

pub no_true : (b : Bool) → (b ≡ true → ⊥) → b ≡ false
no_true true n = absurd (n refl)
no_true false n = refl

or_false : (a b : Bool) → (a || b) ≡ false → (a ≡ false) × (b ≡ false)
or_false true b e = absurd (cc)
or_false false b e = (refl, e)

apart_of : (before xs : List Name) → some_twice before xs ≡ false → Apart xs
apart_of before [] e = no_names
apart_of before (x ∷ xs) e =
    let r = (or_false (is_among before x) (some_twice (x ∷ before) xs) e).1 in
    name (no_true (is_among xs x) (λ i. let t = twice_before x (x ∷ before) xs (or_left (bytes_eq x x) (is_among before x) (same_refl x)) i in cc (t, r))) (apart_of (x ∷ before) xs r)

-- behind other names
pub apart_behind : (before xs ys : List Name) → some_twice before (xs ++ ys) ≡ false → Apart ys
apart_behind before [] ys e = apart_of before ys e
apart_behind before (x ∷ xs) ys e = apart_behind (x ∷ before) xs ys (or_false (is_among before x) (some_twice (x ∷ before) (xs ++ ys)) e).1

among_none : (x : Name) (xs ys : List Name) → is_among (xs ++ ys) x ≡ false → is_among xs x ≡ false
among_none x xs ys e = no_true (is_among xs x) (λ i. let t = among_left x xs ys i in cc (t, e))

pub apart_left : (xs ys : List Name) → Apart (xs ++ ys) → Apart xs
apart_left [] ys t = no_names
apart_left (x ∷ xs) ys (name n t) = name (among_none x xs ys n) (apart_left xs ys t)

pub apart_right : (xs ys : List Name) → Apart (xs ++ ys) → Apart ys
apart_right [] ys t = t
apart_right (x ∷ xs) ys (name n t) = apart_right xs ys t
