-- Where names are among the locals: names that are bound once are found at their places, and each name has a local of its own.
use Rattle.std.proofs.Common.{◌≡◌, ℕ, zero, suc, ◌+◌, ◌<◌, ◌≤◌, List, [], ◌∷◌, ◌++◌, map, length, Some, slice_get, if◌then◌else◌, ◌⊎◌, inl, inr, refl, sym, ap, ◌∙◌, subst, arith}
use Rattle.std.specs.Str.{bytes_eq}
use Rattle.lists.proofs.Lists.{get-behind}
use Rattle.s_syntax.specs.declared.name.Name.{Name}
use Rattle.s_syntax.specs.declared.script.VariableType.{VariableType}
use Rattle.s_syntax.specs.declared.script.Parameter.{Parameter}
use Rattle.s_check.specs.Scopes.{Bound, Scope, type_in, number as number_name, parameter, some_twice}
use Rattle.s_code.specs.Layouts.{Local, Layout, numbered, local_of}
use Rattle.s_meaning.proofs.Lists.{get_before}
use Rattle.s_meaning.proofs.Scopes.{same_is, bool_of}
use Rattle.s_valid.proofs.LayoutTypes.{Placed as HasLocal, LetsPlaced}
use Rattle.s_agrees.proofs.StandsFor.{Fine}
use Rattle.s_agrees.proofs.Facts.{Parameters, Names}
use Rattle.s_agrees.proofs.Distinct.{names, Once, local_names, once_found}
use Rattle.s_agrees.proofs.WellBodies.{ScopePlaced}

-- ## Locals that are numbered

-- each has the number of its place behind the first
get_numbered : (k : ℕ) (bs : List Bound) (j : ℕ) (b : Bound) → slice_get bs j ≡ Some b → slice_get (numbered k bs) j ≡ Some (record { name = b.name; ty = b.ty; number = k + j })
get_numbered k [] j b e = absurd (cc)
get_numbered k (c ∷ bs) zero b e =
    let same : c ≡ b = cc in
    ap (λ (n : ℕ). Some (record { name = c.name; ty = c.ty; number = n })) (let z : k ≡ k + 0 = omega arith in z)
    ∙ ap (λ (d : Bound). Some (record { name = d.name; ty = d.ty; number = k + 0 })) same
get_numbered k (c ∷ bs) (suc j) b e =
    get_numbered (k + 1) bs j b e ∙ ap (λ (n : ℕ). Some (record { name = b.name; ty = b.ty; number = n })) (let z : k + 1 + j ≡ k + suc j = omega arith in z)

names_numbered : (k : ℕ) (bs : List Bound) → local_names (numbered k bs) ≡ names bs
names_numbered k [] = refl
names_numbered k (b ∷ bs) = ap (λ (xs : List Name). b.name ∷ xs) (names_numbered (k + 1) bs)

-- numbering keeps the names
names_of_two : (k n : ℕ) (ps bs : List Bound) → local_names (numbered k ps ++ numbered n bs) ≡ names (ps ++ bs)
names_of_two k n [] bs = names_numbered n bs
names_of_two k n (p ∷ ps) bs = ap (λ (xs : List Name). p.name ∷ xs) (names_of_two (k + 1) n ps bs)

-- names behind others are numbered from where those end
pub numbered_appended : (k : ℕ) (bs cs : List Bound) → numbered k (bs ++ cs) ≡ numbered k bs ++ numbered (k + length bs) cs
numbered_appended k [] cs = ap (λ (n : ℕ). numbered n cs) (let z : k ≡ k + 0 = omega arith in z)
numbered_appended k (b ∷ bs) cs =
    ap (λ (ls : List Local). record { name = b.name; ty = b.ty; number = k } ∷ ls)
    (numbered_appended (k + 1) bs cs ∙ ap (λ (n : ℕ). numbered (k + 1) bs ++ numbered n cs) (let z : k + 1 + length bs ≡ k + suc (length bs) = omega arith in z))

-- ## Names that have the locals from k on

pub record Located (ls : List Local) (k : ℕ) (bs : List Bound) : Type 0 where
  pub at : (j : ℕ) (b : Bound) → slice_get bs j ≡ Some b → local_of ls b.name ≡ Some (record { name = b.name; ty = b.ty; number = k + j })

-- the names of two segments are bound once
module _ (n : ℕ) (ps bs : List Bound) (once : Once (ps ++ bs)) where
  found_at : (j : ℕ) (l : Local) → slice_get (numbered 0 ps ++ numbered n bs) j ≡ Some l → local_of (numbered 0 ps ++ numbered n bs) l.name ≡ Some l
  found_at = once_found [] (numbered 0 ps ++ numbered n bs) (ap (λ (xs : List Name). some_twice [] xs) (names_of_two 0 n ps bs) ∙ once)

  -- those of the first are at their places
  pub located_first : Located (numbered 0 ps ++ numbered n bs) 0 ps
  located_first = record {
    at = λ j b e. let l : Local = record { name = b.name; ty = b.ty; number = 0 + j } in
        found_at j l (get_before (numbered 0 ps) (numbered n bs) j l (get_numbered 0 ps j b e));
  }

  -- and those of the second
  pub located_second : Located (numbered 0 ps ++ numbered n bs) n bs
  located_second = record {
    at = λ j b e. let l : Local = record { name = b.name; ty = b.ty; number = n + j } in
        found_at (length (numbered 0 ps) + j) l (get-behind (numbered 0 ps) (numbered n bs) j ∙ get_numbered n bs j b e);
  }

pub located_left : {ls : List Local} {k : ℕ} (bs cs : List Bound) → Located ls k (bs ++ cs) → Located ls k bs
located_left bs cs g = record { at = λ j b e. g.at j b (get_before bs cs j b e) }

pub located_right : {ls : List Local} {k : ℕ} (bs cs : List Bound) → Located ls k (bs ++ cs) → Located ls (k + length bs) cs
located_right {k = k} bs cs g = record {
  at = λ j b e. g.at (length bs + j) b (get-behind bs cs j ∙ e)
      ∙ ap (λ (n : ℕ). Some (record { name = b.name; ty = b.ty; number = n })) (let z : k + (length bs + j) ≡ k + length bs + j = omega arith in z);
}

-- the one at this place has the local of this number
pub located_at : {ls : List Local} {k : ℕ} {bs : List Bound} (j n : ℕ) (b : Bound) → Located ls k bs → slice_get bs j ≡ Some b → k + j ≡ n
    → local_of ls b.name ≡ Some (record { name = b.name; ty = b.ty; number = n })
located_at j n b g e same = g.at j b e ∙ ap (λ (m : ℕ). Some (record { name = b.name; ty = b.ty; number = m })) same

get_parameter : (ps : List Parameter) (j : ℕ) (q : Parameter) → slice_get ps j ≡ Some q → slice_get (map parameter ps) j ≡ Some (parameter q)
get_parameter [] j q e = absurd (cc)
get_parameter (p ∷ ps) zero q e = let same : p ≡ q = cc in ap (λ (z : Parameter). Some (parameter z)) same
get_parameter (p ∷ ps) (suc j) q e = get_parameter ps j q e

get_number : (xs : List Name) (j : ℕ) (x : Name) → slice_get xs j ≡ Some x → slice_get (map number_name xs) j ≡ Some (number_name x)
get_number [] j x e = absurd (cc)
get_number (y ∷ xs) zero x e = let same : y ≡ x = cc in ap (λ (z : Name). Some (number_name z)) same
get_number (y ∷ xs) (suc j) x e = get_number xs j x e

pub parameters_located : {Γ : Layout} (ps : List Parameter) → Located Γ.names 0 (map parameter ps) → Parameters Γ ps
parameters_located ps g = record { at = λ j q e. located_at j j (parameter q) g (get_parameter ps j q e) (let z : 0 + j ≡ j = omega arith in z) }

pub names_located : {Γ : Layout} {k : ℕ} (xs : List Name) → Located Γ.names k (map number_name xs) → Names Γ k xs
names_located xs g = record { at = λ j x e. g.at j (number_name x) (get_number xs j x e) }

-- ## Locals of names

-- where a name is bound with its type
record BoundAt (bs : Scope) (x : Name) (t : VariableType) : Type 0 where
  place : ℕ
  bound : Bound
  is : slice_get bs place ≡ Some bound
  named : bound.name ≡ x
  ty : bound.ty ≡ t

bound_at : (bs : Scope) (x : Name) (t : VariableType) → type_in bs x ≡ Some t → BoundAt bs x t
bound_at [] x t e = absurd (cc)
bound_at (b ∷ bs) x t e =
    bool_of (bytes_eq b.name x) (λ q. (if q then Some b.ty else type_in bs x) ≡ Some t → BoundAt (b ∷ bs) x t)
    (λ q g. record { place = 0; bound = b; is = refl; named = sym (same_is x b.name q); ty = cc g })
    (λ q g. let r = bound_at bs x t g in record { place = suc r.place; bound = r.bound; is = r.is; named = r.named; ty = r.ty }) e

-- names at their places have locals of their types
pub scope_located : {Γ : Layout} {k : ℕ} (bs : List Bound) → Located Γ.names k bs → ScopePlaced Γ bs
scope_located {Γ} {k} bs g = record {
  each = λ x t e. let r = bound_at bs x t e in let b = r.bound in
      subst (λ (y : Name). HasLocal Γ y t) r.named (record { local = record { name = b.name; ty = b.ty; number = k + r.place }; is = g.at r.place b r.is; ty = r.ty });
}

pub lets_located : {Γ : Layout} {k : ℕ} (bs : List Bound) → Located Γ.names k bs → LetsPlaced Γ bs
lets_located {Γ} {k} bs g = record { placed = λ n b e. record { local = record { name = b.name; ty = b.ty; number = k + n }; is = g.at n b e; ty = refl } }

either_type : (bs cs : Scope) (x : Name) (t : VariableType) → type_in (bs ++ cs) x ≡ Some t → (type_in bs x ≡ Some t) ⊎ (type_in cs x ≡ Some t)
either_type [] cs x t e = inr e
either_type (b ∷ bs) cs x t e =
    bool_of (bytes_eq b.name x) (λ q. (if q then Some b.ty else type_in (bs ++ cs) x) ≡ Some t → ((if q then Some b.ty else type_in bs x) ≡ Some t) ⊎ (type_in cs x ≡ Some t))
    (λ q g. inl g) (λ q g. either_type bs cs x t g) e

pub scope_appended : {Γ : Layout} (bs cs : Scope) → ScopePlaced Γ bs → ScopePlaced Γ cs → ScopePlaced Γ (bs ++ cs)
scope_appended {Γ} bs cs s t = record { each = λ x k e. by x k (either_type bs cs x k e) }
  where
    by : (x : Name) (k : VariableType) → (type_in bs x ≡ Some k) ⊎ (type_in cs x ≡ Some k) → HasLocal Γ x k
    by x k (inl e) = s.each x k e
    by x k (inr e) = t.each x k e

-- ## Each name has a local of its own

-- where a name's local comes from
record FoundIn (k : ℕ) (bs : List Bound) (x : Name) (l : Local) : Type 0 where
  place : ℕ
  bound : Bound
  is : slice_get bs place ≡ Some bound
  named : bound.name ≡ x
  number : l.number ≡ k + place
  within : place < length bs

-- a name that has a local is bound at that local's place
found_in : (k : ℕ) (bs : List Bound) (x : Name) (l : Local) → local_of (numbered k bs) x ≡ Some l → FoundIn k bs x l
found_in k [] x l e = absurd (cc)
found_in k (b ∷ bs) x l e =
    let one : Local = record { name = b.name; ty = b.ty; number = k } in
    bool_of (bytes_eq b.name x) (λ q. (if q then Some one else local_of (numbered (k + 1) bs) x) ≡ Some l → FoundIn k (b ∷ bs) x l)
    (λ q g.
    let same : one ≡ l = cc g in
    let at : k ≡ l.number = ap (λ (m : Local). m.number) same in
    record { place = 0; bound = b; is = refl; named = sym (same_is x b.name q); number = omega (arith, at); within = omega arith })
    (λ q g.
    let r = found_in (k + 1) bs x l g in
    let at = r.number in
    let low = r.within in
    record { place = suc r.place; bound = r.bound; is = r.is; named = r.named; number = omega (arith, at); within = omega (arith, low) }) e

found_in_two : (ls ms : List Local) (x : Name) (l : Local) → local_of (ls ++ ms) x ≡ Some l → (local_of ls x ≡ Some l) ⊎ (local_of ms x ≡ Some l)
found_in_two [] ms x l e = inr e
found_in_two (k ∷ ls) ms x l e =
    bool_of (bytes_eq k.name x) (λ q. (if q then Some k else local_of (ls ++ ms) x) ≡ Some l → ((if q then Some k else local_of ls x) ≡ Some l) ⊎ (local_of ms x ≡ Some l))
    (λ q g. inl g) (λ q g. found_in_two ls ms x l g) e

-- numbers of one segment are apart
same_name : {k : ℕ} {bs : List Bound} {x y : Name} {l m : Local} → FoundIn k bs x l → FoundIn k bs y m → l.number ≡ m.number → x ≡ y
same_name {bs = bs} r s same =
    let a = r.number in let b = s.number in
    let place : r.place ≡ s.place = omega (arith, a, b, same) in
    let both : Some r.bound ≡ Some s.bound = sym r.is ∙ ap (λ (j : ℕ). slice_get bs j) place ∙ s.is in
    let one : r.bound ≡ s.bound = cc in
    sym r.named ∙ ap (λ (c : Bound). c.name) one ∙ s.named

-- and those of two segments
other_number : {n : ℕ} {ps bs : List Bound} {x y : Name} {l m : Local} → length ps ≤ n → FoundIn 0 ps x l → FoundIn n bs y m → l.number ≡ m.number → ⊥
other_number behind r s same =
    let a = r.number in let b = s.number in let c = r.within in
    omega (arith, behind, a, b, c, same)

abbrev Somewhere : ℕ → List Bound → List Bound → Name → Local → Type 0
Somewhere n ps bs x l = FoundIn 0 ps x l ⊎ FoundIn n bs x l

-- in two segments, of which the second lies behind the first
pub fine_of_two : (Γ : Layout) (ps bs : List Bound) (n : ℕ) → Γ.names ≡ numbered 0 ps ++ numbered n bs → length ps ≤ n → n + length bs ≤ Γ.temporaries → Fine Γ
fine_of_two Γ ps bs n is behind room = record {
  apart = λ x y l m e f same. apart (found x l e) (found y m f) same;
  below = λ x l e. below (found x l e);
}
  where
    somewhere : (x : Name) (l : Local) → (local_of (numbered 0 ps) x ≡ Some l) ⊎ (local_of (numbered n bs) x ≡ Some l) → Somewhere n ps bs x l
    somewhere x l (inl e) = inl (found_in 0 ps x l e)
    somewhere x l (inr e) = inr (found_in n bs x l e)

    found : (x : Name) (l : Local) → local_of Γ.names x ≡ Some l → Somewhere n ps bs x l
    found x l e = somewhere x l (found_in_two (numbered 0 ps) (numbered n bs) x l (ap (λ (ls : List Local). local_of ls x) (sym is) ∙ e))

    apart : {x y : Name} {l m : Local} → Somewhere n ps bs x l → Somewhere n ps bs y m → l.number ≡ m.number → x ≡ y
    apart (inl r) (inl s) same = same_name r s same
    apart (inl r) (inr s) same = absurd (other_number behind r s same)
    apart (inr r) (inl s) same = absurd (other_number behind s r (sym same))
    apart (inr r) (inr s) same = same_name r s same

    below : {x : Name} {l : Local} → Somewhere n ps bs x l → l.number < Γ.temporaries
    below (inl r) = let a = r.number in let c = r.within in omega (arith, behind, room, a, c)
    below (inr r) = let a = r.number in let c = r.within in omega (arith, room, a, c)
