-- Instances by the place of their declaration.
use Rattle.std.proofs.Common.{◌≡◌, ℕ, zero, suc, All, List, length, Some, slice_get, slice_set, refl, ap, subst}
use Rattle.std.proofs.lemmas.List.Elements.{All-get_or}
use Rattle.std.proofs.lemmas.Option.{slice_get_within, get_or_from_slice_get}
use Rattle.w_typed.specs.Stores.{Instances, no_instance, instances}

-- the instance at a place
pub record Instance {A B : Type 0} (R : A → B → Type 0) (xs : List A) (i : ℕ) (y : B) : Type 0 where
  pub item : A
  pub is : slice_get xs i ≡ Some item
  pub holds : R item y

-- the declaration of an instance
pub record Declaration {A B : Type 0} (R : A → B → Type 0) (ys : List B) (i : ℕ) (x : A) : Type 0 where
  pub item : B
  pub is : slice_get ys i ≡ Some item
  pub holds : R x item

-- what holds of all items holds of the one at a place
pub all_there : {A : Type 0} (P : A → Type 0) (xs : List A) (i : ℕ) (x : A) → All P xs → slice_get xs i ≡ Some x → P x
all_there P xs i x h is = subst P (get_or_from_slice_get xs i x x is) (All-get_or P xs i x (slice_get_within xs i x is) h)

module _ {A B : Type 0} {R : A → B → Type 0} where
  -- where there is a declaration, there is an instance of it
  pub instance_at : (i : ℕ) {xs : List A} {ys : List B} (y : B) → Instances R xs ys → slice_get ys i ≡ Some y → Instance R xs i y
  instance_at i y no_instance h = absurd (cc)
  instance_at zero y (instances {x = x} r h) is = record { item = x; is = refl; holds = subst (λ z. R x z) (cc) r }
  instance_at (suc i) y (instances r h) is = let k = instance_at i y h is in record { item = k.item; is = k.is; holds = k.holds }

  -- where there is an instance, it has a declaration
  pub declaration_of : (i : ℕ) {xs : List A} {ys : List B} (x : A) → Instances R xs ys → slice_get xs i ≡ Some x → Declaration R ys i x
  declaration_of i x no_instance h = absurd (cc)
  declaration_of zero x (instances {y = y} r h) is = record { item = y; is = refl; holds = subst (λ z. R z y) (cc) r }
  declaration_of (suc i) x (instances r h) is = let k = declaration_of i x h is in record { item = k.item; is = k.is; holds = k.holds }

  -- another instance may stand in its place
  pub instance_set : (i : ℕ) {xs : List A} {ys : List B} (x : A) (y : B) → Instances R xs ys → slice_get ys i ≡ Some y → R x y → Instances R (slice_set xs i x) ys
  instance_set i x y no_instance is r = absurd (cc)
  instance_set zero x y (instances q h) is r = instances (subst (λ z. R x z) (cc) r) h
  instance_set (suc i) x y (instances q h) is r = instances q (instance_set i x y h is r)

  -- there are as many instances as declarations
  pub instance_count : {xs : List A} {ys : List B} → Instances R xs ys → length xs ≡ length ys
  instance_count no_instance = refl
  instance_count (instances r h) = ap suc (instance_count h)
