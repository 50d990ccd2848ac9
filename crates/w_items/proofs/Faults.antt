-- A module has one fault at most.
use Rattle.std.proofs.Common.{◌≡◌, inl, inr, Ok, Err, refl, ap}
use Rattle.w_syntax.specs.declared.module.Module.{Module}
use Rattle.w_rules.specs.declared.limits.SizeLimit.{SizeLimit}
use Rattle.w_rules.specs.declared.limits.SizeLimit.TheVariants.{Types, Params, Locals}
use Rattle.w_rules.specs.Limits.{Within, Passes}
use Rattle.w_rules.specs.Valid.{
  Item,
  TypeItem,
  ImportItem,
  TableItem,
  MemoryItem,
  TagItem,
  GlobalItem,
  ElementItem,
  DataItem,
  StartItem,
  ExportItem,
  FunctionItem,
  Before,
  Valid,
  IsInvalidAt,
}
use Rattle.w_items.specs.declared.fault.ValidFault.{ValidFault}
use Rattle.w_items.specs.declared.fault.ValidFault.TheVariants as fault
use Rattle.w_items.specs.Faults.{fault_of, IsRefusedAt, IsFaultOf, IsAnswer}
use Rattle.w_items.proofs.Items.{same_item}

-- ## Limits

pub not_within : (m : Module) (name : SizeLimit) → Within m → Passes m name → ⊥
not_within m Types w p = p w.types
not_within m Params w p = p.1 w.params
not_within m Locals w p = p.2 w.locals

one_limit : (m : Module) (a b : SizeLimit) → Passes m a → Passes m b → a ≡ b
one_limit m Types Types p q = refl
one_limit m Types Params p q = absurd (p q.0)
one_limit m Types Locals p q = absurd (p q.0)
one_limit m Params Types p q = absurd (q p.0)
one_limit m Params Params p q = refl
one_limit m Params Locals p q = absurd (p.1 q.1)
one_limit m Locals Types p q = absurd (q p.0)
one_limit m Locals Params p q = absurd (q.1 p.1)
one_limit m Locals Locals p q = refl

-- ## Items

pub not_valid : (m : Module) (x : Item) → Valid m → IsInvalidAt m x → ⊥
not_valid m x v i = i.invalid (v x i.item)

not_before : (m : Module) (x y : Item) → IsInvalidAt m x → IsInvalidAt m y → Before x y → ⊥
not_before m x y p q before = p.invalid (q.least x p.item before)

one_item : (m : Module) (x y : Item) → IsInvalidAt m x → IsInvalidAt m y → x ≡ y
one_item m x y p q = same_item x y (not_before m x y p q) (not_before m y x q p)

-- ## Faults

-- what a fault names: a limit that is passed, the least item without a derivation, or out of memory
data Named (m : Module) : ValidFault → Type 0 where
  limit : (name : SizeLimit) → Passes m name → Named m (fault.Limit name)
  item : (x : Item) → IsRefusedAt m x → Named m (fault_of x)
  memory : Named m fault.OutOfMemory

named : (m : Module) (g : ValidFault) → IsFaultOf m g → Named m g
named m (fault.Limit name) h = limit name h
named m (fault.TypeAt i) h = item (TypeItem i) h
named m (fault.Import i) h = item (ImportItem i) h
named m (fault.Table i) h = item (TableItem i) h
named m fault.Memory h = item MemoryItem h
named m (fault.Tag i) h = item (TagItem i) h
named m (fault.Global i) h = item (GlobalItem i) h
named m (fault.Element i) h = item (ElementItem i) h
named m (fault.Data i) h = item (DataItem i) h
named m fault.Start h = item StartItem h
named m (fault.Export i) h = item (ExportItem i) h
named m (fault.Function i) h = item (FunctionItem i) h
named m fault.OutOfMemory h = memory

both_named : {m : Module} {f g : ValidFault} → Named m f → Named m g → (f ≡ fault.OutOfMemory → ⊥) → (g ≡ fault.OutOfMemory → ⊥) → f ≡ g
both_named {m} (limit a p) (limit b q) x y = ap fault.Limit (one_limit m a b p q)
both_named {m} (limit a p) (item z q) x y = absurd (not_within m a q.0 p)
both_named (limit a p) memory x y = absurd (y refl)
both_named {m} (item z p) (limit a q) x y = absurd (not_within m a p.0 q)
both_named {m} (item z p) (item w q) x y = ap fault_of (one_item m z w p.1 q.1)
both_named (item z p) memory x y = absurd (y refl)
both_named memory q x y = absurd (x refl)

-- two that are not out of memory are one
pub one_fault : (m : Module) (f g : ValidFault) → (f ≡ fault.OutOfMemory → ⊥) → (g ≡ fault.OutOfMemory → ⊥) → IsFaultOf m f → IsFaultOf m g → f ≡ g
one_fault m f g x y p q = both_named (named m f p) (named m g q) x y

none_named : {m : Module} {f : ValidFault} → Within m → Valid m → Named m f → (f ≡ fault.OutOfMemory → ⊥) → ⊥
none_named {m} w v (limit name p) x = not_within m name w p
none_named {m} w v (item z p) x = not_valid m z v p.1
none_named w v memory x = x refl

-- a valid module within its limits has none
pub no_fault : (m : Module) (f : ValidFault) → Within m → Valid m → (f ≡ fault.OutOfMemory → ⊥) → IsFaultOf m f → ⊥
no_fault m f w v x p = none_named w v (named m f p) x

-- ## Answers

ok_named : {m : Module} {g : ValidFault} → Within m → Valid m → Named m g → IsAnswer (Ok m) (Err g)
ok_named {m} w v (limit name p) = absurd (not_within m name w p)
ok_named {m} w v (item x p) = absurd (not_valid m x v p.1)
ok_named w v memory = inr refl

pub only_ok : (m : Module) (g : ValidFault) → Within m → Valid m → IsFaultOf m g → IsAnswer (Ok m) (Err g)
only_ok m g w v f = ok_named w v (named m g f)

limit_named : {m : Module} {g : ValidFault} (name : SizeLimit) → Passes m name → Named m g → IsAnswer (Err (fault.Limit name)) (Err g)
limit_named {m} name p (limit other q) = inl (ap (λ (n : SizeLimit). Err (fault.Limit n)) (one_limit m other name q p))
limit_named {m} name p (item x q) = absurd (not_within m name q.0 p)
limit_named name p memory = inr refl

pub only_limit : (m : Module) (g : ValidFault) (name : SizeLimit) → Passes m name → IsFaultOf m g → IsAnswer (Err (fault.Limit name)) (Err g)
only_limit m g name p f = limit_named name p (named m g f)

item_named : {m : Module} {g : ValidFault} (x : Item) → Within m → IsInvalidAt m x → Named m g → IsAnswer (Err (fault_of x)) (Err g)
item_named {m} x w p (limit name q) = absurd (not_within m name w q)
item_named {m} x w p (item y q) = inl (ap (λ (z : Item). Err (fault_of z)) (one_item m y x q.1 p))
item_named x w p memory = inr refl

pub only_item : (m : Module) (g : ValidFault) (x : Item) → Within m → IsInvalidAt m x → IsFaultOf m g → IsAnswer (Err (fault_of x)) (Err g)
only_item m g x w p f = item_named x w p (named m g f)
