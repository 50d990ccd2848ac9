-- One use of each continuation, by a list of events (stack-switching explainer, continuations: they are one-shot).
use Rattle.std.specs.Prelude.{◌≡◌, ◌↔◌, ◌<◌, ℕ, suc, ⊤, Bool, true, false, nat_eq, List, [], ◌∷◌, ◌++◌, length, take, Option, Some, None, option_and_then, slice_get, slice_set, if◌then◌else◌}
use Rattle.std.specs.List.{flat_map}
use Rattle.w_once.specs.Consumptions.{Once}
use Rattle.w_trace.specs.declared.event.Event.{Event}
use Rattle.w_trace.specs.declared.event.EventKind.{EventKind}
use Rattle.w_trace.specs.declared.event.EventKind.TheVariants.{New, Bind, Resume, Suspend, Switch, Exit}

-- ## What events use

pub data Use : Type 0 where
  Consumes : (address : ℕ) → Use
  Makes : (address : ℕ) → Use

-- what is consumed is so before another is made (stack-switching explainer, execution)
abbrev pub uses : EventKind → List Use
uses (New b) = Makes b ∷ []
uses (Bind a b) = Consumes a ∷ Makes b ∷ []
uses (Resume a) = Consumes a ∷ []
uses (Suspend x b) = Makes b ∷ []
uses (Switch a x b) = Consumes a ∷ Makes b ∷ []
uses Exit = []

abbrev pub uses_of : List Event → List Use
uses_of = flat_map (λ e. uses e.kind)

-- the addresses that are consumed, and those that are made, in order
abbrev pub consumed_by : List Use → List ℕ
consumed_by [] = []
consumed_by (Consumes a ∷ us) = a ∷ consumed_by us
consumed_by (Makes b ∷ us) = consumed_by us

abbrev pub made_by : List Use → List ℕ
made_by [] = []
made_by (Consumes a ∷ us) = made_by us
made_by (Makes b ∷ us) = b ∷ made_by us

-- ## One use of each

-- n, and then one more each time
abbrev pub AreFrom : ℕ → List ℕ → Type 0
AreFrom n [] = ⊤
AreFrom n (b ∷ bs) = (b ≡ n) × AreFrom (suc n) bs

-- what is consumed is one of those made before, n of which there are at first
abbrev pub MadeBefore : ℕ → List Use → Type 0
MadeBefore n [] = ⊤
MadeBefore n (Consumes a ∷ us) = (a < n) × MadeBefore n us
MadeBefore n (Makes b ∷ us) = MadeBefore (suc n) us

-- addresses come in order, none is consumed before it is made, and none twice
pub record IsOneShot (us : List Use) : Type 0 where
  pub in_order : AreFrom 0 (made_by us)
  pub made_before : MadeBefore 0 us
  pub once : Once (consumed_by us)

-- l is the first event with which the events aren't so any more
pub record IsUnsoundAt (es : List Event) (l : ℕ) : Type 0 where
  pub here : l < length es
  pub before : IsOneShot (uses_of (take l es))
  pub breaks : IsOneShot (uses_of (take (suc l) es)) → ⊥

-- ## The same flag by flag: by address, whether the continuation is live

abbrev pub where_live : Option Bool → List Bool → Option (List Bool)
where_live (Some true) flags = Some flags
where_live o flags = None

abbrev pub consume : ℕ → List Bool → Option (List Bool)
consume a flags = where_live (slice_get flags a) (slice_set flags a false)

abbrev pub make : ℕ → List Bool → Option (List Bool)
make b flags = if nat_eq b (length flags) then Some (flags ++ true ∷ []) else None

-- the flags behind these uses, where each is of a live one, or of the next one
abbrev pub after_uses : List Use → List Bool → Option (List Bool)
after_uses [] flags = Some flags
after_uses (Consumes a ∷ us) flags = option_and_then (after_uses us) (consume a flags)
after_uses (Makes b ∷ us) flags = option_and_then (after_uses us) (make b flags)

-- what a test told, with the flags that it left
abbrev pub Becomes : Bool → Option (List Bool) → List Bool → Type 0
Becomes true o now = o ≡ Some now
Becomes false o now = o ≡ None

-- how many are live
abbrev pub number_live : List Bool → ℕ
number_live [] = 0
number_live (true ∷ flags) = suc (number_live flags)
number_live (false ∷ flags) = number_live flags

-- ## Laws

-- what is gone through flag by flag is just what is one-shot
abbrev pub OneShotExactly : Type 0
OneShotExactly = (us : List Use) → ((flags : List Bool) × (after_uses us [] ≡ Some flags)) ↔ IsOneShot us

-- each first part of events that are one-shot is so too
abbrev pub FirstPartsAreOneShot : Type 0
FirstPartsAreOneShot = (es : List Event) (n : ℕ) → IsOneShot (uses_of es) → IsOneShot (uses_of (take n es))
