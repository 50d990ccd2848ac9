-- What is known of the first bodies of a module, before its last lists are there. All of it is said of modules within their limits, whose
-- types have supertypes of their own kind.
use Rattle.std.specs.Prelude.{◌≡◌, ◌↔◌, ◌⊎◌, ℕ, ◌<◌, ◌≤◌, List, length, Option, Some, None, slice_get}
use Rattle.w_syntax.specs.declared.module.Module.{Module}
use Rattle.w_rules.specs.Valid.{FunctionValid}
use Rattle.w_valid.specs.Measured.{IsMeasureOf}
use Rattle.w_valid.specs.declared.judged_bodies.BodyMeasure.{BodyMeasure}
use Rattle.w_valid.specs.declared.judged_bodies.Doubt.{Doubt}
use Rattle.w_valid.specs.declared.judged_bodies.JudgedBodies.{JudgedBodies}

-- this is known of the body of this index: it is valid where there are data segments enough; or it is not
abbrev pub IsBodyAnswer : Module → ℕ → Option BodyMeasure → Type 0
IsBodyAnswer m i None = FunctionValid m i → ⊥
IsBodyAnswer m i (Some b) = (FunctionValid m i ↔ (b.needs ≤ length m.datas)) × (b.needs ≤ length m.datas → IsMeasureOf m i (b.height, b.depth))

-- the body of this index is valid with at least so many data segments alone; or it is not
abbrev pub IsDoubt : Module → ℕ → Option ℕ → Type 0
IsDoubt m i None = FunctionValid m i → ⊥
IsDoubt m i (Some n) = FunctionValid m i ↔ (n ≤ length m.datas)

-- an earlier index is that of the doubted body, which is not valid; or the index stays, and the body comes later or is valid
abbrev pub IsFirstOf : Module → Doubt → ℕ → ℕ → Type 0
IsFirstOf m d first now =
    ((now ≡ first) × (d.index < first → FunctionValid m d.index)) ⊎ ((now ≡ d.index) × (d.index < first) × (FunctionValid m d.index → ⊥))

-- from this place on, one of the doubts is about the body of this index
abbrev pub IsDoubted : List Doubt → ℕ → ℕ → Type 0
IsDoubted ds k i = (j : ℕ) × (d : Doubt) × (k ≤ j) × (slice_get ds j ≡ Some d) × (d.index ≡ i)

-- the bodies are the first ones of the module: each is valid or doubted, and what is valid has these measures
pub record AreJudged (m : Module) (b : JudgedBodies) : Type 0 where
  pub as_many : length b.depths.items ≡ length b.heights.items
  pub measures : (i h d : ℕ) → slice_get b.heights.items i ≡ Some h → slice_get b.depths.items i ≡ Some d → FunctionValid m i → IsMeasureOf m i (h, d)
  pub doubts : (k : ℕ) (d : Doubt) → slice_get b.doubts.items k ≡ Some d → IsDoubt m d.index d.needs
  pub each : (i : ℕ) → i < length b.heights.items → FunctionValid m i ⊎ IsDoubted b.doubts.items 0 i

-- of so many functions this is the first that is not valid, or all are
abbrev pub IsFirstRefuted : Module → ℕ → Option ℕ → Type 0
IsFirstRefuted m n None = (j : ℕ) → j < n → FunctionValid m j
IsFirstRefuted m n (Some i) = (i < n) × (FunctionValid m i → ⊥) × ((j : ℕ) → j < i → FunctionValid m j)
