-- What a module is judged in, and what is known of it then.
use Rattle.std.proofs.Common.{◌≡◌, ℕ, List, Bool, false, length, replicate, ap, ◌∙◌}
use Rattle.std.proofs.lemmas.Option.{slice_get_within}
use Rattle.w_syntax.specs.declared.module.Module.{Module}
use Rattle.w_canon.specs.IsClassesOf.{IsClassesOf}
use Rattle.w_rules.specs.declared.facts.Facts.{Facts}
use Rattle.w_rules.specs.Facts.{AreFacts}
use Rattle.w_rules.specs.Spaces.{functions_of, marked, named_of, declared_of}
use Rattle.w_valid.specs.Measured.{AreMeasures}

-- of each function, whether it may be named
pub declared_by : (m : Module) (n : ℕ) (flags : List Bool) → flags ≡ marked (replicate n false) (named_of m) → n ≡ length (functions_of m) → flags ≡ declared_of m
declared_by m n flags e f = e ∙ ap (λ (k : ℕ). marked (replicate k false) (named_of m)) f

-- the facts of a module
pub are_facts : (m : Module) (facts : Facts) → AreMeasures m facts.heights.items facts.depths.items → facts.declared.items ≡ declared_of m → IsClassesOf m.types facts.classes → AreFacts m facts
are_facts m facts measures declared classes = record {
  measures = record {
    as_many_heights = measures.as_many_heights;
    as_many_depths = measures.as_many_depths;
    heights = λ i t f a b. measures.heights i t f a b (slice_get_within m.codes i f b);
    depths = λ i t f a b. measures.depths i t f a b (slice_get_within m.codes i f b);
  };
  declared = declared;
  classes = classes;
}
