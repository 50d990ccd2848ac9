-- The empty sequence, and the whole body at its end.
use Rattle.std.proofs.Common.{◌≡◌, ◌↔◌, Bool, false, List, [], ◌∷◌, ◌++◌, refl, sym, subst}
use Rattle.w_types.specs.declared.types.ValType.{ValType}
use Rattle.lists.specs.Rows.{ε, row_of}
use Rattle.w_syntax.specs.Code.{Code}
use Rattle.w_syntax.specs.Flat.{tree_of, IsFlat}
use Rattle.w_syntax.specs.declared.instructions.Instr.{Instr}
use Rattle.w_syntax.specs.declared.locals.LocalRun.{LocalRun}
use Rattle.w_rules.specs.Bodies.{types_of_runs, set_first, BodyTyped}
use Rattle.w_rules.specs.Context.{Context}
use Rattle.w_rules.specs.Matching.{known}
use Rattle.w_rules.specs.Peak.{peak, depth}
use Rattle.w_rules.specs.Spaces.{in_body}
use Rattle.w_rules.specs.Typing.{Derives}
use Rattle.w_steps.specs.Labels.{within}
use Rattle.w_vplain.specs.Prefixes.{Prefix, ended, empty, follow_all, IsDerivable}
use Rattle.w_vplain.specs.Frames.{Frame, FramesStand}
use Rattle.w_vplain.specs.Measures.{peak_of, depth_of, CountsFor}
use Rattle.w_steps.specs.declared.frame_kind.FrameKind.TheVariants as kind
use Rattle.w_vplain.proofs.BlockEnds.{covers_matches, matches_covers}
use Rattle.w_vplain.proofs.BodiesFollowed.{follow_flat}

-- ## The beginning

-- the frame of a body where it begins
abbrev pub first_frame : List Bool → Frame
first_frame s = record { kind = kind.Body; any = false; operands = ε; is_set = s }

-- it stands for the empty sequence
pub begin_stands : (c : Context) (s : List Bool) → FramesStand c s (first_frame s ∷ []) empty
begin_stands c s = (
  record {
    kind = refl;
    is_set = refl;
    reaches = λ us r. matches_covers c.types ε us r.1;
    reached = λ us h. (tt, covers_matches c.types ε us h);
  },
  tt,
)

-- and counts
pub begin_counts : (c : Context) (s : List Bool) → CountsFor c s (first_frame s ∷ []) empty
begin_counts c s = (refl, tt)

-- its peak
pub begin_peak : (c : Context) (s : List Bool) → peak_of c s empty ≡ 0
begin_peak c s = refl

-- one block is around it
pub begin_depth : depth_of empty ≡ 1
begin_depth = refl

-- ## The end

-- the frames of a whole body are none, and it is derived
pub end_derived : (c : Context) (s : List Bool) (k : Code) → FramesStand c s [] (ended k) → Derives (within c (kind.Body ∷ [])) s k ε (known c.results)
end_derived c s k st = st.1

-- in a body's context, a whole body is derived exactly where it takes no operands to its results
pub body_derivable : (c : Context) (locals results : List ValType) (s : List Bool) (k : Code) →
    IsDerivable (in_body c locals results) s (ended k) ↔ Derives (in_body c locals results) s k ε (known (row_of results))
body_derivable c locals results s k = (λ g. g, λ d. d)

-- and so exactly where it is typed
pub body_typed : (c : Context) (params : List ValType) (runs : List LocalRun) (results : List ValType) (k : Code) →
    IsDerivable (in_body c (params ++ types_of_runs runs) results) (set_first params runs) (ended k) ↔ BodyTyped c params runs results k
body_typed c params runs results k = (λ g. g, λ d. d)

-- its peak
pub body_peak : (c : Context) (locals results : List ValType) (s : List Bool) (k : Code) →
    peak_of (in_body c locals results) s (ended k) ≡ peak (in_body c locals results) s k 0
body_peak c locals results s k = refl

-- its depth
pub body_depth : (k : Code) → depth_of (ended k) ≡ depth k
body_depth k = refl

-- the list of a body leads to it
pub flat_derivable : (c : Context) (s : List Bool) (is : List Instr) → IsFlat is → IsDerivable c s (follow_all is empty) ↔ IsDerivable c s (ended (tree_of is))
flat_derivable c s is h =
    let P : Prefix → Type 0 = λ w. IsDerivable c s w ↔ IsDerivable c s (ended (tree_of is)) in
    subst P (sym (follow_flat is h)) (λ g. g, λ g. g)
