-- A whole block, as an instruction of the one around it.
use Rattle.std.proofs.Common.{◌≡◌, Bool, List, ◌∷◌, Option, Some, None, refl, sym, ap, subst}
use Rattle.w_types.specs.declared.types.ValType.{ValType}
use Rattle.lists.specs.Rows.{Row}
use Rattle.w_syntax.specs.Code.{Code}
use Rattle.w_syntax.specs.declared.instructions.BlockKind.{BlockKind}
use Rattle.w_syntax.specs.declared.instructions.BlockType.{BlockType}
use Rattle.w_canon.specs.Supertypes.{KeepsKinds}
use Rattle.w_rules.specs.Operands.{Operand}
use Rattle.w_rules.specs.Context.{Context, Arrow, arrow_of, label_of, labelled}
use Rattle.w_rules.specs.Matching.{known}
use Rattle.w_rules.specs.Typing.{HasType, Derives, set_by}
use Rattle.w_steps.specs.Labels.{arrow_at, label_in, to_of, within}
use Rattle.w_vplain.specs.Prefixes.{node, taken_by, FirstDerives}
use Rattle.w_steps.specs.declared.frame_kind.FrameKind.{FrameKind}
use Rattle.w_steps.specs.declared.frame_kind.FrameKind.TheVariants as kind
use Rattle.w_vplain.proofs.Options.{held_at, at_held, held_none}
use Rattle.w_vplain.proofs.BlockEnds.{EndTest}
use Rattle.w_rules.proofs.Derive.{steps_right}
use Rattle.w_rules.proofs.Preorder.{row_refl}

-- a block in another, which is not the body
pub data Inner : FrameKind → Type 0 where
  is_block : (b : BlockKind) (x : BlockType) → Inner (kind.Block b x)
  is_then : (x : BlockType) → Inner (kind.Then x)
  is_else : (x : BlockType) → Inner (kind.Else x)

-- its instructions lead from its parameters to its results
abbrev pub Whole : Context → List Bool → FrameKind → Code → Code → List FrameKind → Arrow → Type 0
Whole c s k f d ks a =
    (FirstDerives (within c (k ∷ ks)) s k f a × Derives (within c (k ∷ ks)) s d (known a.from) (known a.to)) × EndTest c k a

-- the label of a block whose type is there
pub label_is : (f : Arrow → Row ValType) (o : Option Arrow) (a : Arrow) → o ≡ Some a → label_in f o ≡ f a
label_is f o a e = ap (label_in f) e

-- in these blocks, with the label of the innermost one at hand
abbrev pub labelled_by : Context → List FrameKind → Row ValType → Context
labelled_by c ks us = labelled (within c ks) us

-- a whole block steps from what it takes to its results
pub node_in : (c : Context) (s : List Bool) (k : FrameKind) → Inner k → (f d : Code) (ks : List FrameKind) (a : Arrow) → arrow_at c k ≡ Some a → Whole c s k f d ks a →
    (vs us : Row Operand) → HasType c.types (known (taken_by k a)) (known a.to) vs us → Derives (within c ks) s (node k f d) vs us
node_in c s k (is_block b x) f d ks a eq w vs us st =
    at_held (arrow_of c x) a _ eq
    (subst (λ (v : Row ValType). Derives (labelled_by c ks v) s d (known a.from) (known a.to)) (label_is (label_of b) (arrow_of c x) a eq) w.0.1, (us, st, row_refl c.types us))
node_in c s k (is_then x) f d ks a eq w vs us st =
    at_held (arrow_of c x) a _ eq
    (w.1, subst (λ (v : Row ValType). Derives (labelled_by c ks v) s d (known a.from) (known a.to)) (label_is to_of (arrow_of c x) a eq) w.0.1, (us, st, row_refl c.types us))
node_in c s k (is_else x) f d ks a eq w vs us st =
    at_held (arrow_of c x) a _ eq (
      subst (λ (v : Row ValType). Derives (labelled_by c ks v) s f (known a.from) (known a.to)) (label_is to_of (arrow_of c x) a eq) w.0.0,
      subst (λ (v : Row ValType). Derives (labelled_by c ks v) s d (known a.from) (known a.to)) (label_is to_of (arrow_of c x) a eq) w.0.1,
      (us, st, row_refl c.types us),
    )

-- and only such a block is derived
pub node_out : (c : Context) → KeepsKinds c.types → (s : List Bool) (k : FrameKind) → Inner k → (f d : Code) (ks : List FrameKind) (a : Arrow) → arrow_at c k ≡ Some a → (vs us : Row Operand) →
    Derives (within c ks) s (node k f d) vs us → Whole c s k f d ks a × HasType c.types (known (taken_by k a)) (known a.to) vs us
node_out c keeps s k (is_block b x) f d ks a eq vs us n =
    let h = held_at (arrow_of c x) a _ eq n in (
      ((tt, subst (λ (v : Row ValType). Derives (labelled_by c ks v) s d (known a.from) (known a.to)) (sym (label_is (label_of b) (arrow_of c x) a eq)) h.0), tt),
      steps_right c.types keeps (known a.from) (known a.to) vs h.1.0 us h.1.1 h.1.2,
    )
node_out c keeps s k (is_then x) f d ks a eq vs us n =
    let h = held_at (arrow_of c x) a _ eq n in (
      ((tt, subst (λ (v : Row ValType). Derives (labelled_by c ks v) s d (known a.from) (known a.to)) (sym (label_is to_of (arrow_of c x) a eq)) h.1), h.0),
      steps_right c.types keeps (known (taken_by (kind.Then x) a)) (known a.to) vs h.2.0 us h.2.1 h.2.2,
    )
node_out c keeps s k (is_else x) f d ks a eq vs us n =
    let h = held_at (arrow_of c x) a _ eq n in (
      (
        (
          subst (λ (v : Row ValType). Derives (labelled_by c ks v) s f (known a.from) (known a.to)) (sym (label_is to_of (arrow_of c x) a eq)) h.0,
          subst (λ (v : Row ValType). Derives (labelled_by c ks v) s d (known a.from) (known a.to)) (sym (label_is to_of (arrow_of c x) a eq)) h.1,
        ),
        tt,
      ),
      steps_right c.types keeps (known (taken_by (kind.Else x) a)) (known a.to) vs h.2.0 us h.2.1 h.2.2,
    )

-- without a type it is not
pub no_node : (c : Context) (s : List Bool) (k : FrameKind) → Inner k → (f d : Code) (ks : List FrameKind) → arrow_at c k ≡ None → (vs us : Row Operand) →
    Derives (within c ks) s (node k f d) vs us → ⊥
no_node c s k (is_block b x) f d ks eq vs us n = held_none (arrow_of c x) _ eq n
no_node c s k (is_then x) f d ks eq vs us n = held_none (arrow_of c x) _ eq n
no_node c s k (is_else x) f d ks eq vs us n = held_none (arrow_of c x) _ eq n

-- a block leaves the locals as they were set
pub node_sets : (k : FrameKind) → Inner k → (f d : Code) (s : List Bool) → set_by (node k f d) s ≡ s
node_sets k (is_block b x) f d s = refl
node_sets k (is_then x) f d s = refl
node_sets k (is_else x) f d s = refl
