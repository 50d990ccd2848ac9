-- The machine values of a handle and of a box as its pointer, and what they own.
use Rattle.std.proofs.Common.{◌≡◌, List, [], ◌∷◌, ◌++◌, Option, None, Some, is_some, refl, subst, lit<}
use mathlib.Core.Bool.{Bool, true, false, ◌&&◌}
use seplogic.Ra.Ura.{Ura}
use lib.Dec.{T}
use mir.Syntax.{ty_ptr}
use mir.Val.{Val, vbool, vstruct, vcons, vnil, of_list, has_ty, WT}
use types.Logic.{Logic}
use types.Kit.{Item, Goal, Seq, Step, step, ‵, ◌$◌, drop, fsplit, fjoin, fpick, fpack, feq_i, feq_l}
use denote.RattleType.{RattleType, Valss}
use denote.Builtin.{RawPtr, bool}
use denote.RawPtr.{Ptr, block_ptr, null_ptr, ptr_val}
use denote.Steps.{nothing}
use denote.Struct.Struct.{within}
use denote.Struct.Owning.{shape}
use Rattle.handles.specs.Owned.{boxed, boxed_if}
use Rattle.handles.specs.contracts.held_run.HeldRun as held_run
use Rattle.handles.specs.contracts.handle.Handle as handle
use Rattle.handles.specs.contracts.loose.Loose as loose

-- a pointer and a mark
abbrev pub marked : Val → Bool → Val
marked v t = vstruct (vcons v (vcons (vbool t) vnil))

-- a pointer alone
abbrev pub alone : Val → Val
alone v = vstruct (vcons v vnil)

abbrev X : Type 0
X = (held_run.the_row).Denot

module _ {M : Type 1} {𝓤 : Ura M} {𝓛 : Logic 𝓤} {K : Type 0} {Γ : List (Item 𝓤)} {G : Goal 𝓤 𝓛.H} where
  -- a handle is made of what it owns
  pub handle_in : K → (p : Ptr) (o : Option X)
      → Step K 𝓛 (‵ ((handle.the_row).own_val (record { at = p; held = is_some o; run = o }) (marked (ptr_val p) (is_some o) ∷ [])) ∷ Γ) G (‵ (boxed_if held_run.the_row p o) ∷ Γ) G
  handle_in k p o = step (λ s. let t = is_some o in let w = marked (ptr_val p) t in
      feq_i k Bool t t refl $ fjoin k $
      nothing k $ feq_i k (List Val) (vbool t ∷ []) (vbool t ∷ []) refl $ fjoin k $ feq_i k (List Val) (ptr_val p ∷ []) (ptr_val p ∷ []) refl $ fjoin k $
      feq_i k (List Val) (w ∷ []) (w ∷ []) refl $ fjoin k $
      fpack k (Valss (RawPtr ∷ bool ∷ [])) (within (shape handle.the_type) (p, (t, tt)) (w ∷ [])) (ptr_val p ∷ [], (vbool t ∷ [], tt)) $ fjoin k $ s)

  -- a box as its pointer is made of the box
  pub loose_in : K → (R : RattleType) (p : Ptr) (x : R.Denot)
      → Step K 𝓛 (‵ ((loose.the_row R).own_val (record { at = p; value = x }) (alone (ptr_val p) ∷ [])) ∷ Γ) G (‵ (boxed R p x) ∷ Γ) G
  loose_in k R p x = step (λ s. let w = alone (ptr_val p) in
      nothing k $ feq_i k (List Val) (ptr_val p ∷ []) (ptr_val p ∷ []) refl $ fjoin k $ feq_i k (List Val) (w ∷ []) (w ∷ []) refl $ fjoin k $
      fpack k (Valss (RawPtr ∷ [])) (within (shape (loose.the_type R)) (p, tt) (w ∷ [])) (ptr_val p ∷ [], tt) $ fjoin k $ s)

  -- a box as its pointer owns the box
  pub loose_out : K → (R : RattleType) (d : (loose.the_row R).Denot) (vs : List Val) → (vs ≡ alone (ptr_val d.at) ∷ [] → Seq K 𝓛 (‵ (boxed R d.at d.value) ∷ Γ) G)
      → Seq K 𝓛 (‵ ((loose.the_row R).own_val d vs) ∷ Γ) G
  loose_out k R d vs next = fsplit k $ fpick k (λ vss. fsplit k $ feq_l k (λ e. fsplit k $ feq_l k (λ at. drop k $
      next (subst (λ (ps : List Val). vs ≡ vstruct (of_list (ps ++ [])) ∷ []) at e))))

  -- a handle owns a box, or nothing
  pub handle_out : K → (d : (handle.the_row).Denot) (vs : List Val)
      → ((x : X) → d.run ≡ Some x → vs ≡ marked (ptr_val d.at) true ∷ [] → Seq K 𝓛 (‵ (boxed held_run.the_row d.at x) ∷ Γ) G)
      → (d.run ≡ None → vs ≡ marked (ptr_val d.at) false ∷ [] → Seq K 𝓛 Γ G)
      → Seq K 𝓛 (‵ ((handle.the_row).own_val d vs) ∷ Γ) G
  handle_out k d vs full none = fsplit k $ fpick k (λ vss. fsplit k $ feq_l k (λ e. fsplit k $ feq_l k (λ at. fsplit k $ feq_l k (λ mark. drop k $ fsplit k $ feq_l k (λ says.
      by_value d.run refl (subst (λ (t : Bool). vs ≡ marked (ptr_val d.at) t ∷ []) says
      (subst (λ (bs : List Val). vs ≡ vstruct (of_list (ptr_val d.at ∷ (bs ++ []))) ∷ []) mark (subst (λ (ps : List Val). vs ≡ vstruct (of_list (ps ++ (vss.1.0 ++ []))) ∷ []) at e)))))))) where
        by_value : (o : Option X) → d.run ≡ o → vs ≡ marked (ptr_val d.at) (is_some o) ∷ [] → Seq K 𝓛 (‵ (boxed_if held_run.the_row d.at o) ∷ Γ) G
        by_value (Some x) is are = full x is are
        by_value None is are = drop k $ none is are

-- each pointer has its type
pub ptr_good : (p : Ptr) → T (has_ty ty_ptr (ptr_val p)) × WT (ptr_val p)
ptr_good (block_ptr b o) = (tt, tt)
ptr_good null_ptr = (tt, record { fits = lit< tt })

pub and_true : (t : Bool) → T t → T (t && true)
and_true true is = tt
and_true false is = absurd is

-- and so have the pointer alone, and with a mark
pub alone_good : (p : Ptr) → T (has_ty ty_ptr (ptr_val p) && true) × WT (alone (ptr_val p))
alone_good p = (and_true _ (ptr_good p).0, ((ptr_good p).1, tt))

pub marked_good : (p : Ptr) (t : Bool) → T (has_ty ty_ptr (ptr_val p) && true) × WT (marked (ptr_val p) t)
marked_good p t = (and_true _ (ptr_good p).0, ((ptr_good p).1, (tt, tt)))
