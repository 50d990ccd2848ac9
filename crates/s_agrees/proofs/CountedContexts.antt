-- Labels, frames, handles and continuations of related contexts and stores, counted.
use Rattle.std.proofs.Common.{◌≡◌, ℕ, zero, suc, ◌+◌, ◌≤◌, List, [], ◌∷◌, ◌++◌, length, Option, Some, None, refl, ap, ◌∙◌, arith}
use Rattle.std.specs.Prelude.{slice_get, slice_set}
use Rattle.lists.specs.Rows.{Row}
use Rattle.w_syntax.specs.Code.{Code}
use Rattle.w_reduce.specs.Values.{Val}
use Rattle.w_reduce.specs.Store.{Store, live_in}
use Rattle.w_reduce.specs.Terms.{Label, Frame, Handle, Context, Term, Continuation, frames, handles, with_local}
use Rattle.s_syntax.specs.declared.name.Name.{Name}
use Rattle.s_syntax.specs.declared.script.Declaration.{Declaration}
use Rattle.s_code.specs.Layouts.{Layout}
use Rattle.s_code.specs.Handlers.{Placed}
use Rattle.s_code.specs.Places.{placed_clauses}
use Rattle.s_meaning.specs.Terms.{activations, full}
use Rattle.s_meaning.specs.Terms as script
use Rattle.s_agrees.proofs.StandsFor.{Locals, Deep, here, label, clause_labels, in_loop, Base, function, clause, Waits, outside, activation, handle, group}
use Rattle.s_agrees.proofs.Contexts.{works_deep}

-- how many labels stand around the hole
abbrev pub labels : Context → ℕ
labels [] = 0
labels (Label below n again rest ∷ e) = suc (labels e)
labels (Frame below n f locals rest ∷ e) = labels e
labels (Handle below hs rest ∷ e) = labels e

-- and in the contexts of continuations
abbrev pub stored : List (Option Continuation) → ℕ
stored [] = 0
stored (None ∷ ks) = stored ks
stored (Some k ∷ ks) = labels k.term.around + stored ks

abbrev pub weight : Store → Term → ℕ
weight s t = labels t.around + stored s.conts

-- ## Contexts put together, and a local that is set

pub labels_plug : (e tail : Context) → labels (e ++ tail) ≡ labels e + labels tail
labels_plug [] tail = omega arith
labels_plug (Label below n again rest ∷ e) tail = let q = labels_plug e tail in omega (arith, q)
labels_plug (Frame below n f locals rest ∷ e) tail = labels_plug e tail
labels_plug (Handle below hs rest ∷ e) tail = labels_plug e tail

pub frames_plug : (e tail : Context) → frames (e ++ tail) ≡ frames e + frames tail
frames_plug [] tail = omega arith
frames_plug (Label below n again rest ∷ e) tail = frames_plug e tail
frames_plug (Frame below n f locals rest ∷ e) tail = let q = frames_plug e tail in omega (arith, q)
frames_plug (Handle below hs rest ∷ e) tail = frames_plug e tail

pub handles_plug : (e tail : Context) → handles (e ++ tail) ≡ handles e + handles tail
handles_plug [] tail = omega arith
handles_plug (Label below n again rest ∷ e) tail = handles_plug e tail
handles_plug (Frame below n f locals rest ∷ e) tail = handles_plug e tail
handles_plug (Handle below hs rest ∷ e) tail = let q = handles_plug e tail in omega (arith, q)

pub labels_set : (y : ℕ) (v : Val) (e : Context) → labels (with_local y v e) ≡ labels e
labels_set y v [] = refl
labels_set y v (Label below n again rest ∷ e) = ap suc (labels_set y v e)
labels_set y v (Frame below n f locals rest ∷ e) = refl
labels_set y v (Handle below hs rest ∷ e) = refl

pub frames_set : (y : ℕ) (v : Val) (e : Context) → frames (with_local y v e) ≡ frames e
frames_set y v [] = refl
frames_set y v (Label below n again rest ∷ e) = frames_set y v e
frames_set y v (Frame below n f locals rest ∷ e) = refl
frames_set y v (Handle below hs rest ∷ e) = refl

pub handles_set : (y : ℕ) (v : Val) (e : Context) → handles (with_local y v e) ≡ handles e
handles_set y v [] = refl
handles_set y v (Label below n again rest ∷ e) = handles_set y v e
handles_set y v (Frame below n f locals rest ∷ e) = refl
handles_set y v (Handle below hs rest ∷ e) = refl

-- ## The blocks of clauses

pub clauses_labels : (ds : List Declaration) (ps : List Placed) (e : Context) → labels (clause_labels ds ps e) ≡ length ps + labels e
clauses_labels ds [] e = omega arith
clauses_labels ds (p ∷ ps) e = let q = clauses_labels ds ps e in omega (arith, q)

pub clauses_frames : (ds : List Declaration) (ps : List Placed) (e : Context) → frames (clause_labels ds ps e) ≡ frames e
clauses_frames ds [] e = refl
clauses_frames ds (p ∷ ps) e = clauses_frames ds ps e

pub clauses_handles : (ds : List Declaration) (ps : List Placed) (e : Context) → handles (clause_labels ds ps e) ≡ handles e
clauses_handles ds [] e = refl
clauses_handles ds (p ∷ ps) e = clauses_handles ds ps e

-- ## Continuations

pub live_more : (s : List (Option Continuation)) (k : Continuation) → live_in (s ++ Some k ∷ []) ≡ suc (live_in s)
live_more [] k = refl
live_more (None ∷ s) k = live_more s k
live_more (Some x ∷ s) k = ap suc (live_more s k)

pub live_none : (s : List (Option Continuation)) → live_in (s ++ None ∷ []) ≡ live_in s
live_none [] = refl
live_none (None ∷ s) = live_none s
live_none (Some x ∷ s) = ap suc (live_none s)

pub stored_more : (s : List (Option Continuation)) (k : Continuation) → stored (s ++ Some k ∷ []) ≡ stored s + labels k.term.around
stored_more [] k = omega arith
stored_more (None ∷ s) k = stored_more s k
stored_more (Some x ∷ s) k = let q = stored_more s k in omega (arith, q)

pub stored_none : (s : List (Option Continuation)) → stored (s ++ None ∷ []) ≡ stored s
stored_none [] = refl
stored_none (None ∷ s) = stored_none s
stored_none (Some x ∷ s) = ap (λ (n : ℕ). labels x.term.around + n) (stored_none s)

pub live_less : (s : List (Option Continuation)) (a : ℕ) (k : Continuation) → slice_get s a ≡ Some (Some k) → suc (live_in (slice_set s a None)) ≡ live_in s
live_less [] a k h = absurd (cc)
live_less (None ∷ s) zero k h = absurd (cc)
live_less (Some x ∷ s) zero k h = refl
live_less (None ∷ s) (suc a) k h = live_less s a k h
live_less (Some x ∷ s) (suc a) k h = ap suc (live_less s a k h)

pub stored_less : (s : List (Option Continuation)) (a : ℕ) (k : Continuation) → slice_get s a ≡ Some (Some k) → stored (slice_set s a None) + labels k.term.around ≡ stored s
stored_less [] a k h = absurd (cc)
stored_less (None ∷ s) zero k h = absurd (cc)
stored_less (Some x ∷ s) zero k h =
    let same : x ≡ k = cc in let q : labels x.term.around ≡ labels k.term.around = ap (λ (z : Continuation). labels z.term.around) same in omega (arith, q)
stored_less (None ∷ s) (suc a) k h = stored_less s a k h
stored_less (Some x ∷ s) (suc a) k h = let q = stored_less s a k h in omega (arith, q)

-- what is kept of the script, counted in the same way
pub full_more : {A : Type 0} (ks : List (Option A)) (k : A) → full (ks ++ Some k ∷ []) ≡ suc (full ks)
full_more [] k = refl
full_more (None ∷ ks) k = full_more ks k
full_more (Some x ∷ ks) k = ap suc (full_more ks k)

pub full_less : {A : Type 0} (ks : List (Option A)) (a : ℕ) (k : A) → slice_get ks a ≡ Some (Some k) → suc (full (slice_set ks a None)) ≡ full ks
full_less [] a k h = absurd (cc)
full_less (None ∷ ks) zero k h = absurd (cc)
full_less (Some x ∷ ks) zero k h = refl
full_less (None ∷ ks) (suc a) k h = full_less ks a k h
full_less (Some x ∷ ks) (suc a) k h = ap suc (full_less ks a k h)

-- ## Related contexts

pub deep_frames : {f : Context} {d : ℕ} {e : Context} → Deep f d e → frames e ≡ frames f
deep_frames here = refl
deep_frames (label p) = deep_frames p

pub deep_handles : {f : Context} {d : ℕ} {e : Context} → Deep f d e → handles e ≡ handles f
deep_handles here = refl
deep_handles (label p) = deep_handles p

pub deep_labels : {f : Context} {d : ℕ} {e : Context} → Deep f d e → labels e ≡ d + labels f
deep_labels here = omega arith
deep_labels (label p) = let q = deep_labels p in omega (arith, q)

module _ {ds : List Declaration} {Γ : Layout} {L : Locals} {below : Row Val} {c : Code} {e : Context} where
  pub base_frames : {owner : Option Name} {D0 : ℕ} {f : Context} → Base ds Γ L below c e owner D0 f → frames f ≡ suc (frames e)
  base_frames (function o) = refl
  base_frames (clause {h = h} {i = i} ps is o few room) = clauses_frames ds ps (in_loop ds h i L below c e)

  pub base_handles : {owner : Option Name} {D0 : ℕ} {f : Context} → Base ds Γ L below c e owner D0 f → handles f ≡ handles e
  base_handles (function o) = refl
  base_handles (clause {h = h} {i = i} ps is o few room) = clauses_handles ds ps (in_loop ds h i L below c e)

  -- it stands inside a label
  pub base_labels : {owner : Option Name} {D0 : ℕ} {f : Context} → Base ds Γ L below c e owner D0 f → suc (labels e) ≤ labels f
  base_labels (function o) = let q : suc (labels e) ≤ suc (labels e) = omega arith in q
  base_labels (clause {h = h} {i = i} ps is o few room) =
      let q = clauses_labels ds ps (in_loop ds h i L below c e) in omega (arith, q)

pub record Counted (κ : script.Context) (e : Context) : Type 0 where
  pub frames : frames e ≤ activations κ + script.handles κ
  pub handles : handles e ≡ script.handles κ

-- each activation and each active handle is a frame, and each active handle and group a handle
pub waits_counted : {ds : List Declaration} {ρ : List ℕ} {κ : script.Context} {ops : Row Val} {c : Code} {e : Context} → Waits ds ρ κ ops c e → Counted κ e
waits_counted outside = record { frames = omega arith; handles = refl }
waits_counted (activation a w b k) =
    let q = waits_counted k in let qf = q.frames in let d = (works_deep w).1 in let x = deep_frames d in let y = base_frames b in record {
      frames = omega (arith, qf, x, y);
      handles = deep_handles d ∙ base_handles b ∙ q.handles;
    }
waits_counted {ds} (handle {h = h} {i = i} {L = L} {below = below} {c = c} {e = e} is room n g k) =
    let q = waits_counted k in let qf = q.frames in
    let x = clauses_frames ds (placed_clauses ds h i) (in_loop ds h i L below c e) in record {
      frames = omega (arith, qf, x);
      handles = ap suc (clauses_handles ds (placed_clauses ds h i) (in_loop ds h i L below c e) ∙ q.handles);
    }
waits_counted (group k) = let q = waits_counted k in let qf = q.frames in record { frames = omega (arith, qf); handles = ap suc q.handles }
