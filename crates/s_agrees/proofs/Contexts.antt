-- Related contexts: changed beyond their labels, cut at what they end in, and with more resumptions.
use Rattle.std.proofs.Common.{◌≡◌, ℕ, suc, ◌+◌, ◌≤◌, List, [], ◌∷◌, ◌++◌, length, Option, Some, refl, sym, ap, ◌∙◌, subst, arith}
use Rattle.std.specs.Prelude.{slice_set}
use Rattle.lists.specs.Rows.{Row, ε}
use Rattle.w_syntax.specs.Code.{Code, Done}
use Rattle.w_reduce.specs.Values.{Val}
use Rattle.w_reduce.specs.Terms.{rest_of, Label, Frame, Handle, Context, locals_of, with_local}
use Rattle.s_syntax.specs.declared.name.Name.{Name}
use Rattle.s_syntax.specs.declared.script.Declaration.{Declaration}
use Rattle.s_syntax.specs.BlockTree.{BlockTree}
use Rattle.s_code.specs.Layouts.{Layout}
use Rattle.s_code.specs.Expressions.{operands}
use Rattle.s_code.specs.Handlers.{Placed, clause_code, labels, return_code}
use Rattle.s_code.specs.Places.{return_layout, placed_clauses}
use Rattle.s_meaning.specs.Terms.{Use, Work, Handle as Handled}
use Rattle.s_meaning.specs.Terms as script
use Rattle.s_meaning.proofs.Lists.{length_set}
use Rattle.s_agrees.proofs.StandsFor.{Locals, Deep, here, label, Rest, ends, does, leaves, while_loop, Uses, sets, prints, drops, returns, puts, chooses, Works, under, left, compared, computed, connected, calling, doing, handling_first, handling_second, resuming_first, resuming_second, grouping, tail_first, tail_second, tail_calling, within, clause_labels, in_loop, Base, function, clause, Waits, outside, activation, handle, group}
use Rattle.s_agrees.proofs.StandsFor as standing
use Rattle.s_agrees.proofs.MoreResumptions.{Grows, same_grows, sames_grow, local_grows, held_grows, held_at_grows, active_grows, asides_grow, local_kept, held_at_kept, asides_kept}

-- ## A change of contexts that leaves labels as they are

pub record Beyond (F : Context → Context) : Type 0 where
  pub label_stays : (below : Row Val) (m : ℕ) (again rest : Code) (e : Context) → F (Label below m again rest ∷ e) ≡ Label below m again rest ∷ F e

pub setting : (y : ℕ) (v : Val) → Beyond (with_local y v)
setting y v = record { label_stays = λ b m a r e. refl }

pub plugging : (tail : Context) → Beyond (λ (e : Context). e ++ tail)
plugging tail = record { label_stays = λ b m a r e. refl }

module _ {F : Context → Context} (beyond : Beyond F) where
  pub deep_beyond : {f : Context} {d : ℕ} {e : Context} → Deep f d e → Deep (F f) d (F e)
  deep_beyond here = here
  deep_beyond {f} (label {d = d} {m = m} {e = e} {below = below} {again = again} {rest = rest} p) =
      subst (λ (z : Context). Deep (F f) (suc d) z) (sym (beyond.label_stays below m again rest e)) (label (deep_beyond p))

  pub rest_beyond : {ds : List Declaration} {Γ : Layout} {n D0 : ℕ} {f : Context} {D : ℕ} {b : BlockTree} {c : Code} {e : Context}
      → Rest ds Γ n D0 f D b c e → Rest ds Γ n D0 (F f) D b c (F e)
  rest_beyond ends = ends
  rest_beyond (does w r) = does w (rest_beyond r)
  rest_beyond {ds} {Γ} {n} {D0} {f} (leaves {D = D} {m = m} {b = b} {again = again} {rest = rest} {e = e} r) =
      subst (λ (z : Context). Rest ds Γ n D0 (F f) (D + 1) b Done z) (sym (beyond.label_stays ε m again rest e)) (leaves (rest_beyond r))
  rest_beyond {ds} {Γ} {n} {D0} {f} {b = b} {c = c} (standing.Rest.turns {D = D} {x = x} {b = b'} {c = c'} {e = e} w v r) =
      subst (λ (z : Context). Rest ds Γ n D0 (F f) (D + 2) b c z)
      (ap (λ (z : Context). Label ε 0 (while_loop ds Γ D x b') Done ∷ z) (sym (beyond.label_stays ε 0 Done c' e)) ∙ sym (beyond.label_stays ε 0 (while_loop ds Γ D x b') Done (Label ε 0 Done c' ∷ e)))
      (standing.Rest.turns w v (rest_beyond r))

  pub uses_beyond : {ds : List Declaration} {Γ : Layout} {n D0 : ℕ} {f : Context} {u : Use} {b : BlockTree} {c : Code} {e : Context}
      → Uses ds Γ n D0 f u b c e → Uses ds Γ n D0 (F f) u b c (F e)
  uses_beyond (sets h r) = sets h (rest_beyond r)
  uses_beyond (prints r) = prints (rest_beyond r)
  uses_beyond (drops r) = drops (rest_beyond r)
  uses_beyond (puts q h free r) = puts q h free (rest_beyond r)
  uses_beyond (standing.Uses.takes q h free r) = standing.Uses.takes q h free (rest_beyond r)
  uses_beyond (standing.Uses.switches hx hu hk r) = standing.Uses.switches hx hu hk (rest_beyond r)
  uses_beyond (returns p) = returns (deep_beyond p)
  uses_beyond (chooses v w r) = chooses v w (rest_beyond r)
  uses_beyond {ds} {Γ} {n} {D0} {f} {u = u} {b = b} {c = c} (standing.Uses.turns {D = D} {x = x} {b = b'} {c = c'} {e = e} w v r) =
      subst (λ (z : Context). Uses ds Γ n D0 (F f) u b c z)
      (ap (λ (z : Context). Label ε 0 (while_loop ds Γ D x b') Done ∷ z) (sym (beyond.label_stays ε 0 Done c' e)) ∙ sym (beyond.label_stays ε 0 (while_loop ds Γ D x b') Done (Label ε 0 Done c' ∷ e)))
      (standing.Uses.turns w v (rest_beyond r))

  pub works_beyond : {ds : List Declaration} {ρ : List ℕ} {Γ : Layout} {n D0 : ℕ} {f : Context} {t : ℕ} {L : Locals} {k : List Work} {ops : Row Val} {c : Code} {e : Context}
      → Works ds ρ Γ n D0 f t L k ops c e → Works ds ρ Γ n D0 (F f) t L k ops c (F e)
  works_beyond (under w) = under (works_beyond w)
  works_beyond (left x p w) = left x p (works_beyond w)
  works_beyond (compared s p w) = compared s p (works_beyond w)
  works_beyond (computed s p w) = computed s p (works_beyond w)
  works_beyond {ds} {ρ} {Γ} {n} {D0} {f} {t} {L} {k = k} {c = c} (connected {more = more} {ops = ops} {c = c'} {e = e} d p w) =
      subst (λ (z : Context). Works ds ρ Γ n D0 (F f) t L k ε c z) (sym (beyond.label_stays ops 1 Done (operands ds Γ t more c') e)) (connected d p (works_beyond w))
  works_beyond (calling a s w) = calling a s (works_beyond w)
  works_beyond (doing a s w) = doing a s (works_beyond w)
  works_beyond (handling_first ns le a w) = handling_first ns le a (works_beyond w)
  works_beyond (handling_second ns le m i a h s w) = handling_second ns le m i a h s (works_beyond w)
  works_beyond (resuming_first lt a w) = resuming_first lt a (works_beyond w)
  works_beyond (resuming_second le lt a l s w) = resuming_second le lt a l s (works_beyond w)
  works_beyond (grouping i w) = grouping i (works_beyond w)
  works_beyond (tail_first c lt o a p q) = tail_first c lt o a (deep_beyond p) q
  works_beyond (tail_second c lt o a l s p q) = tail_second c lt o a l s (deep_beyond p) q
  works_beyond (tail_calling c a s p) = tail_calling c a s (deep_beyond p)
  works_beyond (within u) = within (uses_beyond u)

-- ## More resumptions, and a temporary that is set

pub works_grow : {ds : List Declaration} {ρ ρ' : List ℕ} {Γ : Layout} {n D0 : ℕ} {f : Context} {t : ℕ} {L : Locals} {k : List Work} {ops : Row Val} {c : Code} {e : Context}
    → Grows ρ ρ' → Works ds ρ Γ n D0 f t L k ops c e → Works ds ρ' Γ n D0 f t L k ops c e
works_grow g (under w) = under (works_grow g w)
works_grow g (left x p w) = left x p (works_grow g w)
works_grow g (compared s p w) = compared (same_grows g s) p (works_grow g w)
works_grow g (computed s p w) = computed (same_grows g s) p (works_grow g w)
works_grow g (connected d p w) = connected d p (works_grow g w)
works_grow g (calling a s w) = calling a (sames_grow g s) (works_grow g w)
works_grow g (doing a s w) = doing a (sames_grow g s) (works_grow g w)
works_grow g (handling_first ns le a w) = handling_first ns le (asides_grow g a) (works_grow g w)
works_grow g (handling_second ns le m i a h s w) = handling_second ns le m i a (held_at_grows g h) (sames_grow g s) (works_grow g w)
works_grow g (resuming_first lt a w) = resuming_first lt a (works_grow g w)
works_grow g (resuming_second le lt a l s w) = resuming_second le lt a (local_grows g l) (sames_grow g s) (works_grow g w)
works_grow g (grouping i w) = grouping i (works_grow g w)
works_grow g (tail_first c lt o a p q) = tail_first c lt o a p q
works_grow g (tail_second c lt o a l s p q) = tail_second c lt o a (local_grows g l) (sames_grow g s) p q
works_grow g (tail_calling c a s p) = tail_calling c a (sames_grow g s) p
works_grow g (within u) = within u

-- of the locals at and behind y, none is in use
pub works_kept : {ds : List Declaration} {ρ : List ℕ} {Γ : Layout} {n D0 : ℕ} {f : Context} {t : ℕ} {L : Locals} {k : List Work} {ops : Row Val} {c : Code} {e : Context} (y : ℕ) (v : Option Val)
    → Γ.temporaries + t ≤ y → Works ds ρ Γ n D0 f t L k ops c e → Works ds ρ Γ n D0 f t (slice_set L y v) k ops c e
works_kept y v r (under w) = under (works_kept y v r w)
works_kept y v r (left x p w) = left x p (works_kept y v r w)
works_kept y v r (compared s p w) = compared s p (works_kept y v r w)
works_kept y v r (computed s p w) = computed s p (works_kept y v r w)
works_kept y v r (connected d p w) = connected d p (works_kept y v r w)
works_kept y v r (calling a s w) = calling a s (works_kept y v r w)
works_kept y v r (doing a s w) = doing a s (works_kept y v r w)
works_kept y v r (handling_first ns le a w) = handling_first ns le (asides_kept y v r a) (works_kept y v (omega (arith, le, r)) w)
works_kept y v r (handling_second ns le m i a h s w) = handling_second ns le m i a (held_at_kept y v r h) s (works_kept y v (omega (arith, le, r)) w)
works_kept y v r (resuming_first lt a w) = resuming_first lt a (works_kept y v r w)
works_kept y v r (resuming_second le lt a l s w) = resuming_second le lt a (local_kept y v (omega (arith, lt, r)) l) s (works_kept y v (omega (arith, le, r)) w)
works_kept y v r (grouping i w) = grouping i (works_kept y v r w)
works_kept y v r (tail_first c lt o a p q) = tail_first c lt o a p q
works_kept y v r (tail_second c lt o a l s p q) = tail_second c lt o a (local_kept y v (omega (arith, lt, r)) l) s p q
works_kept y v r (tail_calling c a s p) = tail_calling c a s p
works_kept y v r (within u) = within u

-- ## The labels of an activation

pub deep_locals : {f : Context} {d : ℕ} {e : Context} → Deep f d e → locals_of e ≡ locals_of f
deep_locals here = refl
deep_locals (label p) = deep_locals p

-- how deep a place is in its frame, and in the handler's loop
pub record Depth (D0 : ℕ) (f : Context) (D : ℕ) (e : Context) : Type 0 where
  pub labels : ℕ
  pub deep : Deep f labels e
  pub inside : D ≡ labels + D0

pub rest_deep : {ds : List Declaration} {Γ : Layout} {n D0 : ℕ} {f : Context} {D : ℕ} {b : BlockTree} {c : Code} {e : Context} → Rest ds Γ n D0 f D b c e → Depth D0 f D e
rest_deep {D0 = D0} ends = record { labels = 0; deep = here; inside = let z : D0 ≡ 0 + D0 = omega arith in z }
rest_deep (does w r) = rest_deep r
rest_deep {D0 = D0} (leaves {D = D} r) = let q = rest_deep r in let i = q.inside in record { labels = suc q.labels; deep = label q.deep; inside = let z : D + 1 ≡ suc q.labels + D0 = omega (arith, i) in z }
rest_deep {D0 = D0} (standing.Rest.turns {D = D} w v r) =
    let q = rest_deep r in let i = q.inside in record { labels = suc (suc q.labels); deep = label (label q.deep); inside = let z : D + 2 ≡ suc (suc q.labels) + D0 = omega (arith, i) in z }

pub uses_deep : {ds : List Declaration} {Γ : Layout} {n D0 : ℕ} {f : Context} {u : Use} {b : BlockTree} {c : Code} {e : Context} → Uses ds Γ n D0 f u b c e → (d : ℕ) × Deep f d e
uses_deep (sets h r) = let q = rest_deep r in (q.labels, q.deep)
uses_deep (prints r) = let q = rest_deep r in (q.labels, q.deep)
uses_deep (drops r) = let q = rest_deep r in (q.labels, q.deep)
uses_deep (puts s h free r) = let q = rest_deep r in (q.labels, q.deep)
uses_deep (standing.Uses.takes s h free r) = let q = rest_deep r in (q.labels, q.deep)
uses_deep (standing.Uses.switches hx hu hk r) = let q = rest_deep r in (q.labels, q.deep)
uses_deep (returns {d = d} p) = (d, p)
uses_deep (chooses v w r) = let q = rest_deep r in (q.labels, q.deep)
uses_deep (standing.Uses.turns w v r) = let q = rest_deep r in (suc (suc q.labels), label (label q.deep))

pub works_deep : {ds : List Declaration} {ρ : List ℕ} {Γ : Layout} {n D0 : ℕ} {f : Context} {t : ℕ} {L : Locals} {k : List Work} {ops : Row Val} {c : Code} {e : Context}
    → Works ds ρ Γ n D0 f t L k ops c e → (d : ℕ) × Deep f d e
works_deep (under w) = works_deep w
works_deep (left x p w) = works_deep w
works_deep (compared s p w) = works_deep w
works_deep (computed s p w) = works_deep w
works_deep (connected d p w) = let q = works_deep w in (suc q.0, label q.1)
works_deep (calling a s w) = works_deep w
works_deep (doing a s w) = works_deep w
works_deep (handling_first ns le a w) = works_deep w
works_deep (handling_second ns le m i a h s w) = works_deep w
works_deep (resuming_first lt a w) = works_deep w
works_deep (resuming_second le lt a l s w) = works_deep w
works_deep (grouping i w) = works_deep w
works_deep (tail_first {d = d} c lt o a p q) = (d, p)
works_deep (tail_second {d = d} c lt o a l s p q) = (d, p)
works_deep (tail_calling {d = d} c a s p) = (d, p)
works_deep (within u) = uses_deep u

-- ## Cutting: what a context ends in

module _ {f : Context} (f1 tail : Context) (split : f ≡ f1 ++ tail) where
  pub deep_cut : {d : ℕ} {e : Context} → Deep f d e → (e1 : Context) × Deep f1 d e1 × (e ≡ e1 ++ tail)
  deep_cut here = (f1, here, split)
  deep_cut (label {m = m} {below = below} {again = again} {rest = rest} p) =
      let x = deep_cut p in (Label below m again rest ∷ x.0, label x.1, ap (λ (z : Context). Label below m again rest ∷ z) x.2)

  pub rest_cut : {ds : List Declaration} {Γ : Layout} {n D0 D : ℕ} {b : BlockTree} {c : Code} {e : Context} → Rest ds Γ n D0 f D b c e
      → (e1 : Context) × Rest ds Γ n D0 f1 D b c e1 × (e ≡ e1 ++ tail)
  rest_cut ends = (f1, ends, split)
  rest_cut (does w r) = let x = rest_cut r in (x.0, does w x.1, x.2)
  rest_cut (leaves {m = m} {again = again} {rest = rest} r) = let x = rest_cut r in (Label ε m again rest ∷ x.0, leaves x.1, ap (λ (z : Context). Label ε m again rest ∷ z) x.2)
  rest_cut {ds} {Γ} (standing.Rest.turns {D = D} {x = y} {b = b} {c = c} w v r) =
      let x = rest_cut r in
      (Label ε 0 (while_loop ds Γ D y b) Done ∷ Label ε 0 Done c ∷ x.0, standing.Rest.turns w v x.1, ap (λ (z : Context). Label ε 0 (while_loop ds Γ D y b) Done ∷ Label ε 0 Done c ∷ z) x.2)

  pub uses_cut : {ds : List Declaration} {Γ : Layout} {n D0 : ℕ} {u : Use} {b : BlockTree} {c : Code} {e : Context} → Uses ds Γ n D0 f u b c e
      → (e1 : Context) × Uses ds Γ n D0 f1 u b c e1 × (e ≡ e1 ++ tail)
  uses_cut (sets h r) = let x = rest_cut r in (x.0, sets h x.1, x.2)
  uses_cut (prints r) = let x = rest_cut r in (x.0, prints x.1, x.2)
  uses_cut (drops r) = let x = rest_cut r in (x.0, drops x.1, x.2)
  uses_cut (puts q h free r) = let x = rest_cut r in (x.0, puts q h free x.1, x.2)
  uses_cut (standing.Uses.takes q h free r) = let x = rest_cut r in (x.0, standing.Uses.takes q h free x.1, x.2)
  uses_cut (standing.Uses.switches hx hu hk r) = let x = rest_cut r in (x.0, standing.Uses.switches hx hu hk x.1, x.2)
  uses_cut (returns p) = let x = deep_cut p in (x.0, returns x.1, x.2)
  uses_cut (chooses v w r) = let x = rest_cut r in (x.0, chooses v w x.1, x.2)
  uses_cut {ds} {Γ} (standing.Uses.turns {D = D} {x = y} {b = b} {c = c} w v r) =
      let x = rest_cut r in
      (Label ε 0 (while_loop ds Γ D y b) Done ∷ Label ε 0 Done c ∷ x.0, standing.Uses.turns w v x.1, ap (λ (z : Context). Label ε 0 (while_loop ds Γ D y b) Done ∷ Label ε 0 Done c ∷ z) x.2)

  pub works_cut : {ds : List Declaration} {ρ : List ℕ} {Γ : Layout} {n D0 t : ℕ} {L : Locals} {k : List Work} {ops : Row Val} {c : Code} {e : Context} → Works ds ρ Γ n D0 f t L k ops c e
      → (e1 : Context) × Works ds ρ Γ n D0 f1 t L k ops c e1 × (e ≡ e1 ++ tail)
  works_cut (under w) = let x = works_cut w in (x.0, under x.1, x.2)
  works_cut (left y p w) = let x = works_cut w in (x.0, left y p x.1, x.2)
  works_cut (compared s p w) = let x = works_cut w in (x.0, compared s p x.1, x.2)
  works_cut (computed s p w) = let x = works_cut w in (x.0, computed s p x.1, x.2)
  works_cut {ds} {Γ = Γ} {t = t} (connected {more = more} {ops = ops} {c = c} d p w) =
      let x = works_cut w in (Label ops 1 Done (operands ds Γ t more c) ∷ x.0, connected d p x.1, ap (λ (z : Context). Label ops 1 Done (operands ds Γ t more c) ∷ z) x.2)
  works_cut (calling a s w) = let x = works_cut w in (x.0, calling a s x.1, x.2)
  works_cut (doing a s w) = let x = works_cut w in (x.0, doing a s x.1, x.2)
  works_cut (handling_first ns le a w) = let x = works_cut w in (x.0, handling_first ns le a x.1, x.2)
  works_cut (handling_second ns le m i a h s w) = let x = works_cut w in (x.0, handling_second ns le m i a h s x.1, x.2)
  works_cut (resuming_first lt a w) = let x = works_cut w in (x.0, resuming_first lt a x.1, x.2)
  works_cut (resuming_second le lt a l s w) = let x = works_cut w in (x.0, resuming_second le lt a l s x.1, x.2)
  works_cut (grouping i w) = let x = works_cut w in (x.0, grouping i x.1, x.2)
  works_cut (tail_first c lt o a p q) = let x = deep_cut p in (x.0, tail_first c lt o a x.1 q, x.2)
  works_cut (tail_second c lt o a l s p q) = let x = deep_cut p in (x.0, tail_second c lt o a l s x.1 q, x.2)
  works_cut (tail_calling c a s p) = let x = deep_cut p in (x.0, tail_calling c a s x.1, x.2)
  works_cut (within u) = let x = uses_cut u in (x.0, within x.1, x.2)

-- ## Frames

pub clauses_beyond : {F : Context → Context} (beyond : Beyond F) (ds : List Declaration) (ps : List Placed) (e : Context) → F (clause_labels ds ps e) ≡ clause_labels ds ps (F e)
clauses_beyond beyond ds [] e = refl
clauses_beyond beyond ds (p ∷ ps) e =
    beyond.label_stays ε (suc (length p.clause.arguments)) Done (clause_code ds (length ps) p) (clause_labels ds ps e)
    ∙ ap (λ (z : Context). Label ε (suc (length p.clause.arguments)) Done (clause_code ds (length ps) p) ∷ z) (clauses_beyond beyond ds ps e)

pub clauses_locals : (ds : List Declaration) (ps : List Placed) (e : Context) → locals_of (clause_labels ds ps e) ≡ locals_of e
clauses_locals ds [] e = refl
clauses_locals ds (p ∷ ps) e = clauses_locals ds ps e

pub base_locals : {ds : List Declaration} {Γ : Layout} {L : Locals} {below : Row Val} {c : Code} {e : Context} {owner : Option Name} {D0 : ℕ} {f : Context}
    → Base ds Γ L below c e owner D0 f → locals_of f ≡ L
base_locals (function o) = refl
base_locals {ds} {L = L} {below = below} {c = c} {e = e} (clause {h = h} {i = i} ps is o few room) = clauses_locals ds ps (in_loop ds h i L below c e)

-- a local is set
pub base_set : {ds : List Declaration} {Γ : Layout} {L : Locals} {below : Row Val} {c : Code} {e : Context} {owner : Option Name} {D0 : ℕ} {f : Context} (y : ℕ) (v : Val)
    → Base ds Γ L below c e owner D0 f → Base ds Γ (slice_set L y (Some v)) below c e owner D0 (with_local y v f)
base_set y v (function o) = function o
base_set {ds} {Γ} {L} {below} {c} {e} {owner} {D0} y v (clause {h = h} {i = i} ps is o few room) =
    subst (λ (z : Context). Base ds Γ (slice_set L y (Some v)) below c e owner D0 z) (sym (clauses_beyond (setting y v) ds ps (in_loop ds h i L below c e)))
    (clause ps is o few (let q = length_set L y (Some v) in omega (arith, q, room)))

-- inside another context
pub base_plug : {ds : List Declaration} {Γ : Layout} {L : Locals} {below : Row Val} {c : Code} {e : Context} {owner : Option Name} {D0 : ℕ} {f : Context} (tail : Context)
    → Base ds Γ L below c e owner D0 f → Base ds Γ L below c (e ++ tail) owner D0 (f ++ tail)
base_plug tail (function o) = function o
base_plug {ds} {Γ} {L} {below} {c} {e} {owner} {D0} tail (clause {h = h} {i = i} ps is o few room) =
    subst (λ (z : Context). Base ds Γ L below c (e ++ tail) owner D0 z) (sym (clauses_beyond (plugging tail) ds ps (in_loop ds h i L below c e)))
    (clause ps is o few room)

pub base_cut : {ds : List Declaration} {Γ : Layout} {L : Locals} {below : Row Val} {c : Code} {e : Context} {owner : Option Name} {D0 : ℕ} {f : Context} (e1 tail : Context) → e ≡ e1 ++ tail
    → Base ds Γ L below c e owner D0 f → (f1 : Context) × Base ds Γ L below c e1 owner D0 f1 × (f ≡ f1 ++ tail)
base_cut {L = L} {below = below} {c = c} e1 tail split (function {place = place} o) =
    (Label ε 1 Done Done ∷ Frame below 1 place L (rest_of c) ∷ e1, function o, ap (λ (z : Context). Label ε 1 Done Done ∷ Frame below 1 place L (rest_of c) ∷ z) split)
base_cut {ds} {L = L} {below = below} {c = c} e1 tail split (clause {h = h} {i = i} ps is o few room) = (
  clause_labels ds ps (in_loop ds h i L below c e1),
  clause ps is o few room,
  ap (λ (z : Context). clause_labels ds ps (in_loop ds h i L below c z)) split ∙ sym (clauses_beyond (plugging tail) ds ps (in_loop ds h i L below c e1)),
)

-- ## Places

pub waits_grow : {ds : List Declaration} {ρ ρ' : List ℕ} {κ : script.Context} {ops : Row Val} {c : Code} {e : Context} → Grows ρ ρ' → Waits ds ρ κ ops c e → Waits ds ρ' κ ops c e
waits_grow g outside = outside
waits_grow g (activation a w b k) = activation (active_grows g a) (works_grow g w) b (waits_grow g k)
waits_grow g (handle is room n h k) = handle is room n (held_grows g h) (waits_grow g k)
waits_grow g (group k) = group (waits_grow g k)

-- one context in another
pub waits_join : {ds : List Declaration} {ρ : List ℕ} {κ : script.Context} {ops : Row Val} {c : Code} {e : Context} (κ2 : script.Context) (tail : Context)
    → Waits ds ρ κ2 ε Done tail → Waits ds ρ κ ops c e → Waits ds ρ (κ ++ κ2) ops c (e ++ tail)
waits_join κ2 tail j outside = j
waits_join κ2 tail j (activation a w b k) = activation a (works_beyond (plugging tail) w) (base_plug tail b) (waits_join κ2 tail j k)
waits_join {ds} {ρ} κ2 tail j (handle {h = h} {i = i} {L = L} {vs = vs} {κ = κ} {below = below} {c = c} {e = e} is room n g k) =
    subst (λ (z : Context). Waits ds ρ (Handled h vs ∷ (κ ++ κ2)) ε Done (Handle ε (labels ds 0 i.clauses) (return_code ds (return_layout ds h i) (length i.clauses) i) ∷ z))
    (sym (clauses_beyond (plugging tail) ds (placed_clauses ds h i) (in_loop ds h i L below c e))) (handle is room n g (waits_join κ2 tail j k))
waits_join κ2 tail j (group k) = group (waits_join κ2 tail j k)
