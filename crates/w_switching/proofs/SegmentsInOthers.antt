-- Segments inside others, and entries of the store.
use Rattle.std.proofs.Common.{◌≡◌, ℕ, zero, suc, ◌<◌, List, [], ◌∷◌, ◌++◌, Option, Some, None, slice_get, length, refl, sym, ap, ◌∙◌, subst, arith}
use Rattle.std.specs.Prelude.{slice_set}
use Rattle.lists.specs.Rows.{Row}
use Rattle.w_syntax.specs.Code.{Code, Done}
use Rattle.w_syntax.specs.declared.instructions.Clause.{Clause}
use Rattle.w_syntax.specs.declared.module.Module.{Module}
use Rattle.w_segment.specs.declared.entry.Stage.TheVariants.{Body}
use Rattle.w_segment.specs.Shape.{Shape, Level}
use Rattle.w_segment.specs.Link.{Link, top, with_top}
use Rattle.w_chain.specs.ClauseLists.{clauses_of}
use Rattle.w_conts.specs.Conts.{entry_at}
use Rattle.w_reduce.specs.Values.{Val}
use Rattle.w_reduce.specs.Terms.{Invoke, Rest, rest_of, Handle, Context, Continuation}
use Rattle.w_stands.specs.Values.{stack}
use Rattle.w_stands.specs.Code.{instrs, Reads}
use Rattle.w_stands.specs.Stands.{LevelsAre, label, frame, outermost, StackIs, body, left, fresh, values}
use Rattle.w_switching.specs.declared.stored.Stored.{Stored}
use Rattle.w_switching.specs.Standing.{Chained, only, around, IsKept, gone, AllKept, nil, cons}

-- ## What stands around may be more

-- of levels
pub around_more : {m : Module} {outer : Context} {behind : Rest} {f q : ℕ} {ls : List Level} {e : Context} (more : Context) →
    LevelsAre m outer behind f q ls e → LevelsAre m (outer ++ more) behind f q ls (e ++ more)
around_more more (label b k g w) = label b k g (around_more more w)
around_more more (frame n k w) = frame n k (around_more more w)
around_more more (outermost n) = outermost n

-- of a segment
pub in_more : {m : Module} {outer : Context} {behind : Rest} {s : Shape} {e : Context} {r : Rest} (more : Context) →
    StackIs m outer behind s e r → StackIs m (outer ++ more) behind s (e ++ more) r
in_more more (body a k w) = body a k (around_more more w)
in_more more (left a k w) = left a k (around_more more w)
in_more more (fresh a k) = fresh a k
in_more more (values a k) = values a k

-- segments that stand alone stand inside a handle with others around
pub joined : {m : Module} {outer : Context} {behind : Rest} {segs ys : List Link} {y : Link} {e e' : Context} {vs below : Row Val} {r : Rest} {hs : List Clause} {c : Code} →
    Chained m [] (rest_of Done) segs e vs r → clauses_of m y ≡ hs → y.shape.stage ≡ Body → Chained m outer behind (y ∷ ys) e' below (rest_of c) →
    Chained m outer behind (segs ++ y ∷ ys) (e ++ Handle below hs c ∷ e') vs r
joined {e' = e'} {below = below} {hs = hs} {c = c} (only i o) h b d = around (in_more (Handle below hs c ∷ e') i) o h b d
joined {e' = e'} {below = below} {hs = hs} {c = c} (around i o g b' d') h b d = around (in_more (Handle below hs c ∷ e') i) o g b' (joined d' h b d)

-- ## Another stack inside

pub record SamePlace (s s' : Shape) : Type 0 where
  pub levels : s'.levels ≡ s.levels
  pub func : s'.func ≡ s.func
  pub place : s'.place ≡ s.place
  pub stage : s'.stage ≡ s.stage

-- it stands as the one before, whatever its operands and its room
pub in_same : {m : Module} {outer : Context} {behind : Rest} {s s' : Shape} {e : Context} {r : Rest} → SamePlace s s' → StackIs m outer behind s e r → StackIs m outer behind s' e r
in_same {m} {outer} {behind} {s} {s'} {e} x (body {q = q} {c = c} a k w) = body (x.stage ∙ a)
    (subst (λ (p : ℕ). Reads (instrs m s'.func) p c q) (sym x.place) (subst (λ (f : ℕ). Reads (instrs m f) s.place c q) (sym x.func) k))
    (subst (λ (ls : List Level). LevelsAre m outer behind s'.func q ls e) (sym x.levels) (subst (λ (f : ℕ). LevelsAre m outer behind f q s.levels e) (sym x.func) w))
in_same {m} {outer} {behind} {s} {s'} {e} x (left {q = q} {c = c} a k w) = left (x.stage ∙ a)
    (subst (λ (p : ℕ). Reads (instrs m s'.func) p c q) (sym x.place) (subst (λ (f : ℕ). Reads (instrs m f) s.place c q) (sym x.func) k))
    (subst (λ (ls : List Level). LevelsAre m outer behind s'.func q ls e) (sym x.levels) (subst (λ (f : ℕ). LevelsAre m outer behind f q s.levels e) (sym x.func) w))
in_same {m} {outer} {behind} {s} {s'} x (fresh a k) =
    subst (λ (f : ℕ). StackIs m outer behind s' outer (record { ahead = Invoke f ∷ behind.ahead; code = behind.code })) x.func (fresh (x.stage ∙ a) (x.levels ∙ k))
in_same {m} {outer} {behind} {s} {s'} x (values a k) = values (x.stage ∙ a) (x.levels ∙ k)

-- the innermost segment may be another one that stands for the same context, whatever stands around it
pub inside : {m : Module} {outer : Context} {behind : Rest} {x y : Link} {xs : List Link} {e : Context} {vs ws : Row Val} {r r' : Rest} →
    ((o : Context) (b : Rest) → StackIs m o b x.shape e r → StackIs m o b y.shape e r') → ws ≡ stack y.shape.operands → Chained m outer behind (x ∷ xs) e vs r →
    Chained m outer behind (y ∷ xs) e ws r'
inside f q (only i o) = only (f _ _ i) q
inside f q (around i o h b c) = around (f _ _ i) q h b c

-- the same of its shape alone
pub inside_top : {m : Module} {outer : Context} {behind : Rest} {chain : List Link} {e : Context} {vs ws : Row Val} {r r' : Rest} (s : Shape) →
    ((o : Context) (b : Rest) → StackIs m o b (top chain).shape e r → StackIs m o b s e r') → ws ≡ stack s.operands → Chained m outer behind chain e vs r →
    Chained m outer behind (with_top s chain) e ws r'
inside_top {chain = []} s f q k = elim k [ ]
inside_top {chain = x ∷ xs} s f q k = inside f q k

-- there is one
pub chained_some : {m : Module} {outer : Context} {behind : Rest} {chain : List Link} {e : Context} {vs : Row Val} {r : Rest} →
    Chained m outer behind chain e vs r → 0 < length chain
chained_some (only i o) = omega arith
chained_some (around i o h b c) = omega arith

-- ## Entries

-- one that is consumed
pub kept_set : {m : Module} {os : List (Option (ℕ × Stored))} {ks : List (Option Continuation)} (a : ℕ) → AllKept m os ks → AllKept m (slice_set os a None) (slice_set ks a None)
kept_set a nil = nil
kept_set zero (cons k ks) = cons gone ks
kept_set (suc a) (cons k ks) = cons k (kept_set a ks)

-- one more
pub kept_more : {m : Module} {os : List (Option (ℕ × Stored))} {ks : List (Option Continuation)} (o : Option (ℕ × Stored)) (k : Option Continuation) → AllKept m os ks → IsKept m o k →
    AllKept m (os ++ o ∷ []) (ks ++ k ∷ [])
kept_more o k nil i = cons i nil
kept_more o k (cons j js) i = cons j (kept_more o k js i)

-- there are as many on both sides
pub kept_long : {m : Module} {os : List (Option (ℕ × Stored))} {ks : List (Option Continuation)} → AllKept m os ks → length ks ≡ length os
kept_long nil = refl
kept_long (cons j js) = ap suc (kept_long js)

-- one of them
pub record Entry (m : Module) (os : List (Option (ℕ × Stored))) (ks : List (Option Continuation)) (a : ℕ) : Type 0 where
  pub there : Option Continuation
  pub is : slice_get ks a ≡ Some there
  pub so : IsKept m (entry_at os a) there

-- each address that was given out has one
pub entry : {m : Module} {os : List (Option (ℕ × Stored))} {ks : List (Option Continuation)} (a : ℕ) → AllKept m os ks → a < length os → Entry m os ks a
entry a nil h = absurd (omega arith)
entry zero (cons {k = k} i is) h = record { there = k; is = refl; so = i }
entry (suc a) (cons i is) h = let r = entry a is (omega arith) in record { there = r.there; is = r.is; so = r.so }
