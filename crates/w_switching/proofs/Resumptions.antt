-- Resuming a continuation.
use Rattle.std.proofs.Common.{◌≡◌, ℕ, ◌+◌, ◌≤◌, true, List, [], ◌∷◌, ◌++◌, Option, Some, None, slice_get, length, refl, sym, ap, ◌∙◌, subst, arith, drop, take, reverse, length-append}
use Rattle.std.proofs.lemmas.List.{reverse-reverse}
use Rattle.std.specs.Prelude.{slice_set}
use Rattle.lists.specs.Rows.{Row, ◌⧺◌}
use Rattle.w_types.specs.declared.value.Value.{Value}
use Rattle.w_types.specs.declared.value.Value.TheVariants as value
use Rattle.w_types.specs.declared.value.ContRef.{ContRef}
use Rattle.w_syntax.specs.Code.{Code, Plain, Done}
use Rattle.w_syntax.specs.Functions.{code_of_function}
use Rattle.w_syntax.specs.declared.instructions.Clause.{Clause}
use Rattle.w_syntax.specs.declared.instructions.Instr.TheVariants as flat
use Rattle.w_syntax.specs.declared.instructions.Op.TheVariants as op
use Rattle.w_syntax.specs.declared.instructions.SwitchingOp.TheVariants as switching
use Rattle.w_syntax.specs.declared.module.Func.{Func}
use Rattle.w_syntax.specs.declared.module.Module.{Module}
use Rattle.w_segment.specs.Shape.{Shape}
use Rattle.w_segment.specs.Changes.{pushed_all, discarded, moved}
use Rattle.w_segment.specs.Link.{Link, top, with_top, with_clauses}
use Rattle.w_segment.proofs.FactsOfValues.{all_take, all_drop, all_reverse, pushed_all_holds, discarded_holds, moved_holds}
use Rattle.w_chain.specs.ClauseLists.{clauses_in, clauses_of, instr_in}
use Rattle.w_conts.specs.Conts.{Conts, KeepsReferences, IsOf, kept_at, without_entry}
use Rattle.w_reduce.specs.Values.{Val}
use Rattle.w_reduce.specs.Terms.{Rest, rest_of, Handle, Context, Term, Continuation, filled, in_context}
use Rattle.w_reduce.specs.Store.{Store, without_cont}
use Rattle.w_reduce.specs.Program.{Program}
use Rattle.w_reduce.specs.Reduced.{Reduced, Went, take_values, unless_consumed}
use Rattle.w_reduce.specs.Switching.{switching_op}
use Rattle.w_stands.specs.declared.did.Did.TheVariants as did
use Rattle.w_stands.specs.Values.{stack}
use Rattle.w_stands.specs.Code.{instrs_in, instr_of}
use Rattle.w_stands.proofs.PlainSteps.{Next}
use Rattle.w_stands.proofs.ManyTakenOperands.{stack_take, stack_enough, stack_append}
use Rattle.w_switching.specs.declared.stored.Stored.{Stored}
use Rattle.w_switching.specs.Moved.{passed}
use Rattle.w_switching.specs.Standing.{Chained, AllKept}
use Rattle.w_switching.specs.Reductions.{StandsAt, SwitchesAt, Switches}
use Rattle.w_switching.specs.Sound.{is_of, IsGood, Sound}
use Rattle.w_switching.proofs.SegmentsInOthers.{joined, SamePlace, in_same, inside, inside_top, kept_set}
use Rattle.w_switching.proofs.AtSwitchingInstruction.{head, on_stack, at_term, next_top}
use Rattle.w_switching.proofs.ReferenceFirst.{KeptThere, kept_there}
use Rattle.w_switching.proofs.References.{hold_append, hold_with, hold_clauses, hold_top, each_at, links_more, more_of, long_top, long_clauses}
use Rattle.w_switching.proofs.PutIntoStore.{take_sound}

-- ## Arguments

-- segments with more operands inside stand for the term with these at its hole
pub given : {m : Module} {outer : Context} {behind : Rest} {segs : List Link} {e : Context} {vs : Row Val} {r : Rest} (s : Shape) (us : List Value) →
    Chained m outer behind segs e vs r → SamePlace (top segs).shape s → s.operands ≡ us ++ (top segs).shape.operands → Chained m outer behind (with_top s segs) e (vs ⧺ stack us) r
given {segs = segs} s us k x o =
    inside_top s (λ q b i. in_same x i) (ap (λ (r : Row Val). r ⧺ stack us) (head k).operands ∙ sym (ap stack o ∙ stack_append us (top segs).shape.operands)) k

-- the same of arguments that are pushed
pub pushed_given : {m : Module} {outer : Context} {behind : Rest} {segs : List Link} {e : Context} {vs : Row Val} {r : Rest} (us : List Value) → Chained m outer behind segs e vs r →
    Chained m outer behind (with_top (pushed_all (reverse us) (top segs).shape) segs) e (vs ⧺ stack us) r
pushed_given {segs = segs} us k =
    given (pushed_all (reverse us) (top segs).shape) us k (record { levels = refl; func = refl; place = refl; stage = refl })
    (ap (λ (l : List Value). l ++ (top segs).shape.operands) (reverse-reverse us))

-- ## The clauses of the handle

-- the instruction at a place, found either way
instr_is : (f : Option Func) (place : ℕ) → instr_in f place ≡ slice_get (instrs_in f) place
instr_is None place = refl
instr_is (Some f) place = refl

-- a segment that waits at a resume waits at its clauses
pub waits_at : (m : Module) (y : Link) (f x : ℕ) (hs : List Clause) → y.shape.func ≡ f → instr_of m f y.clauses ≡ Some (flat.Plain (op.Switching (switching.Resume x hs))) → clauses_of m y ≡ hs
waits_at m y f x hs e i =
    ap clauses_in (instr_is (code_of_function m y.shape.func) y.clauses ∙ ap (λ (g : ℕ). instr_of m g y.clauses) e ∙ i)

-- some segments inside the one that resumes them
resume_stands : (m : Module) (chain : List Link) (conts : Conts Stored) (x : ℕ) (hs : List Clause) (k : SwitchesAt (switching.Resume x hs) m chain conts) (s' : Shape) → Next (top chain).shape s' →
    {behind : Rest} {segs : List Link} {e e' : Context} {vs ws : Row Val} {r : Rest} {c : Code} → Chained m [] (rest_of Done) segs e' vs r →
    Chained m [] behind chain e ws (rest_of (Plain (op.Switching (switching.Resume x hs)) c)) →
    Chained m [] behind (segs ++ with_clauses (top chain).shape.place (with_top s' chain)) (e' ++ Handle (stack s'.operands) hs c ∷ e) vs r
resume_stands m [] conts x hs k s' n i w = elim w [ ]
resume_stands m (y ∷ ys) conts x hs k s' n i w =
    joined i (waits_at m (record { shape = s'; clauses = y.shape.place }) y.shape.func x hs n.func k.here) n.stage (inside (λ o q. next_top k s' n) refl w)

-- ## The rule

module _ (m : Module) (chain : List Link) (conts : Conts Stored) (x : ℕ) (hs : List Clause) (r : ContRef) (vs : List Value) (b : Stored) (k : SwitchesAt (switching.Resume x hs) m chain conts)
    (on : (top chain).shape.operands ≡ value.Cont r ∷ vs) (of : IsOf r conts) (is : kept_at conts r.serial ≡ Some b) where
  -- what the rule comes to
  pub record Resumed (behind : Rest) (p : Program) (s : Store) (t : Term) (c : Code) : Type 0 where
    pub there : KeptThere m s r.serial b
    pub fits : b.takes ≤ length vs
    pub goes : switching_op p s t.around t.operands (switching.Resume x hs) c
        ≡ Went [] (without_cont r.serial s) (in_context (Handle (stack (drop b.takes vs)) hs c ∷ t.around) (filled there.k.term (stack (take b.takes vs))))

  -- it comes to this in each configuration
  pub resumed : (behind : Rest) (p : Program) (s : Store) (t : Term) (c : Code) → StandsAt (switching.Resume x hs) m behind chain conts p s t c → Resumed behind p s t c
  resumed behind p s t c a =
      let w = kept_there a.stand r of b is in
      let go : Continuation → Row Val × Row Val → Reduced = λ q (below, us). Went [] (without_cont r.serial s) (in_context (Handle below hs c ∷ t.around) (filled q.term us)) in
      let rule : switching_op p s t.around t.operands (switching.Resume x hs) c ≡ take_values b.takes (stack vs) (go w.k) =
      on_stack a (value.Cont r ∷ vs) on ∙ ap (λ (o : Option (Option Continuation)). unless_consumed o (λ q. take_values q.takes (stack vs) (go q))) w.is
      ∙ ap (λ (n : ℕ). take_values n (stack vs) (go w.k)) w.takes in
      let fits = stack_enough b.takes vs (go w.k) (λ q. a.applies (rule ∙ q)) in
      record { there = w; fits = fits; goes = rule ∙ stack_take b.takes vs (go w.k) fits }

  -- there are as many arguments as it takes
  pub resume_fits : b.takes + 1 ≤ length (top chain).shape.operands
  resume_fits = let f = (resumed k.behind k.p k.s k.t k.c k.at).fits in let l = ap (λ (l : List Value). length l) on in omega (arith, f, l)

  -- it went as the rule says
  pub resume_goes : (chain' : List Link) (conts' : Conts Stored) → chain' ≡ passed b.takes b.segment.value chain → conts' ≡ without_entry r.serial conts →
      Switches did.Went (switching.Resume x hs) m chain conts chain' conts'
  resume_goes chain' conts' went after behind p s t c a =
      let w = resumed behind p s t c a in
      let q = w.there.k.term in
      let n = b.takes in
      let S = (top chain).shape in
      let one : drop 1 S.operands ≡ vs = ap (λ (l : List Value). drop 1 l) on in
      let s' = moved (S.place + 1) (discarded n (discarded 1 S)) in
      let inner = pushed_given (take n (drop 1 S.operands)) w.there.stands in
      let whole = resume_stands m chain conts x hs k s' (record { levels = refl; func = refl; place = refl; stage = k.stage; capacity = refl }) inner (at_term a) in
      record {
        conts_after = slice_set s.conts r.serial None;
        t = in_context (Handle (stack (drop n vs)) hs c ∷ t.around) (filled q (stack (take n vs)));
        is = w.goes;
        stand = record {
          source = a.stand.source;
          program = a.stand.program;
          short = a.stand.short;
          narrow = a.stand.narrow;
          term = subst (λ (z : List Link). Chained m [] behind z (q.around ++ Handle (stack (drop n vs)) hs c ∷ t.around) (q.operands ⧺ stack (take n vs)) q.rest) (sym went)
              (subst (λ (l : List Value). Chained m [] behind (passed n b.segment.value chain) (q.around ++ Handle (stack (drop n l)) hs c ∷ t.around) (q.operands ⧺ stack (take n l)) q.rest) one whole);
          store = subst (λ (z : Conts Stored). AllKept m z.entries (slice_set s.conts r.serial None)) (sym after) (kept_set r.serial a.stand.store);
        };
      }

  -- and is sound
  pub resume_sound : (chain' : List Link) (conts' : Conts Stored) → chain' ≡ passed b.takes b.segment.value chain → conts' ≡ without_entry r.serial conts →
      Sound chain conts → KeepsReferences conts conts' → Sound chain' conts'
  resume_sound chain' conts' went after s keeps =
      let n = b.takes in
      let S = (top chain).shape in
      let segs = b.segment.value in
      let rest = without_entry r.serial conts in
      let kept_refs = subst (KeepsReferences conts) after keeps in
      let taken = take_sound chain conts r.serial b s is kept_refs in
      let test = is_of rest in
      let P : Value → Type 0 = λ v. test v ≡ true in
      let good = each_at (IsGood (is_of conts)) conts.entries r.serial b is s.stored in
      let sh = hold_top test chain taken.references in
      let segs_hold = links_more (is_of conts) test (more_of conts rest kept_refs) segs good.references in
      let us = take n (drop 1 S.operands) in
      let args = all_reverse P us (all_take P n (drop 1 S.operands) (all_drop P 1 S.operands sh.operands)) in
      let S1 = pushed_all (reverse us) (top segs).shape in
      let S2 = moved (S.place + 1) (discarded n (discarded 1 S)) in
      let h1 = pushed_all_holds P (reverse us) (top segs).shape args (hold_top test segs segs_hold) in
      let h2 = moved_holds P (S.place + 1) (discarded n (discarded 1 S)) (discarded_holds P n (discarded 1 S) (discarded_holds P 1 S sh)) in
      let long = length-append (with_top S1 segs) (with_clauses S.place (with_top S2 chain)) in
      let l1 = long_top S1 segs in
      let l2 = long_clauses S.place (with_top S2 chain) in
      let l3 = long_top S2 chain in
      let d = taken.slots in
      let whole : Sound (passed n segs chain) rest = record {
        references = hold_append test (with_top S1 segs) (with_clauses S.place (with_top S2 chain)) (hold_with test S1 segs h1 segs_hold)
            (hold_clauses test S.place (with_top S2 chain) (hold_with test S2 chain h2 taken.references));
        stored = taken.stored;
        slots = omega (arith, d, long, l1, l2, l3);
      } in
      subst (λ (z : List Link). Sound z conts') (sym went) (subst (Sound (passed n segs chain)) (sym after) whole)
