-- What holds of parts that stand for a configuration of a run.
use Rattle.std.proofs.Common.{◌≡◌, ◌≢◌, ℕ, ◌≤◌, false, List, [], length, Option, refl, sym, ap, subst, ◌∙◌, arith}
use Rattle.lists.specs.Rows.{Row}
use Rattle.w_syntax.specs.declared.module.Module.{Module}
use Rattle.w_rules.specs.Operands.{Operand}
use Rattle.w_rules.specs.Sound.{Sound}
use Rattle.w_segment.specs.declared.entry.Stage.TheVariants.{Body}
use Rattle.w_segment.specs.Shape.{Shape}
use Rattle.w_segment.specs.Link.{top}
use Rattle.w_reduce.specs.Apart.{switches, apart}
use Rattle.w_reduce.specs.Entering.{calls}
use Rattle.w_reduce.specs.Program.{Program}
use Rattle.w_reduce.specs.Reduced.{Reduced, Stuck}
use Rattle.w_reduce.specs.Reduce.{next, reduce, limited}
use Rattle.w_reduce.specs.Terms.{Rest, Context, Term, Continuation}
use Rattle.w_reduce.specs.Values.{Val}
use Rattle.w_reduce.proofs.Plainly.{plain_apart}
use Rattle.w_stands.specs.Code.{instr_of}
use Rattle.w_stands.specs.Stands.{StackIs, body, left, fresh, values}
use Rattle.w_stands.specs.Steps.{Configured, next_of}
use Rattle.w_stands.specs.Values.{stack, store_of}
use Rattle.w_plain.specs.Known.{IsKnown}
use Rattle.w_plain.specs.Meets.{Applies}
use Rattle.w_plain.specs.Plainness.{switches_at, calls_at}
use Rattle.w_switching.specs.Sound.{most_segments}
use Rattle.w_typed.specs.Values.{Arrows}
use Rattle.w_typed.specs.Configurations.{Typed, IsSafe, goes, traps, is_limited, ends}
use Rattle.w_typed.proofs.Reductions.{reductions_are_safe}
use Rattle.w_configuration.specs.declared.stop.RunStop.{RunStop}
use Rattle.w_configuration.specs.Parts.{Parts, whole}
use Rattle.w_configuration.specs.Standing.{behind_of, Stands, StandsSomewhere}
use Rattle.w_configuration.specs.Reducing.{IsPlainAt, PartsReduce}
use Rattle.w_switching.proofs.Rooms.{links_top}
use Rattle.w_configuration.proofs.NextCode.{read_switches, read_calls}
use Rattle.w_configuration.proofs.Rooms.{next_fits}
use Rattle.w_configuration.proofs.Tops.{Top, top_of}
use Rattle.w_configuration.proofs.ConfigurationCounts.{all_handles}

-- ## The module

-- what runs is sound
pub known_sound : {m runnable : Module} {functions : List ℕ} → IsKnown m runnable functions → Sound runnable → Sound m
known_sound known sound = subst (λ (n : Module). Sound n) known.runnable_is sound

-- ## What comes next

-- whether stacks are switched next shows in the instruction at the place
pub next_in : {m : Module} {outer : Context} {behind : Rest} {s : Shape} {e : Context} {r : Rest} → StackIs m outer behind s e r → s.stage ≡ Body
    → switches r.ahead r.code ≡ switches_at (instr_of m s.func s.place)
next_in (body h k w) b = read_switches k
next_in (left h k w) b = absurd (cc)
next_in (fresh h k) b = absurd (cc)
next_in (values h k) b = absurd (cc)

-- and so is whether a function is called next
pub calls_in : {m : Module} {outer : Context} {behind : Rest} {s : Shape} {e : Context} {r : Rest} → StackIs m outer behind s e r → s.stage ≡ Body
    → calls r.ahead r.code ≡ calls_at (instr_of m s.func s.place)
calls_in (body h k w) b = read_calls k
calls_in (left h k w) b = absurd (cc)
calls_in (fresh h k) b = absurd (cc)
calls_in (values h k) b = absurd (cc)

-- none are switched next
pub plain_next : {m : Module} {outer : Context} {behind : Rest} {s : Shape} {e : Context} {r : Rest} → StackIs m outer behind s e r → IsPlainAt m s → switches r.ahead r.code ≡ false
plain_next {s = s} (body h k w) f = next_in {s = s} (body h k w) h ∙ f.0 h
plain_next (left h k w) f = refl
plain_next (fresh h k) f = refl
plain_next (values h k) f = absurd (f.1 h)

-- ## A rule applies

pub never_stuck : {m : Module} {K : Arrows} {us : Row Operand} {d : Reduced} → IsSafe m K us d → d ≢ Stuck
never_stuck (goes g h) e = absurd (cc)
never_stuck traps e = absurd (cc)
never_stuck is_limited e = absurd (cc)
never_stuck (ends h) e = absurd (cc)

module _ {m : Module} {waiting : List ℕ} {x : Parts} {p : Program} {ks : List (Option Continuation)} {t : Term} where
  -- the configuration is typed by the program's module
  pub typed_by : (h : Stands m waiting x p ks t) → Typed p.source h.arrows h.results (whole x.store ks) t
  typed_by h = subst (λ (n : Module). Typed n h.arrows h.results (whole x.store ks) t) (sym h.stand.source) h.typed

  -- its reduction is safe
  pub reduces_safely : Sound m → (h : Stands m waiting x p ks t) → IsSafe p.source h.arrows h.results (reduce p (whole x.store ks) t)
  reduces_safely sound h = reductions_are_safe p h.arrows h.results (whole x.store ks) t h.stand.program (subst Sound (sym h.stand.source) sound) (typed_by h)

  -- so a rule applies to it
  pub rule_applies : Sound m → Stands m waiting x p ks t → reduce p (whole x.store ks) t ≢ Stuck
  rule_applies sound h is = never_stuck (reduces_safely sound h) is

  -- there are few segments
  pub few_segments : Stands m waiting x p ks t → length x.chain ≤ most_segments
  few_segments h = let n = all_handles h.stand in let few = h.within.few_handles in omega (arith, n, few)

  -- the innermost segment, with what stands outside it
  pub head : (h : Stands m waiting x p ks t) → Top m [] (behind_of waiting) x.chain t.around t.operands t.rest
  head h = top_of h.stand.term

  -- a reduction that switches no stacks comes to the same with no continuation in the store
  pub alone : (h : Stands m waiting x p ks t) → IsPlainAt m (top x.chain).shape
      → next p (whole x.store ks) t.around t.operands t.rest.ahead t.rest.code ≡ apart ks (next_of p x.store (top x.chain).shape t.around t.rest)
  alone h f =
      ap (λ (vs : Row Val). next p (whole x.store ks) t.around vs t.rest.ahead t.rest.code) (head h).operands
      ∙ plain_apart ks p (store_of x.store) t.around (stack (top x.chain).shape.operands) t.rest.ahead t.rest.code (plain_next (head h).stands f)

  -- and where the innermost segment stands
  pub standing_at : Sound m → (h : Stands m waiting x p ks t) → IsPlainAt m (top x.chain).shape → Configured m x.store (top x.chain).shape p (head h).o t.around t.rest
  standing_at sound h f = record {
    source = h.stand.source;
    program = h.stand.program;
    short = h.stand.short;
    narrow = h.stand.narrow;
    stands = (head h).stands;
    applies = λ is. rule_applies sound h (ap limited (alone h f ∙ ap (apart ks) is));
    room = links_top m x.chain h.room.running;
    fits = next_fits h;
  }

-- wherever they stand
pub plain_applies : {m : Module} {x : Parts} → Sound m → StandsSomewhere m x → IsPlainAt m (top x.chain).shape → Applies m x.store (top x.chain).shape
plain_applies sound h f = record { p = h.p; o = (head h.stands).o; e = h.t.around; r = h.t.rest; at = standing_at sound h.stands f }

-- ## What a reduction comes to

-- by what stopped it
pub stopped_as : (m : Module) (x x' : Parts) (before now : Option (List ℕ)) (r k : Option RunStop) → r ≡ k → PartsReduce r m x x' before now → PartsReduce k m x x' before now
stopped_as m x x' before now r k e h = subst (λ (o : Option RunStop). PartsReduce o m x x' before now) e h
