-- A configuration at a switching instruction, and the innermost segment, which stands before it.
use Rattle.std.proofs.Common.{◌≡◌, ℕ, suc, ◌+◌, ◌<◌, List, [], Some, length, sym, ap, ◌∙◌, subst, add-one}
use Rattle.std.specs.Prelude.{◌^◌}
use Rattle.lists.specs.Rows.{Row}
use Rattle.w_types.specs.declared.value.Value.{Value}
use Rattle.w_syntax.specs.Code.{Code, Plain}
use Rattle.w_syntax.specs.declared.instructions.Instr.TheVariants as flat
use Rattle.w_syntax.specs.declared.instructions.Op.{Op}
use Rattle.w_syntax.specs.declared.instructions.Op.TheVariants as op
use Rattle.w_syntax.specs.declared.instructions.SwitchingOp.{SwitchingOp}
use Rattle.w_syntax.specs.declared.module.Module.{Module}
use Rattle.w_segment.specs.declared.entry.Stage.TheVariants.{Body}
use Rattle.w_segment.specs.Shape.{Shape}
use Rattle.w_segment.specs.Changes.{pushed, moved}
use Rattle.w_segment.specs.Link.{Link, top}
use Rattle.w_conts.specs.Conts.{Conts}
use Rattle.w_reduce.specs.Values.{Val}
use Rattle.w_reduce.specs.Terms.{Rest, rest_of, Context, Term}
use Rattle.w_reduce.specs.Store.{Store}
use Rattle.w_reduce.specs.Program.{Program}
use Rattle.w_reduce.specs.Switching.{switching_op}
use Rattle.w_stands.specs.Values.{stack}
use Rattle.w_stands.specs.Code.{instrs, instr_of, Reads}
use Rattle.w_stands.specs.Stands.{StackIs}
use Rattle.w_stands.proofs.AtInstructions.{here, shows_plain, onward}
use Rattle.w_stands.proofs.PlainSteps.{Next, place_fits}
use Rattle.w_switching.specs.declared.stored.Stored.{Stored}
use Rattle.w_switching.specs.Standing.{Chained, only, around}
use Rattle.w_switching.specs.Reductions.{switched, StandsAt, SwitchesAt}
use Rattle.w_switching.proofs.SegmentsInOthers.{chained_some}

-- ## The innermost segment

pub record Head (m : Module) (chain : List Link) (e : Context) (vs : Row Val) (r : Rest) : Type 0 where
  pub outer : Context
  pub behind : Rest
  pub stands : StackIs m outer behind (top chain).shape e r
  pub operands : vs ≡ stack (top chain).shape.operands

-- it stands for its part of the context
pub head : {m : Module} {outer : Context} {behind : Rest} {chain : List Link} {e : Context} {vs : Row Val} {r : Rest} → Chained m outer behind chain e vs r → Head m chain e vs r
head (only i o) = record { outer = _; behind = _; stands = i; operands = o }
head (around i o h b c) = record { outer = _; behind = _; stands = i; operands = o }

-- behind an instruction that it stood before
pub next_in : {m : Module} {outer : Context} {behind : Rest} {e : Context} {c : Code} (i : Op) (s s' : Shape) → s.stage ≡ Body → instr_of m s.func s.place ≡ Some (flat.Plain i) → Next s s' →
    StackIs m outer behind s e (rest_of (Plain i c)) → StackIs m outer behind s' e (rest_of c)
next_in {m} {outer} {behind} {e} {c} i s s' stage at n w =
    let h = here w stage in
    let x = shows_plain i h.reads at in
    let both : Plain i c ≡ Plain i x.following = ap (λ (r : Rest). r.code) h.rest ∙ x.is in
    let same : c ≡ x.following = cc in
    onward s.func (suc s.place) s.levels (subst (λ (d : Code). Reads (instrs m s.func) (suc s.place) d h.end) (sym same) x.reads) h.around n.stage n.func
    (n.place ∙ add-one s.place) n.levels

-- an operand was pushed, and the place moved on
pub pushed_on : (s d u g : Shape) (q : ℕ) (v w : Value) → d ≡ s → v ≡ w → u ≡ pushed v d → q ≡ u.place → g ≡ moved (q + 1) u → g ≡ moved (s.place + 1) (pushed w s)
pushed_on s d u g q v w a b e h i =
    let is : u ≡ pushed w s = e ∙ ap (λ (x : Value). pushed x d) b ∙ ap (pushed w) a in
    i ∙ ap (λ (k : ℕ). moved (k + 1) u) (h ∙ ap (λ (x : Shape). x.place) is) ∙ ap (moved (s.place + 1)) is

-- ## A configuration at the instruction

module _ {o : SwitchingOp} {m : Module} {behind : Rest} {chain : List Link} {conts : Conts Stored} {p : Program} {s : Store} {t : Term} {c : Code} (a : StandsAt o m behind chain conts p s t c) where
  -- the rule by the operands of the innermost segment
  pub on_stack : (vs : List Value) → (top chain).shape.operands ≡ vs → switched o p s t c ≡ switching_op p s t.around (stack vs) o c
  on_stack vs h = ap (λ (r : Row Val). switching_op p s t.around r o c) ((head a.stand.term).operands ∙ ap stack h)

  -- the chain stands for the term at the instruction
  pub at_term : Chained m [] behind chain t.around t.operands (rest_of (Plain (op.Switching o) c))
  at_term = subst (λ (r : Rest). Chained m [] behind chain t.around t.operands r) a.comes a.stand.term

module _ {o : SwitchingOp} {m : Module} {chain : List Link} {conts : Conts Stored} (k : SwitchesAt o m chain conts) where
  -- there is a segment
  pub some_chain : 0 < length chain
  some_chain = chained_some k.at.stand.term

  -- there is a place behind the instruction
  pub place_behind : (top chain).shape.place + 1 < 2 ^ 32
  place_behind = place_fits m (top chain).shape.func (top chain).shape.place (flat.Plain (op.Switching o)) (k.at.stand.short (top chain).shape.func) k.here

  -- the innermost segment behind it
  pub next_top : {outer : Context} {behind : Rest} {e : Context} {c : Code} (s : Shape) → Next (top chain).shape s → StackIs m outer behind (top chain).shape e (rest_of (Plain (op.Switching o) c)) →
      StackIs m outer behind s e (rest_of c)
  next_top s n w = next_in (op.Switching o) (top chain).shape s k.stage k.here n w
