-- A stack that entered a function stands where its rule leads.
use Rattle.std.proofs.Common.{◌≡◌, ℕ, suc, ◌≤◌, List, [], ◌∷◌, ◌++◌, length, take, drop, reverse, map, Option, Some, None, slice_get, refl, sym, ap, ◌∙◌, subst, arith, length-append}
use Rattle.std.specs.Prelude.{◌≢◌}
use Rattle.lists.specs.Rows.{Row, ε, listed}
use Rattle.w_types.specs.declared.types.FuncType.{FuncType}
use Rattle.w_types.specs.declared.value.Value.{Value}
use Rattle.w_syntax.specs.Code.{Done, after}
use Rattle.w_syntax.specs.Flat.{size, whole, laid}
use Rattle.w_syntax.specs.Functions.{type_of_function, code_of_function}
use Rattle.w_syntax.proofs.Steps.{length-laid}
use Rattle.w_syntax.specs.declared.instructions.Instr.{Instr}
use Rattle.w_syntax.specs.declared.instructions.Instr.TheVariants as flat
use Rattle.w_syntax.specs.declared.module.Func.{Func}
use Rattle.w_syntax.specs.declared.module.Module.{Module}
use Rattle.w_segment.specs.declared.entry.Stage.TheVariants.{Body}
use Rattle.w_segment.specs.Shape.{Shape, Level, Label}
use Rattle.w_tables.specs.Store as instances
use Rattle.w_reduce.specs.Values.{Val}
use Rattle.w_reduce.specs.Terms.{Rest, rest_of, Label as InLabel, Frame as InFrame, Context}
use Rattle.w_reduce.specs.Program.{Program}
use Rattle.w_reduce.specs.Reduced.{Reduced, Stuck, steps_to, or_stuck, take_values}
use Rattle.w_reduce.specs.Calls.{defaults, enter}
use Rattle.w_stands.specs.Values.{stack, local_vals, store_of}
use Rattle.w_stands.specs.Code.{instrs, instrs_in, IsMark, Reads, stop, at_end}
use Rattle.w_stands.specs.Stands.{LevelsAre, StackIs, body, label}
use Rattle.w_stands.proofs.Bodies.{read_whole}
use Rattle.w_call_ops.specs.Entering.{IsFunction, CanEnter, first_values}
use Rattle.w_stands.proofs.ManyTakenOperands.{stack_take, stack_enough}
use Rattle.w_call_ops.proofs.Arguments.{entered_locals}

-- ## The rule

-- what entering goes on with
abbrev entering : Program → instances.Store → Context → ℕ → Rest → FuncType → Func → Row Val × Row Val → Reduced
entering p u e i rest t c q =
    steps_to (store_of u)
    (InLabel ε (length t.results) Done Done ∷ InFrame q.0 (length t.results) i (map (λ (v : Val). Some v) (listed q.1) ++ defaults c.locals) rest ∷ e) ε (rest_of c.body)

-- the locals of a frame that was entered
abbrev pub locals_in : List Value → FuncType → Func → List (Option Value)
locals_in vs t c = map (λ (v : Value). Some v) (reverse (take (length t.params) vs)) ++ first_values c.locals

pub enter_is : (p : Program) (u : instances.Store) (e : Context) (vs : List Value) (i : ℕ) (rest : Rest) (t : FuncType) (c : Func) → IsFunction p.source i t c →
    length t.params ≤ length vs → enter p (store_of u) e (stack vs) i rest
    ≡ steps_to (store_of u)
    (InLabel ε (length t.results) Done Done ∷ InFrame (stack (drop (length t.params) vs)) (length t.results) i (local_vals (locals_in vs t c)) rest ∷ e) ε (rest_of c.body)
enter_is p u e vs i rest t c f h =
    ap (λ (o : Option FuncType). or_stuck o (λ x. or_stuck (code_of_function p.source i) (λ y. take_values (length x.params) (stack vs) (entering p u e i rest x y)))) f.type_is
    ∙ ap (λ (o : Option Func). or_stuck o (λ y. take_values (length t.params) (stack vs) (entering p u e i rest t y))) f.code_is
    ∙ stack_take (length t.params) vs (entering p u e i rest t c) h
    ∙ ap (λ (l : List (Option Val)). steps_to (store_of u)
    (InLabel ε (length t.results) Done Done ∷ InFrame (stack (drop (length t.params) vs)) (length t.results) i l rest ∷ e) ε (rest_of c.body))
    (entered_locals (take (length t.params) vs) c.locals)

-- where it applies, the function is there, and so are its arguments
code_there : (p : Program) (u : instances.Store) (e : Context) (vs : List Value) (i : ℕ) (rest : Rest) (t : FuncType) (o : Option Func) →
    type_of_function p.source i ≡ Some t → code_of_function p.source i ≡ o →
    or_stuck o (λ y. take_values (length t.params) (stack vs) (entering p u e i rest t y)) ≢ Stuck → CanEnter p.source i vs
code_there p u e vs i rest t None f g h = absurd (h refl)
code_there p u e vs i rest t (Some c) f g h = record {
  kind = t;
  code = c;
  there = record { type_is = f; code_is = g };
  some = stack_enough (length t.params) vs (entering p u e i rest t c) h;
}

type_there : (p : Program) (u : instances.Store) (e : Context) (vs : List Value) (i : ℕ) (rest : Rest) (o : Option FuncType) → type_of_function p.source i ≡ o →
    or_stuck o (λ x. or_stuck (code_of_function p.source i) (λ y. take_values (length x.params) (stack vs) (entering p u e i rest x y))) ≢ Stuck → CanEnter p.source i vs
type_there p u e vs i rest None f h = absurd (h refl)
type_there p u e vs i rest (Some t) f h = code_there p u e vs i rest t (code_of_function p.source i) f refl h

pub enter_there : (p : Program) (u : instances.Store) (e : Context) (vs : List Value) (i : ℕ) (rest : Rest) → enter p (store_of u) e (stack vs) i rest ≢ Stuck → CanEnter p.source i vs
enter_there p u e vs i rest h = type_there p u e vs i rest (type_of_function p.source i) refl h

-- ## Where the stack stands

module _ (m : Module) (i : ℕ) (t : FuncType) (c : Func) (f : IsFunction m i t c) where
  -- the function's list is its body's
  instrs_are : instrs m i ≡ whole c.body
  instrs_are = ap instrs_in f.code_is

  read : Reads (instrs m i) 0 c.body (size c.body)
  read = subst (λ (l : List Instr). Reads l 0 c.body (size c.body)) (sym instrs_are) (read_whole c.body).0

  ends : slice_get (instrs m i) (size c.body) ≡ Some flat.End
  ends = ap (λ (l : List Instr). slice_get l (size c.body)) instrs_are ∙ (read_whole c.body).1

  pub behind_end : slice_get (instrs m i) (suc (size c.body)) ≡ None
  behind_end = ap (λ (l : List Instr). slice_get l (suc (size c.body))) instrs_are ∙ (read_whole c.body).2

  -- the label of the body leads behind its end
  target_is : length (whole c.body) ≡ suc (size c.body)
  target_is = let a = length-append (laid 0 c.body) (flat.End ∷ []) in let b = length-laid 0 c.body in omega (arith, a, b)

  nothing : Reads (instrs m i) (suc (size c.body)) Done (suc (size c.body))
  nothing = stop (subst IsMark (sym behind_end) tt)

  again : Reads (instrs m i) (length (whole c.body)) (after Done Done) (suc (size c.body))
  unfolding after
  again = subst (λ (n : ℕ). Reads (instrs m i) n Done (suc (size c.body))) (sym target_is) nothing

  -- in the label, in the frame
  pub in_body : (outer : Context) (behind : Rest) (s' : Shape) (e : Context) (ls : List Level) → LevelsAre m outer behind i (suc (size c.body)) ls e →
      s'.levels ≡ Label [] (length t.results) (length (whole c.body)) ∷ ls → s'.func ≡ i → s'.place ≡ 0 → s'.stage ≡ Body →
      StackIs m outer behind s' (InLabel ε (length t.results) Done Done ∷ e) (rest_of c.body)
  in_body outer behind s' e ls w l a b g =
      let inside : LevelsAre m outer behind i (size c.body) (Label [] (length t.results) (length (whole c.body)) ∷ ls) (InLabel ε (length t.results) Done Done ∷ e) =
      label (at_end ends) nothing again w in
      body g
      (subst (λ (x : ℕ). Reads (instrs m s'.func) x c.body (size c.body)) (sym b) (subst (λ (x : ℕ). Reads (instrs m x) 0 c.body (size c.body)) (sym a) read))
      (subst (λ (x : List Level). LevelsAre m outer behind s'.func (size c.body) x (InLabel ε (length t.results) Done Done ∷ e)) (sym l)
      (subst (λ (x : ℕ). LevelsAre m outer behind x (size c.body) (Label [] (length t.results) (length (whole c.body)) ∷ ls) (InLabel ε (length t.results) Done Done ∷ e)) (sym a) inside))
