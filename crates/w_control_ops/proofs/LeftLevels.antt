-- Exits: where a stack stands behind a label or a frame that is left at the end of its sequence.
use Rattle.std.proofs.Common.{◌≡◌, ℕ, suc, ◌+◌, ◌<◌, List, [], ◌++◌, Some, Bool, true, false, length, slice_get, refl, sym, ap, ◌∙◌, subst, arith, add-one, if◌then◌else◌, nat_eq}
use Rattle.std.specs.Prelude.{◌≢◌, ◌^◌}
use Rattle.lists.specs.Rows.{Row, ◌⧺◌, size}
use Rattle.w_types.specs.declared.value.Value.{Value}
use Rattle.w_syntax.specs.Code.{Code, Done}
use Rattle.w_syntax.specs.declared.instructions.Instr.{Instr}
use Rattle.w_syntax.specs.declared.instructions.Instr.TheVariants as flat
use Rattle.w_syntax.specs.declared.module.Module.{Module}
use Rattle.w_segment.specs.declared.entry.Stage.TheVariants.{Body}
use Rattle.w_segment.specs.Shape.{Shape, Level, is_in_label}
use Rattle.w_segment.specs.Changes.{left, left_at, moved}
use Rattle.w_tables.specs.Store as instances
use Rattle.w_reduce.specs.Values.{Val}
use Rattle.w_reduce.specs.Store.{Store}
use Rattle.w_reduce.specs.Terms.{Rest, rest_of, Context}
use Rattle.w_reduce.specs.Program.{Program}
use Rattle.w_reduce.specs.Reduced.{Reduced, Stuck, steps_to}
use Rattle.w_reduce.specs.Reduce.{next}
use Rattle.w_reduce.specs.Exits.{leave}
use Rattle.w_stands.specs.Values.{stack, store_of}
use Rattle.w_stands.specs.declared.did.Did.TheVariants as did
use Rattle.w_stands.specs.Code.{instrs, instr_of, IsMark, Reads, stop, plain, block, choice, choices, Behind, at_end, at_else}
use Rattle.w_stands.specs.Stands.{LevelsAre, label, frame, outermost, StackIs, values}
use Rattle.w_stands.specs.Steps.{Outside, next_of, Configured, LeadsTo, FollowsAlone}
use Rattle.w_stands.specs.Room.{HasRoom}
use Rattle.w_stands.proofs.RoomOfFrames.{left_fit}
use Rattle.w_stands.proofs.AtInstructions.{here, onward}
use Rattle.w_stands.proofs.PlainSteps.{place_fits}
use Rattle.w_control_ops.specs.Ended.{stage_in, ended}
use Rattle.w_control_ops.specs.Exits.{ExitsAlone, IsEnd}
use Rattle.w_stands.proofs.ManyTakenOperands.{stack_append}
use Rattle.w_control_ops.proofs.LeftFrames.{inside, ended_parts, ended_room}

-- ## Where a sequence ends

-- at a mark nothing is left of it
pub marked : {is : List Instr} {p q : ℕ} {c : Code} → Reads is p c q → IsMark (slice_get is p) → (c ≡ Done) × (q ≡ p)
marked (stop m) h = (refl, refl)
marked (plain g r) h = absurd (subst IsMark g h)
marked (block g x z r) h = absurd (subst IsMark g h)
marked (choice g x z r) h = absurd (subst IsMark g h)
marked (choices g x t y z r) h = absurd (subst IsMark g h)

-- contents that end at an end go on behind it
behind_end : {is : List Instr} {q t z : ℕ} → Behind is q t z → IsEnd (slice_get is q) → z ≡ suc q
behind_end (at_end g) h = refl
behind_end (at_else g) h = absurd (subst IsEnd g h)

-- there is an instruction where contents end
behind_there : {is : List Instr} {q t z : ℕ} → Behind is q t z → (i : Instr) × (slice_get is q ≡ Some i)
behind_there (at_end g) = (flat.End, g)
behind_there (at_else g) = (flat.Else, g)

-- ## Levels that are left

-- a body has a level
some_levels : {m : Module} {outer : Context} {behind : Rest} {f q : ℕ} {ls : List Level} {e : Context} → LevelsAre m outer behind f q ls e → 0 < length ls
some_levels (label b k g w) = omega arith
some_levels (frame n k w) = omega arith
some_levels (outermost n) = omega arith

-- inside a label there is an instruction where the contents end
label_mark : {m : Module} {outer : Context} {behind : Rest} {f q : ℕ} {ls : List Level} {e : Context} → LevelsAre m outer behind f q ls e → is_in_label ls ≡ true →
    (i : Instr) × (instr_of m f q ≡ Some i)
label_mark (label b k g w) h = behind_there b
label_mark (frame n k w) h = absurd cc
label_mark (outermost n) h = absurd cc

-- where a level is left to
pub record Left (m : Module) (outer : Context) (behind : Rest) (u : Store) (s' : Shape) (d : Reduced) : Type 0 where
  pub around : Context
  pub rest : Rest
  pub is : d ≡ steps_to u around (stack s'.operands) rest
  pub stands : StackIs m outer behind s' around rest

-- a label, at an end
end_label : {m : Module} {outer : Context} {behind : Rest} {q : ℕ} {ls : List Level} {e : Context} (u : Store) (s s' : Shape) → LevelsAre m outer behind s.func q ls e → s.levels ≡ ls → is_in_label ls ≡ true →
    q ≡ s.place → IsEnd (slice_get (instrs m s.func) q) → s.stage ≡ Body → s' ≡ moved (s.place + 1) (left s) → Left m outer behind u s' (leave u e (stack s.operands))
end_label u s s' (label {q = q} {n = n} {target = t} {below = below} {rest = rest} {ls = ls} {e = e} b k g w) l h at mark stage after =
    let z = behind_end b mark in
    let is = after ∙ ap (λ (x : List Level). moved (s.place + 1) (left_at x s)) l in
    record {
      around = e;
      rest = rest_of rest;
      is = ap (λ (x : Row Val). steps_to u e x (rest_of rest)) (sym (stack_append s.operands below)) ∙ ap (λ (x : Shape). steps_to u e (stack x.operands) (rest_of rest)) (sym is);
      stands = onward s.func _ ls k w (ap (λ (x : Shape). x.stage) is ∙ stage) (ap (λ (x : Shape). x.func) is)
          (ap (λ (x : Shape). x.place) is ∙ add-one s.place ∙ ap (λ (x : ℕ). suc x) (sym at) ∙ sym z) (ap (λ (x : Shape). x.levels) is);
    }
end_label u s s' (frame n k w) l h at mark stage after = absurd cc
end_label u s s' (outermost n) l h at mark stage after = absurd cc

-- what a test that isn't stuck leads to
passed : (b : Bool) (d : Reduced) → (if b then d else Stuck) ≢ Stuck → (if b then d else Stuck) ≡ d
passed true d h = refl
passed false d h = absurd (h refl)

-- a frame
end_frame : {m : Module} {outer : Context} {behind : Rest} {q : ℕ} {ls : List Level} {e : Context} (u : Store) (s s' : Shape) → LevelsAre m outer behind s.func q ls e → s.levels ≡ ls → is_in_label ls ≡ false →
    s.stage ≡ Body → leave u e (stack s.operands) ≢ Stuck → s' ≡ ended (left s) → Left m outer behind u s' (leave u e (stack s.operands))
end_frame u s s' (label b k g w) l h stage go after = absurd cc
end_frame u s s' (frame {n = n} {caller = f} {back = p} {below = below} {rest = rest} {ls = outside} {e = e} past k w) l h stage go after =
    let is = ap (λ (x : List Level). left_at x s) l in
    let parts = ended_parts (left s) s' after (ap (λ (x : Shape). x.stage) is ∙ stage) in
    let operands : s'.operands ≡ s.operands ++ below = parts.operands ∙ ap (λ (x : Shape). x.operands) is in
    let levels : s'.levels ≡ outside = parts.levels ∙ ap (λ (x : Shape). x.levels) is in
    record {
      around = e;
      rest = rest_of rest;
      is = passed (nat_eq (size (stack s.operands)) n) (steps_to u e (stack below ⧺ stack s.operands) (rest_of rest)) go
          ∙ ap (λ (x : Row Val). steps_to u e x (rest_of rest)) (sym (stack_append s.operands below))
          ∙ ap (λ (xs : List Value). steps_to u e (stack xs) (rest_of rest)) (sym operands);
      stands = onward f p outside k w (parts.stage ∙ ap (λ (x : Shape). stage_in x.levels) is ∙ inside w) (parts.func ∙ ap (λ (x : Shape). x.func) is)
          (parts.place ∙ ap (λ (x : Shape). x.place) is) levels;
    }
end_frame {outer = outer} {behind = behind} u s s' (outermost {n = n} {below = below} past) l h stage go after =
    let is = ap (λ (x : List Level). left_at x s) l in
    let parts = ended_parts (left s) s' after (ap (λ (x : Shape). x.stage) is ∙ stage) in
    let operands : s'.operands ≡ s.operands ++ below = parts.operands ∙ ap (λ (x : Shape). x.operands) is in
    record {
      around = outer;
      rest = behind;
      is = passed (nat_eq (size (stack s.operands)) n) (steps_to u outer (stack below ⧺ stack s.operands) behind) go
          ∙ ap (λ (x : Row Val). steps_to u outer x behind) (sym (stack_append s.operands below))
          ∙ ap (λ (xs : List Value). steps_to u outer (stack xs) behind) (sym operands);
      stands = values (parts.stage ∙ ap (λ (x : Shape). stage_in x.levels) is) (parts.levels ∙ ap (λ (x : Shape). x.levels) is);
    }

-- ## The exit

module _ (m : Module) (s : Shape) (k : ExitsAlone m s) where
  -- in any configuration
  pub left_there : (u : instances.Store) (p : Program) (o : Outside) (e : Context) (r : Rest) → Configured m u s p o e r →
      (next_of p u s e r ≡ leave (store_of u) e (stack s.operands)) × ((q : ℕ) × (q ≡ s.place) × LevelsAre m o.outer o.behind s.func q s.levels e)
  left_there u p o e r a =
      let h = here a.stands k.stage in
      let d = marked h.reads k.here in
      (ap (λ (x : Rest). next p (store_of u) e (stack s.operands) x.ahead x.code) h.rest ∙ ap (λ (x : Code). next p (store_of u) e (stack s.operands) [] x) d.0, (h.end, d.1, h.around))

  -- there is a level
  pub exit_there : 0 < length s.levels
  exit_there = some_levels (left_there k.u k.p k.o k.e k.r k.at).1.2

  -- behind a label there is a place
  pub exit_place : is_in_label s.levels ≡ true → s.place + 1 < 2 ^ 32
  exit_place h =
      let w = (left_there k.u k.p k.o k.e k.r k.at).1 in
      let i = label_mark w.2 h in
      place_fits m s.func s.place i.0 (k.at.short s.func) (subst (λ (q : ℕ). instr_of m s.func q ≡ Some i.0) w.1 i.1)

  -- it is left there
  pub to_left : (u : instances.Store) (p : Program) (o : Outside) (e : Context) (r : Rest) (s' : Shape) → next_of p u s e r ≡ leave (store_of u) e (stack s.operands) →
      Left m o.outer o.behind (store_of u) s' (leave (store_of u) e (stack s.operands)) → HasRoom m s' → LeadsTo m o [] u s' (next_of p u s e r)
  to_left u p o e r s' q w room = record { around = w.around; rest = w.rest; is = q ∙ w.is; stands = w.stands; room = room }

  -- out of a label
  pub exit_label : (s' : Shape) → is_in_label s.levels ≡ true → IsEnd (instr_of m s.func s.place) → s' ≡ moved (s.place + 1) (left s) → FollowsAlone did.Went m s s'
  exit_label s' h mark after = λ u p o e r a.
      let w = left_there u p o e r a in
      to_left u p o e r s' w.0 (end_label (store_of u) s s' w.1.2 refl h w.1.1 (subst (λ (q : ℕ). IsEnd (instr_of m s.func q)) (sym w.1.1) mark) k.stage after)
      (subst (HasRoom m) (sym after) (left_fit m s s.levels refl a.room))

  -- out of a frame
  pub exit_frame : (s' : Shape) → is_in_label s.levels ≡ false → s' ≡ ended (left s) → FollowsAlone did.Went m s s'
  exit_frame s' h after = λ u p o e r a.
      let w = left_there u p o e r a in
      to_left u p o e r s' w.0 (end_frame (store_of u) s s' w.1.2 refl h k.stage (λ q. a.applies (w.0 ∙ q)) after)
      (subst (HasRoom m) (sym after) (ended_room m (left s) (left_fit m s s.levels refl a.room)))
