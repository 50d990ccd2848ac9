-- What typing tells of room where the parts stand: what comes next fits, after a reduction no frame holds more than its function has
-- anywhere, and want of memory stops nothing but what may take some.
use Rattle.std.proofs.Common.{◌≡◌, ◌<◌, ◌+◌, ℕ, zero, suc, true, false, List, length, Option, Some, slice_get, refl, sym, ap, subst, subst₂, ◌∙◌, arith}
use Rattle.w_types.specs.declared.types.FuncType.{FuncType}
use Rattle.lists.specs.Rows.{Row, ε, row_of, size}
use Rattle.lists.proofs.Rows.{size-row_of}
use Rattle.w_syntax.specs.Code.{Done}
use Rattle.w_syntax.specs.declared.module.Module.{Module}
use Rattle.w_rules.specs.Matching.{known}
use Rattle.w_rules.specs.Operands.{Operand}
use Rattle.w_rules.specs.Sound.{Sound}
use Rattle.w_segment.specs.declared.entry.Stage.TheVariants.{Values}
use Rattle.w_segment.specs.Shape.{Shape}
use Rattle.w_segment.specs.Link.{Link, top, rest}
use Rattle.w_reduce.specs.Program.{Program}
use Rattle.w_reduce.specs.Reduced.{Reduced}
use Rattle.w_reduce.specs.Reduce.{next}
use Rattle.w_reduce.specs.Room.{FrameHolds, Holding, HoldsAfter, function_in, more_operands, more_labels, invokes_next, may_take_memory}
use Rattle.w_reduce.specs.Store.{Store}
use Rattle.w_reduce.specs.Terms.{Rest, rest_of, Context, Term, Continuation}
use Rattle.w_reduce.specs.Values.{Val}
use Rattle.w_stands.specs.Code.{instr_of}
use Rattle.w_stands.specs.Room.{NextFits, operands_of, labels_of}
use Rattle.w_stands.specs.Stands.{StackIs, body, left, fresh, values}
use Rattle.w_stands.proofs.RoomOfFrames.{measured, stack_size}
use Rattle.w_stands.proofs.AtInstructions.{here}
use Rattle.w_plain.specs.Plainness.{takes_at, MayTakeAt, MayTake}
use Rattle.w_switching.specs.Sound.{HasRoomFor}
use Rattle.w_switching.specs.Standing.{Chained, only, around}
use Rattle.w_switching.proofs.LeftHandles.{exit_room}
use Rattle.w_switching.proofs.Rooms.{links_top}
use Rattle.w_typed.specs.Values.{Arrows}
use Rattle.w_typed.specs.Stores.{ContTyped, kept, Instances, no_instance, instances}
use Rattle.w_typed.specs.Configurations.{Typed, IsSafe, goes, traps, is_limited, ends}
use Rattle.w_typed.proofs.FramesHold.{frames_hold, next_has_room}
use Rattle.w_typed.proofs.Low.{size_known}
use Rattle.w_typed.proofs.Reductions.{nexts_are_safe}
use Rattle.w_configuration.specs.Parts.{Parts, whole}
use Rattle.w_configuration.specs.Standing.{Stands, StandsSomewhere}
use Rattle.w_configuration.proofs.NextCode.{read_takes, read_operands, read_labels}
use Rattle.w_configuration.proofs.Tops.{top_of}

-- ## What comes next

-- whether what comes next may take memory shows in where the stack stands
pub may_take_in : {m : Module} {outer : Context} {behind : Rest} {s : Shape} {e : Context} {r : Rest} → StackIs m outer behind s e r → MayTake m s → may_take_memory r.ahead r.code ≡ true
may_take_in {m = m} {s = s} (body h k w) f = let takes : takes_at (instr_of m s.func s.place) ≡ true = subst (λ y. MayTakeAt y (instr_of m s.func s.place)) h f in read_takes k ∙ takes
may_take_in {m = m} {s = s} (left h k w) f = absurd (subst (λ y. MayTakeAt y (instr_of m s.func s.place)) h f)
may_take_in (fresh h k) f = refl
may_take_in {m = m} {s = s} (values h k) f = absurd (subst (λ y. MayTakeAt y (instr_of m s.func s.place)) h f)

-- ## What frames hold

no_more : {m : Module} {f : ℕ} {e : Context} {n n' : ℕ} → n ≡ n' → FrameHolds m f e n 0 → FrameHolds m f e n' 0
no_more {m} {f} {e} is h = subst (λ (x : ℕ). FrameHolds m f e x 0) is h

-- one continuation of a typed store
module _ {m : Module} {K : Arrows} where
  kept_holds : {k : Continuation} {t : FuncType} → ContTyped m K (Some k) t → (f : ℕ) → function_in k.term.around ≡ Some f → invokes_next k.term.rest.ahead ≡ false
      → FrameHolds m f k.term.around (size k.term.operands + k.takes) 0
  kept_holds {k = k} {t = t} (kept h) f is none =
      let ps = known (row_of t.params) in
      let known_size = size_known (row_of t.params) in
      let row_size : size (row_of t.params) ≡ length t.params = size-row_of t.params in
      let takes = h.takes in
      let many : size k.term.operands + size ps ≡ size k.term.operands + k.takes = omega (arith, known_size, row_size, takes) in
      no_more many (frames_hold m K ps (known (row_of t.results)) k.term h.term f is none)

  stored_holds : {ks : List (Option Continuation)} {ts : List FuncType} → Instances (ContTyped m K) ks ts → (a : ℕ) (k : Continuation) → slice_get ks a ≡ Some (Some k)
      → (f : ℕ) → function_in k.term.around ≡ Some f → invokes_next k.term.rest.ahead ≡ false → FrameHolds m f k.term.around (size k.term.operands + k.takes) 0
  stored_holds no_instance a k at f is none = absurd (cc)
  stored_holds (instances {x = o} {y = t} g h) zero k at f is none = kept_holds (subst (λ (y : Option Continuation). ContTyped m K y t) (let e : o ≡ Some k = cc in e) g) f is none
  stored_holds (instances g h) (suc a) k at f is none = stored_holds h a k at f is none

  -- a typed configuration
  holding : {us : Row Operand} {s : Store} {t : Term} → Typed m K us s t → Holding m s t
  holding {us} {s} {t} h = record {
    running = λ f is none. no_more (let e : size t.operands + 0 ≡ size t.operands = omega arith in e) (frames_hold m K ε us t h.term f is none);
    stored = stored_holds h.store.conts;
  }

holds_safe : {m : Module} {K : Arrows} {us : Row Operand} {d : Reduced} → IsSafe m K us d → HoldsAfter m d
holds_safe {m = m} (goes {out = out} {s = s} {t = t} g typed) = λ o v w is.
    let same_store : s ≡ v = cc in let same : t ≡ w = cc in subst₂ (Holding m) same_store same (holding typed)
holds_safe traps = λ o v w is. absurd (cc)
holds_safe is_limited = λ o v w is. absurd (cc)
holds_safe (ends h) = λ o v w is. absurd (cc)

module _ {m : Module} {waiting : List ℕ} {x : Parts} {p : Program} {ks : List (Option Continuation)} {t : Term} where
  -- after the next reduction no frame holds more
  pub holds_next : Sound m → Stands m waiting x p ks t → HoldsAfter m (next p (whole x.store ks) t.around t.operands t.rest.ahead t.rest.code)
  holds_next sound h =
      let d = next p (whole x.store ks) t.around t.operands t.rest.ahead t.rest.code in
      subst (λ (n : Module). HoldsAfter n d) h.stand.source
      (holds_safe (nexts_are_safe p h.arrows h.results (whole x.store ks) t h.stand.program (subst Sound (sym h.stand.source) sound)
      (subst (λ (n : Module). Typed n h.arrows h.results (whole x.store ks) t) (sym h.stand.source) h.typed)))

  -- before it there is room for what comes next
  pub next_fits : Stands m waiting x p ks t → NextFits m (top x.chain).shape
  next_fits h i b at =
      let s = (top x.chain).shape in
      let w = here (top_of h.stand.term).stands b in
      let measures = measured w.around s.capacity (links_top m x.chain h.room.running) in
      let fits = next_has_room m h.arrows h.results t h.typed.term s.func measures.function (ap (λ (r : Rest). r.ahead) w.rest) in
      let many : size t.operands ≡ length s.operands = ap size (top_of h.stand.term).operands ∙ stack_size s.operands in
      let gives : more_operands t.rest.code ≡ operands_of i = ap (λ (r : Rest). more_operands r.code) w.rest ∙ read_operands w.reads i at in
      let enters : more_labels t.rest.code ≡ labels_of i = ap (λ (r : Rest). more_labels r.code) w.rest ∙ read_labels w.reads i at in
      let operands = measures.operands (size t.operands + more_operands t.rest.code) fits.operands in
      let labels = measures.labels (more_labels t.rest.code) fits.labels in
      record { operands = omega (arith, operands, many, gives); labels = omega (arith, labels, enters) }

-- ## The exit of a handle

values_rest : {m : Module} {outer : Context} {behind : Rest} {s : Shape} {e : Context} {r : Rest} → StackIs m outer behind s e r → s.stage ≡ Values → r ≡ behind
values_rest (body h k w) b = absurd (cc)
values_rest (left h k w) b = absurd (cc)
values_rest (fresh h k) b = absurd (cc)
values_rest (values h k) b = refl

-- nothing comes next where a handle is left
inside_rest : {m : Module} {outer : Context} {behind : Rest} {chain : List Link} {e : Context} {vs : Row Val} {r : Rest} → Chained m outer behind chain e vs r → 1 < length chain
    → (top chain).shape.stage ≡ Values → r ≡ rest_of Done
inside_rest (only h q) two b = absurd (omega (arith, two))
inside_rest (around h q clauses w k) two b = values_rest h b

-- the segment around it has room for the values
pub leaving_room : {m : Module} {x : Parts} → Sound m → StandsSomewhere m x → 1 < length x.chain → (top x.chain).shape.stage ≡ Values
    → HasRoomFor (length (top x.chain).shape.operands) (rest x.chain)
leaving_room {m} {x} sound h two b =
    let t = h.t in
    let s = whole x.store h.ks in
    exit_room h.stands.stand two b h.stands.room.running
    (subst (λ (r : Rest). HoldsAfter m (next h.p s t.around t.operands r.ahead r.code)) (inside_rest h.stands.stand.term two b) (holds_next sound h.stands))
