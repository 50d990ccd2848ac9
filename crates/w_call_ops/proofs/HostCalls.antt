-- What a call of a function of the host needs, and where it goes.
use Rattle.std.proofs.Common.{◌≡◌, ℕ, zero, suc, ◌+◌, ◌<◌, ◌≤◌, List, [], ◌∷◌, ◌++◌, length, take, drop, reverse, get_or, Option, Some, slice_get, refl, sym, ap, ◌∙◌, subst, arith}
use Rattle.std.specs.Prelude.{◌≢◌, ◌^◌}
use Rattle.std.proofs.lemmas.List.{length-drop, drop-drop, reverse-append, length-reverse, length-take-le}
use Rattle.w_types.specs.declared.value.Value.{Value}
use Rattle.w_syntax.specs.declared.numeric.IntType.TheVariants as int
use Rattle.w_syntax.specs.declared.instructions.Instr.TheVariants as flat
use Rattle.w_syntax.specs.declared.module.Module.{Module}
use Rattle.w_segment.specs.declared.entry.Stage.TheVariants.{Values}
use Rattle.w_segment.specs.Shape.{Shape}
use Rattle.w_segment.specs.Changes.{discarded, staged}
use Rattle.w_tables.specs.Store as instances
use Rattle.w_tables.specs.declared.entries.FuncEntry.{FuncEntry}
use Rattle.w_tables.specs.declared.entries.FuncEntry.TheVariants as entry
use Rattle.w_tables.specs.declared.entries.Printer.{Printer}
use Rattle.w_tables.specs.declared.entries.Printer.TheVariants as printer
use Rattle.w_reduce.specs.Terms.{Invoke, Rest, rest_of, Context}
use Rattle.w_reduce.specs.Program.{Program}
use Rattle.w_reduce.specs.Reduced.{Went, Stuck, or_stuck}
use Rattle.w_reduce.specs.Reduce.{next}
use Rattle.w_reduce.specs.Calls.{print, invoke, invoked}
use Rattle.w_stands.specs.Values.{stack, store_of}
use Rattle.w_stands.specs.Numbers.{IsNumber, bits_in}
use Rattle.w_stands.specs.GoingOn.{dropped}
use Rattle.w_stands.specs.Stands.{values}
use Rattle.w_stands.specs.Steps.{Follows}
use Rattle.w_stands.specs.declared.did.Did.TheVariants as did
use Rattle.w_stands.proofs.Numbers.{TakesNumber, number_there, number_top}
use Rattle.w_stands.specs.Room.{HasRoom}
use Rattle.w_stands.proofs.PlainSteps.{Next, following, applies, went, place_fits}
use Rattle.w_call_ops.specs.Calling.{Calls, Invokes}
use Rattle.w_call_ops.specs.Printing.{taken_by, printed, first, text_of}
use Rattle.w_call_ops.proofs.Invocations.{begins}

-- ## The rule

-- the address is that of this function of the host
pub host_invoked : (p : Program) (u : instances.Store) (e : Context) (vs : List Value) (a : ℕ) (k : Printer) (rest : Rest) → slice_get u.functions a ≡ Some (entry.Printer k) →
    invoke p (store_of u) e (stack vs) a rest ≡ print (store_of u) e (stack vs) k rest
host_invoked p u e vs a k rest h = ap (λ (o : Option FuncEntry). or_stuck o (λ f. invoked p (store_of u) e (stack vs) f rest)) h

-- it takes a number
pub print_there : (u : instances.Store) (e : Context) (k : Printer) (rest : Rest) (vs : List Value) → print (store_of u) e (stack vs) k rest ≢ Stuck → TakesNumber (taken_by k) vs
print_there u e printer.I32 rest vs h = number_there int.I32 vs (λ q. Went (printed printer.I32 q.1) (store_of u) (record { around = e; operands = q.0; rest = rest })) h
print_there u e printer.I64 rest vs h = number_there int.I64 vs (λ q. Went (printed printer.I64 q.1) (store_of u) (record { around = e; operands = q.0; rest = rest })) h
print_there u e printer.Byte rest vs h = number_there int.I32 vs (λ q. Went (printed printer.Byte q.1) (store_of u) (record { around = e; operands = q.0; rest = rest })) h

-- and prints it
pub print_is : (u : instances.Store) (e : Context) (k : Printer) (rest : Rest) (v : Value) (vs : List Value) → IsNumber (taken_by k) v →
    print (store_of u) e (stack (v ∷ vs)) k rest ≡ Went (printed k (bits_in v)) (store_of u) (record { around = e; operands = stack vs; rest = rest })
print_is u e printer.I32 rest v vs h = number_top int.I32 v vs (λ q. Went (printed printer.I32 q.1) (store_of u) (record { around = e; operands = q.0; rest = rest })) h
print_is u e printer.I64 rest v vs h = number_top int.I64 v vs (λ q. Went (printed printer.I64 q.1) (store_of u) (record { around = e; operands = q.0; rest = rest })) h
print_is u e printer.Byte rest v vs h = number_top int.I32 v vs (λ q. Went (printed printer.Byte q.1) (store_of u) (record { around = e; operands = q.0; rest = rest })) h

-- its argument is the first of these, and others are behind
pub argument : (k : Printer) (vs : List Value) → TakesNumber (taken_by k) vs → (vs ≡ first vs ∷ drop 1 vs) × IsNumber (taken_by k) (first vs) × (0 < length vs)
argument k vs t = subst (λ (l : List Value). (l ≡ first l ∷ drop 1 l) × IsNumber (taken_by k) (first l) × (0 < length l)) (sym t.is) (refl, t.number, omega arith)

-- ## Called by an instruction

module _ (m : Module) (u : instances.Store) (s : Shape) (a popped : ℕ) (h : Printer) (k : Calls a popped m u s) (host : slice_get u.functions a ≡ Some (entry.Printer h)) where
  argument_there : (drop popped s.operands ≡ first (drop popped s.operands) ∷ drop 1 (drop popped s.operands)) × IsNumber (taken_by h) (first (drop popped s.operands)) × (0 < length (drop popped s.operands))
  argument_there =
      let mv = k.moves in
      let c = following m u s mv.p mv.o mv.e mv.r k.i mv.at mv.stage mv.here in
      argument h (drop popped s.operands)
      (print_there u mv.e h (rest_of c) (drop popped s.operands)
      (λ q. applies m u s mv.p mv.o mv.e mv.r k.i mv.at mv.stage mv.here
      (k.rule mv.p mv.e c mv.at.source mv.at.program ∙ host_invoked mv.p u mv.e (drop popped s.operands) a h (rest_of c) host ∙ q)))

  pub print_some : popped + 1 ≤ length s.operands
  print_some = let l = argument_there.2 in let d = length-drop popped s.operands in omega (arith, l, d)

  pub print_number : IsNumber (taken_by h) (first (drop popped s.operands))
  print_number = argument_there.1

  pub print_place : s.place + 1 < 2 ^ 32
  print_place = place_fits m s.func s.place (flat.Plain k.i) (k.moves.at.short s.func) k.moves.here

  pub print_follows : (s' : Shape) → s' ≡ dropped (popped + 1) s → Follows did.Went m (text_of h popped s.operands) u s u s'
  print_follows s' after = λ p o e r at.
      let c = following m u s p o e r k.i at k.moves.stage k.moves.here in
      let vs = drop popped s.operands in
      let beneath : s'.operands ≡ drop 1 vs = ap (λ (x : Shape). x.operands) after ∙ sym (drop-drop 1 popped s.operands) in
      went m u s p o e r k.i at k.moves.stage k.moves.here (text_of h popped s.operands) u s'
      (subst (Next s) (sym after) (record { levels = refl; func = refl; place = refl; stage = k.moves.stage; capacity = refl }))
      (k.rule p e c at.source at.program
      ∙ host_invoked p u e vs a h (rest_of c) host
      ∙ ap (λ (l : List Value). print (store_of u) e (stack l) h (rest_of c)) argument_there.0
      ∙ print_is u e h (rest_of c) (first vs) (drop 1 vs) argument_there.1
      ∙ ap (λ (l : List Value). Went (text_of h popped s.operands) (store_of u) (record { around = e; operands = stack l; rest = rest_of c })) (sym beneath))

-- ## Invoked by a fresh segment

module _ (m : Module) (u : instances.Store) (s : Shape) (h : Printer) (k : Invokes m u s) (host : slice_get u.functions s.func ≡ Some (entry.Printer h)) where
  fresh_argument : (s.operands ≡ first s.operands ∷ drop 1 s.operands) × IsNumber (taken_by h) (first s.operands) × (0 < length s.operands)
  fresh_argument =
      let b = begins k.at.stands k.stage in
      argument h s.operands
      (print_there u k.e h k.o.behind s.operands
      (λ q. k.at.applies
      (ap (λ (x : Rest). next k.p (store_of u) k.e (stack s.operands) x.ahead x.code) b.rest ∙ host_invoked k.p u k.e s.operands s.func h k.o.behind host ∙ q)))

  pub fresh_number : IsNumber (taken_by h) (first s.operands)
  fresh_number = fresh_argument.1

  pub fresh_follows : (s' : Shape) → s' ≡ staged Values (discarded 1 s) → Follows did.Went m (text_of h 0 s.operands) u s u s'
  fresh_follows s' after = λ p o e r at.
      let b = begins at.stands k.stage in
      record {
        around = o.outer;
        rest = o.behind;
        is = ap (λ (x : Rest). next p (store_of u) e (stack s.operands) x.ahead x.code) b.rest
            ∙ ap (λ (x : Context). next p (store_of u) x (stack s.operands) (Invoke s.func ∷ o.behind.ahead) o.behind.code) b.outside
            ∙ host_invoked p u o.outer s.operands s.func h o.behind host
            ∙ ap (λ (l : List Value). print (store_of u) o.outer (stack l) h o.behind) fresh_argument.0
            ∙ print_is u o.outer h o.behind (first s.operands) (drop 1 s.operands) fresh_argument.1
            ∙ ap (λ (x : Shape). Went (text_of h 0 s.operands) (store_of u) (record { around = o.outer; operands = stack x.operands; rest = o.behind })) (sym after);
        stands = values (ap (λ (x : Shape). x.stage) after) (ap (λ (x : Shape). x.levels) after ∙ b.levels);
        room = subst (HasRoom m) (sym after) at.room;
      }

-- ## Reading the argument

first_in : (xs ys : List Value) (d : Value) → 0 < length xs → get_or (xs ++ ys) 0 d ≡ get_or xs 0 d
first_in [] ys d h = absurd (omega arith)
first_in (x ∷ xs) ys d h = refl

-- of the topmost operands, the topmost last, the first one stands beneath the others
pub lowest : (n : ℕ) (vs : List Value) (d : Value) → n < length vs → get_or (reverse (take (suc n) vs)) 0 d ≡ first (drop n vs)
lowest n [] d h = absurd (omega arith)
lowest zero (v ∷ vs) d h = refl
lowest (suc n) (v ∷ vs) d h =
    let below = length-take-le (suc n) vs (omega arith) in
    let turned = length-reverse (take (suc n) vs) in
    ap (λ (l : List Value). get_or l 0 d) (reverse-append (v ∷ []) (take (suc n) vs))
    ∙ first_in (reverse (take (suc n) vs)) (v ∷ []) d (omega (arith, below, turned))
    ∙ lowest n vs d (omega arith)
