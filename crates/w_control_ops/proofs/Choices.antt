-- Ifs: what they need, and where the stack stands inside.
use Rattle.std.proofs.Common.{rules, ◌≡◌, ℕ, zero, suc, ◌+◌, ◌<◌, ◌≤◌, List, [], ◌∷◌, Option, Some, None, length, slice_get, refl, sym, ap, ◌∙◌, subst, arith, add-one, drop, take}
use Rattle.std.specs.Prelude.{◌^◌, IsSome}
use Rattle.std.proofs.lemmas.Option.{slice_get_within}
use Rattle.lists.specs.Rows.{Row}
use Rattle.w_types.specs.declared.value.Value.{Value}
use Rattle.w_syntax.specs.Code.{Code, Done, If, IfElse, after}
use Rattle.w_syntax.specs.declared.instructions.BlockKind.TheVariants as kind
use Rattle.w_syntax.specs.declared.instructions.BlockType.{BlockType}
use Rattle.w_syntax.specs.declared.instructions.Instr.{Instr}
use Rattle.w_syntax.specs.declared.instructions.Instr.TheVariants as flat
use Rattle.w_syntax.specs.declared.numeric.IntType.TheVariants as int
use Rattle.w_syntax.specs.declared.module.Module.{Module}
use Rattle.w_segment.specs.Shape.{Shape, Level, Label}
use Rattle.w_tables.specs.Store as instances
use Rattle.w_reduce.specs.Values.{Val}
use Rattle.w_reduce.specs.Store.{Store}
use Rattle.w_reduce.specs.Terms.{Rest, rest_of, Context}
use Rattle.w_reduce.specs.Program.{Program, Arity, arity_of}
use Rattle.w_reduce.specs.Reduced.{steps_to}
use Rattle.w_reduce.specs.Reduce.{next}
use Rattle.w_reduce.specs.Branches.{label_of, block, choice, chosen}
use Rattle.w_stands.specs.Values.{stack, store_of}
use Rattle.w_stands.specs.Numbers.{IsNumber, bits_in}
use Rattle.w_stands.specs.declared.did.Did.TheVariants as did
use Rattle.w_stands.specs.Code.{instrs, IsMark, Reads, stop, plain, block as reads_block, choice as reads_choice, choices as reads_choices, Behind, at_end, at_else}
use Rattle.w_stands.specs.Stands.{LevelsAre, label}
use Rattle.w_stands.specs.Steps.{Outside, next_of, Configured, MovesAlone, FollowsAlone}
use Rattle.w_stands.proofs.Numbers.{TakesNumber, number_there, number_top}
use Rattle.w_stands.proofs.RoomOfFrames.{same_room, room_for_label}
use Rattle.w_stands.proofs.AtInstructions.{here, onward}
use Rattle.w_stands.proofs.PlainSteps.{place_fits}
use Rattle.w_control_ops.specs.Entering.{start_of, IsLabelled}
use Rattle.w_control_ops.proofs.EnteredLabels.{Enters, enters, entered, enters_with}

-- ## What stands there

-- the contents that a number chooses
pub record Contents (is : List Instr) (p : ℕ) (y : Option ℕ) (z : ℕ) (x w : Code) (n : ℕ) : Type 0 where
  pub end : ℕ
  pub reads : Reads is (start_of n p y z) (chosen n x w) end
  pub behind : Behind is end (z + 1) (suc z)
  pub fits : start_of n p y z ≤ length is

-- an if, and what follows it
pub record ShowsIf (is : List Instr) (p : ℕ) (c : Code) (q : ℕ) (b : BlockType) (y : Option ℕ) (z : ℕ) : Type 0 where
  pub contents : Code
  pub other : Code
  pub following : Code
  pub shape : (l : Program) (u : Store) (e : Context) (vs : Row Val) → next l u e vs [] c ≡ choice l u e vs b contents other following
  pub chooses : (n : ℕ) → Contents is p y z contents other n
  pub ends : slice_get is z ≡ Some flat.End
  pub reads : Reads is (suc z) following q

-- without an else
one_contents : {is : List Instr} {p z : ℕ} {b : BlockType} {x : Code} → slice_get is p ≡ Some (flat.If b None z) → Reads is (suc p) x z → slice_get is z ≡ Some flat.End → (n : ℕ) →
    Contents is p None z x Done n
one_contents {is} {p} {z} g i e zero =
    let h = slice_get_within is z flat.End e in
    record { end = z; reads = stop (subst IsMark (sym e) tt); behind = at_end e; fits = omega (arith, h) }
one_contents {is} {p} {z} {b} {x} g i e (suc n) =
    let h = slice_get_within is p (flat.If b None z) g in
    record { end = z; reads = subst (λ (k : ℕ). Reads is k x z) (sym (add-one p)) i; behind = at_end e; fits = omega (arith, h) }

-- with one
two_contents : {is : List Instr} {p y z : ℕ} {b : BlockType} {x w : Code} → slice_get is p ≡ Some (flat.If b (Some y) z) → Reads is (suc p) x y → slice_get is y ≡ Some flat.Else → Reads is (suc y) w z →
    slice_get is z ≡ Some flat.End → (n : ℕ) → Contents is p (Some y) z x w n
two_contents {is} {p} {y} {z} {w = w} g i t j e zero =
    let h = slice_get_within is y flat.Else t in
    record { end = z; reads = subst (λ (k : ℕ). Reads is k w z) (sym (add-one y)) j; behind = at_end e; fits = omega (arith, h) }
two_contents {is} {p} {y} {z} {b} {x} g i t j e (suc n) =
    let h = slice_get_within is p (flat.If b (Some y) z) g in
    record {
      end = y;
      reads = subst (λ (k : ℕ). Reads is k x y) (sym (add-one p)) i;
      behind = subst (λ (k : ℕ). Behind is y (z + 1) k) (add-one z) (at_else t);
      fits = omega (arith, h);
    }

-- it is there
pub shows_if : {is : List Instr} {p q z : ℕ} {c : Code} (b : BlockType) (y : Option ℕ) → Reads is p c q → slice_get is p ≡ Some (flat.If b y z) → ShowsIf is p c q b y z
shows_if b y (stop m) g = absurd (subst IsMark g m)
shows_if b y (plain h r) g = absurd cc
shows_if b y (reads_block h x e r) g = absurd cc
shows_if {is} {p} {q} {z} b y (reads_choice {z = z'} {b = b'} {x = x} {c = d} h i e r) g =
    let s : flat.If b' None z' ≡ flat.If b y z = cc in
    let sb : b' ≡ b = cc s in
    let sy : None ≡ y = cc s in
    let sz : z' ≡ z = cc s in
    subst (λ (n : BlockType). ShowsIf is p (If b' x d) q n y z) sb
    (subst (λ (n : Option ℕ). ShowsIf is p (If b' x d) q b' n z) sy
    (subst (λ (n : ℕ). ShowsIf is p (If b' x d) q b' None n) sz
    (record { contents = x; other = Done; following = d; shape = λ l u e vs. refl; chooses = one_contents h i e; ends = e; reads = r })))
shows_if {is} {p} {q} {z} b y (reads_choices {y = y'} {z = z'} {b = b'} {x = x} {w = w} {c = d} h i t j e r) g =
    let s : flat.If b' (Some y') z' ≡ flat.If b y z = cc in
    let sb : b' ≡ b = cc s in
    let sy : Some y' ≡ y = cc s in
    let sz : z' ≡ z = cc s in
    subst (λ (n : BlockType). ShowsIf is p (IfElse b' x w d) q n y z) sb
    (subst (λ (n : Option ℕ). ShowsIf is p (IfElse b' x w d) q b' n z) sy
    (subst (λ (n : ℕ). ShowsIf is p (IfElse b' x w d) q b' (Some y') n) sz
    (record { contents = x; other = w; following = d; shape = λ l u e vs. refl; chooses = two_contents h i t j e; ends = e; reads = r })))

-- what stands around the contents that are chosen
around_chosen : {m : Module} {outer : Context} {behind : Rest} {f q w z : ℕ} {d : Code} {ls : List Level} {e : Context} (b : BlockType) (x : Code) (a : Arity) (below : List Value) →
    Behind (instrs m f) w (z + 1) (suc z) → Reads (instrs m f) (suc z) d q → LevelsAre m outer behind f q ls e →
    LevelsAre m outer behind f w (Label below a.results (z + 1) ∷ ls) (label_of kind.Block b a x (stack below) d e)
unfolding after
around_chosen {m} {f = f} {q = q} {z = z} {d = d} b x a below g r w = label g r (subst (λ (n : ℕ). Reads (instrs m f) n d q) (sym (add-one z)) r) w

-- ## The if

module _ (m : Module) (s : Shape) (b : BlockType) (y : Option ℕ) (z : ℕ) (mv : MovesAlone (flat.If b y z) m s) where
  -- what comes in any configuration
  shown : (u : instances.Store) (p : Program) (o : Outside) (e : Context) (r : Rest) (a : Configured m u s p o e r) →
      let h = here a.stands mv.moves.stage in (w : ShowsIf (instrs m s.func) s.place h.code h.end b y z)
      × (next_of p u s e r ≡ choice p (store_of u) e (stack s.operands) b w.contents w.other w.following)
  shown u p o e r a =
      let h = here a.stands mv.moves.stage in
      let w = shows_if b y h.reads mv.moves.here in
      (w, ap (λ (x : Rest). next p (store_of u) e (stack s.operands) x.ahead x.code) h.rest ∙ w.shape p (store_of u) e (stack s.operands))

  -- a number is on top
  choice_takes : TakesNumber int.I32 s.operands
  choice_takes =
      let v = mv.moves in
      let w = shown mv.u v.p v.o v.e v.r v.at in
      number_there int.I32 s.operands (λ q. block v.p (store_of mv.u) v.e q.0 kind.Block b (chosen q.1 w.0.contents w.0.other) w.0.following) (λ q. v.at.applies (w.1 ∙ q))

  -- so there is an operand
  pub choice_some : 0 < length s.operands
  choice_some = let e = ap (λ (l : List Value). length l) choice_takes.is in omega (arith, e)

  -- the places that the stack may go to are numbers of 32 bits
  pub choice_end : z + 1 < 2 ^ 32
  choice_end =
      let v = mv.moves in
      place_fits m s.func z flat.End (v.at.short s.func) (shown mv.u v.p v.o v.e v.r v.at).0.ends

  pub choice_start : (n : ℕ) → start_of n s.place y z < 2 ^ 32
  choice_start n =
      let v = mv.moves in
      let f = ((shown mv.u v.p v.o v.e v.r v.at).0.chooses n).fits in
      let t = v.at.short s.func in
      omega (arith, f, t)

  -- there is room for the label
  pub choice_room : length s.levels < s.capacity.levels
  choice_room = room_for_label m mv.u s (flat.If b y z) refl mv.moves

  module _ (v : Value) (vs : List Value) (is : s.operands ≡ v ∷ vs) where
    -- it is the topmost operand
    pub choice_number : IsNumber int.I32 v
    choice_number = let t = choice_takes in let e : t.top ∷ t.rest ≡ v ∷ vs = sym t.is ∙ is in let q : t.top ≡ v = cc e in subst (IsNumber int.I32) q t.number

    -- the block that is chosen
    choice_is : (u : instances.Store) (p : Program) (o : Outside) (e : Context) (r : Rest) (a : Configured m u s p o e r) →
        let w = (shown u p o e r a).0 in
        next_of p u s e r ≡ block p (store_of u) e (stack vs) kind.Block b (chosen (bits_in v) w.contents w.other) w.following
    choice_is u p o e r a =
        let w = shown u p o e r a in
        let x = w.0.contents in
        let y = w.0.other in
        let d = w.0.following in
        w.1 ∙ ap (λ (l : List Value). choice p (store_of u) e (stack l) b x y d) is
        ∙ number_top int.I32 v vs (λ q. block p (store_of u) e q.0 kind.Block b (chosen q.1 x y) d) choice_number

    -- the type has an arity, and its parameters are there
    choice_enters : Enters m b vs
    choice_enters =
        let k = mv.moves in
        let w = (shown mv.u k.p k.o k.e k.r k.at).0 in
        subst (λ (n : Module). Enters n b vs) k.at.source
        (enters k.p (store_of mv.u) k.e vs kind.Block b (chosen (bits_in v) w.contents w.other) w.following (λ q. k.at.applies (choice_is mv.u k.p k.o k.e k.r k.at ∙ q)))

    pub choice_fits : (a : Arity) → arity_of m b ≡ Some a → a.params ≤ length vs
    choice_fits a h = enters_with a choice_enters h

    -- it goes on in the contents that the number chooses
    pub choice_follows : (a : Arity) (s' : Shape) → arity_of m b ≡ Some a → IsLabelled 1 a.params a.results (z + 1) (start_of (bits_in v) s.place y z) s s' → FollowsAlone did.Went m s s'
    choice_follows a s' h l = λ u p o e r at.
        let g = here at.stands mv.moves.stage in
        let w = (shown u p o e r at).0 in
        let x = chosen (bits_in v) w.contents w.other in
        let d = w.following in
        let t = w.chooses (bits_in v) in
        let e' = label_of kind.Block b a x (stack (drop a.params vs)) d e in
        let beneath : drop 1 s.operands ≡ vs = ap (λ (xs : List Value). drop 1 xs) is in
        record {
          around = e';
          rest = rest_of x;
          is = choice_is u p o e r at ∙ entered p (store_of u) e vs kind.Block b x d a (ap (λ (n : Module). arity_of n b) at.source ∙ h) (choice_fits a h)
              ∙ ap (λ (xs : List Value). steps_to (store_of u) e' (stack xs) (rest_of x)) (sym (l.operands ∙ ap (λ (xs : List Value). take a.params xs) beneath));
          stands = onward s.func (start_of (bits_in v) s.place y z) (Label (drop a.params vs) a.results (z + 1) ∷ s.levels) t.reads
              (around_chosen b x a (drop a.params vs) t.behind w.reads g.around)
              (l.stage ∙ mv.moves.stage) l.func l.place (l.levels ∙ ap (λ (xs : List Value). Label (drop a.params xs) a.results (z + 1) ∷ s.levels) beneath);
          room = let t' : Shape = record s { levels = Label (drop a.params (drop 1 s.operands)) a.results (z + 1) ∷ s.levels } in same_room m t' s' l.levels l.func l.capacity at.room;
        }

  -- the type has an arity
  pub choice_known : IsSome (arity_of m b)
  choice_known = let t = choice_takes in let e = (choice_enters t.top t.rest t.is).is in search (rules, e)
