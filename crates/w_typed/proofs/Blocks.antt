-- Blocks of typed configurations.
use Rattle.std.proofs.Common.{◌≡◌, ℕ, subst, Bool, true, false, cond, List, Option, Some, None, option_map, refl, sym, ap}
use Rattle.w_types.specs.declared.types.FuncType.{FuncType}
use Rattle.w_types.specs.declared.types.ValType.{ValType}
use Rattle.lists.specs.Rows.{Row, ε, ◌▹◌, ◌⧺◌, size}
use Rattle.lists.proofs.Rows.{size-row_of}
use Rattle.w_syntax.specs.Code.{Code, Done, Block, after}
use Rattle.w_syntax.specs.Functions.{func_type}
use Rattle.w_syntax.specs.declared.instructions.BlockKind.{BlockKind}
use Rattle.w_syntax.specs.declared.instructions.BlockKind.TheVariants as kind
use Rattle.w_syntax.specs.declared.instructions.BlockKind.TheVariants.{Loop}
use Rattle.w_syntax.specs.declared.instructions.BlockType.{BlockType}
use Rattle.w_syntax.specs.declared.instructions.BlockType.TheVariants as blocktype
use Rattle.w_syntax.specs.declared.module.Module.{Module}
use Rattle.w_canon.specs.Supertypes.{KeepsKinds}
use Rattle.w_rules.specs.Context as rules
use Rattle.w_rules.specs.Context.{Arrow, arrow_of, arrow_at, arrow_of_type, type_count, labelled}
use Rattle.w_rules.specs.Matching.{known}
use Rattle.w_rules.specs.Operands.{Operand}
use Rattle.w_rules.specs.Types.{has_type}
use Rattle.w_rules.specs.Typing.{HasType, Derives}
use Rattle.w_rules.proofs.Preorder.{row_refl}
use Rattle.w_reduce.specs.Values.{Val}
use Rattle.w_reduce.specs.Store.{Store}
use Rattle.w_reduce.specs.Terms.{rest_of, Context}
use Rattle.w_reduce.specs.Program.{Program, Arity, arity_of, function_arity}
use Rattle.w_reduce.specs.Reduced.{steps_to}
use Rattle.w_reduce.specs.Branches.{block, label_of}
use Rattle.w_typed.specs.Ranges.{ConstantsFit, NumbersFit}
use Rattle.w_typed.specs.Values.{Arrows, ValuesTyped}
use Rattle.w_typed.specs.Stores.{StoreTyped}
use Rattle.w_typed.specs.Contexts.{Scope, under, in_scope, IsLow, CodeTyped, code_alone, Subset, Within, label}
use Rattle.w_typed.specs.Configurations.{IsSafe}
use Rattle.w_typed.proofs.Subsumption.{values_sub}
use Rattle.w_typed.proofs.TypedOperands.{values_taken}
use Rattle.w_typed.proofs.Holes.{code_left}
use Rattle.w_typed.proofs.Low.{as_later, size_known}
use Rattle.w_typed.proofs.Branches.{values_size}
use Rattle.w_typed.proofs.Onward.{goes_on}

-- how many operands a block of this type takes and gives
abbrev sizes : Arrow → Arity
sizes a = record { params = size a.from; results = size a.to }

arity_of_value : (b : Bool) (t : ValType) (a : Arrow) → cond b (Some (record { from = ε; to = ε ▹ t })) None ≡ Some a → Some (record { params = 0; results = 1 }) ≡ Some (sizes a)
arity_of_value true t a is = ap (option_map sizes) is
arity_of_value false t a is = absurd (cc)

arity_of_function : (t : Option FuncType) (a : Arrow) → arrow_at t ≡ Some a → function_arity t ≡ Some (sizes a)
arity_of_function None a is = absurd (cc)
arity_of_function (Some t) a is = rw (sym (size-row_of t.params), sym (size-row_of t.results)) (ap (option_map sizes) is)

-- a block of a type takes and gives as many operands as that has
arity_typed : (m : Module) (c : Scope) (b : BlockType) (a : Arrow) → arrow_of (in_scope m c) b ≡ Some a → arity_of m b ≡ Some (sizes a)
arity_typed m c blocktype.Empty a is = ap (option_map sizes) is
arity_typed m c (blocktype.Value t) a is = arity_of_value (has_type (type_count (in_scope m c)) t) t a is
arity_typed m c (blocktype.Index x) a is = arity_of_function (func_type m x) a is

-- nothing before a sequence
pub after_done : (k : Code) → after Done k ≡ k
unfolding after
after_done k = refl

after_block : (kind : BlockKind) (b : BlockType) (x k : Code) → after (Block kind b x Done) k ≡ Block kind b x k
unfolding after
after_block kind b x k = refl

-- the arrow is there
pub record BlockTyped (m : Module) (c : Scope) (set : List Bool) (kind : BlockKind) (b : BlockType) (x k : Code) (ts ws out : Row Operand) : Type 0 where
  pub arrow : Arrow
  pub is : arrow_of (in_scope m c) b ≡ Some arrow
  pub inside : Derives (labelled (in_scope m c) (rules.label_of kind arrow)) set x (known arrow.from) (known arrow.to)
  pub has_type : HasType m.types (known arrow.from) (known arrow.to) ts ws
  pub behind : CodeTyped m c set k ws out
  pub inside_fits : NumbersFit m → ConstantsFit x
  pub inside_low : (c.results ≡ None → ⊥) → IsLow m (under (size has_type.beneath) (rules.label_of kind arrow) c) set x (size arrow.from)
  pub again_low : kind ≡ Loop → (c.results ≡ None → ⊥) → IsLow m c set (Block Loop b x k) (size (has_type.beneath ⧺ known arrow.from))

module _ (p : Program) (keeps : KeepsKinds p.source.types) {K : Arrows} (us : Row Operand) where
  inside_there : (kind : BlockKind) {b : BlockType} {x k : Code} {c : Scope} {set : List Bool} {ts ws out : Row Operand} (h : BlockTyped p.source c set kind b x k ts ws out)
      → (below : Row Val) → ValuesTyped p.source K below h.has_type.beneath → (c.results ≡ None → ⊥)
      → IsLow p.source (under (size below) (rules.label_of kind h.arrow) c) set x (size (known h.arrow.from))
  inside_there kind {x = x} {c = c} {set = set} h below lower i =
      let m = p.source in
      let label_there = rules.label_of kind h.arrow in
      subst (λ (n : ℕ). IsLow m (under (size below) label_there c) set x n) (sym (size_known h.arrow.from))
      (subst (λ (n : ℕ). IsLow m (under n label_there c) set x (size h.arrow.from)) (sym (values_size m lower)) (h.inside_low i))

  block_goes : (kind : BlockKind) {b : BlockType} {x k : Code} {s : Store} {e : Context} {vs : Row Val} {c : Scope} {set now : List Bool} {ts ws out : Row Operand}
      → StoreTyped p.source K s → Subset set now → ValuesTyped p.source K vs ts → (h : BlockTyped p.source c set kind b x k ts ws out) → (c.results ≡ None → ⊥)
      → Within p.source K us e c now out → (below args : Row Val) → ValuesTyped p.source K below h.has_type.beneath → ValuesTyped p.source K args (known h.arrow.from)
      → IsSafe p.source K us (steps_to s (label_of kind b (sizes h.arrow) x below k e) args (rest_of x))
  block_goes kind.Block {k = k} u still v h n w below args lower taken =
      let m = p.source in
      let gives = as_later m (code_left m keeps h.has_type.gives h.behind) in
      goes_on m us u still taken (code_alone (record { derives = h.inside; none = λ e. absurd (n e); fits = h.inside_fits; low = inside_there kind.Block h below lower }))
      (label h.has_type.beneath (row_refl m.types (known h.arrow.to)) refl lower (rw (after_done k) gives) gives still w)
  block_goes kind.Loop {b = b} {x = x} {k = k} {c = c} {set = set} {ws = ws} {out = out} u still v h n w below args lower taken =
      let m = p.source in
      let from = h.has_type.beneath ⧺ known h.arrow.from in
      let again : Derives (in_scope m c) set (Block kind.Loop b x k) from out = rw h.is (h.inside, (ws, record { beneath = h.has_type.beneath; takes = row_refl m.types from; gives = h.has_type.gives }, h.behind.derives)) in
      goes_on m us u still taken (code_alone (record { derives = h.inside; none = λ e. absurd (n e); fits = h.inside_fits; low = inside_there kind.Loop h below lower }))
      (label h.has_type.beneath (row_refl m.types (known h.arrow.to)) refl lower
      (rw (after_block kind.Loop b x k) (record { derives = again; none = λ e. absurd (n e); fits = λ f. (h.inside_fits f, h.behind.fits f); low = λ i room. h.again_low refl i })) (as_later m (code_left m keeps h.has_type.gives h.behind)) still w)

  -- a block is entered, with the operands that it takes
  pub block_safe : (kind : BlockKind) {b : BlockType} {x k : Code} {s : Store} {e : Context} {vs : Row Val} {c : Scope} {set now : List Bool} {ts ws out : Row Operand}
      → StoreTyped p.source K s → Subset set now → ValuesTyped p.source K vs ts → BlockTyped p.source c set kind b x k ts ws out → (c.results ≡ None → ⊥)
      → Within p.source K us e c now out → IsSafe p.source K us (block p s e vs kind b x k)
  block_safe kind {b = b} {vs = vs} {c = c} u still v h n w =
      let m = p.source in
      rw (arity_typed m c b h.arrow h.is)
      (values_taken m us (size h.arrow.from) vs h.has_type.beneath (known h.arrow.from) _ (sym (size_known h.arrow.from)) (values_sub m keeps h.has_type.takes v)
      (block_goes kind u still v h n w))
