-- cont.new, of typed configurations.
use Rattle.std.proofs.Common.{◌≡◌, ℕ, false, [], ◌∷◌, ◌++◌, length, Option, Some, None, slice_get, refl, ap, ◌∙◌}
use Rattle.w_types.specs.declared.types.FuncType.{FuncType}
use Rattle.lists.specs.Rows.{Row, ε, ◌▹◌, ◌⧺◌, row_of}
use Rattle.lists.proofs.Rows.{unit_left}
use Rattle.w_syntax.specs.Code.{Code}
use Rattle.w_syntax.specs.declared.instructions.SwitchingOp.TheVariants as switching
use Rattle.w_syntax.specs.declared.module.Module.{Module}
use Rattle.w_canon.specs.Matching.{index_func}
use Rattle.w_canon.specs.Supertypes.{KeepsKinds}
use Rattle.w_canon.proofs.Preorder.{func_refl}
use Rattle.w_rules.specs.Context.{type_of_func, func_at, func_index_of_cont}
use Rattle.w_rules.specs.InstructionTypes.{cont_new_type, nullable, non_null}
use Rattle.w_rules.specs.Matching.{RowMatches, known}
use Rattle.w_rules.specs.Operands.{Operand, Known}
use Rattle.w_rules.specs.Sound.{Sound}
use Rattle.w_rules.specs.Spaces.{context_of, functions_of}
use Rattle.w_rules.specs.Typing.{HasInstrType}
use Rattle.w_rules.proofs.Preorder.{row_refl}
use Rattle.w_reduce.specs.declared.trap.Trap.TheVariants as trap
use Rattle.w_reduce.specs.Values.{Val}
use Rattle.w_reduce.specs.Store.{Store}
use Rattle.w_reduce.specs.Terms.{Context, fresh_continuation}
use Rattle.w_reduce.specs.Program.{Program}
use Rattle.w_reduce.specs.Switching.{switching_op}
use Rattle.w_typed.specs.Values.{Arrows, a_value, a_continuation, ValuesTyped, no_values, values}
use Rattle.w_typed.specs.Contexts.{closed, code_alone, invoke_first, outside, KeptTyped}
use Rattle.w_typed.specs.Configurations.{IsSafe}
use Rattle.w_typed.proofs.Subsumption.{values_sub}
use Rattle.w_typed.proofs.Holes.{subset_refl}
use Rattle.w_typed.proofs.MoreContinuations.{grows_more, values_grow}
use Rattle.w_typed.proofs.TypeKinds.{is_func}
use Rattle.w_typed.proofs.KeptComposites.{types_valid}
use Rattle.w_typed.proofs.SameTypes.{SameFunction, function_matches, result_rows}
use Rattle.w_typed.proofs.Indirect.{function_taken, one_type}
use Rattle.w_typed.proofs.ContTypes.{IsContOf, is_cont_of}
use Rattle.w_typed.proofs.Conts.{cont_made, made_reference, goes_with_more}
use Rattle.w_typed.proofs.Control.{Here, here_left}

-- a fresh continuation is of each function type that the function's own matches
fresh_typed : (m : Module) (K : Arrows) (a x : ℕ) (t : FuncType) → slice_get (functions_of m) a ≡ Some x → SameFunction m x t
    → KeptTyped m K (fresh_continuation a (length t.params)) t
fresh_typed m K a x t is f =
    let has : type_of_func (context_of m) a ≡ Some f.type = ap (func_at (context_of m)) is ∙ f.has_type in
    let from : Row Operand = known (row_of t.params) in
    let to : Row Operand = known (row_of t.results) in
    let own : Row Operand = known (row_of f.type.params) in
    let given : Row Operand = known (row_of f.type.results) in
    let takes : RowMatches m.types (ε ⧺ from) (ε ⧺ own) = rw (unit_left from, unit_left own) (result_rows m.types f.params) in
    let gives : RowMatches m.types (ε ⧺ given) to = rw (unit_left given) (result_rows m.types f.results) in
    record {
      takes = refl;
      term = record {
        scope = closed;
        set = [];
        now = [];
        still = subset_refl [];
        before = ε;
        after = to;
        operands = no_values;
        rest = invoke_first ε has takes (code_alone (record { derives = gives; none = λ e. refl; fits = λ n. tt; low = λ n. absurd (n refl) }));
        around = outside (row_refl m.types to);
      };
    }

module _ (p : Program) (keeps : KeepsKinds p.source.types) (K : Arrows) (us : Row Operand) {s : Store} {e : Context} {k : Code} where
  -- with the function type known
  made : {vs : Row Val} (x f : ℕ) {beneath : Row Operand} (h : Here p K us s e k (beneath ▹ Known (non_null x))) → h.leaving ≡ false → Sound p.source → IsContOf p.source x f
      → ValuesTyped p.source K vs (beneath ▹ Known (nullable f)) → IsSafe p.source K us (switching_op p s e vs (switching.ContNew x) k)
  made x f h n valid c (values b (a_value q)) =
      let m = p.source in
      let t : FuncType = c.type in
      function_taken p keeps us trap.NullReference _ (index_func (is_func m f t c.has_func)) q (λ a g.
      let same : SameFunction m g.index t = function_matches m (types_valid m valid) (one_type m g.matches) t c.has_func in
      let one = grows_more K t in
      rw (c.has_cont) (goes_with_more m one (cont_made m (fresh_continuation a (length t.params)) t s h.store (fresh_typed m (K ++ t ∷ []) a g.index t g.is same)) h.still
      (values (values_grow m one b) (a_value (a_continuation (made_reference m t t x s h.store c.has_cont (func_refl m.types t)))))
      (code_alone (h.behind n)) h.around))

  -- by whether there is a function type
  by_index : {ts ws : Row Operand} {vs : Row Val} (x : ℕ) (f : Option ℕ) (h : Here p K us s e k ws) → h.leaving ≡ false → Sound p.source → func_index_of_cont (context_of p.source) x ≡ f
      → HasInstrType p.source.types (cont_new_type x f) ts ws → ValuesTyped p.source K vs ts → IsSafe p.source K us (switching_op p s e vs (switching.ContNew x) k)
  by_index x None h n valid is t v = absurd t
  by_index x (Some f) h n valid is t v =
      let m = p.source in
      made x f (here_left p keeps K us t.gives h) n valid (is_cont_of m valid x f is) (values_sub m keeps t.takes v)

  -- cont.new makes a continuation of the function, or traps where it is null
  pub cont_new_safe : {ts ws : Row Operand} {vs : Row Val} (x : ℕ) (h : Here p K us s e k ws) → h.leaving ≡ false → Sound p.source
      → HasInstrType p.source.types (cont_new_type x (func_index_of_cont (context_of p.source) x)) ts ws → ValuesTyped p.source K vs ts → IsSafe p.source K us (switching_op p s e vs (switching.ContNew x) k)
  cont_new_safe x h n valid t v = by_index x (func_index_of_cont (context_of p.source) x) h n valid refl t v
