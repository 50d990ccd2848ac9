-- Constant expressions, instruction by instruction of their lists.
use Rattle.std.proofs.Common.{◌≡◌, ℕ, ◌+◌, ◌<◌, List, [], ◌∷◌, ◌++◌, length, drop, get_or, refl, sym, ap, ◌∙◌, subst}
use Rattle.std.specs.Prelude.{Bool, true, false, ◌&&◌, IsTrue, Some}
use Rattle.std.specs.Option.{option_and_then}
use Rattle.std.proofs.lemmas.List.{at_drop_more}
use Rattle.lists.specs.Rows.{Row, ε}
use Rattle.w_types.specs.declared.value.Value.{Value}
use Rattle.w_syntax.specs.Code.{Code, Done, Plain, Block, If, IfElse}
use Rattle.w_syntax.specs.Flat.{laid, whole}
use Rattle.w_syntax.specs.declared.instructions.Instr.{Instr}
use Rattle.w_syntax.specs.declared.instructions.Instr.TheVariants as flat
use Rattle.w_syntax.specs.declared.instructions.Op.{Op}
use Rattle.w_syntax.specs.declared.packed.PackedInstr.{PackedInstr}
use Rattle.w_syntax.specs.Packed.{OnPlain, unpacked, unpacked_all}
use Rattle.w_rules.specs.Bodies.{is_const, all_const}
use Rattle.w_rules.specs.Context.{Context}
use Rattle.w_reduce.specs.Values.{Val, Null, val}
use Rattle.w_reduce.specs.Store.{Store}
use Rattle.w_reduce.specs.Program.{Program}
use Rattle.w_reduce.specs.Constants.{evaluated, value_of, topmost}
use Rattle.w_inst.specs.Constants.{MayBeConstant, IsConstant, Sees, Leaves, LeavesAt, row}

-- an instruction in front of code; a mark is left out
abbrev pub in_front : Instr → Code → Code
in_front (flat.Plain o) k = Plain o k
in_front _ k = k

-- the code of a list of plain instructions
abbrev pub plain_code : List Instr → Code
plain_code [] = Done
plain_code (i ∷ is) = in_front i (plain_code is)

-- the same of packed instructions
abbrev pub code_in : List PackedInstr → Code
code_in ps = plain_code (unpacked_all ps)

-- two tests
pub each : (a b : Bool) → (a && b) ≡ true → (a ≡ true) × (b ≡ true)
each true b e = (refl, e)
each false b e = absurd (cc)

-- the list of a constant expression is that of plain instructions
constant_laid : (c : Context) (n : ℕ) (k : Code) → IsTrue (all_const c k) → plain_code (laid n k ++ flat.End ∷ []) ≡ k
unfolding laid
constant_laid c n Done h = refl
constant_laid c n (Plain o k) h = ap (Plain o) (constant_laid c (n + 1) k (each (is_const c o) (all_const c k) h).1)
constant_laid c n (Block kind x b k) h = absurd (cc)
constant_laid c n (If x b k) h = absurd (cc)
constant_laid c n (IfElse x b d k) h = absurd (cc)

-- how far a constant expression was evaluated: these operands lead to what the whole leads to
pub record Evaluates (gs : List Value) (n : ℕ) (code : Code) (vs : List Value) (rest : Code) : Type 0 where
  pub constant : IsConstant rest
  pub same : (p : Program) (s : Store) → Sees gs n s → evaluated p s (row vs) rest ≡ evaluated p s ε code

-- at first
pub evaluates_first : (gs : List Value) (n : ℕ) (code : Code) (ps : List PackedInstr) → IsConstant code → unpacked_all ps ≡ whole code → Evaluates gs n code [] (code_in ps)
evaluates_first gs n code ps h e =
    let is : code_in ps ≡ code = ap plain_code e ∙ constant_laid h.within 0 code h.constant in
    let P : Code → Type 0 = λ k. Evaluates gs n code [] k in
    subst P (sym is) (record { constant = h; same = λ p s w. refl })

-- the instruction at this place
pub stands_here : (gs : List Value) (n : ℕ) (code : Code) (vs : List Value) (ps : List PackedInstr) (i : ℕ) (d : PackedInstr) → i < length ps → d ≡ get_or ps i d
    → Evaluates gs n code vs (code_in (drop i ps)) → Evaluates gs n code vs (in_front (unpacked d) (code_in (drop (i + 1) ps)))
stands_here gs n code vs ps i d h e w =
    let P : Code → Type 0 = λ k. Evaluates gs n code vs k in
    let here = at_drop_more code_in ps i d h ∙ ap (λ (q : PackedInstr). in_front (unpacked q) (code_in (drop (i + 1) ps))) (sym e) in
    subst P here w

-- where it is plain, it may be constant
pub may_be : (gs : List Value) (n : ℕ) (code : Code) (vs : List Value) (i : Instr) (k : Code) → Evaluates gs n code vs (in_front i k) → OnPlain MayBeConstant i
may_be gs n code vs (flat.Plain o) k w =
    record { within = w.constant.within; constant = (each (is_const w.constant.within o) (all_const w.constant.within k) w.constant.constant).0 }
may_be gs n code vs (flat.Block kind b e) k w = tt
may_be gs n code vs (flat.If b m e) k w = tt
may_be gs n code vs flat.Else k w = tt
may_be gs n code vs flat.End k w = tt

-- a plain instruction leads on
plain_on : (gs : List Value) (n : ℕ) (code : Code) (vs us : List Value) (o : Op) (k : Code) → Evaluates gs n code vs (Plain o k) → Leaves gs n o vs true us
    → Evaluates gs n code us k
unfolding evaluated
plain_on gs n code vs us o k w h = record {
  constant = record { within = w.constant.within; constant = (each (is_const w.constant.within o) (all_const w.constant.within k) w.constant.constant).1 };
  same = λ p s v. ap (option_and_then (λ (xs : Row Val). evaluated p s xs k)) (sym (h p s v)) ∙ w.same p s v;
}

-- a mark leads on
mark_on : (gs : List Value) (n : ℕ) (code : Code) (vs us : List Value) (k : Code) → us ≡ vs → Evaluates gs n code vs k → Evaluates gs n code us k
mark_on gs n code vs us k e w = let P : List Value → Type 0 = λ l. Evaluates gs n code l k in subst P (sym e) w

-- it leads on
pub evaluates_on : (gs : List Value) (n : ℕ) (code : Code) (vs us : List Value) (i : Instr) (k : Code) → Evaluates gs n code vs (in_front i k) → LeavesAt gs n i vs true us
    → Evaluates gs n code us k
evaluates_on gs n code vs us (flat.Plain o) k w h = plain_on gs n code vs us o k w h
evaluates_on gs n code vs us (flat.Block kind b e) k w h = mark_on gs n code vs us k h.1 w
evaluates_on gs n code vs us (flat.If b m e) k w h = mark_on gs n code vs us k h.1 w
evaluates_on gs n code vs us flat.Else k w h = mark_on gs n code vs us k h.1 w
evaluates_on gs n code vs us flat.End k w h = mark_on gs n code vs us k h.1 w

-- no rule applies to a plain instruction
plain_to_none : (gs : List Value) (n : ℕ) (code : Code) (vs us : List Value) (o : Op) (k : Code) → Evaluates gs n code vs (Plain o k) → Leaves gs n o vs false us
    → (p : Program) (s : Store) → Sees gs n s → value_of p s code ≡ Null
unfolding evaluated
plain_to_none gs n code vs us o k w h p s v =
    ap topmost (sym (w.same p s v)) ∙ ap topmost (ap (option_and_then (λ (xs : Row Val). evaluated p s xs k)) (h p s v))

-- no rule applies to it: there is no value
pub evaluates_to_none : (gs : List Value) (n : ℕ) (code : Code) (vs us : List Value) (i : Instr) (k : Code) → Evaluates gs n code vs (in_front i k) → LeavesAt gs n i vs false us
    → (p : Program) (s : Store) → Sees gs n s → value_of p s code ≡ Null
evaluates_to_none gs n code vs us (flat.Plain o) k w h = plain_to_none gs n code vs us o k w h
evaluates_to_none gs n code vs us (flat.Block kind b e) k w h = let f = h.0 in absurd (cc)
evaluates_to_none gs n code vs us (flat.If b m e) k w h = let f = h.0 in absurd (cc)
evaluates_to_none gs n code vs us flat.Else k w h = let f = h.0 in absurd (cc)
evaluates_to_none gs n code vs us flat.End k w h = let f = h.0 in absurd (cc)

-- at its end
pub evaluates_all : (gs : List Value) (n : ℕ) (code : Code) (vs : List Value) (v : Value) (k : Code) → Evaluates gs n code vs k → k ≡ Done → topmost (Some (row vs)) ≡ val v
    → (p : Program) (s : Store) → Sees gs n s → value_of p s code ≡ val v
unfolding evaluated
evaluates_all gs n code vs v k w d e p s x =
    ap topmost (sym (w.same p s x)) ∙ ap (λ (c : Code). topmost (evaluated p s (row vs) c)) d ∙ e
