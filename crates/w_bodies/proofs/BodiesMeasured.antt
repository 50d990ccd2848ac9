-- A body, one instruction after another.
use Rattle.std.proofs.Common.{◌≡◌, ℕ, ◌+◌, ◌<◌, ◌≤◌, Bool, true, false, None, List, [], ◌∷◌, ◌++◌, length, take, take_all, drop, get_or, Some, sym, ap, subst, ◌∙◌}
use Rattle.std.proofs.lemmas.List.{take_more, take-append-drop}
use Rattle.w_types.specs.declared.types.ValType.{ValType}
use Rattle.lists.specs.Rows.{ε}
use Rattle.w_syntax.specs.Code.{Code}
use Rattle.w_syntax.specs.Flat.{whole}
use Rattle.w_syntax.specs.declared.instructions.Instr.{Instr}
use Rattle.w_syntax.specs.declared.locals.LocalRun.{LocalRun}
use Rattle.w_rules.specs.declared.context.Context as rt
use Rattle.w_canon.specs.Supertypes.{KeepsKinds}
use Rattle.w_rules.specs.Bodies.{types_of_runs, set_first}
use Rattle.w_rules.specs.Context.{Context}
use Rattle.w_rules.specs.Matching.{none}
use Rattle.w_rules.specs.Spaces.{in_body}
use Rattle.w_rules.specs.View.{context_in, AreClasses, HasClasses}
use Rattle.w_vplain.specs.Prefixes.{Prefix, IsDerivable, ended, empty, follow, follow_all}
use Rattle.w_vplain.specs.Measures.{peak_of, depth_of}
use Rattle.w_vplain.specs.Standing as standing
use Rattle.w_vplain.specs.declared.checker.Checker.{Checker}
use Rattle.w_vplain.proofs.Monotone.{derivable_before_all}
use Rattle.w_vplain.proofs.BodiesFollowed.{follow_all-append, follow_whole}
use Rattle.w_bodies.specs.Measured.{IsMeasure}

-- what is typed: a body with these parameters, further locals and results, in this context
pub record Wanted : Type 0 where
  pub context : Context
  pub params : List ValType
  pub runs : List LocalRun
  pub results : List ValType

abbrev pub inner : Wanted → Context
inner b = in_body b.context (b.params ++ types_of_runs b.runs) b.results

abbrev pub first : Wanted → List Bool
first b = set_first b.params b.runs

-- the rules derive the sequence of these instructions, and the checker stands for it
pub record Reached (b : Wanted) (c : Checker) (is : List Instr) : Type 0 where
  pub context : standing.context_for c ≡ inner b
  pub stands : standing.StandsFor c (first b) (follow_all is empty)
  pub derivable : IsDerivable (inner b) (first b) (follow_all is empty)

-- ## The beginning

empty_derivable : (c : Context) (s : List Bool) → IsDerivable c s empty
empty_derivable c s = ((ε, (tt, none)), tt)

classes_known : (cx : rt.Context) (b : Wanted) (c : Checker) → b.context ≡ context_in cx → HasClasses cx → standing.context_for c ≡ inner b
    → standing.classes_for c ≡ cx.classes.now → standing.KnowsClasses c
classes_known cx b c of classes e f =
    let types : (standing.context_for c).types ≡ cx.types.now = ap (λ (d : Context). d.types) e ∙ ap (λ (d : Context). d.types) of in
    subst (λ es. AreClasses (standing.context_for c).types es) (sym f) (subst (λ gs. AreClasses gs cx.classes.now) (sym types) classes)

pub begun : (cx : rt.Context) (b : Wanted) (c : Checker) → b.context ≡ context_in cx → HasClasses cx → standing.context_for c ≡ inner b
    → standing.classes_for c ≡ cx.classes.now → (standing.KnowsClasses c → standing.StandsFor c (first b) empty) → Reached b c []
begun cx b c of classes e f h = record {
  context = e;
  stands = h (classes_known cx b c of classes e f);
  derivable = empty_derivable (inner b) (first b);
}

-- ## An instruction more

-- the first instructions, and one more
followed_more : (is : List Instr) (n : ℕ) (i : Instr) → n < length is → i ≡ get_or is n i → follow_all (take (n + 1) is) empty ≡ follow i (follow_all (take n is) empty)
followed_more is n i lt e =
    ap (λ (js : List Instr). follow_all js empty) (take_more is n i lt)
    ∙ follow_all-append (take n is) (get_or is n i ∷ []) empty
    ∙ ap (λ (j : Instr). follow j (follow_all (take n is) empty)) (sym e)

pub one_more : (b : Wanted) (c d : Checker) (is : List Instr) (n : ℕ) (i : Instr) (applies : Bool) → applies ≡ true → n < length is → i ≡ get_or is n i → Reached b c (take n is)
    → standing.Answers c d (follow i) applies → standing.IsSameBody c d → Reached b d (take (n + 1) is)
one_more b c d is n i applies held lt e r answers same =
    let w : Prefix = follow_all (take n is) empty in
    let more : follow_all (take (n + 1) is) empty ≡ follow i w = followed_more is n i lt e in
    record {
      context = same.context ∙ r.context;
      stands = subst (standing.StandsFor d (first b)) (sym more) (answers (first b) w r.stands).0;
      derivable = subst (IsDerivable (inner b) (first b)) (sym more) (subst (λ (x : Context). IsDerivable x (first b) (follow i w)) r.context ((answers (first b) w r.stands).1.0 held));
    }

-- ## A body that is not typed

all_followed : (is : List Instr) (k : Code) → is ≡ whole k → follow_all is empty ≡ ended k
all_followed is k e = ap (λ (js : List Instr). follow_all js empty) e ∙ follow_whole k

-- where the rules derive a body, they derive its first instructions
prefix_derivable : (c : Context) → KeepsKinds c.types → (s : List Bool) (is : List Instr) (n : ℕ) → IsDerivable c s (follow_all is empty) → IsDerivable c s (follow_all (take n is) empty)
prefix_derivable c keeps s is n g =
    let split : follow_all is empty ≡ follow_all (drop n is) (follow_all (take n is) empty) =
    sym (ap (λ (js : List Instr). follow_all js empty) (take-append-drop n is)) ∙ follow_all-append (take n is) (drop n is) empty in
    derivable_before_all c keeps s (drop n is) (follow_all (take n is) empty) (subst (IsDerivable c s) split g)

pub refused : (b : Wanted) (c d : Checker) (is : List Instr) (k : Code) (n : ℕ) (i : Instr) (applies : Bool) → applies ≡ false → is ≡ whole k → n < length is → i ≡ get_or is n i → Reached b c (take n is)
    → standing.Answers c d (follow i) applies
    → IsMeasure b.context b.params b.runs b.results k None
refused b c d is k n i applies denied of lt e r answers typed =
    let w : Prefix = follow_all (take n is) empty in
    let keeps : KeepsKinds (inner b).types = subst (λ (x : Context). KeepsKinds x.types) r.context r.stands.classes.keeps in
    let all : IsDerivable (inner b) (first b) (follow_all is empty) = subst (IsDerivable (inner b) (first b)) (sym (all_followed is k of)) typed in
    let here : IsDerivable (inner b) (first b) (follow i w) = subst (IsDerivable (inner b) (first b)) (followed_more is n i lt e) (prefix_derivable (inner b) keeps (first b) is (n + 1) all) in
    let no = (answers (first b) w r.stands).1.1 (subst (λ (x : Context). IsDerivable x (first b) (follow i w)) (sym r.context) here) in
    absurd (cc)

-- ## A body that is

pub measured : (b : Wanted) (c : Checker) (is : List Instr) (k : Code) (n h d : ℕ) → is ≡ whole k → length is ≤ n → Reached b c (take n is)
    → ((s : List Bool) (w : Prefix) → standing.StandsFor c s w → IsDerivable (standing.context_for c) s w → h ≡ peak_of (standing.context_for c) s w)
    → ((s : List Bool) (w : Prefix) → standing.StandsFor c s w → IsDerivable (standing.context_for c) s w → d ≡ depth_of w)
    → IsMeasure b.context b.params b.runs b.results k (Some (h, d))
measured b c is k n h d of le r high deep =
    let end : follow_all (take n is) empty ≡ ended k = ap (λ (js : List Instr). follow_all js empty) (take_all n is le) ∙ all_followed is k of in
    let stands : standing.StandsFor c (first b) (ended k) = subst (standing.StandsFor c (first b)) end r.stands in
    let derivable : IsDerivable (inner b) (first b) (ended k) = subst (IsDerivable (inner b) (first b)) end r.derivable in
    let there : IsDerivable (standing.context_for c) (first b) (ended k) = subst (λ (x : Context). IsDerivable x (first b) (ended k)) (sym r.context) derivable in
    (derivable, high (first b) (ended k) stands there ∙ ap (λ (x : Context). peak_of x (first b) (ended k)) r.context, deep (first b) (ended k) stands there)
