-- The locals that layouts name have the types of their names, and behind them stand temporaries for numbers.
use Rattle.std.proofs.Common.{◌≡◌, ℕ, zero, suc, ◌+◌, ◌<◌, Bool, true, false, List, [], ◌∷◌, ◌++◌, map, length, replicate, Some, slice_get, if◌then◌else◌, refl, sym, ap, ◌∙◌, subst, arith, append-nil}
use Rattle.std.specs.Str.{bytes_eq}
use Rattle.w_types.specs.declared.types.ValType.{ValType}
use Rattle.w_types.specs.declared.types.ValType.TheVariants.{I64}
use Rattle.lists.specs.Rows.{ε, row_of}
use Rattle.lists.proofs.Lists.{get-behind}
use Rattle.w_syntax.specs.Code.{Code}
use Rattle.w_rules.specs.Bodies.{types_of_runs, has_default, BodyTyped}
use Rattle.w_rules.specs.Context.{Context}
use Rattle.w_rules.specs.Matching.{known}
use Rattle.w_rules.specs.Spaces.{in_body}
use Rattle.w_rules.specs.Typing.{Derives}
use Rattle.w_rules.proofs.JoinedTypes.{types_of-joined}
use Rattle.s_syntax.specs.declared.name.Name.{Name}
use Rattle.s_syntax.specs.declared.script.VariableType.{VariableType}
use Rattle.s_syntax.specs.declared.script.VariableType.TheVariants.{Int, Resumption, Coroutine}
use Rattle.s_syntax.specs.declared.script.Parameter.{Parameter}
use Rattle.s_check.specs.Scopes.{Bound, Scope, type_in, parameter}
use Rattle.s_index.specs.Types.{val_type, val_types}
use Rattle.s_code.specs.Layouts.{Local, Layout, numbered, local_of}
use Rattle.s_code.specs.Places.{run, name_runs, locals_for}
use Rattle.s_meaning.proofs.Lists.{get_before}
use Rattle.s_meaning.proofs.Scopes.{bool_of}
use Rattle.s_valid.proofs.Rests.{Rest, AllSet}
use Rattle.s_valid.proofs.LayoutTypes.{Placed, EachTyped, LetsPlaced}

-- ## Runs of locals

-- the types of the locals of names
abbrev pub name_types : List Bound → List ValType
name_types bs = map (λ (b : Bound). val_type b.ty) bs

-- and those of so many temporaries behind them
abbrev pub all_types : List Bound → ℕ → List ValType
all_types bs n = name_types bs ++ replicate n I64

types_of_names : (bs : List Bound) (n : ℕ) → types_of_runs (name_runs bs ++ run I64 n ∷ []) ≡ all_types bs n
types_of_names [] n = append-nil (replicate n I64)
types_of_names (b ∷ bs) n = ap (λ (ts : List ValType). val_type b.ty ∷ ts) (types_of_names bs n)

-- the locals of names and temporaries
types_of_locals : (bs : List Bound) (n : ℕ) → types_of_runs (locals_for bs n) ≡ all_types bs n
types_of_locals bs n = types_of-joined (name_runs bs ++ run I64 n ∷ []) ∙ types_of_names bs n

pub types_of_parameters : (ps : List Parameter) → val_types ps ≡ name_types (map parameter ps)
types_of_parameters [] = refl
types_of_parameters (p ∷ ps) = ap (λ (ts : List ValType). val_type p.ty ∷ ts) (types_of_parameters ps)

pub types_appended : (bs cs : List Bound) → name_types (bs ++ cs) ≡ name_types bs ++ name_types cs
types_appended [] cs = refl
types_appended (b ∷ bs) cs = ap (λ (ts : List ValType). val_type b.ty ∷ ts) (types_appended bs cs)

pub as_many_types : (bs : List Bound) → length (name_types bs) ≡ length bs
as_many_types [] = refl
as_many_types (b ∷ bs) = ap suc (as_many_types bs)

-- ## All are set

a_default : (t : VariableType) → has_default (val_type t) ≡ true
a_default Int = refl
a_default (Resumption h) = refl
a_default Coroutine = refl

all_numbers : (n : ℕ) → map has_default (replicate n I64) ≡ map (λ (t : ValType). true) (replicate n I64)
all_numbers zero = refl
all_numbers (suc n) = ap (λ (s : List Bool). true ∷ s) (all_numbers n)

-- each local has a default value
all_defaults : (bs : List Bound) (n : ℕ) → map has_default (all_types bs n) ≡ map (λ (t : ValType). true) (all_types bs n)
all_defaults [] n = all_numbers n
all_defaults (b ∷ bs) n =
    ap (λ (q : Bool). q ∷ map has_default (all_types bs n)) (a_default b.ty) ∙ ap (λ (s : List Bool). true ∷ s) (all_defaults bs n)

all_true : (ts us : List ValType) → AllSet (ts ++ us) (map (λ (t : ValType). true) ts ++ map (λ (t : ValType). true) us)
all_true ts us = record { is_set = each ts }
  where
    behind : (us : List ValType) (x : ℕ) (t : ValType) → slice_get us x ≡ Some t → slice_get (map (λ (t : ValType). true) us) x ≡ Some true
    behind [] x t e = absurd (cc)
    behind (u ∷ us) zero t e = refl
    behind (u ∷ us) (suc x) t e = behind us x t e

    each : (ts : List ValType) (x : ℕ) (t : ValType) → slice_get (ts ++ us) x ≡ Some t → slice_get (map (λ (t : ValType). true) ts ++ map (λ (t : ValType). true) us) x ≡ Some true
    each [] x t e = behind us x t e
    each (u ∷ ts) zero t e = refl
    each (u ∷ ts) (suc x) t e = each ts x t e

-- a body whose code is typed, all locals being set
pub body_of_rest : (C : Context) (params results : List ValType) (bs : List Bound) (n : ℕ) (k : Code) → Rest (in_body C (params ++ all_types bs n) results) k ε (known (row_of results))
    → BodyTyped C params (locals_for bs n) results k
body_of_rest C params results bs n k r =
    let P : List ValType → Type 0 = λ ts. Derives (in_body C (params ++ ts) results) (map (λ (t : ValType). true) params ++ map has_default ts) k ε (known (row_of results)) in
    let Q : List Bool → Type 0 = λ s. Derives (in_body C (params ++ all_types bs n) results) (map (λ (t : ValType). true) params ++ s) k ε (known (row_of results)) in
    let all : AllSet (params ++ all_types bs n) (map (λ (t : ValType). true) params ++ map (λ (t : ValType). true) (all_types bs n)) = all_true params (all_types bs n) in
    subst P (sym (types_of_locals bs n)) (subst Q (sym (all_defaults bs n)) (r.typed (map (λ (t : ValType). true) params ++ map (λ (t : ValType). true) (all_types bs n)) all))

-- ## Names of which locals from some place on have the types

pub record Segment (ls : List ValType) (k : ℕ) (bs : List Bound) : Type 0 where
  pub typed : (i : ℕ) (b : Bound) → slice_get bs i ≡ Some b → slice_get ls (k + i) ≡ Some (val_type b.ty)

get_type : (bs : List Bound) (i : ℕ) (b : Bound) → slice_get bs i ≡ Some b → slice_get (name_types bs) i ≡ Some (val_type b.ty)
get_type [] i b e = absurd (cc)
get_type (c ∷ bs) zero b e = let q : c ≡ b = cc in ap (λ (d : Bound). Some (val_type d.ty)) q
get_type (c ∷ bs) (suc i) b e = get_type bs i b e

-- names whose types stand behind some others
pub segment_there : (pre post : List ValType) (bs : List Bound) → Segment (pre ++ (name_types bs ++ post)) (length pre) bs
segment_there pre post bs = record { typed = λ i b e. get-behind pre (name_types bs ++ post) i ∙ get_before (name_types bs) post i (val_type b.ty) (get_type bs i b e) }

pub segment_left : {ls : List ValType} {k : ℕ} (bs cs : List Bound) → Segment ls k (bs ++ cs) → Segment ls k bs
segment_left bs cs s = record { typed = λ i b e. s.typed i b (get_before bs cs i b e) }

pub segment_right : {ls : List ValType} {k : ℕ} (bs cs : List Bound) → Segment ls k (bs ++ cs) → Segment ls (k + length bs) cs
segment_right {ls} {k} bs cs s = record {
  typed = λ i b e. ap (λ (j : ℕ). slice_get ls j) (let z : k + length bs + i ≡ k + (length bs + i) = omega arith in z) ∙ s.typed (length bs + i) b (get-behind bs cs i ∙ e);
}

pub segment_at : {ls : List ValType} {k : ℕ} (j : ℕ) (bs : List Bound) → k ≡ j → Segment ls k bs → Segment ls j bs
segment_at {ls} j bs e s = let P : ℕ → Type 0 = λ z. Segment ls z bs in subst P e s

-- ## Temporaries

get_replicated : (n t : ℕ) → t < n → slice_get (replicate n I64) t ≡ Some I64
get_replicated zero t h = absurd (omega (arith, h))
get_replicated (suc n) zero h = refl
get_replicated (suc n) (suc t) h = get_replicated n t (omega (arith, h))

-- temporaries behind names, which stand behind some others
pub temporaries_there : (pre : List ValType) (bs : List Bound) (n t k : ℕ) → t < n → k ≡ length pre + length bs → slice_get (pre ++ all_types bs n) (k + t) ≡ Some I64
temporaries_there pre bs n t k h e =
    ap (λ (j : ℕ). slice_get (pre ++ all_types bs n) j) (let w = as_many_types bs in let z : k + t ≡ length pre + (length (name_types bs) + t) = omega (arith, e, w) in z)
    ∙ get-behind pre (all_types bs n) (length (name_types bs) + t) ∙ get-behind (name_types bs) (replicate n I64) t ∙ get_replicated n t h

-- ## Names of a layout

-- these names, with their locals
pub record Stands (ls : List ValType) (ns : List Local) (bs : List Bound) : Type 0 where
  pub types : (x : Name) (l : Local) → local_of ns x ≡ Some l → type_in bs x ≡ Some l.ty
  pub locals : (x : Name) (l : Local) → local_of ns x ≡ Some l → slice_get ls l.number ≡ Some (val_type l.ty)
  pub there : (x : Name) (t : VariableType) → type_in bs x ≡ Some t → (l : Local) × (local_of ns x ≡ Some l)

stands_none : (ls : List ValType) → Stands ls [] []
stands_none ls = record { types = λ x l e. absurd (cc); locals = λ x l e. absurd (cc); there = λ x t e. absurd (cc) }

-- one more in front
stands_more : (ls : List ValType) (l : Local) (b : Bound) (ns : List Local) (bs : List Bound) → l.name ≡ b.name → l.ty ≡ b.ty → slice_get ls l.number ≡ Some (val_type l.ty) → Stands ls ns bs → Stands ls (l ∷ ns) (b ∷ bs)
stands_more ls l b ns bs name ty at s = record {
  types = λ x m. types x m (bytes_eq l.name x) refl;
  locals = λ x m. locals x m (bytes_eq l.name x) refl;
  there = λ x t. there x t (bytes_eq b.name x) refl;
}
  where
    both : (x : Name) → bytes_eq b.name x ≡ bytes_eq l.name x
    both x = ap (λ (y : Name). bytes_eq y x) (sym name)

    types : (x : Name) (m : Local) (q : Bool) → bytes_eq l.name x ≡ q → (if bytes_eq l.name x then Some l else local_of ns x) ≡ Some m → (if bytes_eq b.name x then Some b.ty else type_in bs x) ≡ Some m.ty
    types x m true q e =
        let is : l ≡ m = let z : (if true then Some l else local_of ns x) ≡ Some m = ap (λ (c : Bool). if c then Some l else local_of ns x) (sym q) ∙ e in cc in
        ap (λ (c : Bool). if c then Some b.ty else type_in bs x) (both x ∙ q) ∙ ap (λ (k : VariableType). Some k) (sym ty) ∙ ap (λ (k : Local). Some k.ty) is
    types x m false q e =
        let is : local_of ns x ≡ Some m = ap (λ (c : Bool). if c then Some l else local_of ns x) (sym q) ∙ e in
        ap (λ (c : Bool). if c then Some b.ty else type_in bs x) (both x ∙ q) ∙ s.types x m is

    locals : (x : Name) (m : Local) (q : Bool) → bytes_eq l.name x ≡ q → (if bytes_eq l.name x then Some l else local_of ns x) ≡ Some m → slice_get ls m.number ≡ Some (val_type m.ty)
    locals x m true q e =
        let is : l ≡ m = let z : (if true then Some l else local_of ns x) ≡ Some m = ap (λ (c : Bool). if c then Some l else local_of ns x) (sym q) ∙ e in cc in
        let P : Local → Type 0 = λ k. slice_get ls k.number ≡ Some (val_type k.ty) in subst P is at
    locals x m false q e = s.locals x m (ap (λ (c : Bool). if c then Some l else local_of ns x) (sym q) ∙ e)

    there : (x : Name) (t : VariableType) (q : Bool) → bytes_eq b.name x ≡ q → (if bytes_eq b.name x then Some b.ty else type_in bs x) ≡ Some t → (m : Local) × ((if bytes_eq l.name x then Some l else local_of ns x) ≡ Some m)
    there x t true q e = (l, ap (λ (c : Bool). if c then Some l else local_of ns x) (sym (both x) ∙ q))
    there x t false q e =
        let m = s.there x t (ap (λ (c : Bool). if c then Some b.ty else type_in bs x) (sym q) ∙ e) in
        (m.0, ap (λ (c : Bool). if c then Some l else local_of ns x) (sym (both x) ∙ q) ∙ m.1)

stands_before : (ls : List ValType) (k : ℕ) (bs : List Bound) (ns : List Local) (cs : List Bound) → Segment ls k bs → Stands ls ns cs → Stands ls (numbered k bs ++ ns) (bs ++ cs)
stands_before ls k [] ns cs g s = s
stands_before ls k (b ∷ bs) ns cs g s =
    stands_more ls (record { name = b.name; ty = b.ty; number = k }) b (numbered (k + 1) bs ++ ns) (bs ++ cs) refl refl
    (ap (λ (j : ℕ). slice_get ls j) (let z : k ≡ k + 0 = omega arith in z) ∙ g.typed 0 b refl)
    (stands_before ls (k + 1) bs ns cs (record { typed = λ i c e. ap (λ (j : ℕ). slice_get ls j) (let z : k + 1 + i ≡ k + suc i = omega arith in z) ∙ g.typed (suc i) c e }) s)

-- names of a segment
pub stands_one : (ls : List ValType) (k : ℕ) (bs : List Bound) → Segment ls k bs → Stands ls (numbered k bs) bs
stands_one ls k bs g =
    let P : List Local → Type 0 = λ ns. Stands ls ns bs in let Q : List Bound → Type 0 = λ cs. Stands ls (numbered k bs ++ []) cs in
    subst P (append-nil (numbered k bs)) (subst Q (append-nil bs) (stands_before ls k bs [] [] g (stands_none ls)))

-- names of two segments
pub stands_two : (ls : List ValType) (j k : ℕ) (bs cs : List Bound) → Segment ls j bs → Segment ls k cs → Stands ls (numbered j bs ++ numbered k cs) (bs ++ cs)
stands_two ls j k bs cs g h = stands_before ls j bs (numbered k cs) cs g (stands_one ls k cs h)

-- ## A scope, and what a body binds behind it

-- what is bound in front stays so
type_before : (Γ bs : Scope) (x : Name) (t : VariableType) → type_in Γ x ≡ Some t → type_in (Γ ++ bs) x ≡ Some t
type_before [] bs x t e = absurd (cc)
type_before (b ∷ Γ) bs x t e =
    bool_of (bytes_eq b.name x) (λ q. (if q then Some b.ty else type_in Γ x) ≡ Some t → (if q then Some b.ty else type_in (Γ ++ bs) x) ≡ Some t) (λ q z. z) (λ q z. type_before Γ bs x t z) e

-- names of a scope, with what a body binds behind it
module _ {ls : List ValType} (L : Layout) (Γ bs : Scope) (s : Stands ls L.names (Γ ++ bs)) where
  placed_name : (x : Name) (t : VariableType) → type_in (Γ ++ bs) x ≡ Some t → Placed L x t
  placed_name x t e =
      let l = s.there x t e in
      let same = s.types x l.0 l.1 in
      record { local = l.0; is = l.1; ty = cc }

  pub placed_names : (x : Name) (t : VariableType) → type_in Γ x ≡ Some t → Placed L x t
  placed_names x t e = placed_name x t (type_before Γ bs x t e)

  pub placed_lets : EachTyped (Γ ++ bs) → LetsPlaced L bs
  placed_lets each = record { placed = λ n b e. placed_name b.name b.ty (each.typed (length Γ + n) b (get-behind Γ bs n ∙ e)) }
