-- Layouts of bodies that stand in a context: each name of the scope has a local of its type, and the temporaries hold numbers.
use Rattle.std.proofs.Common.{◌≡◌, ℕ, zero, suc, ◌+◌, ◌<◌, Bool, true, ◌||◌, ◌++◌, List, [], ◌∷◌, map, length, Option, Some, slice_get, if◌then◌else◌, refl, ap, ◌∙◌, arith}
use Rattle.std.specs.Str.{bytes_eq}
use Rattle.w_types.specs.declared.types.ValType.{ValType}
use Rattle.w_types.specs.declared.types.ValType.TheVariants.{I64}
use Rattle.lists.proofs.Lists.{get-behind}
use Rattle.lists.specs.Rows.{Row, ε, ◌▹◌, ◌⧺◌, row_of, onto}
use Rattle.w_rules.specs.Operands.{Operand}
use Rattle.w_rules.specs.Matching.{known}
use Rattle.w_rules.specs.Context.{Context, labelled}
use Rattle.w_rules.specs.Spaces.{in_body}
use Rattle.s_syntax.specs.declared.name.Name.{Name}
use Rattle.s_syntax.specs.declared.script.VariableType.{VariableType}
use Rattle.s_syntax.specs.declared.script.Parameter.{Parameter}
use Rattle.s_syntax.specs.declared.script.Handler.{Handler}
use Rattle.s_syntax.specs.declared.script.Declaration.{Declaration}
use Rattle.s_check.specs.Definitions.{handler_of}
use Rattle.s_check.specs.Rules.{is_reference}
use Rattle.s_check.specs.Scopes.{Bound, Scope, type_in, is_among}
use Rattle.s_index.specs.Handled.{handled_names}
use Rattle.s_index.specs.Types.{val_type, val_types, numbers, to_continuation, computation_type}
use Rattle.s_code.specs.Layouts.{Local, Owner, Layout, local_of, local_number, number_in, handler_in, handler_in_type, handler_of_name, refers_in, refers}
use Rattle.s_meaning.specs.Typing.{kinds}
use Rattle.s_meaning.specs.Typing as script
use Rattle.s_meaning.proofs.BoundInTurn.{among_left, among_right}
use Rattle.s_meaning.proofs.Lists.{get_before}
use Rattle.s_meaning.proofs.Scopes.{same_is, same_refl, bool_of}
use Rattle.s_valid.specs.Offers.{Offers}
use Rattle.s_valid.proofs.Rests.{pushed}

-- a name's local, of this type
pub record Placed (L : Layout) (x : Name) (t : VariableType) : Type 0 where
  pub local : Local
  pub is : local_of L.names x ≡ Some local
  pub ty : local.ty ≡ t

-- the function of a handler, D labels inside its loop
pub record InLoop (ds : List Declaration) (D : ℕ) (C : Context) (o : Owner) : Type 0 where
  pub handler : Handler
  pub is : handler_of ds o.name ≡ Some handler
  pub as_many : o.parameters ≡ length handler.parameters
  pub loop : slice_get C.labels D ≡ Some ε
  pub parameters : (n : ℕ) (t : ValType) → slice_get (val_types handler.parameters) n ≡ Some t → slice_get C.locals n ≡ Some t
  pub computation : slice_get C.locals o.parameters ≡ Some (to_continuation true computation_type)

-- a layout with n temporaries that stands in a context, D labels inside the loop of its handler
pub record Scoped (ds : List Declaration) (L : Layout) (Γ : Scope) (n D : ℕ) (C : Context) : Type 0 where
  pub offers : Offers ds C
  pub names : (x : Name) (t : VariableType) → type_in Γ x ≡ Some t → Placed L x t
  pub locals : (x : Name) (l : Local) → local_of L.names x ≡ Some l → slice_get C.locals l.number ≡ Some (val_type l.ty)
  pub temporaries : (t : ℕ) → t < n → slice_get C.locals (L.temporaries + t) ≡ Some I64
  pub results : C.results ≡ ε ▹ I64
  pub loop : (o : Owner) → L.owner ≡ Some o → InLoop ds D C o

-- ## Inside a label

pub offers_inside : (ds : List Declaration) (C : Context) (ts : Row ValType) → Offers ds C → Offers ds (labelled C ts)
offers_inside ds C ts o = record {
  keeps = o.keeps;
  resumption = o.resumption;
  resumed = o.resumed;
  computation = o.computation;
  computed = o.computed;
  coroutine = o.coroutine;
  switched = o.switched;
  group = o.group;
  printer = o.printer;
  function = o.function;
  handler = o.handler;
  effect = o.effect;
  slots = o.slots;
  handled = λ f g is among. let q = o.handled f g is among in
      record { index = q.index; continuation = q.continuation; type = q.type; function = q.function; declared = q.declared };
  grouped = o.grouped;
  spawned = o.spawned;
  clause = o.clause;
}

-- in a body too
pub offers_in_body : (ds : List Declaration) (C : Context) (ls us : List ValType) → Offers ds C → Offers ds (in_body C ls us)
offers_in_body ds C ls us o = record {
  keeps = o.keeps;
  resumption = o.resumption;
  resumed = o.resumed;
  computation = o.computation;
  computed = o.computed;
  coroutine = o.coroutine;
  switched = o.switched;
  group = o.group;
  printer = o.printer;
  function = o.function;
  handler = o.handler;
  effect = o.effect;
  slots = o.slots;
  handled = λ f g is among. let q = o.handled f g is among in
      record { index = q.index; continuation = q.continuation; type = q.type; function = q.function; declared = q.declared };
  grouped = o.grouped;
  spawned = o.spawned;
  clause = o.clause;
}

get_next : {A : Type 0} (x : A) (xs : List A) (n : ℕ) → slice_get (x ∷ xs) (n + 1) ≡ slice_get xs n
get_next x xs n = let e : n + 1 ≡ suc n = omega arith in ap (λ (k : ℕ). slice_get (x ∷ xs) k) e

loop_inside : (ds : List Declaration) (D : ℕ) (C : Context) (ts : Row ValType) (o : Owner) → InLoop ds D C o → InLoop ds (D + 1) (labelled C ts) o
loop_inside ds D C ts o q = record {
  handler = q.handler;
  is = q.is;
  as_many = q.as_many;
  loop = get_next ts C.labels D ∙ q.loop;
  parameters = q.parameters;
  computation = q.computation;
}

-- a layout stands inside one more label
pub inside : {ds : List Declaration} {L : Layout} {Γ : Scope} {n D : ℕ} {C : Context} (ts : Row ValType) → Scoped ds L Γ n D C → Scoped ds L Γ n (D + 1) (labelled C ts)
inside {ds} {L} {Γ} {n} {D} {C} ts s = record {
  offers = offers_inside ds C ts s.offers;
  names = s.names;
  locals = s.locals;
  temporaries = s.temporaries;
  results = s.results;
  loop = λ o is. loop_inside ds D C ts o (s.loop o is);
}

-- ## Names

module _ {ds : List Declaration} {L : Layout} {Γ : Scope} {n D : ℕ} {C : Context} (s : Scoped ds L Γ n D C) where
  -- a name's local has the name's type
  pub local_typed : (x : Name) (t : VariableType) → type_in Γ x ≡ Some t → slice_get C.locals (local_number L x) ≡ Some (val_type t)
  local_typed x t e =
      let q = s.names x t e in
      ap (λ (o : Option Local). slice_get C.locals (number_in o)) q.is ∙ s.locals x q.local q.is ∙ ap (λ (k : VariableType). Some (val_type k)) q.ty

  -- the handler of a name
  pub handler_at : (x : Name) (t : VariableType) → type_in Γ x ≡ Some t → handler_of_name L x ≡ handler_in_type t
  handler_at x t e = let q = s.names x t e in ap handler_in q.is ∙ ap handler_in_type q.ty

  -- and whether it stays where it is
  pub refers_at : (x : Name) (t : VariableType) → type_in Γ x ≡ Some t → refers L x ≡ is_reference (Some t)
  refers_at x t e = let q = s.names x t e in ap refers_in q.is ∙ ap (λ (k : VariableType). is_reference (Some k)) q.ty

  -- a name more, which has a local of its type
  pub bound : (b : Bound) → Placed L b.name b.ty → Scoped ds L (b ∷ Γ) n D C
  bound b there = record {
    offers = s.offers;
    names = names;
    locals = s.locals;
    temporaries = s.temporaries;
    results = s.results;
    loop = s.loop;
  }
    where
      at_name : (y : Name) (t : VariableType) → bytes_eq b.name y ≡ true → Some b.ty ≡ Some t → Placed L y t
      at_name y t q e = record { local = there.local; is = ap (λ (z : Name). local_of L.names z) (same_is y b.name q) ∙ there.is; ty = there.ty ∙ let i : b.ty ≡ t = cc in i }

      names : (y : Name) (t : VariableType) → type_in (b ∷ Γ) y ≡ Some t → Placed L y t
      names y t = bool_of (bytes_eq b.name y) (λ q. (if q then Some b.ty else type_in Γ y) ≡ Some t → Placed L y t) (λ q e. at_name y t q e) (λ q e. s.names y t e)

-- ## Rows of types

abbrev pub types : List VariableType → List ValType
types ks = map val_type ks

pub types_of_kinds : (ps : List Parameter) → types (kinds ps) ≡ val_types ps
types_of_kinds [] = refl
types_of_kinds (p ∷ ps) = ap (λ (ts : List ValType). val_type p.ty ∷ ts) (types_of_kinds ps)

pub types_of_numbers : (n : ℕ) → types (script.numbers n) ≡ numbers n
types_of_numbers zero = refl
types_of_numbers (suc n) = ap (λ (ts : List ValType). I64 ∷ ts) (types_of_numbers n)

pushed_onto : (vs : Row Operand) (ws : Row ValType) (ts : List ValType) → pushed (vs ⧺ known ws) ts ≡ vs ⧺ known (onto ws ts)
pushed_onto vs ws [] = refl
pushed_onto vs ws (t ∷ ts) = pushed_onto vs (ws ▹ t) ts

-- types pushed one by one are their row
pub pushed_row : (vs : Row Operand) (ts : List ValType) → pushed vs ts ≡ vs ⧺ known (row_of ts)
pushed_row vs ts = pushed_onto vs ε ts

-- ## Functions that a handle, a group or a spawn names

-- each of these is one that the script handles
pub record AllHandled (ds : List Declaration) (fs : List Name) : Type 0 where
  pub handled : (f : Name) → is_among fs f ≡ true → is_among (handled_names ds) f ≡ true

pub handled_left : {ds : List Declaration} (xs ys : List Name) → AllHandled ds (xs ++ ys) → AllHandled ds xs
handled_left xs ys a = record { handled = λ f h. a.handled f (among_left f xs ys h) }

pub handled_right : {ds : List Declaration} (xs ys : List Name) → AllHandled ds (xs ++ ys) → AllHandled ds ys
handled_right xs ys a = record { handled = λ f h. a.handled f (among_right f xs ys h) }

-- the first of them
pub handled_first : {ds : List Declaration} (x : Name) (xs : List Name) → AllHandled ds (x ∷ xs) → is_among (handled_names ds) x ≡ true
handled_first x xs a = a.handled x (ap (λ (b : Bool). b || is_among xs x) (same_refl x))

pub handled_later : {ds : List Declaration} (x : Name) (xs : List Name) → AllHandled ds (x ∷ xs) → AllHandled ds xs
handled_later x xs a = record { handled = λ f h. a.handled f (among_right f (x ∷ []) xs h) }

-- ## Names that bodies bind

-- each of these names has the type that it is bound with
pub record EachTyped (bs : List Bound) : Type 0 where
  pub typed : (n : ℕ) (b : Bound) → slice_get bs n ≡ Some b → type_in bs b.name ≡ Some b.ty

-- each of these names has a local of its type
pub record LetsPlaced (L : Layout) (bs : List Bound) : Type 0 where
  pub placed : (n : ℕ) (b : Bound) → slice_get bs n ≡ Some b → Placed L b.name b.ty

pub lets_left : {L : Layout} (bs cs : List Bound) → LetsPlaced L (bs ++ cs) → LetsPlaced L bs
lets_left bs cs a = record { placed = λ n b e. a.placed n b (get_before bs cs n b e) }

pub lets_right : {L : Layout} (bs cs : List Bound) → LetsPlaced L (bs ++ cs) → LetsPlaced L cs
lets_right bs cs a = record { placed = λ n b e. a.placed (length bs + n) b (get-behind bs cs n ∙ e) }

pub lets_first : {L : Layout} (b : Bound) (bs : List Bound) → LetsPlaced L (b ∷ bs) → Placed L b.name b.ty
lets_first b bs a = a.placed 0 b refl
