-- A resumption that is stored into slots, and one that is taken, are matched.
use Rattle.std.proofs.Common.{◌≡◌, ℕ, ◌<◌, ◌≤◌, ◌^◌, Bool, true, false, ℤ, pos, List, [], length, Option, Some, None, refl, sym, ap, ◌∙◌, subst, arith}
use Rattle.std.specs.Prelude.{slice_get, slice_set}
use Rattle.std.specs.Str.{bytes_eq}
use Rattle.w_num.specs.Signed.{signed}
use Rattle.lists.specs.Rows.{Row, ε, ◌▹◌}
use Rattle.w_syntax.specs.Code.{Code}
use Rattle.w_reduce.specs.Values.{Val, I64, Null, Cont}
use Rattle.w_reduce.specs.Store.{Store, Table}
use Rattle.w_reduce.specs.Tables.{with_elements}
use Rattle.w_reduce.specs.Terms.{Context, locals_of, with_local}
use Rattle.s_syntax.specs.declared.name.Name.{Name}
use Rattle.s_syntax.specs.declared.script.VariableType.TheVariants.{Resumption}
use Rattle.s_syntax.specs.declared.script.Slots.{Slots}
use Rattle.s_syntax.specs.declared.script.Declaration.{Declaration}
use Rattle.s_syntax.specs.declared.script.Script.{Script}
use Rattle.s_syntax.specs.BlockTree.{BlockTree}
use Rattle.s_check.specs.Definitions.{slots_of}
use Rattle.s_index.specs.Numbers.{table_index}
use Rattle.s_code.specs.Layouts.{Layout, local_number, number_in}
use Rattle.s_code.specs.Slots.{places_in, places_of, store_code}
use Rattle.s_code.specs.Slots as lowered
use Rattle.s_meaning.specs.Terms as script
use Rattle.s_meaning.specs.Terms.{Value, Number, Reference, Variable, ToPut, ToTake, Contents}
use Rattle.s_meaning.specs.Focus.{variable_of}
use Rattle.s_meaning.specs.Typed.{World, HasKind}
use Rattle.s_meaning.specs.Typed as typed
use Rattle.s_meaning.specs.Steps.{Around, contents_of, with_contents, with_variable, put, goes_on, uses}
use Rattle.s_meaning.proofs.Lists.{length_set}
use Rattle.s_meaning.proofs.Scopes.{same_is, same_refl, bool_of}
use Rattle.s_meaning.proofs.Slots.{contents_with, contents_other, contents_name, contents_named}
use Rattle.s_meaning.proofs.Variables.{variable}
use Rattle.s_valid.proofs.LayoutTypes.{Placed as HasLocal}
use Rattle.s_agrees.proofs.StandsFor.{config, Same, reference, Locals, Active, Rest, Base, Waits, runs, Element, is_empty, is_kept, SlotsKept, Stores}
use Rattle.s_agrees.proofs.MoreResumptions.{get_set_same, get_set_other, active_kept}
use Rattle.s_agrees.proofs.Contexts.{setting, rest_beyond, deep_locals, rest_deep, base_locals, base_set}
use Rattle.s_agrees.proofs.CountedContexts.{labels_set}
use Rattle.s_agrees.proofs.Matches.{Matches, went, faulted, caps_of, under_first}
use Rattle.s_agrees.proofs.Paths.{program_of}
use Rattle.s_agrees.proofs.Facts.{Facts}
use Rattle.s_agrees.proofs.Captures.{in_range}
use Rattle.s_agrees.proofs.NamesSet.{active_with}
use Rattle.s_agrees.proofs.SlotsSteps.{put_code, take_code, PlaceOf, inside, outside, place_of, elements_long, elements_at, elements_set, put_path, take_path, take_empty, put_past, take_past}
use Rattle.s_agrees.proofs.Tables.{table_apart}

-- ## The stores behind

-- a place of slots is changed, in the script and in their table
module _ {ds : List Declaration} {ρ : List ℕ} {σ : script.Store} {s : Store} (stores : Stores ds ρ σ s) (x : Name) (d : Slots) (is : slots_of ds x ≡ Some d) (m : ℕ) {q : Option ℕ} {w : Val} (new : Element ρ q w) where
  -- the slots, and what stands in their place
  abbrev here : SlotsKept ρ d (contents_of x σ.slots) (slice_get s.tables (table_index ds x))
  here = stores.slots x d is

  abbrev changed : Contents
  changed = record here.contents { places = slice_set here.contents.places m q }

  abbrev changed_table : Table
  changed_table = record here.table { elements = slice_set here.table.elements m w }

  abbrev store_behind : Store
  store_behind = with_elements s (table_index ds x) here.table (slice_set here.table.elements m w)

  named : here.contents.name ≡ x
  named = contents_name x σ.slots here.contents here.found

  -- these slots themselves
  these : SlotsKept ρ d (contents_of x (with_contents changed σ.slots)) (slice_get store_behind.tables (table_index ds x))
  these = record {
    contents = changed;
    table = changed_table;
    found = ap (λ (y : Name). contents_of y (with_contents changed σ.slots)) (sym named) ∙ contents_with changed σ.slots here.contents (contents_named x σ.slots here.contents here.found);
    there = get_set_same s.tables (table_index ds x) changed_table here.table here.there;
    many = length_set here.table.elements m w ∙ here.many;
    of_handler = here.of_handler;
    elements = elements_set m new here.elements;
  }

  -- others have another table
  others : (y : Name) (c : Slots) → slots_of ds y ≡ Some c → bytes_eq here.contents.name y ≡ false
      → SlotsKept ρ c (contents_of y (with_contents changed σ.slots)) (slice_get store_behind.tables (table_index ds y))
  others y c e other =
      let k = stores.slots y c e in
      let apart : (table_index ds x ≡ table_index ds y) → ⊥ = λ same. let one = table_apart ds x y d c is e same in
      let r : bytes_eq here.contents.name y ≡ true = ap (λ (z : Name). bytes_eq z y) (named ∙ one) ∙ same_refl y in absurd (cc (sym r ∙ other)) in
      record {
        contents = k.contents;
        table = k.table;
        found = contents_other changed σ.slots y other ∙ k.found;
        there = get_set_other s.tables (table_index ds x) (table_index ds y) changed_table apart ∙ k.there;
        many = k.many;
        of_handler = k.of_handler;
        elements = k.elements;
      }

  pub stores_changed : Stores ds ρ (put σ here.contents (pos m) q) store_behind
  stores_changed = record {
    as_many = stores.as_many;
    each = stores.each;
    apart = stores.apart;
    lives = stores.lives;
    slots = λ y c e. bool_of (bytes_eq here.contents.name y) (λ (b : Bool). SlotsKept ρ c (contents_of y (with_contents changed σ.slots)) (slice_get store_behind.tables (table_index ds y)))
        (λ t. let one : x ≡ y = sym named ∙ sym (same_is y here.contents.name t) in
        let same : d ≡ c = cc (is, e, one) in
        subst (λ (z : Name). SlotsKept ρ c (contents_of z (with_contents changed σ.slots)) (slice_get store_behind.tables (table_index ds z))) one
        (subst (λ (c : Slots). SlotsKept ρ c (contents_of x (with_contents changed σ.slots)) (slice_get store_behind.tables (table_index ds x))) same these))
        (λ t. others y c e t);
    functions = stores.functions;
  }

-- ## A resumption

-- what a value of a type res h refers to
pub record Referred (Ξ : World) (h : Name) (v : Value) : Type 0 where
  pub address : ℕ
  pub is : v ≡ Reference address
  pub there : slice_get Ξ address ≡ Some (Resumption h)

pub referred : {Ξ : World} {h : Name} {v : Value} → HasKind Ξ v (Resumption h) → Referred Ξ h v
referred (typed.HasKind.reference {a = a} e) = record { address = a; is = refl; there = e }

-- a reference is one to the continuation of its resumption
pub record Continued (ρ : List ℕ) (a : ℕ) (w : Val) : Type 0 where
  pub continuation : ℕ
  pub is : w ≡ Cont continuation
  pub there : slice_get ρ a ≡ Some continuation

pub continued : {ρ : List ℕ} {a : ℕ} {w : Val} → Same ρ (Reference a) w → Continued ρ a w
continued (reference {b = b} e) = record { continuation = b; is = refl; there = e }

-- nothing stands there, or a reference to the continuation of its resumption
empty_is : {ρ : List ℕ} {w : Val} → Element ρ None w → w ≡ Null
empty_is is_empty = refl

kept_is : {ρ : List ℕ} {a : ℕ} {w : Val} → Element ρ (Some a) w → Continued ρ a w
kept_is (is_kept {b = b} e) = record { continuation = b; is = refl; there = e }

-- ## The steps

module _ {p : Script} (matches : ℕ → ℕ → Bool) (facts : Facts p.declarations) {ρ : List ℕ} {σ : script.Store} {s : Store} (stores : Stores p.declarations ρ σ s) {Γ : Layout} {n D0 : ℕ} {L : Locals} {vars : List Variable} {owner : Option Name} {κ : script.Context} {below : Row Val} {c' : Code} {e' f : Context}
    (active : Active ρ Γ n L vars) (base : Base p.declarations Γ L below c' e' owner D0 f) (waits : Waits p.declarations ρ κ below c' e')
    (x k : Name) (d : Slots) (is : slots_of p.declarations x ≡ Some d) (local : HasLocal Γ k (Resumption d.handler)) (free : 0 < n) (z : ℤ) (m : ℕ) (bits : m < 2 ^ 64) (reads : signed 64 m ≡ z)
    {D : ℕ} {b : BlockTree} {c : Code} {e : Context} (rest : Rest p.declarations Γ n D0 f D b c e) where
  -- the activation, with no pending work
  abbrev place : Around
  place = record { store = σ; variables = vars; owner = owner; work = []; outer = κ }

  abbrev slots : SlotsKept ρ d (contents_of x σ.slots) (slice_get s.tables (table_index p.declarations x))
  slots = stores.slots x d is

  abbrev T : ℕ
  T = Γ.temporaries

  abbrev y : ℕ
  y = local.local.number

  -- how many places there are
  abbrev many : ℕ
  many = places_of p.declarations x

  many_is : many ≡ d.places.value
  many_is = ap places_in is

  long : length slots.table.elements ≡ many
  long = slots.many ∙ sym many_is

  places_long : length slots.contents.places ≡ many
  places_long = elements_long slots.elements ∙ long

  few : many ≤ 65536
  few = let few_places = facts.slots x d is in omega (arith, few_places, many_is)

  -- the temporary and the name's local are the frame's, and not the same
  below_temporaries : y < T
  below_temporaries = active.fine.below k local.local local.is

  temporary : (w : Option Val) × (slice_get L T ≡ Some w)
  temporary = in_range L T (let room = active.room in omega (arith, room, free))

  name_local : (w : Option Val) × (slice_get L y ≡ Some w)
  name_local = in_range L y (let room = active.room in let low = below_temporaries in omega (arith, room, low))

  apart : (T ≡ y) → ⊥
  apart e = let low = below_temporaries in omega (arith, e, low)

  locals : locals_of e ≡ L
  locals = deep_locals (rest_deep rest).deep ∙ base_locals base

  name_number : local_number Γ k ≡ y
  name_number = ap number_in local.is

  -- ### Storing

  -- k is the resumption a, whose continuation is i
  module _ (v : Variable) (a i : ℕ) (named : variable_of k vars ≡ Some v) (refers : v.value ≡ Reference a) (at : slice_get ρ a ≡ Some i) (held : slice_get L y ≡ Some (Some (Cont i))) where
    put_by : (z : ℤ) → PlaceOf many m z → Matches p matches 52 s (config e (ε ▹ I64 m) (put_code T many (table_index p.declarations x) y c)) (uses p place (ToPut x k) (Number z) b)
    put_by z (inside lt) =
        let here = in_range slots.contents.places m (let l = places_long in omega (arith, l, lt)) in
        let t = config e (ε ▹ I64 m) (put_code T many (table_index p.declarations x) y c) in
        let t' = config (with_local T (I64 m) e) ε c in
        let labels = labels_set T (I64 m) e in
        rw (named, refers, slots.found, here.1)
        (went
        (put_path (program_of p matches) (caps_of s t t') s e L locals c T many m (table_index p.declarations x) y slots.table slots.there long few temporary.0 temporary.1 (under_first s t t') lt (Cont i) held apart)
        (omega arith) (omega (arith, labels))
        (record {
          stands = runs (active_kept T (Some (I64 m)) (omega arith) active) (rest_beyond (setting T (I64 m)) rest) (base_set T (I64 m) base) waits;
          stores = stores_changed stores x d is m (is_kept at);
        }))
    put_by z (outside le none) =
        let t = config e (ε ▹ I64 m) (put_code T many (table_index p.declarations x) y c) in
        let q = put_past (program_of p matches) (caps_of s t t) s e L locals c T many m (table_index p.declarations x) y slots.table slots.there long few temporary.0 temporary.1 (under_first s t t) le (Cont i) held apart in
        rw (named, refers, slots.found, none slots.contents.places places_long)
        (faulted q.1 q.2 refl (omega arith))

    pub put_matched : Matches p matches 52 s (config e (ε ▹ I64 m) (store_code p.declarations Γ x k c)) (uses p place (ToPut x k) (Number z) b)
    put_matched =
        subst (λ (j : ℕ). Matches p matches 52 s (config e (ε ▹ I64 m) (put_code T many (table_index p.declarations x) j c)) (uses p place (ToPut x k) (Number z) b)) (sym name_number)
        (put_by z (place_of many m z few bits reads))

  -- ### Taking

  -- what stands at the place
  take_there : (q : Option ℕ) → m < many → slice_get slots.contents.places m ≡ Some q
      → Matches p matches 52 s (config e (ε ▹ I64 m) (take_code T many (table_index p.declarations x) y c)) (uses p place (ToTake k x) (Number (pos m)) b)
  take_there None lt held =
      let t = config e (ε ▹ I64 m) (take_code T many (table_index p.declarations x) y c) in
      let w = elements_at slots.elements m None held in
      let null : slice_get slots.table.elements m ≡ Some Null = w.1 ∙ ap (λ (u : Val). Some u) (empty_is w.2) in
      let q = take_empty (program_of p matches) (caps_of s t t) s e L locals c T many m (table_index p.declarations x) y slots.table slots.there long few temporary.0 temporary.1 (under_first s t t) lt null in
      rw (slots.found, held)
      (faulted q.1 q.2 refl (omega arith))
  take_there (Some a) lt held =
      let w = elements_at slots.elements m (Some a) held in
      let r = kept_is w.2 in
      let i = r.continuation in
      let there : slice_get slots.table.elements m ≡ Some (Cont i) = w.1 ∙ ap (λ (u : Val). Some u) r.is in
      let t = config e (ε ▹ I64 m) (take_code T many (table_index p.declarations x) y c) in
      let t' = config (with_local y (Cont i) (with_local T (I64 m) e)) ε c in
      let first = labels_set T (I64 m) e in
      let second = labels_set y (Cont i) (with_local T (I64 m) e) in
      rw (slots.found, held)
      (subst (λ (h : Name). Matches p matches 52 s t (goes_on (record place { store = put σ slots.contents (pos m) None; variables = with_variable (variable k (Resumption h) (Reference a)) vars }) (script.Runs b)))
      (sym slots.of_handler)
      (went
      (take_path (program_of p matches) (caps_of s t t') s e L locals c T many m (table_index p.declarations x) y slots.table slots.there long few temporary.0 temporary.1 (under_first s t t') lt i there name_local.0 name_local.1 apart)
      (omega arith) (omega (arith, first, second))
      (record {
        stands = runs (active_with k (Resumption d.handler) (Reference a) local (reference r.there) (active_kept T (Some (I64 m)) (omega arith) active))
            (rest_beyond (setting y (Cont i)) (rest_beyond (setting T (I64 m)) rest)) (base_set y (Cont i) (base_set T (I64 m) base)) waits;
        stores = stores_changed stores x d is m is_empty;
      })))

  take_by : (z : ℤ) → PlaceOf many m z → Matches p matches 52 s (config e (ε ▹ I64 m) (take_code T many (table_index p.declarations x) y c)) (uses p place (ToTake k x) (Number z) b)
  take_by z (inside lt) = let here = in_range slots.contents.places m (let l = places_long in omega (arith, l, lt)) in take_there here.0 lt here.1
  take_by z (outside le none) =
      let t = config e (ε ▹ I64 m) (take_code T many (table_index p.declarations x) y c) in
      let q = take_past (program_of p matches) (caps_of s t t) s e L locals c T many m (table_index p.declarations x) y slots.table slots.there long few temporary.0 temporary.1 (under_first s t t) le in
      rw (slots.found, none slots.contents.places places_long)
      (faulted q.1 q.2 refl (omega arith))

  pub take_matched : Matches p matches 52 s (config e (ε ▹ I64 m) (lowered.take_code p.declarations Γ k x c)) (uses p place (ToTake k x) (Number z) b)
  take_matched =
      subst (λ (j : ℕ). Matches p matches 52 s (config e (ε ▹ I64 m) (take_code T many (table_index p.declarations x) j c)) (uses p place (ToTake k x) (Number z) b)) (sym name_number)
      (take_by z (place_of many m z few bits reads))
