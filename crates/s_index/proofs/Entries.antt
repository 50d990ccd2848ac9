-- Entries of names.
use Rattle.std.proofs.Common.{◌≡◌, ℕ, ◌+◌, ◌≤◌, Bool, true, false, cond, List, [], ◌∷◌, length, Option, Some, None, Bor, refl, sym, ap, ◌∙◌, arith}
use Rattle.std.specs.BTreeMap.{BTreeMap, is_at}
use Rattle.std.specs.BTreeMap as tree
use Rattle.std.specs.Cmp.Lexicographic.{slice_cmp}
use Rattle.std.specs.Option.{option_map}
use Rattle.std.specs.Ordering.{nat_cmp}
use Rattle.std.specs.Prelude.{is_some, IfSome}
use Rattle.std.specs.Str.{bytes_eq}
use Rattle.std.proofs.lemmas.Map.Text.{is_eq-slice_cmp}
use Rattle.std.proofs.lemmas.Slice.Eq.{bytes_eq-Decides}
use Rattle.s_syntax.specs.declared.name.Name.{Name}
use Rattle.s_syntax.specs.declared.script.Definition.{Definition}
use Rattle.s_syntax.specs.declared.script.Definition.TheVariants as definition
use Rattle.s_syntax.specs.declared.script.Declaration.{Declaration}
use Rattle.s_check.specs.Definitions.{definition_of, as_slots, slots_of}
use Rattle.s_index.specs.declared.counts.Counts.{Counts}
use Rattle.s_index.specs.declared.declarations.Numbered.{Numbered}
use Rattle.s_index.specs.Numbers.{Entry, no_counts, counted, number_behind, entry_behind, entry_of, slots_in}
use Rattle.s_index.specs.Views.{entry_in, entry_at, found, or_else, entry_named}
use Rattle.s_index.proofs.CountedDeclarations.{total, one_more}
use Rattle.s_check.specs.Size.{size_limit}

pub or_none : {A : Type 0} (o : Option A) → or_else o None ≡ o
or_none None = refl
or_none (Some a) = refl

-- the entry of a name is of its definition
pub entry_defines : (n : Counts) (ds : List Declaration) (x : Name) → option_map (λ (e : Entry). e.definition) (entry_behind n ds x) ≡ definition_of ds x
entry_defines n [] x = refl
entry_defines n (d ∷ ds) x = by (bytes_eq d.name x) (entry_defines (counted n d.definition) ds x)
  where
    by : (b : Bool) → option_map (λ (e : Entry). e.definition) (entry_behind (counted n d.definition) ds x) ≡ definition_of ds x
        → option_map (λ (e : Entry). e.definition) (cond b (Some (record { definition = d.definition; number = number_behind n d.definition })) (entry_behind (counted n d.definition) ds x)) ≡ cond b (Some d.definition) (definition_of ds x)
    by true rest = refl
    by false rest = rest

-- so it tells which slots the name has
pub slots_entered : (ds : List Declaration) (x : Name) → slots_in (entry_of ds x) ≡ slots_of ds x
slots_entered ds x = by (entry_of ds x) ∙ ap as_slots (entry_defines no_counts ds x)
  where
    by : (o : Option Entry) → slots_in o ≡ as_slots (option_map (λ (e : Entry). e.definition) o)
    by None = refl
    by (Some e) = refl

-- ## Numbers are small

number_within : (n : Counts) (d : Definition) → number_behind n d ≤ total n
number_within n (definition.Effect k) = omega arith
number_within n (definition.Function f) = omega arith
number_within n (definition.Handler h) = omega arith
number_within n (definition.Slots s) = omega arith

entry_within : (n : Counts) (ds : List Declaration) (x : Name) (e : Entry) → entry_behind n ds x ≡ Some e → e.number ≤ total n + length ds
entry_within n [] x e is = absurd (cc)
entry_within n (d ∷ ds) x e is = by (bytes_eq d.name x) refl (entry_within (counted n d.definition) ds x e)
  where
    by : (b : Bool) → bytes_eq d.name x ≡ b → (entry_behind (counted n d.definition) ds x ≡ Some e → e.number ≤ total (counted n d.definition) + length ds) → e.number ≤ total n + length (d ∷ ds)
    by true t later =
        let same : Some (record { definition = d.definition; number = number_behind n d.definition }) ≡ Some e = ap (λ (b : Bool). cond b (Some (record { definition = d.definition; number = number_behind n d.definition })) (entry_behind (counted n d.definition) ds x)) (sym t) ∙ is in
        let number : e.number ≡ number_behind n d.definition = cc in
        let w = number_within n d.definition in
        omega (arith, number, w)
    by false f later =
        let behind : entry_behind (counted n d.definition) ds x ≡ Some e = ap (λ (b : Bool). cond b (Some (record { definition = d.definition; number = number_behind n d.definition })) (entry_behind (counted n d.definition) ds x)) (sym f) ∙ is in
        let w = later behind in
        let m = one_more n d.definition in
        omega (arith, w, m)

-- a name's number is at most that of all declarations
pub number_small : (ds : List Declaration) (x : Name) (o : Option Numbered) → entry_at o ≡ entry_of ds x → length ds ≤ size_limit → IfSome o (λ m. m.number ≤ size_limit)
number_small ds x None is few = tt
number_small ds x (Some m) is few = let w = entry_within no_counts ds x (entry_in m) (sym is) in omega (arith, w, few)

-- ## One declaration more

-- an entry that stands in front
pub entries_more : (n : Counts) (d : Declaration) (ds : List Declaration) (o : Option Entry) (x : Name)
    → or_else (or_else o (entry_named d (number_behind n d.definition) x)) (entry_behind (counted n d.definition) ds x) ≡ or_else o (entry_behind n (d ∷ ds) x)
entries_more n d ds (Some e) x = refl
entries_more n d ds None x = by (bytes_eq d.name x)
  where
    by : (b : Bool) → or_else (cond b (Some (record { definition = d.definition; number = number_behind n d.definition })) None) (entry_behind (counted n d.definition) ds x)
        ≡ cond b (Some (record { definition = d.definition; number = number_behind n d.definition })) (entry_behind (counted n d.definition) ds x)
    by true = refl
    by false = refl

-- where a lookup finds nothing
pub no_entry : (o : Option Numbered) → is_some o ≡ false → entry_at o ≡ None
no_entry None h = refl
no_entry (Some n) h = absurd (cc)

mapped_cond : {A B : Type 0} (f : A → B) (b : Bool) (x : A) (o : Option A) → option_map f (cond b (Some x) o) ≡ cond b (Some (f x)) (option_map f o)
mapped_cond f true x o = refl
mapped_cond f false x o = refl

-- a name that is new to a map
pub found_more : (x : Bor (List ℕ)) (v : Numbered) (d : Declaration) (old more : BTreeMap (Bor (List ℕ)) Numbered) → x.now ≡ d.name → v.definition.now ≡ d.definition
    → found old d.name ≡ None
    → ((q : Bor (List ℕ)) → tree.get (λ x y. slice_cmp nat_cmp x.now y.now) more q ≡ cond (is_at (λ y. slice_cmp nat_cmp x.now y.now) q) (Some v) (tree.get (λ x y. slice_cmp nat_cmp x.now y.now) old q))
    → (q : Name) → found more q ≡ or_else (found old q) (entry_named d v.number q)
found_more x v d old more name is none updates q =
    ap entry_at (updates (record { ref_ptr = (0, 0); now = q }))
    ∙ mapped_cond entry_in (is_at (λ (y : Bor (List ℕ)). slice_cmp nat_cmp x.now y.now) (record { ref_ptr = (0, 0); now = q })) v (tree.get (λ (x y : Bor (List ℕ)). slice_cmp nat_cmp x.now y.now) old (record { ref_ptr = (0, 0); now = q }))
    ∙ ap (λ (b : Bool). cond b (Some (entry_in v)) (found old q)) (is_eq-slice_cmp x.now q)
    ∙ ap (λ (n : List ℕ). cond (bytes_eq n q) (Some (entry_in v)) (found old q)) name
    ∙ ap (λ (e : Definition). cond (bytes_eq d.name q) (Some (record { definition = e; number = v.number })) (found old q)) is
    ∙ by (bytes_eq d.name q) refl
  where
    by : (b : Bool) → bytes_eq d.name q ≡ b → cond b (Some (record { definition = d.definition; number = v.number })) (found old q) ≡ or_else (found old q) (cond b (Some (record { definition = d.definition; number = v.number })) None)
    by true t =
        let here : found old q ≡ None = ap (λ (n : Name). found old n) (sym ((bytes_eq-Decides d.name q).0 t)) ∙ none in
        sym (ap (λ (o : Option Entry). or_else o (Some (record { definition = d.definition; number = v.number }))) here)
    by false f = sym (or_none (found old q))

-- and one that has an entry
pub found_same : (d : Declaration) (n : ℕ) (m : BTreeMap (Bor (List ℕ)) Numbered) → is_some (found m d.name) ≡ true → (q : Name) → found m q ≡ or_else (found m q) (entry_named d n q)
found_same d n m some q = by (bytes_eq d.name q) refl
  where
    or_some : {A : Type 0} (o p : Option A) → is_some o ≡ true → o ≡ or_else o p
    or_some None p h = absurd (cc)
    or_some (Some a) p h = refl

    by : (b : Bool) → bytes_eq d.name q ≡ b → found m q ≡ or_else (found m q) (cond b (Some (record { definition = d.definition; number = n })) None)
    by true t = or_some (found m q) (Some (record { definition = d.definition; number = n })) (ap (λ (x : Name). is_some (found m x)) (sym ((bytes_eq-Decides d.name q).0 t)) ∙ some)
    by false f = sym (or_none (found m q))
