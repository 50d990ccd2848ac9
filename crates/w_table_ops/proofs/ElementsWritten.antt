-- The instructions that write to a table, one by one: what each needs, where it goes, and that what holds of all values still holds.
use Rattle.std.proofs.Common.{◌≡◌, ℕ, ◌<◌, List, [], ◌∷◌, length, drop, map, Option, Some, slice_get, refl, sym, ap, ◌∙◌, true}
use Rattle.std.specs.Option.{option_map}
use Rattle.w_types.specs.declared.value.Value.{Value}
use Rattle.w_syntax.specs.declared.instructions.Instr.TheVariants as flat
use Rattle.w_syntax.specs.declared.instructions.Op.TheVariants as op
use Rattle.w_syntax.specs.declared.instructions.TableOp.TheVariants as table
use Rattle.w_syntax.specs.declared.numeric.IntType.TheVariants as int
use Rattle.w_syntax.specs.declared.module.Module.{Module}
use Rattle.w_segment.specs.Shape.{Shape}
use Rattle.w_tables.specs.Elements.{replaced, filled, copied}
use Rattle.w_tables.specs.Operations as on
use Rattle.w_tables.specs.Operations.{table_set, table_fill, table_copy, table_init}
use Rattle.w_tables.specs.Store as instances
use Rattle.w_reduce.specs.Values.{Val, val}
use Rattle.w_reduce.specs.Store.{Table}
use Rattle.w_stands.specs.Values.{vals, table_of}
use Rattle.w_stands.specs.Numbers.{bits_in}
use Rattle.w_stands.specs.Steps.{MovesAt}
use Rattle.w_stands.specs.Taking.{Kind, Number, Any, AreOf}
use Rattle.w_stands.proofs.NextInstructions.{Needs, take_needs}
use Rattle.w_stands.proofs.LookedUp.{within_mapped}
use Rattle.w_table_ops.proofs.MappedElements.{mapped_replaced, mapped_filled, mapped_copied, table_there, segment_there}
use Rattle.w_table_ops.proofs.Rules.{setting, set_rule, filling, fill_rule, three, copying, copy_rule, initializing, init_rule}
use Rattle.w_table_ops.proofs.TableWrites.{Writes, write_table, write_source, writes}
use Rattle.w_table_ops.proofs.FactsOfElements.{replaced_made, filled_made, copied_made, table_holds, segment_holds}

-- ## table.set

abbrev pub to_set : List Kind
to_set = Any ∷ Number int.I32 ∷ []

module _ (m : Module) (u : instances.Store) (s : Shape) (x : ℕ) (k : MovesAt (flat.Plain (op.Table (table.Set x))) m u s) where
  -- what it needs
  pub set_needs : Needs m u s to_set (setting x)
  set_needs = take_needs m u s (op.Table (table.Set x)) to_set (setting x) (set_rule x) k

  module _ (i v : Value) (is : s.operands ≡ v ∷ i ∷ drop 2 s.operands) where
    -- the operands are of these kinds
    pub set_of : AreOf to_set (v ∷ i ∷ [])
    set_of = set_needs.of (v ∷ i ∷ []) (drop 2 s.operands) is refl

    -- what it makes of the elements
    abbrev set_made : Unit {0} → Table → Option (List Val)
    set_made a t = replaced t.elements (bits_in i) (val v)

    -- there is a table
    pub set_table : x < length u.tables
    set_table =
        write_table m u s (op.Table (table.Set x)) to_set (setting x) (set_rule x) k (v ∷ i ∷ []) (drop 2 s.operands) is set_of (Unit {0}) x (Some tt) set_made (λ p e c. refl)

    -- where it goes by what the call answers
    pub set_writes : (at : ℕ) (r : Option (Unit {0})) (u' : instances.Store) → at ≡ bits_in i → table_set u x at v ≡ (r, u') → Writes m u s 2 r u'
    unfolding table_set
    set_writes at r u' a left =
        let els = on.elements_at u.tables x in
        writes m u s (op.Table (table.Set x)) to_set (setting x) (set_rule x) k (v ∷ i ∷ []) (drop 2 s.operands) is set_of (Unit {0}) x (Some tt) set_made (λ p e c. refl)
        tt refl (replaced els at v) (ap (λ (n : ℕ). replaced (vals els) n (val v)) (sym a) ∙ mapped_replaced val els at v) r u' left
        (λ test h g. replaced_made (λ w. test w ≡ true) els at v (table_holds (λ w. test w ≡ true) u.tables x h.tables) g.0)

-- ## table.fill

abbrev pub to_fill : List Kind
to_fill = Number int.I32 ∷ Any ∷ Number int.I32 ∷ []

module _ (m : Module) (u : instances.Store) (s : Shape) (x : ℕ) (k : MovesAt (flat.Plain (op.Table (table.Fill x))) m u s) where
  -- what it needs
  pub fill_needs : Needs m u s to_fill (filling x)
  fill_needs = take_needs m u s (op.Table (table.Fill x)) to_fill (filling x) (fill_rule x) k

  module _ (i v n : Value) (is : s.operands ≡ n ∷ v ∷ i ∷ drop 3 s.operands) where
    -- the operands are of these kinds
    pub fill_of : AreOf to_fill (n ∷ v ∷ i ∷ [])
    fill_of = fill_needs.of (n ∷ v ∷ i ∷ []) (drop 3 s.operands) is refl

    -- what it makes of the elements
    abbrev fill_made : Unit {0} → Table → Option (List Val)
    fill_made a t = filled t.elements (bits_in i) (val v) (bits_in n)

    -- there is a table
    pub fill_table : x < length u.tables
    fill_table =
        write_table m u s (op.Table (table.Fill x)) to_fill (filling x) (fill_rule x) k (n ∷ v ∷ i ∷ []) (drop 3 s.operands) is fill_of (Unit {0}) x (Some tt) fill_made (λ p e c. refl)

    -- where it goes by what the call answers
    pub fill_writes : (at count : ℕ) (r : Option (Unit {0})) (u' : instances.Store) → at ≡ bits_in i → count ≡ bits_in n → table_fill u x at v count ≡ (r, u') → Writes m u s 3 r u'
    unfolding table_fill
    fill_writes at count r u' a b left =
        let els = on.elements_at u.tables x in
        writes m u s (op.Table (table.Fill x)) to_fill (filling x) (fill_rule x) k (n ∷ v ∷ i ∷ []) (drop 3 s.operands) is fill_of (Unit {0}) x (Some tt) fill_made (λ p e c. refl)
        tt refl (filled els at v count)
        (ap (λ (y : ℕ). filled (vals els) y (val v) (bits_in n)) (sym a) ∙ ap (λ (y : ℕ). filled (vals els) at (val v) y) (sym b) ∙ mapped_filled val els at v count) r u' left
        (λ test h g. filled_made (λ w. test w ≡ true) els at v count (table_holds (λ w. test w ≡ true) u.tables x h.tables) g.1.0)

-- ## table.copy and table.init

-- what they make of the elements
abbrev pub copy_made : Value → Value → Value → List Val → Table → Option (List Val)
copy_made d j n source t = copied t.elements source (bits_in d) (bits_in j) (bits_in n)

-- it is what they make of the program's
copied_is : (d j n : Value) (to from count : ℕ) (els source : List Value) → to ≡ bits_in d → from ≡ bits_in j → count ≡ bits_in n →
    copied (vals els) (vals source) (bits_in d) (bits_in j) (bits_in n) ≡ option_map vals (copied els source to from count)
copied_is d j n to from count els source a b w =
    ap (λ (y : ℕ). copied (vals els) (vals source) y (bits_in j) (bits_in n)) (sym a) ∙ ap (λ (y : ℕ). copied (vals els) (vals source) to y (bits_in n)) (sym b)
    ∙ ap (λ (y : ℕ). copied (vals els) (vals source) to from y) (sym w) ∙ mapped_copied val els source to from count

module _ (m : Module) (u : instances.Store) (s : Shape) (x y : ℕ) (k : MovesAt (flat.Plain (op.Table (table.Copy x y))) m u s) where
  -- what it needs
  pub copy_needs : Needs m u s three (copying x y)
  copy_needs = take_needs m u s (op.Table (table.Copy x y)) three (copying x y) (copy_rule x y) k

  module _ (d j n : Value) (is : s.operands ≡ n ∷ j ∷ d ∷ drop 3 s.operands) where
    -- the operands are of these kinds
    pub copy_of : AreOf three (n ∷ j ∷ d ∷ [])
    copy_of = copy_needs.of (n ∷ j ∷ d ∷ []) (drop 3 s.operands) is refl

    -- the table that it writes to is there
    pub copy_target : x < length u.tables
    copy_target =
        write_table m u s (op.Table (table.Copy x y)) three (copying x y) (copy_rule x y) k (n ∷ j ∷ d ∷ []) (drop 3 s.operands) is copy_of
        Table x (slice_get (map table_of u.tables) y) (λ a. copy_made d j n a.elements) (λ p e c. refl)

    -- also the one that it reads
    pub copy_source : y < length u.tables
    copy_source =
        let t = write_source m u s (op.Table (table.Copy x y)) three (copying x y) (copy_rule x y) k (n ∷ j ∷ d ∷ []) (drop 3 s.operands) is copy_of
        Table x (slice_get (map table_of u.tables) y) (λ a. copy_made d j n a.elements) (λ p e c. refl) in
        within_mapped table_of u.tables y t.0 t.1

    -- where it goes by what the call answers
    pub copy_writes : (to from count : ℕ) (r : Option (Unit {0})) (u' : instances.Store) → to ≡ bits_in d → from ≡ bits_in j → count ≡ bits_in n →
        table_copy u x y to from count ≡ (r, u') → Writes m u s 3 r u'
    unfolding table_copy
    copy_writes to from count r u' a b w left =
        let els = on.elements_at u.tables x in
        let source = on.elements_at u.tables y in
        writes m u s (op.Table (table.Copy x y)) three (copying x y) (copy_rule x y) k (n ∷ j ∷ d ∷ []) (drop 3 s.operands) is copy_of
        Table x (slice_get (map table_of u.tables) y) (λ a. copy_made d j n a.elements) (λ p e c. refl)
        (table_of (on.table_at u.tables y)) (table_there u y copy_source) (copied els source to from count) (copied_is d j n to from count els source a b w) r u' left
        (λ test h g. copied_made (λ v. test v ≡ true) els source to from count (table_holds (λ v. test v ≡ true) u.tables x h.tables) (table_holds (λ v. test v ≡ true) u.tables y h.tables))

module _ (m : Module) (u : instances.Store) (s : Shape) (y x : ℕ) (k : MovesAt (flat.Plain (op.Table (table.Init y x))) m u s) where
  -- what it needs
  pub init_needs : Needs m u s three (initializing y x)
  init_needs = take_needs m u s (op.Table (table.Init y x)) three (initializing y x) (init_rule y x) k

  module _ (d j n : Value) (is : s.operands ≡ n ∷ j ∷ d ∷ drop 3 s.operands) where
    -- the operands are of these kinds
    pub init_of : AreOf three (n ∷ j ∷ d ∷ [])
    init_of = init_needs.of (n ∷ j ∷ d ∷ []) (drop 3 s.operands) is refl

    -- there is a table
    pub init_table : x < length u.tables
    init_table =
        write_table m u s (op.Table (table.Init y x)) three (initializing y x) (init_rule y x) k (n ∷ j ∷ d ∷ []) (drop 3 s.operands) is init_of
        (List Val) x (slice_get (map vals u.elems) y) (copy_made d j n) (λ p e c. refl)

    -- there is a segment
    pub init_segment : y < length u.elems
    init_segment =
        let t = write_source m u s (op.Table (table.Init y x)) three (initializing y x) (init_rule y x) k (n ∷ j ∷ d ∷ []) (drop 3 s.operands) is init_of
        (List Val) x (slice_get (map vals u.elems) y) (copy_made d j n) (λ p e c. refl) in
        within_mapped vals u.elems y t.0 t.1

    -- where it goes by what the call answers
    pub init_writes : (to from count : ℕ) (r : Option (Unit {0})) (u' : instances.Store) → to ≡ bits_in d → from ≡ bits_in j → count ≡ bits_in n →
        table_init u x y to from count ≡ (r, u') → Writes m u s 3 r u'
    unfolding table_init
    init_writes to from count r u' a b w left =
        let els = on.elements_at u.tables x in
        let source = on.elem_at u.elems y in
        writes m u s (op.Table (table.Init y x)) three (initializing y x) (init_rule y x) k (n ∷ j ∷ d ∷ []) (drop 3 s.operands) is init_of
        (List Val) x (slice_get (map vals u.elems) y) (copy_made d j n) (λ p e c. refl)
        (vals source) (segment_there u y init_segment) (copied els source to from count) (copied_is d j n to from count els source a b w) r u' left
        (λ test h g. copied_made (λ v. test v ≡ true) els source to from count (table_holds (λ v. test v ≡ true) u.tables x h.tables) (segment_holds (λ v. test v ≡ true) u.elems y h.segments))
