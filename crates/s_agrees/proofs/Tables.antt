-- The tables of the module of a script: all slots that are declared have a table of their own.
use Rattle.std.proofs.Common.{◌≡◌, ℕ, ◌+◌, List, [], ◌∷◌, length, Option, Some, refl, sym, ap, ◌∙◌, arith}
use Rattle.std.specs.Prelude.{slice_get}
use Rattle.s_syntax.specs.declared.name.Name.{Name}
use Rattle.s_syntax.specs.declared.script.Slots.{Slots}
use Rattle.s_syntax.specs.declared.script.Definition.{Definition}
use Rattle.s_syntax.specs.declared.script.Definition.TheVariants as definition
use Rattle.s_syntax.specs.declared.script.Declaration.{Declaration}
use Rattle.s_check.specs.Definitions.{definition_of, slots_of}
use Rattle.s_index.specs.declared.counts.Counts.{Counts}
use Rattle.s_index.specs.Numbers.{Entry, no_counts, counted, with_entry, index_of_table, table_index}
use Rattle.s_code.specs.Lowered.{for_each}
use Rattle.s_meaning.proofs.Good.{is_slots}
use Rattle.s_valid.proofs.NumbersInModules.{found}

-- the name of slots
abbrev slots_named : Name → Definition → List Name
slots_named x (definition.Effect n) = []
slots_named x (definition.Function f) = []
slots_named x (definition.Handler h) = []
slots_named x (definition.Slots s) = x ∷ []

abbrev slots_added : Declaration → List Name
slots_added d = slots_named d.name d.definition

slots_steps : (n : Counts) (x : Name) (d : Definition) → (counted n d).slots ≡ n.slots + length (slots_named x d)
slots_steps n x (definition.Effect k) = omega arith
slots_steps n x (definition.Function f) = omega arith
slots_steps n x (definition.Handler h) = omega arith
slots_steps n x (definition.Slots s) = omega arith

-- slots are found by their table among the names of all
named_at : (ds : List Declaration) (x : Name) (d : Slots) → slots_of ds x ≡ Some d → slice_get (for_each slots_added ds) (table_index ds x) ≡ Some x
named_at ds x d e =
    let q = found slots_added (λ (m : Counts). m.slots) (λ m c. slots_steps m c.name c.definition) no_counts ds x (definition.Slots d) x (is_slots (definition_of ds x) d e)
    (λ c same named. ap (slots_named c.name) same ∙ ap (λ (y : Name). y ∷ []) (sym named)) (λ m. refl) in
    let index : table_index ds x ≡ q.place = ap (λ (o : Option Entry). with_entry index_of_table o) q.entry ∙ omega arith in
    ap (λ (i : ℕ). slice_get (for_each slots_added ds) i) index ∙ q.item

-- slots of the same table are the same
pub table_apart : (ds : List Declaration) (x y : Name) (d c : Slots) → slots_of ds x ≡ Some d → slots_of ds y ≡ Some c → table_index ds x ≡ table_index ds y → x ≡ y
table_apart ds x y d c e f same =
    let q = sym (named_at ds x d e) ∙ ap (λ (i : ℕ). slice_get (for_each slots_added ds) i) same ∙ named_at ds y c f in cc q
