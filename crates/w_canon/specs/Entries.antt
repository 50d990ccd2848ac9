-- The entries of types.
use Rattle.std.specs.Prelude.{ℕ, suc, List, [], ◌∷◌}
use Rattle.w_types.specs.declared.types.CompType.{CompType}
use Rattle.w_types.specs.declared.types.CompType.TheVariants as comp
use Rattle.w_types.specs.declared.types.SubType.{SubType}
use Rattle.w_canon.specs.declared.entry.Kind.{Kind}
use Rattle.w_canon.specs.declared.entry.Kind.TheVariants.{Func, Cont}
use Rattle.w_canon.specs.declared.entry.Entry.{Entry}
use Rattle.w_canon.specs.Shares.{none}

abbrev pub kind_of : CompType → Kind
kind_of (comp.Func f) = Func
kind_of (comp.Cont x) = Cont

-- the entries of types of one group, the first at position p, where the first equal group begins with type g; their spans are not known
abbrev pub entries_from : ℕ → ℕ → List SubType → List Entry
entries_from g p [] = []
entries_from g p (t ∷ ts) = record { class = record { group = g; position = p }; kind = kind_of t.composite; span = none } ∷ entries_from g (suc p) ts
