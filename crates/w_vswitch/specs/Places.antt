-- Where stack switching instructions are typed.
use Rattle.std.specs.Prelude.{Bool, List}
use Rattle.w_types.specs.declared.types.ValType.{ValType}
use Rattle.lists.specs.Rows.{Row}
use Rattle.w_rules.specs.declared.context.Context as rt
use Rattle.w_rules.specs.Context.{Context}
use Rattle.w_rules.specs.View.{context_in, HasClasses}
use Rattle.w_vplain.specs.Prefixes.{Prefix, IsDerivable}
use Rattle.w_vplain.specs.Row.{labels_in}
use Rattle.w_vplain.specs.Standing.{StandsFor, context_for}
use Rattle.w_vplain.specs.declared.checker.Checker.{Checker}

-- the context at the end of a sequence
abbrev pub at_end : Context → Prefix → Context
at_end c w = record c { labels = labels_in c w }

-- the context with these labels, in a body with these locals and results
abbrev pub placed : rt.Context → List ValType → Row ValType → List (Row ValType) → Context
placed cx ts rs ls = record (context_in cx) { locals = ts; results = rs; labels = ls }

-- what holds at each place of each body
abbrev pub Anywhere : rt.Context → (Context → Type 0) → Type 0
Anywhere cx P = HasClasses cx → (ts : List ValType) (rs : Row ValType) (ls : List (Row ValType)) → P (placed cx ts rs ls)

-- what holds at the end of each derived sequence that the checker stands for
abbrev pub AtEnds : Checker → (Context → Type 0) → Type 0
AtEnds c P = (s : List Bool) (w : Prefix) → StandsFor c s w → IsDerivable (context_for c) s w → P (at_end (context_for c) w)
