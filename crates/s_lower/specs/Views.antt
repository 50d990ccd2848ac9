-- What lists of names stand for.
use Rattle.std.specs.Prelude.{ℕ, ◌+◌, List, [], ◌∷◌, ◌++◌, map, length, Option, Some}
use Rattle.w_syntax.specs.declared.module.Module.{Module}
use Rattle.s_syntax.specs.declared.name.Name.{Name}
use Rattle.s_syntax.specs.declared.script.Clause.{Clause}
use Rattle.s_syntax.specs.declared.script.Declaration.{Declaration}
use Rattle.s_code.specs.Handlers.{Placed}
use Rattle.s_code.specs.Lowered.{lowered_all}
use Rattle.s_code.specs.Places.{clause_names}
use Rattle.s_code.specs.Layouts.{Owner, Layout, numbered}
use Rattle.s_check.specs.Scopes.{Bound}
use Rattle.s_lower.specs.declared.names.TypedName.{TypedName}
use Rattle.s_code.specs.Views.{type_of}

abbrev pub bound_of : TypedName → Bound
bound_of b = record { name = b.name.now; ty = type_of b.ty }

abbrev pub bounds_of : List TypedName → List Bound
bounds_of bs = map bound_of bs

-- the names ps from the first local on, and bs from the local `from` on
abbrev pub layout_of : (ps bs : List Bound) → (from temporaries : ℕ) → Option Owner → Layout
layout_of ps bs from temporaries owner = record { names = numbered 0 ps ++ numbered from bs; temporaries = temporaries; owner = owner }

-- the clauses of the handler h, the names of the first one from the local n on
abbrev pub placed_by : List Declaration → Name → (ps : List Bound) → (temporaries n : ℕ) → List Clause → List Placed
placed_by ds h ps temporaries n [] = []
placed_by ds h ps temporaries n (c ∷ cs) =
    record { clause = c; layout = layout_of ps (clause_names ds h c) n temporaries (Some (record { name = h; parameters = length ps })) }
    ∷ placed_by ds h ps temporaries (n + length (clause_names ds h c)) cs

-- the module of a script, without its types
abbrev pub untyped : List Declaration → Module
untyped ds = record (lowered_all ds) { types = [] }
