-- Where a run begins.
use Rattle.std.specs.Prelude.{◌≡◌, ℕ, List, [], All, Option, Some}
use Rattle.w_types.specs.declared.types.FuncType.{FuncType}
use Rattle.lists.specs.Rows.{row_of}
use Rattle.w_syntax.specs.declared.module.Data.{Data}
use Rattle.w_syntax.specs.declared.module.Elem.{Elem}
use Rattle.w_syntax.specs.declared.module.Module.{Module}
use Rattle.w_rules.specs.Context.{type_of_func}
use Rattle.w_rules.specs.Matching.{known}
use Rattle.w_rules.specs.Spaces.{context_of}
use Rattle.w_tables.specs.Store as instances
use Rattle.w_tables.specs.declared.entries.Printer.{Printer}
use Rattle.w_reduce.specs.Imports.{All as all_hosts, printers_of}
use Rattle.w_reduce.specs.Store.{Store}
use Rattle.w_reduce.specs.Terms.{Term}
use Rattle.w_reduce.specs.Program.{Program, IsProgram}
use Rattle.w_reduce.specs.Start.{Start, Ready, allocated, element_started, data_started, in_order, first_term, starts_of, start_term}
use Rattle.w_stands.specs.Values.{store_of}
use Rattle.w_typed.specs.Configurations.{Typed}
use Rattle.w_configuration.specs.Standing.{RunsBefore}

-- where a run begins: its module, the functions that run before main, and main
pub record Origin : Type 0 where
  pub source : Module
  pub starts : List ℕ
  pub main : ℕ

-- that of a module which is a single file: its start function runs before main, where it has one
abbrev pub origin_of : Module → ℕ → Origin
origin_of m main = record { source = m; starts = starts_of m.start; main = main }

-- the first store of a program whose imports are functions of the host: all is allocated, then active element segments are copied, and
-- then data segments; none where one passes an end (Core, execution, instantiation)
abbrev pub first_store : Program → List Printer → Option Store
first_store p hosts =
    in_order (λ s y (d : Data). data_started p s y d.mode) (in_order (λ s y (e : Elem). element_started p s y e.mode) (Some (allocated p hosts)) 0 p.source.elements) 0 p.source.datas

pub record IsFirstStore (p : Program) (s : Store) : Type 0 where
  pub hosts : List Printer
  pub imports : printers_of p.source p.source.imports ≡ all_hosts hosts
  pub is : first_store p hosts ≡ Some s

-- a run begins with this store and this term; p tells which of its types match which
pub record Begins (o : Origin) (p : Program) (s : Store) (t : Term) : Type 0 where
  pub source : p.source ≡ o.source
  pub program : IsProgram p
  pub store : IsFirstStore p s
  pub term : t ≡ first_term o.starts o.main

-- ## What a machine may begin with

-- it begins with this store and the invoke of main, behind that of the start function
abbrev pub BeginsWith : Module → instances.Store → ℕ → Type 0
BeginsWith m u main = (p : Program) → p.source ≡ m → Start p ≡ Ready (store_of u) (start_term m main)

-- it begins with this store, and the invokes of the functions that run before main and then of main, which takes nothing; both are typed
pub record BeginsAt (m : Module) (u : instances.Store) (starts : List ℕ) (main : ℕ) : Type 0 where
  pub store : (p : Program) → p.source ≡ m → IsProgram p → IsFirstStore p (store_of u)
  pub before : All (RunsBefore m) starts
  pub type : FuncType
  pub has_type : type_of_func (context_of m) main ≡ Some type
  pub no_params : type.params ≡ []
  pub typed : Typed m [] (known (row_of type.results)) (store_of u) (first_term starts main)
