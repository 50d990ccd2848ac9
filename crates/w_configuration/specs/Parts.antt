-- What stands for a configuration.
use Rattle.std.specs.Prelude.{List, Option}
use Rattle.w_tables.specs.Store as instances
use Rattle.w_segment.specs.Link.{Link}
use Rattle.w_conts.specs.Conts.{Conts}
use Rattle.w_reduce.specs.Store.{Store, with_conts}
use Rattle.w_reduce.specs.Terms.{Continuation}
use Rattle.w_stands.specs.Values.{store_of}
use Rattle.w_switching.specs.declared.stored.Stored.{Stored}
-- the record of the struct that a machine keeps them in
pub use Rattle.w_configuration.specs.declared.configuration.Configuration.{Configuration as Parts}

abbrev pub parts : instances.Store → List Link → Conts Stored → Parts
parts u chain conts = record { store = u; chain = chain; conts = conts }

-- the store of the definitions, with these continuations
abbrev pub whole : instances.Store → List (Option Continuation) → Store
whole u ks = with_conts ks (store_of u)
