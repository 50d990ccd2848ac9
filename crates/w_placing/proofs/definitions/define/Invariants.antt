use Rattle.std.proofs.Common.{◌≡◌, ◌++◌, map, drop}
use Rattle.w_syntax.specs.declared.module.Module.{Module}
use Rattle.w_link.specs.Shifted.{group_shifted}
use Rattle.w_link.specs.Items.{tag_shifted}
use Rattle.w_linked.specs.Definitions.{of_files, host_types, own_functions, own_tables, own_globals}
use Rattle.w_placing.specs.Parts.{parts_of}
use Rattle.w_placing.proofs.definitions.define.Given as goal

-- those of the files so far are there
abbrev pub invariant-loop-checked : goal.invariant-loop-checked
invariant-loop-checked l =
    let p = parts_of l.parts in
    let rest = drop l.checked-index l.modules in
    record {
      types : of_files (λ n (m : Module). map (group_shifted n) m.types) 0 l.modules ≡ p.types ++ of_files (λ n (m : Module). map (group_shifted n) m.types) l.n rest;
      hosts : of_files (λ n (m : Module). host_types n m m.imports) 0 l.modules ≡ p.hosts ++ of_files (λ n (m : Module). host_types n m m.imports) l.n rest;
      functions : of_files own_functions 0 l.modules ≡ p.functions ++ of_files own_functions l.n rest;
      tables : of_files own_tables 0 l.modules ≡ p.tables ++ of_files own_tables l.n rest;
      memories : of_files (λ n (m : Module). m.memories) 0 l.modules ≡ p.memories ++ of_files (λ n (m : Module). m.memories) l.n rest;
      globals : of_files own_globals 0 l.modules ≡ p.globals ++ of_files own_globals l.n rest;
      tags : of_files (λ n (m : Module). map (tag_shifted n) m.tags) 0 l.modules ≡ p.tags ++ of_files (λ n (m : Module). map (tag_shifted n) m.tags) l.n rest;
    }
