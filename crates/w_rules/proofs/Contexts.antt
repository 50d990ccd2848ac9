-- The context of a module, as the code has it.
use Rattle.std.proofs.Common.{◌≡◌, ℕ, length}
use Rattle.w_syntax.specs.declared.module.Module.{Module}
use Rattle.w_rules.specs.declared.context.Context as rt
use Rattle.w_rules.specs.Spaces.{functions_of, tables_of, memories_of, globals_of, globals_below, tags_of, elements_of, declared_of, context_of, context_below}
use Rattle.w_rules.specs.View.{context_in}

-- it is of this module and has all that the module has, but for the globals
pub record IsOf (cx : rt.Context) (m : Module) : Type 0 where
  pub types : cx.types.now ≡ m.types
  pub functions : cx.functions.now ≡ functions_of m
  pub tables : cx.tables.now ≡ tables_of m
  pub memories : cx.memories.now ≡ memories_of m
  pub tags : cx.tags.now ≡ tags_of m
  pub elements : cx.elements.now ≡ elements_of m
  pub datas : cx.datas ≡ length m.datas
  pub declared : cx.declared.now ≡ declared_of m

-- with all globals it stands for the context of the module
pub stands_whole : (cx : rt.Context) (m : Module) → IsOf cx m → cx.globals.now ≡ globals_of m → context_in cx ≡ context_of m
stands_whole cx m h e = cc

-- with the first globals it stands for the context that the next global is typed in
pub stands_below : (cx : rt.Context) (m : Module) (n : ℕ) → IsOf cx m → cx.globals.now ≡ globals_below m n → context_in cx ≡ context_below m n
stands_below cx m n h e = cc
