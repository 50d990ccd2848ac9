use Rattle.std.proofs.Common.{take}
use Rattle.w_rules.proofs.SpacesSoFar.{HasImports}
use Rattle.w_rules.proofs.spaces.Spaces.of_imports.Given as goal

abbrev pub invariant-loop-import : goal.invariant-loop-import
invariant-loop-import l = HasImports l.spaces (take l.import-index l.imports)
