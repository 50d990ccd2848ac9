-- What holds of the modules of scripts.
use Rattle.std.specs.Prelude.{◌≡◌, ◌≤◌, length}
use Rattle.w_encode.specs.Canon.{Canon}
use Rattle.w_rules.specs.Limits.{Within}
use Rattle.w_rules.specs.Valid.{Valid}
use Rattle.w_reduce.specs.Program.{Program}
use Rattle.w_reduce.specs.Start.{Start, Ready}
use Rattle.s_syntax.specs.declared.script.Script.{Script}
use Rattle.s_check.specs.Refusal.{Good}
use Rattle.s_check.specs.Size.{Size, size_limit}
use Rattle.s_code.specs.Lowered.{lowered}
use Rattle.s_valid.specs.Beginning.{first_store, first_term}

-- they are valid, and within the limits of modules
abbrev pub ModulesValid : Type 0
ModulesValid = (p : Script) → Good p → Size p ≤ size_limit → Valid (lowered p) × Within (lowered p)

-- a file has room for their canonical spelling
abbrev pub SpellingsShort : Type 0
SpellingsShort = (p : Script) → Good p → Size p ≤ size_limit → length (Canon (lowered p)) ≤ 16777216

-- runs of them begin with this store and this term, whatever tells which types match which: nothing that they import is missing, and no
-- segment traps
abbrev pub RunsBegin : Type 0
RunsBegin = (p : Script) → Good p → (program : Program) → program.source ≡ lowered p → Start program ≡ Ready (first_store p.declarations) (first_term p.declarations)
