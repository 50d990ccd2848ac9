-- Modules, as their sections make them (Core, binary format, modules).
use Rattle.std.specs.Prelude.{◌≡◌, ℕ, Bool, false, ◌||◌, IsFalse, List, [], ◌∷◌, length, Option, Some, None}
use Rattle.w_syntax.specs.DataUses.{uses_data}
use Rattle.w_syntax.specs.declared.module.Func.{Func}
use Rattle.w_syntax.specs.declared.module.Module.{Module}
use Rattle.w_syntax.specs.declared.module.Section.{Section}
use Rattle.w_syntax.specs.declared.module.Section.TheVariants as part

-- an absent section is an empty list
abbrev pub empty_module : Module
empty_module = record {
  types = [];
  imports = [];
  functions = [];
  tables = [];
  memories = [];
  tags = [];
  globals = [];
  exports = [];
  start = None;
  elements = [];
  codes = [];
  datas = [];
}

abbrev pub with_contents : Section → Module → Module
with_contents part.Custom m = m
with_contents (part.Types ts) m = record m { types = ts }
with_contents (part.Imports is) m = record m { imports = is }
with_contents (part.Functions xs) m = record m { functions = xs }
with_contents (part.Tables ts) m = record m { tables = ts }
with_contents (part.Memories ms) m = record m { memories = ms }
with_contents (part.Tags xs) m = record m { tags = xs }
with_contents (part.Globals gs) m = record m { globals = gs }
with_contents (part.Exports es) m = record m { exports = es }
with_contents (part.Start x) m = record m { start = Some x }
with_contents (part.Elements es) m = record m { elements = es }
with_contents (part.DataCount n) m = m
with_contents (part.Codes cs) m = record m { codes = cs }
with_contents (part.Datas ds) m = record m { datas = ds }

-- the module of these sections
unfoldable pub with_all_contents : Module → List Section → Module
with_all_contents m [] = m
with_all_contents m (p ∷ ps) = with_all_contents (with_contents p m) ps

-- the magic number and the version
abbrev pub header : List ℕ
header = 0x00 ∷ 0x61 ∷ 0x73 ∷ 0x6D ∷ 0x01 ∷ 0x00 ∷ 0x00 ∷ 0x00 ∷ []

-- ## Counts

-- the body of some function does
unfoldable pub any_uses_data : List Func → Bool
any_uses_data [] = false
any_uses_data (f ∷ fs) = uses_data f.body || any_uses_data fs

abbrev pub with_count : Section → Option ℕ → Option ℕ
with_count part.Custom c = c
with_count (part.Types ts) c = c
with_count (part.Imports is) c = c
with_count (part.Functions xs) c = c
with_count (part.Tables ts) c = c
with_count (part.Memories ms) c = c
with_count (part.Tags xs) c = c
with_count (part.Globals gs) c = c
with_count (part.Exports es) c = c
with_count (part.Start x) c = c
with_count (part.Elements es) c = c
with_count (part.DataCount n) c = Some n
with_count (part.Codes cs) c = c
with_count (part.Datas ds) c = c

-- the data count that these sections have
unfoldable pub count_after : Option ℕ → List Section → Option ℕ
count_after c [] = c
count_after c (p ∷ ps) = count_after (with_count p c) ps

-- a data count is the number of data segments; without one no body names a data segment
abbrev pub DataAgrees : Option ℕ → Module → Type 0
DataAgrees (Some n) m = n ≡ length m.datas
DataAgrees None m = IsFalse (any_uses_data m.codes)

-- each function has its code, and the data count agrees
abbrev pub CountsAgree : Option ℕ → Module → Type 0
CountsAgree c m = (length m.functions ≡ length m.codes) × DataAgrees c m
