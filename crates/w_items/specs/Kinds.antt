-- The kinds of items of which a module may have several.
use Rattle.std.specs.Prelude.{ℕ, length}
use Rattle.w_syntax.specs.declared.module.Module.{Module}
use Rattle.w_rules.specs.Valid.{Item, ImportItem, TableItem, TagItem, GlobalItem, ElementItem, DataItem}
use Rattle.w_items.specs.declared.indexed.ItemKind.{ItemKind}
use Rattle.w_items.specs.declared.indexed.ItemKind.TheVariants as kind

-- the item of this kind and index
abbrev pub item_of : ItemKind → ℕ → Item
item_of kind.Import i = ImportItem i
item_of kind.Table i = TableItem i
item_of kind.Tag i = TagItem i
item_of kind.Global i = GlobalItem i
item_of kind.Element i = ElementItem i
item_of kind.Data i = DataItem i

-- how many of this kind the module has
abbrev pub count_of : Module → ItemKind → ℕ
count_of m kind.Import = length m.imports
count_of m kind.Table = length m.tables
count_of m kind.Tag = length m.tags
count_of m kind.Global = length m.globals
count_of m kind.Element = length m.elements
count_of m kind.Data = length m.datas
