-- What the items of an element segment stand for, as they are kept and as they are read.
use Rattle.std.specs.Prelude.{ℕ, List, map}
use Rattle.w_types.specs.declared.types.HeapType.{HeapType}
use Rattle.w_syntax.specs.Code.{Code, Done, Plain}
use Rattle.w_syntax.specs.declared.instructions.Op.TheVariants as op
use Rattle.w_syntax.specs.declared.instructions.ReferenceOp.TheVariants as reference
use Rattle.w_syntax.specs.declared.items.ItemForm.{ItemForm}
use Rattle.w_syntax.specs.declared.items.ItemForm.TheVariants as kept
use Rattle.w_syntax.specs.declared.items.ItemsForm.{ItemsForm}
use Rattle.w_syntax.specs.declared.items.ItemsForm.TheVariants as all
use Rattle.w_syntax.specs.declared.items.ItemView.{ItemView}
use Rattle.w_syntax.specs.declared.items.ItemView.TheVariants as seen

-- `ref.func x`, and no more
abbrev pub reference_to : ℕ → Code
reference_to x = Plain (op.Reference (reference.Func x)) Done

-- `ref.null h`, and no more
abbrev pub null_of : HeapType → Code
null_of h = Plain (op.Reference (reference.Null h)) Done

-- the item that is kept so
abbrev pub code_of_form : ItemForm → Code
code_of_form (kept.Function x) = reference_to x
code_of_form (kept.Null h) = null_of h
code_of_form (kept.Expression body) = body.value

-- the items that are kept so
abbrev pub codes_of_form : ItemsForm → List Code
codes_of_form (all.Functions xs) = map reference_to xs
codes_of_form (all.Mixed items) = items

-- the item that is seen so
abbrev pub code_of : ItemView → Code
code_of (seen.Function x) = reference_to x
code_of (seen.Null h) = null_of h
code_of (seen.Expression body) = body.now
