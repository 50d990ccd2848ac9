-- What blocks take and give, and the labels inside them (Core, validation, control instructions).
use Rattle.std.specs.Prelude.{List, [], ◌∷◌, Option, Some, None}
use Rattle.w_types.specs.declared.types.ValType.{ValType}
use Rattle.lists.specs.Rows.{Row, ε}
use Rattle.w_rules.specs.Context.{Context, Arrow, arrow_of, label_of}
use Rattle.w_steps.specs.declared.frame_kind.FrameKind.{FrameKind}
use Rattle.w_steps.specs.declared.frame_kind.FrameKind.TheVariants as kind

abbrev pub body_arrow : Context → Arrow
body_arrow c = record { from = ε; to = c.results }

-- a body takes nothing, and gives the results
abbrev pub arrow_at : Context → FrameKind → Option Arrow
arrow_at c kind.Body = Some (body_arrow c)
arrow_at c (kind.Block b x) = arrow_of c x
arrow_at c (kind.Then x) = arrow_of c x
arrow_at c (kind.Else x) = arrow_of c x

abbrev pub label_in : (Arrow → Row ValType) → Option Arrow → Row ValType
label_in f (Some a) = f a
label_in f None = ε

abbrev pub to_of : Arrow → Row ValType
to_of a = a.to

-- what a branch to the block's label takes
abbrev pub label_at : Context → FrameKind → Row ValType
label_at c kind.Body = c.results
label_at c (kind.Block b x) = label_in (label_of b) (arrow_of c x)
label_at c (kind.Then x) = label_in to_of (arrow_of c x)
label_at c (kind.Else x) = label_in to_of (arrow_of c x)

abbrev pub labels_of : Context → List FrameKind → List (Row ValType)
labels_of c [] = []
labels_of c (k ∷ ks) = label_at c k ∷ labels_of c ks

-- the context inside these blocks
abbrev pub within : Context → List FrameKind → Context
within c ks = record c { labels = labels_of c ks }
