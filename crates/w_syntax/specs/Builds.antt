-- What a builder of a body stands for: the blocks that are open, and what is in the innermost one.
use Rattle.std.specs.Prelude.{◌≡◌, ℕ, ◌+◌, List, [], ◌∷◌, ◌++◌, Some, None}
use Rattle.w_syntax.specs.declared.instructions.Instr.{Instr}
use Rattle.w_syntax.specs.declared.instructions.Instr.TheVariants as flat
use Rattle.w_syntax.specs.declared.builder.Open.{Open}
use Rattle.w_syntax.specs.declared.builder.Open.TheVariants as opn
use Rattle.w_syntax.specs.declared.builder.BodyBuilder.{BodyBuilder}
use Rattle.w_syntax.specs.declared.builder.Progress.{Progress}
use Rattle.w_syntax.specs.declared.builder.Progress.TheVariants as stepped
use Rattle.w_syntax.specs.Code.{Code}
use Rattle.w_syntax.specs.Expr.{Path, Top, InBlock, InThen, InElse, Outcome, More, Finished, Wrong}
use Rattle.w_syntax.specs.Flat.{size, laid, whole}
use Rattle.w_syntax.specs.Packed.{unpacked_all}

-- how many instructions stand before the innermost open sequence
unfoldable pub place : Path → ℕ
place Top = 0
place (InBlock p d kind b) = place p + size d + 1
place (InThen p d b) = place p + size d + 1
place (InElse p d b x) = place p + size d + 2 + size x

-- these instructions; in the place of a block that is open stands an end
unfoldable pub open_laid : Path → List Instr
open_laid Top = []
open_laid (InBlock p d kind b) = (open_laid p ++ laid (place p) d) ++ flat.End ∷ []
open_laid (InThen p d b) = (open_laid p ++ laid (place p) d) ++ flat.End ∷ []
open_laid (InElse p d b x) = (open_laid p ++ laid (place p) d) ++ flat.End ∷ (laid (place p + size d + 1) x ++ flat.Else ∷ [])

unfoldable pub heads : Path → List Open
heads Top = []
heads (InBlock p d kind b) = heads p ++ opn.Block kind b (place p + size d) ∷ []
heads (InThen p d b) = heads p ++ opn.Then b (place p + size d) ∷ []
heads (InElse p d b x) = heads p ++ opn.Else b (place p + size d) (place p + size d + 1 + size x) ∷ []

pub record Builds (p : Path) (c : Code) (s : BodyBuilder) : Type 0 where
  pub code : unpacked_all s.code.items ≡ open_laid p ++ laid (place p) c
  pub opens : s.opens.items ≡ heads p

-- the builder has the whole of this body
pub record Holds (d : Code) (s : BodyBuilder) : Type 0 where
  pub code : unpacked_all s.code.items ≡ whole d

abbrev pub ProgressTo : Outcome → Progress → BodyBuilder → Type 0
ProgressTo (More p c) r s = (r ≡ stepped.More) × Builds p c s
ProgressTo (Finished c) r s = (r ≡ stepped.Finished) × Holds c s
ProgressTo Wrong r s = r ≡ stepped.Wrong

-- a block that is closed: its place, and its instruction with the place of its end
abbrev pub closed_of : Open → ℕ → ℕ × Instr
closed_of (opn.Block kind b h) e = (h, flat.Block kind b e)
closed_of (opn.Then b h) e = (h, flat.If b None e)
closed_of (opn.Else b h m) e = (h, flat.If b (Some m) e)
