-- What a step of a body's loop leaves.
use Rattle.std.proofs.Common.{◌≡◌, ℕ, ◌<◌, ◌≤◌, List, length, drop, Some, None, refl, arith}
use Rattle.std.proofs.lemmas.List.{length-drop}
use Rattle.w_syntax.specs.declared.builder.BodyBuilder.{BodyBuilder}
use Rattle.w_syntax.specs.declared.builder.Progress.TheVariants as stepped
use Rattle.w_syntax.specs.declared.instructions.Token.{Token}
use Rattle.w_syntax.specs.Code.{Code, Done}
use Rattle.w_syntax.specs.Tokens.{token}
use Rattle.w_syntax.specs.Expr.{Path, Top, Outcome, More, Finished, Wrong, read_code, read_expr}
use Rattle.w_syntax.specs.ExprLaws.{none_left, token_shorter}
use Rattle.w_syntax.specs.Builds.{Builds, ProgressTo, Holds}

pub to_more : (o : Outcome) (s : BodyBuilder) → ProgressTo o stepped.More s → (q : Path) × (d : Code) × (o ≡ More q d) × Builds q d s
to_more (More q d) s h = (q, d, refl, h.1)
to_more (Finished d) s h = let e = h.0 in absurd cc
to_more Wrong s h = absurd cc

pub to_finished : (o : Outcome) (s : BodyBuilder) → ProgressTo o stepped.Finished s → (d : Code) × (o ≡ Finished d) × Holds d s
to_finished (More q d) s h = let e = h.0 in absurd cc
to_finished (Finished d) s h = (d, refl, h.1)
to_finished Wrong s h = absurd cc

pub to_wrong : (o : Outcome) (s : BodyBuilder) → ProgressTo o stepped.Wrong s → o ≡ Wrong
to_wrong (More q d) s h = let e = h.0 in absurd cc
to_wrong (Finished d) s h = let e = h.0 in absurd cc
to_wrong Wrong s h = refl

pub reads_start : (bytes : List ℕ) → read_code (length bytes) Top Done bytes ≡ read_expr bytes
unfolding read_expr
reads_start bytes = refl

-- a token moves on
pub moves : (bytes : List ℕ) (at next : ℕ) (t : Token) → token.read (drop at bytes) ≡ Some (t, drop next bytes) → next ≤ length bytes → at < next
moves bytes at next t e le = omega (arith, token_shorter (drop at bytes) t (drop next bytes) e, length-drop at bytes, length-drop next bytes)

pub past : (n at : ℕ) (p : Path) (c : Code) (bytes : List ℕ) → length bytes ≤ at → read_code n p c (drop at bytes) ≡ None
past n at p c bytes le = none_left n p c (drop at bytes) (omega (arith, length-drop at bytes))
