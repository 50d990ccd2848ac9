-- The code of blocks and bodies does what is left of a body.
use Rattle.std.proofs.Common.{ℕ, List}
use Rattle.w_syntax.specs.Code.{Code}
use Rattle.w_reduce.specs.Terms.{Context}
use Rattle.s_syntax.specs.declared.script.Declaration.{Declaration}
use Rattle.s_syntax.specs.BlockTree.{BlockTree}
use Rattle.s_code.specs.Layouts.{Layout}
use Rattle.s_code.specs.Statements.{block, body}
use Rattle.s_meaning.specs.Steps.{◌⨟⨟◌}
use Rattle.s_agrees.proofs.StandsFor.{WellBlock, done, next, Rest, ends, does}

-- a block before the rest of a body
pub rest_block : {ds : List Declaration} {Γ : Layout} {n D0 D : ℕ} {f e : Context} {b rest : BlockTree} {c : Code} → WellBlock ds Γ n b → Rest ds Γ n D0 f D rest c e
    → Rest ds Γ n D0 f D (b ⨟⨟ rest) (block ds Γ D b c) e
rest_block done r = r
rest_block (next w v) r = does w (rest_block v r)

-- a body from its beginning
pub rest_body : {ds : List Declaration} {Γ : Layout} {n D0 : ℕ} {f : Context} {b : BlockTree} → WellBlock ds Γ n b → Rest ds Γ n D0 f D0 b (body ds Γ D0 b) f
rest_body done = ends
rest_body (next w v) = does w (rest_body v)
