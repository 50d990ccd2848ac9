use Rattle.std.proofs.Common.{◌≡◌, vec_len, reverse}
use Rattle.w_syntax.specs.Builds.{Builds}
use Rattle.w_syntax.specs.Code.{Code}
use Rattle.w_syntax.specs.Expr.{Path, Top, More, tokens}
use Rattle.s_code.proofs.BuiltFromTokens.{walk_on}
use Rattle.s_code.proofs.body.built.Given as goal

abbrev pub decreases-loop-token : goal.decreases-loop-token
decreases-loop-token l = vec_len l.backwards

abbrev pub invariant-loop-token : goal.invariant-loop-token
invariant-loop-token l = record {
  path : Path;
  code : Code;
  builds : Builds path code l.builder;
  rest : (c : Code) → reverse l.fn.backwards.items ≡ tokens c → walk_on (More path code) (reverse l.backwards.items) ≡ More Top c;
}
