use Rattle.std.proofs.Common.{◌≡◌, ◌∙◌, ◌∷◌, [], List, reverse, sym, ap, subst}
use Rattle.std.proofs.lemmas.List.{reverse-append}
use Rattle.w_syntax.specs.Builds.{ProgressTo}
use Rattle.w_syntax.specs.Code.{Code, Done}
use Rattle.w_syntax.specs.Expr.{Top, More, Outcome, step, tokens}
use Rattle.w_syntax.specs.declared.instructions.Token.{Token}
use Rattle.s_code.proofs.BuiltFromTokens.{walk_on, walk_whole, goes_on}
use Rattle.s_code.proofs.body.built.Goals as goal

pub loop-token-init : goal.loop-token-init
loop-token-init c = record { path = Top; code = Done; builds = c.in_ok-builder.ensures; rest = λ k e. ap (walk_on (More Top Done)) e ∙ walk_whole k }

pub loop-token-preserved : goal.loop-token-preserved
loop-token-preserved c =
    let p = c.loop-token.invariant.path in
    let d = c.loop-token.invariant.code in
    let t = c.in-Some.token in
    let left : reverse c.loop-token.backwards.items ≡ t ∷ reverse c.pop.new.self.items = ap (λ (ts : List Token). reverse ts) c.in-Some.ensures.items ∙ reverse-append c.pop.new.self.items (t ∷ []) in
    let on : (k : Code) → reverse c.args.backwards.items ≡ tokens k → walk_on (step p d t) (reverse c.pop.new.self.items) ≡ More Top k = λ k e. ap (walk_on (More p d)) (sym left) ∙ c.loop-token.invariant.rest k e in
    let g = goes_on (step p d t) (reverse c.pop.new.self.items) Top c.requires.0 (on c.requires.0 c.requires.1) in
    let now = subst (λ (o : Outcome). ProgressTo o c.in_ok-push.field-0 c.push.new.self) g.2 (c.in_ok-push.ensures p d c.loop-token.invariant.builds) in
    record {
      path = g.0;
      code = g.1;
      builds = now.1;
      rest = λ k e. ap (λ (o : Outcome). walk_on o (reverse c.pop.new.self.items)) (sym g.2) ∙ on k e;
    }
