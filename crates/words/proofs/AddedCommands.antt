-- Commands that are added one by one.
use Rattle.std.proofs.Common.{◌≡◌, Result, Ok, Err, ap, ◌∙◌, false}
use Rattle.std.specs.Prelude.{IfOk, IsOkAnd}
use Rattle.clap.specs.declared.builder.command.Command.{Command}
use Rattle.clap.specs.declared.builder.command.Command.TheViews.{out-Command}
use Rattle.clap.specs.Simple.{App, app_of, with_subcommand}

module _ {E : Type 0} (top : Command) (made : Result Command E) (a : App) (is : IfOk made (λ d. app_of d ≡ a)) (local : IfOk made (λ d. (out-Command d).has_globals ≡ false)) where
  -- what a command is once the one that was made is added
  pub added : (c : Command) → IsOkAnd made (λ d. (out-Command d).has_globals ≡ false → app_of c ≡ with_subcommand (app_of top) (app_of d).top) → app_of c ≡ with_subcommand (app_of top) a.top
  added c h = by made is local h
    where
      by : (r : Result Command E) → IfOk r (λ d. app_of d ≡ a) → IfOk r (λ d. (out-Command d).has_globals ≡ false) → IsOkAnd r (λ d. (out-Command d).has_globals ≡ false → app_of c ≡ with_subcommand (app_of top) (app_of d).top) → app_of c ≡ with_subcommand (app_of top) a.top
      by (Ok d) i l k = k l ∙ ap (λ (b : App). with_subcommand (app_of top) b.top) i
      by (Err e) i l k = absurd k
