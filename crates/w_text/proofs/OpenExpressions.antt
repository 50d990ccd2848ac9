-- A line where an expression is open.
use Rattle.std.proofs.Common.{◌≡◌, ℕ, Bool, false, Result, Ok, Err, refl, sym, subst, ◌∙◌}
use Rattle.std.specs.Prelude.{IfOk}
use Rattle.std.specs.declared.alloc.AllocError.{AllocError}
use Rattle.w_syntax.specs.declared.builder.BodyBuilder.{BodyBuilder}
use Rattle.w_syntax.specs.declared.builder.Progress.{Progress}
use Rattle.w_syntax.specs.declared.builder.Progress.TheVariants as progress
use Rattle.w_syntax.specs.declared.instructions.Token.{Token}
use Rattle.w_syntax.specs.declared.module.Module.{Module}
use Rattle.w_syntax.specs.Builds.{Builds, ProgressTo}
use Rattle.w_syntax.specs.Code.{Code}
use Rattle.w_syntax.specs.Expr.{Path, Outcome, More, Finished, Wrong, step as token_step}
use Rattle.w_lines.specs.declared.line.Line.{Line}
use Rattle.w_lines.specs.declared.line.Line.TheVariants as line
use Rattle.w_text.specs.declared.assembly.Assembly.{Assembly}
use Rattle.w_text.specs.declared.pending.Pending.{Pending}
use Rattle.w_text.specs.declared.pending.Open.{Open as CodeOpen}
use Rattle.w_text.specs.declared.pending.Open.TheVariants as opened
use Rattle.w_text.specs.Machine.{Open, Between, InGroup, InLocals, InExprs, Opens, placed, next, in_exprs, expr_on}
use Rattle.w_text.specs.Standing.{head_of, left_of, exprs_of, IsOpen, IsClosed, closed_next}
use Rattle.w_text.specs.Assembled.{SteppedTo}

module _ (w : CodeOpen) (what : Pending) (b : BodyBuilder) (is : w ≡ opened.Expression what b) (k : ℕ) (m : Module) where
  -- what comes of a line in the expression comes of it for each state that this stands for
  abbrev Leads : Line → Bool → Assembly → Type 0
  Leads l r a = (p : Path) (c : Code) → Builds p c b → SteppedTo (placed k m (in_exprs (head_of what) (left_of what) (exprs_of what) p c l)) r a

  by_open : (l : Line) (r : Bool) (a : Assembly) → Leads l r a → (o : Open) → IsOpen o (opened.Expression what b) → SteppedTo (placed k m (next o l)) r a
  unfolding next
  by_open l r a f Between i = elim i [ ]
  by_open l r a f (InGroup n ts) i = elim i [ ]
  by_open l r a f (InLocals x ls) i = elim i [ ]
  by_open l r a f (InExprs h n cs p c) i = rw (i.0, i.1, i.2) (f p c i.3)

  leads : (l : Line) (r : Bool) (a : Assembly) → Leads l r a → (o : Open) → IsOpen o w → SteppedTo (placed k m (next o l)) r a
  leads l r a f o i = by_open l r a f o (subst (IsOpen o) is i)

  -- no line but a token goes on with it
  no_token : (a : Assembly) (l : Line) → ((t : Token) → l ≡ line.Token t → ⊥) → Leads l false a
  no_token a line.Module none p c s = refl
  no_token a (line.Group n) none p c s = refl
  no_token a (line.Type t) none p c s = refl
  no_token a (line.Import i) none p c s = refl
  no_token a (line.Table t x) none p c s = refl
  no_token a (line.Memory l) none p c s = refl
  no_token a (line.Tag t) none p c s = refl
  no_token a (line.Global g) none p c s = refl
  no_token a (line.Export e) none p c s = refl
  no_token a (line.Start x) none p c s = refl
  no_token a (line.Elements x r n) none p c s = refl
  no_token a (line.Data o x) none p c s = refl
  no_token a (line.Function x) none p c s = refl
  no_token a (line.Local r) none p c s = refl
  no_token a (line.Token t) none p c s = absurd (none t refl)

  pub otherwise : (a : Assembly) (l : Line) → ((t : Token) → l ≡ line.Token t → ⊥) → (o : Open) → IsOpen o w → SteppedTo (placed k m (next o l)) false a
  otherwise a l none = leads l false a (no_token a l none)

  -- what came of a token
  module _ (l : Line) (t : Token) (token : l ≡ line.Token t) (d : BodyBuilder) (came : Progress) (came_so : (p : Path) (c : Code) → Builds p c b → ProgressTo (token_step p c t) came d) where
    -- by what the definition has of it
    abbrev By : (Outcome → Type 0) → Type 0
    By Q = (x : Outcome) → ProgressTo x came d → Q x

    abbrev On : Bool → Assembly → Outcome → Type 0
    On r a x = SteppedTo (placed k m (expr_on (head_of what) (left_of what) (exprs_of what) x)) r a

    token_leads : (r : Bool) (a : Assembly) → By (On r a) → (o : Open) → IsOpen o w → SteppedTo (placed k m (next o l)) r a
    token_leads r a f o i = subst (λ (x : Line). SteppedTo (placed k m (next o x)) r a) (sym token) (leads (line.Token t) r a (λ p c s. f (token_step p c t) (came_so p c s)) o i)

    -- the expression goes on
    pub goes_on : came ≡ progress.More → (r : Bool) (a : Assembly) → ((o : Open) → IsOpen o (opened.Expression what d) → SteppedTo (placed k m (Opens o)) r a) → (o : Open) → IsOpen o w → SteppedTo (placed k m (next o l)) r a
    goes_on e r a f = token_leads r a by
      where
        by : (x : Outcome) → ProgressTo x came d → On r a x
        by (More p c) g = f (InExprs (head_of what) (left_of what) (exprs_of what) p c) (refl, refl, refl, g.1)
        by (Finished c) g = let no = sym e ∙ g.0 in absurd cc
        by Wrong g = let no = sym e ∙ g in absurd cc

    -- no expression goes on so
    pub is_wrong : came ≡ progress.Wrong → (a : Assembly) → (o : Open) → IsOpen o w → SteppedTo (placed k m (next o l)) false a
    is_wrong e a = token_leads false a by
      where
        by : (x : Outcome) → ProgressTo x came d → On false a x
        by (More p c) g = let no = sym e ∙ g.0 in absurd cc
        by (Finished c) g = let no = sym e ∙ g.0 in absurd cc
        by Wrong g = refl

    -- the expression has ended
    pub is_closed : came ≡ progress.Finished → (result : Result Bool AllocError) (a : Assembly) → IfOk result (λ r. (c : Code) → IsClosed c (opened.Expression what d) → SteppedTo (placed k m (closed_next (opened.Expression what d) c)) r a)
        → IfOk result (λ r. (o : Open) → IsOpen o w → SteppedTo (placed k m (next o l)) r a)
    is_closed e (Err x) a h = tt
    is_closed e (Ok r) a h = token_leads r a by
      where
        by : (x : Outcome) → ProgressTo x came d → On r a x
        by (More p c) g = let no = sym e ∙ g.0 in absurd cc
        by (Finished c) g = h c g.1
        by Wrong g = let no = sym e ∙ g in absurd cc
