-- A builder that takes the tokens of a body comes to the body.
use Rattle.std.proofs.Common.{◌≡◌, List, [], ◌∷◌, ◌++◌, refl, sym, ap, ◌∙◌, append_assoc, reverse}
use Rattle.std.proofs.lemmas.List.{append-nil, reverse-reverse}
use Rattle.w_syntax.specs.declared.instructions.Token.{Token}
use Rattle.w_syntax.specs.declared.instructions.Token.TheVariants as tok
use Rattle.w_syntax.specs.declared.builder.BodyBuilder.{BodyBuilder}
use Rattle.w_syntax.specs.declared.builder.Progress.{Progress}
use Rattle.w_syntax.specs.Builds.{Builds, Holds, ProgressTo}
use Rattle.w_syntax.specs.Code.{Code, Done, Plain, Block, If, IfElse, after}
use Rattle.w_syntax.specs.Expr.{Path, Top, InBlock, InThen, InElse, Outcome, More, Finished, Wrong, step, tokens}

-- one token after another
abbrev pub walk_on : Outcome → List Token → Outcome
walk_on o [] = o
walk_on (More p c) (t ∷ ts) = walk_on (step p c t) ts
walk_on (Finished c) (t ∷ ts) = Wrong
walk_on Wrong (t ∷ ts) = Wrong

finished_stays : (d : Code) (ts : List Token) (p : Path) (c : Code) → walk_on (Finished d) ts ≡ More p c → ⊥
finished_stays d [] p c e = absurd (cc)
finished_stays d (t ∷ ts) p c e = absurd (cc)

wrong_stays : (ts : List Token) (p : Path) (c : Code) → walk_on Wrong ts ≡ More p c → ⊥
wrong_stays [] p c e = absurd (cc)
wrong_stays (t ∷ ts) p c e = absurd (cc)

-- where it goes on in the end, it goes on before
pub goes_on : (o : Outcome) (ts : List Token) (q : Path) (d : Code) → walk_on o ts ≡ More q d → (p : Path) × (c : Code) × (o ≡ More p c)
goes_on (More p c) ts q d e = (p, c, refl)
goes_on (Finished c) ts q d e = absurd (finished_stays c ts q d e)
goes_on Wrong ts q d e = absurd (wrong_stays ts q d e)

after_assoc : (c d e : Code) → after (after c d) e ≡ after c (after d e)
unfolding after
after_assoc Done d e = refl
after_assoc (Plain o r) d e = ap (λ (k : Code). Plain o k) (after_assoc r d e)
after_assoc (Block kind b x r) d e = ap (λ (k : Code). Block kind b x k) (after_assoc r d e)
after_assoc (If b x r) d e = ap (λ (k : Code). If b x k) (after_assoc r d e)
after_assoc (IfElse b x y r) d e = ap (λ (k : Code). IfElse b x y k) (after_assoc r d e)

after_done : (c : Code) → after c Done ≡ c
unfolding after
after_done Done = refl
after_done (Plain o r) = ap (λ (k : Code). Plain o k) (after_done r)
after_done (Block kind b x r) = ap (λ (k : Code). Block kind b x k) (after_done r)
after_done (If b x r) = ap (λ (k : Code). If b x k) (after_done r)
after_done (IfElse b x y r) = ap (λ (k : Code). IfElse b x y k) (after_done r)

-- the tokens of c, and others
walk_code : (c : Code) (p : Path) (d : Code) (ts : List Token) → walk_on (More p d) (tokens c ++ ts) ≡ walk_on (More p (after d c)) ts
unfolding tokens step after
walk_code Done p d ts = ap (λ (k : Code). walk_on (More p k) ts) (sym (after_done d))
walk_code (Plain o r) p d ts = walk_code r p (after d (Plain o Done)) ts ∙ ap (λ (k : Code). walk_on (More p k) ts) (after_assoc d (Plain o Done) r)
walk_code (Block kind b x r) p d ts =
    ap (λ (us : List Token). walk_on (More (InBlock p d kind b) Done) us) (append_assoc (tokens x) (tok.End ∷ tokens r) ts)
    ∙ walk_code x (InBlock p d kind b) Done (tok.End ∷ (tokens r ++ ts))
    ∙ walk_code r p (after d (Block kind b x Done)) ts ∙ ap (λ (k : Code). walk_on (More p k) ts) (after_assoc d (Block kind b x Done) r)
walk_code (If b x r) p d ts =
    ap (λ (us : List Token). walk_on (More (InThen p d b) Done) us) (append_assoc (tokens x) (tok.End ∷ tokens r) ts)
    ∙ walk_code x (InThen p d b) Done (tok.End ∷ (tokens r ++ ts))
    ∙ walk_code r p (after d (If b x Done)) ts ∙ ap (λ (k : Code). walk_on (More p k) ts) (after_assoc d (If b x Done) r)
walk_code (IfElse b x y r) p d ts =
    ap (λ (us : List Token). walk_on (More (InThen p d b) Done) us) (append_assoc (tokens x) (tok.Else ∷ (tokens y ++ tok.End ∷ tokens r)) ts)
    ∙ walk_code x (InThen p d b) Done (tok.Else ∷ ((tokens y ++ tok.End ∷ tokens r) ++ ts))
    ∙ ap (λ (us : List Token). walk_on (More (InElse p d b x) Done) us) (append_assoc (tokens y) (tok.End ∷ tokens r) ts)
    ∙ walk_code y (InElse p d b x) Done (tok.End ∷ (tokens r ++ ts))
    ∙ walk_code r p (after d (IfElse b x y Done)) ts ∙ ap (λ (k : Code). walk_on (More p k) ts) (after_assoc d (IfElse b x y Done) r)

-- from the beginning to the whole body
pub walk_whole : (c : Code) → walk_on (More Top Done) (tokens c) ≡ More Top c
unfolding after
walk_whole c = ap (λ (ts : List Token). walk_on (More Top Done) ts) (sym (append-nil (tokens c))) ∙ walk_code c Top Done []

-- the end behind a whole body
finished : (c : Code) (r : Progress) (s : BodyBuilder) → ProgressTo (step Top c tok.End) r s → Holds c s
unfolding step
finished c r s h = h.1

-- a builder that has taken the tokens of a body, and the end
pub held : (ts us : List Token) (b s : BodyBuilder) (r : Progress) → us ≡ reverse ts → ((c : Code) → reverse us ≡ tokens c → Builds Top c b)
    → ((p : Path) (c : Code) → Builds p c b → ProgressTo (step p c tok.End) r s) → (d : Code) → ts ≡ tokens d → Holds d s
held ts us b s r turned taken ended d e = finished d r s (ended Top d (taken d (ap (λ (vs : List Token). reverse vs) turned ∙ reverse-reverse ts ∙ e)))
