-- An expression is read exactly.
use Rattle.std.proofs.Common.{◌≡◌, ℕ, zero, suc, ◌-◌, ◌<◌, ◌≤◌, List, [], ◌∷◌, ◌++◌, length, Option, Some, None, refl, sym, ap, subst, ◌∙◌, append_assoc, arith}
use Rattle.std.proofs.lemmas.List.{append-nil, length-append}
use Rattle.w_leb.specs.Format.{Reading, IsExact, Each, then}
use Rattle.w_leb.specs.FormatLaws.{then_some, some_parts, each_nil, each_cons, joined}
use Rattle.w_syntax.specs.declared.instructions.BlockKind.{BlockKind}
use Rattle.w_syntax.specs.declared.instructions.BlockType.{BlockType}
use Rattle.w_syntax.specs.declared.instructions.Token.{Token}
use Rattle.w_syntax.specs.declared.instructions.Token.TheVariants as tok
use Rattle.w_syntax.specs.Tokens.{token, token_solid}
use Rattle.w_syntax.specs.Code.{Code, Done, Plain, Block, If, IfElse, after}
use Rattle.w_syntax.specs.Expr.{tokens, Expr, Path, Top, InBlock, InThen, InElse, Outcome, More, Finished, Wrong, step, read_code, read_expr}

pub after-done : (c : Code) → after c Done ≡ c
unfolding after
after-done Done = refl
after-done (Plain o r) = ap (Plain o) (after-done r)
after-done (Block kind b x r) = ap (Block kind b x) (after-done r)
after-done (If b x r) = ap (If b x) (after-done r)
after-done (IfElse b x y r) = ap (IfElse b x y) (after-done r)

pub after_assoc : (c d e : Code) → after (after c d) e ≡ after c (after d e)
unfolding after
after_assoc Done d e = refl
after_assoc (Plain o r) d e = ap (Plain o) (after_assoc r d e)
after_assoc (Block kind b x r) d e = ap (Block kind b x) (after_assoc r d e)
after_assoc (If b x r) d e = ap (If b x) (after_assoc r d e)
after_assoc (IfElse b x y r) d e = ap (IfElse b x y) (after_assoc r d e)

pub tokens-after : (c d : Code) → tokens (after c d) ≡ tokens c ++ tokens d
unfolding after tokens
tokens-after Done d = refl
tokens-after (Plain o r) d = rw (tokens-after r d) refl
tokens-after (Block kind b x r) d = simp (tokens-after r d, append_assoc)
tokens-after (If b x r) d = simp (tokens-after r d, append_assoc)
tokens-after (IfElse b x y r) d = simp (tokens-after r d, append_assoc)

-- ## what is read is spelled so

-- the tokens before a place
unfoldable pub opened : Path → List Token
opened Top = []
opened (InBlock p d kind b) = opened p ++ (tokens d ++ tok.Block kind b ∷ [])
opened (InThen p d b) = opened p ++ (tokens d ++ tok.If b ∷ [])
opened (InElse p d b x) = opened p ++ (tokens d ++ tok.If b ∷ (tokens x ++ tok.Else ∷ []))

abbrev pub Follows : List Token → Token → Outcome → Type 0
Follows ts t (More q d) = opened q ++ tokens d ≡ ts ++ t ∷ []
Follows ts t (Finished d) = ts ++ t ∷ [] ≡ tokens d ++ tok.End ∷ []
Follows ts t Wrong = Unit {0}

pub step_follows : (p : Path) (c : Code) (t : Token) → Follows (opened p ++ tokens c) t (step p c t)
unfolding step opened tokens
step_follows p c (tok.Plain o) = simp (tokens-after c (Plain o Done), append_assoc)
step_follows p c (tok.Block kind b) = simp (append_assoc, append-nil)
step_follows p c (tok.If b) = simp (append_assoc, append-nil)
step_follows Top c tok.Else = tt
step_follows (InBlock p d kind b) c tok.Else = tt
step_follows (InThen p d b) c tok.Else = simp (append_assoc, append-nil)
step_follows (InElse p d b x) c tok.Else = tt
step_follows Top c tok.End = refl
step_follows (InBlock p d kind b) c tok.End = simp (tokens-after d (Block kind b c Done), append_assoc)
step_follows (InThen p d b) c tok.End = simp (tokens-after d (If b c Done), append_assoc)
step_follows (InElse p d b x) c tok.End = simp (tokens-after d (IfElse b x c Done), append_assoc)

abbrev pub onward : ℕ → Outcome → Reading Code
onward n o rest = elim o [ More q d ↦ read_code n q d rest | Finished d ↦ Some (d, rest) | Wrong ↦ None ]

-- the tokens that were still read
record Reads (ts : List Token) (bytes : List ℕ) (d : Code) (rest : List ℕ) : Type 0 where
  more : List Token
  b : List ℕ
  parts : bytes ≡ b ++ rest
  each : Each token.Spells b more
  all : ts ++ more ≡ tokens d ++ tok.End ∷ []

goes_on : (n : ℕ) (ts : List Token) (t : Token) (o : Outcome) (bytes : List ℕ) (d : Code) (rest : List ℕ) → Follows ts t o → onward n o bytes ≡ Some (d, rest)
    → ((p : Path) (c : Code) → read_code n p c bytes ≡ Some (d, rest) → Reads (opened p ++ tokens c) bytes d rest)
    → Reads (ts ++ t ∷ []) bytes d rest
goes_on n ts t (More q e) bytes d rest f h again = subst (λ (us : List Token). Reads us bytes d rest) f (again q e h)
goes_on n ts t (Finished e) bytes d rest f h again =
    let same = some_parts e d bytes rest h in
    record { more = []; b = []; parts = same.1; each = each_nil token.Spells; all = append-nil (ts ++ t ∷ []) ∙ f ∙ ap (λ (x : Code). tokens x ++ tok.End ∷ []) same.0 }
goes_on n ts t Wrong bytes d rest f h again = absurd cc

read_sound : (n : ℕ) (p : Path) (c : Code) (bytes : List ℕ) (d : Code) (rest : List ℕ) → read_code n p c bytes ≡ Some (d, rest) → Reads (opened p ++ tokens c) bytes d rest
unfolding read_code
read_sound zero p c bytes d rest e = absurd cc
read_sound (suc n) p c bytes d rest e =
    let a = then_some (token.read bytes) (λ t rest. onward n (step p c t) rest) d rest e in
    let s = token.exact.sound bytes a.0 a.1 a.2 in
    let m = goes_on n (opened p ++ tokens c) a.0 (step p c a.0) a.1 d rest (step_follows p c a.0) a.3 (λ q e h. read_sound n q e a.1 d rest h) in
    record {
      more = a.0 ∷ m.more;
      b = s.0 ++ m.b;
      parts = joined bytes s.0 m.b a.1 rest rest s.1 m.parts refl;
      each = each_cons token.Spells s.0 m.b a.0 m.more s.2 m.each;
      all = sym (append_assoc (opened p ++ tokens c) (a.0 ∷ []) m.more) ∙ m.all;
    }

-- ## what is spelled is read

-- the tokens up to the last end
unfoldable run : Path → Code → List Token → Outcome
run p c [] = More p c
run p c (t ∷ ts) = elim (step p c t) [ More q d ↦ run q d ts | Finished d ↦ elim ts [ [] ↦ Finished d | u ∷ us ↦ Wrong ] | Wrong ↦ Wrong ]

regroup : (c d r e : Code) → after d r ≡ e → after (after c d) r ≡ after c e
regroup c d r e h = after_assoc c d r ∙ ap (after c) h

one_plain : (o : _) (r : Code) → after (Plain o Done) r ≡ Plain o r
unfolding after
one_plain o r = refl

one_block : (kind : BlockKind) (b : BlockType) (x r : Code) → after (Block kind b x Done) r ≡ Block kind b x r
unfolding after
one_block kind b x r = refl

one_if : (b : BlockType) (x r : Code) → after (If b x Done) r ≡ If b x r
unfolding after
one_if b x r = refl

one_else : (b : BlockType) (x y r : Code) → after (IfElse b x y Done) r ≡ IfElse b x y r
unfolding after
one_else b x y r = refl

nothing_first : (x : Code) → after Done x ≡ x
unfolding after
nothing_first x = refl

run_tokens : (e : Code) (p : Path) (c : Code) (ts : List Token) → run p c (tokens e ++ ts) ≡ run p (after c e) ts
unfolding run tokens step
run_tokens Done p c ts = ap (λ (x : Code). run p x ts) (sym (after-done c))
run_tokens (Plain o r) p c ts = run_tokens r p (after c (Plain o Done)) ts ∙ ap (λ (x : Code). run p x ts) (regroup c (Plain o Done) r (Plain o r) (one_plain o r))
run_tokens (Block kind b x r) p c ts =
    let q = InBlock p c kind b in
    ap (run q Done) (append_assoc (tokens x) (tok.End ∷ tokens r) ts)
    ∙ run_tokens x q Done (tok.End ∷ (tokens r ++ ts))
    ∙ ap (λ (y : Code). run q y (tok.End ∷ (tokens r ++ ts))) (nothing_first x)
    ∙ run_tokens r p (after c (Block kind b x Done)) ts
    ∙ ap (λ (y : Code). run p y ts) (regroup c (Block kind b x Done) r (Block kind b x r) (one_block kind b x r))
run_tokens (If b x r) p c ts =
    let q = InThen p c b in
    ap (run q Done) (append_assoc (tokens x) (tok.End ∷ tokens r) ts)
    ∙ run_tokens x q Done (tok.End ∷ (tokens r ++ ts))
    ∙ ap (λ (y : Code). run q y (tok.End ∷ (tokens r ++ ts))) (nothing_first x)
    ∙ run_tokens r p (after c (If b x Done)) ts
    ∙ ap (λ (y : Code). run p y ts) (regroup c (If b x Done) r (If b x r) (one_if b x r))
run_tokens (IfElse b x y r) p c ts =
    let q = InThen p c b in
    let s = InElse p c b x in
    let e : (tokens x ++ tok.Else ∷ (tokens y ++ tok.End ∷ tokens r)) ++ ts ≡ tokens x ++ tok.Else ∷ (tokens y ++ tok.End ∷ (tokens r ++ ts)) = simp append_assoc in
    ap (run q Done) e
    ∙ run_tokens x q Done (tok.Else ∷ (tokens y ++ tok.End ∷ (tokens r ++ ts)))
    ∙ ap (λ (z : Code). run q z (tok.Else ∷ (tokens y ++ tok.End ∷ (tokens r ++ ts)))) (nothing_first x)
    ∙ run_tokens y s Done (tok.End ∷ (tokens r ++ ts))
    ∙ ap (λ (z : Code). run s z (tok.End ∷ (tokens r ++ ts))) (nothing_first y)
    ∙ run_tokens r p (after c (IfElse b x y Done)) ts
    ∙ ap (λ (z : Code). run p z ts) (regroup c (IfElse b x y Done) r (IfElse b x y r) (one_else b x y r))

run_all : (d : Code) → run Top Done (tokens d ++ tok.End ∷ []) ≡ Finished d
unfolding run step
run_all d = run_tokens d Top Done (tok.End ∷ []) ∙ ap (λ (x : Code). run Top x (tok.End ∷ [])) (nothing_first d)

read_finished : (n : ℕ) (o : Outcome) (ts : List Token) (b : List ℕ) (d : Code) (rest : List ℕ) → Each token.Spells b ts
    → elim o [ More q e ↦ run q e ts | Finished e ↦ elim ts [ [] ↦ Finished e | u ∷ us ↦ Wrong ] | Wrong ↦ Wrong ] ≡ Finished d
    → ((q : Path) (e : Code) → run q e ts ≡ Finished d → read_code n q e (b ++ rest) ≡ Some (d, rest))
    → onward n o (b ++ rest) ≡ Some (d, rest)
unfolding Each
read_finished n (More q e) ts b d rest each h again = again q e h
read_finished n (Finished e) [] b d rest each h again =
    let same : e ≡ d = cc in
    rw (each, same) refl
read_finished n (Finished e) (u ∷ us) b d rest each h again = absurd cc
read_finished n Wrong ts b d rest each h again = absurd cc

read_complete : (ts : List Token) (n : ℕ) (p : Path) (c : Code) (b : List ℕ) (d : Code) (rest : List ℕ) → length ts ≤ n → Each token.Spells b ts → run p c ts ≡ Finished d → read_code n p c (b ++ rest) ≡ Some (d, rest)
unfolding read_code run Each
read_complete [] n p c b d rest le each h = absurd cc
read_complete (t ∷ ts) zero p c b d rest le each h = absurd (omega arith)
read_complete (t ∷ ts) (suc n) p c b d rest le each h =
    let first : token.read (b ++ rest) ≡ Some (t, each.1 ++ rest) = ap token.read (ap (λ (l : List ℕ). l ++ rest) each.2 ∙ append_assoc each.0 each.1 rest) ∙ token.exact.complete each.0 t (each.1 ++ rest) each.3 in
    rw first (read_finished n (step p c t) ts each.1 d rest each.4 h (λ q e k. read_complete ts n q e each.1 d rest (omega arith) each.4 k))

long : (b a r : List ℕ) (t : Token) (ts : List Token) → b ≡ a ++ r → token.Spells a t → length ts ≤ length r → suc (length ts) ≤ length b
long b [] r t ts e h le = absurd (token_solid t h)
long b (k ∷ a) r t ts e h le = omega (arith, ap length e, length-append a r)

pub each_long : (b : List ℕ) (ts : List Token) → Each token.Spells b ts → length ts ≤ length b
unfolding Each
each_long b [] h = omega arith
each_long b (t ∷ ts) h = long b h.0 h.1 t ts h.2 h.3 (each_long h.1 ts h.4)

pub expr_exact : IsExact Expr read_expr
unfolding Expr read_expr opened tokens
expr_exact = record {
  sound = λ bytes d rest e. let m = read_sound (length bytes) Top Done bytes d rest e in (m.b, m.parts, subst (Each token.Spells m.b) m.all m.each);
  complete = λ b d rest h.
      read_complete (tokens d ++ tok.End ∷ []) (length (b ++ rest)) Top Done b d rest (omega (arith, each_long b (tokens d ++ tok.End ∷ []) h, length-append b rest)) h (run_all d);
}

-- ## how much is read at most doesn't matter

pub token_shorter : (bytes : List ℕ) (t : Token) (rest : List ℕ) → token.read bytes ≡ Some (t, rest) → length rest < length bytes
token_shorter bytes t rest e =
    let s = token.exact.sound bytes t rest e in
    let n = long s.0 s.0 [] t [] (sym (append-nil s.0)) s.2 (omega arith) in
    omega (arith, ap length s.1, length-append s.0 rest, n)

same_then : {A B : Type 0} (o : Option (A × List ℕ)) (k l : A → Reading B) → ((x : A) (r : List ℕ) → o ≡ Some (x, r) → k x r ≡ l x r) → then o k ≡ then o l
same_then None k l h = refl
same_then (Some p) k l h = h p.0 p.1 refl

same_onward : (m n : ℕ) (o : Outcome) (rest : List ℕ) → ((p : Path) (c : Code) → read_code m p c rest ≡ read_code n p c rest) → onward m o rest ≡ onward n o rest
same_onward m n (More q d) rest h = h q d
same_onward m n (Finished d) rest h = refl
same_onward m n Wrong rest h = refl

no_token : (bytes : List ℕ) → length bytes ≤ 0 → token.read bytes ≡ None
unfolding token
no_token [] h = refl
no_token (k ∷ bytes) h = absurd (omega arith)

pub enough : (m n : ℕ) (p : Path) (c : Code) (bytes : List ℕ) → length bytes ≤ m → length bytes ≤ n → read_code m p c bytes ≡ read_code n p c bytes
unfolding read_code
enough zero zero p c bytes h k = refl
enough zero (suc n) p c bytes h k = rw (no_token bytes h) refl
enough (suc m) zero p c bytes h k = rw (no_token bytes k) refl
enough (suc m) (suc n) p c bytes h k =
    same_then (token.read bytes) (λ t rest. onward m (step p c t) rest) (λ t rest. onward n (step p c t) rest)
    (λ t rest e. same_onward m n (step p c t) rest (λ q d. let s = token_shorter bytes t rest e in enough m n q d rest (omega arith) (omega arith)))

-- one token on
pub one_on : (p : Path) (c : Code) (bytes : List ℕ) (t : Token) (rest : List ℕ) → token.read bytes ≡ Some (t, rest) → read_code (length bytes) p c bytes ≡ onward (length rest) (step p c t) rest
unfolding read_code
one_on p c bytes t rest e =
    let s = token_shorter bytes t rest e in
    let n : length bytes ≡ suc (length bytes - 1) = omega arith in
    ap (λ (m : ℕ). read_code m p c bytes) n ∙ rw e (same_onward (length bytes - 1) (length rest) (step p c t) rest (λ q d. enough (length bytes - 1) (length rest) q d rest (omega arith) (omega arith)))

pub none_on : (n : ℕ) (p : Path) (c : Code) (bytes : List ℕ) → token.read bytes ≡ None → read_code n p c bytes ≡ None
unfolding read_code
none_on zero p c bytes e = refl
none_on (suc n) p c bytes e = rw e refl

pub none_left : (n : ℕ) (p : Path) (c : Code) (bytes : List ℕ) → length bytes ≤ 0 → read_code n p c bytes ≡ None
none_left n p c bytes h = none_on n p c bytes (no_token bytes h)
