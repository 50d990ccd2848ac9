-- What each token does to the list of instructions and the open blocks.
use Rattle.std.proofs.Common.{◌≡◌, ℕ, ◌+◌, ◌<◌, List, [], ◌∷◌, ◌++◌, length, set, Some, None, refl, sym, ap, subst, ◌∙◌, append_assoc, arith}
use Rattle.std.proofs.lemmas.List.{append-nil, length-append, set_at, same_from_push}
use Rattle.w_syntax.specs.declared.instructions.BlockKind.{BlockKind}
use Rattle.w_syntax.specs.declared.instructions.BlockType.{BlockType}
use Rattle.w_syntax.specs.declared.instructions.Op.{Op}
use Rattle.w_syntax.specs.declared.instructions.Instr.{Instr}
use Rattle.w_syntax.specs.declared.instructions.Instr.TheVariants as flat
use Rattle.w_syntax.specs.declared.builder.Open.{Open}
use Rattle.w_syntax.specs.declared.builder.Open.TheVariants as opn
use Rattle.w_syntax.specs.Code.{Code, Done, Plain, Block, If, IfElse, after}
use Rattle.w_syntax.specs.Expr.{Path, Top, InBlock, InThen, InElse, More, Finished, Wrong, on_else, on_end}
use Rattle.w_syntax.specs.Flat.{size, laid}
use Rattle.w_syntax.specs.Builds.{place, open_laid, heads, closed_of, Builds}
use Rattle.w_syntax.specs.declared.builder.BodyBuilder.{BodyBuilder}
use Rattle.w_syntax.specs.declared.packed.PackedInstr.{PackedInstr}
use Rattle.w_syntax.specs.Packed.{unpacked, unpacked_all}
use Rattle.w_syntax.proofs.PackedLists.{unpacked_push}

pub length-laid : (k : ℕ) (c : Code) → length (laid k c) ≡ size c
unfolding laid size
length-laid k Done = refl
length-laid k (Plain o r) = omega (arith, length-laid (k + 1) r)
length-laid k (Block kind b x r) = omega (arith, length-laid (k + 1) x, length-laid (k + 2 + size x) r, length-append (laid (k + 1) x) (flat.End ∷ laid (k + 2 + size x) r))
length-laid k (If b x r) = omega (arith, length-laid (k + 1) x, length-laid (k + 2 + size x) r, length-append (laid (k + 1) x) (flat.End ∷ laid (k + 2 + size x) r))
length-laid k (IfElse b x y r) =
    omega (
      arith,
      length-laid (k + 1) x,
      length-laid (k + 2 + size x) y,
      length-laid (k + 3 + size x + size y) r,
      length-append (laid (k + 1) x) (flat.Else ∷ (laid (k + 2 + size x) y ++ flat.End ∷ laid (k + 3 + size x + size y) r)),
      length-append (laid (k + 2 + size x) y) (flat.End ∷ laid (k + 3 + size x + size y) r),
    )

pub length-open_laid : (p : Path) → length (open_laid p) ≡ place p
unfolding open_laid place
length-open_laid Top = refl
length-open_laid (InBlock p d kind b) = omega (arith, length-open_laid p, length-laid (place p) d, length-append (open_laid p ++ laid (place p) d) (flat.End ∷ []), length-append (open_laid p) (laid (place p) d))
length-open_laid (InThen p d b) = omega (arith, length-open_laid p, length-laid (place p) d, length-append (open_laid p ++ laid (place p) d) (flat.End ∷ []), length-append (open_laid p) (laid (place p) d))
length-open_laid (InElse p d b x) =
    omega (
      arith,
      length-open_laid p,
      length-laid (place p) d,
      length-laid (place p + size d + 1) x,
      length-append (open_laid p ++ laid (place p) d) (flat.End ∷ (laid (place p + size d + 1) x ++ flat.Else ∷ [])),
      length-append (open_laid p) (laid (place p) d),
      length-append (laid (place p + size d + 1) x) (flat.Else ∷ []),
    )

-- the same place, written otherwise
at : (j k : ℕ) (c : Code) → j ≡ k → laid j c ≡ laid k c
at j k c e = ap (λ (n : ℕ). laid n c) e

pub laid-after : (k : ℕ) (c d : Code) → laid k (after c d) ≡ laid k c ++ laid (k + size c) d
unfolding laid size after
laid-after k Done d = at k (k + 0) d (omega arith)
laid-after k (Plain o r) d = ap (λ (l : List Instr). flat.Plain o ∷ l) (laid-after (k + 1) r d ∙ ap (λ (l : List Instr). laid (k + 1) r ++ l) (at (k + 1 + size r) (k + (1 + size r)) d (omega arith)))
laid-after k (Block kind b x r) d =
    ap (λ (l : List Instr). flat.Block kind b (k + 1 + size x) ∷ (laid (k + 1) x ++ flat.End ∷ l)) (laid-after (k + 2 + size x) r d ∙ ap (λ (l : List Instr). laid (k + 2 + size x) r ++ l) (at (k + 2 + size x + size r) (k + (2 + size x + size r)) d (omega arith)))
    ∙ simp append_assoc
laid-after k (If b x r) d =
    ap (λ (l : List Instr). flat.If b None (k + 1 + size x) ∷ (laid (k + 1) x ++ flat.End ∷ l)) (laid-after (k + 2 + size x) r d ∙ ap (λ (l : List Instr). laid (k + 2 + size x) r ++ l) (at (k + 2 + size x + size r) (k + (2 + size x + size r)) d (omega arith)))
    ∙ simp append_assoc
laid-after k (IfElse b x y r) d =
    ap (λ (l : List Instr). flat.If b (Some (k + 1 + size x)) (k + 2 + size x + size y) ∷ (laid (k + 1) x ++ flat.Else ∷ (laid (k + 2 + size x) y ++ flat.End ∷ l))) (laid-after (k + 3 + size x + size y) r d ∙ ap (λ (l : List Instr). laid (k + 3 + size x + size y) r ++ l) (at (k + 3 + size x + size y + size r) (k + (3 + size x + size y + size r)) d (omega arith)))
    ∙ simp append_assoc

-- what stands before a place, with one sequence more
pub extended : (p : Path) (d e : Code) → open_laid p ++ laid (place p) (after d e) ≡ (open_laid p ++ laid (place p) d) ++ laid (place p + size d) e
extended p d e = ap (λ (l : List Instr). open_laid p ++ l) (laid-after (place p) d e) ∙ sym (append_assoc (open_laid p) (laid (place p) d) (laid (place p + size d) e))

pub here_is : (p : Path) (c : Code) (is : List Instr) → is ≡ open_laid p ++ laid (place p) c → length is ≡ place p + size c
here_is p c is e = omega (arith, ap length e, length-append (open_laid p) (laid (place p) c), length-open_laid p, length-laid (place p) c)

pub plain_laid : (p : Path) (c : Code) (o : Op) (is : List Instr) → is ≡ open_laid p ++ laid (place p) c → is ++ flat.Plain o ∷ [] ≡ open_laid p ++ laid (place p) (after c (Plain o Done))
unfolding laid
plain_laid p c o is e = ap (λ (l : List Instr). l ++ flat.Plain o ∷ []) e ∙ sym (extended p c (Plain o Done))

pub block_laid : (p : Path) (c : Code) (kind : BlockKind) (b : BlockType) (is : List Instr) → is ≡ open_laid p ++ laid (place p) c → is ++ flat.End ∷ [] ≡ open_laid (InBlock p c kind b) ++ laid (place (InBlock p c kind b)) Done
unfolding laid open_laid
block_laid p c kind b is e = ap (λ (l : List Instr). l ++ flat.End ∷ []) e ∙ sym (append-nil _)

pub if_laid : (p : Path) (c : Code) (b : BlockType) (is : List Instr) → is ≡ open_laid p ++ laid (place p) c → is ++ flat.End ∷ [] ≡ open_laid (InThen p c b) ++ laid (place (InThen p c b)) Done
unfolding laid open_laid
if_laid p c b is e = ap (λ (l : List Instr). l ++ flat.End ∷ []) e ∙ sym (append-nil _)

replaced : (P : List Instr) (i j : Instr) (tail : List Instr) (h : ℕ) (is : List Instr) → is ≡ (P ++ i ∷ []) ++ tail → length P ≡ h → set is h j ≡ P ++ j ∷ tail
replaced P i j tail h is e len = ap (λ (l : List Instr). set l h j) (e ∙ append_assoc P (i ∷ []) tail) ∙ set_at P i tail j h len

-- the place of the innermost open block
head_is : (q : Path) (d : Code) → length (open_laid q ++ laid (place q) d) ≡ place q + size d
head_is q d = here_is q d _ refl

pub else_laid : (q : Path) (d c : Code) (b : BlockType) (is : List Instr) → is ≡ open_laid (InThen q d b) ++ laid (place (InThen q d b)) c
    → is ++ flat.Else ∷ [] ≡ open_laid (InElse q d b c) ++ laid (place (InElse q d b c)) Done
unfolding laid open_laid place
else_laid q d c b is e =
    let P = open_laid q ++ laid (place q) d in
    let t = laid (place q + size d + 1) c in
    ap (λ (r : List Instr). r ++ flat.Else ∷ []) (e ∙ append_assoc P (flat.End ∷ []) t)
    ∙ append_assoc P (flat.End ∷ t) (flat.Else ∷ [])
    ∙ sym (append-nil _)

pub end_block : (q : Path) (d c : Code) (kind : BlockKind) (b : BlockType) (is : List Instr) (h here : ℕ) → is ≡ open_laid (InBlock q d kind b) ++ laid (place (InBlock q d kind b)) c → h ≡ place q + size d → here ≡ length is
    → set is h (flat.Block kind b here) ++ flat.End ∷ [] ≡ open_laid q ++ laid (place q) (after d (Block kind b c Done))
unfolding laid open_laid place
end_block q d c kind b is h here e k l =
    let m : here ≡ place q + size d + 1 + size c = l ∙ here_is (InBlock q d kind b) c is e in
    ap (λ (r : List Instr). r ++ flat.End ∷ []) (replaced (open_laid q ++ laid (place q) d) flat.End (flat.Block kind b here) (laid (place q + size d + 1) c) h is e (head_is q d ∙ sym k))
    ∙ append_assoc (open_laid q ++ laid (place q) d) (flat.Block kind b here ∷ laid (place q + size d + 1) c) (flat.End ∷ [])
    ∙ ap (λ (n : ℕ). (open_laid q ++ laid (place q) d) ++ flat.Block kind b n ∷ (laid (place q + size d + 1) c ++ flat.End ∷ [])) m
    ∙ sym (extended q d (Block kind b c Done))

pub end_then : (q : Path) (d c : Code) (b : BlockType) (is : List Instr) (h here : ℕ) → is ≡ open_laid (InThen q d b) ++ laid (place (InThen q d b)) c → h ≡ place q + size d → here ≡ length is
    → set is h (flat.If b None here) ++ flat.End ∷ [] ≡ open_laid q ++ laid (place q) (after d (If b c Done))
unfolding laid open_laid place
end_then q d c b is h here e k l =
    let m : here ≡ place q + size d + 1 + size c = l ∙ here_is (InThen q d b) c is e in
    ap (λ (r : List Instr). r ++ flat.End ∷ []) (replaced (open_laid q ++ laid (place q) d) flat.End (flat.If b None here) (laid (place q + size d + 1) c) h is e (head_is q d ∙ sym k))
    ∙ append_assoc (open_laid q ++ laid (place q) d) (flat.If b None here ∷ laid (place q + size d + 1) c) (flat.End ∷ [])
    ∙ ap (λ (n : ℕ). (open_laid q ++ laid (place q) d) ++ flat.If b None n ∷ (laid (place q + size d + 1) c ++ flat.End ∷ [])) m
    ∙ sym (extended q d (If b c Done))

pub end_else : (q : Path) (d x c : Code) (b : BlockType) (is : List Instr) (h o here : ℕ) → is ≡ open_laid (InElse q d b x) ++ laid (place (InElse q d b x)) c → h ≡ place q + size d → o ≡ place q + size d + 1 + size x → here ≡ length is
    → set is h (flat.If b (Some o) here) ++ flat.End ∷ [] ≡ open_laid q ++ laid (place q) (after d (IfElse b x c Done))
unfolding laid open_laid place
end_else q d x c b is h o here e k n l =
    let P = open_laid q ++ laid (place q) d in
    let m : here ≡ place q + size d + 2 + size x + size c = l ∙ here_is (InElse q d b x) c is e in
    let inner = laid (place q + size d + 1) x in
    let t1 = laid (place q + size d + 2 + size x) c in
    let split : is ≡ (P ++ flat.End ∷ []) ++ (inner ++ flat.Else ∷ laid (place q + size d + 2 + size x) c) = e ∙ simp append_assoc in
    ap (λ (r : List Instr). r ++ flat.End ∷ []) (replaced P flat.End (flat.If b (Some o) here) (inner ++ flat.Else ∷ laid (place q + size d + 2 + size x) c) h is split (head_is q d ∙ sym k))
    ∙ append_assoc P (flat.If b (Some o) here ∷ (inner ++ flat.Else ∷ laid (place q + size d + 2 + size x) c)) (flat.End ∷ [])
    ∙ ap (λ (l : List Instr). P ++ flat.If b (Some o) here ∷ l) (append_assoc inner (flat.Else ∷ laid (place q + size d + 2 + size x) c) (flat.End ∷ []))
    ∙ ap (λ (j : ℕ). P ++ flat.If b (Some j) here ∷ (inner ++ flat.Else ∷ (laid (place q + size d + 2 + size x) c ++ flat.End ∷ []))) n
    ∙ ap (λ (j : ℕ). P ++ flat.If b (Some (place q + size d + 1 + size x)) j ∷ (inner ++ flat.Else ∷ (laid (place q + size d + 2 + size x) c ++ flat.End ∷ []))) m
    ∙ sym (extended q d (IfElse b x c Done))

-- ## by the innermost open block

abbrev pub AtTop : Path → Code → List Open → Open → List Instr → ℕ → Type 0
AtTop p c os o is here = (is ≡ open_laid p ++ laid (place p) c) × (heads p ≡ os ++ o ∷ []) × (here ≡ length is)

pub no_open : (p : Path) → heads p ≡ [] → p ≡ Top
unfolding heads
no_open Top e = refl
no_open (InBlock p d kind b) e = absurd (omega (arith, ap length e, length-append (heads p) (opn.Block kind b (place p + size d) ∷ [])))
no_open (InThen p d b) e = absurd (omega (arith, ap length e, length-append (heads p) (opn.Then b (place p + size d) ∷ [])))
no_open (InElse p d b x) e = absurd (omega (arith, ap length e, length-append (heads p) (opn.Else b (place p + size d) (place p + size d + 1 + size x) ∷ [])))

-- the head of what is open is a place of the list
pub head_within : (p : Path) (c : Code) (os : List Open) (o : Open) (is : List Instr) (here : ℕ) → AtTop p c os o is here → (closed_of o here).0 < length is
unfolding heads place
head_within Top c os o is here t = absurd (omega (arith, ap length t.1, length-append os (o ∷ [])))
head_within (InBlock p d kind b) c os o is here t =
    let same = same_from_push (heads p) os (opn.Block kind b (place p + size d)) o t.1 in
    subst (λ (v : Open). (closed_of v here).0 < length is) same.1 (omega (arith, here_is (InBlock p d kind b) c is t.0))
head_within (InThen p d b) c os o is here t =
    let same = same_from_push (heads p) os (opn.Then b (place p + size d)) o t.1 in
    subst (λ (v : Open). (closed_of v here).0 < length is) same.1 (omega (arith, here_is (InThen p d b) c is t.0))
head_within (InElse p d b x) c os o is here t =
    let same = same_from_push (heads p) os (opn.Else b (place p + size d) (place p + size d + 1 + size x)) o t.1 in
    subst (λ (v : Open). (closed_of v here).0 < length is) same.1 (omega (arith, here_is (InElse p d b x) c is t.0))

abbrev Ended : Path → Code → List Open → Open → List Instr → ℕ → Type 0
Ended p c os o is here = (q : Path) × (e : Code) × (on_end p c ≡ More q e) × (set is (closed_of o here).0 (closed_of o here).1 ++ flat.End ∷ [] ≡ open_laid q ++ laid (place q) e) × (os ≡ heads q)

pub ended : (p : Path) (c : Code) (os : List Open) (o : Open) (is : List Instr) (here : ℕ) → AtTop p c os o is here → Ended p c os o is here
unfolding heads
ended Top c os o is here t = absurd (omega (arith, ap length t.1, length-append os (o ∷ [])))
ended (InBlock p d kind b) c os o is here t =
    let same = same_from_push (heads p) os (opn.Block kind b (place p + size d)) o t.1 in
    subst (λ (v : Open). Ended (InBlock p d kind b) c os v is here) same.1 (p, after d (Block kind b c Done), refl, end_block p d c kind b is (place p + size d) here t.0 refl t.2, sym same.0)
ended (InThen p d b) c os o is here t =
    let same = same_from_push (heads p) os (opn.Then b (place p + size d)) o t.1 in
    subst (λ (v : Open). Ended (InThen p d b) c os v is here) same.1 (p, after d (If b c Done), refl, end_then p d c b is (place p + size d) here t.0 refl t.2, sym same.0)
ended (InElse p d b x) c os o is here t =
    let same = same_from_push (heads p) os (opn.Else b (place p + size d) (place p + size d + 1 + size x)) o t.1 in
    subst (λ (v : Open). Ended (InElse p d b x) c os v is here) same.1 (p, after d (IfElse b x c Done), refl, end_else p d x c b is (place p + size d) (place p + size d + 1 + size x) here t.0 refl refl t.2, sym same.0)

abbrev Turned : Path → Code → List Open → BlockType → ℕ → List Instr → ℕ → Type 0
Turned p c os b h is here = (q : Path) × (on_else p c ≡ More q Done) × (is ++ flat.Else ∷ [] ≡ open_laid q ++ laid (place q) Done) × (os ++ opn.Else b h here ∷ [] ≡ heads q)

then_parts : (b v : BlockType) (h k : ℕ) → opn.Then b h ≡ opn.Then v k → (b ≡ v) × (h ≡ k)
then_parts b v h k e = (cc, cc)

pub turned : (p : Path) (c : Code) (os : List Open) (b : BlockType) (h : ℕ) (is : List Instr) (here : ℕ) → AtTop p c os (opn.Then b h) is here → Turned p c os b h is here
unfolding heads place
turned Top c os b h is here t = absurd (omega (arith, ap length t.1, length-append os (opn.Then b h ∷ [])))
turned (InBlock p d kind v) c os b h is here t = let same = same_from_push (heads p) os (opn.Block kind v (place p + size d)) (opn.Then b h) t.1 in let e = same.1 in absurd cc
turned (InThen p d v) c os b h is here t =
    let same = same_from_push (heads p) os (opn.Then v (place p + size d)) (opn.Then b h) t.1 in
    let parts = then_parts v b (place p + size d) h same.1 in
    let m : here ≡ place p + size d + 1 + size c = t.2 ∙ here_is (InThen p d v) c is t.0 in
    let made : Turned (InThen p d v) c os v (place p + size d) is here = (InElse p d v c, refl, else_laid p d c v is t.0, ap (λ (l : List Open). l ++ opn.Else v (place p + size d) here ∷ []) (sym same.0) ∙ ap (λ (n : ℕ). heads p ++ opn.Else v (place p + size d) n ∷ []) m) in
    subst (λ (w : BlockType). Turned (InThen p d v) c os w h is here) parts.0 (subst (λ (k : ℕ). Turned (InThen p d v) c os v k is here) parts.1 made)
turned (InElse p d v x) c os b h is here t = let same = same_from_push (heads p) os (opn.Else v (place p + size d) (place p + size d + 1 + size x)) (opn.Then b h) t.1 in let e = same.1 in absurd cc

-- an else where no first branch is open
pub no_else : (p : Path) (c : Code) (os : List Open) (o : Open) → heads p ≡ os ++ o ∷ [] → ((b : BlockType) (h : ℕ) → o ≡ opn.Then b h → ⊥) → on_else p c ≡ Wrong
unfolding heads
no_else Top c os o e n = refl
no_else (InBlock p d kind b) c os o e n = refl
no_else (InThen p d b) c os o e n = absurd (n b (place p + size d) (sym (same_from_push (heads p) os (opn.Then b (place p + size d)) o e).1))
no_else (InElse p d b x) c os o e n = refl

pub pushed : (os hs : List Open) (f : ℕ → Open) (here k : ℕ) → os ≡ hs → here ≡ k → os ++ f here ∷ [] ≡ hs ++ f k ∷ []
pushed os hs f here k e m = rw (e, m) refl

pub else_none : (p : Path) (c : Code) → heads p ≡ [] → on_else p c ≡ Wrong
else_none p c e = ap (λ (q : Path). on_else q c) (no_open p e)

pub end_none : (p : Path) (c : Code) → heads p ≡ [] → (on_end p c ≡ Finished c) × (open_laid p ++ laid (place p) c ≡ laid 0 c)
unfolding open_laid place
end_none p c e = (ap (λ (q : Path). on_end q c) (no_open p e), ap (λ (q : Path). open_laid q ++ laid (place q) c) (no_open p e))

-- a builder with one instruction more
pub builds_after : (q : Path) (d : Code) (s : BodyBuilder) (before : List PackedInstr) (packed : PackedInstr) (opens : List Open) → s.code.items ≡ before ++ packed ∷ []
    → unpacked_all before ++ unpacked packed ∷ [] ≡ open_laid q ++ laid (place q) d → s.opens.items ≡ opens → opens ≡ heads q → Builds q d s
builds_after q d s before packed opens e g h k = record { code = unpacked_push s.code.items before packed e ∙ g; opens = h ∙ k }
