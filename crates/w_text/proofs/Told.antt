-- What a line makes of an open item: its lines are those that came.
use Rattle.std.proofs.Common.{◌≡◌, ℕ, zero, suc, ◌+◌, ◌<◌, ◌≤◌, ◌^◌, Bool, true, false, ◌&&◌, cond, not, List, [], ◌∷◌, ◌++◌, length, map, Some, None, refl, sym, ap, subst, ◌∙◌, append_assoc, arith}
use Rattle.std.specs.Prelude.{⊤, nat_lt, nat_eq}
use Rattle.std.specs.List.{flat_map}
use Rattle.std.proofs.lemmas.List.{append-nil, map-append, length-append}
use Rattle.std.proofs.lemmas.Grind.{flat_map-append}
use Rattle.std.proofs.lemmas.Bool.{ltb-true}
use Rattle.w_types.specs.declared.types.SubType.{SubType}
use Rattle.w_syntax.specs.declared.instructions.Token.{Token}
use Rattle.w_syntax.specs.declared.instructions.Token.TheVariants as tok
use Rattle.w_syntax.specs.declared.locals.LocalRun.{LocalRun}
use Rattle.w_syntax.specs.Code.{Code, Done}
use Rattle.w_syntax.specs.Expr.{tokens, Top, Outcome, More, Finished, Wrong, step as token_step}
use Rattle.w_syntax.specs.ExprLaws.{opened, Follows, step_follows}
use Rattle.w_syntax.specs.Locals.{same_kind, total}
use Rattle.w_syntax.specs.LocalsLaws.{IsJoined}
use Rattle.w_lines.specs.declared.line.Mode.TheVariants as mode
use Rattle.w_lines.specs.declared.line.Line.{Line}
use Rattle.w_lines.specs.declared.line.Line.TheVariants as line
use Rattle.w_text.specs.declared.item.Item.{Item}
use Rattle.w_text.specs.declared.item.Item.TheVariants.{Function}
use Rattle.w_text.specs.Items.{Head, TableHead, GlobalHead, ElemHead, DataHead, FunctionHead, expr_lines, exprs_lines, group_lines, head_lines, headed, item_lines}
use Rattle.w_text.specs.Machine.{Open, Between, InGroup, InLocals, InExprs, Next, Opens, Gives, Refuses, first, item_of, wanted, exprs_on, expr_on, group_on, unlike_last, may_follow, begin, next}

-- the lines of an open item so far
unfoldable pub open_lines : Open → List Line
open_lines Between = []
open_lines (InGroup n ts) = line.Group (length ts + suc n) ∷ map line.Type ts
open_lines (InLocals x ls) = line.Function x ∷ map line.Local ls
open_lines (InExprs h n cs p c) = head_lines h ++ (exprs_lines cs ++ map line.Token (opened p ++ tokens c))

-- neighbours are unlike, none is empty, and they are few
pub record FewJoined (ls : List LocalRun) : Type 0 where
  pub alone : IsJoined ls
  pub few : total ls < 2 ^ 32

abbrev pub HeadFits : Head → Type 0
HeadFits (FunctionHead x ls) = FewJoined ls
HeadFits h = ⊤

abbrev pub OpenFits : Open → Type 0
OpenFits Between = ⊤
OpenFits (InGroup n ts) = 2 ≤ length ts + suc n
OpenFits (InLocals x ls) = FewJoined ls
OpenFits (InExprs h n cs p c) = (length cs + suc n ≡ wanted h) × HeadFits h

abbrev pub ItemFits : Item → Type 0
ItemFits (Function x f) = FewJoined f.locals
ItemFits it = ⊤

-- these are the lines so far, or those of the item
abbrev pub Told : List Line → Next → Type 0
Told ls (Opens o) = (open_lines o ≡ ls) × OpenFits o
Told ls (Gives it) = (item_lines it ≡ ls) × ItemFits it
Told ls Refuses = ⊤

-- ## Items with expressions

one_code : (cs : List Code) → length cs ≡ 1 → cs ≡ first cs ∷ []
one_code [] e = absurd (omega (arith, e))
one_code (c ∷ []) e = refl
one_code (c ∷ d ∷ cs) e = absurd (omega (arith, e))

pub item_of_fits : (h : Head) (cs : List Code) → HeadFits h → ItemFits (item_of h cs)
item_of_fits (TableHead t) cs f = tt
item_of_fits (GlobalHead g) cs f = tt
item_of_fits (ElemHead (mode.Active x) r k) cs f = tt
item_of_fits (ElemHead mode.Passive r k) cs f = tt
item_of_fits (ElemHead mode.Declarative r k) cs f = tt
item_of_fits (DataHead x b) cs f = tt
item_of_fits (FunctionHead x ls) cs f = f

-- the lines of what a head and its expressions make
pub item_of_lines : (h : Head) (cs : List Code) → length cs ≡ wanted h → item_lines (item_of h cs) ≡ headed h cs
unfolding item_lines
item_of_lines (TableHead t) cs e = ap (headed (TableHead t)) (sym (one_code cs e))
item_of_lines (GlobalHead g) cs e = ap (headed (GlobalHead g)) (sym (one_code cs e))
item_of_lines (ElemHead (mode.Active x) r k) [] e = absurd (omega (arith, e))
item_of_lines (ElemHead (mode.Active x) r k) (c ∷ cs) e = let f : length cs ≡ k = omega (arith, e) in rw f refl
item_of_lines (ElemHead mode.Passive r k) cs e = rw e refl
item_of_lines (ElemHead mode.Declarative r k) cs e = rw e refl
item_of_lines (DataHead x b) cs e = ap (headed (DataHead x b)) (sym (one_code cs e))
item_of_lines (FunctionHead x ls) cs e = ap (headed (FunctionHead x ls)) (sym (one_code cs e))

nothing_open : opened Top ++ tokens Done ≡ []
unfolding opened tokens
nothing_open = refl

-- so many expressions have come
pub exprs_told : (h : Head) (n : ℕ) (cs : List Code) → length cs + n ≡ wanted h → HeadFits h → Told (headed h cs) (exprs_on h n cs)
unfolding open_lines
exprs_told h zero cs e f = (item_of_lines h cs (omega (arith, e)), item_of_fits h cs f)
exprs_told h (suc n) cs e f = (ap (λ (ts : List Token). head_lines h ++ (exprs_lines cs ++ map line.Token ts)) nothing_open ∙ ap (λ (l : List Line). head_lines h ++ l) (append-nil (exprs_lines cs)), (e, f))

exprs_more : (cs : List Code) (c : Code) → exprs_lines (cs ++ c ∷ []) ≡ exprs_lines cs ++ map line.Token (tokens c ++ tok.End ∷ [])
unfolding exprs_lines expr_lines
exprs_more cs c = flat_map-append expr_lines cs (c ∷ []) ∙ ap (λ (l : List Line). flat_map expr_lines cs ++ l) (append-nil (expr_lines c))

-- a token more
one_more : (hs es : List Line) (ts : List Token) (t : Token) → (hs ++ (es ++ map line.Token ts)) ++ line.Token t ∷ [] ≡ hs ++ (es ++ map line.Token (ts ++ t ∷ []))
one_more hs es ts t = append_assoc hs (es ++ map line.Token ts) (line.Token t ∷ []) ∙ ap (λ (l : List Line). hs ++ l) (append_assoc es (map line.Token ts) (line.Token t ∷ []) ∙ ap (λ (l : List Line). es ++ l) (sym (map-append line.Token ts (t ∷ []))))

to_told : (ls ms : List Line) (n : Next) → ls ≡ ms → Told ls n → Told ms n
to_told ls ms n e h = subst (λ (l : List Line). Told l n) e h

expr_told : (h : Head) (n : ℕ) (cs : List Code) (ts : List Token) (t : Token) (o : Outcome) → length cs + suc n ≡ wanted h → HeadFits h → Follows ts t o
    → Told ((head_lines h ++ (exprs_lines cs ++ map line.Token ts)) ++ line.Token t ∷ []) (expr_on h n cs o)
unfolding open_lines
expr_told h n cs ts t (More p c) e f w = (ap (λ (us : List Token). head_lines h ++ (exprs_lines cs ++ map line.Token us)) w ∙ sym (one_more (head_lines h) (exprs_lines cs) ts t), (e, f))
expr_told h n cs ts t (Finished c) e f w =
    to_told (headed h (cs ++ c ∷ [])) ((head_lines h ++ (exprs_lines cs ++ map line.Token ts)) ++ line.Token t ∷ []) (exprs_on h n (cs ++ c ∷ []))
    (ap (λ (l : List Line). head_lines h ++ l) (exprs_more cs c ∙ ap (λ (us : List Token). exprs_lines cs ++ map line.Token us) (sym w)) ∙ sym (one_more (head_lines h) (exprs_lines cs) ts t))
    (exprs_told h n (cs ++ c ∷ []) (omega (arith, e, length-append cs (c ∷ []))) f)
expr_told h n cs ts t Wrong e f w = tt

-- ## Groups

two_or_more : (ts : List SubType) → 2 ≤ length ts → group_lines ts ≡ line.Group (length ts) ∷ map line.Type ts
unfolding group_lines
two_or_more [] le = absurd (omega arith)
two_or_more (t ∷ []) le = absurd (omega arith)
two_or_more (t ∷ u ∷ ts) le = refl

group_told : (n : ℕ) (ts : List SubType) (t : SubType) → 2 ≤ length ts + suc n → Told ((line.Group (length ts + suc n) ∷ map line.Type ts) ++ line.Type t ∷ []) (group_on n (ts ++ t ∷ []))
unfolding open_lines item_lines
group_told zero ts t le =
    let len : length (ts ++ t ∷ []) ≡ length ts + 1 = length-append ts (t ∷ []) in
    (two_or_more (ts ++ t ∷ []) (omega (arith, len)) ∙ rw len (ap (λ (l : List Line). line.Group (length ts + 1) ∷ l) (map-append line.Type ts (t ∷ []))), tt)
group_told (suc n) ts t le =
    let len : length (ts ++ t ∷ []) + suc n ≡ length ts + suc (suc n) = omega (arith, length-append ts (t ∷ [])) in
    (rw len (ap (λ (l : List Line). line.Group (length ts + suc (suc n)) ∷ l) (map-append line.Type ts (t ∷ []))), omega (arith, len))

-- ## Locals

not_true : (b : Bool) → not b ≡ true → b ≡ false
not_true true e = absurd cc
not_true false e = refl

both : (a b : Bool) → (a && b) ≡ true → (a ≡ true) × (b ≡ true)
both true b e = (refl, e)
both false b e = absurd cc

joined_more : (ls : List LocalRun) (l : LocalRun) → IsJoined ls → unlike_last ls l ≡ true → nat_eq l.count 0 ≡ false → IsJoined (ls ++ l ∷ [])
unfolding unlike_last
joined_more [] l j u z = z
joined_more (m ∷ []) l j u z = (j, not_true (same_kind m.kind l.kind) u, z)
joined_more (m ∷ n ∷ ls) l j u z = (j.0, j.1, joined_more (n ∷ ls) l j.2 u z)

pub total_more : (ls : List LocalRun) (l : LocalRun) → total (ls ++ l ∷ []) ≡ total ls + l.count
unfolding total
total_more [] l = omega arith
total_more (m ∷ ls) l = omega (arith, total_more ls l)

pub few_more : (ls : List LocalRun) (l : LocalRun) → FewJoined ls → may_follow ls l ≡ true → FewJoined (ls ++ l ∷ [])
few_more ls l f e =
    let a = both (unlike_last ls l) (not (nat_eq l.count 0) && nat_lt (total ls + l.count) (2 ^ 32)) e in
    let b = both (not (nat_eq l.count 0)) (nat_lt (total ls + l.count) (2 ^ 32)) a.1 in
    let lt : total ls + l.count < 2 ^ 32 = ltb-true (total ls + l.count) (2 ^ 32) b.1 in
    record { alone = joined_more ls l f.alone a.0 (not_true (nat_eq l.count 0) b.0); few = rw (total_more ls l) lt }

locals_told : (v : Bool) (x : ℕ) (ls : List LocalRun) (l : LocalRun) → may_follow ls l ≡ v → FewJoined ls → Told ((line.Function x ∷ map line.Local ls) ++ line.Local l ∷ []) (cond v (Opens (InLocals x (ls ++ l ∷ []))) Refuses)
unfolding open_lines
locals_told true x ls l e f = (ap (λ (k : List Line). line.Function x ∷ k) (map-append line.Local ls (l ∷ [])), few_more ls l f e)
locals_told false x ls l e f = tt

-- ## All lines

no_exprs : exprs_lines [] ≡ []
unfolding exprs_lines
no_exprs = refl

begin_head : (h : Head) (l : Line) → head_lines h ≡ l ∷ [] → HeadFits h → Told (l ∷ []) (exprs_on h (wanted h) [])
begin_head h l e f = to_told (headed h []) (l ∷ []) (exprs_on h (wanted h) []) (ap (λ (k : List Line). head_lines h ++ k) no_exprs ∙ append-nil (head_lines h) ∙ e) (exprs_told h (wanted h) [] (omega arith) f)

none_few : total [] < 2 ^ 32
unfolding total
none_few = omega arith

begin_told : (l : Line) → Told (l ∷ []) (begin l)
unfolding open_lines item_lines group_lines head_lines
begin_told line.Module = tt
begin_told (line.Group zero) = (refl, tt)
begin_told (line.Group (suc zero)) = tt
begin_told (line.Group (suc (suc n))) = let e : 0 + suc (suc n) ≡ suc (suc n) = omega arith in (ap (λ (k : ℕ). line.Group k ∷ []) e, omega arith)
begin_told (line.Type t) = (refl, tt)
begin_told (line.Import i) = (refl, tt)
begin_told (line.Table t false) = (refl, tt)
begin_told (line.Table t true) = begin_head (TableHead t) (line.Table t true) refl tt
begin_told (line.Memory l) = (refl, tt)
begin_told (line.Tag t) = (refl, tt)
begin_told (line.Global g) = begin_head (GlobalHead g) (line.Global g) refl tt
begin_told (line.Export e) = (refl, tt)
begin_told (line.Start x) = (refl, tt)
begin_told (line.Elements m r k) = begin_head (ElemHead m r k) (line.Elements m r k) refl tt
begin_told (line.Data (Some x) b) = begin_head (DataHead x b) (line.Data (Some x) b) refl tt
begin_told (line.Data None b) = (refl, tt)
begin_told (line.Function x) = (refl, record { alone = tt; few = none_few })
begin_told (line.Local l) = tt
begin_told (line.Token t) = tt

no_codes : (h : Head) (ls : List Line) → head_lines h ++ (exprs_lines [] ++ map line.Token []) ≡ head_lines h
unfolding exprs_lines
no_codes h ls = append-nil (head_lines h)

body_told : (x : ℕ) (ls : List LocalRun) (t : Token) → FewJoined ls → Told ((line.Function x ∷ map line.Local ls) ++ line.Token t ∷ []) (expr_on (FunctionHead x ls) 0 [] (token_step Top Done t))
unfolding head_lines exprs_lines opened tokens
body_told x ls t f =
    to_told ((head_lines (FunctionHead x ls) ++ (exprs_lines [] ++ map line.Token (opened Top ++ tokens Done))) ++ line.Token t ∷ []) ((line.Function x ∷ map line.Local ls) ++ line.Token t ∷ []) (expr_on (FunctionHead x ls) 0 [] (token_step Top Done t))
    (ap (λ (k : List Line). k ++ line.Token t ∷ []) (append-nil (line.Function x ∷ map line.Local ls)))
    (expr_told (FunctionHead x ls) 0 [] (opened Top ++ tokens Done) t (token_step Top Done t) refl f (step_follows Top Done t))

-- a line of an open item
pub next_told : (o : Open) (l : Line) → OpenFits o → Told (open_lines o ++ l ∷ []) (next o l)
unfolding next open_lines
next_told Between l f = begin_told l
next_told (InGroup n ts) (line.Type t) f = group_told n ts t f
next_told (InGroup n ts) line.Module f = tt
next_told (InGroup n ts) (line.Group k) f = tt
next_told (InGroup n ts) (line.Import i) f = tt
next_told (InGroup n ts) (line.Table t b) f = tt
next_told (InGroup n ts) (line.Memory l) f = tt
next_told (InGroup n ts) (line.Tag t) f = tt
next_told (InGroup n ts) (line.Global g) f = tt
next_told (InGroup n ts) (line.Export e) f = tt
next_told (InGroup n ts) (line.Start x) f = tt
next_told (InGroup n ts) (line.Elements m r k) f = tt
next_told (InGroup n ts) (line.Data o b) f = tt
next_told (InGroup n ts) (line.Function x) f = tt
next_told (InGroup n ts) (line.Local l) f = tt
next_told (InGroup n ts) (line.Token t) f = tt
next_told (InLocals x ls) (line.Local l) f = locals_told (may_follow ls l) x ls l refl f
next_told (InLocals x ls) (line.Token t) f = body_told x ls t f
next_told (InLocals x ls) line.Module f = tt
next_told (InLocals x ls) (line.Group k) f = tt
next_told (InLocals x ls) (line.Type t) f = tt
next_told (InLocals x ls) (line.Import i) f = tt
next_told (InLocals x ls) (line.Table t b) f = tt
next_told (InLocals x ls) (line.Memory l) f = tt
next_told (InLocals x ls) (line.Tag t) f = tt
next_told (InLocals x ls) (line.Global g) f = tt
next_told (InLocals x ls) (line.Export e) f = tt
next_told (InLocals x ls) (line.Start y) f = tt
next_told (InLocals x ls) (line.Elements m r k) f = tt
next_told (InLocals x ls) (line.Data o b) f = tt
next_told (InLocals x ls) (line.Function y) f = tt
next_told (InExprs h n cs p c) (line.Token t) f = expr_told h n cs (opened p ++ tokens c) t (token_step p c t) f.0 f.1 (step_follows p c t)
next_told (InExprs h n cs p c) line.Module f = tt
next_told (InExprs h n cs p c) (line.Group k) f = tt
next_told (InExprs h n cs p c) (line.Type t) f = tt
next_told (InExprs h n cs p c) (line.Import i) f = tt
next_told (InExprs h n cs p c) (line.Table t b) f = tt
next_told (InExprs h n cs p c) (line.Memory l) f = tt
next_told (InExprs h n cs p c) (line.Tag t) f = tt
next_told (InExprs h n cs p c) (line.Global g) f = tt
next_told (InExprs h n cs p c) (line.Export e) f = tt
next_told (InExprs h n cs p c) (line.Start x) f = tt
next_told (InExprs h n cs p c) (line.Elements m r k) f = tt
next_told (InExprs h n cs p c) (line.Data o b) f = tt
next_told (InExprs h n cs p c) (line.Function x) f = tt
next_told (InExprs h n cs p c) (line.Local l) f = tt
