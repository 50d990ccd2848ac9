-- A part between brackets keeps the laws.
use Rattle.std.proofs.Common.{◌≡◌, ℕ, zero, suc, ◌+◌, ◌≤◌, Bool, true, false, if◌then◌else◌, List, [], ◌∷◌, ◌++◌, Option, Some, None, refl, sym, ap, subst, ◌∙◌, append_assoc, arith}
use Rattle.std.specs.Prelude.{IsTrue}
use Rattle.s_syntax.specs.declared.token.Kind.{Kind}
use Rattle.s_syntax.specs.declared.token.Kind.TheVariants as kind
use Rattle.s_syntax.specs.declared.token.Token.{Token}
use Rattle.s_grammar.specs.Grammar.{Grammar, Between, Inside}
use Rattle.s_grammar.specs.Kinds.{Kinds, is, kind_of, turn, Opens, Turn, Closes}
use Rattle.s_grammar.specs.Reading.{Reading, between, Refused, Wrong, opened, behind, TooDeep, closed, Got, Answer, and_then}
use Rattle.s_grammar.proofs.KindSets.{Within, opening, closing, opens_is, within, closes_is, any_kind}
use Rattle.s_grammar.proofs.ReadingLaws.{Begins, Laws, GotAt, Known, must}
use Rattle.s_grammar.proofs.OneToken.{token_of, one_got, one_refused}
use Rattle.s_grammar.proofs.Walks.{walk, walk_by, walk_append}

-- what is known of what stands inside
abbrev pub InsideLaws : {A : Type 0} → ℕ → ℕ → Bool → Kinds → Kinds → (ℕ → Grammar A) → Option (Reading A) → Type 0
InsideLaws zero d e first stops G None = (m : ℕ) → d ≤ m → Begins (G m) []
InsideLaws zero d e first stops G (Some r) = ⊥
InsideLaws (suc n) d e first stops G None = ⊥
InsideLaws (suc n) d e first stops G (Some r) = Laws n d e first stops G r

-- a token that opens nothing is wrong
between_wrong : {A : Type 0} (o c : Kind) (r : Option (Reading A)) (s : List Token) → is o (kind_of s) ≡ false → between o c r s ≡ Refused Wrong s
between_wrong o c r [] h = refl
between_wrong o c r (t ∷ s) h = ap (λ (v : Bool). opened v c r (t ∷ s) s) h

-- behind the bracket that opens
between_open : {A : Type 0} (o c : Kind) (r : Option (Reading A)) (t : Token) (s : List Token) → is o t.kind ≡ true → between o c r (t ∷ s) ≡ behind c r (t ∷ s) s
between_open o c r t s h = ap (λ (v : Bool). opened v c r (t ∷ s) s) h

-- a bracket that opens is one too many
between_deep : {A : Type 0} (o c : Kind) (s : List Token) → is o kind.End ≡ false → is o (kind_of s) ≡ true → between {A = A} o c None s ≡ Refused TooDeep s
between_deep o c [] e h = absurd (let q : false ≡ true = sym e ∙ h in cc)
between_deep o c (t ∷ s) e h = between_open o c None t s h

-- what is spelled within, with brackets around it
between_sample : {A : Type 0} (o c : Kind) (g : Grammar A) → IsTrue (is o o) → IsTrue (is c c) → Begins g [] → Begins (Between o c g) []
between_sample o c g h k q = (token_of o ∷ (q.0 ++ token_of c ∷ []), q.1, (token_of o, q.0, token_of c, refl, h, q.2, k))

-- the brackets o and c, the first not the end
pub record AreBrackets (o c : Kind) : Type 0 where
  pub opens : Within (is o) opening
  pub closes : Within (is c) closing
  pub no_end : is o kind.End ≡ false
  pub close_no_end : is c kind.End ≡ false
  pub open_is : IsTrue (is o o)
  pub close_is : IsTrue (is c c)

-- a bracket opens
walk_open : (n : ℕ) (t : Token) (ts : List Token) → turn t.kind ≡ Opens → walk (suc n) (t ∷ ts) ≡ walk n ts
walk_open n t ts e = ap (λ (u : Turn). walk_by u (suc n) (λ k. walk k ts)) e

-- a bracket closes
walk_close : (n : ℕ) (t : Token) → turn t.kind ≡ Closes → walk n (t ∷ []) ≡ Some (suc n)
walk_close n t e = ap (λ (u : Turn). walk_by u n (λ k. Some k)) e

-- the bracket that opens does
turn_opens : (o c : Kind) → AreBrackets o c → (k : Kind) → is o k ≡ true → turn k ≡ Opens
turn_opens o c b k h = opens_is (turn k) (within (is o) opening b.opens k h)

-- the bracket that closes does
turn_closes : (o c : Kind) → AreBrackets o c → (k : Kind) → is c k ≡ true → turn k ≡ Closes
turn_closes o c b k h = closes_is (turn k) (within (is c) closing b.closes k h)

-- the bracket closes behind the value
closed_got : {A : Type 0} (c : Kind) (x : A) (u : Token) (s : List Token) → is c u.kind ≡ true → closed c x (u ∷ s) ≡ Got x s
closed_got c x u s h = ap (λ (o : Answer Token). and_then o (λ _ rest. Got x rest)) (one_got (is c) (λ t. t) u s h)

-- another token is wrong there
closed_refused : {A : Type 0} (c : Kind) (x : A) (s : List Token) → is c (kind_of s) ≡ false → closed c x s ≡ Refused Wrong s
closed_refused c x s h = ap (λ (o : Answer Token). and_then o (λ _ rest. Got x rest)) (one_refused (is c) (λ t. t) s h)

-- what is spelled within is spelled with brackets
between_spelled : {A : Type 0} (o c : Kind) (H : ℕ → Grammar A) (t u : Token) (v : List Token) (x : A) → IsTrue (is o t.kind) → IsTrue (is c u.kind) → (k : ℕ) → ((j : ℕ) → k ≤ j → H j v x) → (m : ℕ) → suc k ≤ m → Between o c (Inside H m) (t ∷ (v ++ u ∷ [])) x
between_spelled o c H t u v x p q k h zero l = absurd (omega arith)
between_spelled o c H t u v x p q k h (suc m) l = (t, v, u, refl, p, h m (omega arith), q)

-- lists regrouped
closing_group : (t u : Token) (a b c : List Token) → ((t ∷ a) ++ b) ++ (c ++ u ∷ []) ≡ t ∷ (((a ++ b) ++ c) ++ u ∷ [])
closing_group t u a b c = ap (λ (l : List Token). t ∷ l) (sym (append_assoc (a ++ b) c (u ∷ [])))

-- what begins within begins with its bracket
between_begins : {A : Type 0} (o c : Kind) (H : ℕ → Grammar A) (t : Token) (front mu : List Token) → IsTrue (is o t.kind) → IsTrue (is c c) → (k : ℕ) → ((j : ℕ) → k + 3 ≤ j → Begins (H j) (front ++ mu)) → (m : ℕ) → suc k + 3 ≤ m → Begins (Between o c (Inside H m)) ((t ∷ front) ++ mu)
between_begins o c H t front mu p q k h zero l = absurd (omega arith)
between_begins o c H t front mu p q k h (suc m) l =
    let g = h m (omega arith) in
    (g.0 ++ token_of c ∷ [], g.1, (t, (front ++ mu) ++ g.0, token_of c, closing_group t (token_of c) front mu g.0, p, g.2, q))

-- a bracket may close behind the value
between_closes : {A : Type 0} (o c : Kind) (H : ℕ → Grammar A) (t : Token) (v : List Token) (x : A) → IsTrue (is o t.kind) → IsTrue (is c c) → (k : ℕ) → ((j : ℕ) → k ≤ j → H j v x) → (m : ℕ) → suc k + 3 ≤ m → Begins (Between o c (Inside H m)) ((t ∷ v) ++ [])
between_closes o c H t v x p q k h zero l = absurd (omega arith)
between_closes o c H t v x p q k h (suc m) l =
    (token_of c ∷ [], x, (t, v, token_of c, append_assoc (t ∷ v) [] (token_of c ∷ []), p, h m (omega arith), q))

-- what follows the value inside is the bracket, or is wrong
between_by : {A : Type 0} (k : ℕ) (o c : Kind) → AreBrackets o c → (H : ℕ → Grammar A) (r : Reading A) (t : Token) (ts : List Token) → is o t.kind ≡ true
    → (x : A) (rest : List Token) → GotAt k H r ts x rest → (u : Token) (more : List Token) → rest ≡ u ∷ more → (v : Bool) → is c u.kind ≡ v
    → Known (suc k) (λ m. Between o c (Inside H m)) (between o c (Some r)) (t ∷ ts) (and_then (if v then Got u more else Refused Wrong (u ∷ more)) (λ _ z. Got x z))
between_by k o c b H r t ts e x rest g u more same true h = record {
  front = t ∷ (g.front ++ u ∷ []);
  parts = ap (λ (l : List Token). t ∷ l) (g.parts ∙ ap (λ (l : List Token). g.front ++ l) same ∙ sym (append_assoc g.front (u ∷ []) more));
  spelled = between_spelled o c H t u g.front x e h k g.spelled;
  level = walk_open k t (g.front ++ u ∷ []) (turn_opens o c b t.kind e) ∙ walk_append g.front (u ∷ []) k k g.level ∙ walk_close k u (turn_closes o c b u.kind h);
  again = λ s same_kind. ap (λ (l : List Token). between o c (Some r) (t ∷ l)) (append_assoc g.front (u ∷ []) s) ∙ between_open o c (Some r) t (g.front ++ u ∷ s) e ∙ ap (λ (a : Answer _). and_then a (closed c)) (g.again (u ∷ s) (ap kind_of (sym same))) ∙ closed_got c x u s h;
}
between_by k o c b H r t ts e x rest g u more same false h = record {
  front = t ∷ g.front;
  parts = ap (λ (l : List Token). t ∷ l) (g.parts ∙ ap (λ (l : List Token). g.front ++ l) same);
  begins = between_closes o c H t g.front x e b.close_is k g.spelled;
  left = k;
  level = walk_open k t g.front (turn_opens o c b t.kind e) ∙ g.level;
  cause = tt;
  again = λ s same_kind. between_open o c (Some r) t (g.front ++ s) e ∙ ap (λ (a : Answer _). and_then a (closed c)) (g.again s (same_kind ∙ ap kind_of (sym same))) ∙ closed_refused c x s (ap (is c) same_kind ∙ h);
}

-- what follows the value within, or the end
between_after : {A : Type 0} (k : ℕ) (o c : Kind) → AreBrackets o c → (H : ℕ → Grammar A) (r : Reading A) (t : Token) (ts : List Token) → is o t.kind ≡ true
    → (x : A) (rest : List Token) → GotAt k H r ts x rest → (l : List Token) → rest ≡ l → Known (suc k) (λ m. Between o c (Inside H m)) (between o c (Some r)) (t ∷ ts) (closed c x l)
between_after k o c b H r t ts e x rest g [] same = record {
  front = t ∷ g.front;
  parts = ap (λ (l : List Token). t ∷ l) (g.parts ∙ ap (λ (l : List Token). g.front ++ l) same);
  begins = between_closes o c H t g.front x e b.close_is k g.spelled;
  left = k;
  level = walk_open k t g.front (turn_opens o c b t.kind e) ∙ g.level;
  cause = tt;
  again = λ s same_kind. between_open o c (Some r) t (g.front ++ s) e ∙ ap (λ (a : Answer _). and_then a (closed c)) (g.again s (same_kind ∙ ap kind_of (sym same))) ∙ closed_refused c x s (ap (is c) same_kind ∙ b.close_no_end);
}
between_after k o c b H r t ts e x rest g (u ∷ more) same = between_by k o c b H r t ts e x rest g u more same (is c u.kind) refl

-- what reading within tells, told with brackets
between_inner : {A : Type 0} (k : ℕ) (o c : Kind) → AreBrackets o c → (H : ℕ → Grammar A) (r : Reading A) (t : Token) (ts : List Token) → is o t.kind ≡ true
    → (a : Answer A) → Known k H r ts a → Known (suc k) (λ m. Between o c (Inside H m)) (between o c (Some r)) (t ∷ ts) (and_then a (closed c))
between_inner k o c b H r t ts e (Got x rest) g = between_after k o c b H r t ts e x rest g rest refl
between_inner k o c b H r t ts e (Refused w rest) g = record {
  front = t ∷ g.front;
  parts = ap (λ (l : List Token). t ∷ l) g.parts;
  begins = between_begins o c H t g.front (must w rest) e b.close_is k g.begins;
  left = g.left;
  level = walk_open k t g.front (turn_opens o c b t.kind e) ∙ g.level;
  cause = g.cause;
  again = λ s same_kind. between_open o c (Some r) t (g.front ++ s) e ∙ ap (λ (a : Answer _). and_then a (closed c)) (g.again s same_kind);
}

-- something is spelled within
inside_begins : {A : Type 0} (n d : ℕ) (e : Bool) (first stops : Kinds) (H : ℕ → Grammar A) (r : Option (Reading A)) → InsideLaws n d e first stops H r → (m : ℕ) → d ≤ m → Begins (H m) []
inside_begins zero d e first stops H None p m l = p m l
inside_begins zero d e first stops H (Some r) p m l = absurd p
inside_begins (suc n) d e first stops H None p m l = absurd p
inside_begins (suc n) d e first stops H (Some r) p m l = p.sample m l

-- something is spelled with brackets
between_begin : {A : Type 0} (o c : Kind) → AreBrackets o c → (d : ℕ) (H : ℕ → Grammar A) → ((m : ℕ) → d ≤ m → Begins (H m) []) → (m : ℕ) → suc d ≤ m → Begins (Between o c (Inside H m)) []
between_begin o c b d H h zero l = absurd (omega arith)
between_begin o c b d H h (suc m) l = between_sample o c (H m) b.open_is b.close_is (h m (omega arith))

-- a bracket that opens here, and the rest of what it opens
between_starts : {A : Type 0} (o c : Kind) → AreBrackets o c → (d : ℕ) (H : ℕ → Grammar A) → ((m : ℕ) → d ≤ m → Begins (H m) []) → (t : Token) → is o t.kind ≡ true → (m : ℕ) → suc d ≤ m → Begins (Between o c (Inside H m)) (t ∷ [])
between_starts o c b d H h t e zero l = absurd (omega arith)
between_starts o c b d H h t e (suc m) l = let q = h m (omega arith) in (q.0 ++ token_of c ∷ [], q.1, (t, q.0, token_of c, refl, e, q.2, b.close_is))

-- what is told by whether a bracket opens
between_known_open : {A : Type 0} (n d : ℕ) (e : Bool) (first stops : Kinds) (o c : Kind) → AreBrackets o c → d ≤ 2 → (H : ℕ → Grammar A) (r : Option (Reading A)) → InsideLaws n d e first stops H r
    → (t : Token) (ts : List Token) (v : Bool) → is o t.kind ≡ v → Known n (λ m. Between o c (Inside H m)) (between o c r) (t ∷ ts) (opened v c r (t ∷ ts) ts)
between_known_open n d e first stops o c b small H r p t ts false h = record {
  front = [];
  parts = refl;
  begins = λ m l. between_begin o c b d H (inside_begins n d e first stops H r p) m (omega arith);
  left = n;
  level = refl;
  cause = tt;
  again = λ s same. between_wrong o c r s (ap (is o) same ∙ h);
}
between_known_open zero d e first stops o c b small H None p t ts true h = record {
  front = [];
  parts = refl;
  begins = λ m l. between_starts o c b d H p t h m (omega arith);
  left = 0;
  level = refl;
  cause = (refl, turn_opens o c b t.kind h);
  again = λ s same. between_deep o c s b.no_end (ap (is o) same ∙ h);
}
between_known_open zero d e first stops o c b small H (Some r) p t ts true h = absurd p
between_known_open (suc n) d e first stops o c b small H None p t ts true h = absurd p
between_known_open (suc n) d e first stops o c b small H (Some r) p t ts true h = between_inner n o c b H r t ts h (r ts) (p.known ts)

-- what reading between brackets tells
between_known : {A : Type 0} (n d : ℕ) (e : Bool) (first stops : Kinds) (o c : Kind) → AreBrackets o c → d ≤ 2 → (H : ℕ → Grammar A) (r : Option (Reading A)) → InsideLaws n d e first stops H r
    → (ts : List Token) → Known n (λ m. Between o c (Inside H m)) (between o c r) ts (between o c r ts)
between_known n d e first stops o c b small H r p [] = record {
  front = [];
  parts = refl;
  begins = λ m l. between_begin o c b d H (inside_begins n d e first stops H r p) m (omega arith);
  left = n;
  level = refl;
  cause = tt;
  again = λ s same. between_wrong o c r s (ap (is o) same ∙ b.no_end);
}
between_known n d e first stops o c b small H r p (t ∷ ts) = between_known_open n d e first stops o c b small H r p t ts (is o t.kind) refl

-- what is spelled is read
between_only : {A : Type 0} (n d : ℕ) (e : Bool) (first stops : Kinds) (o c : Kind) → AreBrackets o c → (H : ℕ → Grammar A) (r : Option (Reading A)) → InsideLaws n d e first stops H r → Within (is c) stops
    → (b : List Token) (x : A) (s : List Token) → Between o c (Inside H n) b x → between o c r (b ++ s) ≡ Got x s
between_only zero d e first stops o c k H r p w b x s g = absurd g.5
between_only (suc n) d e first stops o c k H None p w b x s g = absurd p
between_only (suc n) d e first stops o c k H (Some r) p w b x s g =
    ap (λ (l : List Token). between o c (Some r) (l ++ s)) g.3 ∙ ap (λ (l : List Token). between o c (Some r) (g.0 ∷ l)) (append_assoc g.1 (g.2 ∷ []) s)
    ∙ between_open o c (Some r) g.0 (g.1 ++ g.2 ∷ s) g.4 ∙ ap (λ (a : Answer _). and_then a (closed c)) (p.only g.1 x (g.2 ∷ s) g.5 (within (is c) stops w g.2.kind g.6)) ∙ closed_got c x g.2 s g.6

-- it begins with its bracket
between_first : {A : Type 0} (o c : Kind) (g : Grammar A) (t : Token) (b : List Token) (x : A) → Between o c g (t ∷ b) x → IsTrue (is o t.kind)
between_first o c g t b x h = let e : h.0 ≡ t = cc (h.3) in subst (λ (u : Token). IsTrue (is o u.kind)) e h.4

-- no tokens spell nothing
between_none : {A : Type 0} (o c : Kind) (g : Grammar A) (x : A) → Between o c g [] x → ⊥
between_none o c g x h = cc (h.3)

-- the laws of a part between brackets
pub between_laws : {A : Type 0} (n d : ℕ) (e : Bool) (first stops : Kinds) (o c : Kind) → AreBrackets o c → d ≤ 2 → (H : ℕ → Grammar A) (r : Option (Reading A)) → InsideLaws n d e first stops H r → Within (is c) stops
    → Laws n (suc d) false (is o) any_kind (λ m. Between o c (Inside H m)) (between o c r)
between_laws n d e first stops o c b small H r p w = record {
  known = between_known n d e first stops o c b small H r p;
  only = λ l x s g k. between_only n d e first stops o c b H r p w l x s g;
  sample = between_begin o c b d H (inside_begins n d e first stops H r p);
  starts = λ m t l x g. between_first o c (Inside H m) t l x g;
  empties = λ m x g. absurd (between_none o c (Inside H m) x g);
}
