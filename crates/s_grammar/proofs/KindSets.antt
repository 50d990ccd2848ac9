-- Sets of kinds, decided by computing.
use Rattle.std.proofs.Common.{◌≡◌, ℕ, zero, suc, Bool, true, false, not, ◌&&◌, if◌then◌else◌, List, [], ◌∷◌, refl, sym, ap, subst, ◌∙◌}
use Rattle.std.specs.Prelude.{IsTrue}
use Rattle.std.proofs.lemmas.Bool.{eqb-true}
use Rattle.s_syntax.specs.declared.token.Kind.{Kind}
use Rattle.s_syntax.specs.declared.token.Kind.TheVariants as kind
use Rattle.s_grammar.specs.Kinds.{Kinds, Turn, Opens, Closes, Passes, is, turn, code}

-- all kinds
abbrev pub any_kind : Kinds
any_kind k = true

-- those of both sets
abbrev pub both : Kinds → Kinds → Kinds
both a b k = a k && b k

-- one test where another passes
abbrev pub implies : Bool → Bool → Bool
implies a b = if a then b else true

-- the test holds of each of the kinds, and of the end
abbrev pub holds_of : Kinds → List Kind → Bool
holds_of t [] = t kind.End
holds_of t (k ∷ ks) = t k && holds_of t ks

-- all kinds but the end, in the order of their numbers
abbrev pub kinds : List Kind
kinds =
    kind.Name ∷ kind.Int ∷ kind.Effect ∷ kind.Fn ∷ kind.Handler ∷ kind.Return ∷ kind.On ∷ kind.Let ∷ kind.If ∷ kind.Else ∷ kind.While ∷ kind.Print ∷ kind.Fail
    ∷ kind.Do ∷ kind.Handle ∷ kind.With ∷ kind.Resume ∷ kind.Res ∷ kind.Slots ∷ kind.Store ∷ kind.Take ∷ kind.Spawn ∷ kind.Switch ∷ kind.Group
    ∷ kind.Coro ∷ kind.Equal ∷ kind.NotEqual ∷ kind.AtMost ∷ kind.AtLeast ∷ kind.And ∷ kind.Or
    ∷ kind.OpenParenthesis ∷ kind.CloseParenthesis ∷ kind.OpenBrace ∷ kind.CloseBrace ∷ kind.OpenBracket ∷ kind.CloseBracket ∷ kind.Comma ∷ kind.Semicolon ∷ kind.Colon ∷ kind.Slash ∷ kind.Assign
    ∷ kind.Plus ∷ kind.Minus ∷ kind.Star ∷ kind.Percent ∷ kind.Less ∷ kind.Greater ∷ kind.Not ∷ []

-- each kind of a is one of b
abbrev pub Within : Kinds → Kinds → Type 0
Within a b = IsTrue (holds_of (λ k. implies (a k) (b k)) kinds)

-- the token is no bracket
abbrev pub is_pass : Turn → Bool
is_pass Opens = false
is_pass Closes = false
is_pass Passes = true

-- it opens one
abbrev pub is_open : Turn → Bool
is_open Opens = true
is_open Closes = false
is_open Passes = false

-- it closes one
abbrev pub is_close : Turn → Bool
is_close Opens = false
is_close Closes = true
is_close Passes = false

-- the kinds of tokens that are no brackets and not the end
abbrev pub plain : Kinds
plain k = not (is kind.End k) && is_pass (turn k)

-- the brackets that open
abbrev pub opening : Kinds
opening k = is_open (turn k)

-- the brackets that close
abbrev pub closing : Kinds
closing k = is_close (turn k)

-- both of a conjunction
pub and_parts : (a b : Bool) → IsTrue (a && b) → IsTrue a × IsTrue b
and_parts true b h = (refl, h)
and_parts false b h = absurd cc

-- the kind of a number
abbrev nth : List Kind → ℕ → Kind
nth [] n = kind.End
nth (k ∷ ks) zero = k
nth (k ∷ ks) (suc n) = nth ks n

-- the test holds of the end
holds_end : (t : Kinds) (ks : List Kind) → IsTrue (holds_of t ks) → IsTrue (t kind.End)
holds_end t [] h = h
holds_end t (a ∷ ks) h = holds_end t ks (and_parts (t a) (holds_of t ks) h).1

-- and of each kind of the list
holds_nth : (t : Kinds) (ks : List Kind) (n : ℕ) → IsTrue (holds_of t ks) → IsTrue (t (nth ks n))
holds_nth t [] n h = h
holds_nth t (a ∷ ks) zero h = (and_parts (t a) (holds_of t ks) h).0
holds_nth t (a ∷ ks) (suc n) h = holds_nth t ks n (and_parts (t a) (holds_of t ks) h).1

-- a kind is found by its number
nth_code : (k : Kind) → nth kinds (code k) ≡ k
nth_code kind.Name = refl
nth_code kind.Int = refl
nth_code kind.Effect = refl
nth_code kind.Fn = refl
nth_code kind.Handler = refl
nth_code kind.Return = refl
nth_code kind.On = refl
nth_code kind.Let = refl
nth_code kind.If = refl
nth_code kind.Else = refl
nth_code kind.While = refl
nth_code kind.Print = refl
nth_code kind.Fail = refl
nth_code kind.Do = refl
nth_code kind.Handle = refl
nth_code kind.With = refl
nth_code kind.Resume = refl
nth_code kind.Res = refl
nth_code kind.Slots = refl
nth_code kind.Store = refl
nth_code kind.Take = refl
nth_code kind.Spawn = refl
nth_code kind.Switch = refl
nth_code kind.Group = refl
nth_code kind.Coro = refl
nth_code kind.Equal = refl
nth_code kind.NotEqual = refl
nth_code kind.AtMost = refl
nth_code kind.AtLeast = refl
nth_code kind.And = refl
nth_code kind.Or = refl
nth_code kind.OpenParenthesis = refl
nth_code kind.CloseParenthesis = refl
nth_code kind.OpenBrace = refl
nth_code kind.CloseBrace = refl
nth_code kind.OpenBracket = refl
nth_code kind.CloseBracket = refl
nth_code kind.Comma = refl
nth_code kind.Semicolon = refl
nth_code kind.Colon = refl
nth_code kind.Slash = refl
nth_code kind.Assign = refl
nth_code kind.Plus = refl
nth_code kind.Minus = refl
nth_code kind.Star = refl
nth_code kind.Percent = refl
nth_code kind.Less = refl
nth_code kind.Greater = refl
nth_code kind.Not = refl
nth_code kind.End = refl

-- a test that holds of each kind holds of this one
pub holds : (t : Kinds) → IsTrue (holds_of t kinds) → (k : Kind) → IsTrue (t k)
holds t h k = subst (λ (j : Kind). IsTrue (t j)) (nth_code k) (holds_nth t kinds (code k) h)

-- a token is of this kind
pub is_kind : (k j : Kind) → is k j ≡ true → j ≡ k
is_kind k j h = sym (nth_code j) ∙ ap (nth kinds) (sym (eqb-true (code k) (code j) h)) ∙ nth_code k

-- what an implication gives
implied : (a b : Bool) → IsTrue (implies a b) → IsTrue a → IsTrue b
implied true b h p = h
implied false b h p = absurd cc

-- a kind of a set within another is of that too
pub within : (a b : Kinds) → Within a b → (k : Kind) → IsTrue (a k) → IsTrue (b k)
within a b h k = implied (a k) (b k) (holds (λ j. implies (a j) (b j)) h k)

-- what is not so is false
no_false : (v : Bool) → IsTrue (not v) → v ≡ false
no_false true h = absurd cc
no_false false h = refl

-- a bracket that opens
pub opens_is : (t : Turn) → IsTrue (is_open t) → t ≡ Opens
opens_is Opens h = refl
opens_is Closes h = absurd cc
opens_is Passes h = absurd cc

-- a bracket that closes
pub closes_is : (t : Turn) → IsTrue (is_close t) → t ≡ Closes
closes_is Closes h = refl
closes_is Opens h = absurd cc
closes_is Passes h = absurd cc

-- no bracket
pub passes_is : (t : Turn) → IsTrue (is_pass t) → t ≡ Passes
passes_is Passes h = refl
passes_is Opens h = absurd cc
passes_is Closes h = absurd cc
