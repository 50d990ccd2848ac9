-- Kinds of tokens: what they do to brackets, and sets of kinds.
use Rattle.std.specs.Prelude.{ℕ, Bool, false, not, ◌||◌, nat_eq, List, [], ◌∷◌}
use Rattle.s_syntax.specs.declared.token.Kind.{Kind}
use Rattle.s_syntax.specs.declared.token.Kind.TheVariants as kind
use Rattle.s_syntax.specs.declared.token.Token.{Token}

-- the kind of the first token; the end of the file counts as one
abbrev pub kind_of : List Token → Kind
kind_of [] = kind.End
kind_of (t ∷ ts) = t.kind

-- what a token does to the brackets that are open
pub data Turn : Type 0 where
  Opens : Turn
  Closes : Turn
  Passes : Turn

abbrev pub turn : Kind → Turn
turn kind.OpenParenthesis = Opens
turn kind.OpenBrace = Opens
turn kind.CloseParenthesis = Closes
turn kind.CloseBrace = Closes
turn k = Passes

-- ## Sets of kinds

abbrev pub Kinds : Type 0
Kinds = Kind → Bool

-- the number of a kind, by which kinds are compared
abbrev pub code : Kind → ℕ
code kind.Name = 0
code kind.Int = 1
code kind.Effect = 2
code kind.Fn = 3
code kind.Handler = 4
code kind.Return = 5
code kind.On = 6
code kind.Let = 7
code kind.If = 8
code kind.Else = 9
code kind.While = 10
code kind.Print = 11
code kind.Fail = 12
code kind.Do = 13
code kind.Handle = 14
code kind.With = 15
code kind.Resume = 16
code kind.Res = 17
code kind.Slots = 18
code kind.Store = 19
code kind.Take = 20
code kind.Spawn = 21
code kind.Switch = 22
code kind.Group = 23
code kind.Coro = 24
code kind.Equal = 25
code kind.NotEqual = 26
code kind.AtMost = 27
code kind.AtLeast = 28
code kind.And = 29
code kind.Or = 30
code kind.OpenParenthesis = 31
code kind.CloseParenthesis = 32
code kind.OpenBrace = 33
code kind.CloseBrace = 34
code kind.OpenBracket = 35
code kind.CloseBracket = 36
code kind.Comma = 37
code kind.Semicolon = 38
code kind.Colon = 39
code kind.Slash = 40
code kind.Assign = 41
code kind.Plus = 42
code kind.Minus = 43
code kind.Star = 44
code kind.Percent = 45
code kind.Less = 46
code kind.Greater = 47
code kind.Not = 48
code kind.End = 49

-- this kind alone
abbrev pub is : Kind → Kinds
is k j = nat_eq (code k) (code j)

abbrev pub no_kind : Kinds
no_kind k = false

abbrev pub other_than : Kinds → Kinds
other_than a k = not (a k)

abbrev pub either : Kinds → Kinds → Kinds
either a b k = a k || b k
