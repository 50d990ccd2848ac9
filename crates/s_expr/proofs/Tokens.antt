-- Where tokens stand in the bytes.
use Rattle.std.proofs.Common.{◌≡◌, ℕ, zero, suc, ◌≤◌, Bool, true, false, if◌then◌else◌, List, [], ◌∷◌, drop, subst, arith}
use Rattle.s_syntax.specs.declared.token.Kind.{Kind}
use Rattle.s_syntax.specs.declared.token.Token.{Token}
use Rattle.s_lex.specs.Lexes.{AreInOrder}
use Rattle.s_grammar.specs.Kinds.{is}
use Rattle.s_grammar.specs.Reading.{Got, Refused, Wrong}
use Rattle.s_grammar.specs.Reads.{key}

-- tokens in order end within their bounds
in_bounds : (from to : ℕ) (ts : List Token) → AreInOrder from to ts → from ≤ to
in_bounds from to [] o = o
in_bounds from to (t ∷ ts) o = omega (arith, o.0, o.1, in_bounds t.end to ts o.2)

-- what is read as one token is the first
first_is : (v : Bool) (u t : Token) (ts rest : List Token) → (if v then Got u ts else Refused Wrong (u ∷ ts)) ≡ Got t rest → u ≡ t
first_is true u t ts rest e = cc
first_is false u t ts rest e = absurd cc

-- a token that is read covers bytes that are there
pub key_covers : (ts : List Token) (from to at : ℕ) (k : Kind) (t : Token) (rest : List Token) → AreInOrder from to ts → key k (drop at ts) ≡ Got t rest → (t.start ≤ t.end) × (t.end ≤ to)
key_covers [] from to zero k t rest o e = absurd cc
key_covers [] from to (suc at) k t rest o e = absurd cc
key_covers (u ∷ ts) from to zero k t rest o e =
    subst (λ (v : Token). (v.start ≤ v.end) × (v.end ≤ to)) (first_is (is k u.kind) u t ts rest e) (omega (arith, o.1), in_bounds u.end to ts o.2)
key_covers (u ∷ ts) from to (suc at) k t rest o e = key_covers ts u.end to at k t rest o.2 e
