-- Lists and functions whose parts are spelled by what is written of them are spelled by what is written of them.
use Rattle.std.proofs.Common.{ℕ, ◌^◌, ◌<◌, ◌≤◌, List, [], ◌∷◌, ◌++◌, length, refl, arith}
use Rattle.std.specs.List.{flat_map}
use Rattle.std.proofs.lemmas.List.{length-append}
use Rattle.std.proofs.lemmas.Bool.{lt-ltb}
use Rattle.w_leb.specs.Format.{Format, Each, Counted}
use Rattle.w_leb.specs.Formats.{vec}
use Rattle.w_leb.specs.Number.{shortest}
use Rattle.w_leb.specs.ShortestLaws.{shortest_spells}
use Rattle.w_leb.specs.CanonicalLaws.{vec_written, each_byte}
use Rattle.w_syntax.specs.declared.instructions.Token.{Token}
use Rattle.w_syntax.specs.declared.instructions.Token.TheVariants as tok
use Rattle.w_syntax.specs.declared.module.Func.{Func}
use Rattle.w_syntax.specs.Code.{Code, Done, Plain, Block, If, IfElse}
use Rattle.w_syntax.specs.Tokens.{token}
use Rattle.w_syntax.specs.Expr.{tokens, Expr}
use Rattle.w_syntax.specs.Locals.{total}
use Rattle.w_syntax.specs.Fields.{run, locals, expr, func, code}
use Rattle.w_encode.specs.InstructionsWritten.{token_written, expr_written}
use Rattle.w_encode.specs.Canon.{run_written, func_written, code_written}
use Rattle.w_encode.specs.Spelled.{EachSpelled, ListSpelled, TokenSpelled, CodeSpelled, FunctionSpelled, FunctionsSpelled}

-- ## Lists

pub each_spells : {A : Type 0} (f : Format A) (w : A → List ℕ) (xs : List A) → EachSpelled f w xs → Each f.Spells (flat_map w xs) xs
unfolding Each
each_spells f w [] h = refl
each_spells f w (x ∷ xs) h = (w x, flat_map w xs, refl, h.0, each_spells f w xs h.1)

pub list_spells : {A : Type 0} (f : Format A) (w : A → List ℕ) (xs : List A) → ListSpelled f w xs → (vec f).Spells (vec_written w xs) xs
unfolding Counted
list_spells f w xs h = (shortest (length xs), flat_map w xs, refl, shortest_spells 9 32 (length xs) (omega arith) h.0, each_spells f w xs h.1)

pub both_spelled : {A : Type 0} (f : Format A) (w : A → List ℕ) (xs ys : List A) → EachSpelled f w xs → EachSpelled f w ys → EachSpelled f w (xs ++ ys)
both_spelled f w [] ys h g = g
both_spelled f w (x ∷ xs) ys h g = (h.0, both_spelled f w xs ys h.1 g)

-- ## Bodies

-- the marks that take no more than their byte
else_spelled : TokenSpelled tok.Else
unfolding token
else_spelled = (refl, refl)

end_spelled : TokenSpelled tok.End
unfolding token
end_spelled = (refl, refl)

abbrev AllSpelled : List Token → Type 0
AllSpelled ts = EachSpelled token token_written ts

-- two sequences with a mark between them
marked : (ts : List Token) (t : Token) (us : List Token) → AllSpelled ts → TokenSpelled t → AllSpelled us → AllSpelled (ts ++ t ∷ us)
marked ts t us h e g = both_spelled token token_written ts (t ∷ us) h (e, g)

tokens_spelled : (c : Code) → CodeSpelled c → AllSpelled (tokens c)
unfolding tokens
tokens_spelled Done h = tt
tokens_spelled (Plain o r) h = (h.0, tokens_spelled r h.1)
tokens_spelled (Block kind b x r) h = (h.0, marked (tokens x) tok.End (tokens r) (tokens_spelled x h.1) end_spelled (tokens_spelled r h.2))
tokens_spelled (If b x r) h = (h.0, marked (tokens x) tok.End (tokens r) (tokens_spelled x h.1) end_spelled (tokens_spelled r h.2))
tokens_spelled (IfElse b x y r) h =
    (h.0, marked (tokens x) tok.Else (tokens y ++ tok.End ∷ tokens r) (tokens_spelled x h.1) else_spelled (marked (tokens y) tok.End (tokens r) (tokens_spelled y h.2) end_spelled (tokens_spelled r h.3)))

body_spells : (c : Code) → CodeSpelled c → expr.Spells (expr_written c) c
unfolding expr Expr
body_spells c h = each_spells token token_written (tokens c ++ tok.End ∷ []) (marked (tokens c) tok.End [] (tokens_spelled c h) end_spelled tt)

-- ## Functions

-- the runs that are written are those that joining leaves
locals_spell : (f : Func) → FunctionSpelled f → locals.Spells (vec_written run_written f.locals) f.locals
unfolding locals
locals_spell f h = (f.locals, (list_spells run run_written f.locals h.runs, lt-ltb (total f.locals) (2 ^ 32) h.few), h.alone)

func_spells : (f : Func) → FunctionSpelled f → func.Spells (func_written f) f
unfolding func
func_spells f h = ((f.locals, f.body), (vec_written run_written f.locals, expr_written f.body, refl, locals_spell f h, body_spells f.body h.body), refl)

code_spells : (f : Func) → FunctionSpelled f → length (func_written f) < 2 ^ 32 → code.Spells (code_written f) f
unfolding code Counted
code_spells f h lt = (func_written f, (shortest (length (func_written f)), func_written f, refl, shortest_spells 9 32 (length (func_written f)) (omega arith) lt, each_byte (func_written f)), func_spells f h)

-- functions whose codes are within 2^30 bytes
pub codes_spelled : (fs : List Func) → FunctionsSpelled fs → length (flat_map code_written fs) ≤ 2 ^ 30 → EachSpelled code code_written fs
codes_spelled [] h le = tt
codes_spelled (f ∷ fs) h le =
    let e = func_written f in
    let whole = length-append (code_written f) (flat_map code_written fs) in
    (code_spells f h.0 (omega (arith, le, whole, length-append (shortest (length e)) e)), codes_spelled fs h.1 (omega (arith, le, whole)))
