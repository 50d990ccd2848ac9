-- What the reading of a whole list of tokens says.
use Rattle.std.specs.Prelude.{ℕ, ◌-◌, List, [], ◌∷◌, length, Result, Ok, Err}
use Rattle.s_syntax.specs.declared.token.Token.{Token}
use Rattle.s_syntax.specs.declared.script.Script.{Script}
use Rattle.s_grammar.specs.Reading.{Answer, Got, Refused, Wrong, TooDeep}
use Rattle.s_grammar.specs.Reads.{script}
use Rattle.s_parse.specs.declared.fault.ParseFault.{ParseFault}
use Rattle.s_parse.specs.declared.fault.ParseFault.TheVariants as fault

-- by the number of tokens; tokens that are left are wrong
abbrev pub verdict : ℕ → Answer Script → Result Script ParseFault
verdict n (Got p []) = Ok p
verdict n (Got p (t ∷ ts)) = Err (fault.Parse (n - length (t ∷ ts)))
verdict n (Refused Wrong ts) = Err (fault.Parse (n - length ts))
verdict n (Refused TooDeep ts) = Err fault.Deep

unfoldable pub parsed : List ℕ → List Token → Result Script ParseFault
parsed bytes ts = verdict (length ts) (script bytes 64 ts)
