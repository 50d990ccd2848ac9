-- How great the numbers become that a script's names get in its module.
use Rattle.std.specs.Prelude.{ℕ}

-- no more declarations, names or temporaries come of a script that isn't too large; so each number has 32 bits
abbrev pub number_limit : ℕ
number_limit = 1000000
