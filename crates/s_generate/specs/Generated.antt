-- The generated script: n tasks, each of which performs an effect some times, and a handler that counts them.
use Rattle.std.specs.Prelude.{ℕ, zero, suc, ◌+◌, ◌*◌, ◌%◌, List, [], ◌++◌, codes, decimal}

-- how often the task of this number performs the effect
abbrev pub ticks_of : ℕ → ℕ
ticks_of id = (37 * id) % 97 + 1

-- a line that calls a task
abbrev pub call_line : ℕ → List ℕ
call_line id = codes "task(" ++ decimal id ++ codes ", " ++ decimal (ticks_of id) ++ codes ");\n"

-- the calls of tasks 1 to n
abbrev pub calls : ℕ → List ℕ
calls zero = []
calls (suc n) = calls n ++ call_line (suc n)

abbrev pub declarations : List ℕ
declarations = codes "effect tick/1;\nfn task(id, n) { let i = 0; while i < n { do tick(id); i = i + 1; } return 0; }\nhandler count(ticks, total) { return(x) { print ticks; return total; } on tick(w) k { return resume k(0) with (ticks + 1, total + w); } }\nfn all() {\n"

-- main prints n, and then what the handler comes to
abbrev pub before_number : List ℕ
before_number = codes "}\nfn main() { print "

abbrev pub behind_number : List ℕ
behind_number = codes "; return handle all() with count(0, 0); }\n"

abbrev pub main_line : ℕ → List ℕ
main_line n = (before_number ++ decimal n) ++ behind_number

abbrev pub generated : ℕ → List ℕ
generated n = (declarations ++ calls n) ++ main_line n
