-- As many declarations are counted as there are.
use Rattle.std.proofs.Common.{◌≡◌, ℕ, ◌+◌, List, [], ◌∷◌, length, arith}
use Rattle.s_syntax.specs.declared.script.Definition.{Definition}
use Rattle.s_syntax.specs.declared.script.Definition.TheVariants as definition
use Rattle.s_syntax.specs.declared.script.Declaration.{Declaration}
use Rattle.s_index.specs.declared.counts.Counts.{Counts}
use Rattle.s_index.specs.Numbers.{no_counts, counted, counted_all, counts_of}

-- all kinds together
abbrev pub total : Counts → ℕ
total n = n.effects + n.functions + n.handlers + n.slots

pub one_more : (n : Counts) (d : Definition) → total (counted n d) ≡ total n + 1
one_more n (definition.Effect k) = omega arith
one_more n (definition.Function f) = omega arith
one_more n (definition.Handler h) = omega arith
one_more n (definition.Slots s) = omega arith

all_counted : (n : Counts) (ds : List Declaration) → total (counted_all n ds) ≡ total n + length ds
all_counted n [] = omega arith
all_counted n (d ∷ ds) = let q = all_counted (counted n d.definition) ds in let r = one_more n d.definition in omega (arith, q, r)

-- no more than there are
pub few_counted : (ds : List Declaration) → (counts_of ds).effects + (counts_of ds).functions + (counts_of ds).handlers + (counts_of ds).slots ≡ length ds
few_counted ds = let q : total (counts_of ds) ≡ total no_counts + length ds = all_counted no_counts ds in omega (arith, q)
