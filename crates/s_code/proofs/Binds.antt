-- The names that statements bind.
use Rattle.std.proofs.Common.{◌≡◌, ◌≤◌, List, ◌++◌, ◌+◌, length, map, refl, sym, ap, ◌∙◌, arith, length-append}
use Rattle.std.proofs.lemmas.List.{length-map, map-append}
use Rattle.s_syntax.specs.declared.name.Name.{Name}
use Rattle.s_syntax.specs.declared.statement.Use.{Use}
use Rattle.s_syntax.specs.declared.statement.Use.TheVariants as use_for
use Rattle.s_syntax.specs.declared.script.Declaration.{Declaration}
use Rattle.s_syntax.specs.BlockTree.{StatementTree, BlockTree, Evaluate, If, While, Fail, Spawn, Done, ◌⨟◌}
use Rattle.s_check.specs.Scopes.{Bound, lets_by, lets_of, lets_in}
use Rattle.s_check.specs.Size.{use_size, statement_size, block_size}
use Rattle.s_code.specs.Places.{binds_by, binds_of, binds_in}

abbrev pub names : List Bound → List Name
names bs = map (λ (b : Bound). b.name) bs

-- ## They are those that the rules ask for

pub names_by : (ds : List Declaration) (u : Use) → names (binds_by ds u) ≡ lets_by u
names_by ds (use_for.Let x) = refl
names_by ds (use_for.Assign x) = refl
names_by ds use_for.Print = refl
names_by ds use_for.Return = refl
names_by ds use_for.Drop = refl
names_by ds (use_for.Store s k) = refl
names_by ds (use_for.Take k s) = refl
names_by ds (use_for.Switch x u t) = refl

-- names of two lists
both : (bs cs : List Bound) (xs ys : List Name) → names bs ≡ xs → names cs ≡ ys → names (bs ++ cs) ≡ xs ++ ys
both bs cs xs ys b c = map-append (λ (a : Bound). a.name) bs cs ∙ ap (λ (zs : List Name). zs ++ names cs) b ∙ ap (λ (zs : List Name). xs ++ zs) c

mutual
  pub names_of : (ds : List Declaration) (s : StatementTree) → names (binds_of ds s) ≡ lets_of s
  names_of ds (Evaluate u e) = names_by ds u
  names_of ds (If c a b) = both (binds_in ds a) (binds_in ds b) (lets_in a) (lets_in b) (names_in ds a) (names_in ds b)
  names_of ds (While c b) = names_in ds b
  names_of ds Fail = refl
  names_of ds (Spawn t f) = refl

  pub names_in : (ds : List Declaration) (b : BlockTree) → names (binds_in ds b) ≡ lets_in b
  names_in ds Done = refl
  names_in ds (s ⨟ b) = both (binds_of ds s) (binds_in ds b) (lets_of s) (lets_in b) (names_of ds s) (names_in ds b)

-- as many as there are
pub as_many_in : (ds : List Declaration) (b : BlockTree) → length (binds_in ds b) ≡ length (lets_in b)
as_many_in ds b = sym (length-map (binds_in ds b) (λ (a : Bound). a.name)) ∙ ap (λ (xs : List Name). length xs) (names_in ds b)

-- ## They are no more than a body is large

-- a use binds one name at most, and a switch two
pub binds_by_few : (ds : List Declaration) (u : Use) → length (binds_by ds u) ≤ 1 + use_size u
binds_by_few ds (use_for.Let x) = omega arith
binds_by_few ds (use_for.Assign x) = omega arith
binds_by_few ds use_for.Print = omega arith
binds_by_few ds use_for.Return = omega arith
binds_by_few ds use_for.Drop = omega arith
binds_by_few ds (use_for.Store s k) = omega arith
binds_by_few ds (use_for.Take k s) = omega arith
binds_by_few ds (use_for.Switch x u t) = omega arith

mutual
  binds_few : (ds : List Declaration) (s : StatementTree) → length (binds_of ds s) ≤ statement_size s
  binds_few ds (Evaluate u e) = let q = binds_by_few ds u in omega (arith, q)
  binds_few ds (If c a b) = let q = binds_within ds a in let r = binds_within ds b in let l = length-append (binds_in ds a) (binds_in ds b) in omega (arith, q, r, l)
  binds_few ds (While c b) = let q = binds_within ds b in omega (arith, q)
  binds_few ds Fail = omega arith
  binds_few ds (Spawn t f) = omega arith

  pub binds_within : (ds : List Declaration) (b : BlockTree) → length (binds_in ds b) ≤ block_size b
  binds_within ds Done = omega arith
  binds_within ds (s ⨟ b) = let q = binds_few ds s in let r = binds_within ds b in let l = length-append (binds_of ds s) (binds_in ds b) in omega (arith, q, r, l)
