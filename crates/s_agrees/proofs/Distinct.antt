-- In a body that breaks no rule no name is bound twice: each is found where it is bound.
use Rattle.std.proofs.Common.{◌≡◌, ℕ, zero, suc, Bool, true, false, ◌||◌, List, [], ◌∷◌, ◌++◌, map, Some, slice_get, if◌then◌else◌, refl, sym, ap, ◌∙◌}
use Rattle.std.specs.Str.{bytes_eq}
use Rattle.s_syntax.specs.declared.name.Name.{Name}
use Rattle.s_syntax.specs.declared.script.Declaration.{Declaration}
use Rattle.s_syntax.specs.BlockTree.{BlockTree}
use Rattle.s_check.specs.declared.rule.Rule.TheVariants as rule
use Rattle.s_check.specs.Rules.{when, in_block, in_body}
use Rattle.s_check.specs.Scopes.{Bound, bind_all, lets_in, is_among, some_twice}
use Rattle.s_code.specs.Layouts.{Local, local_of}
use Rattle.s_code.specs.Places.{binds_in}
use Rattle.s_code.proofs.Binds.{names_in}
use Rattle.s_meaning.proofs.BoundInTurn.{or_left, or_right, twice_of}
use Rattle.s_meaning.proofs.Good.{parts, when_not}
use Rattle.s_meaning.proofs.Scopes.{same_refl, bool_of}

-- ## Names

-- what is bound, by name
abbrev pub names : List Bound → List Name
names bs = map (λ (b : Bound). b.name) bs

pub names_appended : (bs cs : List Bound) → names (bs ++ cs) ≡ names bs ++ names cs
names_appended [] cs = refl
names_appended (b ∷ bs) cs = ap (λ (xs : List Name). b.name ∷ xs) (names_appended bs cs)

-- no name is bound twice
abbrev pub Once : List Bound → Type 0
Once bs = some_twice [] (names bs) ≡ false

-- what a body that breaks no rule binds
pub body_once : (ds : List Declaration) (bs : List Bound) (b : BlockTree) → in_body ds bs b ≡ [] → Once (bs ++ binds_in ds b)
body_once ds bs b q =
    let t = parts (when (some_twice [] (map (λ (c : Bound). c.name) bs ++ lets_in b)) rule.NameBoundTwice) (in_block ds (bind_all bs []) b) q in
    ap (λ (xs : List Name). some_twice [] xs) (names_appended bs (binds_in ds b) ∙ ap (λ (xs : List Name). names bs ++ xs) (names_in ds b))
    ∙ when_not (some_twice [] (map (λ (c : Bound). c.name) bs ++ lets_in b)) rule.NameBoundTwice t.0

-- ## Locals

abbrev pub local_names : List Local → List Name
local_names ls = map (λ (l : Local). l.name) ls

-- the name of each local is among them
named : (ls : List Local) (j : ℕ) (l : Local) → slice_get ls j ≡ Some l → is_among (local_names ls) l.name ≡ true
named [] j l e = absurd (cc)
named (k ∷ ls) zero l e =
    let same : k ≡ l = cc in or_left (bytes_eq k.name l.name) (is_among (local_names ls) l.name) (ap (λ (m : Local). bytes_eq m.name l.name) same ∙ same_refl l.name)
named (k ∷ ls) (suc j) l e = or_right (bytes_eq k.name l.name) (is_among (local_names ls) l.name) (named ls j l e)

neither : (a b : Bool) → (a || b) ≡ false → b ≡ false
neither true b e = absurd (cc)
neither false b e = e

-- where no name stands twice, each is found where it stands
pub once_found : (before : List Name) (ls : List Local) → some_twice before (local_names ls) ≡ false → (j : ℕ) (l : Local) → slice_get ls j ≡ Some l → local_of ls l.name ≡ Some l
once_found before [] once j l e = absurd (cc)
once_found before (k ∷ ls) once zero l e =
    let same : k ≡ l = cc in
    ap (λ (q : Bool). if q then Some k else local_of ls l.name) (ap (λ (m : Local). bytes_eq m.name l.name) same ∙ same_refl l.name) ∙ ap (λ (m : Local). Some m) same
once_found before (k ∷ ls) once (suc j) l e =
    let later = once_found (k.name ∷ before) ls (neither (is_among before k.name) (some_twice (k.name ∷ before) (local_names ls)) once) j l e in
    bool_of (bytes_eq k.name l.name) (λ q. (if q then Some k else local_of ls l.name) ≡ Some l)
    (λ q.
    let twice = twice_of l.name before (k.name ∷ []) (local_names ls) (or_left (bytes_eq k.name l.name) false q) (named ls j l e) in
    let no : true ≡ false = sym twice ∙ once in absurd (cc))
    (λ q. later)
