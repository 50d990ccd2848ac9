-- Slots by their names, and their places.
use Rattle.std.proofs.Common.{◌≡◌, ℤ, pos, negsuc, Bool, false, List, [], ◌∷◌, length, Option, Some, if◌then◌else◌, refl, sym, ap, ◌∙◌}
use Rattle.std.specs.Str.{bytes_eq}
use Rattle.s_syntax.specs.declared.name.Name.{Name}
use Rattle.s_meaning.specs.Terms.{Contents}
use Rattle.s_meaning.specs.Steps.{contents_of, with_contents, with_place}
use Rattle.s_meaning.proofs.Lists.{length_set}
use Rattle.s_meaning.proofs.Scopes.{same_is, same_refl, bool_of}

-- slots that are changed are found
pub contents_with : (c : Contents) (cs : List Contents) (old : Contents) → contents_of c.name cs ≡ Some old → contents_of c.name (with_contents c cs) ≡ Some c
contents_with c [] old e = absurd (cc)
contents_with c (d ∷ ds) old e = bool_of (bytes_eq d.name c.name) (λ b. (if b then Some d else contents_of c.name ds) ≡ Some old → contents_of c.name (if b then c ∷ ds else (d ∷ with_contents c ds)) ≡ Some c)
    (λ q f. ap (λ (b : Bool). if b then Some c else contents_of c.name ds) (same_refl c.name))
    (λ q f. ap (λ (b : Bool). if b then Some d else contents_of c.name (with_contents c ds)) q ∙ contents_with c ds old f) e

-- others are as before
pub contents_other : (c : Contents) (cs : List Contents) (y : Name) → bytes_eq c.name y ≡ false → contents_of y (with_contents c cs) ≡ contents_of y cs
contents_other c [] y other = refl
contents_other c (d ∷ ds) y other = bool_of (bytes_eq d.name c.name) (λ b. contents_of y (if b then c ∷ ds else (d ∷ with_contents c ds)) ≡ contents_of y (d ∷ ds))
    (λ q. ap (λ (b : Bool). if b then Some c else contents_of y ds) other
    ∙ sym (ap (λ (b : Bool). if b then Some d else contents_of y ds) (ap (λ (z : Name). bytes_eq z y) (sym (same_is c.name d.name q)) ∙ other)))
    (λ q. ap (λ (o : Option Contents). if bytes_eq d.name y then Some d else o) (contents_other c ds y other))

-- what is found has the name
pub contents_name : (s : Name) (cs : List Contents) (c : Contents) → contents_of s cs ≡ Some c → c.name ≡ s
contents_name s [] c e = absurd (cc)
contents_name s (d ∷ ds) c e = bool_of (bytes_eq d.name s) (λ b. (if b then Some d else contents_of s ds) ≡ Some c → c.name ≡ s)
    (λ q f. ap (λ (x : Contents). x.name) (let same : c ≡ d = cc f in same) ∙ sym (same_is s d.name q)) (λ q f. contents_name s ds c f) e

pub contents_named : (s : Name) (cs : List Contents) (c : Contents) → contents_of s cs ≡ Some c → contents_of c.name cs ≡ Some c
contents_named s cs c e = ap (λ (x : Name). contents_of x cs) (contents_name s cs c e) ∙ e

pub length_with : {A : Type 0} (xs : List A) (n : ℤ) (x : A) → length (with_place xs n x) ≡ length xs
length_with xs (pos n) x = length_set xs n x
length_with xs (negsuc n) x = refl
