-- Reading a list one by one, as a loop does.
use Rattle.std.proofs.Common.{◌≡◌, ℕ, suc, ◌-◌, ◌+◌, ◌≤◌, ◌<◌, List, [], ◌∷◌, ◌++◌, Option, Some, None, refl, sym, ap, ◌∙◌, append_assoc, arith}
use Rattle.std.proofs.lemmas.List.{append-nil}
use Rattle.w_leb.specs.Format.{Reading, then, many, counted}
use Rattle.w_leb.specs.Number.{unsigned}

-- what was read before, and what is still read
abbrev pub with_front : {A : Type 0} → List A → Option (List A × List ℕ) → Option (List A × List ℕ)
with_front front o = then o (λ xs rest. Some (front ++ xs, rest))

regroup : {A : Type 0} (front : List A) (x : A) (o : Option (List A × List ℕ)) → with_front front (then o (λ xs rest. Some (x ∷ xs, rest))) ≡ with_front (front ++ x ∷ []) o
regroup front x None = refl
regroup front x (Some p) = ap (λ (ns : List _). Some (ns, p.1)) (simp append_assoc)

pub goes_on : {A : Type 0} (r : Reading A) (front : List A) (count i : ℕ) (bytes : List ℕ) (x : A) (after : List ℕ) (total : Option (List A × List ℕ)) → i < count → r bytes ≡ Some (x, after)
    → with_front front (many r (count - i) bytes) ≡ total → with_front (front ++ x ∷ []) (many r (count - (i + 1)) after) ≡ total
unfolding many
goes_on r front count i bytes x after total lt h so_far =
    let k : count - i ≡ suc (count - (i + 1)) = omega arith in
    let one : with_front front (many r (count - i) bytes) ≡ with_front (front ++ x ∷ []) (many r (count - (i + 1)) after) = rw (k, h) (regroup front x (many r (count - (i + 1)) after)) in
    sym one ∙ so_far

pub ends : {A : Type 0} (r : Reading A) (front : List A) (count i : ℕ) (bytes : List ℕ) (total : Option (List A × List ℕ)) → i < count → r bytes ≡ None
    → with_front front (many r (count - i) bytes) ≡ total → total ≡ None
unfolding many
ends r front count i bytes total lt h so_far =
    let k : count - i ≡ suc (count - (i + 1)) = omega arith in
    let one : with_front front (many r (count - i) bytes) ≡ None = rw (k, h) refl in
    sym so_far ∙ one

pub is_done : {A : Type 0} (r : Reading A) (front : List A) (count i : ℕ) (bytes : List ℕ) (total : Option (List A × List ℕ)) → count ≤ i → with_front front (many r (count - i) bytes) ≡ total → total ≡ Some (front, bytes)
unfolding many
is_done r front count i bytes total le so_far =
    let k : count - i ≡ 0 = omega arith in
    let one : with_front front (many r (count - i) bytes) ≡ Some (front, bytes) = rw k (ap (λ (ns : List _). Some (ns, bytes)) (append-nil front)) in
    sym so_far ∙ one

same_front : {A : Type 0} (o : Option (List A × List ℕ)) → with_front [] o ≡ o
same_front None = refl
same_front (Some p) = refl

pub starts : {A : Type 0} (r : Reading A) (n : ℕ) (bytes rest : List ℕ) → unsigned 32 bytes ≡ Some (n, rest) → with_front [] (many r (n - 0) rest) ≡ counted (unsigned 32) r bytes
unfolding counted
starts r n bytes rest h = let z : n - 0 ≡ n = omega arith in rw (h, z) (same_front (many r n rest))

pub no_count : {A : Type 0} (r : Reading A) (bytes : List ℕ) → unsigned 32 bytes ≡ None → counted (unsigned 32) r bytes ≡ None
unfolding counted
no_count r bytes h = rw h refl
