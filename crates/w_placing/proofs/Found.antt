-- What is found of imports, one by one.
use Rattle.std.proofs.Common.{◌≡◌, ℕ, ◌+◌, ◌<◌, ◌≤◌, List, [], ◌∷◌, ◌++◌, length, drop, get_or, Option, Some, None, refl, sym, ap, ◌∙◌}
use Rattle.std.proofs.lemmas.List.{at_drop_more, at_drop_all}
use Rattle.w_syntax.specs.declared.module.Import.{Import}
use Rattle.w_syntax.specs.declared.module.Module.{Module}
use Rattle.w_linked.specs.Definitions.{Definitions}
use Rattle.w_linked.specs.Imports.{TypeTests, Placed, Address, Counted, Imported, all, missing, and_rest, and_next, import_address, imports_of}

-- what is found behind these
abbrev pub behind : List Address → Imported → Imported
behind [] r = r
behind (a ∷ found) r = and_rest a (behind found r)

behind_more : (found : List Address) (a : Address) (r : Imported) → behind (found ++ a ∷ []) r ≡ behind found (and_rest a r)
behind_more [] a r = refl
behind_more (b ∷ found) a r = ap (and_rest b) (behind_more found a r)

behind_all : (found : List Address) (k : ℕ) → behind found (all [] k) ≡ all found k
behind_all [] k = refl
behind_all (a ∷ found) k = ap (and_rest a) (behind_all found k)

behind_missing : (found : List Address) → behind found (missing 0) ≡ missing (length found)
behind_missing [] = refl
behind_missing (a ∷ found) = ap (and_rest a) (behind_missing found)

module _ (tests : TypeTests) (d : Definitions) (earlier : List Placed) (m : Module) (n : ℕ) (xs : List Import) (whole : Imported) where
  -- so far these are found, and so many functions of the host are named
  abbrev pub FoundTo : ℕ → List Address → ℕ → Type 0
  FoundTo i found k = whole ≡ behind found (imports_of tests d earlier m n k (drop i xs))

  next_is : (i k : ℕ) (e : Import) (found : List Address) (o : Option Counted) → i < length xs → o ≡ import_address tests d earlier m n k (get_or xs i e) → FoundTo i found k
      → whole ≡ behind found (and_next o (λ l. imports_of tests d earlier m n l (drop (i + 1) xs)))
  next_is i k e found o lt is h =
      h ∙ ap (behind found) (at_drop_more (imports_of tests d earlier m n k) xs i e lt
      ∙ ap (λ (p : Option Counted). and_next p (λ l. imports_of tests d earlier m n l (drop (i + 1) xs))) (sym is))

  -- one more is
  pub found_next : (i k : ℕ) (e : Import) (found more : List Address) (c : Counted) → i < length xs → Some c ≡ import_address tests d earlier m n k (get_or xs i e) → more ≡ found ++ c.address ∷ []
      → FoundTo i found k → FoundTo (i + 1) more c.printers
  found_next i k e found more c lt is made h =
      next_is i k e found (Some c) lt is h ∙ sym (behind_more found c.address (imports_of tests d earlier m n c.printers (drop (i + 1) xs)))
      ∙ ap (λ (l : List Address). behind l (imports_of tests d earlier m n c.printers (drop (i + 1) xs))) (sym made)

  -- for one there is nothing
  pub found_none : (i k : ℕ) (e : Import) (found : List Address) (j : ℕ) → i < length xs → None ≡ import_address tests d earlier m n k (get_or xs i e) → j ≡ length found → FoundTo i found k → whole ≡ missing j
  found_none i k e found j lt is many h = next_is i k e found None lt is h ∙ behind_missing found ∙ ap missing (sym many)

  -- all are
  pub found_all : (i k : ℕ) (found : List Address) → length xs ≤ i → FoundTo i found k → whole ≡ all found k
  found_all i k found past h = h ∙ ap (behind found) (at_drop_all (imports_of tests d earlier m n k) xs i past) ∙ behind_all found k
