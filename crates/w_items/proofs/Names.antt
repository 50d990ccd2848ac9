-- The names of exports so far, as a set.
use Rattle.std.proofs.Common.{◌≡◌, ℕ, ◌+◌, ◌<◌, List, Bool, true, false, cond, Option, Some, Bor, below_more, refl, sym, ap, subst, ◌∙◌, arith}
use Rattle.std.specs.BTreeMap.{is_at}
use Rattle.std.specs.BTreeSet.{BTreeSet, contains, contains_by}
use Rattle.std.specs.Cmp.Lexicographic.{slice_cmp}
use Rattle.std.specs.Ordering.{nat_cmp}
use Rattle.std.specs.Prelude.{slice_get, option_map}
use Rattle.std.specs.Str.{bytes_eq}
use Rattle.std.proofs.lemmas.Map.Text.{is_eq-slice_cmp}
use Rattle.std.proofs.lemmas.Slice.Eq.{bytes_eq-Decides}
use Rattle.w_syntax.specs.declared.module.Export.{Export}
use Rattle.w_syntax.specs.declared.module.Module.{Module}
use Rattle.w_rules.specs.Valid.{name_of_export, IsThere, ExportValid}

-- whether the set has the name
abbrev pub has : BTreeSet (Bor (List ℕ)) → List ℕ → Bool
has s q = contains_by (λ k. slice_cmp nat_cmp q k.now) s

-- the test passes just the names of the exports below i
pub record HasNames (m : Module) (i : ℕ) (test : List ℕ → Bool) : Type 0 where
  pub all : (j : ℕ) → j < i → (q : List ℕ) → name_of_export m j ≡ Some q → test q ≡ true
  pub only : (q : List ℕ) → test q ≡ true → (j : ℕ) × (j < i) × (name_of_export m j ≡ Some q)

-- ## One name more

cond_same : (b : Bool) → cond b true true ≡ true
cond_same true = refl
cond_same false = refl

had : (test more : List ℕ → Bool) (name q : List ℕ) → more q ≡ cond (bytes_eq name q) true (test q) → test q ≡ true → more q ≡ true
had test more name q grows e = grows ∙ ap (λ (b : Bool). cond (bytes_eq name q) true b) e ∙ cond_same (bytes_eq name q)

new : (test more : List ℕ → Bool) (name q : List ℕ) → more q ≡ cond (bytes_eq name q) true (test q) → name ≡ q → more q ≡ true
new test more name q grows e = grows ∙ ap (λ (b : Bool). cond b true (test q)) ((bytes_eq-Decides name q).1 e)

which : (m : Module) (i : ℕ) (test : List ℕ → Bool) (name q : List ℕ) (b : Bool) → name_of_export m i ≡ Some name → HasNames m i test
    → bytes_eq name q ≡ b → cond b true (test q) ≡ true → (j : ℕ) × (j < i + 1) × (name_of_export m j ≡ Some q)
which m i test name q true is h same e = (i, omega arith, is ∙ ap (λ (l : List ℕ). Some l) ((bytes_eq-Decides name q).0 same))
which m i test name q false is h same e = let p = h.only q e in let lt = p.1 in (p.0, omega arith, p.2)

one_more : (m : Module) (i : ℕ) (test more : List ℕ → Bool) (name : List ℕ) → name_of_export m i ≡ Some name
    → ((q : List ℕ) → more q ≡ cond (bytes_eq name q) true (test q)) → HasNames m i test → HasNames m (i + 1) more
one_more m i test more name is grows h = record {
  all = below_more (λ j. (q : List ℕ) → name_of_export m j ≡ Some q → more q ≡ true) i
      (λ j lt q e. had test more name q (grows q) (h.all j lt q e))
      (λ q e. new test more name q (grows q) (let same = sym is ∙ e in cc));
  only = λ q e. which m i test name q (bytes_eq name q) is h refl (sym (grows q) ∙ e);
}

pub inserted : (m : Module) (i : ℕ) (name : Bor (List ℕ)) (old more : BTreeSet (Bor (List ℕ))) → name_of_export m i ≡ Some name.now
    → ((q : Bor (List ℕ)) → contains (λ x y. slice_cmp nat_cmp x.now y.now) more q ≡ cond (is_at (λ y. slice_cmp nat_cmp name.now y.now) q) true (contains (λ x y. slice_cmp nat_cmp x.now y.now) old q))
    → HasNames m i (has old) → HasNames m (i + 1) (has more)
inserted m i name old more is updates h = one_more m i (has old) (has more) name.now is grows h
  where
    grows : (q : List ℕ) → has more q ≡ cond (bytes_eq name.now q) true (has old q)
    grows q = subst (λ b. has more q ≡ cond b true (has old q)) (is_eq-slice_cmp name.now q) (updates (record { ref_ptr = (0, 0); now = q }))

-- ## The typing of an export

pub name_at : (m : Module) (i : ℕ) (e : Export) → slice_get m.exports i ≡ Some e → name_of_export m i ≡ Some e.name
name_at m i e is = subst (λ (o : Option Export). option_map (λ (x : Export). x.name) o ≡ Some e.name) (sym is) refl

pub typed : (m : Module) (i : ℕ) (e : Export) (test : List ℕ → Bool) → slice_get m.exports i ≡ Some e → IsThere m e.index
    → HasNames m i test → test e.name ≡ false → ExportValid m i
typed m i e test is there h free = record {
  export = e;
  is = is;
  there = there;
  alone = λ j lt same. let taken = h.all j lt e.name same in absurd (cc);
}

same_export : (m : Module) (i : ℕ) (e : Export) → slice_get m.exports i ≡ Some e → (t : ExportValid m i) → e ≡ t.export
same_export m i e is t = let f = t.is in cc

pub not_there : (m : Module) (i : ℕ) (e : Export) → slice_get m.exports i ≡ Some e → (IsThere m e.index → ⊥) → ExportValid m i → ⊥
not_there m i e is out t = out (subst (λ (x : Export). IsThere m x.index) (sym (same_export m i e is t)) t.there)

pub not_alone : (m : Module) (i : ℕ) (e : Export) (test : List ℕ → Bool) → slice_get m.exports i ≡ Some e → HasNames m i test → test e.name ≡ true → ExportValid m i → ⊥
not_alone m i e test is h taken t =
    let p = h.only e.name taken in
    t.alone p.0 p.1 (p.2 ∙ ap (λ (x : Export). Some x.name) (same_export m i e is t))
