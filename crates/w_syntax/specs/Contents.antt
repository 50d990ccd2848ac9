-- What the contents of sections say, by their ids.
use Rattle.std.specs.Prelude.{◌≡◌, ℕ, Bool, true, false, cond, nat_eq, List, [], ◌∷◌, ◌++◌, Option, Some, None, option_map}
use Rattle.std.proofs.Common.{refl, sym, ap, ◌∙◌}
use Rattle.w_leb.specs.Format.{Format, IsDecided, whole}
use Rattle.w_leb.specs.FormatLaws.{wholly_decided}
use Rattle.w_syntax.specs.Fields.{name}
use Rattle.w_syntax.specs.declared.module.Section.{Section}
use Rattle.w_syntax.specs.declared.module.Section.TheVariants as part

-- Contents of one kind: which bytes say what, and a reading that finds just this.
pub record Contents : Type 1 where
  pub Say : List ℕ → Section → Type 0
  pub read : List ℕ → Option Section
  pub exact : IsDecided Say read

-- ## Contents that are all of one format

abbrev pub Wholly : {A : Type 0} → Format A → (A → Section) → List ℕ → Section → Type 0
Wholly {A} g make b p = (x : A) × g.Spells b x × (make x ≡ p)

abbrev pub wholly_of : {A : Type 0} → Format A → (A → Section) → List ℕ → Option Section
wholly_of g make b = option_map make (whole (g.read b))

mapped : {A B : Type 0} (f : A → B) (o : Option A) (y : B) → option_map f o ≡ Some y → (x : A) × (o ≡ Some x) × (f x ≡ y)
mapped f None y e = absurd cc
mapped f (Some x) y e = (x, refl, cc)

pub wholly_exact : {A : Type 0} (g : Format A) (make : A → Section) → IsDecided (Wholly g make) (wholly_of g make)
wholly_exact g make = record {
  found = λ b p e. let m = mapped make (whole (g.read b)) p e in (m.0, (wholly_decided g.Spells g.read g.exact).found b m.0 m.1, m.2);
  only = λ b p h. ap (option_map make) ((wholly_decided g.Spells g.read g.exact).only b h.0 h.1) ∙ ap Some h.2;
}

abbrev pub wholly : {A : Type 0} → Format A → (A → Section) → Contents
wholly g make = record { Say = Wholly g make; read = wholly_of g make; exact = wholly_exact g make }

-- ## Custom sections: a name and any bytes

abbrev pub IsCustom : List ℕ → Section → Type 0
IsCustom b p = (n more text : List ℕ) × (b ≡ n ++ more) × name.Spells n text × (p ≡ part.Custom)

abbrev pub custom_of : Option (List ℕ × List ℕ) → Option Section
custom_of None = None
custom_of (Some p) = Some part.Custom

pub custom_found : (b : List ℕ) (o : Option (List ℕ × List ℕ)) (p : Section) → name.read b ≡ o → custom_of o ≡ Some p → IsCustom b p
custom_found b None p e h = absurd cc
custom_found b (Some x) p e h =
    let s = name.exact.sound b x.0 x.1 e in
    let is : p ≡ part.Custom = cc in
    (s.0, x.1, x.0, s.1, s.2, is)

pub custom_only : (b : List ℕ) (p : Section) → IsCustom b p → custom_of (name.read b) ≡ Some p
custom_only b p h = ap custom_of (ap name.read h.3 ∙ name.exact.complete h.0 h.2 h.1 h.4) ∙ ap Some (sym h.5)

abbrev pub custom : Contents
custom = record {
  Say = IsCustom;
  read = λ b. custom_of (name.read b);
  exact = record { found = λ b p. custom_found b (name.read b) p refl; only = custom_only };
}

-- ## By the id

abbrev pub IsChosen : List (ℕ × Contents) → ℕ → List ℕ → Section → Type 0
IsChosen [] id b p = ⊥
IsChosen (e ∷ es) id b p = cond (nat_eq id e.0) (e.1.Say b p) (IsChosen es id b p)

abbrev pub chosen : List (ℕ × Contents) → ℕ → List ℕ → Option Section
chosen [] id b = None
chosen (e ∷ es) id b = cond (nat_eq id e.0) (e.1.read b) (chosen es id b)

entry_decided : (t : Bool) (e : Contents) (G : List ℕ → Section → Type 0) (r : List ℕ → Option Section) → IsDecided G r → IsDecided (λ b p. cond t (e.Say b p) (G b p)) (λ b. cond t (e.read b) (r b))
entry_decided true e G r d = e.exact
entry_decided false e G r d = d

pub chosen_decided : (es : List (ℕ × Contents)) (id : ℕ) → IsDecided (IsChosen es id) (chosen es id)
chosen_decided [] id = record { found = λ b p e. absurd cc; only = λ b p h. absurd h }
chosen_decided (e ∷ es) id = entry_decided (nat_eq id e.0) e.1 (IsChosen es id) (chosen es id) (chosen_decided es id)
