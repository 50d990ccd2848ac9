-- The tags of the module of a script: each effect that is declared has a tag of its own, and is found among the effects' names by it; behind
-- them comes the tag of groups.
use Rattle.std.proofs.Common.{◌≡◌, ℕ, ◌+◌, List, [], ◌∷◌, ◌++◌, length, Option, Some, None, refl, sym, ap, ◌∙◌, arith}
use Rattle.std.specs.Prelude.{slice_get}
use Rattle.s_syntax.specs.declared.name.Name.{Name}
use Rattle.s_syntax.specs.declared.number.Number.{Number}
use Rattle.s_syntax.specs.declared.script.Definition.{Definition}
use Rattle.s_syntax.specs.declared.script.Definition.TheVariants as definition
use Rattle.s_syntax.specs.declared.script.Declaration.{Declaration}
use Rattle.s_check.specs.Definitions.{definition_of, as_effect, effect_of}
use Rattle.s_index.specs.declared.counts.Counts.{Counts}
use Rattle.s_index.specs.Numbers.{Entry, no_counts, counted, with_entry, index_of_tag, tag_index, group_tag_index}
use Rattle.s_code.specs.Lowered.{for_each}
use Rattle.s_meaning.specs.Steps.{group_name}
use Rattle.s_meaning.proofs.Lists.{get_before, get_last}
use Rattle.s_valid.proofs.NumbersInModules.{all_made, found}
use Rattle.s_agrees.specs.Agrees.{effect_names, tag_names}
use Rattle.s_agrees.specs.Agrees as agrees

-- the name that a declaration adds
abbrev effect_added : Declaration → List Name
effect_added d = agrees.effect_of d.name d.definition

names_added : (ds : List Declaration) → effect_names ds ≡ for_each effect_added ds
names_added [] = refl
names_added (d ∷ ds) = ap (λ (xs : List Name). effect_added d ++ xs) (names_added ds)

effect_steps : (n : Counts) (x : Name) (d : Definition) → (counted n d).effects ≡ n.effects + length (agrees.effect_of x d)
effect_steps n x (definition.Effect k) = omega arith
effect_steps n x (definition.Function f) = omega arith
effect_steps n x (definition.Handler h) = omega arith
effect_steps n x (definition.Slots s) = omega arith

effect_defined : (o : Option Definition) (n : ℕ) → as_effect o ≡ Some n → (k : Number) × (o ≡ Some (definition.Effect k))
effect_defined None n e = absurd (cc)
effect_defined (Some (definition.Effect k)) n e = (k, refl)
effect_defined (Some (definition.Function f)) n e = absurd (cc)
effect_defined (Some (definition.Handler h)) n e = absurd (cc)
effect_defined (Some (definition.Slots s)) n e = absurd (cc)

pub effect_named : (ds : List Declaration) (op : Name) (n : ℕ) → effect_of ds op ≡ Some n → slice_get (effect_names ds) (tag_index ds op) ≡ Some op
effect_named ds op n e =
    let k = effect_defined (definition_of ds op) n e in
    let q = found effect_added (λ (m : Counts). m.effects) (λ m d. effect_steps m d.name d.definition) no_counts ds op (definition.Effect k.0) op k.1
    (λ d same named. ap (λ (x : Definition). agrees.effect_of d.name x) same ∙ ap (λ (x : Name). x ∷ []) (sym named)) (λ m. refl) in
    let index : tag_index ds op ≡ q.place = ap (λ (o : Option Entry). with_entry index_of_tag o) q.entry ∙ omega arith in
    ap (λ (xs : List Name). slice_get xs (tag_index ds op)) (names_added ds) ∙ ap (λ (x : ℕ). slice_get (for_each effect_added ds) x) index ∙ q.item

-- effects of the same tag are the same
pub tag_apart : (ds : List Declaration) (a b : Name) (n m : ℕ) → effect_of ds a ≡ Some n → effect_of ds b ≡ Some m → tag_index ds a ≡ tag_index ds b → a ≡ b
tag_apart ds a b n m e f same =
    let q = sym (effect_named ds a n e) ∙ ap (λ (x : ℕ). slice_get (effect_names ds) x) same ∙ effect_named ds b m f in cc q

-- among the names of all tags
pub effect_told : (ds : List Declaration) (op : Name) (n : ℕ) → effect_of ds op ≡ Some n → slice_get (tag_names ds) (tag_index ds op) ≡ Some op
effect_told ds op n e = get_before (effect_names ds) (group_name ∷ []) (tag_index ds op) op (effect_named ds op n e)

pub group_told : (ds : List Declaration) → slice_get (tag_names ds) (group_tag_index ds) ≡ Some group_name
group_told ds =
    let made = all_made effect_added (λ (m : Counts). m.effects) (λ m d. effect_steps m d.name d.definition) no_counts ds in
    let long = ap (λ (xs : List Name). length xs) (names_added ds) in
    let last : group_tag_index ds ≡ length (effect_names ds) = omega (arith, made, long) in
    ap (λ (k : ℕ). slice_get (tag_names ds) k) last ∙ get_last (effect_names ds) group_name
