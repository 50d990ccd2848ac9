-- The entries of the types of the first groups, while more are added.
use Rattle.std.specs.Prelude.{◌≡◌, ℕ, ◌<◌, ◌≤◌, List, ◌∷◌, ◌++◌, map, length, take, Some, slice_get, Vec}
use Rattle.std.specs.BTreeMap.{BTreeMap}
use Rattle.std.specs.declared.alloc.Global.{Global}
use Rattle.w_types.specs.declared.types.RecGroup.{RecGroup}
use Rattle.w_types.specs.Groups.{subtypes_of, types_of}
use Rattle.w_canon.specs.declared.entry.Entry.{Entry}
use Rattle.w_canon.specs.declared.key.Word.{Word}
use Rattle.w_canon.specs.Entries.{kind_of}
use Rattle.w_canon.specs.Equivalence.{Place}
use Rattle.w_canon.specs.Keys.{group_words}
use Rattle.w_canon.specs.Numbers.{number_of}

abbrev pub Numbers : Type 0
Numbers = BTreeMap (Vec Word Global) ℕ

-- how many types groups have
abbrev pub count : List RecGroup → ℕ
count gs = length (subtypes_of gs)

-- the key of a group behind those in front, where all types have these entries
abbrev pub key_at : List Entry → List RecGroup → RecGroup → List Word
key_at es front g = group_words (take (count front) es) g

-- type i has an entry, whose class is the number that the key of its group leads to, and its position
pub record EntryAt (m : Numbers) (gs : List RecGroup) (es : List Entry) (i : ℕ) : Type 0 where
  pub place : Place gs i
  pub entry : Entry
  pub is : slice_get es i ≡ Some entry
  pub position : entry.class.position ≡ place.position
  pub named : number_of m (key_at es place.front place.group) ≡ Some entry.class.group
  pub early : entry.class.group ≤ count place.front

-- a group of this key, which begins with type n
pub record FirstAt (gs : List RecGroup) (es : List Entry) (q : List Word) (n : ℕ) : Type 0 where
  pub front : List RecGroup
  pub group : RecGroup
  pub back : List RecGroup
  pub is : gs ≡ front ++ group ∷ back
  pub begins : count front ≡ n
  pub key : key_at es front group ≡ q
  pub some : 0 < length group.types

-- the types of these groups have these entries, and m leads from the keys of the groups to the first types of such groups
pub record Classed (m : Numbers) (gs : List RecGroup) (es : List Entry) : Type 0 where
  pub kinds : map (λ (e : Entry). e.kind) es ≡ map kind_of (types_of gs)
  pub entries : (i : ℕ) → i < count gs → EntryAt m gs es i
  pub once : (q r : List Word) (n : ℕ) → number_of m q ≡ Some n → number_of m r ≡ Some n → q ≡ r
  pub below : (q : List Word) (n : ℕ) → number_of m q ≡ Some n → n < count gs
  pub firsts : (q : List Word) (n : ℕ) → number_of m q ≡ Some n → FirstAt gs es q n
