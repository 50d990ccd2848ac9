-- Numbers of groups, by the groups' keys.
use Rattle.std.specs.Prelude.{◌≡◌, ◌⊎◌, ℕ, List, Option, Some, Vec}
use Rattle.std.specs.Ordering.{is_eq}
use Rattle.std.specs.Cmp.Lexicographic.{slice_cmp}
use Rattle.std.specs.declared.cmp.Ordering.{Ordering}
use Rattle.std.specs.Map.{lookup}
use Rattle.std.specs.BTreeMap.{BTreeMap}
use Rattle.std.specs.declared.alloc.Global.{Global}
use Rattle.w_canon.specs.declared.key.Word.{Word}
use Rattle.w_canon.specs.contracts.key.WordOrd.TheImpl as word_ord

-- the order of words that the derive gives
abbrev pub word_cmp : Word → Word → Ordering
word_cmp = (word_ord.ghosts).cmp

-- the number of the group with this key
abbrev pub number_of : BTreeMap (Vec Word Global) ℕ → List Word → Option ℕ
number_of m q = lookup (λ (k : Vec Word Global). is_eq (slice_cmp word_cmp q k.items)) m.entries

-- the key leads to the number `first`, and of all keys no more changed than that it may now lead to the given number
pub record Finds (old new : BTreeMap (Vec Word Global) ℕ) (key : List Word) (number first : ℕ) : Type 0 where
  pub found : number_of new key ≡ Some first
  pub stays : (q : List Word) (n : ℕ) → number_of old q ≡ Some n → number_of new q ≡ Some n
  pub added : (q : List Word) (n : ℕ) → number_of new q ≡ Some n → (number_of old q ≡ Some n) ⊎ ((q ≡ key) × (n ≡ number))
