-- The words of types are read as they are written.
use Rattle.std.proofs.Common.{◌≡◌, ℕ, ◌^◌, ◌<◌, Bool, true, false, ◌∷◌, ◌++◌, Option, Some, None, refl, sym, ap, subst, ◌∙◌, arith, rules, decimal, inl, inr}
use Rattle.std.specs.Prelude.{option_map, codes}
use Rattle.std.specs.Str.{bytes_eq}
use Rattle.std.proofs.lemmas.Slice.Eq.{bytes_eq-Decides}
use Rattle.w_types.specs.declared.types.HeapType.{HeapType}
use Rattle.w_types.specs.declared.types.HeapType.TheVariants as heap
use Rattle.w_types.specs.declared.types.RefType.{RefType}
use Rattle.w_types.specs.declared.types.ValType.{ValType}
use Rattle.w_types.specs.declared.types.ValType.TheVariants as val
use Rattle.w_syntax.specs.Types.{nullable_to, non_null_to}
use Rattle.w_syntax.specs.declared.instructions.BlockType.{BlockType}
use Rattle.w_syntax.specs.declared.instructions.BlockType.TheVariants as block
use Rattle.w_words.specs.Words.{Word, IsClean, behind, or_else}
use Rattle.w_words.specs.Numbers.{is_digit, number_of}
use Rattle.w_words.specs.Types.{heap_word, HeapFits, heap_of, prefix, ref_word, RefFits, nullable_of, non_null_of, ref_of, val_word, ValFits, val_of, block_word, BlockFits, type_index_of, block_of}
use Rattle.w_words.proofs.Readings.{IsSpelling, tested, mapped, then_some, either, behind_sound, clean_behind}
use Rattle.w_words.proofs.Numerals.{number_sound, number_complete, decimal_begins, number_clean}

-- ## Heap types

pub heap_sound : (w : Word) (h : HeapType) → heap_of w ≡ Some h → HeapFits h × (heap_word h ≡ w)
heap_sound w h e = elim (tested (bytes_eq w (codes "func")) w (codes "func") heap.Func h _ refl e) [
  | inl p ↦ subst (λ (x : HeapType). HeapFits x × (heap_word x ≡ w)) p.1 (tt, sym p.0)
  | inr e2 ↦ elim (tested (bytes_eq w (codes "nofunc")) w (codes "nofunc") heap.NoFunc h _ refl e2) [
    | inl p ↦ subst (λ (x : HeapType). HeapFits x × (heap_word x ≡ w)) p.1 (tt, sym p.0)
    | inr e3 ↦ elim (tested (bytes_eq w (codes "cont")) w (codes "cont") heap.Cont h _ refl e3) [
      | inl p ↦ subst (λ (x : HeapType). HeapFits x × (heap_word x ≡ w)) p.1 (tt, sym p.0)
      | inr e4 ↦ elim (tested (bytes_eq w (codes "nocont")) w (codes "nocont") heap.NoCont h _ refl e4) [
        | inl p ↦ subst (λ (x : HeapType). HeapFits x × (heap_word x ≡ w)) p.1 (tt, sym p.0)
        | inr e5 ↦
            let a = mapped heap.Index (number_of 32 w) h e5 in
            let n = number_sound 32 (omega arith) w a.0 a.1 in
            subst (λ (x : HeapType). HeapFits x × (heap_word x ≡ w)) a.2 (n.0, n.1)
      ]
    ]
  ]
]

heads : (a b : ℕ) (us vs : Word) → a ∷ us ≡ b ∷ vs → a ≡ b
heads a b us vs k = cc

-- a word that begins with a digit is none of these
pub not_named : (w : Word) (x : ℕ) → is_digit x ≡ true → (v : Word) (y : ℕ) (vs ws : Word) → w ≡ x ∷ ws → v ≡ y ∷ vs → is_digit y ≡ false → bytes_eq w v ≡ false
not_named w x d v y vs ws e f g = cases (bytes_eq w v) refl
  where
    cases : (b : Bool) → bytes_eq w v ≡ b → b ≡ false
    cases true h = let s : x ≡ y = heads x y ws vs (sym e ∙ (bytes_eq-Decides w v).0 h ∙ f) in let t : true ≡ false = sym d ∙ ap is_digit s ∙ g in absurd cc
    cases false h = refl

index_read : (x : ℕ) → x < 2 ^ 32 → heap_of (decimal x) ≡ Some (heap.Index x)
index_read x h =
    let d = decimal_begins x (omega arith) in
    rw (
      not_named (decimal x) d.0 d.3 (codes "func") 102 _ d.1 d.2 refl refl,
      not_named (decimal x) d.0 d.3 (codes "nofunc") 110 _ d.1 d.2 refl refl,
      not_named (decimal x) d.0 d.3 (codes "cont") 99 _ d.1 d.2 refl refl,
      not_named (decimal x) d.0 d.3 (codes "nocont") 110 _ d.1 d.2 refl refl,
    ) (ap (option_map heap.Index) (number_complete 32 (omega arith) x h))

pub heap_complete : (h : HeapType) → HeapFits h → heap_of (heap_word h) ≡ Some h
heap_complete heap.Func f = refl
heap_complete heap.NoFunc f = refl
heap_complete heap.Cont f = refl
heap_complete heap.NoCont f = refl
heap_complete (heap.Index x) f = index_read x f

-- ## Reference types

abbrev RefTold : Word → RefType → Type 0
RefTold w r = RefFits r × (ref_word r ≡ w)

pub ref_sound : (w : Word) (r : RefType) → ref_of w ≡ Some r → RefFits r × (ref_word r ≡ w)
ref_sound w r e = elim (either (nullable_of w) (non_null_of w) r e) [
  | inl p ↦
      let a = then_some (behind (prefix true) w) (λ v. option_map nullable_to (heap_of v)) r p in
      let b = mapped nullable_to (heap_of a.0) r a.2 in
      let h = heap_sound a.0 b.0 b.1 in
      subst (RefTold w) b.2 (h.0, ap (λ (v : Word). prefix true ++ v) h.1 ∙ sym (behind_sound (prefix true) w a.0 a.1))
  | inr p ↦
      let a = then_some (behind (prefix false) w) (λ v. option_map non_null_to (heap_of v)) r p in
      let b = mapped non_null_to (heap_of a.0) r a.2 in
      let h = heap_sound a.0 b.0 b.1 in
      subst (RefTold w) b.2 (h.0, ap (λ (v : Word). prefix false ++ v) h.1 ∙ sym (behind_sound (prefix false) w a.0 a.1))
]

ref_read : (n : Bool) (h : HeapType) → HeapFits h → ref_of (prefix n ++ heap_word h) ≡ Some (record { nullable = n; heap = h })
ref_read true h f = ap (λ (o : Option HeapType). or_else (option_map nullable_to o) None) (heap_complete h f)
ref_read false h f = ap (λ (o : Option HeapType). option_map non_null_to o) (heap_complete h f)

pub ref_complete : (r : RefType) → RefFits r → ref_of (ref_word r) ≡ Some r
ref_complete r f = ref_read r.nullable r.heap f

-- ## Value types

pub val_sound : (w : Word) (t : ValType) → val_of w ≡ Some t → ValFits t × (val_word t ≡ w)
val_sound w t e = elim (tested (bytes_eq w (codes "i32")) w (codes "i32") val.I32 t _ refl e) [
  | inl p ↦ subst (λ (x : ValType). ValFits x × (val_word x ≡ w)) p.1 (tt, sym p.0)
  | inr e2 ↦ elim (tested (bytes_eq w (codes "i64")) w (codes "i64") val.I64 t _ refl e2) [
    | inl p ↦ subst (λ (x : ValType). ValFits x × (val_word x ≡ w)) p.1 (tt, sym p.0)
    | inr e3 ↦
        let a = mapped val.Ref (ref_of w) t e3 in
        let n = ref_sound w a.0 a.1 in
        subst (λ (x : ValType). ValFits x × (val_word x ≡ w)) a.2 (n.0, n.1)
  ]
]

ref_val : (n : Bool) (h : HeapType) → HeapFits h → val_of (prefix n ++ heap_word h) ≡ Some (val.Ref (record { nullable = n; heap = h }))
ref_val true h f = ap (option_map val.Ref) (ref_read true h f)
ref_val false h f = ap (option_map val.Ref) (ref_read false h f)

pub val_complete : (t : ValType) → ValFits t → val_of (val_word t) ≡ Some t
val_complete val.I32 f = refl
val_complete val.I64 f = refl
val_complete (val.Ref r) f = ref_val r.nullable r.heap f

-- ## Types of blocks

pub block_sound : (w : Word) (b : BlockType) → block_of w ≡ Some b → BlockFits b × (block_word b ≡ w)
block_sound w b e = elim (tested (bytes_eq w (codes "void")) w (codes "void") block.Empty b _ refl e) [
  | inl p ↦ subst (λ (x : BlockType). BlockFits x × (block_word x ≡ w)) p.1 (tt, sym p.0)
  | inr e2 ↦ elim (either (type_index_of w) (option_map block.Value (val_of w)) b e2) [
    | inl p ↦
        let a = then_some (behind (codes "type:") w) (λ v. option_map block.Index (number_of 32 v)) b p in
        let c = mapped block.Index (number_of 32 a.0) b a.2 in
        let n = number_sound 32 (omega arith) a.0 c.0 c.1 in
        subst (λ (x : BlockType). BlockFits x × (block_word x ≡ w)) c.2 (n.0, ap (λ (v : Word). codes "type:" ++ v) n.1 ∙ sym (behind_sound (codes "type:") w a.0 a.1))
    | inr p ↦
        let a = mapped block.Value (val_of w) b p in
        let n = val_sound w a.0 a.1 in
        subst (λ (x : BlockType). BlockFits x × (block_word x ≡ w)) a.2 (n.0, n.1)
  ]
]

ref_block : (n : Bool) (h : HeapType) → HeapFits h → block_of (prefix n ++ heap_word h) ≡ Some (block.Value (val.Ref (record { nullable = n; heap = h })))
ref_block true h f = ap (option_map block.Value) (ref_val true h f)
ref_block false h f = ap (option_map block.Value) (ref_val false h f)

val_block : (t : ValType) → ValFits t → block_of (val_word t) ≡ Some (block.Value t)
val_block val.I32 f = refl
val_block val.I64 f = refl
val_block (val.Ref r) f = ref_block r.nullable r.heap f

pub block_complete : (b : BlockType) → BlockFits b → block_of (block_word b) ≡ Some b
block_complete block.Empty f = refl
block_complete (block.Value t) f = val_block t f
block_complete (block.Index x) f = ap (λ (o : Option ℕ). or_else (option_map block.Index o) (option_map block.Value (val_of (codes "type:" ++ decimal x)))) (number_complete 32 (omega arith) x f)

-- ## No separators

pub heap_clean : (h : HeapType) → HeapFits h → IsClean (heap_word h)
heap_clean heap.Func f = search rules
heap_clean heap.NoFunc f = search rules
heap_clean heap.Cont f = search rules
heap_clean heap.NoCont f = search rules
heap_clean (heap.Index x) f = number_clean x (omega arith)

prefix_clean : (n : Bool) → IsClean (prefix n)
prefix_clean true = search rules
prefix_clean false = search rules

pub ref_clean : (r : RefType) → RefFits r → IsClean (ref_word r)
ref_clean r f = clean_behind (prefix r.nullable) (heap_word r.heap) (prefix_clean r.nullable) (heap_clean r.heap f)

pub val_clean : (t : ValType) → ValFits t → IsClean (val_word t)
val_clean val.I32 f = search rules
val_clean val.I64 f = search rules
val_clean (val.Ref r) f = ref_clean r f

type_clean : IsClean (codes "type:")
type_clean = search rules

pub block_clean : (b : BlockType) → BlockFits b → IsClean (block_word b)
block_clean block.Empty f = search rules
block_clean (block.Value t) f = val_clean t f
block_clean (block.Index x) f = clean_behind (codes "type:") (decimal x) type_clean (number_clean x (omega arith))

-- ## As spellings

pub heap_types : IsSpelling heap_word heap_of HeapFits
heap_types = record { sound = heap_sound; complete = heap_complete; clean = heap_clean }

pub ref_types : IsSpelling ref_word ref_of RefFits
ref_types = record { sound = ref_sound; complete = ref_complete; clean = ref_clean }

pub val_types : IsSpelling val_word val_of ValFits
val_types = record { sound = val_sound; complete = val_complete; clean = val_clean }

pub block_types : IsSpelling block_word block_of BlockFits
block_types = record { sound = block_sound; complete = block_complete; clean = block_clean }
