-- The entries of the types of a group.
use Rattle.std.proofs.Common.{◌≡◌, ◌+◌, ◌<◌, ◌≤◌, ℕ, zero, suc, List, [], ◌∷◌, ◌++◌, length, drop, map, get_or, Some, slice_get, refl, sym, ap, subst, ◌∙◌, append_assoc, append-nil, arith}
use Rattle.std.proofs.lemmas.List.{drop_more, drop_all}
use Rattle.w_types.specs.declared.types.SubType.{SubType}
use Rattle.w_canon.specs.declared.entry.Kind.{Kind}
use Rattle.w_canon.specs.declared.entry.Entry.{Entry}
use Rattle.w_types.specs.Groups.{composite_of}
use Rattle.w_canon.specs.Entries.{kind_of, entries_from}
use Rattle.w_canon.specs.Shares.{none}

-- the entry of a type
abbrev pub entry_of : ℕ → ℕ → SubType → Entry
entry_of g p t = record { class = record { group = g; position = p }; kind = kind_of t.composite; span = none }

-- entries of types of a group, with one more
pub next_entry : (g : ℕ) (ts its : List SubType) (i : ℕ) (t : SubType) (es all : List Entry) → its ≡ ts → t ≡ get_or its i t → i < length its
    → es ++ entries_from g i (drop i ts) ≡ all → (es ++ entry_of g i t ∷ []) ++ entries_from g (i + 1) (drop (i + 1) ts) ≡ all
next_entry g ts its i t es all same is lt h =
    let d : drop i ts ≡ t ∷ drop (i + 1) ts = drop_more ts i t (subst (λ (l : List SubType). i < length l) same lt) ∙ ap (λ (y : SubType). y ∷ drop (i + 1) ts) (sym (is ∙ ap (λ (l : List SubType). get_or l i t) same)) in
    let f : i + 1 ≡ suc i = omega arith in
    append_assoc es (entry_of g i t ∷ []) (entries_from g (i + 1) (drop (i + 1) ts))
    ∙ ap (λ (n : ℕ). es ++ entry_of g i t ∷ entries_from g n (drop (i + 1) ts)) f
    ∙ sym (ap (λ (l : List SubType). es ++ entries_from g i l) d) ∙ h

-- when all types have their entries
pub all_entries : (g : ℕ) (ts its : List SubType) (i : ℕ) (es all : List Entry) → its ≡ ts → length its ≤ i → es ++ entries_from g i (drop i ts) ≡ all → es ≡ all
all_entries g ts its i es all same le h =
    sym (append-nil es) ∙ sym (ap (λ (l : List SubType). es ++ entries_from g i l) (drop_all i ts (subst (λ (l : List SubType). length l ≤ i) same le))) ∙ h

-- each type has its kind
pub kinds-entries_from : (g p : ℕ) (ts : List SubType) → map (λ (e : Entry). e.kind) (entries_from g p ts) ≡ map kind_of (map composite_of ts)
kinds-entries_from g p [] = refl
kinds-entries_from g p (t ∷ ts) = ap (λ (ks : List Kind). kind_of t.composite ∷ ks) (kinds-entries_from g (suc p) ts)

-- the entry of the type at a position, as far as its class goes
pub class-entries_from : (g p : ℕ) (ts : List SubType) (i : ℕ) → i < length ts
    → (e : Entry) × (slice_get (entries_from g p ts) i ≡ Some e) × (e.class.group ≡ g) × (e.class.position ≡ p + i)
class-entries_from g p [] i h = absurd (omega arith)
class-entries_from g p (t ∷ ts) zero h = (entry_of g p t, refl, refl, omega arith)
class-entries_from g p (t ∷ ts) (suc i) h =
    let r = class-entries_from g (suc p) ts i (omega arith) in
    (r.0, r.1, r.2, omega (arith, r.3))
