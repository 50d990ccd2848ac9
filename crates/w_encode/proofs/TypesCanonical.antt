-- The canonical spelling of a type spells it, and is at most twice as long as any.
use Rattle.std.proofs.Common.{◌≡◌, ℕ, suc, ◌+◌, ◌*◌, ◌<◌, ◌≤◌, ◌⊎◌, inl, inr, Bool, true, false, cond, List, [], ◌∷◌, ◌++◌, length, Some, None, refl, sym, ap, subst, ◌∙◌, arith, ℤ, pos, negsuc}
use Rattle.std.specs.Prelude.{unsigned_abs, nat_eq, nat_lt}
use Rattle.std.proofs.lemmas.Bool.{ltb-true, ltb-false}
use Rattle.std.proofs.lemmas.Bool.Decides.{eqb_tells}
use Rattle.std.proofs.lemmas.List.{length-append, append-nil}
use Rattle.w_leb.specs.Format.{Format, Grammar, ByFirst, Chosen, Never, Each, Counted}
use Rattle.w_leb.specs.Formats.{number, signed_number, vec, constant, ◌⊗◌, ◌⇒◌}
use Rattle.w_leb.specs.Number.{shortest, shortest_signed, Signed}
use Rattle.w_leb.specs.ShortestLaws.{shortest_is_short, within_bits}
use Rattle.w_leb.specs.ShortestSignedLaws.{signed_spells}
use Rattle.w_leb.specs.CanonicalLaws.{IsCanonical, canon_number, canon_signed, canon_pair, canon_image, canon_vec, vec_written}
use Rattle.w_leb.specs.CanonicalTableLaws.{◌&◌, IsWritten, EntriesWritten, BeginsIn, has_none, are_apart, keys, apart_from, begins_table, begins_table_or, canon_table, canon_table_or, default_spells, of_constant, of_image}
use Rattle.w_leb.specs.IndexLaws.{index_is_u32, natural_begins, signed_is_longer}
use Rattle.w_types.specs.declared.types.HeapType.{HeapType}
use Rattle.w_types.specs.declared.types.HeapType.TheVariants as heap
use Rattle.w_types.specs.declared.types.RefType.{RefType}
use Rattle.w_types.specs.declared.types.ValType.TheVariants as val
use Rattle.w_types.specs.declared.types.CompType.{CompType}
use Rattle.w_types.specs.declared.types.CompType.TheVariants as comp
use Rattle.w_types.specs.declared.types.SubType.{SubType}
use Rattle.w_types.specs.declared.types.RecGroup.{RecGroup}
use Rattle.w_syntax.specs.declared.module.Mutability.TheVariants as access
use Rattle.w_syntax.specs.Types.{is_natural, index33, index33_solid, heaptypes, heaptype, nullable_to, non_null_to, reftypes, reftype, entries_of, valtypes, valtype, functype, comptypes, comptype, comptype_solid, subtype_with, subtypes, alone_of, subtype, subtype_solid, group_of, groups, rectype, limits_by_byte, limits, tabletype, mutabilities, mutability, globaltype}
use Rattle.w_encode.specs.TypesWritten.{index_written, heaptype_written, ref_written, reftype_written, valtype_written, functype_written, comptype_written, supertypes_written, subtype_written, rectype_written, limits_written, tabletype_written, mutability_written, globaltype_written}

-- ## Indices of types

natural_back : (z : ℤ) → is_natural z ≡ true → pos (unsigned_abs z) ≡ z
natural_back (pos n) h = refl
natural_back (negsuc n) h = absurd cc

pub canon_index : IsCanonical index33 index_written
unfolding index33
canon_index = record {
  short = λ b n h. subst (λ (k : ℕ). length (index_written k) ≤ 2 * length b) h.2
      (subst (λ (z : ℤ). length (shortest_signed z) ≤ 2 * length b) (sym (natural_back h.0 h.1.1)) ((canon_signed 33 (omega arith)).short b h.0 h.1.0));
  again = λ b n h le.
      (h.0, (subst (λ (l : List ℕ). (signed_number 33).Spells l h.0) (ap shortest_signed (sym (natural_back h.0 h.1.1)) ∙ ap (λ (k : ℕ). index_written k) h.2) ((canon_signed 33 (omega arith)).again b h.0 h.1.0 le), h.1.1), h.2);
}

first_of_natural : (k : ℕ) (b : List ℕ) (z : ℤ) → Signed 33 (k ∷ b) z → is_natural z ≡ true → (k < 64) ⊎ (128 ≤ k)
first_of_natural k b (pos n) h e = natural_begins 33 k b n h
first_of_natural k b (negsuc n) h e = absurd cc

-- a spelling of an index begins with a byte below 64 or from 128 on
index_begins : (k : ℕ) (b : List ℕ) (x : ℕ) → index33.Spells (k ∷ b) x → (k < 64) ⊎ (128 ≤ k)
unfolding index33
index_begins k b x h = first_of_natural k b h.0 h.1.0 h.1.1

-- the bytes of entries lie between
abbrev are_between : {A : Type 0} → List (ℕ × Format A) → Bool
are_between [] = true
are_between (e ∷ es) = cond (nat_lt e.0 64) false (cond (nat_lt e.0 128) (are_between es) false)

not_between : (k j : ℕ) (a b v w : Bool) → nat_lt j 64 ≡ a → nat_lt j 128 ≡ b → cond a false (cond b w false) ≡ true → (k < 64) ⊎ (128 ≤ k) → (w ≡ true → v ≡ true) → cond (nat_eq k j) false v ≡ true
not_between k j true b v w p q e h f = absurd cc
not_between k j false false v w p q e h f = absurd cc
not_between k j false true v w p q e (inl h) f = elim (eqb_tells k j) [ inl t ↦ absurd (omega (arith, t.1, h, ltb-false j 64 p)) | inr t ↦ rw t.0 (f e) ]
not_between k j false true v w p q e (inr h) f = elim (eqb_tells k j) [ inl t ↦ absurd (omega (arith, t.1, h, ltb-true j 128 q)) | inr t ↦ rw t.0 (f e) ]

outside : {A : Type 0} (t : List (ℕ × Format A)) (k : ℕ) → are_between t ≡ true → (k < 64) ⊎ (128 ≤ k) → has_none t k ≡ true
outside [] k a h = refl
outside (e ∷ t) k a h = not_between k e.0 (nat_lt e.0 64) (nat_lt e.0 128) (has_none t k) (are_between t) refl refl a h (λ b. outside t k b h)

-- where an index is the default, no entry has the first byte of one
pub not_an_index : {A B : Type 0} (t : List (ℕ × Format A)) (make : ℕ → B) → are_between t ≡ true → (k : ℕ) (b : List ℕ) (x : B) → (index33 ⇒ make).Spells (k ∷ b) x → has_none t k ≡ true
not_an_index t make a k b x h = outside t k a (index_begins k b h.0 h.1)

-- ## Value types

pub canon_heaptype : IsCanonical heaptype heaptype_written
unfolding heaptype
canon_heaptype = canon_table_or heaptypes (index33 ⇒ heap.Index) (λ x h. index33_solid h.0 h.1) heaptype_written
    (canon_image index33 index_written heap.Index heaptype_written canon_index (λ x. refl))
    (not_an_index heaptypes heap.Index refl)
    (of_constant heap.Func heaptype.Spells heaptype_written (omega arith) (refl, refl)
    & of_constant heap.NoFunc heaptype.Spells heaptype_written (omega arith) (refl, refl)
    & of_constant heap.Cont heaptype.Spells heaptype_written (omega arith) (refl, refl)
    & of_constant heap.NoCont heaptype.Spells heaptype_written (omega arith) (refl, refl)
    & tt)

-- a nullable reference is no longer than with its byte 63
pub null_long : (h : HeapType) → length (ref_written true h) ≤ suc (length (heaptype_written h))
null_long heap.Func = omega arith
null_long heap.NoFunc = omega arith
null_long heap.Cont = omega arith
null_long heap.NoCont = omega arith
null_long (heap.Index x) = omega arith

null_spelled : (h : HeapType) → heaptype.Spells (heaptype_written h) h → ByFirst reftypes Never (ref_written true h) (nullable_to h)
null_spelled heap.Func s = (refl, refl)
null_spelled heap.NoFunc s = (refl, refl)
null_spelled heap.Cont s = (heap.Cont, s, refl)
null_spelled heap.NoCont s = (heap.NoCont, s, refl)
null_spelled (heap.Index x) s = (heap.Index x, s, refl)

cont_spelled : heaptype.Spells (heaptype_written heap.Cont) heap.Cont
unfolding heaptype
cont_spelled = (refl, refl)

nocont_spelled : heaptype.Spells (heaptype_written heap.NoCont) heap.NoCont
unfolding heaptype
nocont_spelled = (refl, refl)

-- ## A table's entries, for what make makes of their values

entry_or : (v : Bool) (P Q R S : Type 0) → (P → R) → (Q → S) → cond v P Q → cond v R S
entry_or true P Q R S f g h = f h
entry_or false P Q R S f g h = g h

-- they spell what the entries spell
chosen_entries : {A B : Type 0} (t : List (ℕ × Format A)) (make : A → B) (g : Grammar B) (k : ℕ) (b : List ℕ) (x : A) → Chosen t Never k b x → Chosen (entries_of make t) g k b (make x)
chosen_entries [] make g k b x h = absurd h
chosen_entries (e ∷ t) make g k b x h =
    entry_or (nat_eq k e.0) (e.1.Spells b x) (Chosen t Never k b x) ((e.1 ⇒ make).Spells b (make x)) (Chosen (entries_of make t) g k b (make x)) (λ s. (x, s, refl)) (chosen_entries t make g k b x) h

behind_one : {B : Type 0} (v : Bool) (e : Format B) (s t : List (ℕ × Format B)) (g : Grammar B) (k : ℕ) (b : List ℕ) (x : B) → cond v false (has_none s k) ≡ true → Chosen t g k b x → (has_none s k ≡ true → Chosen (s ++ t) g k b x) → cond v (e.Spells b x) (Chosen (s ++ t) g k b x)
behind_one true e s t g k b x n h f = absurd cc
behind_one false e s t g k b x n h f = f n

behind : {B : Type 0} (s t : List (ℕ × Format B)) (g : Grammar B) (k : ℕ) (b : List ℕ) (x : B) → has_none s k ≡ true → Chosen t g k b x → Chosen (s ++ t) g k b x
behind [] t g k b x n h = h
behind (e ∷ s) t g k b x n h = behind_one (nat_eq k e.0) e.1 s t g k b x n h (λ m. behind s t g k b x m h)

-- also behind others, whose bytes are none of theirs
pub spelled_behind : {A B : Type 0} (s : List (ℕ × Format B)) (t : List (ℕ × Format A)) (make : A → B) (g : Grammar B) → are_apart (keys t ++ []) s ≡ true → (l : List ℕ) (x : A) → ByFirst t Never l x → ByFirst (s ++ entries_of make t) g l (make x)
spelled_behind s t make g a [] x h = absurd h
spelled_behind s t make g a (k ∷ b) x h = behind s (entries_of make t) g k b (make x) (apart_from (keys t ++ []) s a k (begins_table t k b x h)) (chosen_entries t make g k b x h)

-- their values are written as those of the entries
pub entries_written : {A B : Type 0} (t : List (ℕ × Format A)) (make : A → B) (whole : Grammar A) (all : Grammar B) (v : A → List ℕ) (w : B → List ℕ) → ((x : A) → w (make x) ≡ v x) → ((x : A) → whole (v x) x → all (v x) (make x)) → EntriesWritten t whole v → EntriesWritten (entries_of make t) all w
entries_written [] make whole all v w e f es = tt
entries_written (y ∷ t) make whole all v w e f es =
    (λ b x s.
    let one = es.0 b s.0 s.1 in
    subst (IsWritten all w b) s.2 (omega (arith, ap length (e s.0), one.0), λ le. subst (λ (l : List ℕ). all l (make s.0)) (sym (e s.0)) (f s.0 (one.1 le))))
    & entries_written t make whole all v w e f es.1

reftypes_written : EntriesWritten reftypes (ByFirst reftypes Never) reftype_written
reftypes_written =
    of_image heaptype heaptype_written nullable_to (ByFirst reftypes Never) reftype_written canon_heaptype null_long null_spelled
    & of_image heaptype heaptype_written non_null_to (ByFirst reftypes Never) reftype_written canon_heaptype (λ h. omega arith) (λ h s. (h, s, refl))
    & of_constant (nullable_to heap.Func) (ByFirst reftypes Never) reftype_written (omega arith) (refl, refl)
    & of_constant (nullable_to heap.NoFunc) (ByFirst reftypes Never) reftype_written (omega arith) (refl, refl)
    & of_constant (nullable_to heap.Cont) (ByFirst reftypes Never) reftype_written (omega arith) (heap.Cont, cont_spelled, refl)
    & of_constant (nullable_to heap.NoCont) (ByFirst reftypes Never) reftype_written (omega arith) (heap.NoCont, nocont_spelled, refl)
    & tt

pub canon_reftype : IsCanonical reftype reftype_written
unfolding reftype
canon_reftype = canon_table reftypes reftype_written reftypes_written

-- a reference type as a value type
reference_spelled : (l : List ℕ) (r : RefType) → ByFirst reftypes Never l r → ByFirst valtypes Never l (val.Ref r)
reference_spelled l r h = spelled_behind ((0x7F, constant val.I32) ∷ (0x7E, constant val.I64) ∷ []) reftypes val.Ref Never refl l r h

pub valtypes_written : EntriesWritten valtypes (ByFirst valtypes Never) valtype_written
valtypes_written =
    of_constant val.I32 (ByFirst valtypes Never) valtype_written (omega arith) (refl, refl)
    & of_constant val.I64 (ByFirst valtypes Never) valtype_written (omega arith) (refl, refl)
    & entries_written reftypes val.Ref (ByFirst reftypes Never) (ByFirst valtypes Never) reftype_written valtype_written (λ r. refl) (λ r. reference_spelled (reftype_written r) r) reftypes_written

pub canon_valtype : IsCanonical valtype valtype_written
unfolding valtype
canon_valtype = canon_table valtypes valtype_written valtypes_written

-- ## The types of a module

pub canon_functype : IsCanonical functype functype_written
unfolding functype
canon_functype =
    canon_image (vec valtype ⊗ vec valtype) (λ p. vec_written valtype_written p.0 ++ vec_written valtype_written p.1) (λ p. record { params = p.0; results = p.1 }) functype_written
    (canon_pair (vec valtype) (vec valtype) (vec_written valtype_written) (vec_written valtype_written) (canon_vec valtype valtype_written canon_valtype) (canon_vec valtype valtype_written canon_valtype)) (λ p. refl)

-- an unsigned index, written as a signed one
signed_index : (b : List ℕ) (x : CompType) → (number 32 ⇒ comp.Cont).Spells b x → IsWritten (ByFirst comptypes Never) comptype_written b x
signed_index b x h =
    let n = h.0 in
    let small = within_bits 32 n b h.1 in
    subst (IsWritten (ByFirst comptypes Never) comptype_written b) h.2 (
      omega (arith, signed_is_longer 9 n, shortest_is_short 9 32 n b h.1),
      λ le. (n, index_is_u32 (index_written n) n (signed_spells 9 33 (pos n) (omega arith) small), refl),
    )

pub canon_comptype : IsCanonical comptype comptype_written
unfolding comptype
canon_comptype = canon_table comptypes comptype_written
    (of_image functype functype_written comp.Func (ByFirst comptypes Never) comptype_written canon_functype (λ t. omega arith) (λ t s. (t, s, refl))
    & signed_index
    & tt)

comptype_begins : BeginsIn (0x60 ∷ 0x5D ∷ []) comptype.Spells
unfolding comptype
comptype_begins k b x h = begins_table comptypes k b x h

-- ## Types with supertypes

abbrev plain : Format SubType
plain = comptype ⇒ alone_of

plain_apart : (k : ℕ) (b : List ℕ) (x : SubType) → plain.Spells (k ∷ b) x → has_none subtypes k ≡ true
plain_apart k b x h = apart_from (0x60 ∷ 0x5D ∷ []) subtypes refl k (comptype_begins k b h.0 h.1)

plain_spelled : (l : List ℕ) (x : SubType) → plain.Spells l x → ByFirst subtypes plain.Spells l x
plain_spelled l x h = default_spells subtypes plain (λ x h. comptype_solid h.0 h.1) plain_apart l x h

canon_supertypes : IsCanonical (vec (number 32) ⊗ comptype) supertypes_written
canon_supertypes = canon_pair (vec (number 32)) comptype (vec_written shortest) comptype_written (canon_vec (number 32) shortest (canon_number 32 (omega arith))) canon_comptype

-- a final type without supertypes behind 4F is written as its composite type
final_is_written : (b xs : List ℕ) (c : CompType) → (vec (number 32) ⊗ comptype).Spells b (xs, c) → IsWritten (ByFirst subtypes plain.Spells) subtype_written b (subtype_with true (xs, c))
final_is_written b (x ∷ xs) c h =
    (omega (arith, canon_supertypes.short b (x ∷ xs, c) h), λ le. ((x ∷ xs, c), canon_supertypes.again b (x ∷ xs, c) h le, refl))
final_is_written b [] c h =
    let len : length b ≡ length h.0 + length h.1 = ap length h.2 ∙ length-append h.0 h.1 in
    (omega (arith, canon_comptype.short h.1 c h.4), λ le. plain_spelled (comptype_written c) (subtype_with true ([], c)) (c, canon_comptype.again h.1 c h.4 (omega arith), refl))

final_written_by : (b : List ℕ) (x : SubType) → (vec (number 32) ⊗ comptype ⇒ subtype_with true).Spells b x → IsWritten (ByFirst subtypes plain.Spells) subtype_written b x
final_written_by b x h = subst (IsWritten (ByFirst subtypes plain.Spells) subtype_written b) h.2 (final_is_written b h.0.0 h.0.1 h.1)

pub canon_subtype : IsCanonical subtype subtype_written
unfolding subtype
canon_subtype = canon_table_or subtypes plain (λ x h. comptype_solid h.0 h.1) subtype_written (canon_image comptype comptype_written alone_of subtype_written canon_comptype (λ t. refl)) plain_apart
    (of_image (vec (number 32) ⊗ comptype) supertypes_written (subtype_with false) (ByFirst subtypes plain.Spells) subtype_written canon_supertypes (λ p. omega arith) (λ p s. (p, s, refl))
    & final_written_by
    & tt)

plain_begins : BeginsIn (0x60 ∷ 0x5D ∷ []) plain.Spells
plain_begins k b x h = comptype_begins k b h.0 h.1

subtype_begins : BeginsIn (0x50 ∷ 0x4F ∷ 0x60 ∷ 0x5D ∷ []) subtype.Spells
unfolding subtype
subtype_begins k b x h = begins_table_or subtypes plain (λ x h. comptype_solid h.0 h.1) (0x60 ∷ 0x5D ∷ []) plain_begins k b x h

-- ## Groups

abbrev alone : Format RecGroup
alone = subtype ⇒ λ t. group_of (t ∷ [])

alone_apart : (k : ℕ) (b : List ℕ) (x : RecGroup) → alone.Spells (k ∷ b) x → has_none groups k ≡ true
alone_apart k b x h = apart_from (0x50 ∷ 0x4F ∷ 0x60 ∷ 0x5D ∷ []) groups refl k (subtype_begins k b h.0 h.1)

alone_spelled : (l : List ℕ) (x : RecGroup) → alone.Spells l x → ByFirst groups alone.Spells l x
alone_spelled l x h = default_spells groups alone (λ x h. subtype_solid h.0 h.1) alone_apart l x h

one_type : (b : List ℕ) (t : SubType) → Each subtype.Spells b (t ∷ []) → subtype.Spells b t
unfolding Each
one_type b t h = subst (λ (l : List ℕ). subtype.Spells l t) (sym (h.2 ∙ ap (λ (l : List ℕ). h.0 ++ l) h.4 ∙ append-nil h.0)) h.3

-- a group of one behind 4E is written as its type
group_is_written : (b : List ℕ) (ts : List SubType) → (vec subtype).Spells b ts → IsWritten (ByFirst groups alone.Spells) rectype_written b (record { types = ts })
unfolding Counted
group_is_written b [] h = let c = canon_vec subtype subtype_written canon_subtype in (omega (arith, c.short b [] h), λ le. ([], c.again b [] h le, refl))
group_is_written b (t ∷ u ∷ ts) h =
    let c = canon_vec subtype subtype_written canon_subtype in
    (omega (arith, c.short b (t ∷ u ∷ ts) h), λ le. (t ∷ u ∷ ts, c.again b (t ∷ u ∷ ts) h le, refl))
group_is_written b (t ∷ []) h =
    let s = one_type h.1 t h.4 in
    let len : length b ≡ length h.0 + length h.1 = ap length h.2 ∙ length-append h.0 h.1 in
    (omega (arith, canon_subtype.short h.1 t s), λ le. alone_spelled (subtype_written t) (record { types = t ∷ [] }) (t, canon_subtype.again h.1 t s (omega arith), refl))

group_written_by : (b : List ℕ) (x : RecGroup) → (vec subtype ⇒ group_of).Spells b x → IsWritten (ByFirst groups alone.Spells) rectype_written b x
group_written_by b x h = subst (IsWritten (ByFirst groups alone.Spells) rectype_written b) h.2 (group_is_written b h.0 h.1)

pub canon_rectype : IsCanonical rectype rectype_written
unfolding rectype
canon_rectype = canon_table_or groups alone (λ x h. subtype_solid h.0 h.1) rectype_written (canon_image subtype subtype_written (λ t. record { types = t ∷ [] }) rectype_written canon_subtype (λ t. refl)) alone_apart (group_written_by & tt)

-- ## Limits, tables and globals

pub canon_limits : IsCanonical limits limits_written
unfolding limits
canon_limits = canon_table limits_by_byte limits_written
    (of_image (number 64) shortest (λ n. record { min = n; max = None }) limits.Spells limits_written (canon_number 64 (omega arith)) (λ n. omega arith) (λ n s. (n, s, refl))
    & of_image (number 64 ⊗ number 64) (λ p. shortest p.0 ++ shortest p.1) (λ p. record { min = p.0; max = Some p.1 }) limits.Spells limits_written
    (canon_pair (number 64) (number 64) shortest shortest (canon_number 64 (omega arith)) (canon_number 64 (omega arith))) (λ p. omega arith) (λ p s. (p, s, refl))
    & tt)

pub canon_tabletype : IsCanonical tabletype tabletype_written
unfolding tabletype
canon_tabletype = canon_image (reftype ⊗ limits) (λ p. reftype_written p.0 ++ limits_written p.1) (λ p. record { element = p.0; limits = p.1 }) tabletype_written (canon_pair reftype limits reftype_written limits_written canon_reftype canon_limits) (λ p. refl)

canon_mutability : IsCanonical mutability mutability_written
unfolding mutability
canon_mutability = canon_table mutabilities mutability_written
    (of_constant access.Const mutability.Spells mutability_written (omega arith) (refl, refl)
    & of_constant access.Var mutability.Spells mutability_written (omega arith) (refl, refl)
    & tt)

pub canon_globaltype : IsCanonical globaltype globaltype_written
unfolding globaltype
canon_globaltype = canon_image (valtype ⊗ mutability) (λ p. valtype_written p.0 ++ mutability_written p.1) (λ p. record { kind = p.0; mutability = p.1 }) globaltype_written (canon_pair valtype mutability valtype_written mutability_written canon_valtype canon_mutability) (λ p. refl)
