-- Derivations are closed under subsumption and under operands beneath, and go along with sequences put one after another.
use Rattle.std.proofs.Common.{◌≡◌, Bool, true, false, List, Option, Some, None, refl, sym, subst}
use Rattle.w_types.specs.declared.types.RecGroup.{RecGroup}
use Rattle.w_types.specs.declared.types.ValType.TheVariants.{I32}
use Rattle.lists.specs.Rows.{Row, ε, ◌▹◌, ◌⧺◌}
use Rattle.lists.proofs.Rows.{beside_assoc}
use Rattle.w_syntax.specs.Code.{Code, Done, Plain, Block, If, IfElse, after}
use Rattle.w_canon.specs.Supertypes.{KeepsKinds}
use Rattle.w_rules.specs.Operands.{Operand}
use Rattle.w_rules.specs.Operands.{Known}
use Rattle.w_rules.specs.Conditions.{Holds}
use Rattle.w_rules.specs.Context.{Context, arrow_of}
use Rattle.w_rules.specs.InstructionTypes.{InstrType, fixed, polymorphic, table_polymorphic, drops, selects, tests_null, as_non_null, on_null, untyped, instr_type, sets}
use Rattle.w_rules.specs.Matching.{RowMatches, known}
use Rattle.w_rules.specs.Typing.{HasType, Polymorphic, HasInstrType, ref_to, Derives, set_by}
use Rattle.w_rules.proofs.Preorder.{row_refl, row_trans, row_beside}

-- ## Values that may not be there

-- what holds of the value, by what held of it
pub holds_map : {A : Type 0} (o : Option A) (P Q : A → Type 0) → Holds o P → ((a : A) → P a → Q a) → Holds o Q
holds_map None P Q h f = h
holds_map (Some a) P Q h f = f a h

-- the same, where it gives something that does not depend on the value
pub holds_pull : {A W : Type 0} (o : Option A) (P : A → Type 0) (Q : A → W → Type 0) (R : W → Type 0) → Holds o P
    → ((a : A) → P a → (w : W) × Q a w × R w) → (w : W) × Holds o (λ a. Q a w) × R w
holds_pull None P Q R h f = absurd h
holds_pull (Some a) P Q R h f = f a h

-- ## Subsumption

-- of a step, on the left
pub steps_left : (gs : List RecGroup) → KeepsKinds gs → (ins outs ts' ts us : Row Operand) → RowMatches gs ts' ts → HasType gs ins outs ts us → HasType gs ins outs ts' us
steps_left gs keeps ins outs ts' ts us m h = record { beneath = h.beneath; takes = row_trans gs keeps ts' ts (h.beneath ⧺ ins) m h.takes; gives = h.gives }

-- on the right
pub steps_right : (gs : List RecGroup) → KeepsKinds gs → (ins outs ts us us' : Row Operand) → HasType gs ins outs ts us → RowMatches gs us us' → HasType gs ins outs ts us'
steps_right gs keeps ins outs ts us us' h m = record { beneath = h.beneath; takes = h.takes; gives = row_trans gs keeps (h.beneath ⧺ outs) us us' h.gives m }

-- of an instruction typed to any, on the left
pub polymorphic_left : (gs : List RecGroup) → KeepsKinds gs → (ins ts' ts : Row Operand) → RowMatches gs ts' ts → Polymorphic gs ins ts → Polymorphic gs ins ts'
polymorphic_left gs keeps ins ts' ts m h = record { beneath = h.beneath; takes = row_trans gs keeps ts' ts (h.beneath ⧺ ins) m h.takes }

-- of an instruction, on the left
pub takes_left : (gs : List RecGroup) → KeepsKinds gs → (l : InstrType) (ts' ts us : Row Operand) → RowMatches gs ts' ts → HasInstrType gs l ts us → HasInstrType gs l ts' us
takes_left gs keeps (fixed ins outs) ts' ts us m h = steps_left gs keeps (known ins) (known outs) ts' ts us m h
takes_left gs keeps (polymorphic ins) ts' ts us m h = polymorphic_left gs keeps (known ins) ts' ts m h
takes_left gs keeps (table_polymorphic one others) ts' ts us m h = record { ins = h.ins; polymorphic = polymorphic_left gs keeps (h.ins ▹ Known I32) ts' ts m h.polymorphic; each = h.each }
takes_left gs keeps drops ts' ts us m (t, h) = (t, steps_left gs keeps (ε ▹ t) ε ts' ts us m h)
takes_left gs keeps selects ts' ts us m (t, n, h) = (t, n, steps_left gs keeps (ε ▹ t ▹ t ▹ Known I32) (ε ▹ t) ts' ts us m h)
takes_left gs keeps tests_null ts' ts us m (t, h) = (t, steps_left gs keeps (ε ▹ ref_to true t) (ε ▹ Known I32) ts' ts us m h)
takes_left gs keeps as_non_null ts' ts us m (t, h) = (t, steps_left gs keeps (ε ▹ ref_to true t) (ε ▹ ref_to false t) ts' ts us m h)
takes_left gs keeps (on_null vs) ts' ts us m (t, h) = (t, steps_left gs keeps (known vs ▹ ref_to true t) (known vs ▹ ref_to false t) ts' ts us m h)
takes_left gs keeps untyped ts' ts us m h = h

-- on the right
pub takes_right : (gs : List RecGroup) → KeepsKinds gs → (l : InstrType) (ts us us' : Row Operand) → HasInstrType gs l ts us → RowMatches gs us us' → HasInstrType gs l ts us'
takes_right gs keeps (fixed ins outs) ts us us' h m = steps_right gs keeps (known ins) (known outs) ts us us' h m
takes_right gs keeps (polymorphic ins) ts us us' h m = h
takes_right gs keeps (table_polymorphic one others) ts us us' h m = h
takes_right gs keeps drops ts us us' (t, h) m = (t, steps_right gs keeps (ε ▹ t) ε ts us us' h m)
takes_right gs keeps selects ts us us' (t, n, h) m = (t, n, steps_right gs keeps (ε ▹ t ▹ t ▹ Known I32) (ε ▹ t) ts us us' h m)
takes_right gs keeps tests_null ts us us' (t, h) m = (t, steps_right gs keeps (ε ▹ ref_to true t) (ε ▹ Known I32) ts us us' h m)
takes_right gs keeps as_non_null ts us us' (t, h) m = (t, steps_right gs keeps (ε ▹ ref_to true t) (ε ▹ ref_to false t) ts us us' h m)
takes_right gs keeps (on_null vs) ts us us' (t, h) m = (t, steps_right gs keeps (known vs ▹ ref_to true t) (known vs ▹ ref_to false t) ts us us' h m)
takes_right gs keeps untyped ts us us' h m = h

-- of a sequence, on the left
pub derives_left : (c : Context) → KeepsKinds c.types → (s : List Bool) (k : Code) (ts' ts us : Row Operand) → RowMatches c.types ts' ts → Derives c s k ts us → Derives c s k ts' us
derives_left c keeps s Done ts' ts us m d = row_trans c.types keeps ts' ts us m d
derives_left c keeps s (Plain o k) ts' ts us m (p, (vs, t, d)) = (p, (vs, takes_left c.types keeps (instr_type c s o) ts' ts vs m t, d))
derives_left c keeps s (Block kind x b k) ts' ts us m d =
    holds_map (arrow_of c x) _ _ d (λ a h. (h.0, (h.1.0, steps_left c.types keeps (known a.from) (known a.to) ts' ts h.1.0 m h.1.1, h.1.2)))
derives_left c keeps s (If x b k) ts' ts us m d =
    holds_map (arrow_of c x) _ _ d (λ a h. (h.0, h.1, (h.2.0, steps_left c.types keeps (known a.from ▹ Known I32) (known a.to) ts' ts h.2.0 m h.2.1, h.2.2)))
derives_left c keeps s (IfElse x b e k) ts' ts us m d =
    holds_map (arrow_of c x) _ _ d (λ a h. (h.0, h.1, (h.2.0, steps_left c.types keeps (known a.from ▹ Known I32) (known a.to) ts' ts h.2.0 m h.2.1, h.2.2)))

-- on the right
pub derives_right : (c : Context) → KeepsKinds c.types → (s : List Bool) (k : Code) (ts us us' : Row Operand) → Derives c s k ts us → RowMatches c.types us us' → Derives c s k ts us'
derives_right c keeps s Done ts us us' d m = row_trans c.types keeps ts us us' d m
derives_right c keeps s (Plain o k) ts us us' (p, (vs, t, d)) m = (p, (vs, t, derives_right c keeps (sets o s) k vs us us' d m))
derives_right c keeps s (Block kind x b k) ts us us' d m =
    holds_map (arrow_of c x) _ _ d (λ a h. (h.0, (h.1.0, h.1.1, derives_right c keeps s k h.1.0 us us' h.1.2 m)))
derives_right c keeps s (If x b k) ts us us' d m =
    holds_map (arrow_of c x) _ _ d (λ a h. (h.0, h.1, (h.2.0, h.2.1, derives_right c keeps s k h.2.0 us us' h.2.2 m)))
derives_right c keeps s (IfElse x b e k) ts us us' d m =
    holds_map (arrow_of c x) _ _ d (λ a h. (h.0, h.1, (h.2.0, h.2.1, derives_right c keeps s k h.2.0 us us' h.2.2 m)))

-- ## Operands beneath

-- what matches a row matches it over the same operands
pub onto_beneath : (gs : List RecGroup) (beneath ts r ins : Row Operand) → RowMatches gs ts (r ⧺ ins) → RowMatches gs (beneath ⧺ ts) ((beneath ⧺ r) ⧺ ins)
onto_beneath gs beneath ts r ins m = let P : Row Operand → Type 0 = λ vs. RowMatches gs (beneath ⧺ ts) vs in
    subst P (sym (beside_assoc beneath r ins)) (row_beside gs beneath beneath ts (r ⧺ ins) (row_refl gs beneath) m)

-- and what a row matches, so does it over the same operands
from_beneath : (gs : List RecGroup) (beneath r outs us : Row Operand) → RowMatches gs (r ⧺ outs) us → RowMatches gs ((beneath ⧺ r) ⧺ outs) (beneath ⧺ us)
from_beneath gs beneath r outs us m = let P : Row Operand → Type 0 = λ vs. RowMatches gs vs (beneath ⧺ us) in
    subst P (sym (beside_assoc beneath r outs)) (row_beside gs beneath beneath (r ⧺ outs) us (row_refl gs beneath) m)

-- a step takes operands over the same ones
steps_frame : (gs : List RecGroup) (beneath ins outs ts us : Row Operand) → HasType gs ins outs ts us → HasType gs ins outs (beneath ⧺ ts) (beneath ⧺ us)
steps_frame gs beneath ins outs ts us h = record {
  beneath = beneath ⧺ h.beneath;
  takes = onto_beneath gs beneath ts h.beneath ins h.takes;
  gives = from_beneath gs beneath h.beneath outs us h.gives;
}

-- so does an instruction typed to any
polymorphic_frame : (gs : List RecGroup) (beneath ins ts : Row Operand) → Polymorphic gs ins ts → Polymorphic gs ins (beneath ⧺ ts)
polymorphic_frame gs beneath ins ts h = record { beneath = beneath ⧺ h.beneath; takes = onto_beneath gs beneath ts h.beneath ins h.takes }

-- an instruction takes operands over the same ones
pub takes_frame : (gs : List RecGroup) (l : InstrType) (beneath ts us : Row Operand) → HasInstrType gs l ts us → HasInstrType gs l (beneath ⧺ ts) (beneath ⧺ us)
takes_frame gs (fixed ins outs) beneath ts us h = steps_frame gs beneath (known ins) (known outs) ts us h
takes_frame gs (polymorphic ins) beneath ts us h = polymorphic_frame gs beneath (known ins) ts h
takes_frame gs (table_polymorphic one others) beneath ts us h = record { ins = h.ins; polymorphic = polymorphic_frame gs beneath (h.ins ▹ Known I32) ts h.polymorphic; each = h.each }
takes_frame gs drops beneath ts us (t, h) = (t, steps_frame gs beneath (ε ▹ t) ε ts us h)
takes_frame gs selects beneath ts us (t, n, h) = (t, n, steps_frame gs beneath (ε ▹ t ▹ t ▹ Known I32) (ε ▹ t) ts us h)
takes_frame gs tests_null beneath ts us (t, h) = (t, steps_frame gs beneath (ε ▹ ref_to true t) (ε ▹ Known I32) ts us h)
takes_frame gs as_non_null beneath ts us (t, h) = (t, steps_frame gs beneath (ε ▹ ref_to true t) (ε ▹ ref_to false t) ts us h)
takes_frame gs (on_null vs) beneath ts us (t, h) = (t, steps_frame gs beneath (known vs ▹ ref_to true t) (known vs ▹ ref_to false t) ts us h)
takes_frame gs untyped beneath ts us h = h

-- so does a sequence
pub derives_frame : (c : Context) (s : List Bool) (k : Code) (beneath ts us : Row Operand) → Derives c s k ts us
    → Derives c s k (beneath ⧺ ts) (beneath ⧺ us)
derives_frame c s Done beneath ts us d = row_beside c.types beneath beneath ts us (row_refl c.types beneath) d
derives_frame c s (Plain o k) beneath ts us (p, (vs, t, d)) =
    (p, (beneath ⧺ vs, takes_frame c.types (instr_type c s o) beneath ts vs t, derives_frame c (sets o s) k beneath vs us d))
derives_frame c s (Block kind x b k) beneath ts us d = holds_map (arrow_of c x) _ _ d (λ a h.
    (h.0, (beneath ⧺ h.1.0, steps_frame c.types beneath (known a.from) (known a.to) ts h.1.0 h.1.1, derives_frame c s k beneath h.1.0 us h.1.2)))
derives_frame c s (If x b k) beneath ts us d = holds_map (arrow_of c x) _ _ d (λ a h.
    (h.0, h.1, (beneath ⧺ h.2.0, steps_frame c.types beneath (known a.from ▹ Known I32) (known a.to) ts h.2.0 h.2.1, derives_frame c s k beneath h.2.0 us h.2.2)))
derives_frame c s (IfElse x b e k) beneath ts us d = holds_map (arrow_of c x) _ _ d (λ a h.
    (h.0, h.1, (beneath ⧺ h.2.0, steps_frame c.types beneath (known a.from ▹ Known I32) (known a.to) ts h.2.0 h.2.1, derives_frame c s k beneath h.2.0 us h.2.2)))

-- ## One sequence after another

-- two derivations make one of the two sequences
pub after_in : (c : Context) → KeepsKinds c.types → (s : List Bool) (k l : Code) (ts us vs : Row Operand) → Derives c s k ts us → Derives c (set_by k s) l us vs
    → Derives c s (after k l) ts vs
unfolding after
after_in c keeps s Done l ts us vs d e = derives_left c keeps s l ts us vs d e
after_in c keeps s (Plain o k) l ts us vs (p, (ws, t, d)) e = (p, (ws, t, after_in c keeps (sets o s) k l ws us vs d e))
after_in c keeps s (Block kind x b k) l ts us vs d e =
    holds_map (arrow_of c x) _ _ d (λ a h. (h.0, (h.1.0, h.1.1, after_in c keeps s k l h.1.0 us vs h.1.2 e)))
after_in c keeps s (If x b k) l ts us vs d e =
    holds_map (arrow_of c x) _ _ d (λ a h. (h.0, h.1, (h.2.0, h.2.1, after_in c keeps s k l h.2.0 us vs h.2.2 e)))
after_in c keeps s (IfElse x b f k) l ts us vs d e =
    holds_map (arrow_of c x) _ _ d (λ a h. (h.0, h.1, (h.2.0, h.2.1, after_in c keeps s k l h.2.0 us vs h.2.2 e)))

-- and one of the two makes two
pub after_out : (c : Context) (s : List Bool) (k l : Code) (ts vs : Row Operand) → Derives c s (after k l) ts vs
    → (us : Row Operand) × Derives c s k ts us × Derives c (set_by k s) l us vs
unfolding after
after_out c s Done l ts vs d = (ts, row_refl c.types ts, d)
after_out c s (Plain o k) l ts vs (p, (ws, t, d)) =
    let r = after_out c (sets o s) k l ws vs d in
    (r.0, (p, (ws, t, r.1)), r.2)
after_out c s (Block kind x b k) l ts vs d =
    holds_pull (arrow_of c x) _ _ _ d (λ a h. let r = after_out c s k l h.1.0 vs h.1.2 in (r.0, (h.0, (h.1.0, h.1.1, r.1)), r.2))
after_out c s (If x b k) l ts vs d =
    holds_pull (arrow_of c x) _ _ _ d (λ a h. let r = after_out c s k l h.2.0 vs h.2.2 in (r.0, (h.0, h.1, (h.2.0, h.2.1, r.1)), r.2))
after_out c s (IfElse x b f k) l ts vs d =
    holds_pull (arrow_of c x) _ _ _ d (λ a h. let r = after_out c s k l h.2.0 vs h.2.2 in (r.0, (h.0, h.1, (h.2.0, h.2.1, r.1)), r.2))

-- the locals that are set after both
pub set_by-after : (k l : Code) (s : List Bool) → set_by (after k l) s ≡ set_by l (set_by k s)
unfolding after
set_by-after Done l s = refl
set_by-after (Plain o k) l s = set_by-after k l (sets o s)
set_by-after (Block kind x b k) l s = set_by-after k l s
set_by-after (If x b k) l s = set_by-after k l s
set_by-after (IfElse x b e k) l s = set_by-after k l s
