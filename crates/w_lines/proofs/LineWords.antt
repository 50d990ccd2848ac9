-- Lines are read as they are written.
use Rattle.std.proofs.Common.{◌≡◌, ℕ, ◌^◌, ◌<◌, ◌≤◌, Bool, true, false, cond, List, [], ◌∷◌, ◌++◌, map, Option, Some, None, refl, sym, ap, subst, ◌∙◌, arith, rules, decimal, inl, inr}
use Rattle.std.specs.Prelude.{option_map, codes, ⊤}
use Rattle.std.specs.Str.{bytes_eq}
use Rattle.std.proofs.lemmas.Slice.Eq.{bytes_eq-Decides}
use Rattle.std.proofs.lemmas.List.{append-nil}
use Rattle.w_types.specs.declared.types.RefType.{RefType}
use Rattle.w_types.specs.declared.types.ValType.{ValType}
use Rattle.w_types.specs.declared.types.FuncType.{FuncType}
use Rattle.w_types.specs.declared.types.CompType.{CompType}
use Rattle.w_types.specs.declared.types.CompType.TheVariants as comp
use Rattle.w_types.specs.declared.types.SubType.{SubType}
use Rattle.w_syntax.specs.declared.module.Mutability.{Mutability}
use Rattle.w_syntax.specs.declared.module.Mutability.TheVariants as access
use Rattle.w_syntax.specs.declared.module.TableType.{TableType}
use Rattle.w_syntax.specs.declared.module.ExternType.{ExternType}
use Rattle.w_syntax.specs.declared.module.ExternType.TheVariants as extern
use Rattle.w_syntax.specs.declared.module.ExternIndex.{ExternIndex}
use Rattle.w_syntax.specs.declared.module.ExternIndex.TheVariants as index
use Rattle.w_words.specs.Words.{Word, ◌>>=◌, IsClean, Each, ended, two_of, each_of, each_until}
use Rattle.w_words.specs.Numbers.{Index32, number_of, count_of}
use Rattle.w_words.specs.Hexadecimal.{name_of}
use Rattle.w_words.specs.Types.{ref_of, val_word, ValFits, val_of}
use Rattle.w_words.proofs.Readings.{IsSpelling, IsListSpelling, tested, mapped, then_some, ended_told, ones, twos, each_sound, until_sound}
use Rattle.w_words.proofs.Numerals.{numbers, indices as index_numbers, decimal_begins}
use Rattle.w_words.proofs.Counts.{counts}
use Rattle.w_words.proofs.HexadecimalWords.{byte_lists, names}
use Rattle.w_words.proofs.TypeWords.{ref_types, val_types, not_named}
use Rattle.w_lines.specs.declared.line.Mode.{Mode}
use Rattle.w_lines.specs.declared.line.Mode.TheVariants as mode
use Rattle.w_lines.specs.declared.line.Line.{Line}
use Rattle.w_lines.specs.declared.line.Line.TheVariants as line
use Rattle.w_lines.specs.Instructions.{token_of}
use Rattle.w_lines.specs.Spelling.{max_word, mutability_word, mode_words, func_words, composite_words, below_words, type_words, limits_words, table_words, global_words, extern_words, index_words, init_words, line_words, MaxFits, LimitsFit, TableFits, ExternFits, ExternIndexFits, FuncFits, CompositeFits, TypeFits, ModeFits, LineFits, Reader, reader_in, by_first, one_number, max_of, mutability_of, limits_of, table_in, table_of, global_of, func_of, composites, composite_of, below_of, final_with, open_with, alone, externs, extern_of, indices, index_of, module_line, group_line, func_line, final_line, open_line, import_line, init_of, table_line, memory_line, global_line, export_line, items_line, active_items, modes, elements_line, active_data, passive_data, data_modes, data_line, local_line, kinds, by_kind, line_in}
use Rattle.w_lines.proofs.InstructionRows.{token_sound}

-- ## Readers by the first word

-- a reader of the words behind w finds what holds of all of them
abbrev SoundBy : {A : Type 0} → (A → List Word → Type 0) → Word → Reader A → Type 0
SoundBy {A} G w f = (ws : List Word) (x : A) → f ws ≡ Some x → G x (w ∷ ws)

abbrev EachSoundBy : {A : Type 0} → (A → List Word → Type 0) → List (Word × Reader A) → Type 0
EachSoundBy G [] = ⊤
EachSoundBy G (r ∷ rs) = SoundBy G r.0 r.1 × EachSoundBy G rs

reader_with : {A : Type 0} (G : A → List Word → Type 0) (b : Bool) (r : Word × Reader A) (rs : List (Word × Reader A)) (w : Word) (f : Reader A) → bytes_eq w r.0 ≡ b → SoundBy G r.0 r.1 → (reader_in rs w ≡ Some f → SoundBy G w f) → cond b (Some r.1) (reader_in rs w) ≡ Some f → SoundBy G w f
reader_with G true r rs w f e h k g =
    let is : w ≡ r.0 = (bytes_eq-Decides w r.0).0 e in
    let same : r.1 ≡ f = cc in
    subst (λ (v : Word). SoundBy G v f) (sym is) (subst (SoundBy G r.0) same h)
reader_with G false r rs w f e h k g = k g

reader_sound : {A : Type 0} (G : A → List Word → Type 0) (rs : List (Word × Reader A)) (w : Word) (f : Reader A) → EachSoundBy G rs → reader_in rs w ≡ Some f → SoundBy G w f
reader_sound G [] w f h e = absurd cc
reader_sound G (r ∷ rs) w f h e = reader_with G (bytes_eq w r.0) r rs w f refl h.0 (reader_sound G rs w f h.1) e

first_sound : {A : Type 0} (G : A → List Word → Type 0) (rs : List (Word × Reader A)) → EachSoundBy G rs → (ws : List Word) (x : A) → by_first rs ws ≡ Some x → G x ws
first_sound G rs h [] x e = absurd cc
first_sound G rs h (w ∷ ws) x e =
    let a = then_some (reader_in rs w) (λ f. f ws) x e in
    reader_sound G rs w a.0 h a.1 ws x a.2

-- words behind a first one, read by a spelling
by_spelling : {A B : Type 0} {words : A → List Word} {of : List Word → Option A} {Fits : A → Type 0} → IsListSpelling words of Fits → (G : B → List Word → Type 0) (w : Word) (f : A → B) → ((x : A) → Fits x → G (f x) (w ∷ words x)) → SoundBy G w (λ ws. option_map f (of ws))
by_spelling {A} {B} {words} {of} s G w f h ws y e =
    let a = mapped f (of ws) y e in
    let n = s.sound ws a.0 a.1 in
    subst (λ (z : B). G z (w ∷ ws)) a.2 (subst (λ (us : List Word). G (f a.0) (w ∷ us)) n.1 (h a.0 n.0))

-- one number behind a word
number_sound : {A : Type 0} (G : A → List Word → Type 0) (w : Word) (k : ℕ) (f : ℕ → A) → (le : k ≤ 64) → ((n : ℕ) → n < 2 ^ k → G (f n) (w ∷ decimal n ∷ [])) → SoundBy G w (one_number k f)
number_sound G w k f le h = by_spelling (ones (numbers k le)) G w f h

infixr 10 ◌&◌
abbrev ◌&◌ : {P Q : Type 0} → P → Q → P × Q
p & q = (p, q)

-- ## Parts of lines

-- what is made of what is spelled
image : {A B : Type 0} {words : A → List Word} {of : List Word → Option A} {Fits : A → Type 0} → IsListSpelling words of Fits → (other : B → List Word) (OtherFits : B → Type 0) (make : A → B) (parts : B → A) → ((y : B) → make (parts y) ≡ y) → ((x : A) → Fits x → OtherFits (make x)) → ((y : B) → OtherFits y → Fits (parts y)) → ((x : A) → other (make x) ≡ words x) → IsListSpelling other (λ ws. option_map make (of ws)) OtherFits
image {A} {B} {words} {of} {Fits} s other OtherFits make parts back fits fit same = record {
  sound = λ ws y e. (
      let a = mapped make (of ws) y e in
      let n = s.sound ws a.0 a.1 in
      subst (λ (z : B). OtherFits z × (other z ≡ ws)) a.2 (fits a.0 n.0, same a.0 ∙ n.1));
  complete = λ y f. (
      let e : other y ≡ words (parts y) = ap other (sym (back y)) ∙ same (parts y) in
      ap (λ (us : List Word). option_map make (of us)) e ∙ ap (option_map make) (s.complete (parts y) (fit y f)) ∙ ap (λ (z : B). Some z) (back y));
  clean = λ y f. (
      let e : other y ≡ words (parts y) = ap other (sym (back y)) ∙ same (parts y) in
      subst (Each IsClean) (sym e) (s.clean (parts y) (fit y f)));
}

max_complete : (o : Option ℕ) → MaxFits o → max_of (max_word o) ≡ Some o
max_complete None f = refl
max_complete (Some n) f =
    let d = decimal_begins n f in
    rw (not_named (decimal n) d.0 d.3 (codes "-") 45 [] d.1 d.2 refl refl) (ap (option_map (λ m. Some m)) ((numbers 64 (omega arith)).complete n f))

max_clean : (o : Option ℕ) → MaxFits o → IsClean (max_word o)
max_clean None f = search rules
max_clean (Some n) f = (numbers 64 (omega arith)).clean n f

max_sound : (w : Word) (o : Option ℕ) → max_of w ≡ Some o → MaxFits o × (max_word o ≡ w)
max_sound w o e = elim (tested (bytes_eq w (codes "-")) w (codes "-") None o _ refl e) [
  | inl p ↦ subst (λ (x : Option ℕ). MaxFits x × (max_word x ≡ w)) p.1 (tt, sym p.0)
  | inr e2 ↦
      let a = mapped (λ n. Some n) (number_of 64 w) o e2 in
      subst (λ (x : Option ℕ). MaxFits x × (max_word x ≡ w)) a.2 ((numbers 64 (omega arith)).sound w a.0 a.1)
]

pub maxima : IsSpelling max_word max_of MaxFits
maxima = record { sound = max_sound; complete = max_complete; clean = max_clean }

mutability_sound : (w : Word) (a : Mutability) → mutability_of w ≡ Some a → ⊤ × (mutability_word a ≡ w)
mutability_sound w a e = elim (tested (bytes_eq w (codes "const")) w (codes "const") access.Const a _ refl e) [
  | inl p ↦ subst (λ (x : Mutability). ⊤ × (mutability_word x ≡ w)) p.1 (tt, sym p.0)
  | inr e2 ↦ elim (tested (bytes_eq w (codes "var")) w (codes "var") access.Var a None refl e2) [
    | inl p ↦ subst (λ (x : Mutability). ⊤ × (mutability_word x ≡ w)) p.1 (tt, sym p.0)
    | inr e3 ↦ absurd cc
  ]
]

mutability_complete : (a : Mutability) → ⊤ → mutability_of (mutability_word a) ≡ Some a
mutability_complete access.Const f = refl
mutability_complete access.Var f = refl

mutability_clean : (a : Mutability) → ⊤ → IsClean (mutability_word a)
mutability_clean access.Const f = search rules
mutability_clean access.Var f = search rules

pub mutabilities : IsSpelling mutability_word mutability_of (λ a. ⊤)
mutabilities = record { sound = mutability_sound; complete = mutability_complete; clean = mutability_clean }

pub limits : IsListSpelling limits_words limits_of LimitsFit
limits = image (twos (numbers 64 (omega arith)) maxima) limits_words LimitsFit (λ p. record { min = p.0; max = p.1 }) (λ l. (l.min, l.max)) (λ l. refl) (λ p f. f) (λ l f. f) (λ p. refl)

pub global_types : IsListSpelling global_words global_of (λ g. ValFits g.kind)
global_types = image (twos val_types mutabilities) global_words (λ g. ValFits g.kind) (λ p. record { kind = p.0; mutability = p.1 }) (λ g. (g.kind, g.mutability)) (λ g. refl) (λ p f. f.0) (λ g f. (f, tt)) (λ p. refl)

abbrev TableTold : TableType × List Word → List Word → Type 0
TableTold p ws = TableFits p.0 × (table_words p.0 ++ p.1 ≡ ws)

table_in_sound : (ws : List Word) (p : TableType × List Word) → table_in ws ≡ Some p → TableTold p ws
table_in_sound [] p e = absurd cc
table_in_sound (w ∷ []) p e = let a = then_some (ref_of w) (λ r. None) p e in absurd cc
table_in_sound (w ∷ v ∷ []) p e =
    let a = then_some (ref_of w) (λ r. number_of 64 v >>= λ n. None) p e in
    let b = then_some (number_of 64 v) (λ n. None) p a.2 in
    absurd cc
table_in_sound (w ∷ v ∷ u ∷ ws) p e =
    let a = then_some (ref_of w) (λ r. number_of 64 v >>= λ n. option_map (λ (o : Option ℕ). (record { element = r; limits = record { min = n; max = o } }, ws)) (max_of u)) p e in
    let b = then_some (number_of 64 v) (λ n. option_map (λ (o : Option ℕ). (record { element = a.0; limits = record { min = n; max = o } }, ws)) (max_of u)) p a.2 in
    let c = mapped (λ (o : Option ℕ). (record { element = a.0; limits = record { min = b.0; max = o } }, ws)) (max_of u) p b.2 in
    let r = ref_types.sound w a.0 a.1 in
    let n = (numbers 64 (omega arith)).sound v b.0 b.1 in
    let m = max_sound u c.0 c.1 in
    subst (λ (q : TableType × List Word). TableTold q (w ∷ v ∷ u ∷ ws)) c.2 ((r.0, (n.0, m.0)), rw (r.1, n.1, m.1) refl)

table_sound : (ws : List Word) (t : TableType) → table_of ws ≡ Some t → TableFits t × (table_words t ≡ ws)
table_sound ws t e =
    let a = then_some (table_in ws) (λ p. ended p.0 p.1) t e in
    let b = ended_told a.0.0 t a.0.1 a.2 in
    let h = table_in_sound ws a.0 a.1 in
    let same : table_words a.0.0 ≡ ws = sym (append-nil (table_words a.0.0)) ∙ ap (λ (us : List Word). table_words a.0.0 ++ us) (sym b.0) ∙ h.1 in
    subst (λ (k : TableType). TableFits k × (table_words k ≡ ws)) b.1 (h.0, same)

func_sound : (ws : List Word) (t : FuncType) → func_of ws ≡ Some t → FuncFits t × (func_words t ≡ ws)
func_sound ws t e =
    let a = then_some (each_until (codes "->") val_of ws) (λ p. option_map (λ (ts : List ValType). record { params = p.0; results = ts }) (each_of val_of p.1)) t e in
    let b = mapped (λ (ts : List ValType). record { params = a.0.0; results = ts }) (each_of val_of a.0.1) t a.2 in
    let p = until_sound val_types (codes "->") ws a.0 a.1 in
    let r = each_sound val_types a.0.1 b.0 b.1 in
    subst (λ (k : FuncType). FuncFits k × (func_words k ≡ ws)) b.2 ((p.0, r.0), ap (λ (us : List Word). map val_word a.0.0 ++ codes "->" ∷ us) r.1 ∙ p.1)

abbrev CompositeTold : CompType → List Word → Type 0
CompositeTold c ws = CompositeFits c × (composite_words c ≡ ws)

func_composite : SoundBy CompositeTold (codes "func") (λ ws. option_map comp.Func (func_of ws))
func_composite ws c e =
    let a = mapped comp.Func (func_of ws) c e in
    let t = func_sound ws a.0 a.1 in
    subst (λ (d : CompType). CompositeTold d (codes "func" ∷ ws)) a.2 (t.0, ap (λ (us : List Word). codes "func" ∷ us) t.1)

composites_sound : EachSoundBy CompositeTold composites
composites_sound = func_composite & number_sound CompositeTold (codes "cont") 32 comp.Cont (omega arith) (λ n h. (h, refl)) & tt

composite_sound : (ws : List Word) (c : CompType) → composite_of ws ≡ Some c → CompositeTold c ws
composite_sound ws c e = first_sound CompositeTold composites composites_sound ws c e

abbrev BelowTold : List ℕ × CompType → List Word → Type 0
BelowTold p ws = Each Index32 p.0 × CompositeFits p.1 × (below_words p.0 p.1 ≡ ws)

below_sound : (ws : List Word) (p : List ℕ × CompType) → below_of ws ≡ Some p → BelowTold p ws
below_sound ws p e =
    let a = then_some (each_until (codes ":") (number_of 32) ws) (λ q. option_map (λ (c : CompType). (q.0, c)) (composite_of q.1)) p e in
    let b = mapped (λ (c : CompType). (a.0.0, c)) (composite_of a.0.1) p a.2 in
    let x = until_sound index_numbers (codes ":") ws a.0 a.1 in
    let c = composite_sound a.0.1 b.0 b.1 in
    subst (λ (q : List ℕ × CompType). BelowTold q ws) b.2 (x.0, c.0, ap (λ (us : List Word). map decimal a.0.0 ++ codes ":" ∷ us) c.1 ∙ x.1)

abbrev ExternTold : ExternType → List Word → Type 0
ExternTold x ws = ExternFits x × (extern_words x ≡ ws)

extern_by : {A : Type 0} (name : Word) (f : A → ExternType) (of : Reader A) (words : A → List Word) (Fits : A → Type 0) → ((a : A) → Fits a → ExternFits (f a)) → ((a : A) → extern_words (f a) ≡ name ∷ words a) → ((ws : List Word) (a : A) → of ws ≡ Some a → Fits a × (words a ≡ ws)) → SoundBy ExternTold name (λ ws. option_map f (of ws))
extern_by name f of words Fits fits same h ws x e =
    let a = mapped f (of ws) x e in
    let t = h ws a.0 a.1 in
    subst (λ (y : ExternType). ExternTold y (name ∷ ws)) a.2 (fits a.0 t.0, same a.0 ∙ ap (λ (us : List Word). name ∷ us) t.1)

externs_sound : EachSoundBy ExternTold externs
externs_sound =
    number_sound ExternTold (codes "func") 32 extern.Func (omega arith) (λ n h. (h, refl))
    & extern_by (codes "table") extern.Table table_of table_words TableFits (λ t f. f) (λ t. refl) table_sound
    & extern_by (codes "memory") extern.Memory limits_of limits_words LimitsFit (λ l f. f) (λ l. refl) limits.sound
    & extern_by (codes "global") extern.Global global_of global_words (λ g. ValFits g.kind) (λ g f. f) (λ g. refl) global_types.sound
    & number_sound ExternTold (codes "tag") 32 (λ x. extern.Tag (record { type_index = x })) (omega arith) (λ n h. (h, refl))
    & tt

extern_sound : (ws : List Word) (x : ExternType) → extern_of ws ≡ Some x → ExternTold x ws
extern_sound ws x e = first_sound ExternTold externs externs_sound ws x e

abbrev IndexTold : ExternIndex → List Word → Type 0
IndexTold x ws = ExternIndexFits x × (index_words x ≡ ws)

indices_sound : EachSoundBy IndexTold indices
indices_sound =
    number_sound IndexTold (codes "func") 32 index.Func (omega arith) (λ n h. (h, refl))
    & number_sound IndexTold (codes "table") 32 index.Table (omega arith) (λ n h. (h, refl))
    & number_sound IndexTold (codes "memory") 32 index.Memory (omega arith) (λ n h. (h, refl))
    & number_sound IndexTold (codes "global") 32 index.Global (omega arith) (λ n h. (h, refl))
    & number_sound IndexTold (codes "tag") 32 index.Tag (omega arith) (λ n h. (h, refl))
    & tt

index_sound : (ws : List Word) (x : ExternIndex) → index_of ws ≡ Some x → IndexTold x ws
index_sound ws x e = first_sound IndexTold indices indices_sound ws x e

-- ## Lines

-- the line fits and has these words
record Is (l : Line) (ws : List Word) : Type 0 where
  fits : LineFits l
  same : line_words l ≡ ws

abbrev Sound : Word → Reader Line → Type 0
Sound w f = SoundBy Is w f

to_is : (l m : Line) (ws : List Word) → LineFits l → line_words l ≡ ws → l ≡ m → Is m ws
to_is l m ws f e s = subst (λ (k : Line). Is k ws) s (record { fits = f; same = e })

number_line : (w : Word) (f : ℕ → Line) → ((n : ℕ) → Index32 n → LineFits (f n)) → ((n : ℕ) → line_words (f n) ≡ w ∷ decimal n ∷ []) → Sound w (one_number 32 f)
number_line w f fits same = number_sound Is w 32 f (omega arith) (λ n h. record { fits = fits n h; same = same n })

-- a line whose words behind the first are read by a spelling
spelled_line : {A : Type 0} {words : A → List Word} {of : List Word → Option A} {Fits : A → Type 0} → IsListSpelling words of Fits → (w : Word) (f : A → Line) → ((x : A) → Fits x → LineFits (f x)) → ((x : A) → line_words (f x) ≡ w ∷ words x) → Sound w (λ ws. option_map f (of ws))
spelled_line s w f fits same = by_spelling s Is w f (λ x h. record { fits = fits x h; same = same x })

module_sound : Sound (codes "module") module_line
module_sound ws l e =
    let a = ended_told line.Module l ws e in
    to_is line.Module l (codes "module" ∷ ws) tt (ap (λ (us : List Word). codes "module" ∷ us) (sym a.0)) a.1

group_sound : Sound (codes "rec") group_line
group_sound = spelled_line (ones counts) (codes "rec") line.Group (λ n f. tt) (λ n. refl)

func_line_sound : Sound (codes "func") func_line
func_line_sound ws l e =
    let a = mapped (λ (t : FuncType). line.Type (alone (comp.Func t))) (func_of ws) l e in
    let t = func_sound ws a.0 a.1 in
    to_is (line.Type (alone (comp.Func a.0))) l (codes "func" ∷ ws) (tt, t.0) (ap (λ (us : List Word). codes "func" ∷ us) t.1) a.2

final_told : (ws : List Word) (p : List ℕ × CompType) (t : SubType) → BelowTold p ws → final_with p ≡ Some t → TypeFits t × (type_words t ≡ codes "final" ∷ ws)
final_told ws ([], c) t h e = absurd cc
final_told ws (x ∷ xs, c) t h e =
    let s : record { is_final = true; supertypes = x ∷ xs; composite = c } ≡ t = cc in
    subst (λ (u : SubType). TypeFits u × (type_words u ≡ codes "final" ∷ ws)) s ((h.0, h.1), ap (λ (us : List Word). codes "final" ∷ us) h.2)

final_sound : Sound (codes "final") final_line
final_sound ws l e =
    let a = then_some (below_of ws) (λ p. option_map line.Type (final_with p)) l e in
    let b = mapped line.Type (final_with a.0) l a.2 in
    let t = final_told ws a.0 b.0 (below_sound ws a.0 a.1) b.1 in
    to_is (line.Type b.0) l (codes "final" ∷ ws) t.0 t.1 b.2

open_sound : Sound (codes "open") open_line
open_sound ws l e =
    let a = mapped (λ (p : List ℕ × CompType). line.Type (open_with p)) (below_of ws) l e in
    let h = below_sound ws a.0 a.1 in
    to_is (line.Type (open_with a.0)) l (codes "open" ∷ ws) (h.0, h.1) (ap (λ (us : List Word). codes "open" ∷ us) h.2) a.2

import_sound : Sound (codes "import") import_line
import_sound [] l e = absurd cc
import_sound (v ∷ []) l e = let a = then_some (name_of v) (λ m. None) l e in absurd cc
import_sound (v ∷ w ∷ ws) l e =
    let a = then_some (name_of v) (λ m. name_of w >>= λ n. option_map (λ (k : ExternType). line.Import (record { module_name = m; item_name = n; kind = k })) (extern_of ws)) l e in
    let b = then_some (name_of w) (λ n. option_map (λ (k : ExternType). line.Import (record { module_name = a.0; item_name = n; kind = k })) (extern_of ws)) l a.2 in
    let c = mapped (λ (k : ExternType). line.Import (record { module_name = a.0; item_name = b.0; kind = k })) (extern_of ws) l b.2 in
    let m = names.sound v a.0 a.1 in
    let n = names.sound w b.0 b.1 in
    let k = extern_sound ws c.0 c.1 in
    to_is (line.Import (record { module_name = a.0; item_name = b.0; kind = c.0 })) l (codes "import" ∷ v ∷ w ∷ ws) (m.0, n.0, k.0) (rw (m.1, n.1, k.1) refl) c.2

init_sound : (ws : List Word) (b : Bool) → init_of ws ≡ Some b → init_words b ≡ ws
init_sound [] b e = let s : false ≡ b = cc in ap init_words (sym s)
init_sound (w ∷ []) b e = elim (tested (bytes_eq w (codes "init")) w (codes "init") true b None refl e) [
  | inl p ↦ ap init_words (sym p.1) ∙ ap (λ (v : Word). v ∷ []) (sym p.0)
  | inr f ↦ absurd cc
]
init_sound (w ∷ v ∷ ws) b e = absurd cc

table_line_sound : Sound (codes "table") table_line
table_line_sound ws l e =
    let a = then_some (table_in ws) (λ p. option_map (line.Table p.0) (init_of p.1)) l e in
    let b = mapped (line.Table a.0.0) (init_of a.0.1) l a.2 in
    let h = table_in_sound ws a.0 a.1 in
    to_is (line.Table a.0.0 b.0) l (codes "table" ∷ ws) h.0 (ap (λ (us : List Word). codes "table" ∷ table_words a.0.0 ++ us) (init_sound a.0.1 b.0 b.1) ∙ ap (λ (us : List Word). codes "table" ∷ us) h.1) b.2

memory_line_sound : Sound (codes "memory") memory_line
memory_line_sound = spelled_line limits (codes "memory") line.Memory (λ l f. f) (λ l. refl)

global_line_sound : Sound (codes "global") global_line
global_line_sound = spelled_line global_types (codes "global") line.Global (λ g f. f) (λ g. refl)

export_sound : Sound (codes "export") export_line
export_sound [] l e = absurd cc
export_sound (w ∷ ws) l e =
    let a = then_some (name_of w) (λ n. option_map (λ (i : ExternIndex). line.Export (record { name = n; index = i })) (index_of ws)) l e in
    let b = mapped (λ (i : ExternIndex). line.Export (record { name = a.0; index = i })) (index_of ws) l a.2 in
    let n = names.sound w a.0 a.1 in
    let i = index_sound ws b.0 b.1 in
    to_is (line.Export (record { name = a.0; index = b.0 })) l (codes "export" ∷ w ∷ ws) (n.0, i.0) (rw (n.1, i.1) refl) b.2

-- an element segment behind its mode
items_sound : (m : Mode) (ws : List Word) (l : Line) → ModeFits m → items_line m ws ≡ Some l → Is l (codes "elem" ∷ mode_words m ++ ws)
items_sound m ws l f e =
    let a = mapped (λ (p : RefType × ℕ). line.Elements m p.0 p.1) (two_of ref_of count_of ws) l e in
    let h = (twos ref_types counts).sound ws a.0 a.1 in
    to_is (line.Elements m a.0.0 a.0.1) l (codes "elem" ∷ mode_words m ++ ws) (f, h.0.0) (ap (λ (us : List Word). codes "elem" ∷ mode_words m ++ us) h.1) a.2

abbrev IsElements : Line → List Word → Type 0
IsElements l ws = Is l (codes "elem" ∷ ws)

active_items_sound : SoundBy IsElements (codes "active") active_items
active_items_sound [] l e = absurd cc
active_items_sound (w ∷ ws) l e =
    let a = then_some (number_of 32 w) (λ x. items_line (mode.Active x) ws) l e in
    let n = index_numbers.sound w a.0 a.1 in
    subst (λ (v : Word). Is l (codes "elem" ∷ codes "active" ∷ v ∷ ws)) n.1 (items_sound (mode.Active a.0) ws l n.0 a.2)

modes_sound : EachSoundBy IsElements modes
modes_sound = active_items_sound & (λ ws l e. items_sound mode.Passive ws l tt e) & (λ ws l e. items_sound mode.Declarative ws l tt e) & tt

elements_sound : Sound (codes "elem") elements_line
elements_sound ws l e = first_sound IsElements modes modes_sound ws l e

abbrev IsData : Line → List Word → Type 0
IsData l ws = Is l (codes "data" ∷ ws)

active_data_sound : SoundBy IsData (codes "active") active_data
active_data_sound = by_spelling (twos index_numbers byte_lists) IsData (codes "active") (λ p. line.Data (Some p.0) p.1) (λ p h. record { fits = h; same = refl })

passive_data_sound : SoundBy IsData (codes "passive") passive_data
passive_data_sound = by_spelling (ones byte_lists) IsData (codes "passive") (line.Data None) (λ b h. record { fits = (tt, h); same = refl })

data_sound : Sound (codes "data") data_line
data_sound ws l e = first_sound IsData data_modes (active_data_sound & passive_data_sound & tt) ws l e

local_sound : Sound (codes "local") local_line
local_sound = spelled_line (twos index_numbers val_types) (codes "local") (λ p. line.Local (record { count = p.0; kind = p.1 })) (λ p f. f) (λ p. refl)

kinds_sound : EachSoundBy Is kinds
kinds_sound =
    module_sound
    & group_sound
    & func_line_sound
    & number_line (codes "cont") (λ x. line.Type (alone (comp.Cont x))) (λ n h. (tt, h)) (λ n. refl)
    & final_sound
    & open_sound
    & import_sound
    & table_line_sound
    & memory_line_sound
    & number_line (codes "tag") (λ x. line.Tag (record { type_index = x })) (λ n h. h) (λ n. refl)
    & global_line_sound
    & export_sound
    & number_line (codes "start") line.Start (λ n h. h) (λ n. refl)
    & elements_sound
    & data_sound
    & number_line (codes "function") line.Function (λ n h. h) (λ n. refl)
    & local_sound
    & tt

by_kind_sound : (o : Option (Reader Line)) (w : Word) (ws : List Word) (l : Line) → ((f : Reader Line) → o ≡ Some f → Sound w f) → by_kind o w ws ≡ Some l → Is l (w ∷ ws)
by_kind_sound (Some f) w ws l h e = h f refl ws l e
by_kind_sound None w ws l h e =
    let a = mapped line.Token (token_of w ws) l e in
    let t = token_sound w ws a.0 a.1 in
    to_is (line.Token a.0) l (w ∷ ws) t.0 (rw (t.1, t.2) refl) a.2

-- what is read of words is written so
pub words_sound : (ws : List Word) (l : Line) → line_in ws ≡ Some l → LineFits l × (line_words l ≡ ws)
unfolding line_in
words_sound [] l e = absurd cc
words_sound (w ∷ ws) l e =
    let h = by_kind_sound (reader_in kinds w) w ws l (λ f g. reader_sound Is kinds w f kinds_sound g) e in
    (h.fits, h.same)
