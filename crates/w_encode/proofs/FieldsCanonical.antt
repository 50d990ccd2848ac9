-- The canonical spelling of an import, an export, a table or a global spells it, and is at most twice as long as any.
use Rattle.std.proofs.Common.{◌≡◌, ℕ, Bool, true, false, cond, List, [], ◌∷◌, ◌++◌, length, Some, None, refl, sym, ap, subst, arith}
use Rattle.std.specs.Prelude.{nat_eq}
use Rattle.std.specs.Str.{is_utf8}
use Rattle.w_leb.specs.Format.{Format, ByFirst, Never, IsSolid}
use Rattle.w_leb.specs.Formats.{number, bytes, ◌⊗◌, ◌⇒◌, table}
use Rattle.w_leb.specs.Number.{shortest}
use Rattle.w_leb.specs.CanonicalLaws.{IsCanonical, canon_number, canon_pair, canon_image, canon_such, canon_bytes}
use Rattle.w_leb.specs.CanonicalTableLaws.{◌&◌, IsWritten, BeginsIn, keys, apart_from, begins_table, begins_pair, canon_table, canon_table_or, of_image}
use Rattle.w_syntax.specs.declared.module.TableType.{TableType}
use Rattle.w_syntax.specs.declared.module.Tag.{Tag}
use Rattle.w_syntax.specs.declared.module.ExternType.TheVariants as extern
use Rattle.w_syntax.specs.declared.module.Table.{Table}
use Rattle.w_syntax.specs.declared.module.ExternIndex.TheVariants as index
use Rattle.w_syntax.specs.Code.{Code}
use Rattle.w_syntax.specs.Types.{reftypes, reftype, limits, tabletype, globaltype}
use Rattle.w_syntax.specs.Fields.{name, tag, externtypes, externtype, import, externindices, externidx, export, expr, tabletype_solid, tables, table_of, global}
use Rattle.w_encode.specs.TypesWritten.{limits_written, tabletype_written, globaltype_written}
use Rattle.w_encode.specs.InstructionsWritten.{expr_written}
use Rattle.w_encode.specs.FieldsWritten.{bytes_written, tag_written, externtype_written, import_written, externidx_written, export_written, table_written, global_written}
use Rattle.w_encode.proofs.TypesCanonical.{canon_limits, canon_tabletype, canon_globaltype}
use Rattle.w_encode.proofs.InstructionsCanonical.{canon_expr}

-- ## Imports and exports

canon_name : IsCanonical name bytes_written
unfolding name
canon_name = canon_such is_utf8 bytes bytes_written canon_bytes

abbrev tag_of : ℕ → Tag
tag_of x = record { type_index = x }

pub canon_tag : IsCanonical tag tag_written
unfolding tag
canon_tag = canon_table ((0x00, number 32 ⇒ tag_of) ∷ []) tag_written (of_image (number 32) shortest tag_of tag.Spells tag_written (canon_number 32 (omega arith)) (λ x. omega arith) (λ x s. (x, s, refl)) & tt)

canon_externtype : IsCanonical externtype externtype_written
unfolding externtype
canon_externtype = canon_table externtypes externtype_written
    (of_image (number 32) shortest extern.Func (ByFirst externtypes Never) externtype_written (canon_number 32 (omega arith)) (λ x. omega arith) (λ x s. (x, s, refl))
    & of_image tabletype tabletype_written extern.Table (ByFirst externtypes Never) externtype_written canon_tabletype (λ x. omega arith) (λ x s. (x, s, refl))
    & of_image limits limits_written extern.Memory (ByFirst externtypes Never) externtype_written canon_limits (λ x. omega arith) (λ x s. (x, s, refl))
    & of_image globaltype globaltype_written extern.Global (ByFirst externtypes Never) externtype_written canon_globaltype (λ x. omega arith) (λ x s. (x, s, refl))
    & of_image tag tag_written extern.Tag (ByFirst externtypes Never) externtype_written canon_tag (λ x. omega arith) (λ x s. (x, s, refl))
    & tt)

pub canon_import : IsCanonical import import_written
unfolding import
canon_import = canon_image (name ⊗ name ⊗ externtype) (λ p. bytes_written p.0 ++ (bytes_written p.1.0 ++ externtype_written p.1.1)) (λ p. record { module_name = p.0; item_name = p.1.0; kind = p.1.1 }) import_written
    (canon_pair name (name ⊗ externtype) bytes_written (λ p. bytes_written p.0 ++ externtype_written p.1) canon_name (canon_pair name externtype bytes_written externtype_written canon_name canon_externtype)) (λ p. refl)

canon_externidx : IsCanonical externidx externidx_written
unfolding externidx
canon_externidx = canon_table externindices externidx_written
    (of_image (number 32) shortest index.Func (ByFirst externindices Never) externidx_written (canon_number 32 (omega arith)) (λ x. omega arith) (λ x s. (x, s, refl))
    & of_image (number 32) shortest index.Table (ByFirst externindices Never) externidx_written (canon_number 32 (omega arith)) (λ x. omega arith) (λ x s. (x, s, refl))
    & of_image (number 32) shortest index.Memory (ByFirst externindices Never) externidx_written (canon_number 32 (omega arith)) (λ x. omega arith) (λ x s. (x, s, refl))
    & of_image (number 32) shortest index.Global (ByFirst externindices Never) externidx_written (canon_number 32 (omega arith)) (λ x. omega arith) (λ x s. (x, s, refl))
    & of_image (number 32) shortest index.Tag (ByFirst externindices Never) externidx_written (canon_number 32 (omega arith)) (λ x. omega arith) (λ x s. (x, s, refl))
    & tt)

pub canon_export : IsCanonical export export_written
unfolding export
canon_export = canon_image (name ⊗ externidx) (λ p. bytes_written p.0 ++ externidx_written p.1) (λ p. record { name = p.0; index = p.1 }) export_written (canon_pair name externidx bytes_written externidx_written canon_name canon_externidx) (λ p. refl)

-- ## Tables and globals

abbrev tail_of : List ℕ → List ℕ
tail_of [] = []
tail_of (k ∷ b) = b

abbrev with_init : TableType × Code → Table
with_init p = record { kind = p.0; init = Some p.1 }

abbrev without_init : TableType → Table
without_init t = record { kind = t; init = None }

abbrev written_init : TableType × Code → List ℕ
written_init p = tabletype_written p.0 ++ expr_written p.1

abbrev inits : List (ℕ × Format Table)
inits = (0x00, tabletype ⊗ expr ⇒ with_init) ∷ []

canon_init : IsCanonical (table inits) (λ t. tail_of (table_written t))
canon_init = canon_table inits (λ t. tail_of (table_written t)) (of_image (tabletype ⊗ expr) written_init with_init (ByFirst inits Never) (λ t. tail_of (table_written t)) (canon_pair tabletype expr tabletype_written expr_written canon_tabletype canon_expr) (λ p. omega arith) (λ p s. (p, s, refl)) & tt)

-- it has an expression
inits_have : (k : ℕ) (b : List ℕ) (x : Table) → (v : Bool) → nat_eq k 0x00 ≡ v → cond v ((tabletype ⊗ expr ⇒ with_init).Spells b x) ⊥ → table_written x ≡ 0x40 ∷ tail_of (table_written x)
inits_have k b x true e h = subst (λ (t : Table). table_written t ≡ 0x40 ∷ tail_of (table_written t)) h.2 refl
inits_have k b x false e h = absurd h

has_init : (b : List ℕ) (x : Table) → (table inits).Spells b x → table_written x ≡ 0x40 ∷ tail_of (table_written x)
has_init [] x h = absurd h
has_init (k ∷ b) x h = inits_have k b x (nat_eq k 0x00) refl h

-- the byte 40, a byte 00, and then what its elements begin with
init_is_written : (b : List ℕ) (x : Table) → (table inits).Spells b x → IsWritten (ByFirst tables (tabletype ⇒ without_init).Spells) table_written b x
init_is_written b x h =
    let e = has_init b x h in
    (omega (arith, ap length e, canon_init.short b x h), λ le. subst (λ (l : List ℕ). ByFirst tables (tabletype ⇒ without_init).Spells l x) (sym e) (canon_init.again b x h le))

reftype_begins : BeginsIn (keys reftypes ++ []) reftype.Spells
unfolding reftype
reftype_begins k b x h = begins_table reftypes k b x h

reftype_solid : IsSolid reftype.Spells
unfolding reftype
reftype_solid x h = h

tabletype_begins : BeginsIn (keys reftypes ++ []) tabletype.Spells
unfolding tabletype
tabletype_begins k b x h = begins_pair reftype limits (keys reftypes ++ []) reftype_solid reftype_begins k b h.0 h.1

pub canon_table_of : IsCanonical table_of table_written
unfolding table_of
canon_table_of = canon_table_or tables (tabletype ⇒ without_init) (λ x h. tabletype_solid h.0 h.1) table_written
    (canon_image tabletype tabletype_written without_init table_written canon_tabletype (λ t. refl))
    (λ k b x h. apart_from (keys reftypes ++ []) tables refl k (tabletype_begins k b h.0 h.1))
    (init_is_written & tt)

pub canon_global : IsCanonical global global_written
unfolding global
canon_global = canon_image (globaltype ⊗ expr) (λ p. globaltype_written p.0 ++ expr_written p.1) (λ p. record { kind = p.0; init = p.1 }) global_written (canon_pair globaltype expr globaltype_written expr_written canon_globaltype canon_expr) (λ p. refl)
