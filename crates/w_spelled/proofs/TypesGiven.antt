-- What the formats of types give: that their numbers are in their ranges.
use Rattle.std.proofs.Common.{ℤ, pos, negsuc}
use Rattle.std.specs.Prelude.{IsTrue, unsigned_abs}
use Rattle.w_leb.specs.CanonicalTableLaws.{◌&◌}
use Rattle.w_types.specs.declared.types.ValType.TheVariants as val
use Rattle.w_syntax.specs.Types.{is_natural, index33, heaptypes, heaptype, reftypes, reftype, valtypes, valtype, functype, comptypes, comptype, subtypes, subtype, groups, rectype, limits_by_byte, limits, tabletype, globaltype}
use Rattle.w_words.specs.Words.{Each}
use Rattle.w_words.specs.Numbers.{Index32, SignedFits}
use Rattle.w_words.specs.Types.{HeapFits, RefFits, ValFits}
use Rattle.w_lines.specs.Spelling.{LimitsFit, TableFits, FuncFits, CompositeFits, TypeFits}
use Rattle.w_spelled.proofs.Given.{Gives, AllGive, weaker, of_any, of_constant, of_number, of_signed, of_image, of_pair, of_such, of_vec, of_table, of_table_or, of_entries}

-- ## Value types

natural_fits : (z : ℤ) → SignedFits 33 z × IsTrue (is_natural z) → Index32 (unsigned_abs z)
natural_fits (pos n) h = h.0
natural_fits (negsuc n) h = absurd (let e = h.1 in cc)

pub type_index_given : Gives index33 Index32
unfolding index33
type_index_given = of_image (weaker natural_fits (of_such (of_signed 33)))

pub heaptype_given : Gives heaptype HeapFits
unfolding heaptype
heaptype_given = of_table_or heaptypes _ (of_constant tt & of_constant tt & of_constant tt & of_constant tt & tt) (of_image type_index_given)

reftypes_give : AllGive reftypes RefFits
reftypes_give = of_image heaptype_given & of_image heaptype_given & of_constant tt & of_constant tt & of_constant tt & of_constant tt & tt

pub reftype_given : Gives reftype RefFits
unfolding reftype
reftype_given = of_table reftypes reftypes_give

pub valtypes_give : AllGive valtypes ValFits
valtypes_give = of_constant tt & of_constant tt & of_entries reftypes val.Ref ValFits reftypes_give

pub valtype_given : Gives valtype ValFits
unfolding valtype
valtype_given = of_table valtypes valtypes_give

-- ## The types of a module

functype_given : Gives functype FuncFits
unfolding functype
functype_given = of_image (of_pair (of_vec valtype_given) (of_vec valtype_given))

comptype_given : Gives comptype CompositeFits
unfolding comptype
comptype_given = of_table comptypes (of_image functype_given & of_image (of_number 32) & tt)

subtype_given : Gives subtype TypeFits
unfolding subtype
subtype_given = of_table_or subtypes _
    (of_image (of_pair (of_vec (of_number 32)) comptype_given)
    & of_image (of_pair (of_vec (of_number 32)) comptype_given)
    & tt)
    (of_image (weaker (λ c h. (tt, h)) comptype_given))

pub rectype_given : Gives rectype (λ g. Each TypeFits g.types)
unfolding rectype
rectype_given = of_table_or groups _ (of_image (of_vec subtype_given) & tt) (of_image (weaker (λ t h. (h, tt)) subtype_given))

-- ## Limits, tables and globals

pub limits_given : Gives limits LimitsFit
unfolding limits
limits_given = of_table limits_by_byte (of_image (weaker (λ n h. (h, tt)) (of_number 64)) & of_image (of_pair (of_number 64) (of_number 64)) & tt)

pub tabletype_given : Gives tabletype TableFits
unfolding tabletype
tabletype_given = of_image (of_pair reftype_given limits_given)

pub globaltype_given : Gives globaltype (λ g. ValFits g.kind)
unfolding globaltype
globaltype_given = of_image (weaker (λ p h. h.0) (of_pair valtype_given of_any))
