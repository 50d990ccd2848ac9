-- switch.
use Rattle.std.proofs.Common.{◌≡◌, ℕ, List, [], ◌∷◌, length, Option, Some, None, refl, ap, ◌∙◌, subst, arith}
use Rattle.w_types.specs.declared.types.FuncType.{FuncType}
use Rattle.w_types.specs.declared.types.RecGroup.{RecGroup}
use Rattle.w_types.specs.declared.types.ValType.{ValType}
use Rattle.lists.specs.Rows.{◌▹◌, row_of}
use Rattle.w_syntax.specs.declared.instructions.SwitchingOp.TheVariants as op
use Rattle.w_canon.specs.Matching.{ResultMatches}
use Rattle.w_rules.specs.Context.{Context, cont_of, type_of_tag}
use Rattle.w_rules.specs.InstructionTypes.{nullable, params_of, switch_type, switched_type}
use Rattle.w_vswitch.specs.Rows.{RowAt, last_index}
use Rattle.w_vswitch.proofs.LastTypes.{last_found}

-- the row of a switch
pub switch_row : (c : Context) (x e y : ℕ) (one other tag : FuncType) (beneath : List ValType) →
    cont_of c x ≡ Some one → last_index (row_of one.params) ≡ Some (row_of beneath, y) → cont_of c y ≡ Some other → type_of_tag c e ≡ Some tag → tag.params ≡ [] →
    ResultMatches c.types one.results tag.results → ResultMatches c.types tag.results other.results →
    RowAt (op.Switch x e) (row_of beneath ▹ nullable x) (row_of other.params) None c
switch_row c x e y one other tag beneath has_one ends has_other has_tag no_params results_match comes_back =
    let last = last_found (row_of one.params) (row_of beneath) y ends in record {
      condition = record {
        one = one;
        beneath = row_of beneath;
        is_null = last.0;
        index = y;
        other = other;
        tag = tag;
        has_one = has_one;
        params = last.1;
        has_other = has_other;
        has_tag = has_tag;
        no_params = no_params;
        results = results_match;
        comes_back = comes_back;
      };
      row = ap (λ (o : Option FuncType). switch_type c x (params_of o)) has_one ∙ ap (switch_type c x) last.1 ∙ ap (switched_type x (row_of beneath)) has_other;
      adds = λ h. refl;
    }

-- a list of no types
pub none_there : (ts : List ValType) → length ts ≡ 0 → ts ≡ []
none_there [] e = refl
none_there (t ∷ ts) e = absurd (omega arith)

-- types that match, by other names
pub same_matches : (gs : List RecGroup) (ts us vs ws : List ValType) → ts ≡ vs → us ≡ ws → ResultMatches gs ts us → ResultMatches gs vs ws
same_matches gs ts us vs ws e f m =
    let P : List ValType → Type 0 = λ xs. ResultMatches gs xs ws in
    let Q : List ValType → Type 0 = λ xs. ResultMatches gs ts xs in
    subst P e (subst Q f m)
