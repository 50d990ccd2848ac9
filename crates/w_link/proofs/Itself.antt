-- Where each index stands for itself, a context fits itself.
use Rattle.std.proofs.Common.{◌≡◌, ◌<◌, ℕ, List, length, Some, slice_get, refl, sym, ap, subst, subst₂, ◌∙◌, arith}
use Rattle.lists.specs.Rows.{Row, ε, ◌▹◌}
use Rattle.w_types.specs.declared.types.FuncType.{FuncType}
use Rattle.w_types.specs.declared.types.HeapType.{HeapType}
use Rattle.w_types.specs.declared.types.HeapType.TheVariants.{Index}
use Rattle.w_types.specs.declared.types.RecGroup.{RecGroup}
use Rattle.w_types.specs.declared.types.RefType.{RefType}
use Rattle.w_types.specs.declared.types.SubType.{SubType}
use Rattle.w_types.specs.declared.types.ValType.{ValType}
use Rattle.w_types.specs.declared.types.ValType.TheVariants as val
use Rattle.w_types.specs.Groups.{subtypes_of}
use Rattle.w_syntax.specs.declared.module.GlobalType.{GlobalType}
use Rattle.w_syntax.specs.declared.module.Mutability.{Mutability}
use Rattle.w_syntax.specs.declared.module.Mutability.TheVariants as mutability
use Rattle.w_syntax.specs.declared.module.Tag.{Tag}
use Rattle.w_canon.specs.Equality.{RefEqual, ValEqual, ResultEqual}
use Rattle.w_canon.specs.Equality as equal
use Rattle.w_canon.specs.Equivalence.{SameIndex}
use Rattle.w_canon.specs.Matching.{HeapMatches, FuncMatches}
use Rattle.w_canon.proofs.EqualTypes.{val_equal_refl, result_equal_refl}
use Rattle.w_canon.proofs.Preorder.{heap_refl, val_refl, func_refl}
use Rattle.w_rules.specs.Context.{Context}
use Rattle.w_link.specs.Shifted.{ref_shifted, type_shifted, types_shifted, row_shifted}
use Rattle.w_link.specs.Resolved.{Instance, IsWhole, at}
use Rattle.w_link.specs.Fits.{There, Stands, FunctionFits, KindFits, GlobalFits, TypesFit, TagFits, Fits}
use Rattle.w_link.proofs.Identity.{each_same, none_before, heap_same, type_same, func_same, sub_same}

ref_same : (n : ℕ) → n ≡ 0 → (r : RefType) → ref_shifted n r ≡ r
ref_same n e r = ap (λ (h : HeapType). let q : RefType = record { nullable = r.nullable; heap = h } in q) (heap_same n e r.heap)

types_same : (n : ℕ) → n ≡ 0 → (ts : List ValType) → types_shifted n ts ≡ ts
types_same n e ts = each_same (type_shifted n) (type_same n e) ts

row_same : (n : ℕ) → n ≡ 0 → (ts : Row ValType) → row_shifted n ts ≡ ts
row_same n e ε = refl
row_same n e (ts ▹ t) = rw (row_same n e ts, type_same n e t) refl

ref_of : (gs : List RecGroup) {r q : RefType} → ValEqual gs (val.Ref r) (val.Ref q) → RefEqual gs r q
ref_of gs (equal.ValEqual.ref h) = h

-- what is there holds of itself
there : {A : Type 0} (xs : List A) (f : ℕ → ℕ) (P : A → Type 0) → ((x : ℕ) → f x ≡ x) → (x : ℕ) (a : A) → slice_get xs x ≡ Some a → P a → There (slice_get xs (f x)) P
there xs f P e x a is h = record { value = a; is = ap (slice_get xs) (e x) ∙ is; holds = h }

module _ (n : ℕ) (gs : List RecGroup) (e : n ≡ 0) where
  stands : Stands n gs gs
  stands = record {
    same = λ x y s. subst₂ (SameIndex gs) (sym (none_before n x e)) (sym (none_before n y e)) s;
    type = λ x t is. ap (slice_get (subtypes_of gs)) (none_before n x e) ∙ is ∙ ap (λ (t : SubType). Some t) (sym (sub_same n e t));
    count = omega (arith, e);
  }

  function_fits : (y : ℕ) → FunctionFits n gs gs y y
  function_fits y = record {
    matches = subst (λ (x : ℕ). HeapMatches gs (Index y) (Index x)) (sym (none_before n y e)) (heap_refl gs (Index y));
    type = λ t is. record { value = t; is = is; holds = subst (FuncMatches gs t) (sym (func_same n e t)) (func_refl gs t) };
  }

  table_fits : (r : RefType) → RefEqual gs r (ref_shifted n r)
  table_fits r = subst (RefEqual gs r) (sym (ref_same n e r)) (ref_of gs (val_equal_refl gs (val.Ref r)))

  kind_fits : (m : Mutability) (t : ValType) → KindFits gs m t t
  kind_fits mutability.Var t = val_equal_refl gs t
  kind_fits mutability.Const t = val_refl gs t

  global_fits : (g : GlobalType) → GlobalFits n gs g g
  global_fits g = record { mutability = refl; kind = subst (λ (t : ValType). KindFits gs g.mutability t g.kind) (sym (type_same n e g.kind)) (kind_fits g.mutability g.kind) }

  types_fit : (t : FuncType) → TypesFit n gs t t
  types_fit t = record {
    params = subst (ResultEqual gs t.params) (sym (types_same n e t.params)) (result_equal_refl gs t.params);
    results = subst (ResultEqual gs t.results) (sym (types_same n e t.results)) (result_equal_refl gs t.results);
  }

  tag_fits : (g : Tag) → TagFits n gs gs g g
  tag_fits g = record { type = λ t is. record { value = t; is = is; holds = types_fit t } }

-- a context fits itself
pub itself : (i : Instance) (c : Context) → IsWhole i → Fits i c c
itself i c w =
    let n = i.types in
    record {
      types = stands n c.types w.types;
      functions = λ x y is. there c.functions (at i.functions) _ w.functions x y is (function_fits n c.types w.types y);
      tables = λ x t is. there c.tables (at i.tables) _ w.tables x t is (table_fits n c.types w.types t.element);
      memories = λ x h. subst (λ (y : ℕ). y < length c.memories) (sym (w.memories x)) h;
      globals = λ x g is. there c.globals (at i.globals) _ w.globals x g is (global_fits n c.types w.types g);
      tags = λ x g is. there c.tags (at i.tags) _ w.tags x g is (tag_fits n c.types w.types g);
      elements = λ y r is. ap (slice_get c.elements) (none_before i.elements y w.elements) ∙ is ∙ ap (λ (q : RefType). Some q) (sym (ref_same n w.types r));
      datas = λ y h. subst (λ (z : ℕ). z < c.datas) (sym (none_before i.datas y w.datas)) h;
      declared = λ x is. ap (slice_get c.declared) (w.functions x) ∙ is;
      locals = sym (types_same n w.types c.locals);
      results = sym (row_same n w.types c.results);
      labels = sym (each_same (row_shifted n) (row_same n w.types) c.labels);
    }
