-- The functions of handlers are typed.
use Rattle.std.proofs.Common.{◌≡◌, ℕ, suc, ◌+◌, ◌≤◌, max, true, false, All, List, [], ◌∷◌, ◌++◌, map, length, replicate, Option, Some, slice_get, refl, sym, ap, ◌∙◌, subst, arith, append_assoc, length-append}
use Rattle.std.proofs.lemmas.List.Elements.{All-nil, All-cons}
use Rattle.w_types.specs.declared.types.CompType.{CompType}
use Rattle.w_types.specs.declared.types.FuncType.{FuncType}
use Rattle.w_types.specs.declared.types.ValType.{ValType}
use Rattle.w_types.specs.declared.types.ValType.TheVariants.{I64}
use Rattle.lists.specs.Rows.{Row, ε, ◌▹◌, ◌⧺◌, row_of}
use Rattle.lists.proofs.Lists.{get-behind}
use Rattle.lists.proofs.Rows.{row_of-more, listed-row_of}
use Rattle.w_syntax.specs.Code.{Code, Block}
use Rattle.w_syntax.specs.declared.instructions.BlockKind.TheVariants as kind
use Rattle.w_syntax.specs.declared.instructions.BlockType.TheVariants as block_type
use Rattle.w_canon.specs.Matching.{ResultMatches}
use Rattle.w_canon.proofs.Preorder.{result_refl}
use Rattle.w_rules.specs.Operands.{Operand}
use Rattle.w_rules.specs.Operands.{Known}
use Rattle.w_rules.specs.Matching.{none, known}
use Rattle.w_rules.specs.Bodies.{BodyTyped}
use Rattle.w_rules.specs.Conditions.{Holds, ClauseTyped as LabelTyped}
use Rattle.w_rules.specs.Context.{Context, Arrow, labelled, label_of, arrow_at, func_of, func_at, index_in_cont, cont_of}
use Rattle.w_rules.specs.InstructionTypes.{nullable, resume_type}
use Rattle.w_rules.specs.Spaces.{in_body}
use Rattle.w_rules.specs.Typing.{Derives, HasType}
use Rattle.w_rules.proofs.Preorder.{row_refl}
use Rattle.s_syntax.specs.declared.name.Name.{Name}
use Rattle.s_syntax.specs.declared.script.VariableType.TheVariants.{Int, Resumption}
use Rattle.s_syntax.specs.declared.script.Clause.{Clause}
use Rattle.s_syntax.specs.declared.script.Handler.{Handler}
use Rattle.s_syntax.specs.declared.script.Declaration.{Declaration}
use Rattle.s_syntax.specs.declared.script.Script.{Script}
use Rattle.s_check.specs.Definitions.{handler_of}
use Rattle.s_check.specs.Scopes.{Bound, Scope, type_in, number as number_name, parameter, resumption, of_clause, of_return}
use Rattle.s_index.specs.Handled.{handled_in_block, handled_in_clauses}
use Rattle.s_index.specs.Indices.{clause_type_index}
use Rattle.s_index.specs.Types.{resumption_type, computation_type, to_continuation, val_types, numbers}
use Rattle.s_code.specs.Handlers.{Placed as PlacedClause, set_names, clause_code, blocks, labels, return_code, handling, turn, handler_body}
use Rattle.s_code.specs.Instructions.{resume}
use Rattle.s_code.specs.Layouts.{Layout, Owner, local_number}
use Rattle.s_code.specs.Places.{binds_in, return_names, clause_names, clauses_names, return_place, clauses_place, handler_temporaries, layout_at, return_layout, placed_from, placed_clauses, high_clauses, handler_locals}
use Rattle.s_code.specs.Statements.{body}
use Rattle.s_code.specs.Temporaries.{high_block}
use Rattle.s_meaning.specs.Typing.{BlockTyped, ClauseTyped}
use Rattle.s_meaning.proofs.Lists.{get_before}
use Rattle.s_valid.specs.Offers.{Offers, arrow}
use Rattle.s_valid.proofs.Rests.{Rest, pushed, instr_typed, less_typed, weaker, get_typed, set_typed}
use Rattle.s_valid.proofs.LayoutTypes.{Scoped, InLoop, EachTyped, LetsPlaced, inside, local_typed, pushed_row, AllHandled, handled_left, handled_right, offers_in_body, offers_inside}
use Rattle.s_valid.proofs.LocalTypes.{name_types, all_types, types_of_parameters, body_of_rest, Segment, segment_there, segment_left, segment_right, segment_at, temporaries_there, Stands, stands_two, placed_names, placed_lets}
use Rattle.s_valid.proofs.TypedBodies.{handler_handled}
use Rattle.s_valid.proofs.TypedStatements.{body_typed, length_types}

-- a handler whose bodies are typed; what its clauses bind has the types that they bind it with
pub record HandlerTyped (p : Script) (h : Name) (i : Handler) : Type 0 where
  pub returns : BlockTyped p (of_return i) i.return_clause.body
  pub value : type_in (of_return i) i.return_clause.value ≡ Some Int
  pub clauses : (n : ℕ) (c : Clause) → slice_get i.clauses n ≡ Some c → ClauseTyped p h c.effect i c
  pub resumptions : (n : ℕ) (c : Clause) → slice_get i.clauses n ≡ Some c → type_in (of_clause h i c) c.resumption ≡ Some (Resumption h)
  pub arguments : (n : ℕ) (c : Clause) → slice_get i.clauses n ≡ Some c → (m : ℕ) (x : Name) → slice_get c.arguments m ≡ Some x → type_in (of_clause h i c) x ≡ Some Int
  -- each name of a body has the type that it is bound with
  pub of_returns : EachTyped (of_return i ++ binds_in p.declarations i.return_clause.body)
  pub of_clauses : (n : ℕ) (c : Clause) → slice_get i.clauses n ≡ Some c → EachTyped (of_clause h i c ++ binds_in p.declarations c.body)

-- ## Blocks of clauses

-- what the block of a clause of n arguments leaves
abbrev clause_leaves : ℕ → List ValType
clause_leaves n = numbers n ++ to_continuation false resumption_type ∷ []

abbrev clause_row : ℕ → Row ValType
clause_row n = row_of (clause_leaves n)

-- the context inside the blocks of clauses
abbrev in_blocks : List PlacedClause → Context → Context
in_blocks [] C = C
in_blocks (p ∷ ps) C = labelled (in_blocks ps C) (clause_row (length p.clause.arguments))

-- a layout stands inside the blocks
scoped_blocks : {ds : List Declaration} {L : Layout} {Γ : Scope} {n : ℕ} {C : Context} (ps : List PlacedClause) → Scoped ds L Γ n 0 C → Scoped ds L Γ n (length ps) (in_blocks ps C)
scoped_blocks [] s = s
scoped_blocks {ds} {L} {Γ} {n} {C} (p ∷ ps) s =
    let P : ℕ → Type 0 = λ d. Scoped ds L Γ n d (in_blocks (p ∷ ps) C) in
    subst P (let z : length ps + 1 ≡ suc (length ps) = omega arith in z) (inside (clause_row (length p.clause.arguments)) (scoped_blocks ps s))

-- a block that leaves these, with its clause behind it
block_typed : {C : Context} {us : Row Operand} {c k : Code} (x : ℕ) (ts : List ValType) → func_of C x ≡ Some (arrow [] ts) → Rest (labelled C (row_of ts)) c ε (known (row_of ts))
    → Rest C k (ε ⧺ known (row_of ts)) us → Rest C (Block kind.Block (block_type.Index x) c k) ε us
block_typed {C} {us} {c} {k} x ts e inner r = record {
  typed = λ s all.
      let P : Option FuncType → Type 0 = λ o. Holds (arrow_at o) (λ (a : Arrow). Derives (labelled C (label_of kind.Block a)) s c (known a.from) (known a.to)
      × ((vs : Row Operand) × HasType C.types (known a.from) (known a.to) ε vs × Derives C s k vs us)) in
      subst P (sym e) (
        inner.typed s (record { is_set = all.is_set }),
        (ε ⧺ known (row_of ts), record { beneath = ε; takes = none; gives = row_refl C.types (ε ⧺ known (row_of ts)) }, r.typed s all),
      );
}

-- each clause is typed inside the blocks of those after it
data ClausesTyped (ds : List Declaration) (C : Context) : List PlacedClause → Type 0 where
  no_clauses : ClausesTyped ds C []
  more_clauses : {p : PlacedClause} {ps : List PlacedClause} → func_of (in_blocks ps C) (clause_type_index ds (length p.clause.arguments)) ≡ Some (arrow [] (clause_leaves (length p.clause.arguments)))
      → ((us : Row Operand) → Rest (in_blocks ps C) (clause_code ds (length ps) p) (ε ⧺ known (clause_row (length p.clause.arguments))) us) → ClausesTyped ds C ps → ClausesTyped ds C (p ∷ ps)

-- what is typed inside the blocks, to anything, is typed with them
blocks_typed : {ds : List Declaration} {C : Context} (ps : List PlacedClause) (c : Code) → ClausesTyped ds C ps → ((us : Row Operand) → Rest (in_blocks ps C) c ε us) → (us : Row Operand) → Rest C (blocks ds ps c) ε us
blocks_typed [] c no_clauses r us = r us
blocks_typed {ds} {C} (p ∷ ps) c (more_clauses e k t) r us =
    let n = length p.clause.arguments in
    blocks_typed ps (Block kind.Block (block_type.Index (clause_type_index ds n)) c (clause_code ds (length ps) p)) t
    (λ vs. block_typed {C = in_blocks ps C} {us = vs} {c = c} {k = clause_code ds (length ps) p} (clause_type_index ds n) (clause_leaves n) e (r (known (clause_row n))) (k vs)) us

-- ## A clause

-- names set from the stack, the last one first
set_names_typed : (xs : List Name) {ds : List Declaration} {L : Layout} {Γ : Scope} {n D : ℕ} {C : Context} {us : Row Operand} {c : Code} (vs : Row Operand) → Scoped ds L Γ n D C
    → ((m : ℕ) (x : Name) → slice_get xs m ≡ Some x → type_in Γ x ≡ Some Int) → Rest C c vs us → Rest C (set_names L xs c) (pushed vs (numbers (length xs))) us
set_names_typed [] vs s ints r = r
set_names_typed (x ∷ xs) {L = L} vs s ints r =
    set_names_typed xs (vs ▹ Known I64) s (λ m. ints (suc m)) (set_typed (local_number L x) (local_typed s x Int (ints 0 x refl)) r)

-- a clause takes what its block leaves
clause_typed : {p : Script} {n D : ℕ} {C : Context} {us : Row Operand} (h : Name) (i : Handler) (q : PlacedClause) → Scoped p.declarations q.layout (of_clause h i q.clause) n D C
    → BlockTyped p (of_clause h i q.clause) q.clause.body → LetsPlaced q.layout (binds_in p.declarations q.clause.body) → high_block q.clause.body ≤ n → AllHandled p.declarations (handled_in_block q.clause.body)
    → type_in (of_clause h i q.clause) q.clause.resumption ≡ Some (Resumption h) → ((m : ℕ) (x : Name) → slice_get q.clause.arguments m ≡ Some x → type_in (of_clause h i q.clause) x ≡ Some Int)
    → Rest C (clause_code p.declarations D q) (ε ⧺ known (clause_row (length q.clause.arguments))) us
clause_typed {p} {n} {D} {C} {us} h i q s typed lets high handled k ints =
    let m = length q.clause.arguments in let L = q.layout in
    let code = clause_code p.declarations D q in
    let P : Row ValType → Type 0 = λ ts. Rest C code (ε ⧺ known ts) us in
    let Q : Row Operand → Type 0 = λ vs. Rest C code (vs ▹ Known (nullable resumption_type)) us in
    let inner : Rest C (set_names L q.clause.arguments (body p.declarations L D q.clause.body)) (pushed ε (numbers m)) us =
    set_names_typed q.clause.arguments ε s ints (body_typed {p = p} q.clause.body s typed lets high handled) in
    let set : Rest C code (pushed ε (numbers m) ▹ Known (nullable resumption_type)) us =
    set_typed (local_number L q.clause.resumption) (local_typed s q.clause.resumption (Resumption h) k) inner in
    subst P (sym (row_of-more (numbers m) (to_continuation false resumption_type)))
    (less_typed s.offers.keeps (weaker C (ε ⧺ known (row_of (numbers m))) resumption_type) (subst Q (pushed_row ε (numbers m)) set))

-- ## Handlers

-- the types of the locals of a handler's function
abbrev handler_params : Handler → List ValType
handler_params i = val_types i.parameters ++ to_continuation true computation_type ∷ []

abbrev handler_names : List Declaration → Name → Handler → List Bound
handler_names ds h i = return_names ds i ++ clauses_names ds h i.clauses

abbrev handler_high : Handler → ℕ
handler_high i = max (high_block i.return_clause.body) (high_clauses i.clauses)

abbrev handler_types : List Declaration → Name → Handler → List ValType
handler_types ds h i = handler_params i ++ all_types (handler_names ds h i) (handler_high i)

-- the context inside its loop
abbrev in_loop : List Declaration → Context → Name → Handler → Context
in_loop ds C h i = labelled (in_body C (handler_types ds h i) (I64 ∷ [])) ε

as_many_parameters : (i : Handler) → length (handler_params i) ≡ return_place i
as_many_parameters i =
    let a = length-append (val_types i.parameters) (to_continuation true computation_type ∷ []) in let b = length_types i.parameters in
    omega (arith, a, b)

parameters_there : (ds : List Declaration) (h : Name) (i : Handler) → Segment (handler_types ds h i) 0 (map parameter i.parameters)
parameters_there ds h i =
    let ps = map parameter i.parameters in let last = to_continuation true computation_type ∷ [] in let all = all_types (handler_names ds h i) (handler_high i) in
    let P : List ValType → Type 0 = λ ls. Segment ls 0 ps in
    let one : name_types ps ++ (last ++ all) ≡ handler_types ds h i =
    ap (λ (z : List ValType). z ++ (last ++ all)) (sym (types_of_parameters i.parameters)) ∙ sym (append_assoc (val_types i.parameters) last all) in
    subst P one (segment_there [] (last ++ all) ps)

names_there : (ds : List Declaration) (h : Name) (i : Handler) → Segment (handler_types ds h i) (return_place i) (handler_names ds h i)
names_there ds h i = segment_at (return_place i) (handler_names ds h i) (as_many_parameters i) (segment_there (handler_params i) (replicate (handler_high i) I64) (handler_names ds h i))

computation_there : (ds : List Declaration) (h : Name) (i : Handler) → slice_get (handler_types ds h i) (length i.parameters) ≡ Some (to_continuation true computation_type)
computation_there ds h i =
    let last = to_continuation true computation_type ∷ [] in
    get_before (handler_params i) (all_types (handler_names ds h i) (handler_high i)) (length i.parameters) (to_continuation true computation_type)
    (ap (λ (k : ℕ). slice_get (handler_params i) k) (let b = length_types i.parameters in let z : length i.parameters ≡ length (val_types i.parameters) + 0 = omega (arith, b) in z)
    ∙ get-behind (val_types i.parameters) last 0)

parameter_there : (ds : List Declaration) (h : Name) (i : Handler) (n : ℕ) (t : ValType) → slice_get (val_types i.parameters) n ≡ Some t → slice_get (handler_types ds h i) n ≡ Some t
parameter_there ds h i n t e =
    get_before (handler_params i) (all_types (handler_names ds h i) (handler_high i)) n t (get_before (val_types i.parameters) (to_continuation true computation_type ∷ []) n t e)

handler_place : (ds : List Declaration) (h : Name) (i : Handler) → handler_temporaries ds h i ≡ length (handler_params i) + length (handler_names ds h i)
handler_place ds h i =
    let a = as_many_parameters i in let b = length-append (return_names ds i) (clauses_names ds h i.clauses) in
    omega (arith, a, b)

-- names that stand behind the parameters, and what a body binds behind them
names_stand : (ds : List Declaration) (h : Name) (i : Handler) (n : ℕ) (bs Γ us : List Bound) → bs ≡ Γ ++ us → Segment (handler_types ds h i) n bs
    → Stands (handler_types ds h i) (layout_at ds h i n bs).names ((map parameter i.parameters ++ Γ) ++ us)
names_stand ds h i n bs Γ us e g =
    let ps = map parameter i.parameters in
    let P : List Bound → Type 0 = λ cs. Stands (handler_types ds h i) (layout_at ds h i n bs).names cs in
    subst P (ap (λ (cs : List Bound). ps ++ cs) e ∙ sym (append_assoc ps Γ us)) (stands_two (handler_types ds h i) 0 n ps bs (parameters_there ds h i) g)

loop_of : (ds : List Declaration) (C : Context) (h : Name) (i : Handler) → handler_of ds h ≡ Some i → (w : Owner) → Some (record { name = h; parameters = length i.parameters }) ≡ Some w
    → InLoop ds 0 (in_loop ds C h i) w
loop_of ds C h i is w own =
    let one : Owner = record { name = h; parameters = length i.parameters } in
    let P : Owner → Type 0 = λ z. InLoop ds 0 (in_loop ds C h i) z in
    let same : one ≡ w = cc in
    subst P same (record { handler = i; is = is; as_many = refl; loop = refl; parameters = parameter_there ds h i; computation = computation_there ds h i })

-- a layout of the handler stands inside its loop
layout_scoped : (ds : List Declaration) (C : Context) (h : Name) (i : Handler) (n : ℕ) (bs Γ us : List Bound) → Offers ds C → handler_of ds h ≡ Some i → bs ≡ Γ ++ us
    → Segment (handler_types ds h i) n bs → Scoped ds (layout_at ds h i n bs) (map parameter i.parameters ++ Γ) (handler_high i) 0 (in_loop ds C h i)
layout_scoped ds C h i n bs Γ us o is e g =
    let s = names_stand ds h i n bs Γ us e g in let L = layout_at ds h i n bs in let ps = map parameter i.parameters in
    record {
      offers = offers_inside ds (in_body C (handler_types ds h i) (I64 ∷ [])) ε (offers_in_body ds C (handler_types ds h i) (I64 ∷ []) o);
      names = placed_names L (ps ++ Γ) us s;
      locals = s.locals;
      temporaries = λ t q. temporaries_there (handler_params i) (handler_names ds h i) (handler_high i) t (handler_temporaries ds h i) q (handler_place ds h i);
      results = refl;
      loop = λ w own. loop_of ds C h i is w own;
    }

-- what a clause is, with its place
record IsClause (i : Handler) (c : Clause) : Type 0 where
  pub place : ℕ
  pub is : slice_get i.clauses place ≡ Some c

module _ (p : Script) (C : Context) (h : Name) (i : Handler) (o : Offers p.declarations C) (is : handler_of p.declarations h ≡ Some i) (t : HandlerTyped p h i) where
  one_clause : (n : ℕ) (c : Clause) (ps : List PlacedClause) → IsClause i c → high_block c.body ≤ handler_high i → AllHandled p.declarations (handled_in_block c.body)
      → Segment (handler_types p.declarations h i) n (clause_names p.declarations h c) → ClausesTyped p.declarations (in_loop p.declarations C h i) ps
      → ClausesTyped p.declarations (in_loop p.declarations C h i) (record { clause = c; layout = layout_at p.declarations h i n (clause_names p.declarations h c) } ∷ ps)
  one_clause n c ps q high handled g rest =
      let Γ = map number_name c.arguments ++ resumption h c.resumption ∷ [] in
      let e : clause_names p.declarations h c ≡ Γ ++ binds_in p.declarations c.body = sym (append_assoc (map number_name c.arguments) (resumption h c.resumption ∷ []) (binds_in p.declarations c.body)) in
      let s = scoped_blocks ps (layout_scoped p.declarations C h i n (clause_names p.declarations h c) Γ (binds_in p.declarations c.body) o is e g) in
      let typed = t.clauses q.place c q.is in
      more_clauses (s.offers.clause h i q.place c is q.is)
      (λ us. clause_typed {p = p} h i (record { clause = c; layout = layout_at p.declarations h i n (clause_names p.declarations h c) }) s typed.body
      (placed_lets (layout_at p.declarations h i n (clause_names p.declarations h c)) (of_clause h i c) (binds_in p.declarations c.body) (names_stand p.declarations h i n (clause_names p.declarations h c) Γ (binds_in p.declarations c.body) e g) (t.of_clauses q.place c q.is)) high handled
      (t.resumptions q.place c q.is) (t.arguments q.place c q.is)) rest

  all_clauses : (n : ℕ) (cs : List Clause) → ((m : ℕ) (c : Clause) → slice_get cs m ≡ Some c → IsClause i c) → high_clauses cs ≤ handler_high i → AllHandled p.declarations (handled_in_clauses cs)
      → Segment (handler_types p.declarations h i) n (clauses_names p.declarations h cs) → ClausesTyped p.declarations (in_loop p.declarations C h i) (placed_from p.declarations h i n cs)
  all_clauses n [] each high handled g = no_clauses
  all_clauses n (c ∷ cs) each high handled g =
      one_clause n c (placed_from p.declarations h i (n + length (clause_names p.declarations h c)) cs) (each 0 c refl) (omega (arith, high)) (handled_left (handled_in_block c.body) (handled_in_clauses cs) handled)
      (segment_left (clause_names p.declarations h c) (clauses_names p.declarations h cs) g)
      (all_clauses (n + length (clause_names p.declarations h c)) cs (λ m. each (suc m)) (omega (arith, high)) (handled_right (handled_in_block c.body) (handled_in_clauses cs) handled)
      (segment_right (clause_names p.declarations h c) (clauses_names p.declarations h cs) g))

  -- each clause of the resume goes to its block
  labels_typed : (S : Context) (l n : ℕ) (cs : List Clause) → Offers p.declarations S → ((m : ℕ) (c : Clause) → slice_get cs m ≡ Some c → IsClause i c)
      → ((j : ℕ) → slice_get S.labels (l + j) ≡ slice_get (in_blocks (placed_from p.declarations h i n cs) (in_loop p.declarations C h i)).labels j) → All (LabelTyped S (I64 ∷ [])) (labels p.declarations l cs)
  labels_typed S l n [] offers each at = All-nil (LabelTyped S (I64 ∷ []))
  labels_typed S l n (c ∷ cs) offers each at =
      let q = each 0 c refl in let k = length c.arguments in
      All-cons (LabelTyped S (I64 ∷ [])) _ (labels p.declarations (l + 1) cs)
      (record {
        tag = arrow (numbers k) (I64 ∷ []);
        beneath = row_of (numbers k);
        is_null = false;
        index = resumption_type;
        target = arrow (I64 ∷ []) (I64 ∷ []);
        has_tag = offers.effect c.effect k (t.clauses q.place c q.is).is_effect;
        has_label = ap (λ (j : ℕ). slice_get S.labels j) (let z : l ≡ l + 0 = omega arith in z) ∙ at 0 ∙ ap (λ (ts : Row ValType). Some ts) (row_of-more (numbers k) (to_continuation false resumption_type));
        has_cont = ap (λ (z : Option CompType). func_at S (index_in_cont z)) offers.resumption ∙ offers.resumed;
        arguments = let P : List ValType → Type 0 = λ ts. ResultMatches S.types (numbers k) ts in subst P (sym (listed-row_of (numbers k))) (result_refl S.types (numbers k));
        takes = result_refl S.types (I64 ∷ []);
        gives = result_refl S.types (I64 ∷ []);
      })
      (labels_typed S (l + 1) (n + length (clause_names p.declarations h c)) cs offers (λ m. each (suc m)) (λ j. ap (λ (z : ℕ). slice_get S.labels z) (let z : l + 1 + j ≡ l + suc j = omega arith in z) ∙ at (suc j)))

  as_many_placed : (n : ℕ) (cs : List Clause) → length (placed_from p.declarations h i n cs) ≡ length cs
  as_many_placed n [] = refl
  as_many_placed n (c ∷ cs) = ap suc (as_many_placed (n + length (clause_names p.declarations h c)) cs)

  -- the resume and the return clause, in the blocks
  handling_typed : AllHandled p.declarations (handled_in_block i.return_clause.body) → (us : Row Operand)
      → Rest (in_blocks (placed_clauses p.declarations h i) (in_loop p.declarations C h i)) (handling p.declarations (return_layout p.declarations h i) i) ε us
  handling_typed handled us =
      let ps = placed_clauses p.declarations h i in let S = in_blocks ps (in_loop p.declarations C h i) in let L = return_layout p.declarations h i in let v = i.return_clause.value in
      let bs = binds_in p.declarations i.return_clause.body in
      let g = segment_left (return_names p.declarations i) (clauses_names p.declarations h i.clauses) (names_there p.declarations h i) in
      let P : ℕ → Type 0 = λ d. Scoped p.declarations L (of_return i) (handler_high i) d S in
      let s = subst P (as_many_placed (clauses_place p.declarations i) i.clauses) (scoped_blocks ps (layout_scoped p.declarations C h i (return_place i) (return_names p.declarations i) (number_name v ∷ []) bs o is refl g)) in
      let placed = placed_lets L (of_return i) bs (names_stand p.declarations h i (return_place i) (return_names p.declarations i) (number_name v ∷ []) bs refl g) t.of_returns in
      let low : high_block i.return_clause.body ≤ handler_high i = omega arith in
      let loop = s.loop (record { name = h; parameters = length i.parameters }) refl in
      let e : cont_of S computation_type ≡ Some (arrow [] (I64 ∷ [])) = ap (λ (z : Option CompType). func_at S (index_in_cont z)) s.offers.computation ∙ s.offers.computed in
      let hs = labels p.declarations 0 i.clauses in
      let Q : Option FuncType → Type 0 = λ z. Holds z (λ (y : FuncType). All (LabelTyped S y.results) hs) in
      let all = labels_typed S 0 (clauses_place p.declarations i) i.clauses s.offers (λ m c q. record { place = m; is = q }) (λ j. ap (λ (z : ℕ). slice_get S.labels z) (let z : 0 + j ≡ j = omega arith in z)) in
      get_typed (length i.parameters) loop.computation
      (instr_typed (resume computation_type hs) (ε ▹ nullable computation_type) (ε ▹ I64) ε (return_code p.declarations L (length i.clauses) i) (subst Q (sym e) all)
      (λ z y. ap (resume_type computation_type) e) (λ z y. y)
      (set_typed (local_number L v) (local_typed s v Int t.value) (body_typed {p = p} i.return_clause.body s t.returns placed low handled)))

-- the function of a handler is typed
pub handler_typed : (p : Script) (C : Context) → Offers p.declarations C → (h : Name) (i : Handler) → handler_of p.declarations h ≡ Some i → HandlerTyped p h i
    → BodyTyped C (val_types i.parameters ++ to_continuation true computation_type ∷ []) (handler_locals p.declarations h i) (I64 ∷ []) (handler_body p.declarations (return_layout p.declarations h i) i (placed_clauses p.declarations h i))
handler_typed p C o h i is t =
    let ps = placed_clauses p.declarations h i in let L = return_layout p.declarations h i in let C0 = in_body C (handler_types p.declarations h i) (I64 ∷ []) in
    let handled = handler_handled p.declarations h i is in
    let first = handled_left (handled_in_block i.return_clause.body) (handled_in_clauses i.clauses) handled in
    let later = handled_right (handled_in_block i.return_clause.body) (handled_in_clauses i.clauses) handled in
    let g = segment_right (return_names p.declarations i) (clauses_names p.declarations h i.clauses) (names_there p.declarations h i) in
    let low : high_clauses i.clauses ≤ handler_high i = omega arith in
    let clauses = all_clauses p C h i o is t (clauses_place p.declarations i) i.clauses (λ m c q. record { place = m; is = q }) low later g in
    let inner : Rest (in_loop p.declarations C h i) (turn p.declarations L i ps) ε (ε ▹ Known I64) = blocks_typed ps (handling p.declarations L i) clauses (handling_typed p C h i o is t first) (ε ▹ Known I64) in
    body_of_rest C (handler_params i) (I64 ∷ []) (handler_names p.declarations h i) (handler_high i) (handler_body p.declarations L i ps) (record {
      typed = λ s all. (
        inner.typed s (record { is_set = all.is_set }),
        (ε ▹ Known I64, record { beneath = ε; takes = none; gives = row_refl C.types (ε ▹ Known I64) }, row_refl C.types (ε ▹ Known I64)),
      );
    })
