-- Each step of a typed configuration gives a typed one, and none is wrong.
use Rattle.std.proofs.Common.{◌≡◌, ◌⊎◌, ℕ, zero, suc, ◌+◌, ◌<◌, ℤ, pos, negsuc, Bool, true, false, List, [], ◌∷◌, ◌++◌, inl, inr, length, Option, Some, None, slice_get, option_map, if◌then◌else◌, refl, sym, ap, ◌∙◌, subst, arith, length-append}
use Rattle.std.specs.Str.{bytes_eq}
use Rattle.s_syntax.specs.declared.name.Name.{Name}
use Rattle.s_syntax.specs.declared.script.VariableType.{VariableType}
use Rattle.s_syntax.specs.declared.script.VariableType.TheVariants.{Int, Resumption, Coroutine}
use Rattle.s_syntax.specs.declared.operators.BinaryOperator.TheVariants.{Connects}
use Rattle.s_syntax.specs.BlockTree.{BlockTree}
use Rattle.s_syntax.specs.declared.script.Slots.{Slots}
use Rattle.s_syntax.specs.declared.script.Function.{Function}
use Rattle.s_syntax.specs.declared.script.Clause.{Clause}
use Rattle.s_syntax.specs.declared.script.Handler.{Handler}
use Rattle.s_syntax.specs.declared.script.Script.{Script}
use Rattle.s_check.specs.Definitions.{function_of, handler_of, effect_of, slots_of}
use Rattle.s_check.specs.Scopes.{Scope, type_in, number as number_name, resumption as resumption_name, coroutine as coroutine_name}
use Rattle.s_meaning.specs.Typing.{kinds, numbers, BlockTyped, ScriptTyped, ClauseTyped, whiles}
use Rattle.s_meaning.proofs.Scopes.{same_is, bool_of, then_typed, block_rest}
use Rattle.s_meaning.specs.Numbers.{Reused, Empty, Unhandled, Computed, Is, Faulty, operate, decided, holds, truth}
use Rattle.s_meaning.specs.Terms.{Value, Number, Reference, Variable, Work, RightOf, Place, Activation, Handle, Group, Context, Hole, Gives, Finds, Runs, Kept, captured, switched, Contents, Store, Configuration}
use Rattle.s_meaning.specs.Focus.{Redex, Spawns, left_of}
use Rattle.s_meaning.specs.Steps.{clause_of, Cut, inward, cut_at, Found, with_clause, with_handler, catches, is_group, group_name, enters_clause, goes_into, switches, with_kept, emptied as without, next_address, contents_of, with_contents, place_at, with_place, put, with_variable, Around, whole, goes, goes_on, enters, leaves, resumes, applies, uses, rule, step_at, step, unless_faulty, or_fault}
use Rattle.s_meaning.specs.Typed
use Rattle.s_meaning.specs.Typed.{World, HasKind, int, reference, coroutine, AllHave, none, more, Covers, RestTyped, begins, UseTyped, stores, chooses, turns, puts, takes, switching, WorkTyped, HeadTyped, calling, tail_calling, doing, handling, resuming, tail_resuming, grouping, ContextTyped, nothing, activation, handle, group, HoleTyped, gives, finds, runs, TermTyped, in_activation, in_handle, in_group, KeptTyped, takes_number, takes_both, takes_call, EntryTyped, emptied, kept, PlacesTyped, ContentsTyped, SlotsThere, StoreTyped, Typed}
use Rattle.s_meaning.specs.Laws.{StepGood, on, over, faulty}
use Rattle.s_meaning.proofs.Lists.{get_before, get_last, get_appended, get_set, length_set}
use Rattle.s_meaning.proofs.Variables.{variable, covers_with, covers_stored}
use Rattle.s_meaning.proofs.Cuts.{cut_is}
use Rattle.s_meaning.proofs.Slots.{contents_with, contents_other, contents_named, length_with}
use Rattle.s_meaning.proofs.Worlds.{Grows, all_grows, covers_grows, context_grows, entry_grows, context_append, context_parts, listed_typed, taken_typed, dropped_typed, Match, no_names, name, match_append, match_covers, bound_typed, ints_typed}
use Rattle.s_meaning.proofs.TypedFocus.{RedexTyped, constant, lookup, on_unary, on_binary, decides, applying, using, failing, spawning, ending, left_typed, next_typed}

module _ (p : Script) (typed : ScriptTyped p) where
  gives_typed : {Ξ : World} {v : Value} {κ : Context} {place : Place} → HasKind Ξ v Int → ContextTyped p Ξ (place ∷ κ) → TermTyped p Ξ (Gives v) (place ∷ κ)
  gives_typed h (activation c w κ) = in_activation (gives c h w) κ
  gives_typed h (handle i ps κ) = in_handle h i ps κ
  gives_typed h (group κ) = in_group h κ

  leaves_good : {Ξ : World} {v : Value} (σ : Store) (κ : Context) → StoreTyped p Ξ σ → HasKind Ξ v Int → ContextTyped p Ξ κ → StepGood p (leaves σ κ v)
  leaves_good σ [] s int κ = over
  leaves_good {Ξ} σ (place ∷ κ) s h t = on Ξ (record { store = s; term = gives_typed h t })

  -- ## The innermost handle with a clause

  record FoundTyped (Ξ : World) (op : Name) (f : Found) : Type 0 where
    handler : handler_of p.declarations f.h ≡ Some f.handler
    clause : clause_of op f.handler.clauses ≡ Some f.clause
    params : AllHave Ξ f.params (kinds f.handler.parameters)

  record CutTyped (Ξ : World) (op : Name) (c : Cut Found) : Type 0 where
    found : FoundTyped Ξ op c.answer
    inner : ContextTyped p Ξ c.inner
    outer : ContextTyped p Ξ c.outer

  clause_found : {Ξ : World} {op : Name} (h : Name) (ps : List Value) (g : Handler) (c : Option Clause) (f : Found) → handler_of p.declarations h ≡ Some g → clause_of op g.clauses ≡ c
      → AllHave Ξ ps (kinds g.parameters) → with_clause h ps g c ≡ Some f → FoundTyped Ξ op f
  clause_found h ps g None f i q hs e = absurd (cc e)
  clause_found {Ξ} {op} h ps g (Some c) f i q hs e =
      let same : record { h = h; handler = g; params = ps; clause = c } ≡ f = cc e in
      subst (λ (z : Found). FoundTyped Ξ op z) same (record { handler = i; clause = q; params = hs })

  -- a place that catches, and what is around it
  caught : {Ξ : World} {place : Place} {κ : Context} (op : Name) (f : Found) → ContextTyped p Ξ (place ∷ κ) → catches p op place ≡ Some f → FoundTyped Ξ op f × ContextTyped p Ξ κ
  caught op f (activation c w κ) e = absurd (cc e)
  caught op f (handle {h = h} {i = g} {ps = ps} i hs κ) e =
      (clause_found h ps g (clause_of op g.clauses) f i refl hs (ap (λ (o : Option Handler). with_handler op h ps o) (sym i) ∙ e), κ)
  caught op f (group κ) e = absurd (cc e)

  cut_typed : {Ξ : World} {κ : Context} (op : Name) (c : Cut Found) → ContextTyped p Ξ κ → cut_at (catches p op) κ ≡ Some c → CutTyped Ξ op c
  cut_typed {Ξ} {κ} op c t e =
      let i = cut_is (catches p op) κ c e in
      let r = context_parts c.inner (i.place ∷ c.outer) (subst (λ (z : Context). ContextTyped p Ξ z) i.split t) in
      let u = caught op c.answer r.1 i.answers in record { found = u.0; inner = r.0; outer = u.1 }

  -- ## Stores

  grown : (Ξ : World) (t : VariableType) → Grows Ξ (Ξ ++ t ∷ [])
  grown Ξ t = record { keeps = λ a u e. get_before Ξ (t ∷ []) a u e }

  places_grow : {Ξ Ξ' : World} {h : Name} {places : List (Option ℕ)} → Grows Ξ Ξ' → PlacesTyped Ξ h places → PlacesTyped Ξ' h places
  places_grow {h = h} g t = record { each = λ n a q. g.keeps a (Resumption h) (t.each n a q) }

  slots_grow : {Ξ Ξ' : World} {d : Slots} {o : Option Contents} → Grows Ξ Ξ' → SlotsThere Ξ d o → SlotsThere Ξ' d o
  slots_grow g t = record { contents = t.contents; is = t.is; typed = record { handler = t.typed.handler; as_many = t.typed.as_many; holds = places_grow g t.typed.holds } }

  kept_typed : {Ξ : World} {k : Kept} (t : VariableType) (σ : Store) → StoreTyped p Ξ σ → KeptTyped p Ξ t k → StoreTyped p (Ξ ++ t ∷ []) (with_kept σ k)
  kept_typed {Ξ} {k} t σ s new = record {
    as_many = length-append σ.contexts (Some k ∷ []) ∙ ap (λ (n : ℕ). n + 1) s.as_many ∙ sym (length-append Ξ (t ∷ []));
    each = λ a u e q r. entry a u e (get_appended Ξ t u a q) (get_appended σ.contexts (Some k) e a r);
    slots = λ x d q. slots_grow (grown Ξ t) (s.slots x d q);
  }
    where
      -- an old address, or the new one, both in the world and in the store
      entry : (a : ℕ) (u : VariableType) (e : Option Kept) → ((slice_get Ξ a ≡ Some u) × (a < length Ξ)) ⊎ ((a ≡ length Ξ) × (u ≡ t))
          → ((slice_get σ.contexts a ≡ Some e) × (a < length σ.contexts)) ⊎ ((a ≡ length σ.contexts) × (e ≡ Some k)) → EntryTyped p (Ξ ++ t ∷ []) u e
      entry a u e (inl q) (inl r) = entry_grows (grown Ξ t) (s.each a u e q.0 r.0)
      entry a u e (inl q) (inr r) = absurd (let x = q.1 in let y = r.0 in let z = s.as_many in omega (arith, x, y, z))
      entry a u e (inr q) (inl r) = absurd (let x = r.1 in let y = q.0 in let z = s.as_many in omega (arith, x, y, z))
      entry a u e (inr q) (inr r) =
          subst (λ (x : Option Kept). EntryTyped p (Ξ ++ t ∷ []) u x) (sym r.1)
          (subst (λ (x : VariableType). EntryTyped p (Ξ ++ t ∷ []) x (Some k)) (sym q.1) (entry_grows (grown Ξ t) (kept new)))

  -- the type of the address of what is kept next
  next_has : {Ξ : World} (t : VariableType) (σ : Store) → StoreTyped p Ξ σ → slice_get (Ξ ++ t ∷ []) (next_address σ) ≡ Some t
  next_has {Ξ} t σ s = subst (λ (a : ℕ). slice_get (Ξ ++ t ∷ []) a ≡ Some t) (sym s.as_many) (get_last Ξ t)

  emptied_typed : {Ξ : World} (a : ℕ) (σ : Store) → StoreTyped p Ξ σ → StoreTyped p Ξ (without σ a)
  emptied_typed {Ξ} a σ s = record {
    as_many = length_set σ.contexts a None ∙ s.as_many;
    each = λ b t e q r. elim (get_set σ.contexts a None e b r) [
      | inl old ↦ s.each b t e q old
      | inr new ↦ subst (λ (x : Option Kept). EntryTyped p Ξ t x) (sym new) emptied
    ];
    slots = s.slots;
  }

  -- ## Slots

  -- the slots of a name are changed, in which as many places hold what they may
  put_typed : {Ξ : World} (σ : Store) (c : Contents) (n : ℤ) (place : Option ℕ) → StoreTyped p Ξ σ → contents_of c.name σ.slots ≡ Some c → PlacesTyped Ξ c.handler (with_place c.places n place)
      → StoreTyped p Ξ (put σ c n place)
  put_typed {Ξ} σ c n place s present holds = record { as_many = s.as_many; each = s.each; slots = slots }
    where
      now : (d : Slots) → SlotsThere Ξ d (contents_of c.name σ.slots) → ContentsTyped Ξ d (record c { places = with_place c.places n place })
      now d t = let same : t.contents ≡ c = let is = t.is in cc (is, present) in
          record {
            handler = ap (λ (x : Contents). x.handler) (sym same) ∙ t.typed.handler;
            as_many = length_with c.places n place ∙ ap (λ (x : Contents). length x.places) (sym same) ∙ t.typed.as_many;
            holds = holds;
          }

      slots : (x : Name) (d : Slots) → slots_of p.declarations x ≡ Some d → SlotsThere Ξ d (contents_of x (with_contents (record c { places = with_place c.places n place }) σ.slots))
      slots x d q = bool_of (bytes_eq c.name x) (λ b. SlotsThere Ξ d (contents_of x (with_contents (record c { places = with_place c.places n place }) σ.slots)))
          (λ e. let is : x ≡ c.name = same_is x c.name e in
          record {
            contents = record c { places = with_place c.places n place };
            is = ap (λ (y : Name). contents_of y (with_contents (record c { places = with_place c.places n place }) σ.slots)) is ∙ contents_with (record c { places = with_place c.places n place }) σ.slots c present;
            typed = now d (subst (λ (y : Name). SlotsThere Ξ d (contents_of y σ.slots)) is (s.slots x d q));
          })
          (λ e. subst (λ (o : Option Contents). SlotsThere Ξ d o) (sym (contents_other (record c { places = with_place c.places n place }) σ.slots x e)) (s.slots x d q))

  -- a place that is filled, or emptied
  filled_typed : {Ξ : World} {h : Name} (places : List (Option ℕ)) (n : ℤ) (a : ℕ) → slice_get Ξ a ≡ Some (Resumption h) → PlacesTyped Ξ h places → PlacesTyped Ξ h (with_place places n (Some a))
  filled_typed {Ξ} {h} places (pos n) a present t = record {
    each = λ m b q. elim (get_set places n (Some a) (Some b) m q) [
      | inl old ↦ t.each m b old
      | inr new ↦ ap (λ (z : ℕ). slice_get Ξ z) (let same : b ≡ a = cc new in same) ∙ present
    ];
  }
  filled_typed places (negsuc n) a present t = t

  freed_typed : {Ξ : World} {h : Name} (places : List (Option ℕ)) (n : ℤ) → PlacesTyped Ξ h places → PlacesTyped Ξ h (with_place places n None)
  freed_typed places (pos n) t = record {
    each = λ m b q. elim (get_set places n None (Some b) m q) [
      | inl old ↦ t.each m b old
      | inr new ↦ absurd (cc new)
    ];
  }
  freed_typed places (negsuc n) t = t

  -- what stands at a place
  found_typed : {Ξ : World} {h : Name} (places : List (Option ℕ)) (n : ℤ) (a : ℕ) → place_at places n ≡ Some (Some a) → PlacesTyped Ξ h places → slice_get Ξ a ≡ Some (Resumption h)
  found_typed places (pos n) a e t = t.each n a e
  found_typed places (negsuc n) a e t = absurd (cc e)

  -- ## The rules

  -- a step of this form, where a number comes of it
  computed_good : {Ξ : World} {Γ : Scope} (e : Around) (c : Computed) → StoreTyped p Ξ e.store → Covers Ξ Γ e.variables → WorkTyped p Ξ Γ e.work Int
      → ContextTyped p Ξ e.outer → StepGood p (unless_faulty c (λ n. goes_on e (Gives (Number n))))
  computed_good {Ξ} e (Is n) s c w κ = on Ξ (record { store = s; term = in_activation (gives c int w) κ })
  computed_good e (Faulty f) s c w κ = faulty

  enters_typed : {Ξ : World} {Γ : Scope} {vars : List Variable} {body : BlockTree} {owner : Option Name} {κ : Context} (σ : Store) → StoreTyped p Ξ σ → Match Ξ Γ vars
      → BlockTyped p Γ body → ContextTyped p Ξ κ → StepGood p (enters σ body vars owner κ)
  enters_typed {Ξ} σ s m b κ = on Ξ (record { store = s; term = in_activation (runs (match_covers m) (block_rest b)) κ })

  whole_typed : {Ξ : World} {Γ : Scope} (e : Around) → Covers Ξ Γ e.variables → WorkTyped p Ξ Γ e.work Int → ContextTyped p Ξ e.outer → ContextTyped p Ξ (whole e)
  whole_typed e c w κ = activation c w κ

  -- a value of this type is an address
  record Referred (Ξ : World) (t : VariableType) (v : Value) : Type 0 where
    address : ℕ
    is : v ≡ Reference address
    there : slice_get Ξ address ≡ Some t

  referred : {Ξ : World} {h : Name} {v : Value} → HasKind Ξ v (Resumption h) → Referred Ξ (Resumption h) v
  referred (reference {a = a} e) = record { address = a; is = refl; there = e }

  a_coroutine : {Ξ : World} {v : Value} → HasKind Ξ v Coroutine → Referred Ξ Coroutine v
  a_coroutine (coroutine {a = a} e) = record { address = a; is = refl; there = e }

  get_within : {A B : Type 0} (xs : List A) (ys : List B) (a : ℕ) (y : B) → length xs ≡ length ys → slice_get ys a ≡ Some y → (x : A) × (slice_get xs a ≡ Some x)
  get_within [] [] a y e q = absurd (cc)
  get_within [] (z ∷ ys) a y e q = absurd (cc)
  get_within (x ∷ xs) [] a y e q = absurd (cc)
  get_within (x ∷ xs) (z ∷ ys) zero y e q = (x, refl)
  get_within (x ∷ xs) (z ∷ ys) (suc a) y e q = get_within xs ys a y (cc e) q

  put_back : {Ξ : World} {v : Value} (h : Name) {i : Handler} {bs : List Value} {inner κ : Context} → HasKind Ξ v Int → handler_of p.declarations h ≡ Some i → AllHave Ξ bs (kinds i.parameters)
      → ContextTyped p Ξ inner → ContextTyped p Ξ κ → TermTyped p Ξ (Gives v) (inner ++ Handle h bs ∷ κ)
  put_back h t i bs nothing κ = in_handle t i bs κ
  put_back h t i bs (activation c w inner) κ = in_activation (gives c t w) (context_append inner (handle i bs κ))
  put_back h t i bs (handle j ps inner) κ = in_handle t j ps (context_append inner (handle i bs κ))
  put_back h t i bs (group inner) κ = in_group t (context_append inner (handle i bs κ))

  entry_good : {Ξ : World} (h : Name) {i : Handler} {v : Value} {bs : List Value} {κ : Context} (σ : Store) (a : ℕ) (entry : Option Kept) → StoreTyped p Ξ σ → EntryTyped p Ξ (Resumption h) entry
      → HasKind Ξ v Int → handler_of p.declarations h ≡ Some i → AllHave Ξ bs (kinds i.parameters) → ContextTyped p Ξ κ
      → StepGood p (or_fault Reused entry (λ k. goes (without σ a) (Gives v) (k.around ++ Handle h bs ∷ κ)))
  entry_good h σ a None s emptied t i bs κ = faulty
  entry_good {Ξ} h σ a (Some k) s (kept (takes_number u)) t i bs κ = on Ξ (record { store = emptied_typed a σ s; term = put_back h t i bs u κ })

  resumes_good : {Ξ : World} {Γ : Scope} {h : Name} {i : Handler} {κ : Context} {vs : List Value} (e : Around) (k : Name) → StoreTyped p Ξ e.store → Covers Ξ Γ e.variables
      → type_in Γ k ≡ Some (Resumption h) → handler_of p.declarations h ≡ Some i → AllHave Ξ vs (Int ∷ kinds i.parameters) → ContextTyped p Ξ κ → StepGood p (resumes e k vs κ)
  resumes_good {h = h} e k s c q i (more t bs) κ =
      let x = c.covers k (Resumption h) q in
      let r = referred x.has in
      let entry = get_within e.store.contexts _ r.address (Resumption h) s.as_many r.there in
      rw (x.there, x.of_kind, r.is, entry.1) (entry_good h e.store r.address entry.0 s (s.each r.address (Resumption h) entry.0 r.there entry.1) t i bs κ)

  -- E[do op(vs)]
  caught_good : {Ξ : World} {op : Name} {n : ℕ} {vs : List Value} (e : Around) (o : Option (Cut Found)) → StoreTyped p Ξ e.store → ((c : Cut Found) → o ≡ Some c → CutTyped Ξ op c)
      → effect_of p.declarations op ≡ Some n → AllHave Ξ vs (numbers n)
      → StepGood p (or_fault (Unhandled op) o (λ c. enters_clause (with_kept e.store (captured c.inner)) c.answer vs (next_address e.store) c.outer))
  caught_good e None s is_typed q vs = faulty
  caught_good {Ξ} {op} {n} {vs} e (Some c) s is_typed q us =
      let t = is_typed c refl in
      let f = c.answer in
      let ct : ClauseTyped p f.h op f.handler f.clause = typed.clauses f.h op f.handler f.clause t.found.handler t.found.clause in
      let Ξ' : World = Ξ ++ Resumption f.h ∷ [] in
      let grows : Grows Ξ Ξ' = grown Ξ (Resumption f.h) in
      let many : n ≡ length f.clause.arguments = cc (q, ct.is_effect) in
      let params = bound_typed f.handler.parameters (all_grows grows t.found.params) in
      let args = ints_typed f.clause.arguments (all_grows grows (subst (λ (m : ℕ). AllHave Ξ vs (numbers m)) many us)) in
      let k : HasKind Ξ' (Reference (next_address e.store)) (Resumption f.h) = reference (next_has (Resumption f.h) e.store s) in
      rw (params.is, args.is)
      (enters_typed (with_kept e.store (captured c.inner)) (kept_typed (Resumption f.h) e.store s (takes_number t.inner)) (match_append params.match (match_append args.match (name k no_names))) ct.body (context_grows grows t.outer))

  applies_good : {Ξ : World} {Γ : Scope} {head : _} {all : List VariableType} {vs : List Value} (e : Around) → StoreTyped p Ξ e.store → Covers Ξ Γ e.variables
      → HeadTyped p Ξ Γ head all e.work → AllHave Ξ vs all → ContextTyped p Ξ e.outer → StepGood p (applies p e head vs)
  applies_good e s c (calling {f = f} {g = g} q w) vs κ =
      let b = bound_typed g.parameters vs in
      rw (q, b.is) (enters_typed e.store s b.match (typed.functions f g q) (whole_typed e c w κ))
  applies_good e s c (tail_calling {f = f} {g = g} q) vs κ =
      let b = bound_typed g.parameters vs in
      rw (q, b.is) (enters_typed e.store s b.match (typed.functions f g q) κ)
  applies_good e s c (doing {op = op} q w) vs κ = caught_good e (cut_at (catches p op) (whole e)) s (λ d r. cut_typed op d (whole_typed e c w κ) r) q vs
  applies_good {Ξ} {vs = us} e s c (handling {f = f} {g = g} {i = i} q j n w) vs κ =
      let b = bound_typed g.parameters (taken_typed (kinds i.parameters) g.parameters vs) in
      let outer = handle j (dropped_typed (kinds i.parameters) g.parameters vs) (whole_typed e c w κ) in
      rw (n, q, b.is) (enters_typed e.store s b.match (typed.functions f g q) outer)
  applies_good e s c (resuming {k = k} q i w) vs κ = resumes_good e k s c q i vs (whole_typed e c w κ)
  applies_good e s c (tail_resuming {k = k} q i) vs κ = resumes_good e k s c q i vs κ
  applies_good {Ξ} {vs = us} e s c (grouping {f = f} {g = g} q k w) vs κ =
      let b = bound_typed g.parameters (subst (λ (ks : List VariableType). AllHave Ξ us ks) (sym k) vs) in
      rw (q, b.is) (enters_typed e.store s b.match (typed.functions f g q) (group (whole_typed e c w κ)))

  -- ## Coroutines

  -- the place that a cut at a group was made at is a group
  group_there : {Ξ : World} {κ : Context} (place : Place) (a : Unit {0}) → is_group place ≡ Some a → ContextTyped p Ξ (place ∷ κ) → ContextTyped p Ξ (Group ∷ κ)
  group_there (Activation vars owner w) a e t = absurd (cc e)
  group_there (Handle h ps) a e t = absurd (cc e)
  group_there Group a e t = t

  -- what is switched to goes on with a number, and the coroutine c
  into_good : {Ξ Ξ' : World} {κ : Context} {k : Kept} (σ : Store) (n : ℤ) (c : ℕ) → Grows Ξ Ξ' → StoreTyped p Ξ' σ → KeptTyped p Ξ Coroutine k → slice_get Ξ' c ≡ Some Coroutine
      → ContextTyped p Ξ' κ → StepGood p (goes_into p σ k.takes k.around n c κ)
  into_good {Ξ' = Ξ'} σ n c g s (takes_both {x = x} {u = u} v b inner) there κ =
      on Ξ' (record { store = s; term = in_activation (runs (covers_with u (coroutine there) (covers_stored x n (covers_grows g v))) b) (context_append (context_grows g inner) κ) })
  into_good {Ξ' = Ξ'} σ n c g s (takes_call {f = f} {g = fn} q k) there κ =
      let b = bound_typed fn.parameters (subst (λ (ks : List VariableType). AllHave Ξ' (Number n ∷ Reference c ∷ []) ks) (sym k) (more int (more (coroutine there) none))) in
      rw (q, b.is) (enters_typed σ s b.match (typed.functions f fn q) κ)

  group_good : {Ξ : World} {Γ : Scope} {k : Kept} (e : Around) (x u : Name) (rest : BlockTree) (n : ℤ) (a : ℕ) (o : Option (Cut (Unit {0}))) → cut_at is_group e.outer ≡ o → StoreTyped p Ξ e.store
      → Covers Ξ Γ e.variables → RestTyped p (coroutine_name u ∷ number_name x ∷ Γ) rest → ContextTyped p Ξ e.outer → KeptTyped p Ξ Coroutine k
      → StepGood p (or_fault (Unhandled group_name) (option_map (inward (Activation e.variables e.owner e.work)) o) (λ c.
      goes_into p (with_kept (without e.store a) (switched x u rest c.inner)) k.takes k.around n (next_address e.store) (Group ∷ c.outer)))
  group_good e x u rest n a None q s v b κ t = faulty
  group_good {Ξ} e x u rest n a (Some d) q s v b κ t =
      let i = cut_is is_group e.outer d q in
      let r = context_parts d.inner (i.place ∷ d.outer) (subst (λ (z : Context). ContextTyped p Ξ z) i.split κ) in
      let grows = grown Ξ Coroutine in
      into_good (with_kept (without e.store a) (switched x u rest (Activation e.variables e.owner e.work ∷ d.inner))) n (next_address e.store) grows
      (kept_typed Coroutine (without e.store a) (emptied_typed a e.store s) (takes_both v b r.0)) t (next_has Coroutine e.store s) (context_grows grows (group_there i.place d.answer i.answers r.1))

  target_good : {Ξ : World} {Γ : Scope} (e : Around) (x u : Name) (rest : BlockTree) (n : ℤ) (a : ℕ) (entry : Option Kept) → StoreTyped p Ξ e.store → Covers Ξ Γ e.variables
      → RestTyped p (coroutine_name u ∷ number_name x ∷ Γ) rest → ContextTyped p Ξ e.outer → EntryTyped p Ξ Coroutine entry
      → StepGood p (or_fault Reused entry (λ k. or_fault (Unhandled group_name) (cut_at is_group (whole e)) (λ c.
      goes_into p (with_kept (without e.store a) (switched x u rest c.inner)) k.takes k.around n (next_address e.store) (Group ∷ c.outer))))
  target_good e x u rest n a None s v b κ emptied = faulty
  target_good e x u rest n a (Some k) s v b κ (kept t) = group_good e x u rest n a (cut_at is_group e.outer) refl s v b κ t

  -- switch x, u = t(n)
  switches_good : {Ξ : World} {Γ : Scope} {rest : BlockTree} (e : Around) (x u t : Name) (n : ℤ) → StoreTyped p Ξ e.store → Covers Ξ Γ e.variables → type_in Γ t ≡ Some Coroutine
      → RestTyped p (coroutine_name u ∷ number_name x ∷ Γ) rest → ContextTyped p Ξ e.outer → StepGood p (switches p e x u t (Number n) rest)
  switches_good {rest = rest} e x u t n s c q b κ =
      let v = c.covers t Coroutine q in
      let r = a_coroutine v.has in
      let entry = get_within e.store.contexts _ r.address Coroutine s.as_many r.there in
      rw (v.there, r.is, entry.1) (target_good e x u rest n r.address entry.0 s c b κ (s.each r.address Coroutine entry.0 r.there entry.1))

  -- spawn t = f
  spawns_good : {Ξ : World} {Γ : Scope} {g : Function} (e : Around) (t f : Name) (rest : BlockTree) → StoreTyped p Ξ e.store → Covers Ξ Γ e.variables → e.work ≡ []
      → function_of p.declarations f ≡ Some g → kinds g.parameters ≡ Int ∷ Coroutine ∷ [] → RestTyped p (coroutine_name t ∷ Γ) rest → ContextTyped p Ξ e.outer
      → StepGood p (rule p e (Spawns t f rest))
  spawns_good {Ξ} e t f rest s c w q k b κ =
      let grows = grown Ξ Coroutine in
      rw w (on (Ξ ++ Coroutine ∷ []) (record {
        store = kept_typed Coroutine e.store s (takes_call q k);
        term = in_activation (runs (covers_with t (coroutine (next_has Coroutine e.store s)) (covers_grows grows c)) b) (context_grows grows κ);
      }))

  -- ## Statements

  either_typed : (P : BlockTree → Type 0) {b d : BlockTree} (h : Bool) → P b → P d → P (if h then b else d)
  either_typed P true t u = t
  either_typed P false t u = u

  -- store s[n] = k, k being the resumption a
  put_good : {Ξ : World} {Γ : Scope} {rest : BlockTree} (e : Around) (c : Contents) (n : ℤ) (a : ℕ) (o : Option (Option ℕ)) → StoreTyped p Ξ e.store → Covers Ξ Γ e.variables → e.work ≡ []
      → contents_of c.name e.store.slots ≡ Some c → slice_get Ξ a ≡ Some (Resumption c.handler) → PlacesTyped Ξ c.handler c.places → RestTyped p Γ rest → ContextTyped p Ξ e.outer
      → StepGood p (or_fault Empty o (λ place. goes_on (record e { store = put e.store c n (Some a) }) (Runs rest)))
  put_good e c n a None s v w present of_handler holds b κ = faulty
  put_good {Ξ} e c n a (Some place) s v w present of_handler holds b κ =
      rw w (on Ξ (record { store = put_typed e.store c n (Some a) s present (filled_typed c.places n a of_handler holds); term = in_activation (runs v b) κ }))

  -- take k = s[n]
  take_good : {Ξ : World} {Γ : Scope} {rest : BlockTree} (e : Around) (c : Contents) (n : ℤ) (k : Name) (o : Option (Option ℕ)) → place_at c.places n ≡ o → StoreTyped p Ξ e.store → Covers Ξ Γ e.variables
      → e.work ≡ [] → contents_of c.name e.store.slots ≡ Some c → PlacesTyped Ξ c.handler c.places → RestTyped p (resumption_name c.handler k ∷ Γ) rest → ContextTyped p Ξ e.outer
      → StepGood p (or_fault Empty o (λ place. or_fault Empty place (λ a. goes_on (record e { store = put e.store c n None; variables = with_variable (variable k (Resumption c.handler) (Reference a)) e.variables }) (Runs rest))))
  take_good e c n k None q s v w present holds b κ = faulty
  take_good e c n k (Some None) q s v w present holds b κ = faulty
  take_good {Ξ} e c n k (Some (Some a)) q s v w present holds b κ =
      rw w (on Ξ (record {
        store = put_typed e.store c n None s present (freed_typed c.places n holds);
        term = in_activation (runs (covers_with k (reference (found_typed c.places n a q holds)) v) b) κ;
      }))

  uses_good : {Ξ : World} {Γ Γ' : Scope} {u : _} {v : Value} {rest : BlockTree} (e : Around) → StoreTyped p Ξ e.store → Covers Ξ Γ e.variables → e.work ≡ []
      → UseTyped p Γ u Γ' → RestTyped p Γ' rest → HasKind Ξ v Int → ContextTyped p Ξ e.outer → StepGood p (uses p e u v rest)
  uses_good {Ξ} e s c w (stores {x = x}) b (int {n = n}) κ = rw w (on Ξ (record { store = s; term = in_activation (runs (covers_stored x n c) b) κ }))
  uses_good {Ξ} e s c w Typed.prints b int κ = rw w (on Ξ (record { store = s; term = in_activation (runs c b) κ }))
  uses_good {Ξ} e s c w Typed.drops b int κ = rw w (on Ξ (record { store = s; term = in_activation (runs c b) κ }))
  uses_good e s c w Typed.returns b t κ = leaves_good e.store e.outer s t κ
  uses_good {Ξ} {Γ} e s c w (chooses t u) b (int {n = n}) κ = rw w (on Ξ (record { store = s; term = in_activation (runs c (then_typed (either_typed (BlockTyped p Γ) (holds n) t u) b)) κ }))
  uses_good {Ξ} {Γ} e s c w (turns t u) b (int {n = n}) κ = rw w (on Ξ (record { store = s; term = in_activation (runs c (either_typed (RestTyped p Γ) (holds n) (then_typed u (begins (whiles t u) b)) b)) κ }))
  uses_good e s c w (puts {s = x} {k = k} {d = d} q i) b (int {n = n}) κ =
      let v = c.covers k (Resumption d.handler) i in
      let r = referred v.has in
      let slots = s.slots x d q in
      let now = slots.contents in
      rw (v.there, r.is, slots.is)
      (put_good e now n r.address (place_at now.places n) s c w (contents_named x e.store.slots now slots.is) (r.there ∙ ap (λ (h : Name). Some (Resumption h)) (sym slots.typed.handler)) slots.typed.holds b κ)
  uses_good {Γ = Γ} {rest = rest} e s c w (takes {s = x} {k = k} {d = d} q) b (int {n = n}) κ =
      let slots = s.slots x d q in
      let now = slots.contents in
      rw slots.is
      (take_good e now n k (place_at now.places n) refl s c w (contents_named x e.store.slots now slots.is) slots.typed.holds
      (subst (λ (h : Name). RestTyped p (resumption_name h k ∷ Γ) rest) (sym slots.typed.handler) b) κ)
  uses_good e s c w (switching {x = x} {u = u} {t = t} q) b (int {n = n}) κ = switches_good e x u t n s c q b κ

  rule_good : {Ξ : World} {Γ : Scope} {r : Redex} (e : Around) → StoreTyped p Ξ e.store → Covers Ξ Γ e.variables → ContextTyped p Ξ e.outer
      → RedexTyped p Ξ Γ r e.work → StepGood p (rule p e r)
  rule_good {Ξ} e s c κ (constant w) = on Ξ (record { store = s; term = in_activation (gives c int w) κ })
  rule_good {Ξ} e s c κ (lookup {x = x} {k = k} q w) =
      let v = c.covers x k q in
      rw v.there (on Ξ (record { store = s; term = in_activation (gives c v.has w) κ }))
  rule_good {Ξ} e s c κ (on_unary int w) = on Ξ (record { store = s; term = in_activation (gives c int w) κ })
  rule_good e s c κ (on_binary {o = o} (int {n = a}) (int {n = b}) w) = computed_good e (operate o a b) s c w κ
  rule_good {Ξ} e s c κ (decides {c = and} {e = x} {es = es} (int {n = a}) t ts w) =
      bool_of (decided and a) (λ b. StepGood p (if b then goes_on (record e { work = left_of es e.work }) (Gives (Number (truth (holds a))))
      else goes_on (record e { work = RightOf (Number a) (Connects and) es ∷ e.work }) (Finds x)))
      (λ q. on Ξ (record { store = s; term = in_activation (gives c int (left_typed ts w)) κ }))
      (λ q. on Ξ (record { store = s; term = in_activation (finds c t (Typed.right int ts w)) κ }))
  rule_good e s c κ (applying head vs) = applies_good e s c head (listed_typed vs) κ
  rule_good e s c κ (using u b t) = uses_good e s c refl u b t κ
  rule_good e s c κ failing = faulty
  rule_good e s c κ (spawning {t = t} {f = f} {rest = rest} q k b) = spawns_good e t f rest s c refl q k b κ
  rule_good e s c κ ending = leaves_good e.store e.outer s int κ

  hole_good : {Ξ : World} {hole : Hole} {vars : List Variable} {w : List Work} {κ : Context} (σ : Store) (owner : Option Name) → StoreTyped p Ξ σ → HoleTyped p Ξ hole vars w
      → ContextTyped p Ξ κ → StepGood p (step_at p σ hole (Activation vars owner w ∷ κ))
  hole_good {vars = vars} {κ = κ'} σ owner s t κ =
      let n = next_typed owner t in
      rw n.is (rule_good (record { store = σ; variables = vars; owner = owner; work = n.focused.work; outer = κ' }) s n.covers κ n.typed)

  return_good : {Ξ : World} {v : Value} (h : Name) {ps : List Value} {κ : Context} {i : Handler} (σ : Store) → StoreTyped p Ξ σ → HasKind Ξ v Int → handler_of p.declarations h ≡ Some i
      → AllHave Ξ ps (kinds i.parameters) → ContextTyped p Ξ κ → StepGood p (step_at p σ (Gives v) (Handle h ps ∷ κ))
  return_good h {i = i} σ s int q hs κ =
      let b = bound_typed i.parameters hs in
      rw (q, b.is) (enters_typed σ s (match_append b.match (name int no_names)) (typed.returns h i q) κ)

  term_good : {Ξ : World} {hole : Hole} {κ : Context} (σ : Store) → StoreTyped p Ξ σ → TermTyped p Ξ hole κ → StepGood p (step_at p σ hole κ)
  term_good σ s (in_activation {owner = owner} t κ) = hole_good σ owner s t κ
  term_good σ s (in_handle {h = h} t i hs κ) = return_good h σ s t i hs κ
  term_good σ s (in_group {κ = κ'} t κ) = leaves_good σ κ' s t κ

  pub step_good : {Ξ : World} (c : Configuration) → Typed p Ξ c → StepGood p (step p c)
  step_good c t = term_good c.store t.store t.term
