-- Slots are tables of references to continuations. What the module does where a resumption is put into a place, and where one is taken.
use Rattle.std.proofs.Common.{◌≡◌, ℕ, zero, suc, ◌+◌, ◌-◌, ◌%◌, ◌^◌, ◌<◌, ◌≤◌, nat_lt, Bool, true, false, ℤ, pos, negsuc, List, [], ◌∷◌, length, Option, Some, None, if◌then◌else◌, inl, inr, refl, sym, ap, ◌∙◌, subst, arith}
use Rattle.std.specs.Prelude.{slice_get, slice_set}
use Rattle.std.proofs.Math.Nat.{mod-eq_of_lt}
use Rattle.std.proofs.lemmas.Bool.{cases_lt, lt-ltb, le-ltb}
use Rattle.std.proofs.lemmas.Option.{slice_get_past}
use Rattle.w_num.specs.Signed.{signed}
use Rattle.w_num.specs.Comparisons as bit
use Rattle.lists.specs.Rows.{Row, ε, ◌▹◌}
use Rattle.w_syntax.specs.Code.{Code, Plain}
use Rattle.w_syntax.specs.declared.numeric.Relop.TheVariants as relop_name
use Rattle.w_reduce.specs.declared.trap.Trap.TheVariants as trap
use Rattle.w_reduce.specs.Values.{Val, I32, I64, Null, Cont}
use Rattle.w_reduce.specs.Store.{Store, Table}
use Rattle.w_reduce.specs.Tables.{with_elements}
use Rattle.w_reduce.specs.Terms.{Label, Frame, Handle, Context, Term, locals_of, with_local}
use Rattle.w_reduce.specs.Program.{Program}
use Rattle.w_reduce.specs.Reduced.{Went, Trapped}
use Rattle.s_index.specs.Types.{resumption_type}
use Rattle.s_code.specs.Instructions.{constant, constant_32, compare, select, wrap, local_get, local_set, table_get, table_set, null, non_null}
use Rattle.s_code.specs.Slots.{to_place}
use Rattle.s_meaning.specs.Steps.{place_at}
use Rattle.s_agrees.proofs.StandsFor.{config, Locals, Element, Elements, no_elements, element}
use Rattle.s_agrees.proofs.MoreResumptions.{get_set_same, get_set_other}
use Rattle.s_agrees.proofs.Numbers.{Reading, low, high, reading}
use Rattle.s_agrees.proofs.Paths.{step, Caps, Under, Path, stay, go, under_set, get_path, set_step}

-- ## Code

-- from the number in the local x to the place
abbrev place_code : ℕ → ℕ → Code → Code
place_code x n c = Plain (local_get x) (Plain wrap (Plain (constant_32 (negsuc 0)) (Plain (local_get x) (Plain (constant (pos n)) (Plain (compare relop_name.LtU) (Plain select c))))))

-- behind the number: the local y put into that place of table x
abbrev pub put_code : (T n x y : ℕ) → Code → Code
put_code T n x y c = to_place T n (Plain (local_get y) (Plain (table_set x) c))

-- behind the number: what stands at that place of table x put into the local y, and the place emptied
abbrev pub take_code : (T n x y : ℕ) → Code → Code
take_code T n x y c =
    to_place T n (Plain (table_get x) (Plain non_null (Plain (local_set y)
    (Plain (local_get T) (Plain wrap (Plain (null resumption_type) (Plain (table_set x) c)))))))

-- ## Places of the script

-- what a number of 64 bits is as a place among n
pub data PlaceOf (n m : ℕ) : ℤ → Type 0 where
  inside : m < n → PlaceOf n m (pos m)
  outside : {z : ℤ} → n ≤ m → ((ps : List (Option ℕ)) → length ps ≡ n → place_at ps z ≡ None) → PlaceOf n m z

pub place_of : (n m : ℕ) (z : ℤ) → n ≤ 65536 → m < 2 ^ 64 → signed 64 m ≡ z → PlaceOf n m z
place_of n m z few h e = subst (λ (y : ℤ). PlaceOf n m y) e (by (signed 64 m) (reading m h))
  where
    by : (y : ℤ) → Reading m y → PlaceOf n m y
    by y (low l) = elim (cases_lt m n) [
      | inl lt ↦ inside lt
      | inr le ↦ outside le (λ ps q. slice_get_past ps m (omega (arith, q, le)))
    ]
    by y (high q l) = outside (omega (arith, q, l, few)) (λ ps q. refl)

-- ## Elements of a table

pub elements_long : {ρ : List ℕ} {ps : List (Option ℕ)} {vs : List Val} → Elements ρ ps vs → length ps ≡ length vs
elements_long no_elements = refl
elements_long (element h t) = ap suc (elements_long t)

-- what is at a place in both
pub elements_at : {ρ : List ℕ} {ps : List (Option ℕ)} {vs : List Val} → Elements ρ ps vs → (i : ℕ) (q : Option ℕ) → slice_get ps i ≡ Some q → (w : Val) × (slice_get vs i ≡ Some w) × Element ρ q w
elements_at no_elements i q e = absurd (cc)
elements_at {ρ} (element {q = q} {w = w} h t) zero r e = (w, refl, subst (λ (z : Option ℕ). Element ρ z w) (let same : q ≡ r = cc e in same) h)
elements_at (element h t) (suc i) r e = elements_at t i r e

pub elements_set : {ρ : List ℕ} {ps : List (Option ℕ)} {vs : List Val} {q : Option ℕ} {w : Val} (i : ℕ) → Element ρ q w → Elements ρ ps vs → Elements ρ (slice_set ps i q) (slice_set vs i w)
elements_set i x no_elements = no_elements
elements_set zero x (element h t) = element x t
elements_set (suc i) x (element h t) = element h (elements_set i x t)

-- ## The place

-- what select leaves
abbrev index : ℕ → ℕ → ℕ
index m n = if nat_lt m n then m % 2 ^ 32 else (2 ^ 32 - (0 + 1))

index_inside : (m n : ℕ) → n ≤ 65536 → m < n → index m n ≡ m
index_inside m n few lt = rw (lt-ltb m n lt) (mod-eq_of_lt (omega (arith, lt, few)))

index_outside : (m n : ℕ) → n ≤ m → index m n ≡ 2 ^ 32 - (0 + 1)
index_outside m n le = rw (le-ltb m n le) refl

select_step : (P : Program) (s : Store) (e : Context) (ops : Row Val) (a b : ℕ) (c : Code) (t : Bool)
    → step P s (config e (((ops ▹ I32 a) ▹ I32 b) ▹ I32 (bit.truth t)) (Plain select c)) ≡ Went [] s (config e (ops ▹ I32 (if t then a else b)) c)
select_step P s e ops a b c true = refl
select_step P s e ops a b c false = refl

-- from the number in the temporary to the place
pub place_path : {P : Program} {k : Caps} {s : Store} {e : Context} {ops : Row Val} {c : Code} {L : Locals} {j : ℕ} {s' : Store} {t' : Term} (T n m : ℕ)
    → locals_of e ≡ L → slice_get L T ≡ Some (Some (I64 m)) → Under k s e
    → Path P k j s (config e (ops ▹ I32 (index m n)) c) s' t' → Path P k (suc (suc (suc (suc (suc (suc (suc j))))))) s (config e ops (place_code T n c)) s' t'
place_path {P} {k} {s} {e} {ops} {c} T n m l p u q =
    get_path T (I64 m) l p u (go refl u (go refl u
    (get_path T (I64 m) l p u (go refl u (go refl u
    (go (select_step P s e ops (m % 2 ^ 32) (2 ^ 32 - (0 + 1)) c (nat_lt m n)) u q))))))

locals_set : (y : ℕ) (w : Val) (e : Context) → locals_of (with_local y w e) ≡ slice_set (locals_of e) y (Some w)
locals_set y w [] = refl
locals_set y w (Label below n again rest ∷ e) = locals_set y w e
locals_set y w (Frame below n f locals rest ∷ e) = refl
locals_set y w (Handle below hs rest ∷ e) = refl

-- ## Table instructions

module _ (P : Program) (s : Store) (e : Context) (ops : Row Val) (c : Code) (x : ℕ) (t : Table) (there : slice_get s.tables x ≡ Some t) where
  get_there : (i : ℕ) (w : Val) → slice_get t.elements i ≡ Some w → step P s (config e (ops ▹ I32 i) (Plain (table_get x) c)) ≡ Went [] s (config e (ops ▹ w) c)
  get_there i w q = rw (there, q) refl

  get_past : (i : ℕ) → slice_get t.elements i ≡ None → step P s (config e (ops ▹ I32 i) (Plain (table_get x) c)) ≡ Trapped trap.TableOutOfBounds
  get_past i q = rw (there, q) refl

  set_there : (i : ℕ) (w : Val) → i < length t.elements → step P s (config e ((ops ▹ I32 i) ▹ w) (Plain (table_set x) c)) ≡ Went [] (with_elements s x t (slice_set t.elements i w)) (config e ops c)
  set_there i w lt = rw (there, lt-ltb i (length t.elements) lt) refl

  set_past : (i : ℕ) (w : Val) → length t.elements ≤ i → step P s (config e ((ops ▹ I32 i) ▹ w) (Plain (table_set x) c)) ≡ Trapped trap.TableOutOfBounds
  set_past i w le = rw (there, le-ltb i (length t.elements) le) refl

-- ## What is done

module _ (P : Program) (k : Caps) (s : Store) (e : Context) (L : Locals) (locals : locals_of e ≡ L) (c : Code) (T n m x y : ℕ) (t : Table) (there : slice_get s.tables x ≡ Some t) (long : length t.elements ≡ n)
    (few : n ≤ 65536) (free : Option Val) (temporary : slice_get L T ≡ Some free) (under : Under k s e) where
  -- the number is in the temporary
  abbrev within : Context
  within = with_local T (I64 m) e

  locals_within : locals_of within ≡ slice_set L T (Some (I64 m))
  locals_within = locals_set T (I64 m) e ∙ ap (λ (z : Locals). slice_set z T (Some (I64 m))) locals

  number_within : slice_get (slice_set L T (Some (I64 m))) T ≡ Some (Some (I64 m))
  number_within = get_set_same L T (Some (I64 m)) free temporary

  first_set : (r : Code) → step P s (config e (ε ▹ I64 m) (Plain (local_set T) r)) ≡ Went [] s (config within ε r)
  first_set r = set_step P s e ε (I64 m) r T free (ap (λ (z : Locals). slice_get z T) locals ∙ temporary)

  -- ### A place that is there
  module _ (lt : m < n) where
    at : (r : Code) (ops : Row Val) {j : ℕ} {s' : Store} {t' : Term} → Path P k j s (config within (ops ▹ I32 m) r) s' t' → Path P k (suc (suc (suc (suc (suc (suc (suc j))))))) s (config within ops (place_code T n r)) s' t'
    at r ops {j} {s'} {t'} q =
        place_path T n m locals_within number_within (under_set T (I64 m) under)
        (subst (λ (i : ℕ). Path P k j s (config within (ops ▹ I32 i) r) s' t') (sym (index_inside m n few lt)) q)

    -- the reference in the local y is put there
    pub put_path : (w : Val) → slice_get L y ≡ Some (Some w) → ((T ≡ y) → ⊥) → Path P k 10 s (config e (ε ▹ I64 m) (put_code T n x y c)) (with_elements s x t (slice_set t.elements m w)) (config within ε c)
    put_path w held apart =
        go (first_set (place_code T n (Plain (local_get y) (Plain (table_set x) c)))) (under_set T (I64 m) under)
        (at (Plain (local_get y) (Plain (table_set x) c)) ε
        (get_path y w locals_within (get_set_other L T y (Some (I64 m)) apart ∙ held) (under_set T (I64 m) under)
        (go (set_there P s within ε c x t there m w (omega (arith, lt, long))) (let u = under_set T (I64 m) under in record { frames = u.frames; handles = u.handles; conts = u.conts }) stay)))

    -- the reference there is taken
    pub take_path : (b : ℕ) → slice_get t.elements m ≡ Some (Cont b) → (old : Option Val) → slice_get L y ≡ Some old → ((T ≡ y) → ⊥)
        → Path P k 15 s (config e (ε ▹ I64 m) (take_code T n x y c)) (with_elements s x t (slice_set t.elements m Null)) (config (with_local y (Cont b) within) ε c)
    take_path b found old is apart =
        let u = under_set T (I64 m) under in
        let rest : Code = Plain (local_get T) (Plain wrap (Plain (null resumption_type) (Plain (table_set x) c))) in
        let taken : Context = with_local y (Cont b) within in
        let locals_taken : locals_of taken ≡ slice_set (slice_set L T (Some (I64 m))) y (Some (Cont b)) = locals_set y (Cont b) within ∙ ap (λ (z : Locals). slice_set z y (Some (Cont b))) locals_within in
        let same : m % 2 ^ 32 ≡ m = mod-eq_of_lt (omega (arith, lt, few)) in
        go (first_set (place_code T n (Plain (table_get x) (Plain non_null (Plain (local_set y) rest))))) u
        (at (Plain (table_get x) (Plain non_null (Plain (local_set y) rest))) ε
        (go (get_there P s within ε (Plain non_null (Plain (local_set y) rest)) x t there m (Cont b) found) u
        (go refl u
        (go (set_step P s within ε (Cont b) rest y old (ap (λ (z : Locals). slice_get z y) locals_within ∙ get_set_other L T y (Some (I64 m)) apart ∙ is)) (under_set y (Cont b) u)
        (get_path T (I64 m) locals_taken (get_set_other (slice_set L T (Some (I64 m))) y T (Some (Cont b)) (λ (q : y ≡ T). apart (sym q)) ∙ number_within) (under_set y (Cont b) u)
        (go refl (under_set y (Cont b) u) (go refl (under_set y (Cont b) u)
        (go (ap (λ (i : ℕ). step P s (config taken ((ε ▹ I32 i) ▹ Null) (Plain (table_set x) c))) same ∙ set_there P s taken ε c x t there m Null (omega (arith, lt, long)))
        (let v = under_set y (Cont b) u in record { frames = v.frames; handles = v.handles; conts = v.conts }) stay))))))))

    -- nothing is there
    pub take_empty : slice_get t.elements m ≡ Some Null
        → (t' : Term) × Path P k 9 s (config e (ε ▹ I64 m) (take_code T n x y c)) s t' × (step P s t' ≡ Trapped trap.NullReference)
    take_empty found =
        let u = under_set T (I64 m) under in
        let rest : Code = Plain (local_get T) (Plain wrap (Plain (null resumption_type) (Plain (table_set x) c))) in (
          config within (ε ▹ Null) (Plain non_null (Plain (local_set y) rest)),
          go (first_set (place_code T n (Plain (table_get x) (Plain non_null (Plain (local_set y) rest))))) u
              (at (Plain (table_get x) (Plain non_null (Plain (local_set y) rest))) ε
              (go (get_there P s within ε (Plain non_null (Plain (local_set y) rest)) x t there m Null found) u stay)),
          refl,
        )

  -- ### A place that isn't
  module _ (le : n ≤ m) where
    beyond : (r : Code) (ops : Row Val) {j : ℕ} {s' : Store} {t' : Term} → Path P k j s (config within (ops ▹ I32 (2 ^ 32 - (0 + 1))) r) s' t'
        → Path P k (suc (suc (suc (suc (suc (suc (suc j))))))) s (config within ops (place_code T n r)) s' t'
    beyond r ops {j} {s'} {t'} q =
        place_path T n m locals_within number_within (under_set T (I64 m) under)
        (subst (λ (i : ℕ). Path P k j s (config within (ops ▹ I32 i) r) s' t') (sym (index_outside m n le)) q)

    past_end : length t.elements ≤ 2 ^ 32 - (0 + 1)
    past_end = omega (arith, long, few)

    pub put_past : (w : Val) → slice_get L y ≡ Some (Some w) → ((T ≡ y) → ⊥)
        → (t' : Term) × Path P k 9 s (config e (ε ▹ I64 m) (put_code T n x y c)) s t' × (step P s t' ≡ Trapped trap.TableOutOfBounds)
    put_past w held apart =
        let u = under_set T (I64 m) under in (
          config within ((ε ▹ I32 (2 ^ 32 - (0 + 1))) ▹ w) (Plain (table_set x) c),
          go (first_set (place_code T n (Plain (local_get y) (Plain (table_set x) c)))) u
              (beyond (Plain (local_get y) (Plain (table_set x) c)) ε (get_path y w locals_within (get_set_other L T y (Some (I64 m)) apart ∙ held) u stay)),
          set_past P s within ε c x t there (2 ^ 32 - (0 + 1)) w past_end,
        )

    pub take_past : (t' : Term) × Path P k 8 s (config e (ε ▹ I64 m) (take_code T n x y c)) s t' × (step P s t' ≡ Trapped trap.TableOutOfBounds)
    take_past =
        let u = under_set T (I64 m) under in
        let r : Code = Plain non_null (Plain (local_set y) (Plain (local_get T) (Plain wrap (Plain (null resumption_type) (Plain (table_set x) c))))) in (
          config within (ε ▹ I32 (2 ^ 32 - (0 + 1))) (Plain (table_get x) r),
          go (first_set (place_code T n (Plain (table_get x) r))) u (beyond (Plain (table_get x) r) ε stay),
          get_past P s within ε r x t there (2 ^ 32 - (0 + 1)) (slice_get_past t.elements (2 ^ 32 - (0 + 1)) past_end),
        )
