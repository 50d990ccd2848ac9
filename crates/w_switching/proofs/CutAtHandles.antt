-- Cutting the running segments at the innermost handle that has an answer.
use Rattle.std.proofs.Common.{◌≡◌, ℕ, zero, suc, ◌+◌, ◌<◌, List, [], ◌∷◌, ◌++◌, Option, Some, None, slice_get, length, refl, sym, ap, ◌∙◌, arith, drop, take, length-drop}
use Rattle.std.specs.Prelude.{option_map, All, ⊤}
use Rattle.lists.specs.Rows.{Row}
use Rattle.w_syntax.specs.Code.{Code, Done}
use Rattle.w_syntax.specs.declared.instructions.Clause.{Clause}
use Rattle.w_syntax.specs.declared.module.Module.{Module}
use Rattle.w_segment.specs.declared.entry.Stage.TheVariants.{Body}
use Rattle.w_segment.specs.Shape.{Shape, Level}
use Rattle.w_segment.specs.Link.{Link, top, rest}
use Rattle.w_chain.specs.ClauseLists.{clauses_of}
use Rattle.w_conts.proofs.SerialsAmongSlots.{some_is}
use Rattle.w_reduce.specs.Values.{Val}
use Rattle.w_reduce.specs.Terms.{Rest, rest_of, Layer, Label as InLabel, Frame as InFrame, Handle, Context}
use Rattle.w_reduce.specs.Handlers.{Handler, one_more, here_or, find}
use Rattle.w_stands.specs.Values.{stack, local_vals}
use Rattle.w_stands.specs.Stands.{LevelsAre, label, frame, outermost, StackIs, body, left, fresh, values}
use Rattle.w_switching.specs.Standing.{Chained, only, around}
use Rattle.w_switching.proofs.SegmentsInOthers.{chained_some}

-- ## A segment's own context

-- it has no handle
abbrev pub IsOpen : Context → Type 0
IsOpen [] = ⊤
IsOpen (InLabel below n again rest ∷ e) = IsOpen e
IsOpen (InFrame below n f locals rest ∷ e) = IsOpen e
IsOpen (Handle below hs rest ∷ e) = ⊥

record OwnAround (m : Module) (outer : Context) (behind : Rest) (f q : ℕ) (ls : List Level) (e : Context) : Type 0 where
  own : Context
  is : e ≡ own ++ outer
  opens : IsOpen own
  at : (o : Context) → LevelsAre m o behind f q ls (own ++ o)

-- of levels
own_around : {m : Module} {outer : Context} {behind : Rest} {f q : ℕ} {ls : List Level} {e : Context} → LevelsAre m outer behind f q ls e → OwnAround m outer behind f q ls e
own_around (label {n = n} {below = below} {again = again} {rest = rest} b k g w) =
    let r = own_around w in
    record {
      own = InLabel (stack below) n again rest ∷ r.own;
      is = ap (λ (x : Context). InLabel (stack below) n again rest ∷ x) r.is;
      opens = r.opens;
      at = λ o. label b k g (r.at o);
    }
own_around {f = f} (frame {n = n} {below = below} {locals = locals} {rest = rest} z k w) =
    let r = own_around w in
    record {
      own = InFrame (stack below) n f (local_vals locals) (rest_of rest) ∷ r.own;
      is = ap (λ (x : Context). InFrame (stack below) n f (local_vals locals) (rest_of rest) ∷ x) r.is;
      opens = r.opens;
      at = λ o. frame z k (r.at o);
    }
own_around {behind = behind} {f = f} (outermost {n = n} {below = below} {locals = locals} z) =
    record { own = InFrame (stack below) n f (local_vals locals) behind ∷ []; is = refl; opens = tt; at = λ o. outermost z }

record Own (m : Module) (outer : Context) (behind : Rest) (s : Shape) (e : Context) (r : Rest) : Type 0 where
  own : Context
  is : e ≡ own ++ outer
  opens : IsOpen own
  at : (o : Context) → StackIs m o behind s (own ++ o) r

-- what it is without what stands around it
own_of : {m : Module} {outer : Context} {behind : Rest} {s : Shape} {e : Context} {r : Rest} → StackIs m outer behind s e r → Own m outer behind s e r
own_of (body a k w) = let r = own_around w in record { own = r.own; is = r.is; opens = r.opens; at = λ o. body a k (r.at o) }
own_of (left a k w) = let r = own_around w in record { own = r.own; is = r.is; opens = r.opens; at = λ o. left a k (r.at o) }
own_of (fresh a k) = record { own = []; is = refl; opens = tt; at = λ o. fresh a k }
own_of (values a k) = record { own = []; is = refl; opens = tt; at = λ o. values a k }

-- ## Finding past it

module _ {A : Type 0} where
  -- with more layers inside
  before : Context → Handler A → Handler A
  before e h = record h { inner = e ++ h.inner }

  -- no layer inside changes nothing
  none_before : (r : Option (Handler A)) → option_map (before []) r ≡ r
  unfolding before
  none_before None = refl
  none_before (Some h) = refl

  -- one layer inside is as well put first
  more_before : (l : Layer) (e : Context) (r : Option (Handler A)) → option_map (one_more l) (option_map (before e) r) ≡ option_map (before (l ∷ e)) r
  unfolding before
  more_before l e None = refl
  more_before l e (Some h) = refl

  -- a search goes past a segment that has no handle of its own
  past : (c : List Clause → Option A) (e o : Context) → IsOpen e → find c (e ++ o) ≡ option_map (before e) (find c o)
  past c [] o h = sym (none_before (find c o))
  past c (InLabel below n again rest ∷ e) o h =
      ap (option_map (one_more (InLabel below n again rest))) (past c e o h) ∙ more_before (InLabel below n again rest) e (find c o)
  past c (InFrame below n f locals rest ∷ e) o h =
      ap (option_map (one_more (InFrame below n f locals rest))) (past c e o h) ∙ more_before (InFrame below n f locals rest) e (find c o)
  past c (Handle below hs rest ∷ e) o h = absurd h

  -- where the innermost handle around a segment has an answer, that is found
  answered : (c : List Clause → Option A) (own : Context) (below : Row Val) (hs : List Clause) (rest : Code) (e : Context) (a : A) → IsOpen own → c hs ≡ Some a →
      find c (own ++ Handle below hs rest ∷ e) ≡ Some (record { inner = own ++ []; below = below; clauses = hs; rest = rest; outer = e; answer = a })
  unfolding before
  answered c own below hs rest e a h q =
      past c own (Handle below hs rest ∷ e) h ∙ ap (λ (z : Option A). option_map (before own) (here_or z below hs rest e (find c e))) q

  -- and else what is found outside
  passed_by : (c : List Clause → Option A) (own : Context) (below : Row Val) (hs : List Clause) (rest : Code) (e : Context) (o : Option (Handler A)) → IsOpen own → c hs ≡ None → find c e ≡ o →
      find c (own ++ Handle below hs rest ∷ e) ≡ option_map (before own) (option_map (one_more (Handle below hs rest)) o)
  passed_by c own below hs rest e o h q f =
      past c own (Handle below hs rest ∷ e) h ∙ ap (λ (z : Option A). option_map (before own) (here_or z below hs rest e (find c e))) q
      ∙ ap (λ (z : Option (Handler A)). option_map (before own) (option_map (one_more (Handle below hs rest)) z)) f

-- ## Cutting

-- layer n answers a, and no layer inside has an answer
pub record IsFirst {A : Type 0} (ask : Link → Option A) (n : ℕ) (a : A) (ys : List Link) : Type 0 where
  pub waiting : Link
  pub stands : slice_get ys n ≡ Some waiting
  pub answers : ask waiting ≡ Some a
  pub inside : All (λ y. ask y ≡ None) (take n ys)

-- the handle that is found, where the first segments stand for the context inside and the others for that around it
pub record Cuts {A : Type 0} (c : List Clause → Option A) (m : Module) (outer : Context) (behind : Rest) (chain : List Link) (e : Context) (vs : Row Val) (r : Rest) (n : ℕ) (a : A) : Type 0 where
  pub handler : Handler A
  pub found : find c e ≡ Some handler
  pub answer_is : handler.answer ≡ a
  pub inner : Chained m [] (rest_of Done) (take (suc n) chain) handler.inner vs r
  pub outside : Chained m outer behind (drop (suc n) chain) handler.outer handler.below (rest_of handler.rest)
  pub waits : (top (drop (suc n) chain)).shape.stage ≡ Body
  pub clauses : clauses_of m (top (drop (suc n) chain)) ≡ handler.clauses

-- of all but the first
all_rest : (P : Link → Type 0) (x : Link) (xs : List Link) → All P (x ∷ xs) → All P xs
all_rest P x xs a = λ k d h. a (suc k) d (omega arith)

-- of the first
all_first : (P : Link → Type 0) (x : Link) (xs : List Link) → All P (x ∷ xs) → P x
all_first P x xs a = a 0 x (omega arith)

module _ {A : Type 0} (c : List Clause → Option A) (m : Module) where
  -- what a segment answers by the clauses at which it waits
  abbrev pub ask : Link → Option A
  ask y = c (clauses_of m y)

  -- the layer that answers first is the handle that is found
  pub cuts : {outer : Context} {behind : Rest} {chain : List Link} {e : Context} {vs : Row Val} {r : Rest} (n : ℕ) (a : A) → Chained m outer behind chain e vs r → IsFirst ask n a (rest chain) →
      Cuts c m outer behind chain e vs r n a
  unfolding before
  cuts n a (only i o) f = absurd (let s = f.stands in cc)
  cuts zero a (around {x = x} {y = y} {xs = xs} {e = e} {e' = e'} {below = below} {hs = hs} {c = code} i o g b k) f =
      let w = own_of i in
      let is : y ≡ f.waiting = some_is f.stands in
      let q : c hs ≡ Some a = ap c (sym g) ∙ ap (λ (z : Link). c (clauses_of m z)) is ∙ f.answers in
      record {
        handler = record { inner = w.own ++ []; below = below; clauses = hs; rest = code; outer = e'; answer = a };
        found = ap (find c) w.is ∙ answered c w.own below hs code e' a w.opens q;
        answer_is = refl;
        inner = only (w.at []) o;
        outside = k;
        waits = b;
        clauses = g;
      }
  cuts (suc n) a (around {x = x} {y = y} {xs = xs} {e = e} {e' = e'} {below = below} {hs = hs} {c = code} i o g b k) f =
      let w = own_of i in
      let q : c hs ≡ None = ap c (sym g) ∙ all_first (λ y. ask y ≡ None) y (take n xs) f.inside in
      let d = cuts n a k (record { waiting = f.waiting; stands = f.stands; answers = f.answers; inside = all_rest (λ y. ask y ≡ None) y (take n xs) f.inside }) in
      record {
        handler = before w.own (one_more (Handle below hs code) d.handler);
        found = ap (find c) w.is ∙ passed_by c w.own below hs code e' (Some d.handler) w.opens q d.found;
        answer_is = d.answer_is;
        inner = around (w.at (Handle below hs code ∷ d.handler.inner)) o g b d.inner;
        outside = d.outside;
        waits = d.waits;
        clauses = d.clauses;
      }

  -- where no layer has an answer none is found
  pub no_layer : {outer : Context} {behind : Rest} {chain : List Link} {e : Context} {vs : Row Val} {r : Rest} → Chained m outer behind chain e vs r → find c outer ≡ None →
      All (λ y. ask y ≡ None) (rest chain) → find c e ≡ None
  unfolding before
  no_layer {outer = outer} (only i o) z f = let w = own_of i in ap (find c) w.is ∙ past c w.own outer w.opens ∙ ap (option_map (before w.own)) z
  no_layer (around {x = x} {y = y} {xs = xs} {e = e} {e' = e'} {below = below} {hs = hs} {c = code} i o g b k) z f =
      let w = own_of i in
      let q : c hs ≡ None = ap c (sym g) ∙ all_first (λ y. ask y ≡ None) y xs f in
      ap (find c) w.is ∙ passed_by c w.own below hs code e' None w.opens q (no_layer k z (all_rest (λ y. ask y ≡ None) y xs f))

-- the layer is one of the chain's
pub layer_below : {A : Type 0} {c : List Clause → Option A} {m : Module} {outer : Context} {behind : Rest} {chain : List Link} {e : Context} {vs : Row Val} {r : Rest} {n : ℕ} {a : A} →
    Cuts c m outer behind chain e vs r n a → n + 1 < length chain
layer_below {chain = chain} {n = n} c = let s = chained_some c.outside in let d = length-drop (suc n) chain in omega (arith, s, d)
