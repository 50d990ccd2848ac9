-- The lines that led to a state, and what is kept on the way.
use Rattle.std.proofs.Common.{◌≡◌, ℕ, suc, ◌<◌, ◌≤◌, Bool, true, false, cond, List, [], ◌∷◌, ◌++◌, length, Option, Some, None, refl, sym, ap, subst, ◌∙◌, append_assoc, arith}
use Rattle.std.specs.Prelude.{⊤, nat_le}
use Rattle.std.specs.List.{flat_map}
use Rattle.std.proofs.lemmas.List.{append-nil, length-append}
use Rattle.std.proofs.lemmas.Grind.{flat_map-append}
use Rattle.std.proofs.lemmas.Bool.{leb-true}
use Rattle.w_syntax.specs.declared.module.Func.{Func}
use Rattle.w_syntax.specs.declared.module.Module.{Module}
use Rattle.w_syntax.specs.Module.{empty_module}
use Rattle.w_lines.specs.declared.line.Line.{Line}
use Rattle.w_lines.specs.declared.line.Line.TheVariants as line
use Rattle.w_text.specs.declared.item.Item.{Item}
use Rattle.w_text.specs.declared.item.Item.TheVariants.{Group, Imported, TableItem, Memory, TagItem, Global, Exported, Start, Elements, Bytes, Function}
use Rattle.w_text.specs.Items.{item_lines, function_items, lists, joined_lists, items}
use Rattle.w_text.specs.Machine.{Open, Between, InGroup, InLocals, InExprs, Next, Opens, Gives, Refuses, rank, rank_after, add, next, State, Fresh, Reading, open_rank, placed, opening, step, run, run_on}
use Rattle.w_text.proofs.Lists.{EmptyFrom, grows, still_empty, empty_later, NoStart, lists_add, how_many_lists}
use Rattle.w_text.proofs.Told.{open_lines, FewJoined, OpenFits, ItemFits, Told, next_told}

-- the lines so far
unfoldable pub so_far : State → List Line
so_far Fresh = []
so_far (Reading k m o) = line.Module ∷ (flat_map item_lines (items m) ++ open_lines o)

abbrev pub EachFew : List Func → Type 0
EachFew [] = ⊤
EachFew (f ∷ fs) = FewJoined f.locals × EachFew fs

-- what holds of a module whose items so far stand at places up to k
pub record PlacesFit (k : ℕ) (m : Module) : Type 0 where
  pub paired : length m.functions ≡ length m.codes
  pub behind : EmptyFrom (suc k) (lists m)
  pub no_start : k ≤ 7 → m.start ≡ None
  pub locals : EachFew m.codes

abbrev pub StateFits : State → Type 0
StateFits Fresh = ⊤
StateFits (Reading k m o) = PlacesFit k m × OpenFits o × (k ≡ open_rank o k)

-- ## One item more

each_few_more : (fs : List Func) (f : Func) → EachFew fs → FewJoined f.locals → EachFew (fs ++ f ∷ [])
each_few_more [] f h g = (g, tt)
each_few_more (e ∷ fs) f h g = (h.0, each_few_more fs f h.1 g)

one_longer : {A B : Type 0} (xs : List A) (ys : List B) (x : A) (y : B) → length xs ≡ length ys → length (xs ++ x ∷ []) ≡ length (ys ++ y ∷ [])
one_longer xs ys x y e = omega (arith, e, length-append xs (x ∷ []), length-append ys (y ∷ []))

record Kept (k : ℕ) (m : Module) : Type 0 where
  paired : length m.functions ≡ length m.codes
  no_start : k ≤ 7 → m.start ≡ None
  locals : EachFew m.codes

kept : (it : Item) (k : ℕ) (m : Module) → k ≤ rank it → PlacesFit k m → ItemFits it → Kept (rank_after it) (add it m)
kept (Group g) k m le f i = record { paired = f.paired; no_start = λ h. f.no_start (omega arith); locals = f.locals }
kept (Imported x) k m le f i = record { paired = f.paired; no_start = λ h. f.no_start (omega arith); locals = f.locals }
kept (TableItem t) k m le f i = record { paired = f.paired; no_start = λ h. f.no_start (omega arith); locals = f.locals }
kept (Memory l) k m le f i = record { paired = f.paired; no_start = λ h. f.no_start (omega arith); locals = f.locals }
kept (TagItem t) k m le f i = record { paired = f.paired; no_start = λ h. f.no_start (omega arith); locals = f.locals }
kept (Global g) k m le f i = record { paired = f.paired; no_start = λ h. f.no_start (omega arith); locals = f.locals }
kept (Exported e) k m le f i = record { paired = f.paired; no_start = λ h. f.no_start (omega arith); locals = f.locals }
kept (Start x) k m le f i = record { paired = f.paired; no_start = λ h. absurd (omega (arith, h)); locals = f.locals }
kept (Elements e) k m le f i = record { paired = f.paired; no_start = λ h. absurd (omega (arith, h)); locals = f.locals }
kept (Bytes d) k m le f i = record { paired = f.paired; no_start = λ h. absurd (omega (arith, h)); locals = f.locals }
kept (Function x c) k m le f i = record {
  paired = one_longer m.functions m.codes x c f.paired;
  no_start = λ h. absurd (omega (arith, h));
  locals = each_few_more m.codes c f.locals i;
}

no_start_yet : (it : Item) (k : ℕ) (m : Module) → k ≤ rank it → PlacesFit k m → NoStart it m
no_start_yet (Group g) k m le f = tt
no_start_yet (Imported x) k m le f = tt
no_start_yet (TableItem t) k m le f = tt
no_start_yet (Memory l) k m le f = tt
no_start_yet (TagItem t) k m le f = tt
no_start_yet (Global g) k m le f = tt
no_start_yet (Exported e) k m le f = tt
no_start_yet (Start x) k m le f = f.no_start le
no_start_yet (Elements e) k m le f = tt
no_start_yet (Bytes d) k m le f = tt
no_start_yet (Function x c) k m le f = tt

rank_small : (it : Item) → rank it < 11
rank_small (Group g) = omega arith
rank_small (Imported x) = omega arith
rank_small (TableItem t) = omega arith
rank_small (Memory l) = omega arith
rank_small (TagItem t) = omega arith
rank_small (Global g) = omega arith
rank_small (Exported e) = omega arith
rank_small (Start x) = omega arith
rank_small (Elements e) = omega arith
rank_small (Bytes d) = omega arith
rank_small (Function x c) = omega arith

rank_on : (it : Item) → rank it ≤ rank_after it
rank_on (Group g) = omega arith
rank_on (Imported x) = omega arith
rank_on (TableItem t) = omega arith
rank_on (Memory l) = omega arith
rank_on (TagItem t) = omega arith
rank_on (Global g) = omega arith
rank_on (Exported e) = omega arith
rank_on (Start x) = omega arith
rank_on (Elements e) = omega arith
rank_on (Bytes d) = omega arith
rank_on (Function x c) = omega arith

-- the items of the module with one more
items_add : (it : Item) (k : ℕ) (m : Module) → k ≤ rank it → PlacesFit k m → items (add it m) ≡ items m ++ it ∷ []
items_add it k m le f =
    ap joined_lists (lists_add it m f.paired (no_start_yet it k m le f))
    ∙ grows (rank it) it (lists m) (omega (arith, rank_small it, how_many_lists m)) (empty_later (suc (rank it)) (suc k) (lists m) (omega arith) f.behind)

add_fits : (it : Item) (k : ℕ) (m : Module) → k ≤ rank it → PlacesFit k m → ItemFits it → PlacesFit (rank_after it) (add it m)
add_fits it k m le f i =
    let kept = kept it k m le f i in
    let there = still_empty (rank it) it (lists m) (empty_later (suc (rank it)) (suc k) (lists m) (omega arith) f.behind) in
    let same = subst (λ (l : List (List Item)). EmptyFrom (suc (rank it)) l) (sym (lists_add it m f.paired (no_start_yet it k m le f))) there in
    record {
      paired = kept.paired;
      behind = empty_later (suc (rank_after it)) (suc (rank it)) (lists (add it m)) (omega (arith, rank_on it)) same;
      no_start = kept.no_start;
      locals = kept.locals;
    }

-- ## One line more

cond_some : {A : Type 0} (b : Bool) (x y : A) → cond b (Some x) None ≡ Some y → (b ≡ true) × (x ≡ y)
cond_some true x y e = (refl, cc)
cond_some false x y e = absurd cc

rank_stays : (o : Open) (k : ℕ) → open_rank o k ≡ open_rank o (open_rank o k)
rank_stays Between k = refl
rank_stays (InGroup n ts) k = refl
rank_stays (InLocals x ls) k = refl
rank_stays (InExprs h n cs p c) k = refl

abbrev pub Led : List Line → State → Type 0
Led ls t = (so_far t ≡ ls) × StateFits t

-- the lines of the items, and one item more
item_line : (it : Item) (k : ℕ) (m : Module) (ls : List Line) → k ≤ rank it → PlacesFit k m → item_lines it ≡ ls → so_far (Reading (rank_after it) (add it m) Between) ≡ line.Module ∷ (flat_map item_lines (items m) ++ ls)
unfolding so_far open_lines
item_line it k m ls le f e =
    ap (λ (l : List Line). line.Module ∷ l)
    (append-nil (flat_map item_lines (items (add it m)))
    ∙ ap (λ (l : List Item). flat_map item_lines l) (items_add it k m le f)
    ∙ flat_map-append item_lines (items m) (it ∷ [])
    ∙ ap (λ (l : List Line). flat_map item_lines (items m) ++ l) (append-nil (item_lines it) ∙ e))

placed_told : (k : ℕ) (m : Module) (ls : List Line) (n : Next) (t : State) → PlacesFit k m → Told ls n → placed k m n ≡ Some t → Led (line.Module ∷ (flat_map item_lines (items m) ++ ls)) t
unfolding so_far
placed_told k m ls (Opens o) t f h e =
    let c = cond_some (nat_le k (open_rank o k)) (Reading (open_rank o k) m o) t e in
    let le : k ≤ open_rank o k = leb-true k (open_rank o k) c.0 in
    subst (Led (line.Module ∷ (flat_map item_lines (items m) ++ ls))) c.1 (
      ap (λ (l : List Line). line.Module ∷ (flat_map item_lines (items m) ++ l)) h.0,
      (
        record { paired = f.paired; behind = empty_later (suc (open_rank o k)) (suc k) (lists m) (omega arith) f.behind; no_start = λ w. f.no_start (omega arith); locals = f.locals },
        h.1,
        rank_stays o k,
      ),
    )
placed_told k m ls (Gives it) t f h e =
    let c = cond_some (nat_le k (rank it)) (Reading (rank_after it) (add it m) Between) t e in
    let le : k ≤ rank it = leb-true k (rank it) c.0 in
    subst (Led (line.Module ∷ (flat_map item_lines (items m) ++ ls))) c.1 (item_line it k m ls le f h.0, (add_fits it k m le f h.1, tt, refl))
placed_told k m ls Refuses t f h e = absurd cc

infixr 10 ◌&◌
abbrev ◌&◌ : {P Q : Type 0} → P → Q → P × Q
p & q = (p, q)

empty_fits : PlacesFit 0 empty_module
unfolding lists EmptyFrom function_items
empty_fits = record { paired = refl; behind = refl & refl & refl & refl & refl & refl & refl & refl & refl & refl & tt; no_start = λ h. refl; locals = tt }

nothing_yet : so_far (Reading 0 empty_module Between) ≡ line.Module ∷ []
unfolding so_far open_lines lists joined_lists function_items
nothing_yet = refl

opened_by : (l : Line) (t : State) → opening l ≡ Some t → Led (l ∷ []) t
opened_by line.Module t e = let same : Reading 0 empty_module Between ≡ t = cc in subst (Led (line.Module ∷ [])) same (nothing_yet, (empty_fits, tt, refl))
opened_by (line.Group k) t e = absurd cc
opened_by (line.Type u) t e = absurd cc
opened_by (line.Import i) t e = absurd cc
opened_by (line.Table u b) t e = absurd cc
opened_by (line.Memory l) t e = absurd cc
opened_by (line.Tag u) t e = absurd cc
opened_by (line.Global g) t e = absurd cc
opened_by (line.Export x) t e = absurd cc
opened_by (line.Start x) t e = absurd cc
opened_by (line.Elements m r k) t e = absurd cc
opened_by (line.Data o b) t e = absurd cc
opened_by (line.Function x) t e = absurd cc
opened_by (line.Local l) t e = absurd cc
opened_by (line.Token u) t e = absurd cc

pub step_told : (s : State) (l : Line) (t : State) → StateFits s → step s l ≡ Some t → Led (so_far s ++ l ∷ []) t
unfolding step so_far
step_told Fresh l t f e = opened_by l t e
step_told (Reading k m o) l t f e =
    subst (λ (ls : List Line). Led (line.Module ∷ ls) t) (sym (append_assoc (flat_map item_lines (items m)) (open_lines o) (l ∷ [])))
    (placed_told k m (open_lines o ++ l ∷ []) (next o l) t f.0 (next_told o l f.1) e)

ran_on : (f : State → Option State) (o : Option State) (t : State) → run_on f o ≡ Some t → (s : State) × (o ≡ Some s) × (f s ≡ Some t)
ran_on f None t e = absurd cc
ran_on f (Some s) t e = (s, refl, e)

-- a state that lines lead to
pub run_told : (ls : List Line) (s t : State) → StateFits s → run s ls ≡ Some t → Led (so_far s ++ ls) t
unfolding run
run_told [] s t f e = let same : s ≡ t = cc in subst (Led (so_far s ++ [])) same (sym (append-nil (so_far s)), f)
run_told (l ∷ ls) s t f e =
    let a = ran_on (λ u. run u ls) (step s l) t e in
    let b = step_told s l a.0 f a.1 in
    let c = run_told ls a.0 t b.1 a.2 in
    subst (λ (k : List Line). Led k t) (ap (λ (k : List Line). k ++ ls) b.0 ∙ append_assoc (so_far s) (l ∷ []) ls) c
