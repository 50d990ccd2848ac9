-- The lists of a module with one more item.
use Rattle.std.specs.Prelude.{⊤}
use Rattle.std.proofs.Common.{◌≡◌, ℕ, zero, suc, ◌<◌, ◌≤◌, List, [], ◌∷◌, ◌++◌, length, None, refl, sym, ap, ◌∙◌, append_assoc, arith}
use Rattle.std.proofs.lemmas.List.{append-nil, map-append}
use Rattle.w_syntax.specs.declared.module.Module.{Module}
use Rattle.w_syntax.specs.declared.module.Func.{Func}
use Rattle.w_text.specs.declared.item.Item.{Item}
use Rattle.w_text.specs.declared.item.Item.TheVariants.{Group, Imported, TableItem, Memory, TagItem, Global, Exported, Start, Elements, Bytes, Function}
use Rattle.w_text.specs.Items.{function_items, lists, joined_lists}
use Rattle.w_text.specs.Machine.{rank, add}

-- one more at the end of the list at place k
unfoldable pub append_at : ℕ → Item → List (List Item) → List (List Item)
append_at k x [] = []
append_at zero x (l ∷ ls) = (l ++ x ∷ []) ∷ ls
append_at (suc k) x (l ∷ ls) = l ∷ append_at k x ls

-- the lists from place k on are empty
unfoldable pub EmptyFrom : ℕ → List (List Item) → Type 0
EmptyFrom k [] = ⊤
EmptyFrom zero (l ∷ ls) = (l ≡ []) × EmptyFrom zero ls
EmptyFrom (suc k) (l ∷ ls) = EmptyFrom k ls

all_empty : (ls : List (List Item)) → EmptyFrom zero ls → joined_lists ls ≡ []
unfolding EmptyFrom joined_lists
all_empty [] h = refl
all_empty (l ∷ ls) h = rw (h.0, all_empty ls h.1) refl

-- what stands behind the last item stands behind all
pub grows : (k : ℕ) (x : Item) (ls : List (List Item)) → k < length ls → EmptyFrom (suc k) ls → joined_lists (append_at k x ls) ≡ joined_lists ls ++ x ∷ []
unfolding EmptyFrom joined_lists append_at
grows k x [] lt h = absurd (omega arith)
grows zero x (l ∷ ls) lt h = rw (all_empty ls h) (append-nil (l ++ x ∷ []) ∙ ap (λ (k : List Item). k ++ x ∷ []) (sym (append-nil l)))
grows (suc k) x (l ∷ ls) lt h = ap (λ (v : List Item). l ++ v) (grows k x ls (omega arith) h) ∙ sym (append_assoc l (joined_lists ls) (x ∷ []))

pub still_empty : (k : ℕ) (x : Item) (ls : List (List Item)) → EmptyFrom (suc k) ls → EmptyFrom (suc k) (append_at k x ls)
unfolding EmptyFrom append_at
still_empty k x [] h = tt
still_empty zero x (l ∷ ls) h = h
still_empty (suc k) x (l ∷ ls) h = still_empty k x ls h

pub empty_later : (j k : ℕ) (ls : List (List Item)) → k ≤ j → EmptyFrom k ls → EmptyFrom j ls
unfolding EmptyFrom
empty_later j k [] le h = tt
empty_later zero zero (l ∷ ls) le h = h
empty_later zero (suc k) (l ∷ ls) le h = absurd (omega arith)
empty_later (suc j) zero (l ∷ ls) le h = empty_later j zero ls (omega arith) h.1
empty_later (suc j) (suc k) (l ∷ ls) le h = empty_later j k ls (omega arith) h

pub functions_append : (xs : List ℕ) (fs : List Func) (x : ℕ) (f : Func) → length xs ≡ length fs → function_items (xs ++ x ∷ []) (fs ++ f ∷ []) ≡ function_items xs fs ++ Function x f ∷ []
unfolding function_items
functions_append [] [] x f e = refl
functions_append [] (g ∷ fs) x f e = absurd (omega (arith, e))
functions_append (y ∷ xs) [] x f e = absurd (omega (arith, e))
functions_append (y ∷ xs) (g ∷ fs) x f e = ap (λ (l : List Item). Function y g ∷ l) (functions_append xs fs x f (omega (arith, e)))

abbrev pub NoStart : Item → Module → Type 0
NoStart (Start x) m = m.start ≡ None
NoStart it m = ⊤

-- an item more is one more in its list
pub lists_add : (it : Item) (m : Module) → length m.functions ≡ length m.codes → NoStart it m → lists (add it m) ≡ append_at (rank it) it (lists m)
unfolding lists append_at
lists_add (Group g) m e h = rw (map-append Group m.types (g ∷ [])) refl
lists_add (Imported i) m e h = rw (map-append Imported m.imports (i ∷ [])) refl
lists_add (TableItem t) m e h = rw (map-append TableItem m.tables (t ∷ [])) refl
lists_add (Memory l) m e h = rw (map-append Memory m.memories (l ∷ [])) refl
lists_add (TagItem t) m e h = rw (map-append TagItem m.tags (t ∷ [])) refl
lists_add (Global g) m e h = rw (map-append Global m.globals (g ∷ [])) refl
lists_add (Exported x) m e h = rw (map-append Exported m.exports (x ∷ [])) refl
lists_add (Start x) m e h = rw h refl
lists_add (Elements x) m e h = rw (map-append Elements m.elements (x ∷ [])) refl
lists_add (Bytes d) m e h = rw (map-append Bytes m.datas (d ∷ [])) refl
lists_add (Function x f) m e h = rw (functions_append m.functions m.codes x f e) refl

pub how_many_lists : (m : Module) → length (lists m) ≡ 11
unfolding lists
how_many_lists m = refl
