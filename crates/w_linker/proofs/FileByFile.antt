-- The segments of one file more.
use Rattle.std.proofs.Common.{◌≡◌, ℕ, suc, ◌+◌, ◌<◌, List, ◌∷◌, length, drop, get_or, Option, Some, None, sym, ap, ◌∙◌}
use Rattle.std.proofs.lemmas.List.{drop_more}
use Rattle.w_tables.specs.Store as instances
use Rattle.w_reduce.specs.declared.trap.Trap.{Trap}
use Rattle.w_reduce.specs.declared.trap.Trap.TheVariants as trap
use Rattle.w_reduce.specs.Program.{Program}
use Rattle.w_reduce.specs.Store.{Store}
use Rattle.w_stands.specs.Values.{store_of}
use Rattle.w_linked.specs.Starting.{Copied, traps, and_datas, and_elements}
use Rattle.w_linker.specs.declared.starting.Sizes.{Sizes}
use Rattle.w_linker.specs.Segments.{datas_started, parts_copied, FileStarted}

module _ (p : Program) (f y z : ℕ) (s : Store) (new : instances.Store) where
  -- what is done once these are started
  abbrev after_elements : Sizes → List Sizes → Store → Copied
  after_elements x xs t = and_datas f (datas_started p z x.datas t) (λ u. parts_copied p (suc f) (y + x.elements) (z + x.datas) xs u)

  trapped_first : (x : Sizes) (xs : List Sizes) (t : Trap) → FileStarted p y z x s (Some t) new → parts_copied p f y z (x ∷ xs) s ≡ traps f t
  trapped_first x xs trap.TableOutOfBounds h = ap (λ (o : Option Store). and_elements f o (after_elements x xs)) h
  trapped_first x xs trap.MemoryOutOfBounds h =
      ap (λ (o : Option Store). and_elements f o (after_elements x xs)) h.1
      ∙ ap (λ (o : Option Store). and_datas f o (λ u. parts_copied p (suc f) (y + x.elements) (z + x.datas) xs u)) h.2
  trapped_first x xs _ h = absurd h

  -- one of the file at this place passes an end
  pub trapped_here : (xs : List Sizes) (i : ℕ) (d : Sizes) (t : Trap) → i < length xs → FileStarted p y z (get_or xs i d) s (Some t) new → parts_copied p f y z (drop i xs) s ≡ traps f t
  trapped_here xs i d t lt h = ap (λ (l : List Sizes). parts_copied p f y z l s) (drop_more xs i d lt) ∙ trapped_first (get_or xs i d) (drop (i + 1) xs) t h

  -- or none does
  pub started_here : (xs : List Sizes) (i : ℕ) (d : Sizes) (f' y' z' : ℕ) → i < length xs → f' ≡ suc f → y' ≡ y + (get_or xs i d).elements → z' ≡ z + (get_or xs i d).datas
      → FileStarted p y z (get_or xs i d) s None new → parts_copied p f' y' z' (drop (i + 1) xs) (store_of new) ≡ parts_copied p f y z (drop i xs) s
  started_here xs i d f' y' z' lt ef ey ez h =
      let x = get_or xs i d in
      let rest = drop (i + 1) xs in
      let goes : parts_copied p f y z (x ∷ rest) s ≡ parts_copied p (suc f) (y + x.elements) (z + x.datas) rest (store_of new) =
      ap (λ (o : Option Store). and_elements f o (after_elements x rest)) h.1
      ∙ ap (λ (o : Option Store). and_datas f o (λ u. parts_copied p (suc f) (y + x.elements) (z + x.datas) rest u)) h.2 in
      ap (λ (k : ℕ). parts_copied p k y' z' rest (store_of new)) ef
      ∙ ap (λ (k : ℕ). parts_copied p (suc f) k z' rest (store_of new)) ey
      ∙ ap (λ (k : ℕ). parts_copied p (suc f) (y + x.elements) k rest (store_of new)) ez
      ∙ sym goes ∙ ap (λ (l : List Sizes). parts_copied p f y z l s) (sym (drop_more xs i d lt))
