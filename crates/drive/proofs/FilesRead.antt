-- From modules that were read of some names to what the names give.
use Rattle.std.proofs.Common.{◌≡◌, ◌<◌, ◌≤◌, ◌+◌, ◌∙◌, inl, inr, sym, ap, subst, drop, get_or, length, Bool, ℕ, List, [], ◌∷◌, ◌++◌, Result, Ok, Err, arith}
use Rattle.std.specs.Prelude.{IfErr, IsErrAnd}
use Rattle.std.specs.Borrow.{Bor}
use Rattle.std.proofs.lemmas.List.{drop_more, drop_all, get_or-map, length-map}
use Rattle.w_outside.specs.Outside.{Known, Rose}
use Rattle.w_syntax.specs.declared.module.Module.{Module}
use Rattle.w_rules.specs.Limits.{Within}
use Rattle.w_rules.specs.Valid.{Valid}
use Rattle.replies.specs.Answer.{Reply, FileGives, FilesGive, NamesGive, in_file, limit_files, limit_input, most_files}
use Rattle.replies.specs.declared.stop.Stop.{Stop}
use Rattle.replies.specs.Stop.{Refuses}
use Rattle.intake.specs.Reading.{MayBe, ModuleFileRefusal}
use Rattle.runs.specs.Delivery.{MayFail}
use Rattle.drive.specs.Linking.{AreRead, AreRefused, ReadTo, names_of}
use Rattle.traces.proofs.ReadFiles.{on_file, refusal_on_file}

-- the next name, and those behind it
pub next_name : (names : List (Bor (List ℕ))) (i : ℕ) (d : Bor (List ℕ)) → i < length names → drop i (names_of names) ≡ (get_or names i d).now ∷ drop (i + 1) (names_of names)
next_name names i d lt =
    drop_more (names_of names) i d.now (omega (arith, lt, length-map names (λ (name : Bor (List ℕ)). name.now)))
    ∙ ap (λ (x : List ℕ). x ∷ drop (i + 1) (names_of names)) (get_or-map (λ (name : Bor (List ℕ)). name.now) names i d d.now lt)

-- no name is left
pub no_more_names : (names : List (Bor (List ℕ))) (i : ℕ) → length names ≤ i → drop i (names_of names) ≡ []
no_more_names names i le = drop_all i (names_of names) (omega (arith, le, length-map names (λ (name : Bor (List ℕ)). name.now)))

module _ (names : List (List ℕ)) (files : List ℕ → Known) where
  -- a file more
  pub read_more : (i : ℕ) (name : List ℕ) (ms : List Module) (m : Module) → drop i names ≡ name ∷ drop (i + 1) names → ReadTo names files i ms
      → MayBe (files name) m → Within m → Valid m → ReadTo names files (i + 1) (ms ++ m ∷ [])
  read_more i name ms m at read is within valid steps stats r h =
      let Next = λ (n : Module). FilesGive steps stats (ms ++ n ∷ []) (drop (i + 1) names) files in
      read steps stats r (subst (λ (l : List (List ℕ)). FilesGive steps stats ms l files r) (sym at)
      (on_file (in_file (length ms) limit_input) (FileGives (length ms) Next) (files name) is.0 r is.1 is.2 (inl (m, is.3, within, valid, h))))

  -- no name is left
  pub read_all : (i : ℕ) (ms : List Module) → drop i names ≡ [] → ReadTo names files i ms → AreRead names files ms
  read_all i ms none read steps stats r h = read steps stats r (subst (λ (l : List (List ℕ)). FilesGive steps stats ms l files r) (sym none) h)

  -- a file that is refused
  pub refused_at : (i f : ℕ) (name : List ℕ) (ms : List Module) (failed : Type 0) → f ≡ length ms → drop i names ≡ name ∷ drop (i + 1) names → ReadTo names files i ms
      → (r : Reply) → ModuleFileRefusal f (files name) failed r → AreRefused names files failed r
  refused_at i f name ms failed counts at read r h steps stats = by (subst (λ (n : ℕ). ModuleFileRefusal n (files name) failed r) counts h)
    where
      Next : Module → Reply → Type 0
      Next n = FilesGive steps stats (ms ++ n ∷ []) (drop (i + 1) names) files

      whole : MayFail failed (FilesGive steps stats ms (name ∷ drop (i + 1) names) files) r → MayFail failed (FilesGive steps stats [] names files) r
      whole (inl g) = inl (read steps stats r (subst (λ (l : List (List ℕ)). FilesGive steps stats ms l files r) (sym at) g))
      whole (inr g) = inr g

      by : ModuleFileRefusal (length ms) (files name) failed r → MayFail failed (FilesGive steps stats [] names files) r
      by (inl g) = whole (refusal_on_file (in_file (length ms) limit_input) (FileGives (length ms) Next) (files name) failed r g)
      by (inr g) = whole (inl (on_file (in_file (length ms) limit_input) (FileGives (length ms) Next) (files name) g.0 r g.1 g.2 (inr g.3)))

-- a fault of a later call is one of all
pub failed_later : (names : List (List ℕ)) (files : List ℕ → Known) (before between now : ℕ) → before ≤ between → (r : Reply) → AreRefused names files (Rose between now) r → AreRefused names files (Rose before now) r
failed_later names files before between now later r h steps stats = by (h steps stats)
  where
    by : MayFail (Rose between now) (FilesGive steps stats [] names files) r → MayFail (Rose before now) (FilesGive steps stats [] names files) r
    by (inl g) = inl g
    by (inr g) = let rose = g.0 in inr (omega (arith, later, rose), g.1)

-- ## Refusals

pub refused_by : {T : Type 0} (Due : Reply → Type 0) (r : Result T Stop) (s : Stop) → IsErrAnd r (λ e. e ≡ s) → Refuses Due s → IfErr r (Refuses Due)
refused_by Due (Ok x) s is h = tt
refused_by Due (Err e) s is h = subst (Refuses Due) (sym is) h

-- what names give that aren't too many
module _ (names : List (Bor (List ℕ))) (files : List ℕ → Known) (failed : Type 0) (steps : ℕ) (stats : Bool) where
  pub few_names : length names ≤ most_files → (r : Reply) → MayFail failed (FilesGive steps stats [] (names_of names) files) r → MayFail failed (NamesGive steps stats (names_of names) files) r
  few_names few r (inl h) = inl (inl (omega (arith, few, length-map names (λ (name : Bor (List ℕ)). name.now)), h))
  few_names few r (inr h) = inr h

  -- and of those that are
  pub many_names : most_files < length names → (r : Reply) → r ≡ limit_files → MayFail failed (NamesGive steps stats (names_of names) files) r
  many_names many r is = inl (inr (omega (arith, many, length-map names (λ (name : Bor (List ℕ)). name.now)), is))
