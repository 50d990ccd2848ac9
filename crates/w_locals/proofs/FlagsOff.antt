-- Which locals are there and not set.
use Rattle.std.proofs.Common.{◌≡◌, ℕ, zero, suc, Bool, true, false, not, ◌&&◌, ◌||◌, List, [], ◌∷◌, ◌++◌, map, replicate, slice_get, Option, Some, None, if◌then◌else◌, refl, sym, ap, ◌∙◌, subst}
use Rattle.std.specs.List.{list_all}
use Rattle.std.specs.Option.{option_map}
use Rattle.std.proofs.lemmas.Option.{slice_get-map}
use Rattle.w_types.specs.declared.types.ValType.{ValType}
use Rattle.w_syntax.specs.declared.locals.LocalRun.{LocalRun}
use Rattle.w_rules.specs.Bodies.{types_of_runs, has_default, set_first}
use Rattle.w_rules.specs.InstructionTypes.{get_type}
use Rattle.w_rules.specs.Spaces.{marked}
use Rattle.w_locals.specs.Locals.{Declared, LocalState, types_in, first_in, first_set, gives_type, is_logged, is_off, is_set_run, set_in_first, snapshots}
use Rattle.w_locals.proofs.InitLog.{flag_by_log, stays_set, with}

-- ## Where the body begins

-- no local is unset, where the type of those of the first run has a default value and none behind them is
off_in : (n : ℕ) (t : ValType) (ts : List ValType) → has_default t ≡ true → ((x : ℕ) → is_off (slice_get (map has_default ts) x) ≡ false)
    → (x : ℕ) → is_off (slice_get (map has_default (replicate n t ++ ts)) x) ≡ false
off_in zero t ts d rest x = rest x
off_in (suc n) t ts d rest zero = ap not d
off_in (suc n) t ts d rest (suc x) = off_in n t ts d rest x

-- both tests of two hold
both_hold : (a b : Bool) → (a && b) ≡ true → (a ≡ true) × (b ≡ true)
both_hold true b h = (refl, h)
both_hold false b h = absurd (cc)

runs_never_off : (rs : List LocalRun) → list_all is_set_run rs ≡ true → (x : ℕ) → is_off (slice_get (map has_default (types_of_runs rs)) x) ≡ false
runs_never_off [] h x = refl
runs_never_off (r ∷ rs) h x =
    let both = both_hold (is_set_run r) (list_all is_set_run rs) h in
    off_in r.count r.kind (types_of_runs rs) both.0 (runs_never_off rs both.1) x

-- none is unset where the types of all runs have default values
pub never_off : (ps : List ValType) (rs : List LocalRun) (x : ℕ) → list_all is_set_run rs ≡ true → is_off (slice_get (set_first ps rs) x) ≡ false
never_off [] rs x h = runs_never_off rs h x
never_off (p ∷ ps) rs zero h = refl
never_off (p ∷ ps) rs (suc x) h = never_off ps rs x h

-- each local is set or not
flag_there : (ps : List ValType) (rs : List LocalRun) (x : ℕ) (t : ValType) → slice_get (ps ++ types_of_runs rs) x ≡ Some t
    → (b : Bool) × (slice_get (set_first ps rs) x ≡ Some b)
flag_there [] rs x t h = (has_default t, slice_get-map has_default (types_of_runs rs) x ∙ ap (option_map has_default) h)
flag_there (p ∷ ps) rs zero t h = (true, refl)
flag_there (p ∷ ps) rs (suc x) t h = flag_there ps rs x t h

-- ## By the log

-- what is not off stays as it is where it is set
pub set_not_off : (n : List (List Bool)) (x : ℕ) → is_off (slice_get (first_set n) x) ≡ false → n ≡ set_in_first x n
set_not_off [] x h = refl
set_not_off (s ∷ ss) x h = ap (λ (t : List Bool). t ∷ ss) (sym (stays_set s x (λ e. (let off : is_off (slice_get s x) ≡ true = ap is_off e in absurd (cc)))))

still_on : (a : Bool) (o : Option Bool) → is_off o ≡ false → is_off (with a o) ≡ false
still_on a None h = refl
still_on a (Some true) h = refl
still_on a (Some false) h = absurd (cc)

off_unless : (a : Bool) (o : Option Bool) → is_off o ≡ true → is_off (with a o) ≡ not a
off_unless a None h = absurd (cc)
off_unless a (Some true) h = absurd (cc)
off_unless a (Some false) h = refl

off_alone : (a : Bool) (o : Option Bool) → is_off (with a o) ≡ true → a ≡ false
off_alone true None h = absurd (cc)
off_alone true (Some true) h = absurd (cc)
off_alone true (Some false) h = absurd (cc)
off_alone false o h = refl

-- the blocks that are open, if any are
abbrev pub here : Bool → List Bool → List ℕ → List ℕ → List (List Bool)
here gone s log marks = if gone then [] else snapshots s log marks

module _ (gone : Bool) (s : List Bool) (log marks : List ℕ) (x : ℕ) (n : List (List Bool)) where
  -- what is not off at first is not off later
  pub never_unset : here gone s log marks ≡ n → is_off (slice_get s x) ≡ false → false ≡ is_off (slice_get (first_set n) x)
  never_unset v h = sym (by gone refl) ∙ ap (λ (m : List (List Bool)). is_off (slice_get (first_set m) x)) v
    where
      by : (g : Bool) → g ≡ gone → is_off (slice_get (first_set (here g s log marks)) x) ≡ false
      by true e = refl
      by false e = ap is_off (flag_by_log s log x) ∙ still_on (is_logged log x) (slice_get s x) h

  -- what is off at first is off where the log does not have it
  pub unset_by_log : here gone s log marks ≡ n → gone ≡ false → is_off (slice_get s x) ≡ true → not (is_logged log x) ≡ is_off (slice_get (first_set n) x)
  unset_by_log v e h =
      sym (ap is_off (flag_by_log s log x) ∙ off_unless (is_logged log x) (slice_get s x) h)
      ∙ ap (λ (g : Bool). is_off (slice_get (first_set (here g s log marks)) x)) (sym e)
      ∙ ap (λ (m : List (List Bool)). is_off (slice_get (first_set m) x)) v

  -- the log has none that is off
  pub off_unlogged : here gone s log marks ≡ n → is_off (slice_get (first_set n) x) ≡ true → is_logged log x ≡ false
  off_unlogged v h = by gone (ap (λ (m : List (List Bool)). is_off (slice_get (first_set m) x)) v ∙ h)
    where
      by : (g : Bool) → is_off (slice_get (first_set (here g s log marks)) x) ≡ true → is_logged log x ≡ false
      by true k = absurd (cc)
      by false k = off_alone (is_logged log x) (slice_get s x) (ap is_off (sym (flag_by_log s log x)) ∙ k)

-- ## The type of a local that is set

typed_on : (t : ValType) (b : Bool) → not b ≡ false → get_type (Some t) (Some b) ≡ gives_type (Some t)
typed_on t true h = refl
typed_on t false h = absurd (cc)

-- where the body has not ended
got_open : (d : Declared) (log : List ℕ) (x : ℕ) (r : Option ValType) → is_off (slice_get (marked (first_in d) log) x) ≡ false → slice_get (types_in d) x ≡ r
    → get_type (slice_get (types_in d) x) (slice_get (marked (first_in d) log) x) ≡ gives_type r
got_open d log x None off t = ap (λ (o : Option ValType). get_type o (slice_get (marked (first_in d) log) x)) t
got_open d log x (Some u) off t =
    let there = flag_there d.params d.runs x u t in
    let flag : slice_get (marked (first_in d) log) x ≡ Some (there.0 || is_logged log x) = flag_by_log (first_in d) log x ∙ ap (with (is_logged log x)) there.1 in
    ap (λ (o : Option ValType). get_type o (slice_get (marked (first_in d) log) x)) t ∙ ap (get_type (Some u)) flag
    ∙ typed_on u (there.0 || is_logged log x) (ap is_off (sym flag) ∙ off)

pub got : (gone : Bool) (d : Declared) (log marks : List ℕ) (x : ℕ) (n : LocalState) (r : Option ValType)
    → record { types = types_in d; sets = here gone (first_in d) log marks } ≡ n → gone ≡ false
    → is_off (slice_get (first_set n.sets) x) ≡ false → slice_get n.types x ≡ r → get_type (slice_get n.types x) (slice_get (first_set n.sets) x) ≡ gives_type r
got gone d log marks x n r v e =
    let P : LocalState → Type 0 = λ m. is_off (slice_get (first_set m.sets) x) ≡ false → slice_get m.types x ≡ r → get_type (slice_get m.types x) (slice_get (first_set m.sets) x) ≡ gives_type r in
    subst P v (subst (λ (g : Bool). P (record { types = types_in d; sets = here g (first_in d) log marks })) (sym e) (got_open d log x r))
