-- Reading refuses exactly what is to be refused.
use Rattle.std.proofs.Common.{◌≡◌, ℕ, suc, ◌+◌, ◌-◌, ◌<◌, ◌≤◌, List, [], ◌∷◌, ◌++◌, length, take, drop, Option, Some, refl, sym, ap, subst, ◌∙◌, append_assoc, arith, length-append}
use Rattle.s_syntax.specs.declared.script.Script.{Script}
use Rattle.s_syntax.specs.declared.token.Token.{Token}
use Rattle.s_grammar.specs.Kinds.{kind_of, turn, Opens, Passes}
use Rattle.s_grammar.specs.Reading.{Why, Answer, Refused, Got, Wrong, TooDeep}
use Rattle.s_grammar.specs.Reads.{script}
use Rattle.s_grammar.specs.Syntax.{Spells, ScriptOf}
use Rattle.s_grammar.proofs.DeclarationLaws.{script_laws}
use Rattle.s_grammar.proofs.NamedStatements.{append_none}
use Rattle.s_grammar.proofs.OneScript.{settled, got_parts}
use Rattle.s_grammar.proofs.ReadingLaws.{Begins, RefusedAt, must, Known}
use Rattle.s_grammar.proofs.Walks.{walk}
use Rattle.s_parse.specs.Parsed.{verdict, parsed}
use Rattle.s_parse.specs.Refusal.{BeginsScript, with_end, HasFault, Nests, opened_brackets, closed_brackets, Means}
use Rattle.s_parse.specs.declared.fault.ParseFault.TheVariants as fault
use Rattle.s_parse.proofs.Fronts.{take_drop, same_front, goes_on_same, before, take_front, drop_none}
use Rattle.s_parse.proofs.CountedBrackets.{walk_bounds, walk_counts, one_open, opened_append, closed_append, bounds_all}

module _ (bytes : List ℕ) where
  -- what is spelled begins with each front of its tokens
  begin_by : (k : ℕ) (front x y : List Token) (p : Script) → k ≤ length front → Spells bytes (front ++ x) p → BeginsScript bytes (take k (with_end (front ++ y)))
  begin_by k front x y p l s = (front ++ x, p, drop k (with_end (front ++ x)), s, take_drop k (with_end (front ++ x)) ∙ ap (λ (q : List (Option Token)). q ++ drop k (with_end (front ++ x))) (same_front k front x y l))

  -- no reading is both
  got_refused : {A : Type 0} (x : A) (l : List Token) (w : Why) (m : List Token) → ◌≡◌ {A = Answer A} (Refused w m) (Got x l) → ⊥
  got_refused x l w m e = cc

  -- no script goes on with the token that is refused
  nothing_goes_on : (front rest : List Token) → ((s : List Token) → kind_of s ≡ kind_of rest → script bytes 64 (front ++ s) ≡ Refused Wrong s) → BeginsScript bytes (take (suc (length front)) (with_end (front ++ rest))) → ⊥
  nothing_goes_on front rest again b =
      let g = goes_on_same front rest b.0 b.2 b.4 in
      let s : ScriptOf bytes b.3.0 (front ++ g.0) b.1 = subst (λ (l : List Token). ScriptOf bytes b.3.0 l b.1) g.1 b.3.1 in
      got_refused b.1 [] Wrong g.0 (settled bytes b.3.0 (front ++ g.0) b.1 s (Refused Wrong g.0) (again g.0 g.2) (λ d. d))

  -- none goes on with a token behind a script that is whole
  nothing_after : (front rest : List Token) (p : Script) → (rest ≡ [] → ⊥) → ((s : List Token) → kind_of s ≡ kind_of rest → script bytes 64 (front ++ s) ≡ Got p s) → BeginsScript bytes (take (suc (length front)) (with_end (front ++ rest))) → ⊥
  nothing_after front rest p some again b =
      let g = goes_on_same front rest b.0 b.2 b.4 in
      let s : ScriptOf bytes b.3.0 (front ++ g.0) b.1 = subst (λ (l : List Token). ScriptOf bytes b.3.0 l b.1) g.1 b.3.1 in
      some (g.3.1 (got_parts p b.1 g.0 [] (settled bytes b.3.0 (front ++ g.0) b.1 s (Got p g.0) (again g.0 g.2) (λ d. d))).1)

  -- a token that is wrong, by its front
  wrong_at : (ts front rest : List Token) → ts ≡ front ++ rest → (left : ℕ) → walk 64 front ≡ Some left
      → (BeginsScript bytes (take (suc (length front)) (with_end (front ++ rest))) → ⊥) → ((k : ℕ) → k < length front → BeginsScript bytes (take (suc k) (with_end (front ++ rest)))) → HasFault bytes ts (fault.Parse (length ts - length rest))
  wrong_at ts front rest e left level never so_far =
      subst (λ (l : List Token). HasFault bytes l (fault.Parse (length l - length rest))) (sym e)
      (subst (λ (a : ℕ). HasFault bytes (front ++ rest) (fault.Parse a)) (sym (before front rest)) ((never, so_far), λ k l. walk_bounds front rest 64 left (suc k) level (omega arith)))

  -- the bracket that is one too many has nesting 65
  deep_nests : (front rest : List Token) (u : Token) (left : ℕ) → walk 64 front ≡ Some left → left ≡ 0 → turn u.kind ≡ Opens → Nests (front ++ u ∷ rest) 65 (length front)
  deep_nests front rest u left e z o =
      let w = walk_counts front 64 left e in
      let one = one_open u o in
      subst (λ (l : List Token). opened_brackets l ≡ closed_brackets l + 65) (sym (take_front front rest u)) (omega (arith, opened_append front (u ∷ []), closed_append front (u ∷ []), w, one.0, one.1))

  -- the first such bracket, where a script goes on with it
  deep_at : (ts front rest : List Token) (u : Token) (left : ℕ) → ts ≡ front ++ u ∷ rest → walk 64 front ≡ Some left → left ≡ 0 → turn u.kind ≡ Opens → Begins (ScriptOf bytes 67) (front ++ u ∷ []) → HasFault bytes ts fault.Deep
  deep_at ts front rest u left e level z o q =
      subst (λ (l : List Token). HasFault bytes l fault.Deep) (sym e) (
        length front,
        (omega (arith, length-append front (u ∷ rest)), deep_nests front rest u left level z o, λ k l. walk_bounds front (u ∷ rest) 64 left (suc k) level (omega arith)),
        subst (λ (l : List Token). BeginsScript bytes (take (suc (length front)) (with_end l))) (append_assoc front (u ∷ []) rest) (begin_by (suc (length front)) (front ++ u ∷ []) q.0 rest q.1 (omega (arith, length-append front (u ∷ []))) (67, q.2)),
      )

  -- what it means that a bracket is one too many
  deep_means : (ts rest : List Token) (t : RefusedAt 64 (ScriptOf bytes) (script bytes 64) ts TooDeep rest) → (r : List Token) → rest ≡ r → HasFault bytes ts fault.Deep
  deep_means ts rest t [] e = absurd (let q : Passes ≡ Opens = ap (λ (l : List Token). turn (kind_of l)) (sym e) ∙ t.cause.1 in cc)
  deep_means ts rest t (u ∷ more) e =
      deep_at ts t.front more u t.left (t.parts ∙ ap (λ (l : List Token). t.front ++ l) e) t.level t.cause.0 (ap (λ (l : List Token). turn (kind_of l)) (sym e) ∙ t.cause.1)
      (subst (λ (l : List Token). Begins (ScriptOf bytes 67) (t.front ++ must TooDeep l)) e (t.begins 67 (omega arith)))

  -- what is told of reading is what its verdict means
  verdict_means : (ts : List Token) (o : Answer (Script)) → Known 64 (ScriptOf bytes) (script bytes 64) ts o → Means bytes ts (verdict (length ts) o)
  verdict_means ts (Got p []) t =
      let e : ts ≡ t.front = t.parts ∙ append_none t.front in
      let w : walk 64 ts ≡ Some 64 = ap (walk 64) e ∙ t.level in
      ((64, subst (λ (l : List Token). ScriptOf bytes 64 l p) (sym e) (t.spelled 64 (omega arith))), λ k. bounds_all ts 64 64 (suc k) w)
  verdict_means ts (Got p (u ∷ rest)) t =
      wrong_at ts t.front (u ∷ rest) t.parts 64 t.level (nothing_after t.front (u ∷ rest) p (λ h. cc (h)) t.again)
      (λ k l. begin_by (suc k) t.front [] (u ∷ rest) p l (64, subst (λ (l : List Token). ScriptOf bytes 64 l p) (sym (append_none t.front)) (t.spelled 64 (omega arith))))
  verdict_means ts (Refused Wrong rest) t =
      let q = t.begins 67 (omega arith) in
      wrong_at ts t.front rest t.parts t.left t.level (nothing_goes_on t.front rest t.again)
      (λ k l. begin_by (suc k) t.front q.0 rest q.1 l (67, subst (λ (l : List Token). ScriptOf bytes 67 l q.1) (drop_none t.front [] q.0 refl) q.2))
  verdict_means ts (Refused TooDeep rest) t = deep_means ts rest t rest refl

  -- what is read is what is meant
  pub parsed_means : (ts : List Token) → Means bytes ts (parsed bytes ts)
  unfolding parsed
  parsed_means ts = verdict_means ts (script bytes 64 ts) ((script_laws bytes 64).known ts)
