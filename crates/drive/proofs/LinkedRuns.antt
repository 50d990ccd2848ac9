-- From files that were linked to what their modules give.
use Rattle.std.proofs.Common.{◌≡◌, ◌∙◌, inl, inr, Result, Ok, Err, refl, sym, ap, subst, Bool, ℕ, List}
use Rattle.std.specs.Prelude.{◌↔◌, IsTrue}
use Rattle.w_types.specs.declared.types.RecGroup.{RecGroup}
use Rattle.w_syntax.specs.declared.module.Module.{Module}
use Rattle.w_canon.specs.Matching.{IndexMatches}
use Rattle.w_reduce.specs.Program.{Program, IsProgram}
use Rattle.w_reduce.specs.Run.{Run}
use Rattle.w_reduce.specs.Start.{first_term}
use Rattle.w_stands.specs.Values.{store_of}
use Rattle.w_linked.specs.Definitions.{definitions}
use Rattle.w_linked.specs.Imports.{TypeTests}
use Rattle.w_linked.specs.Laws.{AreTestsOf}
use Rattle.w_linked.specs.Starting.{StartL, program_of}
use Rattle.w_linker.specs.Links.{Links, LinksAs}
use Rattle.w_linker.specs.declared.linking.LinkFault.{LinkFault}
use Rattle.w_linker.specs.declared.linking.LinkFault.TheVariants as fault
use Rattle.w_linker.specs.declared.linking.Linked.{Linked}
use Rattle.w_machine.specs.Beginning.{BeginsAt, Begins}
use Rattle.replies.specs.Answer.{Reply, LinkGives, linked_reply, run_reply, trapped}
use Rattle.replies.specs.declared.stop.Stop.{Stop}
use Rattle.replies.specs.Stop.{Refuses}
use Rattle.replies.proofs.Refusals.{refuses_as}

-- what linking answers is told, where memory didn't run out
pub record Told (ms : List Module) (r : Result Linked LinkFault) : Type 0 where
  pub tests : TypeTests
  pub tells : AreTestsOf (definitions ms).types tests
  pub links : LinksAs tests ms r

told : (ms : List Module) (r : Result Linked LinkFault) → (r ≡ Err fault.OutOfMemory → ⊥) → Links ms r → Told ms r
told ms r not_memory (inl e) = absurd (not_memory e)
told ms r not_memory (inr h) = record { tests = h.0; tells = h.1; links = h.2 }

-- ## Refusals

module _ (ms : List Module) (steps : ℕ) (stats : Bool) (f : LinkFault) (one : Reply) where
  -- the reply to files that have no run
  pub refused_linked : (f ≡ fault.OutOfMemory → ⊥) → ((tests : TypeTests) → LinksAs tests ms (Err f) → linked_reply steps stats (StartL tests ms) ≡ one)
      → Links ms (Err f) → (stop : Stop) → Refuses (λ reply. reply ≡ one) stop → Refuses (LinkGives steps stats ms) stop
  refused_linked not_memory reply h stop refuses =
      let t = told ms (Err f) (λ e. not_memory (cc)) h in
      refuses_as {Due' = LinkGives steps stats ms} (λ r k. (t.tests, t.tells, k ∙ sym (reply t.tests t.links))) stop refuses

-- ## Runs

pub told_ok : (ms : List Module) (l : Linked) → Links ms (Ok l) → Told ms (Ok l)
told_ok ms l h = told ms (Ok l) (λ e. absurd (cc)) h

module _ (ms : List Module) (l : Linked) (t : Told ms (Ok l)) where
  abbrev pub program : Program
  program = program_of t.tests l.program

  is_program : l.program.types ≡ (definitions ms).types → IsProgram program
  is_program types = subst (λ (gs : List RecGroup). (i j : ℕ) → IsTrue (t.tests.matches i j) ↔ IndexMatches gs i j) (sym types) t.tells.matches

  -- the machine's run begins as that of the files
  pub begins : l.program.types ≡ (definitions ms).types → BeginsAt l.program l.store l.starts.items l.main
      → Begins (record { source = l.program; starts = l.starts.items; main = l.main }) program (store_of l.store) (first_term l.starts.items l.main)
  begins types at = record { source = refl; program = is_program types; store = at.store program refl (is_program types); term = refl }

  -- what the run gives, the files give
  pub run_linked : (steps : ℕ) (stats : Bool) (reply : Reply) → reply ≡ run_reply trapped stats (Run program (store_of l.store) (first_term l.starts.items l.main) steps) → LinkGives steps stats ms reply
  run_linked steps stats reply is = (t.tests, t.tells, is ∙ sym (ap (linked_reply steps stats) t.links))
