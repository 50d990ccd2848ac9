-- The module of a script that breaks no rule, and what its run gives.
use Rattle.std.proofs.Common.{◌≡◌, ◌≤◌, ℕ, false, inl, subst}
use Rattle.w_syntax.specs.declared.module.Module.{Module}
use Rattle.s_syntax.specs.declared.script.Script.{Script}
use Rattle.s_check.specs.Refusal.{Good}
use Rattle.s_check.specs.Size.{Size, size_limit}
use Rattle.s_code.specs.Lowered.{lowered}
use Rattle.s_valid.proofs.LoweredValid.{lowered_valid}
use Rattle.s_valid.proofs.ModuleLimits.{within}
use Rattle.replies.specs.Answer.{Reply, Compiled, HasModuleFault, ModuleRefusal, RunGives, faulted}
use Rattle.drive.proofs.FilesOfModules.{no_fault}

-- it is valid and within its limits, so nothing refuses it
pub never_refused : (p : Script) (m : Module) → Good p → Size p ≤ size_limit → m ≡ lowered p → (r : Reply) → ModuleRefusal m r → ⊥
never_refused p m good small is r h =
    no_fault (lowered p) h.0 (within p good small) (lowered_valid p good) (subst (λ (n : Module). HasModuleFault n h.0) is h.1)

-- what its run gives, the script does
pub run_given : (p q : Script) (m : Module) (steps : ℕ) → q ≡ p → m ≡ lowered p → Size p ≤ size_limit → (r : Reply)
    → RunGives (faulted q) steps false m r → Compiled (RunGives (faulted p) steps false) p r
run_given p q m steps same is small r h =
    let given = subst (λ (s : Script). RunGives (faulted s) steps false m r) same h in
    inl (small, subst (λ (n : Module). RunGives (faulted p) steps false n r) is given)
