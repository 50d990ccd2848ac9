-- What is known of a module whose bytes come in pieces, after a piece more and after a body more.
use Rattle.std.proofs.Common.{◌≡◌, ℕ, ◌<◌, List, [], ◌++◌, length, sym, ap, subst, ◌∙◌, append_assoc, arith}
use Rattle.std.specs.Prelude.{slice_get}
use Rattle.std.proofs.lemmas.List.{append-nil}
use Rattle.lists.proofs.Lists.{get-front}
use Rattle.w_syntax.specs.Functions.{code_of_function}
use Rattle.w_syntax.specs.Spells.{Spells}
use Rattle.w_syntax.specs.declared.module.Func.{Func}
use Rattle.w_syntax.specs.declared.module.Module.{Module}
use Rattle.w_decode.specs.Continued.{Continues}
use Rattle.w_decode.specs.Ends.{EndsAs}
use Rattle.w_decode.specs.Pieces.{StandsFor, so_far_of}
use Rattle.w_decode.specs.declared.pieces.Decoder.{Decoder}
use Rattle.w_decode.proofs.ContinuedModules.{front_of}
use Rattle.w_valid.specs.Gradual.{AnswersFor}
use Rattle.w_syntax.specs.SameBefore.{SameBefore}
use Rattle.w_valid.specs.declared.gradual.Gradual.{Gradual}
use Rattle.intake.specs.Intake.{IsModuleOf}

-- ## A piece more

pub piece_more : (old new : Decoder) (gradual : Gradual) (b x : List ℕ) → IsModuleOf (record { decoder = old; gradual = gradual }) b → StandsFor new (b ++ x)
    → IsModuleOf (record { decoder = new; gradual = gradual }) (b ++ x)
piece_more old new gradual b x h stands = record {
  decoder = stands;
  bodies = λ c n spells. h.bodies (x ++ c) n (subst (λ (l : List ℕ). Spells l n) (append_assoc b x c) spells);
}

-- ## A body more

same_code : {m n : Module} → Continues m n → (j : ℕ) → j < length m.codes → code_of_function m j ≡ code_of_function n j
same_code {m} {n} c j lt = sym (get-front m.codes c.more j lt) ∙ ap (λ (fs : List Func). slice_get fs j) (sym c.codes)

-- the answer for a body that closed counts for every module whose spelling begins with these bytes
pub body_more : (d : Decoder) (old new : Gradual) (j : ℕ) (b : List ℕ) → j < length (so_far_of d).codes
    → ((c : List ℕ) (n : Module) → Spells (b ++ c) n → EndsAs b (so_far_of d))
    → ((n : Module) → AnswersFor old n → SameBefore (so_far_of d) n → code_of_function (so_far_of d) j ≡ code_of_function n j → AnswersFor new n)
    → IsModuleOf (record { decoder = d; gradual = old }) b → IsModuleOf (record { decoder = d; gradual = new }) b
body_more d old new j b lt ends body h = record {
  decoder = h.decoder;
  bodies = λ c n spells.
      let continues = front_of b c (so_far_of d) n (ends c n spells) spells (omega (arith, lt)) in
      body n (h.bodies c n spells) continues.before (same_code continues j lt);
}

-- ## All bytes

-- the answers are those of the module that the bytes spell
pub answers_for : (d : Decoder) (g : Gradual) (b : List ℕ) (n : Module) → IsModuleOf (record { decoder = d; gradual = g }) b → Spells b n → AnswersFor g n
answers_for d g b n h spells = h.bodies [] n (subst (λ (l : List ℕ). Spells l n) (sym (append-nil b)) spells)
