-- What is decoded is spelled so, and a fault is one that the bytes have; each is the one answer, unless memory runs out.
use Rattle.std.proofs.Common.{◌≡◌, ◌≢◌, ℕ, inl, inr, Bool, true, false, cond, List, Result, Ok, Err, refl, sym, ap, subst, ◌∙◌}
use Rattle.std.specs.Prelude.{IfOk, IfErr}
use Rattle.w_decode.specs.Reading.{counts_agree, counted_module, decoded}
use Rattle.w_decode.proofs.ReadingExact.{decoded_means, spelled_decoded, fault_decoded, Means}
use Rattle.w_decode.specs.Places.{Gives}
use Rattle.w_decode.specs.Faults.{HasFault, IsAnswer}
use Rattle.w_syntax.specs.Spells.{Spells}
use Rattle.w_decode.specs.declared.sections.PartialModule.{PartialModule}
use Rattle.w_syntax.specs.declared.module.Module.{Module}
use Rattle.w_decode.specs.declared.fault.DecodeFault.{DecodeFault}
use Rattle.w_decode.specs.declared.fault.DecodeFault.TheVariants as fault

-- ## Behind the last section, by whether the counts agree

pub differ : (g : PartialModule) (v : Bool) → v ≡ counts_agree g → v ≡ false → counted_module g ≡ Err fault.Counts
differ g v e h = ap (λ (w : Bool). cond w (Ok g.tree) (Err fault.Counts)) (sym e ∙ h)

pub same : (g : PartialModule) (v : Bool) → v ≡ counts_agree g → v ≡ true → counted_module g ≡ Ok g.tree
same g v e h = ap (λ (w : Bool). cond w (Ok g.tree) (Err fault.Counts)) (sym e ∙ h)

-- ## The clauses of `decode` and `finish`

pub ok_means : (b : List ℕ) (r : Result Module DecodeFault) → Gives r (decoded b) → IfOk r (λ m. Spells b m)
ok_means b (Ok m) g = subst (Means b) g (decoded_means b)
ok_means b (Err e) g = tt

pub err_means : (b : List ℕ) (r : Result Module DecodeFault) → Gives r (decoded b) → IfErr r (λ e. e ≢ fault.OutOfMemory → HasFault b e)
err_means b (Ok m) g = tt
err_means b (Err fault.Header) g = λ ne. subst (Means b) g (decoded_means b)
err_means b (Err (fault.Frame i)) g = λ ne. subst (Means b) g (decoded_means b)
err_means b (Err (fault.Content i)) g = λ ne. subst (Means b) g (decoded_means b)
err_means b (Err fault.Counts) g = λ ne. subst (Means b) g (decoded_means b)
err_means b (Err fault.OutOfMemory) g = λ ne. absurd (ne refl)

answer : (b : List ℕ) (r s : Result Module DecodeFault) → Gives r (decoded b) → decoded b ≡ s → IsAnswer s r
answer b (Ok m) s g e = inl (sym g ∙ e)
answer b (Err fault.Header) s g e = inl (sym g ∙ e)
answer b (Err (fault.Frame i)) s g e = inl (sym g ∙ e)
answer b (Err (fault.Content i)) s g e = inl (sym g ∙ e)
answer b (Err fault.Counts) s g e = inl (sym g ∙ e)
answer b (Err fault.OutOfMemory) s g e = inr refl

pub only_ok : (b : List ℕ) (r : Result Module DecodeFault) → Gives r (decoded b) → (m : Module) → Spells b m → IsAnswer (Ok m) r
only_ok b r g m h = answer b r (Ok m) g (spelled_decoded b m h)

pub only_err : (b : List ℕ) (r : Result Module DecodeFault) → Gives r (decoded b) → (e : DecodeFault) → HasFault b e → IsAnswer (Err e) r
only_err b r g e h = answer b r (Err e) g (fault_decoded b e h)
