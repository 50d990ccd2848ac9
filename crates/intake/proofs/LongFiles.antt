-- What a file may hold, and what is left of it, by what was read.
use Rattle.std.proofs.Common.{◌≡◌, ◌+◌, ◌<◌, ◌≤◌, ℕ, List, ◌++◌, length, length-append, Option, Some, None, Result, Ok, Err, inr, refl, sym, ap, ◌∙◌, append_assoc, arith}
use Rattle.std.specs.Io.KnownBytes.{prepend_known}
use Rattle.w_outside.specs.Outside.{Known, untold, missing, holds, Opens}
use Rattle.replies.specs.Answer.{input_limit}
use Rattle.intake.specs.declared.input.InputFault.{InputFault}
use Rattle.intake.specs.declared.input.InputFault.TheVariants.{Missing, TooLong, Failed, OutOfMemory}
use Rattle.intake.specs.Reading.{IsTooLong, LeavesRest, ReadsPart, TakesPart}

pub too_long_at : (known : Known) (bytes : List ℕ) (left : Option (List ℕ)) → Opens known (prepend_known bytes left)
    → input_limit < length bytes → IsTooLong known
too_long_at untold bytes left h n = (bytes, tt, n)
too_long_at missing bytes left h n = absurd h
too_long_at (holds c) bytes None h n = absurd (cc)
too_long_at (holds c) bytes (Some l) h n =
    let e : bytes ++ l ≡ c = cc in
    (c, refl, omega (arith, length-append bytes l, ap (length {A = ℕ}) e))

-- ## What is left

pub prepend_known-append : (xs ys : List ℕ) (left : Option (List ℕ)) → prepend_known xs (prepend_known ys left) ≡ prepend_known (xs ++ ys) left
prepend_known-append xs ys None = refl
prepend_known-append xs ys (Some l) = ap (λ (m : List ℕ). Some m) (sym (append_assoc xs ys l))

-- what was read, and a part more, is at most one byte more than the limit
pub leaves_part : (known : Known) (bytes : List ℕ) (most : ℕ) (before now : Option (List ℕ)) → Opens known (prepend_known bytes before)
    → TakesPart most before now → length bytes + most ≤ input_limit + 1 → LeavesRest known now
leaves_part untold bytes most before now whole part short = tt
leaves_part missing bytes most before now whole part short = tt
leaves_part (holds c) bytes most before now whole part short = record {
  part = bytes ++ part.part;
  taken = sym whole ∙ ap (prepend_known bytes) part.taken ∙ prepend_known-append bytes part.part now;
  short = omega (arith, length-append bytes part.part, part.short, short);
}

pub reads_part : {T : Type 0} (known : Known) (left : Option (List ℕ)) (result : Result T InputFault) → LeavesRest known left → ReadsPart known left result
reads_part known left (Ok bytes) h = h
reads_part known left (Err Missing) h = inr h
reads_part known left (Err TooLong) h = h
reads_part known left (Err Failed) h = inr h
reads_part known left (Err OutOfMemory) h = inr h

-- whatever else it would have answered
pub part_of_fault : (T U : Type 0) (known : Known) (left : Option (List ℕ)) (fault : InputFault) → ReadsPart {T = T} known left (Err fault) → ReadsPart {T = U} known left (Err fault)
part_of_fault T U known left Missing h = h
part_of_fault T U known left TooLong h = h
part_of_fault T U known left Failed h = h
part_of_fault T U known left OutOfMemory h = h
