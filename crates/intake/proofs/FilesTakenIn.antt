-- What a file holds, by what of it was read and taken in.
use Rattle.std.proofs.Common.{◌≡◌, ◌+◌, ◌<◌, ◌≤◌, ℕ, List, [], ◌++◌, length, length-append, append-nil, Option, Some, None, refl, sym, ap, subst, ◌∙◌, arith}
use Rattle.std.specs.Io.KnownBytes.{prepend_known, IsAtEnd}
use Rattle.w_outside.specs.Outside.{Known, untold, missing, holds, Opens}
use Rattle.words.specs.declared.request.Takes.{Takes}
use Rattle.replies.specs.Answer.{input_limit}
use Rattle.intake.specs.Intake.{IsReadTo, TakesIn, TakesMore}
use Rattle.intake.specs.Reading.{IsTooLong, LeavesRest, MayHold, TakesPart}
use Rattle.intake.specs.declared.intake.Intake.{Intake}
use Rattle.intake.proofs.LongFiles.{too_long_at, leaves_part, prepend_known-append}

prepend_none : (left : Option (List ℕ)) → prepend_known [] left ≡ left
prepend_none None = refl
prepend_none (Some l) = refl

-- nothing was read
pub begun : (known : Known) (left : Option (List ℕ)) (taking : Takes) (intake : Intake) → Opens known left → TakesIn taking intake [] → IsReadTo known left taking intake 0
begun known left taking intake opens takes = record {
  bytes = [];
  count = refl;
  whole = subst (Opens known) (sym (prepend_none left)) opens;
  takes = takes;
}

-- a part more
pub part_more : (known : Known) (before now : Option (List ℕ)) (taking : Takes) (old new : Intake) (n k : ℕ) → IsReadTo known before taking old n → TakesMore taking old new before now k
    → IsReadTo known now taking new (n + k)
part_more known before now taking old new n k r t = record {
  bytes = r.bytes ++ t.part;
  count = omega (arith, length-append r.bytes t.part, r.count, t.count);
  whole = subst (Opens known) (ap (prepend_known r.bytes) t.left ∙ prepend_known-append r.bytes t.part now) r.whole;
  takes = t.takes r.bytes r.takes;
}

may_hold : (known : Known) (bytes : List ℕ) (left : Option (List ℕ)) → Opens known (prepend_known bytes left) → IsAtEnd left → MayHold known bytes
may_hold untold bytes left h e = tt
may_hold missing bytes left h e = absurd h
may_hold (holds c) bytes None h e = absurd (cc)
may_hold (holds c) bytes (Some l) h e =
    let all : bytes ++ l ≡ c = cc in
    sym (append-nil bytes) ∙ ap (λ (m : List ℕ). bytes ++ m) (sym e) ∙ all

-- at the end
pub all_read : (known : Known) (left : Option (List ℕ)) (taking : Takes) (intake : Intake) (n : ℕ) → n ≤ input_limit → IsReadTo known left taking intake n → IsAtEnd left
    → (b : List ℕ) × MayHold known b × (length b ≤ input_limit) × TakesIn taking intake b
all_read known left taking intake n le r e = (r.bytes, may_hold known r.bytes left r.whole e, omega (arith, le, r.count), r.takes)

-- behind the limit
pub read_too_long : (known : Known) (left : Option (List ℕ)) (taking : Takes) (intake : Intake) (n : ℕ) → input_limit < n → IsReadTo known left taking intake n → IsTooLong known
read_too_long known left taking intake n lt r = too_long_at known r.bytes left r.whole (omega (arith, lt, r.count))

-- where a call failed that may have taken so many bytes more
pub rest_left : (known : Known) (most : ℕ) (before now : Option (List ℕ)) (taking : Takes) (intake : Intake) (n : ℕ) → IsReadTo known before taking intake n → TakesPart most before now
    → n + most ≤ input_limit + 1 → LeavesRest known now
rest_left known most before now taking intake n r t le = leaves_part known r.bytes most before now r.whole t (omega (arith, le, r.count))

-- what is left where no more was taken than one byte behind the limit
pub rest_left_at : (known : Known) (left : Option (List ℕ)) (taking : Takes) (intake : Intake) (n : ℕ) → n ≤ input_limit + 1 → IsReadTo known left taking intake n → LeavesRest known left
rest_left_at known left taking intake n le r =
    leaves_part known r.bytes 0 left left r.whole (record { part = []; taken = sym (prepend_none left); short = omega arith }) (omega (arith, le, r.count))
