-- The packed instructions of a body, changed where they lie.
use Rattle.std.proofs.Common.{◌≡◌, ℕ, ◌+◌, ◌≤◌, ◌<◌, List, ◌++◌, map, length, get_or, set, take, sym, ap, ◌∙◌, arith}
use Rattle.w_syntax.specs.declared.packed.PackedInstr.{PackedInstr}
use Rattle.w_syntax.specs.Code.{Code}
use Rattle.w_syntax.specs.Flat.{whole}
use Rattle.w_syntax.specs.Packed.{unpacked, unpacked_all}
use Rattle.w_syntax.proofs.PackedLists.{unpacked_set, unpacked_get, unpacked_length}
use Rattle.w_link.specs.Resolved.{Instance, code_resolved}
use Rattle.w_resolve.specs.Instructions.{instr_resolved}
use Rattle.w_resolve.proofs.InPlace.{changed, goes_on, all_changed, front_whole}
use Rattle.w_resolve.proofs.LaidOut.{whole_resolved}

-- one more instruction is resolved
pub one_resolved : (i : Instance) (k : ℕ) (old now : List PackedInstr) (q p : PackedInstr) → unpacked_all now ≡ changed (instr_resolved i) k (unpacked_all old) → k < length now → q ≡ get_or now k q → unpacked p ≡ instr_resolved i (unpacked (get_or now k q)) → unpacked_all (set now k p) ≡ changed (instr_resolved i) (k + 1) (unpacked_all old)
one_resolved i k old now q p e lt is made =
    let within : k < length (unpacked_all now) = omega (arith, lt, unpacked_length now) in
    let from = made ∙ ap (λ r. instr_resolved i (unpacked r)) (sym is) ∙ ap (instr_resolved i) (unpacked_get now k q lt is) in
    unpacked_set now k p ∙ goes_on (instr_resolved i) k (unpacked_all old) (unpacked_all now) (unpacked q) (unpacked p) e within from

-- where all are, they are the list of the resolved body
pub body_resolved : (i : Instance) (b : Code) (k n : ℕ) (old now zs : List PackedInstr) → unpacked_all now ≡ changed (instr_resolved i) k (unpacked_all old) → k ≤ length old → length old ≤ k → length now ≡ length old → length old ≡ n → unpacked_all old ≡ whole b → unpacked_all (take n (now ++ zs)) ≡ whole (code_resolved i b)
body_resolved i b k n old now zs e le ge same size of =
    let l = unpacked_length old in
    let le' : k ≤ length (unpacked_all old) = omega (arith, le, l) in
    let ge' : length (unpacked_all old) ≤ k = omega (arith, ge, l) in
    ap unpacked_all (front_whole n now zs (same ∙ size))
    ∙ all_changed (instr_resolved i) k (unpacked_all old) (unpacked_all now) e le' ge'
    ∙ ap (map (instr_resolved i)) of
    ∙ whole_resolved i b
