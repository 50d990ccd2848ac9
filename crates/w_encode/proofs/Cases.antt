-- Proofs by the cases of a choice.
use Rattle.std.proofs.Common.{Bool, true, false, cond}

-- what follows from either of two facts follows from the one that is chosen
pub in_either : (v : Bool) (P Q R : Type 0) → (P → R) → (Q → R) → cond v P Q → R
in_either true P Q R f g h = f h
in_either false P Q R f g h = g h
