-- Segments moved from one chain to another.
use Rattle.std.proofs.Common.{◌≡◌, ◌+◌, List, ◌++◌, reverse, length, ap, arith, length-append}
use Rattle.std.proofs.lemmas.List.{length-reverse}
use Rattle.w_segment.specs.Link.{Link}

-- no segment is lost between what was moved and what was not
pub all_long : (out xs all : List Link) → reverse out ++ xs ≡ all → length out + length xs ≡ length all
all_long out xs all e = omega (arith, ap (λ (l : List Link). length l) e, length-append (reverse out) xs, length-reverse out)
