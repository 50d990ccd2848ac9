use Rattle.w_leb.proofs.reading.+signed_at.Given as goal

abbrev pub decreases-signed_at : goal.decreases-signed_at
decreases-signed_at l = l.width
