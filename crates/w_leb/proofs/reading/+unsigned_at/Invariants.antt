use Rattle.w_leb.proofs.reading.+unsigned_at.Given as goal

abbrev pub decreases-unsigned_at : goal.decreases-unsigned_at
decreases-unsigned_at l = l.width
