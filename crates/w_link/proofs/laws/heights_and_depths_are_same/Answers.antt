use Rattle.w_link.proofs.Peaks.{peak_same, height_same, depth_same}
use Rattle.w_link.proofs.laws.heights_and_depths_are_same.Goals as goal

pub returns : goal.returns
returns _ = record { peaks = peak_same; heights = height_same; depths = depth_same }
