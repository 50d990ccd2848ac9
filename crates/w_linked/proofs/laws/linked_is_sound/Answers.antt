use Rattle.w_linked.proofs.LinkedSound.{linked_is_sound}
use Rattle.w_linked.proofs.laws.linked_is_sound.Goals as goal

pub returns : goal.returns
returns _ = record { sound = linked_is_sound }
