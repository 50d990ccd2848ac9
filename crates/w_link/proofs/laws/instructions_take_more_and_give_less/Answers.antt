use Rattle.w_link.proofs.FineInstructions.{fine_instruction}
use Rattle.w_link.proofs.FineTypes.{fine_has}
use Rattle.w_link.proofs.laws.instructions_take_more_and_give_less.Goals as goal

pub returns : goal.returns
returns _ = record { fine = fine_instruction; typed = λ gs keeps l m ts us h k. fine_has gs keeps ts us h k }
