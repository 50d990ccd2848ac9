-- What a run is of, and so what its traps are replied with.
use Rattle.replies.specs.declared.origin.Origin.{Origin}
use Rattle.replies.specs.declared.origin.Origin.TheVariants as origin
use Rattle.replies.specs.Answer.{TrapReply, trapped, faulted}

abbrev pub trap_reply_of : Origin → TrapReply
trap_reply_of origin.Module = trapped
trap_reply_of (origin.Script p) = faulted p.now
