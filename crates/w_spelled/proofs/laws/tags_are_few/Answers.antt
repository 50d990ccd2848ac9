use Rattle.w_spelled.proofs.FewTags.{few_tags}
use Rattle.w_spelled.proofs.laws.tags_are_few.Goals as goal

pub returns : goal.returns
returns _ = few_tags
