use Rattle.words.proofs.SimpleCommands.{taken_by, found_by, refused_by}
use Rattle.words.proofs.commands.parse.Goals as goal

pub returns-clause-taken : goal.returns-clause-taken
returns-clause-taken c = taken_by _ _ c.in_ok-commands.ensures _ c.try_get_matches_from.ensures.kinds

pub returns-clause-rows : goal.returns-clause-rows
returns-clause-rows c = found_by _ _ _ c.in_ok-commands.ensures c.try_get_matches_from.ensures.matches

pub returns-clause-refused : goal.returns-clause-refused
returns-clause-refused c = refused_by _ _ c.in_ok-commands.ensures _ c.try_get_matches_from.ensures.kinds
