use Rattle.std.proofs.Common.{◌≡◌, ◌++◌, drop, map}
use Rattle.w_words.specs.Words.{behind_spaces}
use Rattle.w_words.proofs.word_lists.put_each.Given as goal

-- what was written, and the words that are left, are all that is to be written
abbrev pub invariant-loop-item : goal.invariant-loop-item
invariant-loop-item g l = l.out.items ++ behind_spaces (map g.T.PutWord.word (drop l.item-index l.items)) ≡ l.fn.out.items ++ behind_spaces (map g.T.PutWord.word l.items)
