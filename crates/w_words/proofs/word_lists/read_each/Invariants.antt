use Rattle.std.proofs.Common.{◌≡◌, length}
use Rattle.w_words.specs.Words.{each_of}
use Rattle.w_words.proofs.ReadLists.{in_front}
use Rattle.w_words.proofs.word_lists.read_each.Given as goal

abbrev pub invariant-loop-word : goal.invariant-loop-word
invariant-loop-word g l = in_front l.items.items (each_of g.T.ReadWord.of l.words) ≡ each_of g.T.ReadWord.of l.fn.words

abbrev pub decreases-loop-word : goal.decreases-loop-word
decreases-loop-word g l = length l.words
