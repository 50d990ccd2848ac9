-- Lines as they are kept: counts of 2^64 and more are all one.
use Rattle.w_words.specs.Numbers.{kept_count}
use Rattle.w_lines.specs.declared.line.Line.{Line}
use Rattle.w_lines.specs.declared.line.Line.TheVariants as line

abbrev pub kept : Line → Line
kept (line.Group k) = line.Group (kept_count k)
kept (line.Elements m r k) = line.Elements m r (kept_count k)
kept l = l
