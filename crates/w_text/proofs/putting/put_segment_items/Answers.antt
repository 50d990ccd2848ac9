use Rattle.std.proofs.Common.{ℕ, ◌++◌, ◌+◌, List, drop, sym, ap, ◌∙◌, append_assoc}
use Rattle.std.specs.List.{flat_map}
use Rattle.w_syntax.specs.Items.{code_of}
use Rattle.w_lines.specs.Written.{code_bytes}
use Rattle.w_text.proofs.ItemsWritten.{next_written}
use Rattle.w_text.proofs.putting.put_segment_items.Goals as goal

pub loop-place-preserved : goal.loop-place-preserved
loop-place-preserved c =
    let items = c.args.items.now in
    let old = c.loop-place.out.items in
    let this = code_bytes (code_of c.at.result) in
    let rest = flat_map code_bytes (drop (c.loop-place.place + 1) items) in
    ap (λ (l : List ℕ). l ++ rest) c.in_ok-put_item.ensures ∙ append_assoc old this rest ∙ ap (λ (l : List ℕ). old ++ l) (sym (next_written code_bytes items c.loop-place.place (code_of c.at.result) c.at.ensures)) ∙ c.loop-place.invariant
