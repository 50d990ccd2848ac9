use Rattle.std.proofs.Common.{ℕ, ◌++◌, ◌+◌, List, drop, get_or, sym, ap, ◌∙◌, append_assoc, arith}
use Rattle.std.proofs.lemmas.List.{append-nil}
use Rattle.std.specs.List.{flat_map}
use Rattle.w_text.specs.declared.item.Item.{Item}
use Rattle.w_text.specs.declared.item.Item.TheVariants.{Function}
use Rattle.w_text.specs.Items.{function_items}
use Rattle.w_text.specs.Written.{item_bytes}
use Rattle.w_text.proofs.ItemsWritten.{there_at, found_at, next_function, no_functions, no_codes}
use Rattle.w_text.proofs.dumping.put_functions.Goals as goal

pub loop-place-preserved : goal.loop-place-preserved
loop-place-preserved c =
    let kinds = c.args.kinds.now in
    let codes = c.args.codes.now in
    let place = c.loop-place.place in
    let kind = get_or kinds place 0 in
    let code = c.index-codes-place.result in
    let old = c.loop-place.out.items in
    let this = item_bytes (Function kind code) in
    let rest = flat_map item_bytes (function_items (drop (place + 1) kinds) (drop (place + 1) codes)) in
    let there = there_at kinds place (omega (arith, c.loop-place-test.true)) in
    let found = found_at codes place code (omega (arith, c.if-place-codes.true)) c.index-codes-place.is in
    let step = next_function kinds codes place kind code there found in
    ap (λ (l : List ℕ). l ++ rest) c.in_ok-put_function.ensures ∙ append_assoc old this rest ∙ ap (λ (l : List ℕ). old ++ l) (sym (ap (λ (its : List Item). flat_map item_bytes its) step)) ∙ c.loop-place.invariant

pub returns-else-place-codes : goal.returns-else-place-codes
returns-else-place-codes c =
    let none = no_codes c.args.kinds.now c.args.codes.now c.loop-place.place (omega (arith, c.if-place-codes.false)) in
    sym (append-nil c.loop-place.out.items) ∙ ap (λ (its : List Item). c.loop-place.out.items ++ flat_map item_bytes its) (sym none) ∙ c.loop-place.invariant

pub returns-after-loop-place : goal.returns-after-loop-place
returns-after-loop-place c =
    let none = no_functions c.args.kinds.now c.args.codes.now c.loop-place.place (omega (arith, c.loop-place-test.false)) in
    sym (append-nil c.loop-place.out.items) ∙ ap (λ (its : List Item). c.loop-place.out.items ++ flat_map item_bytes its) (sym none) ∙ c.loop-place.invariant
