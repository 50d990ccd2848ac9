use Rattle.std.proofs.Common.{◌≡◌, ◌∷◌, [], ◌++◌, ℕ, ◌<◌, List, length, get_or, sym, ap, subst, ◌∙◌, arith, rules, length-append}
use Rattle.std.proofs.lemmas.Iterator.Adapters.{YieldsList-from_vec}
use Rattle.std.proofs.lemmas.Iterator.Consumers.{YieldsList-turn}
use Rattle.w_link.specs.Resolved.{Instance}
use Rattle.w_linked.specs.Imports.{Placed}
use Rattle.w_placing.specs.Placing.{zipped}
use Rattle.w_linker.specs.Parts.{ArePartsOf}
use Rattle.w_linker.proofs.PartsOfFiles.{zipped_next, parts_more}
use Rattle.w_linker.proofs.program.all_parts.Goals as goal

pub loop-checked-preserved : goal.loop-checked-preserved
loop-checked-preserved c =
    let ms = c.loop-checked.yielded in
    let m = c.in-Some.checked in
    let is = c.args.instances.now in
    let i = c.index-instances-file.result in
    let turn = YieldsList-turn (YieldsList-from_vec {s = c.into_iter-checked-iterator.result} c.args.modules.items (search rules) (search rules))
    ms c.loop-checked.checked-iterator c.loop-checked.yielded_by c.next.result c.next.new.self m c.in-Some.is c.next.ensures.steps in
    let lt : length ms < length is = omega (arith, turn.0, c.requires) in
    let at : i ≡ get_or is (length ms) i = c.index-instances-file.is ∙ ap (λ (k : ℕ). get_or is k i) c.loop-checked.invariant.many in
    let p : Placed = record { source = m; instance = i } in
    let next : zipped (ms ++ m ∷ []) is ≡ zipped ms is ++ p ∷ [] =
    zipped_next ms is m i lt ∙ ap (λ (j : Instance). zipped ms is ++ record { source = m; instance = j } ∷ []) (sym at) in
    record {
      many = omega (arith, c.loop-checked.invariant.many, length-append ms (m ∷ []));
      parts = subst (λ (ps : List Placed). ArePartsOf ps c.add_file.new.self) (sym next)
          (parts_more (zipped ms is) p c.loop-checked.parts c.add_file.new.self c.loop-checked.invariant.parts c.in_ok-add_file.ensures);
    }
