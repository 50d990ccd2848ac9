use Rattle.std.proofs.Common.{◌+◌, ◌<◌, List, Option, sym, ap, ◌∙◌, reverse, length, drop, arith, slice_get, length-drop}
use Rattle.w_types.specs.declared.value.Value.{Value}
use Rattle.w_segment.specs.Shape.{locals_of}
use Rattle.w_segment.proofs.LocalsOfMarks.{locals_are}
use Rattle.w_segment.proofs.PartsOfLists.{slice_get_drop}
use Rattle.w_segment.proofs.stack.Stack.local_get.Goals as goal

pub overflow_add-self-inside : goal.overflow_add-self-inside
overflow_add-self-inside c =
    let i = c.self.inside in
    let v = ap (λ s. length (locals_of s.levels)) c.self.view_is in
    let h = locals_are (reverse i.marks.items) i.operands.items i.locals.items i.first c.args.x (let r = c.requires.there in omega (arith, v, r)) in
    let l = length-drop i.first i.locals.items in
    let m = i.locals.small in
    omega (arith, v, ap length h, l, m, c.requires.there)

pub index-requires : goal.index-requires
index-requires c =
    let i = c.self.inside in
    let v = ap (λ s. length (locals_of s.levels)) c.self.view_is in
    let h = locals_are (reverse i.marks.items) i.operands.items i.locals.items i.first c.args.x (let r = c.requires.there in omega (arith, v, r)) in
    let l = length-drop i.first i.locals.items in
    omega (arith, v, ap length h, l, c.requires.there)

pub returns : goal.returns
returns c = record {
  value = (let i = c.self.inside in
      let v = ap (λ s. length (locals_of s.levels)) c.self.view_is in
      let h = locals_are (reverse i.marks.items) i.operands.items i.locals.items i.first c.args.x (let r = c.requires.there in omega (arith, v, r)) in
      let l = length-drop i.first i.locals.items in
      let r : c.args.x < length (drop i.first i.locals.items) = omega (arith, v, ap length h, c.requires.there) in
      let s : i.first + c.args.x < length i.locals.items = omega arith in
      ap (λ s. slice_get (locals_of s.levels) c.args.x) (sym c.self.view_is) ∙ ap (λ (k : List (Option Value)). slice_get k c.args.x) h
      ∙ slice_get_drop i.locals.items i.first c.args.x c.index.result.now s (sym c.index.ensures));
}
