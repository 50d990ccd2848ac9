use Rattle.std.proofs.Common.{◌+◌, get_or, Option, sym, subst, ◌∙◌, arith}
use Rattle.std.proofs.lemmas.List.{at_drop_more}
use Rattle.w_reduce.specs.declared.trap.Trap.{Trap}
use Rattle.w_stands.specs.Values.{store_of}
use Rattle.w_linker.specs.declared.starting.Sizes.{Sizes}
use Rattle.w_linker.specs.Segments.{element_count, data_count, FileStarted, WentOn, GoesOn}
use Rattle.w_linker.proofs.FileByFile.{trapped_here, started_here}
use Rattle.w_linker.proofs.starting.start_files.Goals as goal

pub returns-in-Some : goal.returns-in-Some
returns-in-Some c p source =
    let l = c.loop-file in
    let s = store_of l.store in
    let none : Sizes = record { elements = 0; datas = 0 } in
    let own = get_or c.args.sizes.now l.file none in
    sym (l.invariant.same p source)
    ∙ trapped_here p l.file l.before.elements l.before.datas s c.start_file.new.store c.args.sizes.now l.file none c.in-Some.trap c.loop-file-test.true
    (subst (λ (o : Option Trap). FileStarted p l.before.elements l.before.datas own s o c.start_file.new.store) c.in-Some.is (c.in_ok-trap.ensures.started p source))

pub loop-file-preserved : goal.loop-file-preserved
loop-file-preserved c =
    let l = c.loop-file in
    let s = store_of l.store in
    let m = c.args.program.now in
    let new = c.start_file.new.store in
    let none : Sizes = record { elements = 0; datas = 0 } in
    let own = get_or c.args.sizes.now l.file none in
    let w : GoesOn m c.args.globals.now c.args.functions (l.before.elements + own.elements) new =
    subst (λ (o : Option Trap). WentOn m c.args.globals.now c.args.functions (l.before.elements + own.elements) o new) c.in_default.is c.in_ok-trap.ensures.went_on in
    record {
      elements = omega (arith, c.in_ok-counted.ensures, at_drop_more element_count c.args.sizes.now l.file none c.loop-file-test.true, l.invariant.elements);
      datas = omega (arith, c.in_ok-counted-2.ensures, at_drop_more data_count c.args.sizes.now l.file none c.loop-file-test.true, l.invariant.datas);
      stands = w.stands;
      segments = λ j h. w.segments j (omega (arith, h, c.in_ok-counted.ensures));
      same = λ p source.
          started_here p l.file l.before.elements l.before.datas s new c.args.sizes.now l.file none (l.file + 1) c.in_ok-counted.field-0 c.in_ok-counted-2.field-0 c.loop-file-test.true
          (omega arith) c.in_ok-counted.ensures c.in_ok-counted-2.ensures
          (subst (λ (o : Option Trap). FileStarted p l.before.elements l.before.datas own s o new) c.in_default.is (c.in_ok-trap.ensures.started p source))
          ∙ l.invariant.same p source;
    }
