use Rattle.std.proofs.Common.{List, sym, subst, subst₂, ◌∙◌, ℕ}
use Rattle.w_syntax.specs.declared.module.Module.{Module}
use Rattle.w_canon.specs.IsClassesOf.{IsClassesOf}
use Rattle.w_rules.specs.Facts.{AreMeasures}
use Rattle.w_rules.specs.Sound.{Sound, AreNarrow}
use Rattle.w_linked.specs.Linked.{linked}
use Rattle.w_placing.specs.Placing.{zipped}
use Rattle.w_linker.proofs.LinkedProgram.{is_narrow, is_sound, has_classes, has_measures}
use Rattle.w_linker.proofs.PartsOfFiles.{module_is}
use Rattle.w_linker.proofs.program.make_program.Goals as goal

pub make-requires-clause-narrow : goal.make-requires-clause-narrow
make-requires-clause-narrow c =
    let ps = zipped c.args.modules.items c.args.instances.now in
    let is = c.in_ok-module.ensures.module ∙ module_is ps c.in_ok-parts.parts c.args.start c.in_ok-parts.ensures c.requires.start in
    subst AreNarrow (sym is) (is_narrow c.args.classes c.args.modules.items c.args.instances.now c.requires.linked)

pub make-requires-clause-sound : goal.make-requires-clause-sound
make-requires-clause-sound c =
    let ps = zipped c.args.modules.items c.args.instances.now in
    let is = c.in_ok-module.ensures.module ∙ module_is ps c.in_ok-parts.parts c.args.start c.in_ok-parts.ensures c.requires.start in
    subst Sound (sym is) (is_sound c.args.classes c.args.modules.items c.args.instances.now c.requires.linked)

pub make-requires-clause-measures : goal.make-requires-clause-measures
make-requires-clause-measures c =
    let ps = zipped c.args.modules.items c.args.instances.now in
    let x = c.in_ok-parts.parts in
    let is = c.in_ok-module.ensures.module ∙ module_is ps x c.args.start c.in_ok-parts.ensures c.requires.start in
    let all : AreMeasures (linked ps) x.contents.heights.items x.contents.depths.items =
    has_measures c.args.classes c.args.modules.items c.args.instances.now c.requires.linked x.contents.heights.items x.contents.depths.items c.in_ok-parts.ensures.measured in
    subst (λ (m : Module). AreMeasures m c.in_ok-module.heights.items c.in_ok-module.depths.items) (sym is)
    (subst₂ (λ (hs ds : List ℕ). AreMeasures (linked ps) hs ds) (sym c.in_ok-module.ensures.heights) (sym c.in_ok-module.ensures.depths) all)

pub make-requires-clause-classes : goal.make-requires-clause-classes
make-requires-clause-classes c =
    let ps = zipped c.args.modules.items c.args.instances.now in
    let is = c.in_ok-module.ensures.module ∙ module_is ps c.in_ok-parts.parts c.args.start c.in_ok-parts.ensures c.requires.start in
    subst (λ (m : Module). IsClassesOf m.types c.args.classes) (sym is) (has_classes c.args.classes c.args.modules.items c.args.instances.now c.requires.linked)
