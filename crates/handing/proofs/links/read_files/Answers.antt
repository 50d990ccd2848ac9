use Rattle.std.proofs.Common.{◌+◌, ◌∙◌, List, ℕ, drop, length, sym, ap, subst, arith}
use Rattle.w_outside.specs.Outside.{holds}
use Rattle.intake.specs.Reading.{MayBe, ModuleFileRefusal}
use Rattle.replies.proofs.Refusals.{refuses_as}
use Rattle.drive.specs.Linking.{AreRefused, ReadTo}
use Rattle.drive.proofs.FilesRead.{read_more, read_all, refused_at, refused_by}
use Rattle.handing.specs.Files.{files_of}
use Rattle.handing.proofs.FilesInBytes.{next_file, behind_next, room_next, no_more_files}
use Rattle.handing.proofs.links.read_files.Goals as goal

pub returns-in_err-checked-clause-refused : goal.returns-in_err-checked-clause-refused
returns-in_err-checked-clause-refused c =
    let ns = c.args.lengths.now in
    let files = files_of ns c.args.bytes.now in
    let i = c.loop-length.length-index in
    let rest = c.loop-length.rest.now in
    let at = next_file ns c.args.bytes.now rest i c.loop-length-test.true c.loop-length.invariant.behind in
    let stop = c.in_err-checked.field-0.0 in
    refused_by (AreRefused files holds ⊥) c.from_residual.result stop c.from_residual.ensures.1
    (refuses_as {Due' = AreRefused files holds ⊥}
    (λ r h. refused_at files holds i c.len.result _ c.loop-length.modules.items ⊥ (omega (arith, c.len.ensures)) at c.loop-length.invariant.read r
    (subst (λ (b : List ℕ). ModuleFileRefusal c.len.result (holds b) ⊥ r) c.split_at.ensures.front h))
    stop c.in_err-checked.ensures.refused)

pub loop-length-preserved : goal.loop-length-preserved
loop-length-preserved c =
    let ns = c.args.lengths.now in
    let bytes = c.args.bytes.now in
    let files = files_of ns bytes in
    let i = c.loop-length.length-index in
    let rest = c.loop-length.rest.now in
    let ms = c.loop-length.modules.items in
    let m = c.in_ok-checked.checked in
    let lt = c.loop-length-test.true in
    let before = c.loop-length.invariant.behind in
    let is = subst (λ (b : List ℕ). MayBe (holds b) m) c.split_at.ensures.front c.in_ok-checked.ensures.read in
    record {
      read = subst (ReadTo files holds (i + 1)) (sym c.in_ok-push_module.ensures)
          (read_more files holds i _ ms m (next_file ns bytes rest i lt before) c.loop-length.invariant.read is c.in_ok-checked.ensures.within c.in_ok-checked.ensures.valid);
      behind = behind_next ns bytes rest i lt before ∙ ap (files_of (drop (i + 1) ns)) (sym c.split_at.ensures.back);
      room = room_next ns bytes rest i lt before c.loop-length.invariant.room ∙ ap length (sym c.split_at.ensures.back);
    }

pub returns-clause-read : goal.returns-clause-read
returns-clause-read c =
    let ns = c.args.lengths.now in
    let bytes = c.args.bytes.now in
    let i = c.loop-length.length-index in
    read_all (files_of ns bytes) holds i c.loop-length.modules.items
    (no_more_files ns bytes c.loop-length.rest.now i (omega (arith, c.loop-length-test.false)) c.loop-length.invariant.behind) c.loop-length.invariant.read
