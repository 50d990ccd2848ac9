use Rattle.std.proofs.Common.{refl}
use Rattle.w_fields.proofs.Utf8.{utf8_name, no_utf8_name}
use Rattle.w_fields.proofs.names.has_name.Goals as goal

pub returns-in-Ok : goal.returns-in-Ok
returns-in-Ok c = let e = utf8_name c.args.bytes.now _ _ c.in-Some.ensures.0 c.in-Ok.ensures.cases.1 in (λ t. rw e refl, λ s. refl)

pub returns-in-Err : goal.returns-in-Err
returns-in-Err c = let e = no_utf8_name c.args.bytes.now _ _ c.in-Some.ensures.0 c.in-Err.ensures.cases.0 in (λ t. absurd cc, λ s. let h = rw e at s in absurd cc)
