use Rattle.std.proofs.Common.{◌≡◌, None, refl, subst, sym}
use Rattle.s_syntax.specs.declared.name.Name.{Name}
use Rattle.s_index.specs.Views.{found}
use Rattle.s_index.proofs.Entries.{found_more, no_entry}
use Rattle.s_index.proofs.declarations.keep_first.Goals as goal

pub returns : goal.returns
returns c =
    let new = subst (λ (n : Name). found c.args.first.now n ≡ None) c.as_bytes.ensures.value (no_entry _ (sym c.if-contains_key.ensures)) in
    record { found = λ x. found_more c.as_bytes-2.result _ c.args.declaration.now c.args.first.now c.insert.new.self c.as_bytes-2.ensures.value refl new c.in_ok-insert.ensures.updates.0 x }
