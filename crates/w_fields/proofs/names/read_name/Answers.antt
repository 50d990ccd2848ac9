use Rattle.std.proofs.Common.{◌∙◌, sym, List, ℕ, Some, drop, ap, arith}
use Rattle.w_fields.proofs.Utf8.{no_bytes, utf8_name, no_utf8_name}
use Rattle.w_fields.proofs.names.read_name.Goals as goal

pub returns-in_default : goal.returns-in_default
returns-in_default c = no_bytes (drop c.args.at c.args.bytes.now) c.in_default.ensures

pub returns-in_default-from_utf8 : goal.returns-in_default-from_utf8
returns-in_default-from_utf8 c = no_utf8_name (drop c.args.at c.args.bytes.now) _ _ c.in-Some.ensures.0 c.in_default-from_utf8.ensures.cases.0

pub returns : goal.returns
returns c =
    let text = c.new.ensures ∙ c.in_ok-from_str.ensures.ok ∙ c.in-Ok.ensures.cases.0 in
    let there = drop c.in-Some.end c.args.bytes.now in (
      utf8_name (drop c.args.at c.args.bytes.now) _ there c.in-Some.ensures.0 c.in-Ok.ensures.cases.1 ∙ ap (λ (n : List ℕ). Some (n, there)) (sym text),
      omega (arith, c.in-Some.ensures.1, c.in-Some.ensures.2),
      c.in-Some.ensures.3,
    )
