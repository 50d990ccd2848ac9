use Rattle.std.proofs.Common.{◌≡◌, ◌∙◌, subst, rules, string_bytes}
use Rattle.std.specs.Str.{IsUtf8}
use Rattle.std.proofs.lemmas.Str.{IsUtf8-string_bytes}
use Rattle.w_words.proofs.HexadecimalWords.{is_name}
use Rattle.w_words.proofs.hexadecimal.as_name.Goals as goal

pub returns-in-Ok : goal.returns-in-Ok
returns-in-Ok c =
    let same : string_bytes c.in-Ok.text ≡ c.args.bytes = search rules in
    is_name c.args.bytes c.new.result (subst IsUtf8 same (IsUtf8-string_bytes c.in-Ok.text)) (c.new.ensures ∙ same)
