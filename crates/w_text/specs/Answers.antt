-- What is answered of a text.
use Rattle.std.specs.Prelude.{◌≡◌, ◌⊎◌, Result, Err}
use Rattle.w_syntax.specs.declared.module.Module.{Module}
use Rattle.w_text.specs.declared.fault.TextFault.{TextFault}
use Rattle.w_text.specs.declared.fault.TextFault.TheVariants as fault

-- this answer, or want of memory
abbrev pub IsAnswer : Result Module TextFault → Result Module TextFault → Type 0
IsAnswer r result = (result ≡ r) ⊎ (result ≡ Err fault.OutOfMemory)
