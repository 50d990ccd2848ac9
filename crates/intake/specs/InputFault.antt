-- The fault of an input that a fault of the outside is.
use Rattle.w_outside.specs.declared.traits.Fault.{Fault}
use Rattle.w_outside.specs.declared.traits.Fault.TheVariants as fault
use Rattle.intake.specs.declared.input.InputFault.{InputFault}
use Rattle.intake.specs.declared.input.InputFault.TheVariants.{Failed, OutOfMemory}

abbrev pub input_fault_of : Fault → InputFault
input_fault_of fault.Failed = Failed
input_fault_of fault.OutOfMemory = OutOfMemory
