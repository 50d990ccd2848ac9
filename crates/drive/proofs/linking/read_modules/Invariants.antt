use Rattle.std.proofs.Common.{◌≡◌, ◌≤◌, ℕ, List}
use Rattle.drive.specs.Linking.{ReadTo, names_of}
use Rattle.drive.proofs.linking.read_modules.Given as goal

-- the files so far are read
abbrev pub invariant-loop-name : goal.invariant-loop-name
invariant-loop-name g l =
    let file = g.F.Inputs.file in
    record {
      read : ReadTo (names_of l.names) (file l.fn.files) l.name-index l.modules.items;
      names : (n : List ℕ) → file l.files n ≡ file l.fn.files n;
      later : g.F.Inputs.faults l.fn.files ≤ g.F.Inputs.faults l.files;
    }
