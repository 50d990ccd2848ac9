use Rattle.std.proofs.Common.{◌≡◌, drop, length}
use Rattle.std.specs.List.{sum}
use Rattle.w_outside.specs.Outside.{holds}
use Rattle.drive.specs.Linking.{ReadTo}
use Rattle.handing.specs.Files.{files_of}
use Rattle.handing.proofs.links.read_files.Given as goal

-- the files so far are read, and the others stand behind them
abbrev pub invariant-loop-length : goal.invariant-loop-length
invariant-loop-length l =
    record {
      read : ReadTo (files_of l.lengths l.bytes) holds l.length-index l.modules.items;
      behind : drop l.length-index (files_of l.lengths l.bytes) ≡ files_of (drop l.length-index l.lengths) l.rest;
      room : sum (drop l.length-index l.lengths) ≡ length l.rest;
    }
