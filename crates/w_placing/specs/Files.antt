-- Files that are placed, as the definition of linking has them.
use Rattle.std.specs.Prelude.{◌≡◌, ℕ, suc, List, [], ◌∷◌, map, string_bytes}
use Rattle.w_link.specs.Resolved.{Instance}
use Rattle.w_linked.specs.Imports.{Placed, file_name}
use Rattle.w_placing.specs.declared.exports.File.{File}

-- file f is this one
pub record IsFile (f : ℕ) (x : File) (p : Placed) : Type 0 where
  pub name : string_bytes x.name ≡ file_name f
  pub exports : x.exports ≡ p.source.exports
  pub instance : x.instance ≡ p.instance

-- the files from number f on are these
abbrev pub AreFiles : ℕ → List File → List Placed → Type 0
AreFiles f [] [] = Unit {0}
AreFiles f [] (p ∷ ps) = ⊥
AreFiles f (x ∷ xs) [] = ⊥
AreFiles f (x ∷ xs) (p ∷ ps) = IsFile f x p × AreFiles (suc f) xs ps

abbrev pub instances_of : List File → List Instance
instances_of xs = map (λ (x : File). x.instance) xs
