-- Addresses as the definition of linking has them.
use Rattle.std.specs.Prelude.{ℕ, List, [], ◌∷◌, flat_map}
use Rattle.w_linked.specs.Imports.{function, table, memory, global, tag}
use Rattle.w_linked.specs.Imports as linked
use Rattle.w_placing.specs.declared.address.Address.{Address}
use Rattle.w_placing.specs.declared.address.Address.TheVariants as address
use Rattle.w_placing.specs.declared.address.AddressKind.{AddressKind}
use Rattle.w_placing.specs.declared.address.AddressKind.TheVariants as kind

abbrev pub stands : Address → linked.Address
stands (address.Function a) = function a
stands (address.Table a) = table a
stands (address.Memory a) = memory a
stands (address.Global a) = global a
stands (address.Tag a) = tag a

-- its number, where it is of this kind
abbrev pub of_kind : AddressKind → Address → List ℕ
of_kind kind.Function (address.Function a) = a ∷ []
of_kind kind.Table (address.Table a) = a ∷ []
of_kind kind.Memory (address.Memory a) = a ∷ []
of_kind kind.Global (address.Global a) = a ∷ []
of_kind kind.Tag (address.Tag a) = a ∷ []
of_kind k a = []

abbrev pub numbers_of : AddressKind → List Address → List ℕ
numbers_of k found = flat_map (of_kind k) found
