-- What holds of each type of groups.
use Rattle.std.proofs.Common.{List, [], ◌∷◌, ◌++◌, map}
use Rattle.std.specs.Prelude.{All}
use Rattle.std.proofs.lemmas.List.Elements.{All-nil, All-cons, All-head, All-tail, All-append}
use Rattle.w_types.specs.declared.types.CompType.{CompType}
use Rattle.w_types.specs.declared.types.SubType.{SubType}
use Rattle.w_types.specs.declared.types.RecGroup.{RecGroup}
use Rattle.w_types.specs.Groups.{subtypes_of, composite_of, types_of}

all_front : {X : Type 0} (P : X → Type 0) (xs ys : List X) → All P (xs ++ ys) → All P xs
all_front P [] ys h = All-nil P
all_front P (x ∷ xs) ys h = All-cons P x xs (All-head P x (xs ++ ys) h) (all_front P xs ys (All-tail P x (xs ++ ys) h))

all_behind : {X : Type 0} (P : X → Type 0) (xs ys : List X) → All P (xs ++ ys) → All P ys
all_behind P [] ys h = h
all_behind P (x ∷ xs) ys h = all_behind P xs ys (All-tail P x (xs ++ ys) h)

-- of the composite type of a type
abbrev pub OfComposite : (CompType → Type 0) → SubType → Type 0
OfComposite P t = P t.composite

-- it holds of each type of each group
abbrev pub EachGroup : (CompType → Type 0) → List RecGroup → Type 0
EachGroup P gs = All (λ (g : RecGroup). All (OfComposite P) g.types) gs

all_mapped : (P : CompType → Type 0) (ts : List SubType) → All (OfComposite P) ts → All P (map composite_of ts)
all_mapped P [] h = All-nil P
all_mapped P (t ∷ ts) h = All-cons P t.composite (map composite_of ts) (All-head (OfComposite P) t ts h) (all_mapped P ts (All-tail (OfComposite P) t ts h))

all_unmapped : (P : CompType → Type 0) (ts : List SubType) → All P (map composite_of ts) → All (OfComposite P) ts
all_unmapped P [] h = All-nil (OfComposite P)
all_unmapped P (t ∷ ts) h = All-cons (OfComposite P) t ts (All-head P t.composite (map composite_of ts) h) (all_unmapped P ts (All-tail P t.composite (map composite_of ts) h))

all_subtypes : (Q : SubType → Type 0) (gs : List RecGroup) → All (λ (g : RecGroup). All Q g.types) gs → All Q (subtypes_of gs)
unfolding subtypes_of
all_subtypes Q [] h = All-nil Q
all_subtypes Q (g ∷ gs) h =
    All-append Q g.types (subtypes_of gs) (All-head (λ (x : RecGroup). All Q x.types) g gs h) (all_subtypes Q gs (All-tail (λ (x : RecGroup). All Q x.types) g gs h))

all_in_groups : (Q : SubType → Type 0) (gs : List RecGroup) → All Q (subtypes_of gs) → All (λ (g : RecGroup). All Q g.types) gs
unfolding subtypes_of
all_in_groups Q [] h = All-nil (λ (x : RecGroup). All Q x.types)
all_in_groups Q (g ∷ gs) h =
    All-cons (λ (x : RecGroup). All Q x.types) g gs (all_front Q g.types (subtypes_of gs) h) (all_in_groups Q gs (all_behind Q g.types (subtypes_of gs) h))

pub all_types : (P : CompType → Type 0) (gs : List RecGroup) → EachGroup P gs → All P (types_of gs)
all_types P gs h = all_mapped P (subtypes_of gs) (all_subtypes (OfComposite P) gs h)

pub all_groups : (P : CompType → Type 0) (gs : List RecGroup) → All P (types_of gs) → EachGroup P gs
all_groups P gs h = all_in_groups (OfComposite P) gs (all_unmapped P (subtypes_of gs) h)
