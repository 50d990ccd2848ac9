-- What entering, branches, returns and leaving do to small stacks, computed by the definitions. Operands stand topmost first.
use Rattle.std.proofs.Common.{◌≡◌, ℕ, List, [], ◌∷◌, Some, None, refl}
use Rattle.w_types.specs.declared.value.Value.{Value}
use Rattle.w_types.specs.declared.value.Value.TheVariants.{I32}
use Rattle.w_segment.specs.declared.entry.Entry.TheVariants as entry
use Rattle.w_segment.specs.declared.entry.Stage.TheVariants.{Body}
use Rattle.w_segment.specs.Shape.{Shape, Capacity, Level, Label, Frame, Target, ReturnTarget, fresh_shape, label_at, frame_at}
use Rattle.w_segment.specs.Changes.{pushed_all, left, branched, returned, with_locals}
use Rattle.w_segment.specs.Entered.{entered}

-- a stack in the body of function f, at place p
abbrev in_body : ℕ → ℕ → List Level → List Value → Capacity → Shape
in_body f p ls vs c = record { levels = ls; operands = vs; func = f; place = p; stage = Body; capacity = c }

first_argument_is_lowest : (c : Capacity) → (pushed_all (I32 1 ∷ I32 2 ∷ []) (fresh_shape 7 c)).operands ≡ I32 2 ∷ I32 1 ∷ []
first_argument_is_lowest c = refl

parameters_are_the_first_locals : (c : Capacity)
    → entered (entry.Frame 9 2 3 1) (in_body 7 4 [] (I32 2 ∷ I32 1 ∷ I32 0 ∷ []) c)
    ≡ in_body 9 0 (Frame (I32 0 ∷ []) 1 (Some (I32 1) ∷ Some (I32 2) ∷ None ∷ []) 7 4 ∷ []) [] c
parameters_are_the_first_locals c = refl

a_label_takes_its_parameters_inside : (c : Capacity)
    → entered (entry.Label 1 2 30) (in_body 7 4 [] (I32 2 ∷ I32 1 ∷ []) c) ≡ in_body 7 4 (Label (I32 1 ∷ []) 2 30 ∷ []) (I32 2 ∷ []) c
a_label_takes_its_parameters_inside c = refl

a_label_is_left_with_all_operands : (c : Capacity)
    → left (in_body 7 4 (Label (I32 1 ∷ []) 0 30 ∷ []) (I32 3 ∷ I32 2 ∷ []) c) ≡ in_body 7 4 [] (I32 3 ∷ I32 2 ∷ I32 1 ∷ []) c
a_label_is_left_with_all_operands c = refl

a_frame_is_left_for_its_caller : (c : Capacity)
    → left (in_body 9 8 (Frame (I32 1 ∷ []) 1 [] 7 4 ∷ []) (I32 2 ∷ []) c) ≡ in_body 7 4 [] (I32 2 ∷ I32 1 ∷ []) c
a_frame_is_left_for_its_caller c = refl

-- a label in a label in a frame
abbrev within : List Level
within = Label (I32 5 ∷ []) 0 10 ∷ Label (I32 4 ∷ []) 1 20 ∷ Frame (I32 3 ∷ []) 1 [] 7 4 ∷ []

abbrev the_label_around : Target
the_label_around = record { below = I32 4 ∷ []; arity = 1; target = 20; outer = Frame (I32 3 ∷ []) 1 [] 7 4 ∷ [] }

abbrev the_frame_around : ReturnTarget
the_frame_around = record { below = I32 3 ∷ []; arity = 1; caller = 7; back = 4; outer = [] }

label_one_is_the_outer_one : label_at 1 within ≡ Some the_label_around
label_one_is_the_outer_one = refl

no_label_is_outside_the_frame : label_at 2 within ≡ None
no_label_is_outside_the_frame = refl

a_branch_keeps_its_arity : (c : Capacity)
    → branched the_label_around (in_body 9 8 within (I32 7 ∷ I32 6 ∷ []) c) ≡ in_body 9 20 (Frame (I32 3 ∷ []) 1 [] 7 4 ∷ []) (I32 7 ∷ I32 4 ∷ []) c
a_branch_keeps_its_arity c = refl

the_frame_is_around_its_labels : frame_at within ≡ Some the_frame_around
the_frame_is_around_its_labels = refl

a_return_keeps_its_arity : (c : Capacity)
    → returned the_frame_around.arity the_frame_around (in_body 9 8 within (I32 7 ∷ I32 6 ∷ []) c) ≡ in_body 7 4 [] (I32 7 ∷ I32 3 ∷ []) c
a_return_keeps_its_arity c = refl

a_tail_call_keeps_its_arguments : (c : Capacity)
    → returned 2 the_frame_around (in_body 9 8 within (I32 7 ∷ I32 6 ∷ []) c) ≡ in_body 7 4 [] (I32 7 ∷ I32 6 ∷ I32 3 ∷ []) c
a_tail_call_keeps_its_arguments c = refl

a_local_is_set_behind_labels : (c : Capacity)
    → with_locals 1 (I32 9) (in_body 9 8 (Label [] 0 10 ∷ Frame [] 1 (None ∷ None ∷ []) 7 4 ∷ []) [] c)
    ≡ in_body 9 8 (Label [] 0 10 ∷ Frame [] 1 (None ∷ Some (I32 9) ∷ []) 7 4 ∷ []) [] c
a_local_is_set_behind_labels c = refl
