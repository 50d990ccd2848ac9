-- Exits of labels, frames and handles (Core, execution, control instructions and function calls; stack-switching explainer, execution).
use Rattle.std.specs.Prelude.{nat_eq, if◌then◌else◌, [], ◌∷◌}
use Rattle.lists.specs.Rows.{Row, ◌⧺◌, size}
use Rattle.w_reduce.specs.Values.{Val}
use Rattle.w_reduce.specs.Store.{Store}
use Rattle.w_reduce.specs.Terms.{rest_of, Label, Frame, Handle, Context}
use Rattle.w_reduce.specs.Reduced.{Reduced, Ended, Stuck, steps_to}

abbrev pub leave : Store → Context → Row Val → Reduced
leave s [] vs = Ended vs
-- [Step_pure/label-vals]
-- label_n{again} v* end  ↪  v*
leave s (Label below n again rest ∷ e) vs = steps_to s e (below ⧺ vs) (rest_of rest)
-- [Step_pure/frame-vals]
-- frame_n{} v^n end  ↪  v^n
leave s (Frame below n f locals rest ∷ e) vs = if nat_eq (size vs) n then steps_to s e (below ⧺ vs) rest else Stuck
-- handle{hdl*} v* end  ↪  v*
leave s (Handle below hs rest ∷ e) vs = steps_to s e (below ⧺ vs) (rest_of rest)
