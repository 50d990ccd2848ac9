-- The code of coroutines. A group is a resume whose one clause lets coroutines switch on the tag of groups.
use Rattle.std.specs.Prelude.{List, [], ◌∷◌}
use Rattle.w_syntax.specs.Code.{Code, Plain}
use Rattle.w_syntax.specs.declared.instructions.Clause.TheVariants.{Switch}
use Rattle.s_syntax.specs.declared.name.Name.{Name}
use Rattle.s_syntax.specs.declared.script.Declaration.{Declaration}
use Rattle.s_index.specs.Numbers.{function_index, group_tag_index}
use Rattle.s_index.specs.Types.{resumption_type, coroutine_type}
use Rattle.s_code.specs.Instructions.{local_get, local_set, function_reference, new_continuation, resume, switch}
use Rattle.s_code.specs.Layouts.{Layout, local_number}

-- `group f(e)` behind e: a function of a number has the type of resumptions
abbrev pub group_code : List Declaration → Name → Code → Code
group_code ds f c =
    Plain (function_reference (function_index ds f))
    (Plain (new_continuation resumption_type) (Plain (resume resumption_type (Switch (group_tag_index ds) ∷ [])) c))

-- `spawn t = f;`
abbrev pub spawn_code : List Declaration → Layout → Name → Name → Code → Code
spawn_code ds Γ t f c =
    Plain (function_reference (function_index ds f)) (Plain (new_continuation coroutine_type) (Plain (local_set (local_number Γ t)) c))

-- `switch x, u = t(e);` behind e: the coroutine that switches back is on top of the number that it gives
abbrev pub switch_code : List Declaration → Layout → Name → Name → Name → Code → Code
switch_code ds Γ x u t c =
    Plain (local_get (local_number Γ t))
    (Plain (switch coroutine_type (group_tag_index ds)) (Plain (local_set (local_number Γ u)) (Plain (local_set (local_number Γ x)) c)))
