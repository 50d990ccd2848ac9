-- What an action gives of bytes, by what they are to it.
use Rattle.std.proofs.Common.{◌≡◌, ℕ, Bool, true, false, List, refl, sym, ap, subst, ◌∙◌}
use Rattle.words.specs.Request.{taken_by}
use Rattle.words.specs.declared.request.Action.{Action}
use Rattle.words.specs.declared.request.Takes.{Takes}
use Rattle.words.specs.declared.request.Takes.TheVariants.{ModulesAndScripts, Modules, Texts}
use Rattle.replies.specs.declared.file_kind.FileKind.{FileKind}
use Rattle.replies.specs.declared.file_kind.FileKind.TheVariants as file
use Rattle.replies.specs.Answer.{Reply, GivenAs, ActionGives, is_module, kind_among, kind_of, module_or_script}

-- what begins as no module is a script to an action that takes scripts
pub is_then_script : (action : Action) (bytes : List ℕ) → taken_by action ≡ ModulesAndScripts → is_module bytes ≡ false → kind_of (taken_by action) bytes ≡ file.Script
is_then_script action bytes takes e = ap (λ (t : Takes). kind_among t (is_module bytes)) takes ∙ ap module_or_script e

-- a script is one to such an action alone
pub takes_it : (action : Action) (bytes : List ℕ) → kind_of (taken_by action) bytes ≡ file.Script → taken_by action ≡ ModulesAndScripts
takes_it action bytes e = by (taken_by action) e
  where
    by : (t : Takes) → kind_among t (is_module bytes) ≡ file.Script → t ≡ ModulesAndScripts
    by ModulesAndScripts e = refl
    by Modules e = absurd cc
    by Texts e = absurd cc

-- a text is none to such an action
pub no_text : (begins : Bool) → module_or_script begins ≡ file.Text → ⊥
no_text true e = absurd cc
no_text false e = absurd cc

-- what an action gives of bytes is what it gives of those of their kind
pub given_as : (action : Action) (bytes : List ℕ) (kind : FileKind) → kind_of (taken_by action) bytes ≡ kind → (r : Reply) → GivenAs kind action bytes r → ActionGives action bytes r
given_as action bytes kind e r h = subst (λ (k : FileKind). GivenAs k action bytes r) (sym e) h

pub given_of : (action : Action) (bytes : List ℕ) (kind : FileKind) → kind_of (taken_by action) bytes ≡ kind → (r : Reply) → ActionGives action bytes r → GivenAs kind action bytes r
given_of action bytes kind e r h = subst (λ (k : FileKind). GivenAs k action bytes r) e h
