-- What is written of a handle and of a resume, part by part.
use Rattle.std.proofs.Common.{◌≡◌, ℕ, ◌+◌, List, ◌++◌, length, sym, ap, ◌∙◌}
use Rattle.w_syntax.specs.declared.instructions.Token.{Token}
use Rattle.w_syntax.specs.Code.{Code, Plain}
use Rattle.w_syntax.specs.Expr.{tokens}
use Rattle.s_syntax.specs.declared.name.Name.{Name}
use Rattle.s_syntax.specs.declared.script.Declaration.{Declaration}
use Rattle.s_syntax.specs.ExprTree.{ExprTree, Handle, Resume, exprs}
use Rattle.s_check.specs.Rules.{count}
use Rattle.s_index.specs.Numbers.{handler_index}
use Rattle.s_code.specs.Instructions.{call, local_get, local_set, branch}
use Rattle.s_code.specs.Expressions.{reload, begin, wake, expr, args, set_aside, set_parameters, tail_resume, handler_index_of}
use Rattle.s_code.specs.Layouts.{Layout, handler_of_name, owner_parameters}
use Rattle.s_code.specs.Writes.{Writes}
use Rattle.s_code.proofs.Sizes.{count_exprs}

-- code c is written as far as o, behind o0
abbrev pub Written : List Token → (Code → Code) → List Token → Type 0
Written o0 code o = (c : Code) → Writes o0 (code c) o c

pub handle_written : (ds : List Declaration) (Γ : Layout) (t : ℕ) (f h : Name) (these these' those those' : List ExprTree) (n index : ℕ) (o0 o1 o2 o3 o4 o5 : List Token)
    → these' ≡ these → those' ≡ those → n ≡ length these' → index ≡ handler_index ds h
    → Written o0 (set_aside ds Γ t (exprs these')) o1
    → Written o1 (args ds Γ (t + n) (exprs those')) o2
    → Written o2 (reload Γ t (exprs these')) o3
    → Written o3 (begin ds f) o4
    → Written o4 (Plain (call index)) o5
    → Written o0 (expr ds Γ t (Handle f (exprs these) h (exprs those))) o5
handle_written ds Γ t f h these these' those those' n index o0 o1 o2 o3 o4 o5 a p is at s1 s2 s3 s4 s5 k =
    let called : Code = Plain (call (handler_index ds h)) k in
    let reloaded : Code = reload Γ t (exprs these') (begin ds f called) in
    ap (λ (es : List ExprTree). o0 ++ tokens (expr ds Γ t (Handle f (exprs es) h (exprs those)) k)) (sym a)
    ∙ ap (λ (es : List ExprTree). o0 ++ tokens (expr ds Γ t (Handle f (exprs these') h (exprs es)) k)) (sym p)
    ∙ s1 (args ds Γ (t + count (exprs these')) (exprs those') reloaded)
    ∙ ap (λ (m : ℕ). o1 ++ tokens (args ds Γ (t + m) (exprs those') reloaded)) (count_exprs these' ∙ sym is)
    ∙ s2 reloaded ∙ s3 (begin ds f called) ∙ s4 called
    ∙ ap (λ (x : ℕ). o4 ++ tokens (Plain (call x) k)) (sym at)
    ∙ s5 k

pub resume_written : (ds : List Declaration) (Γ : Layout) (t : ℕ) (x : Name) (e e' : ExprTree) (those those' : List ExprTree) (n index : ℕ) (o0 o1 o2 o3 o4 o5 o6 : List Token)
    → e' ≡ e → those' ≡ those → n ≡ Γ.temporaries + t → index ≡ handler_index_of ds (handler_of_name Γ x)
    → Written o0 (expr ds Γ t e') o1
    → Written o1 (Plain (local_set n)) o2
    → Written o2 (args ds Γ (t + 1) (exprs those')) o3
    → Written o3 (Plain (local_get n)) o4
    → Written o4 (wake Γ x) o5
    → Written o5 (Plain (call index)) o6
    → Written o0 (expr ds Γ t (Resume x e (exprs those))) o6
resume_written ds Γ t x e e' those those' n index o0 o1 o2 o3 o4 o5 o6 a p is at s1 s2 s3 s4 s5 s6 k =
    let called : Code = Plain (call (handler_index_of ds (handler_of_name Γ x))) k in
    let woken : Code = wake Γ x called in
    let got : Code = Plain (local_get (Γ.temporaries + t)) woken in
    ap (λ (d : ExprTree). o0 ++ tokens (expr ds Γ t (Resume x d (exprs those)) k)) (sym a)
    ∙ ap (λ (es : List ExprTree). o0 ++ tokens (expr ds Γ t (Resume x e' (exprs es)) k)) (sym p)
    ∙ s1 (Plain (local_set (Γ.temporaries + t)) (args ds Γ (t + 1) (exprs those') got))
    ∙ ap (λ (m : ℕ). o1 ++ tokens (Plain (local_set m) (args ds Γ (t + 1) (exprs those') got))) (sym is)
    ∙ s2 (args ds Γ (t + 1) (exprs those') got) ∙ s3 got
    ∙ ap (λ (m : ℕ). o3 ++ tokens (Plain (local_get m) woken)) (sym is)
    ∙ s4 woken ∙ s5 called
    ∙ ap (λ (m : ℕ). o5 ++ tokens (Plain (call m) k)) (sym at)
    ∙ s6 k

pub tail_written : (ds : List Declaration) (Γ : Layout) (D : ℕ) (x : Name) (e : ExprTree) (those : List ExprTree) (n n' m m' : ℕ) (o0 o1 o2 o3 o4 o5 o6 o7 o8 : List Token)
    → n ≡ Γ.temporaries → n' ≡ Γ.temporaries → m ≡ owner_parameters Γ.owner → m' ≡ owner_parameters Γ.owner
    → Written o0 (expr ds Γ 0 e) o1
    → Written o1 (Plain (local_set n)) o2
    → Written o2 (args ds Γ 1 (exprs those)) o3
    → Written o3 (Plain (local_get n')) o4
    → Written o4 (wake Γ x) o5
    → Written o5 (Plain (local_set m)) o6
    → Written o6 (set_parameters m') o7
    → Written o7 (Plain (branch D)) o8
    → Written o0 (tail_resume ds Γ D x e (exprs those)) o8
tail_written ds Γ D x e those n n' m m' o0 o1 o2 o3 o4 o5 o6 o7 o8 is is' at at' s1 s2 s3 s4 s5 s6 s7 s8 k =
    let again : Code = Plain (branch D) k in
    let set : Code = set_parameters (owner_parameters Γ.owner) again in
    let kept : Code = Plain (local_set (owner_parameters Γ.owner)) set in
    let got : Code = Plain (local_get Γ.temporaries) (wake Γ x kept) in
    s1 (Plain (local_set Γ.temporaries) (args ds Γ 1 (exprs those) got))
    ∙ ap (λ (i : ℕ). o1 ++ tokens (Plain (local_set i) (args ds Γ 1 (exprs those) got))) (sym is)
    ∙ s2 (args ds Γ 1 (exprs those) got) ∙ s3 got
    ∙ ap (λ (i : ℕ). o3 ++ tokens (Plain (local_get i) (wake Γ x kept))) (sym is')
    ∙ s4 (wake Γ x kept) ∙ s5 kept
    ∙ ap (λ (i : ℕ). o5 ++ tokens (Plain (local_set i) set)) (sym at)
    ∙ s6 set
    ∙ ap (λ (i : ℕ). o6 ++ tokens (set_parameters i again)) (sym at')
    ∙ s7 again ∙ s8 k
