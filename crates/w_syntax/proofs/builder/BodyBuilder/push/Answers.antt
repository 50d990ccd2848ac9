use Rattle.std.proofs.Common.{◌≡◌, ℕ, length, List, [], ◌∷◌, ◌++◌, refl, sym, ap, ◌∙◌, rules, set}
use Rattle.std.proofs.lemmas.List.{nil_from_length}
use Rattle.w_syntax.specs.Code.{Done}
use Rattle.w_syntax.specs.declared.instructions.Instr.{Instr}
use Rattle.w_syntax.specs.declared.instructions.Instr.TheVariants as flat
use Rattle.w_syntax.specs.declared.builder.Open.{Open}
use Rattle.w_syntax.specs.declared.builder.Open.TheVariants as opn
use Rattle.w_syntax.specs.declared.packed.PackedInstr.TheVariants as packed
use Rattle.w_syntax.specs.Expr.{step}
use Rattle.w_syntax.specs.Builds.{heads}
use Rattle.w_syntax.specs.Packed.{unpacked_all}
use Rattle.w_syntax.proofs.PackedLists.{unpacked_push, unpacked_set, unpacked_length}
use Rattle.w_syntax.proofs.Steps.{plain_laid, block_laid, if_laid, here_is, head_within, ended, turned, no_else, else_none, end_none, pushed, builds_after}
use Rattle.w_syntax.proofs.builder.BodyBuilder.push.Goals as goal

pub returns-in_ok-push-in-Plain : goal.returns-in_ok-push-in-Plain
unfolding step
returns-in_ok-push-in-Plain c = λ p d s.
    let put = unpacked_push _ _ _ c.in_ok-push-in-Plain.ensures.items ∙ ap (λ (i : Instr). unpacked_all c.args.self.now.code.items ++ i ∷ []) c.in_ok-packed-in-Plain.ensures in
    rw c.in-Plain.is (refl, record { code = put ∙ plain_laid p d c.in-Plain.op (unpacked_all c.args.self.now.code.items) s.code; opens = s.opens })

pub returns-in_ok-push-in-Block-2 : goal.returns-in_ok-push-in-Block-2
unfolding step heads
returns-in_ok-push-in-Block-2 c = λ p d s.
    let here : c.len-here.result ≡ length (unpacked_all c.args.self.now.code.items) = (search rules) ∙ sym (unpacked_length c.args.self.now.code.items) in
    rw c.in-Block.is (
      refl,
      record {
        code = unpacked_push _ _ _ c.in_ok-push-in-Block-2.ensures.items ∙ block_laid p d c.in-Block.kind c.in-Block.block (unpacked_all c.args.self.now.code.items) s.code;
        opens = c.in_ok-push-in-Block.ensures.items ∙ pushed c.args.self.now.opens.items (heads p) (opn.Block c.in-Block.kind c.in-Block.block) c.len-here.result _ s.opens (here ∙ here_is p d (unpacked_all c.args.self.now.code.items) s.code);
      },
    )

pub returns-in_ok-push-in-If-2 : goal.returns-in_ok-push-in-If-2
unfolding step heads
returns-in_ok-push-in-If-2 c = λ p d s.
    let here : c.len-here.result ≡ length (unpacked_all c.args.self.now.code.items) = (search rules) ∙ sym (unpacked_length c.args.self.now.code.items) in
    rw c.in-If.is (
      refl,
      record {
        code = unpacked_push _ _ _ c.in_ok-push-in-If-2.ensures.items ∙ if_laid p d c.in-If.block (unpacked_all c.args.self.now.code.items) s.code;
        opens = c.in_ok-push-in-If.ensures.items ∙ pushed c.args.self.now.opens.items (heads p) (opn.Then c.in-If.block) c.len-here.result _ s.opens (here ∙ here_is p d (unpacked_all c.args.self.now.code.items) s.code);
      },
    )

pub returns-in_default : goal.returns-in_default
unfolding step
returns-in_default c = λ p d s.
    let none : length c.args.self.now.opens.items ≡ 0 = search rules in
    rw (c.in-Else.is, else_none p d (sym s.opens ∙ nil_from_length c.args.self.now.opens.items none)) refl

pub returns-in_default-last : goal.returns-in_default-last
unfolding step
returns-in_default-last c = λ p d s. rw (c.in-Else.is, no_else p d c.pop.new.self.items c.in-Some.last (sym s.opens ∙ c.in-Some.ensures.items) c.in_default-last.not-Then) refl

pub returns-in_ok-push-in-Else-2 : goal.returns-in_ok-push-in-Else-2
unfolding step
returns-in_ok-push-in-Else-2 c = λ p d s.
    let here : c.len-here.result ≡ length (unpacked_all c.args.self.now.code.items) = (search rules) ∙ sym (unpacked_length c.args.self.now.code.items) in
    let top : heads p ≡ c.pop.new.self.items ++ opn.Then c.in-Then.block c.in-Then.head ∷ [] = sym s.opens ∙ c.in-Some.ensures.items ∙ ap (λ (o : Open). c.pop.new.self.items ++ o ∷ []) c.in-Then.is in
    let t = turned p d c.pop.new.self.items c.in-Then.block c.in-Then.head (unpacked_all c.args.self.now.code.items) c.len-here.result (s.code, top, here) in
    rw (c.in-Else.is, t.1) (
      refl,
      builds_after t.0 Done _ _ packed.Else _ c.in_ok-push-in-Else-2.ensures.items t.2 c.in_ok-push-in-Else.ensures.items t.3,
    )

pub returns-in_default-pop : goal.returns-in_default-pop
unfolding step
returns-in_default-pop c = λ p d s.
    let none : length c.args.self.now.opens.items ≡ 0 = search rules in
    let t = end_none p d (sym s.opens ∙ nil_from_length c.args.self.now.opens.items none) in
    rw (c.in-End.is, t.0) (refl, record { code = unpacked_push _ _ _ c.in_ok-push-in-End.ensures.items ∙ ap (λ (l : List Instr). l ++ flat.End ∷ []) (s.code ∙ t.1) })

pub replace-requires : goal.replace-requires
replace-requires c =
    let s = c.requires in
    let long = unpacked_length c.args.self.now.code.items in
    let here : c.len-here.result ≡ length (unpacked_all c.args.self.now.code.items) = (search rules) ∙ sym long in
    let top : heads s.0 ≡ c.pop-in-End.new.self.items ++ c.in-Some-pop.last ∷ [] = sym s.2.opens ∙ c.in-Some-pop.ensures.items in
    rw (c.closed-head.ensures, ← long) (head_within s.0 s.1 c.pop-in-End.new.self.items c.in-Some-pop.last (unpacked_all c.args.self.now.code.items) c.len-here.result (s.2.code, top, here))

pub returns-in_ok-push-in-End-2 : goal.returns-in_ok-push-in-End-2
unfolding step
returns-in_ok-push-in-End-2 c = λ p d s.
    let here : c.len-here.result ≡ length (unpacked_all c.args.self.now.code.items) = (search rules) ∙ sym (unpacked_length c.args.self.now.code.items) in
    let top : heads p ≡ c.pop-in-End.new.self.items ++ c.in-Some-pop.last ∷ [] = sym s.opens ∙ c.in-Some-pop.ensures.items in
    let t = ended p d c.pop-in-End.new.self.items c.in-Some-pop.last (unpacked_all c.args.self.now.code.items) c.len-here.result (s.code, top, here) in
    let put = ap unpacked_all c.replace.ensures ∙ unpacked_set c.args.self.now.code.items c.closed-head.result.0 _ ∙ ap (λ (i : Instr). set (unpacked_all c.args.self.now.code.items) c.closed-head.result.0 i) c.in_ok-packed-in-End.ensures
    ∙ ap (λ (x : ℕ × Instr). set (unpacked_all c.args.self.now.code.items) x.0 x.1) c.closed-head.ensures in
    rw (c.in-End.is, t.2) (
      refl,
      builds_after t.0 t.1 _ _ packed.End _ c.in_ok-push-in-End-2.ensures.items (ap (λ (l : List Instr). l ++ flat.End ∷ []) put ∙ t.3) refl t.4,
    )
