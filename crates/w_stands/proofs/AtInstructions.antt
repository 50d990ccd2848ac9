-- What stands at a place where an instruction is, and how a stack goes on from there.
use Rattle.std.proofs.Common.{◌≡◌, ℕ, suc, List, Some, slice_get, refl, sym, ap, subst}
use Rattle.w_syntax.specs.Code.{Code, Plain}
use Rattle.w_syntax.specs.declared.instructions.Instr.{Instr}
use Rattle.w_syntax.specs.declared.instructions.Instr.TheVariants as flat
use Rattle.w_syntax.specs.declared.instructions.Op.{Op}
use Rattle.w_syntax.specs.declared.module.Module.{Module}
use Rattle.w_segment.specs.declared.entry.Stage.TheVariants.{Body}
use Rattle.w_segment.specs.Shape.{Shape, Level}
use Rattle.w_reduce.specs.Terms.{Rest, rest_of, Context}
use Rattle.w_stands.specs.Code.{instrs, IsMark, Reads, stop, plain, block, choice, choices}
use Rattle.w_stands.specs.Stands.{LevelsAre, StackIs, body, left, fresh, values}

-- a stack in a body
pub record Here (m : Module) (outer : Context) (behind : Rest) (s : Shape) (e : Context) (r : Rest) : Type 0 where
  pub end : ℕ
  pub code : Code
  pub rest : r ≡ rest_of code
  pub reads : Reads (instrs m s.func) s.place code end
  pub around : LevelsAre m outer behind s.func end s.levels e

pub here : {m : Module} {outer : Context} {behind : Rest} {s : Shape} {e : Context} {r : Rest} → StackIs m outer behind s e r → s.stage ≡ Body → Here m outer behind s e r
here (body {q = q} {c = c} g k w) h = record { end = q; code = c; rest = refl; reads = k; around = w }
here (left g k w) h = absurd cc
here (fresh g k) h = absurd cc
here (values g k) h = absurd cc

-- a plain instruction, and what follows it
pub record ShowsPlain (xs : List Instr) (p : ℕ) (c : Code) (q : ℕ) (o : Op) : Type 0 where
  pub following : Code
  pub is : c ≡ Plain o following
  pub reads : Reads xs (suc p) following q

pub shows_plain : {is : List Instr} {p q : ℕ} {c : Code} (o : Op) → Reads is p c q → slice_get is p ≡ Some (flat.Plain o) → ShowsPlain is p c q o
shows_plain o (stop m) g = absurd (subst IsMark g m)
shows_plain {is} {p} {q} o (plain {o = u} {c = c} h r) g =
    let e : flat.Plain u ≡ flat.Plain o = cc in
    let f : u ≡ o = cc e in
    record { following = c; is = ap (λ (v : Op). Plain v c) f; reads = r }
shows_plain o (block h x z r) g = absurd cc
shows_plain o (choice h x z r) g = absurd cc
shows_plain o (choices h x t y z r) g = absurd cc

-- the same code at another place of the body, with other levels
pub onward : {m : Module} {outer : Context} {behind : Rest} {s : Shape} {e : Context} {c : Code} {q : ℕ} (f p : ℕ) (ls : List Level) → Reads (instrs m f) p c q →
    LevelsAre m outer behind f q ls e → s.stage ≡ Body → s.func ≡ f → s.place ≡ p → s.levels ≡ ls → StackIs m outer behind s e (rest_of c)
onward {m} {outer} {behind} {s} {e} {c} {q} f p ls r w a b g l =
    body a (subst (λ (x : ℕ). Reads (instrs m s.func) x c q) (sym g) (subst (λ (x : ℕ). Reads (instrs m x) p c q) (sym b) r))
    (subst (λ (x : List Level). LevelsAre m outer behind s.func q x e) (sym l) (subst (λ (x : ℕ). LevelsAre m outer behind x q ls e) (sym b) w))
