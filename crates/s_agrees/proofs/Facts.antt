-- What is fixed in a script that breaks no rule: where names are among locals, that code has its temporaries, and how many there are of what is
-- written in place.
use Rattle.std.proofs.Common.{◌≡◌, ℕ, suc, ◌+◌, ◌<◌, ◌≤◌, List, length, Some}
use Rattle.std.specs.Prelude.{slice_get}
use Rattle.w_reduce.specs.Calls.{defaults}
use Rattle.s_syntax.specs.declared.name.Name.{Name}
use Rattle.s_syntax.specs.declared.script.VariableType.TheVariants.{Int, Resumption}
use Rattle.s_syntax.specs.declared.script.Parameter.{Parameter}
use Rattle.s_syntax.specs.declared.script.Function.{Function}
use Rattle.s_syntax.specs.declared.script.Clause.{Clause}
use Rattle.s_syntax.specs.declared.script.Handler.{Handler}
use Rattle.s_syntax.specs.declared.script.Slots.{Slots}
use Rattle.s_syntax.specs.declared.script.Declaration.{Declaration}
use Rattle.s_check.specs.Definitions.{function_of, handler_of, effect_of, slots_of}
use Rattle.s_code.specs.Layouts.{Layout, local_of}
use Rattle.s_code.specs.Handlers.{Placed}
use Rattle.s_code.specs.Places.{function_layout, function_locals, return_layout, placed_clauses, handler_temporaries, handler_locals}
use Rattle.s_code.specs.Temporaries.{high_block}
use Rattle.s_agrees.proofs.StandsFor.{Fine, WellBlock, own, handler_high, handler_room}

-- parameters are the first locals
pub record Parameters (Γ : Layout) (ps : List Parameter) : Type 0 where
  pub at : (j : ℕ) (q : Parameter) → slice_get ps j ≡ Some q → local_of Γ.names q.name ≡ Some (record { name = q.name; ty = q.ty; number = j })

-- names of numbers that are the locals from `first` on
pub record Names (Γ : Layout) (first : ℕ) (xs : List Name) : Type 0 where
  pub at : (j : ℕ) (x : Name) → slice_get xs j ≡ Some x → local_of Γ.names x ≡ Some (record { name = x; ty = Int; number = first + j })

pub record FunctionFacts (ds : List Declaration) (g : Function) : Type 0 where
  pub fine : Fine (function_layout ds g)
  pub parameters : Parameters (function_layout ds g) g.parameters
  pub well : WellBlock ds (function_layout ds g) (high_block g.body) g.body
  -- the locals behind the parameters
  pub room : (function_layout ds g).temporaries + high_block g.body ≡ length g.parameters + length (defaults (function_locals ds g))
  pub few : length g.parameters ≤ 8

-- a clause of the handler h, with its layout
pub record ClauseFacts (ds : List Declaration) (h : Name) (i : Handler) (c : Clause) (Γ : Layout) : Type 0 where
  pub fine : Fine Γ
  pub owner : Γ.owner ≡ Some (own h i)
  pub temporaries : Γ.temporaries ≡ handler_temporaries ds h i
  pub parameters : Parameters Γ i.parameters
  -- what the clause binds lies behind the parameters and what is handled
  pub first : ℕ
  pub behind : length i.parameters < first
  pub arguments : Names Γ first c.arguments
  pub resumption : local_of Γ.names c.resumption ≡ Some (record { name = c.resumption; ty = Resumption h; number = first + length c.arguments })
  pub well : WellBlock ds Γ (handler_high i) c.body
  pub few : length c.arguments ≤ 8
  pub effect : effect_of ds c.effect ≡ Some (length c.arguments)

pub record ReturnFacts (ds : List Declaration) (h : Name) (i : Handler) : Type 0 where
  pub fine : Fine (return_layout ds h i)
  pub parameters : Parameters (return_layout ds h i) i.parameters
  pub value : local_of (return_layout ds h i).names i.return_clause.value ≡ Some (record { name = i.return_clause.value; ty = Int; number = length i.parameters + 1 })
  pub well : WellBlock ds (return_layout ds h i) (handler_high i) i.return_clause.body

pub record HandlerFacts (ds : List Declaration) (h : Name) (i : Handler) : Type 0 where
  pub returns : ReturnFacts ds h i
  pub clauses : (j : ℕ) (q : Placed) → slice_get (placed_clauses ds h i) j ≡ Some q → ClauseFacts ds h i q.clause q.layout
  -- the locals behind the parameters and what is handled
  pub room : handler_room ds h i ≡ suc (length i.parameters) + length (defaults (handler_locals ds h i))
  pub few : length i.parameters ≤ 8
  pub few_clauses : length i.clauses ≤ 16

pub record Facts (ds : List Declaration) : Type 0 where
  pub functions : (f : Name) (g : Function) → function_of ds f ≡ Some g → FunctionFacts ds g
  pub handlers : (h : Name) (i : Handler) → handler_of ds h ≡ Some i → HandlerFacts ds h i
  pub slots : (s : Name) (d : Slots) → slots_of ds s ≡ Some d → d.places.value ≤ 65536
