-- The module of a script that breaks no rule is valid.
use Rattle.w_rules.specs.Spaces.{context_of}
use Rattle.w_rules.specs.Valid.{Valid}
use Rattle.s_syntax.specs.declared.script.Script.{Script}
use Rattle.s_check.specs.Refusal.{Good}
use Rattle.s_code.specs.Lowered.{lowered}
use Rattle.s_valid.proofs.GoodBodies.{good_function_typed, good_handler_typed}
use Rattle.s_valid.proofs.ModuleItems.{valid_where_typed}
use Rattle.s_valid.proofs.ModuleOffers.{module_offers}

pub lowered_valid : (p : Script) → Good p → Valid (lowered p)
lowered_valid p good = valid_where_typed p good (record {
  functions = good_function_typed p (context_of (lowered p)) good (module_offers p good);
  handlers = good_handler_typed p (context_of (lowered p)) good (module_offers p good);
})
