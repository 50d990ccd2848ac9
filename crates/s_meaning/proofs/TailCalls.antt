-- A tail call keeps the number of activations and of active handles.
use Rattle.std.proofs.Common.{◌≡◌, ℕ, List, Option, Some, None}
use Rattle.following.specs.Steps.{Goes}
use Rattle.s_syntax.specs.declared.script.Function.{Function}
use Rattle.s_check.specs.Definitions.{function_of}
use Rattle.s_meaning.specs.Terms.{Value, Variable, Configuration}
use Rattle.s_meaning.specs.Steps.{Around, bind, enters, or_wrong}
use Rattle.s_meaning.specs.Laws.{Replaces, TailCallsKeep}

entered : (e : Around) (o : Option (List Variable)) (g : Function) (out : List ℕ) (c : Configuration) → or_wrong o (λ vars. enters e.store g.body vars None e.outer) ≡ Goes out c → Replaces e.outer c
entered e None g out c q = absurd (cc q)
entered e (Some vars) g out c q = record { acts = cc q; hands = cc q }

called : (e : Around) (vs : List Value) (o : Option Function) (out : List ℕ) (c : Configuration)
    → or_wrong o (λ g. or_wrong (bind g.parameters vs) (λ vars. enters e.store g.body vars None e.outer)) ≡ Goes out c → Replaces e.outer c
called e vs None out c q = absurd (cc q)
called e vs (Some g) out c q = entered e (bind g.parameters vs) g out c q

pub tail_calls_keep : TailCallsKeep
tail_calls_keep p e f vs out c q = called e vs (function_of p.declarations f) out c q
