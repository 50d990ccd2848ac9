use Rattle.std.proofs.Common.{◌≡◌, drop, map}
use Rattle.w_syntax.specs.declared.module.Data.{Data}
use Rattle.w_stands.specs.Values.{store_of}
use Rattle.w_inst.specs.Adding.{with_datas}
use Rattle.w_inst.proofs.allocation.add_datas.Given as goal

-- those so far are added
abbrev pub invariant-loop-data : goal.invariant-loop-data
invariant-loop-data l = with_datas (store_of l.store) (map (λ (d : Data). d.bytes) (drop l.data-index l.datas)) ≡ with_datas (store_of l.fn.store) (map (λ (d : Data). d.bytes) l.datas)
