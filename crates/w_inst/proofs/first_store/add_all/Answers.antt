use Rattle.std.proofs.Common.{◌≡◌, refl}
use Rattle.std.specs.Prelude.{true}
use Rattle.w_reduce.specs.Program.{Program}
use Rattle.w_stands.specs.Values.{store_of}
use Rattle.w_inst.proofs.AllocatedStores.{all_made, made_stands, made_segments}
use Rattle.w_inst.proofs.first_store.add_all.Goals as goal

pub returns-clause-allocated : goal.returns-clause-allocated
returns-clause-allocated c =
    let m = c.args.program.now in
    let gs = c.args.globals.now in
    let n = c.args.functions in
    λ p e. (all_made p m c.args.printers.now gs n (store_of c.add_bare.new.store) (store_of c.add_globals.new.store) (store_of c.add_tables.new.store) (store_of c.add_elements.new.store) e c.requires.count
    (c.requires.values p) c.in_ok-add_bare.ensures.bare c.in_ok-add_globals.ensures.added (c.in_ok-add_tables.ensures.added p) (c.in_ok-add_elements.ensures.added p)).allocates

pub returns-clause-stands : goal.returns-clause-stands
returns-clause-stands c =
    let p : Program = record { source = c.args.program.now; matches = λ i j. true } in
    let e : p.source ≡ c.args.program.now = refl in
    let m = c.args.program.now in
    let gs = c.args.globals.now in
    let n = c.args.functions in
    made_stands p m c.args.printers.now gs n c.add_elements.new.store c.requires.count
    (all_made p m c.args.printers.now gs n (store_of c.add_bare.new.store) (store_of c.add_globals.new.store) (store_of c.add_tables.new.store) (store_of c.add_elements.new.store) e c.requires.count
    (c.requires.values p) c.in_ok-add_bare.ensures.bare c.in_ok-add_globals.ensures.added (c.in_ok-add_tables.ensures.added p) (c.in_ok-add_elements.ensures.added p)).made

pub returns-clause-segments : goal.returns-clause-segments
returns-clause-segments c =
    let p : Program = record { source = c.args.program.now; matches = λ i j. true } in
    let e : p.source ≡ c.args.program.now = refl in
    let m = c.args.program.now in
    let gs = c.args.globals.now in
    let n = c.args.functions in
    made_segments p m c.args.printers.now gs c.add_elements.new.store
    (all_made p m c.args.printers.now gs n (store_of c.add_bare.new.store) (store_of c.add_globals.new.store) (store_of c.add_tables.new.store) (store_of c.add_elements.new.store) e c.requires.count
    (c.requires.values p) c.in_ok-add_bare.ensures.bare c.in_ok-add_globals.ensures.added (c.in_ok-add_tables.ensures.added p) (c.in_ok-add_elements.ensures.added p)).made
