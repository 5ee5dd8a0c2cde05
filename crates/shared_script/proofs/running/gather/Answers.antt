use Rattle.std.proofs.Common.{arith, rules, ap, subst, ◌∙◌}
use Rattle.shared.specs.Cores.{CoreView}
use Rattle.shared_script.proofs.LaneLemmas.{GathersSome, last_space, some_first, some_more, some_run, told_first, told_next}
use Rattle.shared_script.proofs.running.gather.Goals as goal

pub cores-init : goal.cores-init
cores-init g c =
    let first = some_first g.S.Whole.state c.args.script.now c.args.space.table.shared.table_id c.args.lanes.items c.pop.new.self.items c.in-Some.lane
    c.requires.done c.in-Some.ensures.items in
    let told = told_first c.in-Ok.told.items c.push_reserved.new.self.items c.in-Some.lane.told c.push_reserved.ensures.items c.in-Ok.ensures.items in
    record {
      here = first.gathers.space_is;
      room = omega (
        arith,
        c.in-Ok.ensures.capacity,
        c.in-Ok.ensures.len,
        c.len.ensures,
        c.in-Some.ensures.len,
        c.push_reserved.ensures.len,
        c.push_reserved.ensures.capacity,
      );
      gathers = subst (λ l. GathersSome g.S.Whole.state c.args.script.now c.args.space.table.shared.table_id c.pop.new.self.items c.in-Some.lane.core l) told
          first;
    }

pub take_in-requires : goal.take_in-requires
take_in-requires g c = record {
  here = (
    c.cores.invariant.here,
    last_space g.S.Whole.state c.args.script.now c.args.space.table.shared.table_id c.cores.lanes.items c.pop-in-cores.new.self.items c.in-Some-pop.lane
        c.cores.first _ c.cores.invariant.gathers c.in-Some-pop.ensures.items,
  );
}

pub push_reserved-requires-in-Some-pop : goal.push_reserved-requires-in-Some-pop
push_reserved-requires-in-Some-pop g c = omega (arith, c.cores.invariant.room, c.in-Some-pop.ensures.len)

pub cores-preserved : goal.cores-preserved
cores-preserved g c = record {
  here = ap (λ (v : CoreView g.row.S.Denot). v.space) c.take_in.ensures ∙ c.cores.invariant.here;
  room = omega (
    arith,
    c.cores.invariant.room,
    c.in-Some-pop.ensures.len,
    c.push_reserved-in-Some-pop.ensures.len,
    c.push_reserved-in-Some-pop.ensures.capacity,
  );
  gathers = some_more g.S.Whole.state c.args.script.now c.args.space.table.shared.table_id c.cores.lanes.items c.pop-in-cores.new.self.items c.in-Some-pop.lane
      c.cores.first c.take_in.new.core _ _ c.cores.invariant.gathers c.in-Some-pop.ensures.items c.take_in.ensures
      (told_next c.cores.told.items c.push_reserved-in-Some-pop.new.self.items c.in-Some-pop.lane.told c.push_reserved-in-Some-pop.ensures.items);
}

pub returns-in-Some-close-clause-ran : goal.returns-in-Some-close-clause-ran
returns-in-Some-close-clause-ran g c =
    some_run g.S.Whole.state c.args.script.now c.args.space.table.shared.table_id c.cores.lanes.items c.cores.first _ _ c.cores.invariant.gathers
    c.requires.cores (search rules) c.in-Some-close.ensures.back
