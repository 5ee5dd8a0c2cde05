use Rattle.core_steps.specs.Machine.{state}
use Rattle.state_seen.specs.Lists.{at_page}
use Rattle.state_seen.specs.Used.{used_in}
use Rattle.state_seen.proofs.Walking.{cleared_across, cleared_none, one_across}
use Rattle.state_seen.proofs.used.refresh.Goals as goal

pub gather-requires : goal.gather-requires
gather-requires g c = cleared_none c.args.range (at_page c.args.list.now) (at_page c.clear.new.self) c.clear.ensures

pub returns-then-is_one : goal.returns-then-is_one
returns-then-is_one g c = λ e. one_across c.args.range (used_in (state c.args.machine.now)) (at_page c.args.list.now) (at_page c.renew.new.list)
    (c.is_one.ensures c.if-is_one.true) (c.renew.ensures e)

pub returns : goal.returns
returns g c = λ e. cleared_across c.args.range (used_in (state c.args.machine.now)) (at_page c.args.list.now) (at_page c.clear.new.self)
    (at_page c.gather.new.list) c.clear.ensures (c.gather.ensures e)
