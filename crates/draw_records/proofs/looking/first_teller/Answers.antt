use Rattle.std.proofs.Common.{sym, ◌∙◌, true, false}
use Rattle.core_steps.specs.Machine.{state}
use Rattle.draw_records.proofs.Tellers.{teller_at, teller_none}
use Rattle.draw_records.proofs.looking.first_teller.Goals as goal
use Rattle.draw_records.proofs.looking.first_teller.Goals.{then-told_first, else-told_first}

pub cores-init : goal.cores-init
cores-init g c = record { first = sym (teller_none (state c.args.machine.now) c.args.told.now c.args.core) }

pub cores-preserved : goal.cores-preserved
cores-preserved g c = elim c.if-told_first.branch [
  | then-told_first w ↦ record {
    first = w.first-is ∙ teller_at (state c.args.machine.now) c.args.told.now c.args.core c.cores.index c.new-other.result c.cores.first
        c.told_first.result true c.new-other.ensures c.cores.invariant.first c.told_first.ensures w.if-told_first.true;
  }
  | else-told_first w ↦ record {
    first = w.first-is ∙ teller_at (state c.args.machine.now) c.args.told.now c.args.core c.cores.index c.new-other.result c.cores.first
        c.told_first.result false c.new-other.ensures c.cores.invariant.first c.told_first.ensures w.if-told_first.false;
  }
]
