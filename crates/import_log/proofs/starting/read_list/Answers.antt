use Rattle.std.proofs.Common.{length, arith, ap}
use Rattle.trace_io.proofs.TextLemmas.{few_lines}
use Rattle.import_log.proofs.starting.read_list.Goals as goal

pub and-entries-requires : goal.and-entries-requires
and-entries-requires c =
    omega (arith, c.lines.invariant.total, c.lines.invariant.few, few_lines c.args.list.now, ap length c.front_line.ensures.lines)

pub returns-clause-few : goal.returns-clause-few
returns-clause-few c = omega (arith, c.lines.invariant.total, c.lines.invariant.few, few_lines c.args.list.now)
