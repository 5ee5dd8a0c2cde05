use Rattle.std.proofs.Common.{length, arith, ap}
use Rattle.trace_io.proofs.TextLemmas.{few_lines}
use Rattle.import_lackey.proofs.tracing.trace_lines.Goals as goal

pub and-counts-requires : goal.and-counts-requires
and-counts-requires c =
    omega (arith, c.lines.invariant.total, c.lines.invariant.few, few_lines c.args.log.now, ap length c.front_line.ensures.lines)

pub returns-clause-few : goal.returns-clause-few
returns-clause-few c = omega (arith, c.lines.invariant.total, c.lines.invariant.few, few_lines c.args.log.now)
