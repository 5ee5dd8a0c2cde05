use Rattle.std.proofs.Common.{map}
use Rattle.litmus_report.specs.Counts.{bytes_of}
use Rattle.litmus.specs.Runs.{ComeTo}
use Rattle.litmus.proofs.running.run_often.Given as goal

-- the runs so far came to these texts
abbrev pub invariant-runs : goal.invariant-runs
invariant-runs g l = ComeTo l.test.declared.now l.test.before.now l.test.calls.now l.test.loads.now l.addrs l._run (map bytes_of l.texts.items)
