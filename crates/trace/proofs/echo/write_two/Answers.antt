use Rattle.trace_io.proofs.IoLemmas.{written_then}
use Rattle.trace.proofs.echo.write_two.Goals as goal

pub returns : goal.returns
returns g c =
    let w = c.write_all-2.ensures in
    written_then _ _ _ _ _ _ _ _ _ _ c.in_default.ensures.ok c.in_default.ensures.kept (record { ok = w.ok; kept = w.kept; front = w.front; err = w.err })
