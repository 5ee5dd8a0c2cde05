use Rattle.trace_io.proofs.IoLemmas.{front_more}
use Rattle.trace.proofs.echo.write_below.Goals as goal

pub returns-in-Err-write_all-clause-wrote : goal.returns-in-Err-write_all-clause-wrote
returns-in-Err-write_all-clause-wrote g c = record {
  ok = tt;
  kept = tt;
  front = front_more _ _ _ _ _ c.in-Ok.ensures.wrote.ok c.in-Err-write_all.ensures.front;
  err = c.in-Err-write_all.ensures.err;
}
