use Rattle.litmus_outcomes.proofs.Assembled.{is_run}
use Rattle.litmus_outcomes.proofs.machines.run_all.Goals as goal

pub returns-in-Ok-run : goal.returns-in-Ok-run
returns-in-Ok-run g c = is_run c.args.setup _ c.args.events.now _ _ c.requires c.in-Ok-new.ensures.new c.in-Ok-run.ensures.run c.in-Ok-run.ensures.sound
