use Rattle.machine_model.proofs.Words.{refl}
use Rattle.core_steps.proofs.engine.Engine.new_source.Goals as goal

pub returns-in-Anon-default-clause-from : goal.returns-in-Anon-default-clause-from
returns-in-Anon-default-clause-from g c =
    (refl, c.in-Anon-default.is-0, record { free = c.in_ok-frame.ensures.free; least = c.in_ok-frame.ensures.least })

pub returns-in-Private-Store-clause-from : goal.returns-in-Private-Store-clause-from
returns-in-Private-Store-clause-from g c = record {
  wants = refl;
  stores = c.in-Private-Store.is-1;
  backed = c.in-Private-Store.is-0;
  least = record { free = c.in_ok-frame.ensures.free; least = c.in_ok-frame.ensures.least };
}
