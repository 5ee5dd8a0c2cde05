use Rattle.machine_model.proofs.Words.{◌≡◌, ◌<◌, ℕ, zero, suc, true, false, inl, inr, refl, arith}
use Rattle.core_steps.proofs.running.outcomes_of.Goals as goal

-- a list that finds no room is to have an outcome
some_outcome : (n : ℕ) → (n ≡ 0 → false ≡ true) → 0 < n
some_outcome zero h = let e : false ≡ true = h refl in absurd (cc)
some_outcome (suc n) h = omega arith

pub returns-in_default : goal.returns-in_default
returns-in_default g c = record {
  run = tt;
  as_map = tt;
  all = tt;
  err = inl (refl, some_outcome _ c.in_default.ensures.succeeds);
}

pub returns-in-Ok-take_events : goal.returns-in-Ok-take_events
returns-in-Ok-take_events g c = record {
  run = c.in-Ok-take_events.ensures.run;
  as_map = c.in-Ok-take_events.ensures.as_map;
  all = c.in-Ok-take_events.ensures.all;
  err = tt;
}

pub returns-in-Err : goal.returns-in-Err
returns-in-Err g c = record { run = tt; as_map = tt; all = tt; err = inr c.in-Err.ensures.err }
