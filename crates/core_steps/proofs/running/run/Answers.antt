use Rattle.machine_model.proofs.Words.{◌≡◌, ◌<◌, ◌⊎◌, length, subst, new_world, Run}
use Rattle.core_steps.specs.Running.{IsRefusedAt, RunsAsMap}
use Rattle.machine_model.specs.Setups.{made_of}
use Rattle.core_steps.specs.State.{world}
use Rattle.core_steps.proofs.Reached.{few_cores}
use Rattle.core_steps.proofs.Runs.{plainly}
use Rattle.machine_model.proofs.Bracketed.{bracketed}
use Rattle.machine_model.proofs.SoundKept.{runs_sound}
use Rattle.core_steps.proofs.running.run.Goals as goal

pub returns-in-Ok-outcomes_of : goal.returns-in-Ok-outcomes_of
returns-in-Ok-outcomes_of g c =
    let made = made_of c.args.setup in
    let slots = g.M.SlotRead.slots c.args.map in
    let es = c.args.events.now in
    let os = c.in-Ok-outcomes_of.outcomes.items in
    let v = world g.M.SlotRead.slots c.outcomes_of.new.machine.engine in
    let few = few_cores c.args.setup c.in-Ok-new.ensures.sound in
    let opening = c.in-Ok-new.ensures.opening in
    let run : Run (new_world made slots) es os v = subst (λ w. Run w es os v) opening c.in-Ok-outcomes_of.ensures.run in
    record {
      run = run;
      as_map = subst (λ w. RunsAsMap g.M.SlotMap.parts g.M.SlotMap.can_fold g.M.SlotMap.folds w es os v) opening c.in-Ok-outcomes_of.ensures.as_map;
      all = c.in-Ok-outcomes_of.ensures.all;
      plain = plainly made slots es os v few c.requires run;
      brackets = bracketed made slots es os v few c.requires run;
      sound = runs_sound made slots es os v few c.requires run;
      fault = tt;
    }

pub returns-in-Err-outcomes_of-clause-fault : goal.returns-in-Err-outcomes_of-clause-fault
returns-in-Err-outcomes_of-clause-fault g c =
    let es = c.args.events.now in
    let at = c.in-Err-outcomes_of.at in (
      c.in-Ok-new.ensures.sound,
      subst (λ w. ((at ≡ length es) × (0 < length es)) ⊎ IsRefusedAt g.L.Ledger.keeps w es at) c.in-Ok-new.ensures.opening c.in-Err-outcomes_of.ensures.err,
    )
