use Rattle.machine_model.proofs.SoundKept.{reached_fine, reached_sound, steps_sound, runs_sound}
use Rattle.machine_model.proofs.OneMap.{log_leads_to_one}
use Rattle.machine_model.proofs.laws.runs_are_sound.Goals as goal

pub returns-clause-reached : goal.returns-clause-reached
returns-clause-reached c = reached_sound

pub returns-clause-steps : goal.returns-clause-steps
returns-clause-steps c = steps_sound

pub returns-clause-sound : goal.returns-clause-sound
returns-clause-sound c = runs_sound

pub returns-clause-one : goal.returns-clause-one
returns-clause-one c = log_leads_to_one

pub returns-clause-keep : goal.returns-clause-keep
returns-clause-keep c = λ w h. let f = reached_fine w h in record { order = f.order; coherent = f.coherent; counted = f.counted }
