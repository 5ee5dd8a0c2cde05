use Rattle.std.proofs.Common.{◌∙◌, Ok, ap, sym}
use Rattle.frames.specs.Files.{files_of}
use Rattle.litmus_merges.specs.Steps.{map_of}
use Rattle.litmus_merges.proofs.Maps.{modes_kept}
use Rattle.litmus_merges.proofs.Turned.{named_no_place, plan_sound, plan_turns, refused_sound, refused_turns}
use Rattle.vm_base.specs.Plain.{mode_of}
use Rattle.litmus_merges.proofs.turning.turn_of.Goals as goal

pub returns-in-Err-clause-turns : goal.returns-in-Err-clause-turns
returns-in-Err-clause-turns g c =
    let t = map_of c.args.objects.now c.args.steps.now in
    refused_turns t c.args.core c.args.request c.in-Err.reply c.answer_alone.result c.answer_alone.ensures
    (c.in-Err.ensures.plain t (modes_kept c.args.objects.now c.args.steps.now))

pub returns-in-Err-clause-sound : goal.returns-in-Err-clause-sound
returns-in-Err-clause-sound g c = refused_sound c.in-Err.reply c.answer_alone.result c.answer_alone.ensures

pub plan_turn-requires-clause-named : goal.plan_turn-requires-clause-named
plan_turn-requires-clause-named g c = λ place e. named_no_place (λ n. mode_of (files_of c.args.objects.now n)) c.args.core c.args.request place c.requires.named
    (sym c.in-Ok.ensures.value ∙ ap Ok e)

pub returns-in-Ok-clause-turns : goal.returns-in-Ok-clause-turns
returns-in-Ok-clause-turns g c = plan_turns (map_of c.args.objects.now c.args.steps.now) (files_of c.args.objects.now) c.args.core c.args.request c.in-Ok.plan
    c.plan_turn.result (modes_kept c.args.objects.now c.args.steps.now) (sym c.in-Ok.ensures.value) c.plan_turn.ensures

pub returns-in-Ok-clause-sound : goal.returns-in-Ok-clause-sound
returns-in-Ok-clause-sound g c = plan_sound (map_of c.args.objects.now c.args.steps.now) c.in-Ok.plan c.plan_turn.result c.plan_turn.ensures
