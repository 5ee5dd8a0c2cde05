use Rattle.std.proofs.Common.{◌++◌, map, ap, ◌∙◌}
use Rattle.trace_io.specs.Lines.{lines_of}
use Rattle.import_forms.specs.Speech.{speech_of, spoken}
use Rattle.import_forms.proofs.SpeechLemmas.{one_more}
use Rattle.import_forms.proofs.speech.read_speeches.Goals as goal

pub lines-preserved : goal.lines-preserved
lines-preserved c =
    ap (λ xs. map spoken xs ++ map speech_of (lines_of c.front_line.result.1.now)) c.in_ok-push.ensures.items
    ∙ one_more spoken _ _ c.args.log.now c.lines.rest.now c.front_line.result.0.now c.front_line.result.1.now c.front_line.ensures.lines c.read_speech.ensures
    c.lines.invariant
