use Rattle.std.proofs.Common.{ap}
use Rattle.import_forms.specs.Speech.{begun_of, returned_of}
use Rattle.import_lines.proofs.HalfLemmas.{half_kept}
use Rattle.import_lines.specs.Joining.{speech_at}
use Rattle.import_lines.specs.Lines.{kept_of}
use Rattle.import_lines.proofs.joining.half_text.Goals as goal

pub returns-then-line-clause-begun : goal.returns-then-line-clause-begun
returns-then-line-clause-begun c =
    ap begun_of (half_kept (speech_at c.args.lines.now c.args.place).1 (kept_of c.line-line.result) c.line-line.ensures c.if-line.true)

pub returns-then-line-clause-returned : goal.returns-then-line-clause-returned
returns-then-line-clause-returned c =
    ap returned_of (half_kept (speech_at c.args.lines.now c.args.place).1 (kept_of c.line-line.result) c.line-line.ensures c.if-line.true)
