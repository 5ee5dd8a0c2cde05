use Rattle.std.proofs.Common.{◌++◌, map, refl, ap, ◌∙◌}
use Rattle.trace_io.specs.Lines.{lines_of}
use Rattle.word_import.specs.Replied.{line_text}
use Rattle.word_import.proofs.RepliedLemmas.{line_listed}
use Rattle.word_import.proofs.replied.list_lines.Goals as goal

pub lines-preserved : goal.lines-preserved
lines-preserved c =
    ap (λ xs. map line_text xs ++ lines_of c.front_line.result.1.now) c.in_ok-push.ensures.items
    ∙ line_listed _ _ c.front_line.result.0.now (lines_of c.lines.rest.now)
    (lines_of c.front_line.result.1.now) _ refl c.front_line.ensures.lines c.lines.invariant
