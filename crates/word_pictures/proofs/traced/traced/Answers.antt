use Rattle.std.proofs.Common.{◌≡◌, ap, ◌∙◌, rules}
use Rattle.trace_io.specs.Lines.{lines_of}
use Rattle.word_pictures.specs.Notes.{traced_text}
use Rattle.word_pictures.proofs.TracedLines.{lines_traced}
use Rattle.word_pictures.proofs.traced.traced.Goals as goal

pub returns-then-not-has_notes-clause-lines : goal.returns-then-not-has_notes-clause-lines
returns-then-not-has_notes-clause-lines g c =
    let text : c.args.text.items ≡ traced_text c.args.text.items = search rules in
    ap lines_of text ∙ lines_traced c.args.text.items

pub returns-clause-lines : goal.returns-clause-lines
returns-clause-lines g c =
    let text : c.put_lines.new.out.items ≡ traced_text c.args.text.items = search rules in
    ap lines_of text ∙ lines_traced c.args.text.items
