use Rattle.std.proofs.Common.{◌++◌, ◌∷◌, [], sym, ap, ◌∙◌}
use Rattle.import_forms.specs.Said.{said_of}
use Rattle.import_forms.specs.Speech.{Spoken}
use Rattle.import_lines.specs.LogLines.{is_unread}
use Rattle.import_lines.proofs.UnreadLemmas.{read_first, read_known, read_other}
use Rattle.import_lines.proofs.log_lines.hear_whole.Goals as goal

pub returns-then-log : goal.returns-then-log
returns-then-log c = λ all front h t.
    let was = c.args.log.now in
    read_known all c.args.line.now c.args.text.now front _ was.lines _ was.unread.items was.found c.if-log.true h t
    (c.in_ok-push.ensures.ok ∙ ap (λ s. was.lines ++ s ∷ []) c.read_text.ensures.speech)
    (c.in_ok-extend_from_slice.ensures.items ∙ ap (λ l. l ++ c.read_text.result.1.now) c.requires ∙ c.read_text.ensures.front)

pub returns-then-not-is_unread : goal.returns-then-not-is_unread
returns-then-not-is_unread c = λ all front h t.
    let was = c.args.log.now in
    read_other all c.args.line.now c.args.text.now front _ was.lines _ was.unread.items was.found c.if-log.false h t
    (ap (λ (s : Spoken). is_unread (said_of s.1)) (sym c.read_text.ensures.speech) ∙ sym (ap is_unread c.said_of.ensures) ∙ sym c.is_unread.ensures ∙ c.if-not-is_unread.true)
    (c.in_ok-push.ensures.ok ∙ ap (λ s. was.lines ++ s ∷ []) c.read_text.ensures.speech)
    (c.in_ok-extend_from_slice.ensures.items ∙ ap (λ l. l ++ c.read_text.result.1.now) c.requires ∙ c.read_text.ensures.front)

pub returns : goal.returns
returns c = λ all front h t.
    let was = c.args.log.now in
    read_first all c.args.line.now c.args.text.now front _ was.lines _ was.unread.items _ was.found c.if-log.false h t
    (ap (λ (s : Spoken). is_unread (said_of s.1)) (sym c.read_text.ensures.speech) ∙ sym (ap is_unread c.said_of.ensures) ∙ sym c.is_unread.ensures ∙ c.if-not-is_unread.false)
    (c.in_ok-extend_from_slice-2.ensures.items ∙ ap (λ l. was.unread.items ++ l) c.front_of.ensures)
    (c.in_ok-push.ensures.ok ∙ ap (λ s. was.lines ++ s ∷ []) c.read_text.ensures.speech)
    (c.in_ok-extend_from_slice.ensures.items ∙ ap (λ l. l ++ c.read_text.result.1.now) c.requires ∙ c.read_text.ensures.front)
