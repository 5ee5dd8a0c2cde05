use Rattle.std.proofs.Common.{◌≡◌, map, sym, ap, ◌∙◌, subst}
use Rattle.import_lines.specs.LogLines.{IsRead}
use Rattle.import_steps.specs.Taking.{so_far}
use Rattle.word_import.specs.Replied.{line_text, replies_made}
use Rattle.word_import.specs.Replying.{TellsReplies}
use Rattle.word_import.proofs.RepliedLemmas.{ok_log}
use Rattle.word_import.proofs.replying.report_log.Goals as goal

pub report_heard-reported-requires : goal.report_heard-reported-requires
report_heard-reported-requires g c =
    subst (λ l. IsRead l c.in_ok-heard.heard) (sym (ap (map line_text) c.as_slice.ensures.value ∙ c.in_ok-raw.ensures)) c.in_ok-heard.ensures

pub returns-clause-told : goal.returns-clause-told
returns-clause-told g c =
    ok_log c.report_heard-reported.result (λ r input. TellsReplies (so_far c.args.start.now.taken) c.args.choice c.args.several input r.1)
    (map line_text c.as_slice.result.now) c.args.log.now (ap (map line_text) c.as_slice.ensures.value ∙ c.in_ok-raw.ensures) c.report_heard-reported.ensures.told

pub returns-clause-text : goal.returns-clause-text
returns-clause-text g c =
    ok_log c.report_heard-reported.result (λ r input. r.0.items ≡ replies_made (so_far c.args.start.now.taken) c.args.choice c.args.several input)
    (map line_text c.as_slice.result.now) c.args.log.now (ap (map line_text) c.as_slice.ensures.value ∙ c.in_ok-raw.ensures) c.report_heard-reported.ensures.text
