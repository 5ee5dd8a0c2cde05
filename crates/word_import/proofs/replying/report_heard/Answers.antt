use Rattle.std.proofs.Common.{[], map, ap, ◌∙◌}
use Rattle.import_log.specs.Owned.{is_unclear, owned}
use Rattle.import_steps.specs.Taking.{so_far}
use Rattle.word_import.specs.Replied.{line_text}
use Rattle.word_import.proofs.RepliedLemmas.{ok_text, ok_told, texts_alone}
use Rattle.word_import.proofs.replying.report_heard.Goals as goal

pub report_lines-reported-requires : goal.report_lines-reported-requires
report_lines-reported-requires g c = record {
  texts = λ h. texts_alone (map line_text c.args.raw.now) c.args.log.lines c.in_ok-owned.owned.lines h c.requires.said c.in_ok-owned.ensures.lines;
}

pub returns-clause-told : goal.returns-clause-told
returns-clause-told g c =
    ok_told c.report_lines-reported.result (so_far c.args.start.now.taken) c.args.choice c.args.several (map line_text c.args.raw.now) c.in_ok-owned.owned
    (c.in_ok-owned.ensures.lines ∙ ap owned c.requires.said) (c.in_ok-owned.ensures.unclear ∙ ap is_unclear c.requires.said) c.report_lines-reported.ensures.told

pub returns-clause-text : goal.returns-clause-text
returns-clause-text g c =
    ok_text c.report_lines-reported.result (so_far c.args.start.now.taken) c.args.choice c.args.several (map line_text c.args.raw.now) c.in_ok-owned.owned
    (c.in_ok-owned.ensures.lines ∙ ap owned c.requires.said) (c.in_ok-owned.ensures.unclear ∙ ap is_unclear c.requires.said) c.report_lines-reported.ensures.told
