use Rattle.std.proofs.Common.{Some, ap, rules, ◌∙◌, sym}
use Rattle.core_steps.specs.Machine.{state}
use Rattle.state_seen.proofs.Entries.{read_entry, read_frameless, read_off, read_unmapped}
use Rattle.state_seen.proofs.reading.entry_of.Goals as goal

pub returns-then-not-is_valid : goal.returns-then-not-is_valid
returns-then-not-is_valid g c = read_off (state c.args.machine.now) c.kept_log-kept.ensures.legal.reached c.args.core c.args.page
    (sym c.is_valid.ensures ∙ c.if-not-is_valid.true)

pub returns-in_default-page : goal.returns-in_default-page
returns-in_default-page g c = read_unmapped
    (state c.args.machine.now) c.kept_log-kept.ensures.legal.reached c.args.core c.args.page c.in_default-page.ensures

pub returns-in_default-frame_of : goal.returns-in_default-frame_of
returns-in_default-frame_of g c = read_frameless
    (state c.args.machine.now) c.kept_log-kept.ensures.legal.reached c.args.core c.args.page c.in-Some-page.info
    c.in-Some-page.ensures c.in_default-frame_of.ensures

pub returns : goal.returns
returns g c = ap Some c.decoded.ensures ∙ read_entry
    (state c.args.machine.now) c.kept_log-kept.ensures.legal.reached c.args.core c.args.page c.in-Some.word
    c.in-Some-frame_of.frame c.in-Some-page.info c.in-Some.ensures c.in-Some-page.ensures c.in-Some-frame_of.ensures (search rules)
