use Rattle.std.proofs.Common.{length, ap, sym, subst, ◌∙◌}
use Rattle.import_lines.specs.Lines.{AreKept, IsPlace, kept_of}
use Rattle.import_lines.proofs.LineLemmas.{entries_stay, last_place}
use Rattle.import_lines.proofs.lines.add_entry.Goals as goal

pub returns-clause-place : goal.returns-clause-place
returns-clause-place c =
    let entries = c.args.entries.now.items in
    let rares = c.entry_of.new.rares in
    subst (λ l. IsPlace c.args.thread (kept_of c.args.line) rares l c.how_many-place.result) (sym c.in_ok-push.ensures.items)
    (last_place c.args.thread (kept_of c.args.line) rares entries c.in_ok-entry.entry c.how_many-place.result
    (c.how_many-place.ensures ∙ ap length c.as_slice.ensures.value) c.in_ok-entry.ensures.entry)

pub returns-in_err-entry-clause-others : goal.returns-in_err-entry-clause-others
returns-in_err-entry-clause-others c = λ said order h. c.in_err-entry.ensures.others said c.args.entries.now.items order h

pub returns-in_err-push-clause-others : goal.returns-in_err-push-clause-others
returns-in_err-push-clause-others c = λ said order h.
    subst (λ l. AreKept said c.entry_of.new.rares l order) (sym c.in_err-push.ensures.items) (c.in_ok-entry.ensures.others said c.args.entries.now.items order h)

pub returns-clause-others : goal.returns-clause-others
returns-clause-others c =
    let rares = c.entry_of.new.rares in
    λ said order h.
    subst (λ l. AreKept said rares l order) (sym c.in_ok-push.ensures.items)
    (entries_stay said rares c.args.entries.now.items c.in_ok-entry.entry order (c.in_ok-entry.ensures.others said c.args.entries.now.items order h)
    c.in_ok-entry.ensures.entry.within)
