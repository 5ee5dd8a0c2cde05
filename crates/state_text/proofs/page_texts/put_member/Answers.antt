use Rattle.std.proofs.Common.{sym, ◌∙◌}
use Rattle.state_text.proofs.Members.{count_kept, count_more}
use Rattle.state_text.proofs.page_texts.put_member.Goals as goal

pub returns-then-not-contains-clause-count : goal.returns-then-not-contains-clause-count
returns-then-not-contains-clause-count c =
    count_kept c.args.cores c.args.core c.args.before (sym c.contains.ensures ∙ c.if-not-contains.true) c.requires.count

pub returns-clause-count : goal.returns-clause-count
returns-clause-count c = count_more c.args.cores c.args.core c.args.before (sym c.contains.ensures ∙ c.if-not-contains.false) c.requires.count
