use Rattle.audit_text.proofs.TextLemmas.{some_told}
use Rattle.audit_text.proofs.telling.push_some.Goals as goal

pub returns-clause-bytes : goal.returns-clause-bytes
returns-clause-bytes c =
    some_told c.args.text.now.bytes c.push_str.new.self.bytes c.push_number.new.text.bytes c.push_str-2.new.self.bytes c.args.lacking
    c.push_str.ensures.bytes c.push_number.ensures.bytes c.push_str-2.ensures.bytes
