use Rattle.std.proofs.Common.{sym}
use Rattle.audit_text.proofs.ReplyLemmas.{reply_word}
use Rattle.audit_text.proofs.replies.read_reply.Goals as goal

pub returns-in_default : goal.returns-in_default
returns-in_default c = reply_word c.args.text.now c.read_word.result (sym c.in_default.ensures) c.read_word.ensures
