use Rattle.std.proofs.Common.{◌==◌, ap, ◌∙◌}
use Rattle.std.specs.Prelude.{is_some}
use Rattle.std.specs.List.{list_any}
use Rattle.mmu.specs.declared.message.Message.{Message}
use Rattle.mmu.specs.Messages.{message_of}
use Rattle.mmu.proofs.Senders.{any_is_some}
use Rattle.mmu.proofs.inbox.Inbox.has_of.Goals as goal

pub returns : goal.returns
returns c =
    c.has_message_of.ensures
    ∙ ap (list_any (λ (m : Message). m.from == c.args.from)) c.deref.ensures.0
    ∙ any_is_some c.self.inside.messages.items c.args.from
    ∙ ap (λ v. is_some (message_of v.messages c.args.from)) c.self.view_is
