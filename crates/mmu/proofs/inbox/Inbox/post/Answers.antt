use Rattle.std.proofs.Common.{ap, ◌∙◌, arith}
use Rattle.mmu.specs.Messages.{message_of}
use Rattle.mmu.proofs.Senders.{none_from, has_room, others-push}
use Rattle.mmu.proofs.inbox.Inbox.post.Goals as goal

pub push-requires : goal.push-requires
push-requires c = (
  omega arith,
  has_room c.self.inside.messages.items c.self.inside.core c.args.from c.self.invariant
      c.index-2.ensures.in_range c.index.ensures.in_range (λ e. c.requires.other (e ∙ ap (λ v. v.core) c.self.view_is))
      (ap (λ v. message_of v.messages c.args.from) c.self.view_is
      ∙ none_from (message_of c.args.self.now.messages c.args.from) c.requires.none),
)

pub invariant_of-self : goal.invariant_of-self
invariant_of-self c =
    rw c.push.ensures.items (others-push c.self.inside.messages.items c.self.inside.core c.args.from c.args.range c.self.invariant
    c.index.ensures.in_range (λ e. c.requires.other (e ∙ ap (λ v. v.core) c.self.view_is))
    (ap (λ v. message_of v.messages c.args.from) c.self.view_is
    ∙ none_from (message_of c.args.self.now.messages c.args.from) c.requires.none))
