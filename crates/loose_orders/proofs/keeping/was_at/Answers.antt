use Rattle.std.proofs.Common.{IfSome, Some, ap, refl, subst, sym, ◌∙◌, ◌≡◌}
use Rattle.frames.specs.Parts.{frame_bytes}
use Rattle.vm_base.specs.Apply.{access_reply}
use Rattle.vm_base.specs.Plain.{Plain}
use Rattle.vm_base.specs.declared.replies.Reply.TheVariants as ReplyOf
use Rattle.vm_base.specs.declared.rights.Access.TheVariants as By
use Rattle.audit.specs.Auditor.{plain_of}
use Rattle.loose_orders.proofs.FoundLemmas.{was_fetched, was_loaded, was_shown}
use Rattle.loose_orders.proofs.keeping.was_at.Goals as goal

pub returns-in-Some-shown-clause-was : goal.returns-in-Some-shown-clause-was
returns-in-Some-shown-clause-was g c =
    let slots = g.M.SlotRead.slots in
    was_shown (plain_of c.args.auditor.now) (frame_bytes c.args.auditor.now.frames) _ c.in-Some.info c.args.addr c.in-Some-shown.was refl
    (ap ((slots c.args.auditor.now.map).info) (sym c.page_of-page.ensures.value)
    ∙ (ap (λ m. (slots m).info c.page_of-page.result) (sym c.map.ensures) ∙ (sym c.page.ensures ∙ c.in-Some.is)))
    (c.in-Some-shown.ensures.some (frame_bytes c.args.auditor.now.frames) _)

pub returns-then-is_some-clause-was : goal.returns-then-is_some-clause-was
returns-then-is_some-clause-was g c =
    let slots = g.M.SlotRead.slots in
    was_loaded (plain_of c.args.auditor.now) (frame_bytes c.args.auditor.now.frames) _ c.in-Some.info c.args.addr c.in_ok-byte.byte refl
    (ap ((slots c.args.auditor.now.map).info) (sym c.page_of-page.ensures.value)
    ∙ (ap (λ m. (slots m).info c.page_of-page.result) (sym c.map.ensures) ∙ (sym c.page.ensures ∙ c.in-Some.is)))
    (c.in_default-shown.ensures.none (frame_bytes c.args.auditor.now.frames)) c.in_ok-byte.ensures.byte

pub returns-clause-was : goal.returns-clause-was
returns-clause-was g c =
    let slots = g.M.SlotRead.slots in
    was_fetched (plain_of c.args.auditor.now) (frame_bytes c.args.auditor.now.frames) _ c.in-Some.info c.args.addr c.in_ok-byte-2.byte refl
    (ap ((slots c.args.auditor.now.map).info) (sym c.page_of-page.ensures.value)
    ∙ (ap (λ m. (slots m).info c.page_of-page.result) (sym c.map.ensures) ∙ (sym c.page.ensures ∙ c.in-Some.is)))
    (c.in_default-shown.ensures.none (frame_bytes c.args.auditor.now.frames))
    (subst (λ (t : Plain). IfSome c.in_ok-byte-2.byte (λ b. access_reply t c.args.addr By.Fetch ≡ Some (ReplyOf.Byte b))) c.in_ok-byte.ensures.plain
    c.in_ok-byte-2.ensures.byte)
