use Rattle.std.proofs.Common.{◌∙◌, Some, refl, subst, sym, true}
use Rattle.slot_lock.proofs.Facts.{on_err}
use Rattle.frames.specs.Files.{cached_in}
use Rattle.frames.specs.Parts.{FrameParts}
use Rattle.vm_base.specs.Plain.{Plain}
use Rattle.audit.specs.Copying.{Copies}
use Rattle.audit.specs.Judging.{copied_first}
use Rattle.audit.specs.Keeping.{Keeps, plain_kept}
use Rattle.audit.proofs.Copied.{copy_done, due_kept_made, none_valid}
use Rattle.audit.proofs.Kept.{kept_same}
use Rattle.audit.proofs.copying.copy_page.Goals as goal

pub returns-then-not-is_valid-clause-no : goal.returns-then-not-is_valid-clause-no
returns-then-not-is_valid-clause-no g c = λ e.
    none_valid (g.M.SlotRead.slots c.args.map.now) c.args.objects.now c.args.frames.now c.args.page (g.met.M.SlotMap.is_slot_map c.args.map.now)
    (sym c.if-not-is_valid.ensures)

pub own_frame-requires-clause-cached : goal.own_frame-requires-clause-cached
own_frame-requires-clause-cached g c = λ n k f e. (c.requires.kept.taken (Some n) k f e).0

pub returns-in_err-own_frame-clause-due : goal.returns-in_err-own_frame-clause-due
returns-in_err-own_frame-clause-due g c =
    let t = plain_kept (g.M.SlotRead.slots c.args.map.now) c.args.objects.now c.args.frames.now in
    let made : (u : Plain) × Copies t c.args.page u = (
      copied_first t c.args.page,
      due_kept_made (g.M.SlotRead.slots c.args.map.now) c.args.objects.now c.args.frames.now c.args.page c.in-Some.info true
          (sym c.page.ensures ∙ c.in-Some.is) (c.if-not-is_copy_due.ensures c.args.frames.now) refl,
    ) in
    on_err _ made

pub returns-in_err-own_frame-clause-kept : goal.returns-in_err-own_frame-clause-kept
returns-in_err-own_frame-clause-kept g c =
    let s = g.M.SlotRead.slots c.args.map.now in
    let t = g.M.SlotRead.slots c.own_frame.new.map in
    subst (λ (f : FrameParts). Keeps t (cached_in c.args.objects.now) f) (sym c.in_err-own_frame.ensures.err_frames)
    (kept_same s t (cached_in c.args.objects.now) c.args.frames.now c.in_err-own_frame.ensures.err_info c.requires.kept)

pub returns-clause-yes : goal.returns-clause-yes
returns-clause-yes g c = λ e.
    (copy_done (g.M.SlotRead.slots c.args.map.now) (g.M.SlotRead.slots c.own_frame.new.map) c.args.objects.now c.args.frames.now
    c.own_frame.new.frames c.args.page c.in-Some.info c.in_ok-own_frame.field-0 true (sym c.page.ensures ∙ c.in-Some.is)
    (c.if-not-is_copy_due.ensures c.args.frames.now) refl c.requires.kept c.in_ok-own_frame.ensures.ok).0

pub returns-clause-kept : goal.returns-clause-kept
returns-clause-kept g c =
    (copy_done (g.M.SlotRead.slots c.args.map.now) (g.M.SlotRead.slots c.own_frame.new.map) c.args.objects.now c.args.frames.now
    c.own_frame.new.frames c.args.page c.in-Some.info c.in_ok-own_frame.field-0 true (sym c.page.ensures ∙ c.in-Some.is)
    (c.if-not-is_copy_due.ensures c.args.frames.now) refl c.requires.kept c.in_ok-own_frame.ensures.ok).1
