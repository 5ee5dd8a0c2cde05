use Rattle.slot_lock.proofs.Words.{◌≡◌, ◌≢◌, ◌∙◌, List, Some, true, false, refl, subst, sym, Done}
use Rattle.slot_lock.proofs.Facts.{on_err}
use Rattle.frames.specs.Files.{FileParts, cached_in}
use Rattle.frames.specs.Parts.{FrameParts}
use Rattle.audit.specs.declared.judging.ReplyVerdict.TheVariants.{Legal, Illegal}
use Rattle.audit.proofs.Kept.{kept_same}
use Rattle.audit.proofs.Concluded.{done_bytes, due_kept, frame_within, left_alone, left_stored, touch_given, touch_judged, unmapped_judged}
use Rattle.audit.specs.Keeping.{Keeps, plain_kept}
use Rattle.audit.proofs.judging.judge_touch.Goals as goal

pub page-requires : goal.page-requires
page-requires g c = g.met.M.SlotMap.reads_all c.args.map.now c.args.touch.page c.requires.sound.page

pub access_reply-due-requires-clause-cached : goal.access_reply-due-requires-clause-cached
access_reply-due-requires-clause-cached g c = λ n k f e. (c.requires.kept.taken (Some n) k f e).0

pub access_reply-due-requires-clause-own : goal.access_reply-due-requires-clause-own
access_reply-due-requires-clause-own g c =
    frame_within (g.M.SlotRead.slots c.args.map.now) c.args.objects.now c.args.frames.now c.args.touch.page c.in-Some.info
    (sym c.page.ensures ∙ c.in-Some.is) c.requires.kept

pub store-requires-clause-info : goal.store-requires-clause-info
store-requires-clause-info g c = sym c.page.ensures ∙ c.in-Some.is

pub store-requires-clause-bytes : goal.store-requires-clause-bytes
store-requires-clause-bytes g c =
    done_bytes c.args.objects.now c.args.frames.now c.in-Some.info c.args.touch.access c.args.touch.offset
    (sym ((c.if-not-is_done.ensures {u = tt}).0 refl) ∙ c.access_reply-due.ensures)

pub returns-in_default-clause-judged : goal.returns-in_default-clause-judged
returns-in_default-clause-judged g c = λ any.
    unmapped_judged any (g.M.SlotRead.slots c.args.map.now) c.args.objects.now c.args.frames.now c.args.touch c.args.reply c.compared.result
    (sym c.page.ensures ∙ c.in_default.is) c.compared.ensures

pub returns-then-not-is_same-clause-judged : goal.returns-then-not-is_same-clause-judged
returns-then-not-is_same-clause-judged g c = λ any.
    let t = plain_kept (g.M.SlotRead.slots c.args.map.now) c.args.objects.now c.args.frames.now in
    let other : c.args.reply ≢ c.access_reply-due.result =
    λ e. let wrong : false ≡ true = (c.if-not-is_same.ensures {u = tt}).1 e in absurd cc in
    touch_judged any t c.args.touch c.args.reply c.access_reply-due.result (Illegal c.access_reply-due.result) t
    (due_kept (g.M.SlotRead.slots c.args.map.now) c.args.objects.now c.args.frames.now c.args.touch c.in-Some.info c.access_reply-due.result
    (sym c.page.ensures ∙ c.in-Some.is) c.access_reply-due.ensures)
    (other, refl) (λ e. absurd (other e)) (λ e. refl)

pub returns-then-not-is_done-clause-judged : goal.returns-then-not-is_done-clause-judged
returns-then-not-is_done-clause-judged g c = λ any.
    let t = plain_kept (g.M.SlotRead.slots c.args.map.now) c.args.objects.now c.args.frames.now in
    let not' : c.access_reply-due.result ≢ Done =
    λ e. let wrong : false ≡ true = (c.if-not-is_done.ensures {u = tt}).1 e in absurd cc in
    let same : c.args.reply ≡ c.access_reply-due.result = (c.if-not-is_same.ensures {u = tt}).0 refl in
    touch_judged any t c.args.touch c.args.reply c.access_reply-due.result Legal t
    (due_kept (g.M.SlotRead.slots c.args.map.now) c.args.objects.now c.args.frames.now c.args.touch c.in-Some.info c.access_reply-due.result
    (sym c.page.ensures ∙ c.in-Some.is) c.access_reply-due.ensures)
    same (λ e. left_alone t c.args.touch c.access_reply-due.result not') (λ ne. absurd (ne same))

pub returns-clause-judged : goal.returns-clause-judged
returns-clause-judged g c = λ any.
    let t = plain_kept (g.M.SlotRead.slots c.args.map.now) c.args.objects.now c.args.frames.now in
    let u = plain_kept (g.M.SlotRead.slots c.store.new.map) c.store.new.objects c.store.new.frames in
    let same : c.args.reply ≡ c.access_reply-due.result = (c.if-not-is_same.ensures {u = tt}).0 refl in
    touch_judged any t c.args.touch c.args.reply c.access_reply-due.result Legal u
    (due_kept (g.M.SlotRead.slots c.args.map.now) c.args.objects.now c.args.frames.now c.args.touch c.in-Some.info c.access_reply-due.result
    (sym c.page.ensures ∙ c.in-Some.is) c.access_reply-due.ensures)
    same
    (λ e. left_stored t u c.args.touch c.access_reply-due.result ((c.if-not-is_done.ensures {u = tt}).0 refl) c.in_ok-store.ensures.ok.plain)
    (λ ne. absurd (ne same))

pub returns-clause-kept : goal.returns-clause-kept
returns-clause-kept g c = c.in_ok-store.ensures.ok.kept

pub returns-in_err-store-clause-kept : goal.returns-in_err-store-clause-kept
returns-in_err-store-clause-kept g c =
    let s = g.M.SlotRead.slots c.args.map.now in
    let t = g.M.SlotRead.slots c.store.new.map in
    subst (λ (o : List FileParts). Keeps t (cached_in o) c.store.new.frames) (sym c.in_err-store.ensures.err_files)
    (subst (λ (f : FrameParts). Keeps t (cached_in c.args.objects.now) f) (sym c.in_err-store.ensures.err_frames)
    (kept_same s t (cached_in c.args.objects.now) c.args.frames.now c.in_err-store.ensures.err_info c.requires.kept))

pub returns-in_err-store-clause-legal : goal.returns-in_err-store-clause-legal
returns-in_err-store-clause-legal g c = on_err _
    (touch_given (plain_kept (g.M.SlotRead.slots c.args.map.now) c.args.objects.now c.args.frames.now) c.args.touch c.args.reply
    c.access_reply-due.result
    (due_kept (g.M.SlotRead.slots c.args.map.now) c.args.objects.now c.args.frames.now c.args.touch c.in-Some.info c.access_reply-due.result
    (sym c.page.ensures ∙ c.in-Some.is) c.access_reply-due.ensures)
    ((c.if-not-is_same.ensures {u = tt}).0 refl))
