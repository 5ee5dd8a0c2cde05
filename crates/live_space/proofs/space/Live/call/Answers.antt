use Rattle.std.proofs.Common.{◌≡◌, ◌+◌, ℕ, Option, Result, ap, subst, ◌∙◌, rules}
use Rattle.vm_base.specs.Plain.{mode_of}
use Rattle.vm_base.specs.declared.rights.Mode.{Mode}
use Rattle.frames.specs.Files.{files_of}
use Rattle.vm_calls.specs.Checks.{checked}
use Rattle.slot_lock.specs.declared.plan.Plan.{Plan}
use Rattle.vm_base.specs.declared.replies.Reply.{Reply}
use Rattle.seats.specs.Notes.{SeatView}
use Rattle.live_space.specs.Doing.{DoneIf}
use Rattle.live_space.specs.Answering.{AnswersFor}
use Rattle.live_pages.proofs.Ending.{begun_once}
use Rattle.live_space.proofs.Never.{checked_never}
use Rattle.live_space.proofs.Own.{call_noted, still_own}
use Rattle.live_space.proofs.Replies.{answers_checked}
use Rattle.live_space.proofs.space.Live.call.Goals as goal

pub returns-clause-noted : goal.returns-clause-noted
returns-clause-noted g c = call_noted _ _ _ _ _ c.args.request c.run-reply.result _ c.requires
    c.in_ok-reserve_notes.ensures.same c.begin-begun.ensures c.run-reply.ensures.ended

pub returns-clause-own : goal.returns-clause-own
returns-clause-own g c = still_own _ _ _ c.requires (call_noted _ _ _ _ _ c.args.request c.run-reply.result _ c.requires
    c.in_ok-reserve_notes.ensures.same c.begin-begun.ensures c.run-reply.ensures.ended).same

pub returns-clause-answers : goal.returns-clause-answers
returns-clause-answers g c =
    let same = ap (λ (s : SeatView). s.core) c.in_ok-reserve_notes.ensures.same in
    let modes : ℕ → Option Mode = λ file. mode_of (files_of c.args.self.now.files file) in
    let is : c.check-checked.result ≡ checked modes c.reserve_notes.new.seat.core c.args.request = search rules in
    subst (λ n. AnswersFor modes n c.args.request c.run-reply.result) same
    (answers_checked modes c.reserve_notes.new.seat.core c.args.request c.check-checked.result c.run-reply.result is c.run-reply.ensures.answers)

pub returns-clause-did : goal.returns-clause-did
returns-clause-did g c =
    let same = ap (λ (s : SeatView). s.core) c.in_ok-reserve_notes.ensures.same in
    let files = files_of c.args.self.now.files in
    let modes : ℕ → Option Mode = λ file. mode_of (files file) in
    let is : c.check-checked.result ≡ checked modes c.reserve_notes.new.seat.core c.args.request = search rules in
    subst (λ n. DoneIf files (checked modes n c.args.request) c.run-reply.new.seat c.run-reply.result) same
    (subst (λ (r : Result Plan Reply). DoneIf files r c.run-reply.new.seat c.run-reply.result) is c.run-reply.ensures.did)

pub returns-clause-begun : goal.returns-clause-begun
returns-clause-begun g c = begun_once _ _ _ c.run-reply.ensures.ended ∙ (ap (λ (s : SeatView). s.begun) c.begin-begun.ensures
    ∙ ap (λ (s : SeatView). s.begun + 1) c.in_ok-reserve_notes.ensures.same)

pub run-reply-requires-clause-never : goal.run-reply-requires-clause-never
run-reply-requires-clause-never g c =
    let modes : ℕ → Option Mode = λ file. mode_of (files_of c.args.self.now.files file) in
    let is : c.check-checked.result ≡ checked modes c.reserve_notes.new.seat.core c.args.request = search rules in
    checked_never modes c.reserve_notes.new.seat.core c.args.request c.check-checked.result is
