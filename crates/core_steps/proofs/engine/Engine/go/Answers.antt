use Rattle.std.specs.Prelude.{IfOk}
use Rattle.machine_model.proofs.Words.{◌∙◌, Ok, Err, Result, refl, ap, subst, is_open}
use Rattle.machine_model.specs.declared.event.Outcome.{Outcome}
use Rattle.core_steps.specs.Moving.{IsAt}
use Rattle.core_steps.specs.State.{world}
use Rattle.core_steps.proofs.engine.Engine.go.Goals as goal

-- a step that may be refused and neither locks nor cuts says nothing of slots
nothing : {E : Type 0} (r : Result Outcome E) → IfOk r (λ o. Unit {0})
nothing (Ok o) = tt
nothing (Err e) = tt

pub stands-requires : goal.stands-requires
stands-requires g c = record { here = c.requires.here; well = c.requires.well }

pub go_check-requires-clause-here : goal.go_check-requires-clause-here
go_check-requires-clause-here g c = c.requires.here

pub go_check-requires-clause-room : goal.go_check-requires-clause-room
go_check-requires-clause-room g c = c.stands.ensures.room (ap is_open c.in-Check.is)

pub returns-in-Free-clause-row : goal.returns-in-Free-clause-row
returns-in-Free-clause-row g c = rw (c.stands.ensures.phase ∙ c.in-Free.is) (refl, refl)

pub returns-in-Free-clause-divides : goal.returns-in-Free-clause-divides
returns-in-Free-clause-divides g c = rw (c.stands.ensures.phase ∙ c.in-Free.is) tt

pub returns-in-Check-clause-row : goal.returns-in-Check-clause-row
returns-in-Check-clause-row g c = rw (c.stands.ensures.phase ∙ c.in-Check.is) c.go_check.ensures

pub returns-in-Check-clause-divides : goal.returns-in-Check-clause-divides
returns-in-Check-clause-divides g c = rw (c.stands.ensures.phase ∙ c.in-Check.is) tt

pub go_lock-requires : goal.go_lock-requires
go_lock-requires g c = subst (IsAt (world g.M.SlotRead.slots c.args.self.now) c.args.core) c.in-Lock.is c.stands.ensures

pub returns-in-Lock-clause-row : goal.returns-in-Lock-clause-row
returns-in-Lock-clause-row g c = rw (c.stands.ensures.phase ∙ c.in-Lock.is) c.go_lock.ensures.row

pub returns-in-Lock-clause-divides : goal.returns-in-Lock-clause-divides
returns-in-Lock-clause-divides g c = rw (c.stands.ensures.phase ∙ c.in-Lock.is) c.go_lock.ensures.divides

pub go_guess-requires : goal.go_guess-requires
go_guess-requires g c = subst (IsAt (world g.M.SlotRead.slots c.args.self.now) c.args.core) c.in-Guess.is c.stands.ensures

pub returns-in-Guess-clause-row : goal.returns-in-Guess-clause-row
returns-in-Guess-clause-row g c = rw (c.stands.ensures.phase ∙ c.in-Guess.is) c.go_guess.ensures

pub returns-in-Guess-clause-divides : goal.returns-in-Guess-clause-divides
returns-in-Guess-clause-divides g c = rw (c.stands.ensures.phase ∙ c.in-Guess.is) tt

pub go_find-requires : goal.go_find-requires
go_find-requires g c = subst (IsAt (world g.M.SlotRead.slots c.args.self.now) c.args.core) c.in-Find.is c.stands.ensures

pub returns-in-Find-clause-row : goal.returns-in-Find-clause-row
returns-in-Find-clause-row g c = rw (c.stands.ensures.phase ∙ c.in-Find.is) c.go_find.ensures

pub returns-in-Find-clause-divides : goal.returns-in-Find-clause-divides
returns-in-Find-clause-divides g c = rw (c.stands.ensures.phase ∙ c.in-Find.is) tt

pub go_back-requires : goal.go_back-requires
go_back-requires g c = subst (IsAt (world g.M.SlotRead.slots c.args.self.now) c.args.core) c.in-Back.is c.stands.ensures

pub returns-in-Back-clause-row : goal.returns-in-Back-clause-row
returns-in-Back-clause-row g c = rw (c.stands.ensures.phase ∙ c.in-Back.is) c.go_back.ensures

pub returns-in-Back-clause-divides : goal.returns-in-Back-clause-divides
returns-in-Back-clause-divides g c = rw (c.stands.ensures.phase ∙ c.in-Back.is) tt

pub go_cut-requires : goal.go_cut-requires
go_cut-requires g c = subst (IsAt (world g.M.SlotRead.slots c.args.self.now) c.args.core) c.in-Cut.is c.stands.ensures

pub returns-in-Cut-clause-row : goal.returns-in-Cut-clause-row
returns-in-Cut-clause-row g c = rw (c.stands.ensures.phase ∙ c.in-Cut.is) c.go_cut.ensures.row

pub returns-in-Cut-clause-divides : goal.returns-in-Cut-clause-divides
returns-in-Cut-clause-divides g c = rw (c.stands.ensures.phase ∙ c.in-Cut.is) c.go_cut.ensures.divides

pub go_decide-requires : goal.go_decide-requires
go_decide-requires g c = subst (IsAt (world g.M.SlotRead.slots c.args.self.now) c.args.core) c.in-Decide.is c.stands.ensures

pub returns-in-Decide-clause-row : goal.returns-in-Decide-clause-row
returns-in-Decide-clause-row g c = rw (c.stands.ensures.phase ∙ c.in-Decide.is) c.go_decide.ensures

pub returns-in-Decide-clause-divides : goal.returns-in-Decide-clause-divides
returns-in-Decide-clause-divides g c = rw (c.stands.ensures.phase ∙ c.in-Decide.is) tt

pub go_post-requires : goal.go_post-requires
go_post-requires g c = subst (IsAt (world g.M.SlotRead.slots c.args.self.now) c.args.core) c.in-Post.is c.stands.ensures

pub returns-in-Post-clause-row : goal.returns-in-Post-clause-row
returns-in-Post-clause-row g c = rw (c.stands.ensures.phase ∙ c.in-Post.is) c.go_post.ensures

pub returns-in-Post-clause-divides : goal.returns-in-Post-clause-divides
returns-in-Post-clause-divides g c = rw (c.stands.ensures.phase ∙ c.in-Post.is) tt

pub go_acks-requires : goal.go_acks-requires
go_acks-requires g c = subst (IsAt (world g.M.SlotRead.slots c.args.self.now) c.args.core) c.in-Acks.is c.stands.ensures

pub returns-in-Acks-clause-row : goal.returns-in-Acks-clause-row
returns-in-Acks-clause-row g c = rw (c.stands.ensures.phase ∙ c.in-Acks.is) c.go_acks.ensures

pub returns-in-Acks-clause-divides : goal.returns-in-Acks-clause-divides
returns-in-Acks-clause-divides g c = rw (c.stands.ensures.phase ∙ c.in-Acks.is) tt

pub go_unlock-requires : goal.go_unlock-requires
go_unlock-requires g c = subst (IsAt (world g.M.SlotRead.slots c.args.self.now) c.args.core) c.in-Unlock.is c.stands.ensures

pub returns-in-Unlock-clause-row : goal.returns-in-Unlock-clause-row
returns-in-Unlock-clause-row g c = rw (c.stands.ensures.phase ∙ c.in-Unlock.is) c.go_unlock.ensures

pub returns-in-Unlock-clause-divides : goal.returns-in-Unlock-clause-divides
returns-in-Unlock-clause-divides g c = rw (c.stands.ensures.phase ∙ c.in-Unlock.is) tt

pub go_answer-requires : goal.go_answer-requires
go_answer-requires g c = subst (IsAt (world g.M.SlotRead.slots c.args.self.now) c.args.core) c.in-Answer.is c.stands.ensures

pub returns-in-Answer-clause-row : goal.returns-in-Answer-clause-row
returns-in-Answer-clause-row g c = rw (c.stands.ensures.phase ∙ c.in-Answer.is) c.go_answer.ensures

pub returns-in-Answer-clause-divides : goal.returns-in-Answer-clause-divides
returns-in-Answer-clause-divides g c = rw (c.stands.ensures.phase ∙ c.in-Answer.is) tt

pub go_try-requires : goal.go_try-requires
go_try-requires g c = subst (IsAt (world g.M.SlotRead.slots c.args.self.now) c.args.core) c.in-Try.is c.stands.ensures

pub returns-in-Try-clause-row : goal.returns-in-Try-clause-row
returns-in-Try-clause-row g c = rw (c.stands.ensures.phase ∙ c.in-Try.is) c.go_try.ensures

pub returns-in-Try-clause-divides : goal.returns-in-Try-clause-divides
returns-in-Try-clause-divides g c = rw (c.stands.ensures.phase ∙ c.in-Try.is) tt

pub go_settle-requires : goal.go_settle-requires
go_settle-requires g c = subst (IsAt (world g.M.SlotRead.slots c.args.self.now) c.args.core) c.in-Settle.is c.stands.ensures

pub returns-in-Settle-clause-row : goal.returns-in-Settle-clause-row
returns-in-Settle-clause-row g c = rw (c.stands.ensures.phase ∙ c.in-Settle.is) c.go_settle.ensures

pub returns-in-Settle-clause-divides : goal.returns-in-Settle-clause-divides
returns-in-Settle-clause-divides g c = rw (c.stands.ensures.phase ∙ c.in-Settle.is) tt

pub go_want-requires : goal.go_want-requires
go_want-requires g c = subst (IsAt (world g.M.SlotRead.slots c.args.self.now) c.args.core) c.in-Want.is c.stands.ensures

pub returns-in-Want-clause-row : goal.returns-in-Want-clause-row
returns-in-Want-clause-row g c = rw (c.stands.ensures.phase ∙ c.in-Want.is) c.go_want.ensures

pub returns-in-Want-clause-divides : goal.returns-in-Want-clause-divides
returns-in-Want-clause-divides g c = rw (c.stands.ensures.phase ∙ c.in-Want.is) tt

pub go_fill-requires : goal.go_fill-requires
go_fill-requires g c = subst (IsAt (world g.M.SlotRead.slots c.args.self.now) c.args.core) c.in-Fill.is c.stands.ensures

pub returns-in-Fill-clause-row : goal.returns-in-Fill-clause-row
returns-in-Fill-clause-row g c = rw (c.stands.ensures.phase ∙ c.in-Fill.is) c.go_fill.ensures

pub returns-in-Fill-clause-divides : goal.returns-in-Fill-clause-divides
returns-in-Fill-clause-divides g c = rw (c.stands.ensures.phase ∙ c.in-Fill.is) (nothing c.go_fill.result)

pub go_copy_post-requires : goal.go_copy_post-requires
go_copy_post-requires g c = subst (IsAt (world g.M.SlotRead.slots c.args.self.now) c.args.core) c.in-CopyPost.is c.stands.ensures

pub returns-in-CopyPost-clause-row : goal.returns-in-CopyPost-clause-row
returns-in-CopyPost-clause-row g c = rw (c.stands.ensures.phase ∙ c.in-CopyPost.is) c.go_copy_post.ensures

pub returns-in-CopyPost-clause-divides : goal.returns-in-CopyPost-clause-divides
returns-in-CopyPost-clause-divides g c = rw (c.stands.ensures.phase ∙ c.in-CopyPost.is) tt

pub go_copy_acks-requires : goal.go_copy_acks-requires
go_copy_acks-requires g c = subst (IsAt (world g.M.SlotRead.slots c.args.self.now) c.args.core) c.in-CopyAcks.is c.stands.ensures

pub returns-in-CopyAcks-clause-row : goal.returns-in-CopyAcks-clause-row
returns-in-CopyAcks-clause-row g c = rw (c.stands.ensures.phase ∙ c.in-CopyAcks.is) c.go_copy_acks.ensures

pub returns-in-CopyAcks-clause-divides : goal.returns-in-CopyAcks-clause-divides
returns-in-CopyAcks-clause-divides g c = rw (c.stands.ensures.phase ∙ c.in-CopyAcks.is) (nothing c.go_copy_acks.result)

pub go_install-requires : goal.go_install-requires
go_install-requires g c = subst (IsAt (world g.M.SlotRead.slots c.args.self.now) c.args.core) c.in-Install.is c.stands.ensures

pub returns-in-Install-clause-row : goal.returns-in-Install-clause-row
returns-in-Install-clause-row g c = rw (c.stands.ensures.phase ∙ c.in-Install.is) c.go_install.ensures

pub returns-in-Install-clause-divides : goal.returns-in-Install-clause-divides
returns-in-Install-clause-divides g c = rw (c.stands.ensures.phase ∙ c.in-Install.is) (nothing c.go_install.result)

pub go_release-requires : goal.go_release-requires
go_release-requires g c = subst (IsAt (world g.M.SlotRead.slots c.args.self.now) c.args.core) c.in-Release.is c.stands.ensures

pub returns-in-Release-clause-row : goal.returns-in-Release-clause-row
returns-in-Release-clause-row g c = rw (c.stands.ensures.phase ∙ c.in-Release.is) c.go_release.ensures

pub returns-in-Release-clause-divides : goal.returns-in-Release-clause-divides
returns-in-Release-clause-divides g c = rw (c.stands.ensures.phase ∙ c.in-Release.is) tt
