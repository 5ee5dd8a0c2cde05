use Rattle.std.proofs.Common.{◌≡◌, ◌≢◌, ◌⊎◌, rules, inr, sym, subst}
use Rattle.vm_base.specs.declared.replies.Reply.{Reply}
use Rattle.vm_base.specs.declared.replies.Reply.TheVariants.{NoMemory}
use Rattle.seats.specs.Notes.{SeatView}
use Rattle.live_pages.specs.Ending.{Ends}
use Rattle.live_pages.proofs.Ending.{ends_after}
use Rattle.frames.specs.Files.{files_of}
use Rattle.live_space.specs.Doing.{Done}
use Rattle.live_space.specs.Planned.{AnswersPlan}
use Rattle.live_space.proofs.Done.{answered_did, ended_done, touch_done}
use Rattle.live_space.proofs.Ended.{answered_in, at_last, ends_map, holds_none, open_in, reply_ends, runs_answered, runs_open}
use Rattle.live_space.proofs.Never.{planned_never}
use Rattle.live_space.proofs.space.Live.go_on.Goals as goal

pub returns-in-Answered : goal.returns-in-Answered
returns-in-Answered g c = record {
  ended = at_last (λ (v : SeatView). Ends c.args.seat.now c.in-Answered.reply v) _ _
      (runs_answered _ _ _ _ c.run-ran.ensures.runs c.in-Answered.is) (search rules);
  answers = inr (answered_in (AnswersPlan c.args.plan) _ _ c.run-ran.ensures.answers c.in-Answered.is);
  did = inr (touch_done (files_of c.args.self.now.files) c.args.plan _ c.in-Answered.reply (answered_did (files_of c.args.self.now.files) c.args.plan
      c.run-ran.result c.in-Answered.reply c.run-ran.new.self.seat.now c.run-ran.new.self.held c.run-ran.ensures.did c.in-Answered.is));
}

pub returns-in-Open : goal.returns-in-Open
returns-in-Open g c = record {
  ended = at_last (λ (v : SeatView). Ends c.args.seat.now c.end.result v) c.end.new.seat _
      (ends_after _ _ _ _ (runs_open _ _ _ _ c.run-ran.ensures.runs c.in-Open.is) c.end.ensures.ended) (search rules);
  answers = subst (λ (r : Reply). (r ≡ NoMemory) ⊎ AnswersPlan c.args.plan r) (sym c.end.ensures.reply)
      (reply_ends (AnswersPlan c.args.plan) _ (open_in (AnswersPlan c.args.plan) _ _ c.run-ran.ensures.answers c.in-Open.is));
  did = at_last (λ (v : SeatView). (c.end.result ≡ NoMemory) ⊎ Done (files_of c.args.self.now.files) c.args.plan v c.end.result) c.end.new.seat _
      (subst (λ (r : Reply). (r ≡ NoMemory) ⊎ Done (files_of c.args.self.now.files) c.args.plan c.end.new.seat r) (sym c.end.ensures.reply)
      (ended_done (files_of c.args.self.now.files) c.args.plan c.run-ran.result c.in-Open.ending c.run-ran.new.self.seat.now c.end.new.seat c.run-ran.new.self.held c.run-ran.ensures.did c.in-Open.is
      (subst (λ (r : Reply). Ends c.run-ran.new.self.seat.now r c.end.new.seat) c.end.ensures.reply c.end.ensures.ended))) (search rules);
}

pub end-requires : goal.end-requires
end-requires g c = (
  search rules,
  (
    search rules,
    ends_map (AnswersPlan c.args.plan) (λ (r : Reply). r ≢ NoMemory) _ (planned_never c.args.plan)
        (open_in (AnswersPlan c.args.plan) _ _ c.run-ran.ensures.answers c.in-Open.is),
  ),
)

pub finish-requires : goal.finish-requires
finish-requires g c = (search rules, holds_none _ _ _ c.run-ran.ensures.none c.in-Answered.is)
