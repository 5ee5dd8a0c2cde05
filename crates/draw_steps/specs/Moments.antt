-- What happened in a run: when a call was answered, who was told, and how long a page stays as it is.
use Rattle.std.specs.Prelude.{ℕ, ◌+◌, ◌-◌, ◌^◌, Bool, false, ◌&&◌, List, [], ◌∷◌, Option, None, Some, if◌then◌else◌, ◌==◌, min, nat_le, nat_lt}
use Rattle.vm_base.specs.Cores.{members}
use Rattle.vm_base.specs.Functions.{has}
use Rattle.vm_base.specs.declared.info.Back.{Back}
use Rattle.vm_base.specs.declared.info.Back.TheVariants.{Anon, Shared, Private}
use Rattle.draw_steps.specs.declared.moments.Recorded.{Recorded}
use Rattle.draw_steps.specs.declared.moments.Answer.{Answer}
use Rattle.draw_steps.specs.declared.moments.Moment.{Moment}
use Rattle.draw_steps.specs.declared.moments.Moment.TheVariants.{Begins, Answers, Told, Took, Did, Mapped, Unmapped}

-- the reply, where this answers the call
abbrev pub reply_in : ℕ → ℕ → Moment → Option Answer
reply_in step call (Answers other reply) = if other == call then Some (record { step = step; reply = reply }) else None
reply_in step call (Begins other core request) = None
reply_in step call (Told core cores) = None
reply_in step call (Took core sender pass) = None
reply_in step call (Did core deed) = None
reply_in step call (Mapped pages prot back) = None
reply_in step call (Unmapped pages) = None

-- the answer that this step gives to the call, if it does
abbrev pub answer_in : Recorded → ℕ → Option Answer
answer_in r call = reply_in r.step call r.moment

-- the first of two answers that is there
abbrev pub answer_or : Option Answer → Option Answer → Option Answer
answer_or None later = later
answer_or (Some a) later = Some a

-- the first answer of a call
abbrev pub answer_of : List Recorded → ℕ → Option Answer
answer_of [] call = None
answer_of (r ∷ rs) call = answer_or (answer_in r call) (answer_of rs call)

-- whether in this moment `sender` told `core`
abbrev pub told_in : ℕ → ℕ → Moment → Bool
told_in sender core (Told from cores) = (from == sender) && members cores core
told_in sender core (Begins call from request) = false
told_in sender core (Answers call reply) = false
told_in sender core (Took taker from pass) = false
told_in sender core (Did doer deed) = false
told_in sender core (Mapped pages prot back) = false
told_in sender core (Unmapped pages) = false

-- and whether that was before a step
abbrev pub tells : Recorded → ℕ → ℕ → ℕ → Bool
tells r sender core step = told_in sender core r.moment && nat_lt r.step step

-- the last step before this one in which `sender` told `core`; the one that is known so far where no moment does
abbrev pub latest_told : Option ℕ → List Recorded → ℕ → ℕ → ℕ → Option ℕ
latest_told known [] sender core step = known
latest_told known (r ∷ rs) sender core step =
    latest_told (if tells r sender core step then Some r.step else known) rs sender core step

-- whether this maps the page, or unmaps it
abbrev pub touches : ℕ → Moment → Bool
touches page (Mapped pages prot back) = has pages page
touches page (Unmapped pages) = has pages page
touches page (Begins call core request) = false
touches page (Answers call reply) = false
touches page (Told core cores) = false
touches page (Took core sender pass) = false
touches page (Did core deed) = false

-- and whether after a step
abbrev pub changes : Recorded → ℕ → ℕ → Bool
changes r page step = touches page r.moment && nat_lt step r.step

-- the first step after this one in which the page is mapped anew or unmapped
abbrev pub next_change : List Recorded → ℕ → ℕ → Option ℕ
next_change [] page step = None
next_change (r ∷ rs) page step = if changes r page step then Some r.step else next_change rs page step

-- ---- what backs a page

-- the page that lies so far behind the first of a mapping; no page of a file is above 2^64 - 1
abbrev pub back_after : Back → ℕ → Back
back_after Anon by = Anon
back_after (Shared file page) by = Shared file (min (page + by) (2 ^ 64 - 1))
back_after (Private file page) by = Private file (min (page + by) (2 ^ 64 - 1))

-- the same, where it is known what backs the first
abbrev pub back_by : Option Back → ℕ → Option Back
back_by None by = None
back_by (Some back) by = Some (back_after back by)

-- what this maps the page to, where it says so
abbrev pub backing_in : ℕ → Moment → Option Back
backing_in page (Mapped pages prot back) = if has pages page then back_by back (page - pages.first) else None
backing_in page (Unmapped pages) = None
backing_in page (Begins call core request) = None
backing_in page (Answers call reply) = None
backing_in page (Told core cores) = None
backing_in page (Took core sender pass) = None
backing_in page (Did core deed) = None

-- the same, where it isn't behind the step
abbrev pub backing_by : Recorded → ℕ → ℕ → Option Back
backing_by r page step = if nat_le r.step step then backing_in page r.moment else None

-- what is said later, if something is
abbrev pub later_or : Option Back → Option Back → Option Back
later_or None known = known
later_or (Some back) known = Some back

-- what backs the page in a step: as the last says that says it, up to that step; the one that is known so far where none does
abbrev pub backing_of : Option Back → List Recorded → ℕ → ℕ → Option Back
backing_of known [] page step = known
backing_of known (r ∷ rs) page step = backing_of (later_or (backing_by r page step) known) rs page step

-- from a step on that maps the page, as that step says; where it leaves that as it is, as was said before
abbrev pub back_at : List Recorded → Option Back → ℕ → ℕ → ℕ → Option Back
back_at all back by page step = later_or (back_by back by) (backing_of None all page step)
