-- What a recorder keeps
use Rattle.std.specs.Prelude.{ℕ, ◌==◌, ◌&&◌, Bool, nat_lt, nat_le, min, List, [], ◌∷◌, ◌++◌, length, replicate}
use Rattle.std.specs.Prelude.{Option, None, Some, slice_index_or, slice_set, if◌then◌else◌}
use Rattle.vm_base.specs.declared.requests.Request.{Request}
use Rattle.vm_base.specs.declared.replies.Reply.{Reply}
use Rattle.slot_lock.specs.declared.plan.Change.{Change}
use Rattle.slot_lock.specs.declared.plan.Change.TheVariants.{Put, Clear, Protect}
use Rattle.draw_steps.specs.declared.moments.Recorded.{Recorded}
use Rattle.draw_steps.specs.declared.moments.Deed.{Deed}
use Rattle.draw_steps.specs.declared.moments.Moment.{Moment}
use Rattle.draw_steps.specs.declared.moments.Moment.TheVariants.{Begins, Answers, Told, Did, Mapped, Unmapped}
use Rattle.watched.specs.Sums.{more}
use Rattle.draw_records.specs.declared.recorder.Pending.{Pending}

-- The range of steps. How many cores there are, and how many steps and calls there were. Of each core: its call, while
-- it isn't answered, and the step in which it told others last. And what was recorded.
pub record Recording : Type 0 where
  pub first : ℕ
  pub last : ℕ
  pub cores : ℕ
  pub step : ℕ
  pub calls : ℕ
  pub pending : List (Option Pending)
  pub told : List ℕ
  pub moments : List Recorded

-- before the first step
abbrev pub nothing_recorded : ℕ → ℕ → Recording
nothing_recorded first last = record {
  first = first;
  last = min last (more first 1999);
  cores = 0;
  step = 0;
  calls = 0;
  pending = replicate 64 None;
  told = replicate 64 0;
  moments = [];
}

-- the range begins with the next step
abbrev pub opened : Recording → Recording
opened r = record r { first = more r.step 1; last = more r.step 2000 }

-- ---- one moment

-- the step is in the range, and there is room: for eight moments of each of 2,000 steps, and for the call of each core
abbrev pub is_kept : Recording → Bool
is_kept r = nat_le r.first r.step && nat_le r.step r.last && nat_lt (length r.moments) 16064

abbrev pub pushed : Recording → Recorded → Recording
pushed r recorded = if is_kept r then record r { moments = r.moments ++ recorded ∷ [] } else r

-- a moment of the present step
abbrev pub noted : Recording → Moment → Recording
noted r moment = pushed r (record { step = r.step; moment = moment })

-- ---- calls that aren't answered yet

-- that the call began
abbrev pub begin_of : Pending → Recorded
begin_of o = record { step = o.step; moment = Begins o.call o.core o.request }

abbrev pub begin_pushed : Recording → Option Pending → Recording
begin_pushed r None = r
begin_pushed r (Some call) = pushed r (begin_of call)

abbrev pub all_pushed : Recording → List (Option Pending) → Recording
all_pushed r [] = r
all_pushed r (call ∷ calls) = all_pushed (begin_pushed r call) calls

-- ---- a step

-- the next step of a machine with so many cores; the first of the range begins with the calls that aren't answered yet
abbrev pub advanced : Recording → ℕ → Recording
advanced r cores =
    let next = record r { cores = cores; step = more r.step 1 } in
    if next.step == r.first then all_pushed next r.pending else next

-- a call begins, whose number is that of the calls so far
abbrev pub begun : Recording → ℕ → Request → Recording
begun r core request =
    let call = more r.calls 1 in
    noted (record r {
      calls = call;
      pending = slice_set r.pending core (Some (record { call = call; step = r.step; core = core; request = request }));
    })
    (Begins call core request)

-- the core's call is answered
abbrev pub answered_by : Recording → ℕ → Reply → Option Pending → Recording
answered_by r core reply None = r
answered_by r core reply (Some call) = noted (record r { pending = slice_set r.pending core None }) (Answers call.call reply)

abbrev pub answered : Recording → ℕ → Reply → Recording
answered r core reply = answered_by r core reply (slice_index_or r.pending core None)

-- the core told these others, if there are any
abbrev pub told_others : Recording → ℕ → ℕ → Recording
told_others r core cores =
    if cores == 0 then r else noted (record r { told = slice_set r.told core r.step }) (Told core cores)

abbrev pub deed_done : Recording → ℕ → Deed → Recording
deed_done r core deed = noted r (Did core deed)

-- what a change makes of its pages: other rights leave what backs them
abbrev pub made : Change → Moment
made (Put range meta) = Mapped range meta.prot (Some meta.back)
made (Clear range) = Unmapped range
made (Protect range prot) = Mapped range prot None

abbrev pub change_made : Recording → Change → Recording
change_made r change = noted r (made change)
