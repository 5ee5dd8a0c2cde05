-- What a picture shows of a run.
use Rattle.std.specs.Prelude.{ℕ, ◌-◌, List, Option, None, Some, if◌then◌else◌, option_map, option_to_list}
use Rattle.std.specs.List.{flat_map}
use Rattle.vm_base.specs.Functions.{has}
use Rattle.vm_base.specs.declared.page.PageRange.{PageRange}
use Rattle.draw_steps.specs.Moments.{answer_of, back_at, latest_told, next_change}
use Rattle.draw_steps.specs.declared.moments.Recorded.{Recorded}
use Rattle.draw_steps.specs.declared.moments.Moment.{Moment}
use Rattle.draw_steps.specs.declared.moments.Moment.TheVariants.{Begins, Answers, Told, Took, Did, Mapped, Unmapped}
use Rattle.draw_steps.specs.declared.moments.Pass.{Pass}
use Rattle.draw_steps.specs.declared.moments.Pass.TheVariants.{First, Second}
use Rattle.draw_steps.specs.declared.shapes.Bar.{Bar}
use Rattle.draw_steps.specs.declared.shapes.Arrow.{Arrow}
use Rattle.draw_steps.specs.declared.shapes.Course.TheVariants.{Message, Acknowledgement}
use Rattle.draw_steps.specs.declared.shapes.Mark.{Mark}
use Rattle.draw_steps.specs.declared.shapes.Sign.TheVariants.{Take, Deed}
use Rattle.draw_steps.specs.declared.shapes.Stretch.{Stretch}

-- a call that begins has a bar, which ends with its first answer
abbrev pub bar_in : List Recorded → ℕ → Moment → Option Bar
bar_in all step (Begins call core request) =
    Some (record { core = core; begin = step; request = request; answer = answer_of all call })
bar_in all step (Answers call reply) = None
bar_in all step (Told core cores) = None
bar_in all step (Took core sender pass) = None
bar_in all step (Did core deed) = None
bar_in all step (Mapped pages prot back) = None
bar_in all step (Unmapped pages) = None

-- the bar of the call that begins in this step
abbrev pub bar_of : List Recorded → Recorded → Option Bar
bar_of all r = bar_in all r.step r.moment

-- the bars of all calls that begin, in order
abbrev pub bars_of : List Recorded → List Recorded → List Bar
bars_of all rs = flat_map (λ r. option_to_list (bar_of all r)) rs

-- a message goes from the core that told to its first take, its acknowledgement back at the second
abbrev pub arrow_at : ℕ → ℕ → Pass → ℕ → ℕ → Arrow
arrow_at core sender First told step = record { course = Message; from = sender; sent = told; to = core; came = step }
arrow_at core sender Second told step = record { course = Acknowledgement; from = core; sent = step; to = sender; came = step }

-- a take has an arrow if its core was told
abbrev pub arrow_in : List Recorded → ℕ → Moment → Option Arrow
arrow_in all step (Took core sender pass) = option_map (λ told. arrow_at core sender pass told step) (latest_told None all sender core step)
arrow_in all step (Begins call core request) = None
arrow_in all step (Answers call reply) = None
arrow_in all step (Told core cores) = None
arrow_in all step (Did core deed) = None
arrow_in all step (Mapped pages prot back) = None
arrow_in all step (Unmapped pages) = None

-- the arrow that ends in this step
abbrev pub arrow_of : List Recorded → Recorded → Option Arrow
arrow_of all r = arrow_in all r.step r.moment

abbrev pub arrows_of : List Recorded → List Recorded → List Arrow
arrows_of all rs = flat_map (λ r. option_to_list (arrow_of all r)) rs

-- a take has a mark, and each other deed of a core
abbrev pub mark_in : ℕ → Moment → Option Mark
mark_in step (Took core sender pass) = Some (record { core = core; step = step; sign = Take })
mark_in step (Did core deed) = Some (record { core = core; step = step; sign = Deed deed })
mark_in step (Begins call core request) = None
mark_in step (Answers call reply) = None
mark_in step (Told core cores) = None
mark_in step (Mapped pages prot back) = None
mark_in step (Unmapped pages) = None

-- the mark of this step's deed
abbrev pub mark_of : Recorded → Option Mark
mark_of r = mark_in r.step r.moment

abbrev pub marks_of : List Recorded → List Mark
marks_of rs = flat_map (λ r. option_to_list (mark_of r)) rs

-- pages that are mapped have a stretch in their row, up to the next change
abbrev pub stretch_in : List Recorded → ℕ → PageRange → ℕ → Moment → Option Stretch
stretch_in all row pages step (Mapped range prot back) =
    if has range pages.first
    then Some (record {
      row = row;
      pages = pages;
      prot = prot;
      back = back_at all back (pages.first - range.first) pages.first step;
      begin = step;
      end = next_change all pages.first step;
    })
    else None
stretch_in all row pages step (Begins call core request) = None
stretch_in all row pages step (Answers call reply) = None
stretch_in all row pages step (Told core cores) = None
stretch_in all row pages step (Took core sender pass) = None
stretch_in all row pages step (Did core deed) = None
stretch_in all row pages step (Unmapped range) = None

-- the stretch of a row that begins in this step
abbrev pub stretch_of : List Recorded → ℕ → PageRange → Recorded → Option Stretch
stretch_of all row pages r = stretch_in all row pages r.step r.moment

-- the stretches of one row
abbrev pub stretches_of : List Recorded → ℕ → PageRange → List Recorded → List Stretch
stretches_of all row pages rs = flat_map (λ r. option_to_list (stretch_of all row pages r)) rs
