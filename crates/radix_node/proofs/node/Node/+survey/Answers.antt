use Rattle.slot_lock.proofs.Words.{◌≡◌, ◌+◌, ◌*◌, ◌≤◌, max, min, refl, sym, ap, ◌∙◌, subst, rules, arith}
use Rattle.std.proofs.Common.{nat_le}
use Rattle.slot_lock.specs.Slots.{between}
use Rattle.slot_lock.specs.Surveys.{IsSurvey}
use Rattle.slot_lock.proofs.Surveys.{survey_few}
use Rattle.radix_node.specs.Run.{width_of}
use Rattle.radix_node.specs.Node.{Parts, flatten}
use Rattle.radix_node.specs.Slots.{parts_of}
use Rattle.radix_node.specs.Survey.{slots_in}
use Rattle.radix_node.proofs.Flat.{width_pos}
use Rattle.radix_node.proofs.Joined.{width_most}
use Rattle.radix_node.proofs.Surveys.{one_most, reach_at, reach_end, reach_from, reach_next, reach_within, survey_child, survey_own}
use Rattle.radix_node.proofs.Walks.{along_below, along_done, along_down, along_in, along_next, along_part, slot_fits, slot_small}
use Rattle.radix_node.proofs.node.Node.+survey.Goals as goal
use Rattle.radix_node.proofs.node.Node.+survey.Goals.{in-Own+else-not-is_free_for, in-Child+in_ok-below-in-Child}

pub slots-init : goal.slots-init
slots-init g t c =
    let e = c.slots_of-slots.ensures in
    let rs = slots_in (flatten (width_of c.self.inside.level) (parts_of c.self.inside.slots.items)) in (
      record {
        low = c.self.invariant.low;
        width_is = c.slot_pages-width.ensures;
        some = c.requires.some;
        past = e.from_high;
        last = e.to;
        to_low = e.to_low;
        to_high = e.to_high;
      },
      subst (λ n. IsSurvey rs (between c.args.first n) c.empty-found.result)
          (sym (reach_from c.args.first c.args.end (c.slots_of-slots.result.from * width_of c.self.inside.level) c.requires.some e.from_low))
          (c.empty-found.ensures rs c.args.first),
    )

pub overflow_mul-start : goal.overflow_mul-start
overflow_mul-start g t c =
    omega (arith, slot_fits c.slots.invariant.0 c.slots-test.true)

pub index-requires : goal.index-requires
index-requires g t c =
    let full = c.self.invariant.full in
    omega (arith, along_in c.slots.invariant.0 c.slots-test.true, full)

pub part_in-part-requires-clause-starts : goal.part_in-part-requires-clause-starts
part_in-part-requires-clause-starts g t c = let l = c.slots.invariant.0 in rw l.width_is (along_below l c.slots-test.true)

pub part_in-part-requires-clause-ends : goal.part_in-part-requires-clause-ends
part_in-part-requires-clause-ends g t c = let l = c.slots.invariant.0 in rw l.width_is l.past

pub part_in-part-requires-clause-wide : goal.part_in-part-requires-clause-wide
part_in-part-requires-clause-wide g t c = let l = c.slots.invariant.0 in rw l.width_is (width_pos c.self.inside.level)

pub and-found-requires : goal.and-found-requires
and-found-requires g t c =
    let l = c.slots.invariant.0 in
    let few = survey_few _ c.args.first _ c.slots.found c.slots.invariant.1 in
    let most = reach_within c.args.first c.args.end (c.slots.k * width_of c.self.inside.level) c.requires.some in
    let small = slot_small l c.slots-test.true in
    let wide = width_most c.self.inside.level l.low in
    let last : c.args.end ≤ 512 * width_of c.self.inside.level =
    subst (λ (v : Parts). c.args.end ≤ 512 * width_of v.level) (sym c.self.view_is) c.requires.within in
    let one = one_most _ _ c.survey.ensures.slots in
    omega (arith, few, most, wide, last, one)

pub part_in-part-requires-clause-small : goal.part_in-part-requires-clause-small
part_in-part-requires-clause-small g t c = slot_fits c.slots.invariant.0 c.slots-test.true

pub survey-requires-in-Child : goal.survey-requires-in-Child
survey-requires-in-Child g t c κs within =
    let l = c.slots.invariant.0 in
    let down = along_down _ c.in-Child.node c.deref.result.now l c.slots-test.true c.self.invariant (sym c.in-Child.is
    ∙ c.index.ensures) c.deref.ensures c.part_in-part.ensures.within in
    let lower = down.falls in
    let last = down.within in
    let here = ap (λ (v : Parts). v.level) c.self.view_is in
    let p = c.part_in-part.ensures in
    search rules

pub and-found-requires-in-Child : goal.and-found-requires-in-Child
and-found-requires-in-Child g t c =
    let l = c.slots.invariant.0 in
    let few = survey_few _ c.args.first _ c.slots.found c.slots.invariant.1 in
    let most = reach_within c.args.first c.args.end (c.slots.k * width_of c.self.inside.level) c.requires.some in
    let small = slot_small l c.slots-test.true in
    let wide = width_most c.self.inside.level l.low in
    let last : c.args.end ≤ 512 * width_of c.self.inside.level =
    subst (λ (v : Parts). c.args.end ≤ 512 * width_of v.level) (sym c.self.view_is) c.requires.within in
    let below = survey_few _ c.part_in-part.result.first _ c.in_ok-below-in-Child.below (c.in_ok-below-in-Child.ensures {u = tt}) in
    let part = c.part_in-part.ensures.within in
    let width = l.width_is in
    omega (arith, few, most, wide, last, small, below, part, width)

pub slots-preserved : goal.slots-preserved
slots-preserved g t c =
    let l = c.slots.invariant.0 in
    let h = c.slots.invariant.1 in
    let level = c.self.inside.level in
    let start = c.slots.k * width_of level in
    let first = c.args.first in
    let end = c.args.end in
    let rs = slots_in (flatten (width_of level) (parts_of c.self.inside.slots.items)) in
    let low = along_below l c.slots-test.true in
    let is_in = along_in l c.slots-test.true in
    let here = reach_at first end start l.some low in
    let next = reach_next first end start (width_of level) ((c.slots.k + 1) * width_of level) l.past (omega arith) in
    let done = subst (λ n. IsSurvey rs (between first n) c.slots.found) here h in
    let order : first ≤ max first start = omega arith in
    let past = l.past in
    let some : max first start ≤ min end (start + width_of level) = omega (arith, low, past, l.some) in (
      along_next l refl,
      subst (λ n. IsSurvey rs (between first n) c.match-index.found) (sym next) (elim c.match-index.branch [
        | in-Own+else-not-is_free_for w ↦
            let slot = survey_own _ w.in-Own.state first end _ w.survey.result c.self.invariant is_in
            (sym w.in-Own.is ∙ c.index.ensures) l.some past low (ap (λ n. nat_le first (c.slots.k * n)) l.width_is)
            w.survey.ensures in
            subst (λ f. IsSurvey rs (between first (min end (start + width_of level))) f) (sym w.found-is)
            (w.and-found.ensures rs first (max first start) (min end (start + width_of level)) order some done slot)
        | in-Child+in_ok-below-in-Child w ↦
            let part = along_part l w.part_in-part.ensures.first w.part_in-part.ensures.end in
            let below = survey_child _ w.in-Child.node w.deref.result.now first end w.part_in-part.result.first w.part_in-part.result.end
            w.in_ok-below-in-Child.below c.self.invariant is_in (sym w.in-Child.is ∙ c.index.ensures) w.deref.ensures part
            w.part_in-part.ensures.some (w.in_ok-below-in-Child.ensures {u = tt}) in
            let from : start + w.part_in-part.result.first ≡ max first start = part.first_is in
            let upto : start + w.part_in-part.result.end ≡ min end (start + width_of level) = part.end_is in
            subst (λ f. IsSurvey rs (between first (min end (start + width_of level))) f) (sym w.found-is)
            (w.and-found-in-Child.ensures rs first (max first start) (min end (start + width_of level)) order some done
            (subst (λ n. IsSurvey rs (between n (min end (start + width_of level))) w.in_ok-below-in-Child.below) from
            (subst (λ n. IsSurvey rs (between (start + w.part_in-part.result.first) n) w.in_ok-below-in-Child.below) upto below)))
      ]),
    )

pub returns : goal.returns
returns g t c =
    rw (← c.self.view_is)
    (subst (λ n. IsSurvey (slots_in (flatten (width_of c.self.inside.level) (parts_of c.self.inside.slots.items))) (between c.args.first n) c.slots.found)
    (reach_end c.args.first c.args.end (c.slots.k * width_of c.self.inside.level) c.requires.some
    (along_done c.slots.invariant.0 (omega (arith, c.slots-test.false)))) c.slots.invariant.1)
