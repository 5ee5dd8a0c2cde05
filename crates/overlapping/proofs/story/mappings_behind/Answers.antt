use Rattle.std.proofs.Common.{subst}
use Rattle.slot_lock.specs.MapList.{IsMapList}
use Rattle.slot_lock.specs.MapWalks.{slot_metas}
use Rattle.overlapping.proofs.StoryLemmas.{mappings_there, wrong_there}
use Rattle.overlapping.proofs.story.mappings_behind.Goals as goal

pub all_lines-requires-clause-laws : goal.all_lines-requires-clause-laws
all_lines-requires-clause-laws g c = g.met.M.SlotMap.is_slot_map c.map.result.now

pub returns-in_ok-mappings-in-None-clause-mapped : goal.returns-in_ok-mappings-in-None-clause-mapped
returns-in_ok-mappings-in-None-clause-mapped g c =
    let new = c.judge_all.new.self in
    let mappings = c.in_ok-mappings-in-None.mappings.items in
    mappings_there c.args.auditor.now.any_place _ c.args.first.now c.in_ok-judge_all.field-0 mappings (g.M.SlotRead.slots new.map) new.objects new.frames
    c.in-None.is c.in_ok-judge_all.ensures.legal
    (subst (λ m. IsMapList (slot_metas (g.M.SlotRead.slots m)) mappings) c.map.ensures c.in_ok-mappings-in-None.ensures.lines)
