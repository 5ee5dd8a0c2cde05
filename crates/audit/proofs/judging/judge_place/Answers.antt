use Rattle.slot_lock.proofs.Words.{◌≡◌, ◌∙◌, Some, sym, subst, ap, true, false, refl, is_mapped}
use Rattle.frames.specs.Files.{cached_in}
use Rattle.audit.specs.Placing.{IsAllowed}
use Rattle.vm_calls.specs.Decisions.{entries}
use Rattle.slot_lock.proofs.Facts.{on_err}
use Rattle.audit.proofs.Concluded.{place_given, place_made, place_nowhere, place_unsaid, place_wrong}
use Rattle.audit.proofs.Kept.{kept_none}
use Rattle.audit.proofs.judging.judge_place.Goals as goal

pub returns-in_default-clause-judged : goal.returns-in_default-clause-judged
returns-in_default-clause-judged g c =
    place_unsaid c.args.any_place (g.M.SlotRead.slots c.args.map.now) c.args.objects.now c.args.frames.now c.args.place c.args.reply
    c.due_place.result c.reply_at.result (sym c.place_said-said.ensures.value ∙ c.in_default.is) c.due_place.ensures.allowed c.reply_at.ensures

pub returns-then-not-is_allowed-clause-judged : goal.returns-then-not-is_allowed-clause-judged
returns-then-not-is_allowed-clause-judged g c =
    place_wrong c.args.any_place (g.M.SlotRead.slots c.args.map.now) c.args.objects.now c.args.frames.now c.args.place c.args.reply
    c.in-Some.found c.due_place-then-not-is_allowed.result c.reply_at-then-not-is_allowed.result
    (sym c.place_said-said.ensures.value ∙ c.in-Some.is)
    (λ h. let wrong : false ≡ true = (c.if-not-is_allowed.ensures {u = tt}).1 h in absurd cc) c.due_place-then-not-is_allowed.ensures.allowed
    c.reply_at-then-not-is_allowed.ensures

pub make_change-requires-clause-kept : goal.make_change-requires-clause-kept
make_change-requires-clause-kept g c =
    kept_none (g.M.SlotRead.slots c.args.map.now) (cached_in c.args.objects.now) c.args.frames.now c.requires.kept

pub returns-in_err-make_change-clause-kept : goal.returns-in_err-make_change-clause-kept
returns-in_err-make_change-clause-kept g c = c.make_change.ensures.kept (cached_in c.args.objects.now) c.requires.kept

pub returns-clause-kept : goal.returns-clause-kept
returns-clause-kept g c = c.make_change.ensures.kept (cached_in c.args.objects.now) c.requires.kept

pub returns-in_default-found-clause-judged : goal.returns-in_default-found-clause-judged
returns-in_default-found-clause-judged g c =
    place_nowhere c.args.any_place (g.M.SlotRead.slots c.args.map.now) c.args.objects.now c.args.frames.now c.args.place c.args.reply
    (sym c.place_said-said.ensures.value ∙ (c.in-Some.is ∙ ap Some c.in_default-found.is))
    (subst (IsAllowed c.args.any_place (is_mapped (entries (g.M.SlotRead.slots c.args.map.now))) c.args.place) c.in_default-found.is
    ((c.if-not-is_allowed.ensures {u = tt}).0 refl))

pub returns-clause-judged : goal.returns-clause-judged
returns-clause-judged g c =
    place_made c.args.any_place (g.M.SlotRead.slots c.args.map.now) (g.M.SlotRead.slots c.make_change.new.map) c.args.objects.now c.args.frames.now
    c.make_change.new.frames c.args.place c.args.reply c.in-Some-found.first
    (sym c.place_said-said.ensures.value ∙ (c.in-Some.is ∙ ap Some c.in-Some-found.is))
    (subst (IsAllowed c.args.any_place (is_mapped (entries (g.M.SlotRead.slots c.args.map.now))) c.args.place) c.in-Some-found.is
    ((c.if-not-is_allowed.ensures {u = tt}).0 refl))
    c.in_ok-make_change.ensures.ok c.make_change.ensures.bytes

pub returns-in_err-make_change-clause-legal : goal.returns-in_err-make_change-clause-legal
returns-in_err-make_change-clause-legal g c = on_err _
    (place_given c.args.any_place (g.M.SlotRead.slots c.args.map.now) c.args.objects.now c.args.frames.now c.args.place c.args.reply
    c.in-Some-found.first (sym c.place_said-said.ensures.value ∙ (c.in-Some.is ∙ ap Some c.in-Some-found.is))
    (subst (IsAllowed c.args.any_place (is_mapped (entries (g.M.SlotRead.slots c.args.map.now))) c.args.place) c.in-Some-found.is
    ((c.if-not-is_allowed.ensures {u = tt}).0 refl)))
