use Rattle.std.proofs.Common.{◌≡◌, None, Some, if◌then◌else◌, length, ap, sym, ◌∙◌, eqb}
use Rattle.import_log.specs.Processes.{place_of}
use Rattle.import_log.proofs.ProcessLemmas.{place_push}
use Rattle.import_log.proofs.processes.push_process.Goals as goal

pub invariant_of-counted-in-Ok : goal.invariant_of-counted-in-Ok
invariant_of-counted-in-Ok c = λ q.
    let p = c.args.process in
    let was = c.counted.inside.all.items in
    let free : place_of p.number was ≡ None = ap (place_of p.number) c.counted.view_is ∙ c.requires in
    c.in-Ok.ensures.updates.0 q ∙ ap (λ o. if eqb p.number q then Some (length c.as_slice-place.result.now) else o) (c.counted.invariant q)
    ∙ ap (λ n. if eqb p.number q then Some n else place_of q was) (ap length c.as_slice-place.ensures.value)
    ∙ sym (place_push was p q free) ∙ ap (place_of q) (sym c.in_ok-push.ensures.items)
