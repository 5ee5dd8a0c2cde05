use Rattle.std.proofs.Common.{rules, ◌≡◌, Some, length, get_or, set, arith, ap, sym, ◌∙◌}
use Rattle.import_log.specs.Processes.{place_of, with_line}
use Rattle.import_log.specs.declared.processes.Process.{Process}
use Rattle.import_log.proofs.ProcessLemmas.{line_set, place_low, place_set, same_number}
use Rattle.import_log.proofs.processes.count_at.Goals as goal

pub index-process-requires : goal.index-process-requires
index-process-requires c =
    let was = c.counted.inside.all.items in
    let low = place_low was c.args.number c.args.place (ap (place_of c.args.number) c.counted.view_is ∙ c.requires) in
    omega (arith, low, ap length c.as_slice-count.ensures.value, c.as_slice-count.ensures.len)

pub index_mut-requires : goal.index_mut-requires
index_mut-requires c =
    let was = c.counted.inside.all.items in
    let low = place_low was c.args.number c.args.place (ap (place_of c.args.number) c.counted.view_is ∙ c.requires) in
    omega (arith, low, ap length c.as_slice-count.ensures.value, c.as_slice-count.ensures.len)

pub invariant_of-counted : goal.invariant_of-counted
invariant_of-counted c = λ q.
    let was = c.counted.inside.all.items in
    let found : place_of c.args.number was ≡ Some c.args.place = ap (place_of c.args.number) c.counted.view_is ∙ c.requires in
    let low = place_low was c.args.number c.args.place found in
    let here : c.index-process.result.now ≡ get_or was c.args.place c.index-process.result.now = search rules in
    c.counted.invariant q
    ∙ sym (place_set was c.args.place c.with_request.result c.index-process.result.now q low
    (ap (λ (p : Process). p.number) c.with_request.ensures ∙ (same_number c.index-process.result.now c.args.asks ∙ ap (λ (p : Process). p.number) here)))

pub returns : goal.returns
returns c =
    let was = c.counted.inside.all.items in
    let found : place_of c.args.number was ≡ Some c.args.place = ap (place_of c.args.number) c.counted.view_is ∙ c.requires in
    let here : c.index-process.result.now ≡ get_or was c.args.place c.index-process.result.now = search rules in
    ap (set was c.args.place) c.with_request.ensures
    ∙ (line_set was c.args.number c.args.place c.index-process.result.now c.index-process.result.now c.args.asks found here
    ∙ ap (λ l. with_line l c.args.number c.args.asks) c.counted.view_is)
