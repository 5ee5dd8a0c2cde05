use Rattle.std.proofs.Common.{◌++◌, ◌∙◌, sym, ap, append_assoc}
use Rattle.std.specs.List.{flat_map}
use Rattle.std.proofs.lemmas.List.Concat.{flat_map-append}
use Rattle.state_text.specs.Counts.{queue_line}
use Rattle.state_text.proofs.counts.put_reviews.Goals as goal

pub returns : goal.returns
returns g c =
    let line = queue_line c.args.form c.args.core in
    let one = c.queue.result.0.now in
    let other = c.queue.result.1.now in
    c.in_ok-put_queue-2.ensures
    ∙ ap (λ l. l ++ flat_map line other) c.in_ok-put_queue.ensures
    ∙ append_assoc c.args.out.now.items (flat_map line one) (flat_map line other)
    ∙ ap (λ l. c.args.out.now.items ++ l) (sym (flat_map-append line one other))
    ∙ ap (λ q. c.args.out.now.items ++ flat_map line q) c.queue.ensures
