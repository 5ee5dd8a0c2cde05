use Rattle.std.proofs.Common.{ap, not, rules, subst, sym, ◌∙◌}
use Rattle.std.proofs.lemmas.Fn.{filter_same}
use Rattle.vm_base.specs.Functions.{has}
use Rattle.state_seen.specs.Lists.{IsAbove, at_page}
use Rattle.state_seen.proofs.Ordered.{without_above, without_at}
use Rattle.state_seen.proofs.list.drop_range.Goals as goal

pub returns-clause-order : goal.returns-clause-order
returns-clause-order g c =
    let is = filter_same _ (λ e. not (has c.args.range e.page)) _ (λ x b f' called. search rules) _ _ c.retain.ensures.filtered in
    subst (IsAbove 0) (sym is) (without_above (has c.args.range) 0 c.args.entries.now.items c.requires)

pub returns-clause-at : goal.returns-clause-at
returns-clause-at g c = λ q.
    let is = filter_same _ (λ e. not (has c.args.range e.page)) _ (λ x b f' called. search rules) _ _ c.retain.ensures.filtered in
    ap (λ es. at_page es q) is ∙ without_at (has c.args.range) c.args.entries.now.items q
