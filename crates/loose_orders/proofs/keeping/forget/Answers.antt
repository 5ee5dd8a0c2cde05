use Rattle.std.proofs.Common.{not, rules}
use Rattle.std.specs.Prelude.{◌==◌}
use Rattle.std.proofs.lemmas.Fn.{filter_same}
use Rattle.loose_orders.proofs.KeptLemmas.{kept_others}
use Rattle.loose_orders.proofs.keeping.forget.Goals as goal

pub returns : goal.returns
returns g c = kept_others c.args.call c.args.kept.now.items _
    (filter_same _ (λ k. not (k.call == c.args.call)) _ (λ x b f' called. search rules) _ _ c.retain.ensures.filtered)
