use Rattle.std.proofs.Common.{rules, arith, ap, sym, ◌∙◌}
use Rattle.vm_base.specs.Cores.{members}
use Rattle.refcache.proofs.Way.{new_places, new_entries, new_unused, no_members}
use Rattle.refcache.proofs.core_counts.CoreCounts.new.Goals as goal

pub invariant_of-result : goal.invariant_of-result
invariant_of-result g c =
    (new_places c.no_entries.result c.no_entries.ensures, ap members c.empty.ensures ∙ no_members ∙ sym (new_unused _ c.no_entries.ensures), search rules)

pub returns : goal.returns
returns g c = (new_entries c.no_entries.result c.no_entries.ensures, search rules, search rules)
