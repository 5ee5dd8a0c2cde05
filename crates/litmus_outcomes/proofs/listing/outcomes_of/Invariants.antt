use Rattle.std.proofs.Common.{◌≡◌, length}
use Rattle.vm_base.specs.Plain.{Plain}
use Rattle.machine_model.specs.Log.{LeadsTo}
use Rattle.core_steps.specs.Machine.{state}
use Rattle.trace_words.specs.Declarations.{made_by}
use Rattle.litmus_outcomes.specs.Listing.{AreSeen}
use Rattle.litmus_outcomes.proofs.Assembled.{EachListed}
use Rattle.litmus_outcomes.proofs.listing.outcomes_of.Given as goal

-- the outcomes of the ends so far
abbrev pub invariant-ends : goal.invariant-ends
invariant-ends g l = record {
  count : length l.list.items ≡ l.k;
  each : EachListed l.ends l.list.items;
  seen : (t : Plain) → LeadsTo (state l.first) t → AreSeen (made_by l.declared) l.opening t l.calls l.loads l.maps l.list.items;
}
