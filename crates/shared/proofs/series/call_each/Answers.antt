use Rattle.std.proofs.Common.{refl, ◌∙◌, length-set}
use Rattle.shared.proofs.Serials.{ends_limited, ends_no_call, ends_refused, ends_spent, made_more, made_none}
use Rattle.shared.proofs.series.call_each.Goals as goal

pub calls-init : goal.calls-init
calls-init g c = record { made = made_none _ _ _ _ _ _ c.requires.calm; same = refl; legal = c.requires.legal; room = refl }

pub returns-in-NoMemory-clause-ends : goal.returns-in-NoMemory-clause-ends
returns-in-NoMemory-clause-ends g c =
    ends_refused g.Q.Ask.request g.T.Tell.told _ _ _ c.calls.at _ c.calls.told _ c.index-asks-at.result c.index-asks-at.is c.calls-test.true c.calls.invariant.made _ _ _ c.requires.room
    c.in-NoMemory.ensures.makes

pub returns-in-NoCall-clause-ends : goal.returns-in-NoCall-clause-ends
returns-in-NoCall-clause-ends g c =
    ends_no_call g.Q.Ask.request g.T.Tell.told _ _ _ c.calls.at _ c.calls.told _ c.index-asks-at.result c.index-asks-at.is c.calls-test.true c.calls.invariant.made _ _ _ c.in-NoCall.ensures.makes

pub returns-in-Refused-clause-ends : goal.returns-in-Refused-clause-ends
returns-in-Refused-clause-ends g c =
    ends_limited g.Q.Ask.request g.T.Tell.told _ _ _ c.calls.at _ c.calls.told _ c.index-asks-at.result c.index-asks-at.is c.calls-test.true c.calls.invariant.made _ _ _ c.in-Refused.ensures.makes

pub returns-in-Spent-clause-ends : goal.returns-in-Spent-clause-ends
returns-in-Spent-clause-ends g c =
    ends_spent g.Q.Ask.request g.T.Tell.told _ _ _ c.calls.at _ c.calls.told _ c.index-asks-at.result c.index-asks-at.is c.calls-test.true c.calls.invariant.made _ _ _ c.in-Spent.ensures.makes

pub calls-preserved : goal.calls-preserved
calls-preserved g c = record {
  made = made_more g.Q.Ask.request g.T.Tell.told _ _ _ c.calls.at _ c.calls.told _ c.index-asks-at.result c.index-asks-at.is c.calls-test.true c.calls.invariant.made _ _ _ c.requires.room
      c.in-Done.ensures.makes;
  same = c.in-Done.ensures.made ∙ c.calls.invariant.same;
  legal = c.in-Done.ensures.legal;
  room = length-set c.calls.told c.calls.at _ ∙ c.calls.invariant.room;
}
