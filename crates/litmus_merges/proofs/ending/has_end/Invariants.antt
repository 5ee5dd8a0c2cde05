use Rattle.litmus_merges.proofs.Ended.{NoneHas}
use Rattle.litmus_merges.proofs.ending.has_end.Given as goal

-- none so far has these replies, finals and mappings
abbrev pub invariant-ends : goal.invariant-ends
invariant-ends g l = NoneHas l.ends l.k l.replies l.finals l.maps
