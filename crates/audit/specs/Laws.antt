-- Laws of replies that are judged one after another
use Rattle.std.specs.Prelude.{◌≡◌, Bool, List}
use Rattle.vm_base.specs.Plain.{Plain}
use Rattle.audit.specs.declared.auditor.Call.{Call}
use Rattle.audit.specs.declared.auditor.Wrong.{Wrong}
use Rattle.audit.specs.Judging.{AreReplies, IsFirstWrong}
use Rattle.audit.specs.Placing.{rule_of}

-- there is no second map that the replies lead to
abbrev pub CallsLeadToOneMap : Type 0
CallsLeadToOneMap =
    (any : Bool) (t u v : Plain) (calls : List Call)
    → AreReplies (rule_of any) t calls u → AreReplies (rule_of any) t calls v → u ≡ v

-- where one of them is the first wrong one, they are no plain map's
abbrev pub WrongCallsAreNone : Type 0
WrongCallsAreNone =
    (any : Bool) (t u v : Plain) (calls : List Call) (wrong : Wrong)
    → IsFirstWrong (rule_of any) t calls wrong u → ¬ AreReplies (rule_of any) t calls v
