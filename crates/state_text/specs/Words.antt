-- What a call does, in words
use Rattle.std.specs.Prelude.{ℕ, ◌==◌, Bool, false, List, codes, if◌then◌else◌}
use Rattle.vm_base.specs.declared.page.PageRange.{PageRange}
use Rattle.vm_base.specs.Functions.{has}
use Rattle.vm_base.specs.declared.requests.Request.{Request}
use Rattle.vm_base.specs.declared.requests.Request.TheVariants as Asks
use Rattle.vm_base.specs.declared.rights.Access.{Access}
use Rattle.vm_base.specs.declared.rights.Access.TheVariants.{Load, Store, Fetch}
use Rattle.slot_lock.specs.declared.plan.Change.{Change}
use Rattle.slot_lock.specs.declared.plan.Change.TheVariants.{Put, Clear, Protect}
use Rattle.slot_lock.specs.declared.plan.Goal.{Goal}
use Rattle.slot_lock.specs.declared.plan.Goal.TheVariants as To
use Rattle.slot_lock.specs.Plan.{goal_range, range_of, target_range}
use Rattle.slot_lock.specs.Slots.{between}
use Rattle.machine_model.specs.declared.phase.Phase.{Phase}
use Rattle.machine_model.specs.declared.phase.Phase.TheVariants as At
use Rattle.state_text.specs.declared.words.WorkPages.{WorkPages}
use Rattle.state_text.specs.declared.words.WorkPages.TheVariants.{Nowhere, Page, Pages}

-- ---- the call

abbrev pub access_word : Access → List ℕ
access_word Load = codes "load"
access_word Store = codes "store"
access_word Fetch = codes "fetch"

abbrev pub change_word : Change → List ℕ
change_word (Put range meta) = codes "mmap"
change_word (Clear range) = codes "munmap"
change_word (Protect range prot) = codes "mprotect"

abbrev pub goal_word : Goal → List ℕ
goal_word (To.Place place target) = codes "mmap"
goal_word (To.Change change) = change_word change
goal_word (To.Access touch) = access_word touch.access

abbrev pub request_word : Request → List ℕ
request_word (Asks.Mmap addr len prot flags file offset) = codes "mmap"
request_word (Asks.Munmap addr len) = codes "munmap"
request_word (Asks.Mprotect addr len prot) = codes "mprotect"
request_word (Asks.Load addr) = codes "load"
request_word (Asks.Store addr byte) = codes "store"
request_word (Asks.Fetch addr) = codes "fetch"

-- one that has its reply is a call
abbrev pub call_word : Phase → List ℕ
call_word At.Free = codes "call"
call_word (At.Check request) = request_word request
call_word (At.Lock goal cursor) = goal_word goal
call_word (At.Guess place) = codes "mmap"
call_word (At.Find place target) = codes "mmap"
call_word (At.Back place target held) = codes "mmap"
call_word (At.Cut place target range) = codes "mmap"
call_word (At.Decide change) = change_word change
call_word (At.Post change shoot) = change_word change
call_word (At.Acks goal change) = change_word change
call_word (At.Unlock held reply) = codes "call"
call_word (At.Answer reply) = codes "call"
call_word (At.Try touch) = access_word touch.access
call_word (At.Settle touch) = access_word touch.access
call_word (At.Want touch old) = access_word touch.access
call_word (At.Fill touch frame) = access_word touch.access
call_word (At.CopyPost touch frame) = access_word touch.access
call_word (At.CopyAcks touch frame) = access_word touch.access
call_word (At.Install touch) = access_word touch.access
call_word (At.Release touch) = access_word touch.access

-- ---- its next step

abbrev pub doing_word : Phase → List ℕ
doing_word At.Free = codes ""
doing_word (At.Check request) = codes " checks its arguments"
doing_word (At.Lock goal cursor) = codes " locks"
doing_word (At.Guess place) = codes " looks for a gap"
doing_word (At.Find place target) = codes " decides on"
doing_word (At.Back place target held) = codes " gives back"
doing_word (At.Cut place target range) = codes " splits"
doing_word (At.Decide change) = codes " decides on"
doing_word (At.Post change shoot) = codes " asks cores to drop"
doing_word (At.Acks goal change) = codes " awaits cores for"
doing_word (At.Unlock held reply) = codes " unlocks"
doing_word (At.Answer reply) = codes " answers"
doing_word (At.Try touch) = codes " translates"
doing_word (At.Settle touch) = codes " looks at"
doing_word (At.Want touch old) = codes " wants a frame for"
doing_word (At.Fill touch frame) = codes " fills"
doing_word (At.CopyPost touch frame) = codes " asks cores to drop"
doing_word (At.CopyAcks touch frame) = codes " awaits cores for"
doing_word (At.Install touch) = codes " installs"
doing_word (At.Release touch) = codes " unlocks"

-- ---- where it is at work

-- the pages that it locks: an access its page
abbrev pub goal_spot : Goal → WorkPages
goal_spot (To.Place place target) = Pages (target_range place target)
goal_spot (To.Change change) = Pages (range_of change)
goal_spot (To.Access touch) = Page touch.page

abbrev pub spot_of : Phase → WorkPages
spot_of At.Free = Nowhere
spot_of (At.Check request) = Nowhere
spot_of (At.Lock goal cursor) = goal_spot goal
spot_of (At.Guess place) = Nowhere
spot_of (At.Find place target) = Pages (target_range place target)
spot_of (At.Back place target held) = Pages held
spot_of (At.Cut place target range) = Pages range
spot_of (At.Decide change) = Pages (range_of change)
spot_of (At.Post change shoot) = Pages (range_of change)
spot_of (At.Acks goal change) = Pages (range_of change)
spot_of (At.Unlock held reply) = Pages held
spot_of (At.Answer reply) = Nowhere
spot_of (At.Try touch) = Page touch.page
spot_of (At.Settle touch) = Page touch.page
spot_of (At.Want touch old) = Page touch.page
spot_of (At.Fill touch frame) = Page touch.page
spot_of (At.CopyPost touch frame) = Page touch.page
spot_of (At.CopyAcks touch frame) = Page touch.page
spot_of (At.Install touch) = Page touch.page
spot_of (At.Release touch) = Page touch.page

-- ---- what it holds

abbrev pub pages_if : PageRange → WorkPages
pages_if r = if r.first == r.end then Nowhere else Pages r

abbrev pub held_spot : Phase → WorkPages
held_spot (At.Lock goal cursor) = pages_if (between (goal_range goal).first cursor)
held_spot (At.Find place target) = Pages (target_range place target)
held_spot (At.Back place target held) = pages_if held
held_spot (At.Cut place target range) = Pages (target_range place target)
held_spot (At.Decide change) = Pages (range_of change)
held_spot (At.Post change shoot) = Pages (range_of change)
held_spot (At.Acks goal change) = goal_spot goal
held_spot (At.Unlock held reply) = pages_if held
held_spot (At.Settle touch) = Page touch.page
held_spot (At.Want touch old) = Page touch.page
held_spot (At.Fill touch frame) = Page touch.page
held_spot (At.CopyPost touch frame) = Page touch.page
held_spot (At.CopyAcks touch frame) = Page touch.page
held_spot (At.Install touch) = Page touch.page
held_spot (At.Release touch) = Page touch.page
held_spot _ = Nowhere

-- the pages that are there
abbrev pub spot_has : WorkPages → ℕ → Bool
spot_has Nowhere p = false
spot_has (Page q) p = p == q
spot_has (Pages r) p = has r p
