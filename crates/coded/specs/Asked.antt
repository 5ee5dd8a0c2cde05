-- What C asks of one core, whichever core it names
use Rattle.std.specs.Prelude.{Option, None, Some}
use Rattle.vm_base.specs.declared.requests.Request.{Request}
use Rattle.shared.specs.declared.asides.Aside.{Aside}
use Rattle.shared.specs.declared.asides.Aside.TheVariants as Does
use Rattle.coded.specs.declared.codes.EventCode.{EventCode}
use Rattle.coded.specs.declared.codes.EventCode.TheVariants as Is
use Rattle.coded.specs.declared.codes.RawEvent.{RawEvent}
use Rattle.coded.specs.Codes.{kind_of, request_at}

abbrev pub asked_at : Option EventCode → RawEvent → Option Request
asked_at None raw = None
asked_at (Some kind) raw = request_at kind raw

-- the request of an event that begins a call
abbrev pub asked_of : RawEvent → Option Request
asked_of raw = asked_at (kind_of raw.kind) raw

abbrev pub aside_at : EventCode → RawEvent → Option Aside
aside_at Is.Walk raw = Some (Does.Walk raw.at)
aside_at Is.Evict raw = Some (Does.Evict raw.at)
aside_at Is.Flush raw = Some Does.Flush
aside_at Is.Review raw = Some Does.Review
aside_at Is.Fold raw = Some (Does.Fold raw.at)
aside_at _ raw = None

abbrev pub aside_with : Option EventCode → RawEvent → Option Aside
aside_with None raw = None
aside_with (Some kind) raw = aside_at kind raw

-- what an event does beside calls
abbrev pub aside_of : RawEvent → Option Aside
aside_of raw = aside_with (kind_of raw.kind) raw
