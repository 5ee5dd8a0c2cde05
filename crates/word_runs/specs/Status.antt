-- The status of the words that run a machine.
use Rattle.std.specs.Prelude.{ℕ, Bool, true, false, Result, Ok, Err, if◌then◌else◌}
use Rattle.live_script.specs.declared.texts.RunVerdict.{RunVerdict}
use Rattle.live_script.specs.declared.texts.TextFault.{TextFault}
use Rattle.live_script.specs.declared.texts.TextFault.TheVariants.{Text, Live}
use Rattle.notes_text.specs.Verdicts.{is_certified}
use Rattle.shared_script.specs.declared.fault.SharedFault.{SharedFault}
use Rattle.shared_script.specs.declared.fault.SharedFault.TheVariants as Of
use Rattle.trace_words.specs.Status.{fault_status}
use Rattle.trace_words.specs.declared.fault.TraceFault.{TraceFault}

-- of notes: 0 where they are certified, 1 where they are refused
abbrev pub certified_status : Result Bool TraceFault → ℕ
certified_status (Ok true) = 0
certified_status (Ok false) = 1
certified_status (Err f) = fault_status f

-- of a script: 3 where a task of a core couldn't begin
abbrev pub script_status : TextFault → ℕ
script_status (Text f) = fault_status f
script_status (Live f) = 3

-- of notes that were written
abbrev pub live_status : {T : Type 0} → Result T TextFault → ℕ
live_status (Ok x) = 0
live_status (Err f) = script_status f

-- of notes that were certified or refused
abbrev pub certified_live_status : Result RunVerdict TextFault → ℕ
certified_live_status (Ok judgement) = if is_certified judgement.verdict then 0 else 1
certified_live_status (Err f) = script_status f

-- of a script on a machine that threads share: 3 where that is at a limit
abbrev pub shared_status : SharedFault → ℕ
shared_status (Of.Text f) = fault_status f
shared_status Of.Full = 3

-- of what was told on such a machine
abbrev pub told_status : {T : Type 0} → Result T SharedFault → ℕ
told_status (Ok x) = 0
told_status (Err f) = shared_status f
