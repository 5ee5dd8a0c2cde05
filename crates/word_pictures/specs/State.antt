-- The state at a trace's end, or behind one of its lines
use Rattle.std.specs.Prelude.{◌≡◌, ℕ, ◌⊎◌, ◌++◌, List, [], Option, Some, Result, Ok, Err}
use Rattle.machine_model.specs.declared.setup.CallLimit.TheVariants.{Usual}
use Rattle.word_pictures.specs.Listing.{FailsToList}
use Rattle.machine_model.specs.World.{World}
use Rattle.state_text.specs.declared.form.Form.{Form}
use Rattle.state_text.specs.Counts.{counts_at}
use Rattle.state_text.specs.Fronts.{IsFront, lacking_line}
use Rattle.state_seen.specs.Shown.{Follows, Seen}
use Rattle.state_text.specs.Texts.{seen_text}
use Rattle.state_text.specs.Traces.{Told}
use Rattle.word_pictures.specs.declared.stating.Sight.{Sight}
use Rattle.trace_words.specs.declared.fault.TraceFault.{TraceFault}
use Rattle.trace_words.specs.declared.fault.TraceFault.TheVariants.{NoMemory, ReadFailed}
use Rattle.trace_words.specs.declared.show.Show.TheVariants.{Maps}
use Rattle.trace.specs.Ends.{Stops}
use Rattle.trace.specs.Seen.{IsSeenWith}

-- there is a state to show, but where that line is lacking
abbrev pub lacking_state : Option ℕ → List (List ℕ) → Told → Option ℕ
lacking_state at lines t = lacking_line at lines

-- no state comes of the trace: for a fault of these lines, for want of memory, or since it couldn't be read
abbrev pub FailsTo : Option ℕ → List ℕ → TraceFault → Type 0
FailsTo at input f = ((front : List ℕ) × IsFront at input front
    × ((unread : List ℕ) × (held : List ℕ) × Stops Usual Maps front unread (Some []) (Some held) f))
    ⊎ ((f ≡ NoMemory) ⊎ (f ≡ ReadFailed))

-- what a replay came to that is watched, and lists its mappings and counts
abbrev pub SeesState : Form → Seen → List ℕ → Result Sight TraceFault → Type 0
SeesState form one input (Ok s) = (machine : Option World)
    × IsSeenWith Follows one s.mirror machine Maps input (Some []) (Some s.maps.items)
    × (s.counts.items ≡ counts_at form machine)
SeesState form one input (Err f) = FailsToList Usual input f

-- the text of what was seen, with the counts of its machine behind it
abbrev pub sight_text : Form → Sight → List ℕ
sight_text form s = seen_text form s.maps.items s.mirror ++ s.counts.items
