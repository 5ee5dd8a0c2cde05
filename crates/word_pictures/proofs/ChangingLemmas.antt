-- The lines of a trace, shown with what they change
use Rattle.std.proofs.Common.{◌≡◌, Bool, true, false, List, [], Option, Some, None, Result, Ok, ℕ, refl, subst}
use Rattle.machine_model.specs.declared.setup.CallLimit.TheVariants.{Usual}
use Rattle.state_changes.specs.Behind.{SaysSteps}
use Rattle.state_changes.proofs.Walking.{changes_said}
use Rattle.trace_words.specs.declared.fault.TraceFault.{TraceFault}
use Rattle.trace_words.specs.declared.show.Show.TheVariants.{Outcomes}
use Rattle.trace_io.proofs.LineLemmas.{reads_map}
use Rattle.trace_io.specs.Lines.{lines_of}
use Rattle.trace_io.specs.Source.{Stream, Reads}
use Rattle.state_changes.proofs.Lines.{states_shown}
use Rattle.state_changes.specs.Recorded.{IsFresh, Recorded, Records}
use Rattle.word_pictures.proofs.PageLemmas.{first_of, second_of}
use Rattle.word_pictures.proofs.PictureLemmas.{known_read}
use Rattle.word_pictures.specs.Changing.{SaysStates}
use Rattle.trace.specs.Echo.{EchoEnds, EchoesAll, echo_limit}
use Rattle.word_pictures.specs.Picture.{Watched}
use Rattle.word_pictures.specs.Stepping.{is_whole}
use Rattle.word_parts.specs.declared.asked.Echoed.{Echoed}

usual : (logs : Bool) → echo_limit logs Usual ≡ Usual
usual true = refl
usual false = refl

-- what was shown in memory
pub was_echoed : {T : Type 0} (coloured logs : Bool) (texts : List (List ℕ)) (s t : Stream) (input text : List ℕ) (old new : Option (List ℕ)) (ended : Result T TraceFault) (x : T)
    → s.coming ≡ Some input → old ≡ Some [] → new ≡ Some text → ended ≡ Ok x
    → Reads s t (λ all unread. EchoEnds coloured logs texts (echo_limit logs Usual) all old new ended)
    → EchoesAll coloured logs texts Usual input (Some []) (Some text)
was_echoed {T} coloured logs texts s t input text old new ended x known first last is h =
    (known_read s t (λ all unread. EchoesAll coloured logs texts Usual all (Some []) (Some text)) input known
    (reads_map s t _ _ h (λ xs ys k e.
    subst (λ (p : Option (List ℕ) × (Option (List ℕ) × Result T TraceFault)). EchoEnds coloured logs texts Usual xs p.0 p.1.0 p.1.1)
    (λ i. (first i, (last i, is i))) (subst (λ l. EchoEnds coloured logs texts l xs old new ended) (usual logs) e)))).1

-- all was recorded, and its changes stand below the lines
pub states_said : (shows : Echoed) (input text : List ℕ) (one r : Recorded) → IsFresh one → Watched Records one input r → is_whole r
    → (changes : List (List ℕ)) × SaysSteps (lines_of input) r changes × EchoesAll shows.coloured shows.logs changes Usual input (Some []) (Some text)
    → SaysStates shows input text
states_said shows input text one r fresh w whole (changes, steps, echoes) = record {
  changes = changes;
  says = changes_said (lines_of input) r changes
      (states_shown one r Outcomes input None None fresh w (first_of r.whole r.seen.whole whole) (second_of r.whole r.seen.whole whole)) steps;
  echoes = echoes;
}
