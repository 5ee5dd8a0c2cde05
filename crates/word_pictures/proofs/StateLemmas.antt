-- The text of the state at a trace's end, or behind one of its lines, written
use Rattle.std.proofs.Common.{◌≡◌, ℕ, ◌⊎◌, inl, inr, true, List, [], ◌++◌, Option, None, Some, Result, Ok, Err, IfOk, IfErr, ap, subst, ◌∙◌}
use Rattle.std.specs.Io.KnownBytes.{Keeps}
use Rattle.trace_io.specs.Lines.{lines_of}
use Rattle.trace_io.specs.Sink.{AppendsFront}
use Rattle.trace_words.specs.declared.fault.TraceFault.{TraceFault}
use Rattle.trace_words.specs.declared.fault.TraceFault.TheVariants.{NoMemory, WriteFailed}
use Rattle.trace_words.specs.declared.show.Show.TheVariants.{Maps}
use Rattle.machine_model.specs.declared.setup.CallLimit.TheVariants.{Usual}
use Rattle.machine_model.specs.World.{World}
use Rattle.state_text.specs.declared.form.Form.{Form}
use Rattle.state_text.specs.Fronts.{IsFront, lacking_line, lines_to}
use Rattle.state_seen.specs.Shown.{Follows, IsNothing, Seen}
use Rattle.state_text.specs.Texts.{seen_text}
use Rattle.state_text.specs.Traces.{Told, told_text}
use Rattle.state_changes.specs.Leads.{IsTold}
use Rattle.state_changes.proofs.Traces.{seen_state}
use Rattle.word_pictures.specs.declared.stating.Sight.{Sight}
use Rattle.trace.specs.Seen.{IsSeenWith}
use Rattle.trace_io.specs.Source.{Stream, Reads}
use Rattle.word_pictures.specs.Listing.{FailsToList}
use Rattle.word_pictures.specs.Picture.{ShowsText, TextEnds}
use Rattle.word_pictures.proofs.PictureLemmas.{known_read}
use Rattle.word_pictures.specs.State.{FailsTo, SeesState, lacking_state, sight_text}

pub front_lines : (at : Option ℕ) (input front : List ℕ) → IsFront at input front → lines_of front ≡ lines_to at (lines_of input)
front_lines None input front is = ap lines_of is
front_lines (Some n) input front is = is.1

-- a fault of the front
pub state_unseen : (at : Option ℕ) (input front : List ℕ) (f : TraceFault) → IsFront at input front → FailsToList Usual front f → FailsTo at input f
state_unseen at input front f is (inl h) = inl (front, is, h)
state_unseen at input front f is (inr h) = inr h

-- what was seen in memory
pub was_seen : {T : Type 0} (s t : Stream) (one r : Seen) (machine : Option World) (text list : List ℕ) (old new : Option (List ℕ)) (ended : Result T TraceFault)
    (x : T) → s.coming ≡ Some text → old ≡ Some [] → new ≡ Some list → ended ≡ Ok x
    → IfOk ended (λ u. Reads s t (λ input unread. IsSeenWith Follows one r machine Maps input old new))
    → IsSeenWith Follows one r machine Maps text (Some []) (Some list)
was_seen s t one r machine text list old new (Ok y) x known a b is h =
    subst (λ o. IsSeenWith Follows one r machine Maps text o (Some list)) a (subst (λ o. IsSeenWith Follows one r machine Maps text old o) b
    (known_read s t (λ input unread. IsSeenWith Follows one r machine Maps input old new) text known h).1)
was_seen s t one r machine text list old new (Err f) x known a b is h = absurd (cc)

-- what was seen of all is the state to which the lines lead
pub told_as : (form : Form) (one : Seen) (s : Sight) (input : List ℕ) → IsNothing one → SeesState form one input (Ok s)
    → s.mirror.whole ≡ true → (t : Told) × IsTold (lines_of input) t × (sight_text form s ≡ told_text form t)
told_as form one s input n (machine, w, counts) whole =
    let t = seen_state form one s.mirror machine input s.maps.items n w whole in
    (t.0, t.1, ap (λ l. seen_text form s.maps.items s.mirror ++ l) counts ∙ t.2)

pub state_drawn : (form : Form) (at : Option ℕ) (input front : List ℕ) (old new : Option (List ℕ)) (one : Seen) (s : Sight) (lacks : Option ℕ)
    (ended : Result (Option ℕ) TraceFault) → IsFront at input front → lacks ≡ lacking_line at (lines_of input) → IsNothing one
    → SeesState form one front (Ok s)
    → IfOk ended (λ x. (s.mirror.whole ≡ true) × (x ≡ lacks) × ShowsText x (sight_text form s) old new)
    → IfErr ended (λ f. ((f ≡ NoMemory) × Keeps old new) ⊎ ((f ≡ WriteFailed) × (s.mirror.whole ≡ true) × AppendsFront old new (sight_text form s)))
    → TextEnds (IsTold (lines_to at (lines_of input))) (FailsTo at input) (lacking_state at (lines_of input)) (told_text form) old new ended
state_drawn form at input front old new one s lacks (Ok x) is lacking n w (whole, none, shows) err =
    let to = told_as form one s front n w whole in (
      to.0,
      subst (λ ls. IsTold ls to.0) (front_lines at input front is) to.1,
      none ∙ lacking,
      subst (λ t. ShowsText x t old new) to.2 shows,
    )
state_drawn form at input front old new one s lacks (Err f) is lacking n w ok (inl (none, kept)) = inl (inr (inl none), kept)
state_drawn form at input front old new one s lacks (Err f) is lacking n w ok (inr (failed, whole, part)) =
    let to = told_as form one s front n w whole in
    inr (failed, inr (to.0, subst (λ ls. IsTold ls to.0) (front_lines at input front is) to.1, subst (AppendsFront old new) to.2 part))
