-- The page of a trace, written
use Rattle.std.proofs.Common.{◌≡◌, ℕ, ◌⊎◌, inl, inr, Bool, true, false, ◌&&◌, List, [], Option, None, Some, Result, Ok, Err, IfOk, IfErr, refl, subst}
use Rattle.std.specs.Io.KnownBytes.{Appends, Keeps}
use Rattle.trace_io.specs.Sink.{AppendsFront}
use Rattle.trace.specs.Ends.{Completes}
use Rattle.trace_words.specs.declared.fault.TraceFault.{TraceFault}
use Rattle.trace_words.specs.declared.fault.TraceFault.TheVariants.{NoMemory, WriteFailed}
use Rattle.trace_words.specs.declared.show.Show.TheVariants.{OutcomesAndLog}
use Rattle.machine_model.specs.declared.setup.CallLimit.TheVariants.{Usual}
use Rattle.state_changes.specs.Recorded.{IsFresh, Recorded, Records}
use Rattle.state_changes.proofs.Lines.{states_shown}
use Rattle.word_pictures.specs.Stepping.{PageOf, Paged, is_whole, lacking_page, made_of}
use Rattle.word_pictures.specs.Picture.{Fails, RecordsShown, ShowsText, TextEnds}

pub first_of : (a b : Bool) → (a && b) ≡ true → a ≡ true
first_of true b e = refl
first_of false b e = e

pub second_of : (a b : Bool) → (a && b) ≡ true → b ≡ true
second_of true b e = e
second_of false b e = absurd (cc)

paged : (input : List ℕ) (one r : Recorded) (shown : List ℕ) (old new : Option (List ℕ)) → IsFresh one → old ≡ Some [] → new ≡ Some shown
    → RecordsShown Records one OutcomesAndLog Usual input old new (Ok r) → is_whole r → Paged input (made_of r shown)
paged input one r shown old new fresh from to (seen, ends) whole = (
  states_shown one r OutcomesAndLog input old new fresh seen (first_of r.whole r.seen.whole whole) (second_of r.whole r.seen.whole whole),
  subst (λ o. Completes Usual OutcomesAndLog input o (Some shown)) from (subst (Completes Usual OutcomesAndLog input old) to ends),
)

shows : (x : Option ℕ) (text : List ℕ) (old new : Option (List ℕ)) → x ≡ None → Appends old new text → ShowsText x text old new
shows None text old new e h = h
shows (Some n) text old new e h = absurd (cc)

-- all was recorded and shown, and the page of both was written
pub page_drawn : (written : List ℕ → PageOf → List ℕ) (input shown : List ℕ) (from to old new : Option (List ℕ)) (one r : Recorded)
    (ended : Result (Option ℕ) TraceFault) → IsFresh one → from ≡ Some [] → to ≡ Some shown
    → RecordsShown Records one OutcomesAndLog Usual input from to (Ok r)
    → IfOk ended (λ x. is_whole r × (x ≡ None) × Appends old new (written input (made_of r shown)))
    → IfErr ended (λ f. ((f ≡ NoMemory) × Keeps old new) ⊎ ((f ≡ WriteFailed) × is_whole r × AppendsFront old new (written input (made_of r shown))))
    → TextEnds (Paged input) (Fails Usual input) lacking_page (written input) old new ended
page_drawn written input shown from to old new one r (Ok x) fresh begun held w (whole, none, text) err =
    (made_of r shown, paged input one r shown from to fresh begun held w whole, none, shows x (written input (made_of r shown)) old new none text)
page_drawn written input shown from to old new one r (Err f) fresh begun held w ok (inl (none, kept)) = inl (inr (inl none), kept)
page_drawn written input shown from to old new one r (Err f) fresh begun held w ok (inr (failed, whole, part)) =
    inr (failed, inr (made_of r shown, paged input one r shown from to fresh begun held w whole, part))
