-- A picture of a trace, written and flushed
use Rattle.std.proofs.Common.{◌≡◌, ℕ, ◌⊎◌, inl, inr, true, List, [], Option, None, Some, Result, Ok, Err}
use Rattle.std.proofs.Common.{IfOk, IfErr, refl, sym, ◌∙◌, subst, arith}
use Rattle.std.proofs.KnownBytes.{Appends-kept, Keeps-refl, Keeps-trans}
use Rattle.std.specs.Io.KnownBytes.{Consumes, Keeps}
use Rattle.trace_io.proofs.IoLemmas.{front_kept, whole_front}
use Rattle.trace_io.proofs.LineLemmas.{reads_map}
use Rattle.trace_io.specs.Io.{ReadFrom, TellsIo, WrittenTo}
use Rattle.trace_io.specs.Sink.{AppendsFront}
use Rattle.trace_io.specs.Source.{Stream, Reads}
use Rattle.machine_model.specs.declared.setup.CallLimit.TheVariants.{Usual}
use Rattle.machine_model.specs.World.{World}
use Rattle.machine_model.specs.declared.event.Event.{Event}
use Rattle.machine_model.specs.declared.event.Outcome.{Outcome}
use Rattle.trace_words.specs.declared.fault.TraceFault.{TraceFault}
use Rattle.trace_words.specs.declared.fault.TraceFault.TheVariants.{BadLine, TooLong, NoVmLine, Setup, NoMemory, ReadFailed, WriteFailed}
use Rattle.trace_words.specs.declared.show.Show.{Show}
use Rattle.trace_words.specs.declared.show.Show.TheVariants.{Maps, Outcomes}
use Rattle.trace.specs.Ends.{Completes, Ends, Stops, reading, unmade, wanting, overlong, refusing, unopened, writing, closing}
use Rattle.trace_words.specs.Faults.{TellsFaults, fault_named}
use Rattle.trace.specs.Seen.{IsSeen}
use Rattle.word_parts.specs.declared.asked.Drawing.{Drawing}
use Rattle.word_parts.specs.declared.asked.Drawing.TheVariants.{Answer, History, Lines, Steps, Lives, State, Objects, Page, Changes, Listing}
use Rattle.word_parts.specs.declared.asked.Question.TheVariants.{Between, First, Page as OfPage}
use Rattle.word_pictures.specs.Listing.{FailsToList, Listed}
use Rattle.machine_model.specs.declared.setup.CallLimit.{CallLimit}
use Rattle.word_pictures.specs.Picture.{Fails, PictureEnds, Records, RecordsShown, ShowsText, TextEnds, Watched, in_memory, pictured_text}

-- what one who watches may be after each step
abbrev After : Type 0 → Type 1
After S = S → World → Event → Outcome → World → S → Type 0

-- what holds of all bytes that may come holds of those that are known to
pub known_read : (old new : Stream) (P : List ℕ → List ℕ → Type 0) (text : List ℕ) → old.coming ≡ Some text → Reads old new P → (rest : List ℕ) × P text rest
known_read old new P text is r = go new.coming refl (subst (λ o. Consumes o new.coming r.bytes) is r.gives.coming)
  where
    go : (o : Option (List ℕ)) → o ≡ new.coming → Consumes (Some text) o r.bytes → (rest : List ℕ) × P text rest
    go None e c = absurd c
    go (Some rest) e c = (rest, subst (λ xs. P xs rest) (sym c) (r.holds rest (subst (λ o. Keeps o (Some rest)) e refl)))

-- all lines were watched, and what is shown of them was written
pub all_recorded : {S T : Type 0} (s t : Stream) (after : After S) (one r : S) (show : Show) (limit : CallLimit) (text : List ℕ) (old new : Option (List ℕ))
    (ended : Result T TraceFault) (x : T) → s.coming ≡ Some text → ended ≡ Ok x → Reads s t (λ input unread. Ends limit show input unread old new ended)
    → IfOk ended (λ u. Reads s t (λ input unread. IsSeen after one r show input old new)) → RecordsShown after one show limit text old new (Ok r)
all_recorded s t after one r show limit text old new (Ok y) x known is ends h = (
  (known_read s t (λ input unread. IsSeen after one r show input old new) text known h).1,
  (known_read s t (λ input unread. Completes limit show input old new) text known ends).1,
)
all_recorded s t after one r show limit text old new (Err f) x known is ends h = absurd (cc)

-- by one who watches alone
pub was_recorded : {S : Type 0} (after : After S) (one : S) (limit : CallLimit) (text : List ℕ) (ended : Result S TraceFault)
    → RecordsShown after one Outcomes limit text None None ended → Records after one limit text ended
was_recorded after one limit text (Ok r) h = h.0
was_recorded after one limit text (Err f) h = h

-- what stops a replay that shows something stops one that shows nothing, where memory isn't wanting
fails_shown : (limit : CallLimit) (show : Show) (input unread : List ℕ) (old new : Option (List ℕ)) (f : TraceFault)
    → Stops limit show input unread old new f → Fails limit input f
fails_shown limit show input unread old new f (reading e p r held out) = inr (inr e)
fails_shown limit show input unread old new f (unmade e all out) = inr (inl e)
fails_shown limit show input unread old new f (wanting e p line others is r w out) = inr (inl e)
fails_shown limit show input unread old new f (overlong p line others is long e out) = inl (unread, overlong p line others is long e tt)
fails_shown limit show input unread old new f (refusing p line others is short fails out) = inl (unread, refusing p line others is short fails tt)
fails_shown limit show input unread old new f (unopened p none fails out) = inl (unread, unopened p none fails tt)
fails_shown limit show input unread old new f (writing e p out) = inl (unread, writing e p (0, omega arith, tt))
fails_shown limit show input unread old new f (closing e p none can behind is out) = inl (unread, writing e p (0, omega arith, tt))

-- the fault of a replay in memory
fails_in_memory : (limit : CallLimit) (input : List ℕ) (f : TraceFault) → Fails limit input f → Fails limit input (in_memory f)
fails_in_memory limit input (BadLine number) h = h
fails_in_memory limit input (TooLong number) h = h
fails_in_memory limit input NoVmLine h = h
fails_in_memory limit input (Setup fault) h = h
fails_in_memory limit input ReadFailed h = inr (inl refl)
fails_in_memory limit input NoMemory h = h
fails_in_memory limit input WriteFailed h = inr (inl refl)

-- a fault of the trace
pub none_recorded : {T : Type 0} (s t : Stream) (show : Show) (limit : CallLimit) (text : List ℕ) (old new : Option (List ℕ)) (ended : Result T TraceFault)
    (f : TraceFault) → s.coming ≡ Some text → ended ≡ Err f → Reads s t (λ input unread. Ends limit show input unread old new ended)
    → Fails limit text (in_memory f)
none_recorded {T} s t show limit text old new ended f known e h =
    let stops = known_read s t (λ input unread. Ends {T = T} limit show input unread old new (Err f)) text known
    (subst (λ r. Reads s t (λ input unread. Ends limit show input unread old new r)) e h) in
    fails_in_memory limit text f (fails_shown limit show text stops.0 old new f stops.1)

-- the text of what came of all lines was written, or wasn't
pub text_drawn : {S : Type 0} (Comes : S → Type 0) (Faults : TraceFault → Type 0) (lacks : S → Option ℕ) (text : S → List ℕ) (old new : Option (List ℕ)) (r : S)
    (ended : Result (Option ℕ) TraceFault) → Faults NoMemory → Comes r → IfOk ended (λ x. (x ≡ lacks r) × ShowsText x (text r) old new)
    → IfErr ended (λ f. ((f ≡ NoMemory) × Keeps old new) ⊎ ((f ≡ WriteFailed) × AppendsFront old new (text r)))
    → TextEnds Comes Faults lacks text old new ended
text_drawn Comes Faults lacks text old new r (Ok x) want h (is, w) e = (r, h, is, w)
text_drawn Comes Faults lacks text old new r (Err f) want h w (inl (none, kept)) = inl (subst Faults (sym none) want, kept)
text_drawn Comes Faults lacks text old new r (Err f) want h w (inr (failed, front)) = inr (failed, inr (r, h, front))

-- of what was recorded by one who began so
pub all_drawn : {S : Type 0} (after : After S) (made one : S) (lacks : S → Option ℕ) (text : S → List ℕ) (limit : CallLimit) (input : List ℕ)
    (old new : Option (List ℕ)) (r : S) (ended : Result (Option ℕ) TraceFault) → made ≡ one → Records after made limit input (Ok r)
    → IfOk ended (λ x. (x ≡ lacks r) × ShowsText x (text r) old new)
    → IfErr ended (λ f. ((f ≡ NoMemory) × Keeps old new) ⊎ ((f ≡ WriteFailed) × AppendsFront old new (text r)))
    → TextEnds (Watched after one input) (Fails limit input) lacks text old new ended
all_drawn after made one lacks text limit input old new r ended is h w e =
    text_drawn (Watched after one input) (Fails limit input) lacks text old new r ended (inr (inl refl))
    (subst (λ m. Records after m limit input (Ok r)) is h) w e

-- after a fault nothing was
pub none_drawn : {S : Type 0} (after : After S) (one : S) (lacks : S → Option ℕ) (text : S → List ℕ) (limit : CallLimit) (input : List ℕ)
    (old : Option (List ℕ)) (f : TraceFault) → Fails limit input f
    → TextEnds (Watched after one input) (Fails limit input) lacks text old old (Err f)
none_drawn after one lacks text limit input old f why = inl (why, Keeps-refl old)

-- a picture of the text that was read
pub picture_read : (s t : Stream) (drawing : Drawing) (text : List ℕ) (old new : Option (List ℕ)) (ended : Result (Option ℕ) TraceFault)
    → Reads s t (λ input unread. input ≡ text) → PictureEnds drawing (pictured_text drawing text) old new ended
    → Reads s t (λ input unread. PictureEnds drawing (pictured_text drawing input) old new ended)
picture_read s t drawing text old new ended r h =
    reads_map s t _ _ r (λ xs ys k is. subst (λ (i : List ℕ). PictureEnds drawing (pictured_text drawing i) old new ended) (sym is) h)

-- none for want of memory, or of a text that couldn't be read
picture_failed : (drawing : Drawing) (text : List ℕ) (old : Option (List ℕ)) (f : TraceFault) → (f ≡ NoMemory) ⊎ (f ≡ ReadFailed)
    → PictureEnds drawing text old old (Err f)
picture_failed (Lines lines) text old f why = inl (inr why, Keeps-refl old)
picture_failed (Steps steps) text old f why = inl (inr why, Keeps-refl old)
picture_failed (State at) text old f why = inl (inr why, Keeps-refl old)
picture_failed (Objects at) text old f why = inl (inr why, Keeps-refl old)
picture_failed History text old f why = inl (why, Keeps-refl old)
picture_failed (Answer (Between pair)) text old f why = inl (inl (inr why), Keeps-refl old)
picture_failed (Answer (OfPage page)) text old f why = inl (inl (inr why), Keeps-refl old)
picture_failed (Answer (First condition)) text old f why = inl (inr why, Keeps-refl old)
picture_failed Page text old f why = inl (inr why, Keeps-refl old)
picture_failed (Changes shows) text old f why = inl (inr why, Keeps-refl old)
picture_failed Lives text old f why = inl (inr why, Keeps-refl old)
picture_failed (Listing limit) text old f why = inl (inr why, Keeps-refl old)

pub picture_wanting : (drawing : Drawing) (text : List ℕ) (old : Option (List ℕ)) → PictureEnds drawing text old old (Err NoMemory)
picture_wanting drawing text old = picture_failed drawing text old NoMemory (inl refl)

pub picture_unread : (s t : Stream) (drawing : Drawing) (old : Option (List ℕ)) (f : TraceFault) → (f ≡ NoMemory) ⊎ (f ≡ ReadFailed)
    → Reads s t (λ input unread. input ≡ input) → Reads s t (λ input unread. PictureEnds drawing (pictured_text drawing input) old old (Err f))
picture_unread s t drawing old f why r = reads_map s t _ _ r (λ xs ys k is. picture_failed drawing (pictured_text drawing xs) old f why)

-- a flush keeps what was written
shows_kept : (x : Option ℕ) (text : List ℕ) (a b c : Option (List ℕ)) → ShowsText x text a b → Keeps b c → ShowsText x text a c
shows_kept None text a b c w k = Appends-kept a b c _ w k
shows_kept (Some steps) text a b c w k = Keeps-trans a b c w k

pub text_kept : {S : Type 0} (Comes : S → Type 0) (Faults : TraceFault → Type 0) (lacks : S → Option ℕ) (text : S → List ℕ) (a b c : Option (List ℕ))
    (ended : Result (Option ℕ) TraceFault) → TextEnds Comes Faults lacks text a b ended → Keeps b c → TextEnds Comes Faults lacks text a c ended
text_kept Comes Faults lacks text a b c (Ok x) (r, h, is, w) k = (r, h, is, shows_kept x _ a b c w k)
text_kept Comes Faults lacks text a b c (Err f) (inl (why, kept)) k = inl (why, Keeps-trans a b c kept k)
text_kept Comes Faults lacks text a b c (Err f) (inr (failed, inl kept)) k = inr (failed, inl (Keeps-trans a b c kept k))
text_kept Comes Faults lacks text a b c (Err f) (inr (failed, inr (r, h, front))) k = inr (failed, inr (r, h, front_kept a b c _ front k))

pub picture_kept : (drawing : Drawing) (input : List ℕ) (a b c : Option (List ℕ)) (ended : Result (Option ℕ) TraceFault)
    → PictureEnds drawing input a b ended → Keeps b c → PictureEnds drawing input a c ended
picture_kept (Lines lines) input a b c ended h k = text_kept _ _ _ _ a b c ended h k
picture_kept (Steps steps) input a b c ended h k = text_kept _ _ _ _ a b c ended h k
picture_kept (State at) input a b c ended h k = text_kept _ _ _ _ a b c ended h k
picture_kept (Objects at) input a b c ended h k = text_kept _ _ _ _ a b c ended h k
picture_kept History input a b c ended h k = text_kept _ _ _ _ a b c ended h k
picture_kept (Answer (Between pair)) input a b c ended h k = text_kept _ _ _ _ a b c ended h k
picture_kept (Answer (OfPage page)) input a b c ended h k = text_kept _ _ _ _ a b c ended h k
picture_kept (Answer (First condition)) input a b c ended h k = text_kept _ _ _ _ a b c ended h k
picture_kept Page input a b c ended h k = text_kept _ _ _ _ a b c ended h k
picture_kept (Changes shows) input a b c ended h k = text_kept _ _ _ _ a b c ended h k
picture_kept Lives input a b c ended h k = text_kept _ _ _ _ a b c ended h k
picture_kept (Listing limit) input a b c ended h k = text_kept _ _ _ _ a b c ended h k

-- a flush that failed may have lost it
pub text_lost : {S : Type 0} (Comes : S → Type 0) (Faults : TraceFault → Type 0) (lacks : S → Option ℕ) (text : S → List ℕ) (a b c : Option (List ℕ))
    (ended : Result (Option ℕ) TraceFault) → TextEnds Comes Faults lacks text a b ended → Keeps b c → TextEnds Comes Faults lacks text a c (Err WriteFailed)
text_lost Comes Faults lacks text a b c (Ok None) (r, h, is, w) k = inr (refl, inr (r, h, whole_front a c _ (Appends-kept a b c _ w k)))
text_lost Comes Faults lacks text a b c (Ok (Some steps)) (r, h, is, w) k = inr (refl, inl (Keeps-trans a b c w k))
text_lost Comes Faults lacks text a b c (Err f) (inl (why, kept)) k = inr (refl, inl (Keeps-trans a b c kept k))
text_lost Comes Faults lacks text a b c (Err f) (inr (failed, inl kept)) k = inr (refl, inl (Keeps-trans a b c kept k))
text_lost Comes Faults lacks text a b c (Err f) (inr (failed, inr (r, h, front))) k = inr (refl, inr (r, h, front_kept a b c _ front k))

pub picture_lost : (drawing : Drawing) (input : List ℕ) (a b c : Option (List ℕ)) (ended : Result (Option ℕ) TraceFault)
    → PictureEnds drawing input a b ended → Keeps b c → PictureEnds drawing input a c (Err WriteFailed)
picture_lost (Lines lines) input a b c ended h k = text_lost _ _ _ _ a b c ended h k
picture_lost (Steps steps) input a b c ended h k = text_lost _ _ _ _ a b c ended h k
picture_lost (State at) input a b c ended h k = text_lost _ _ _ _ a b c ended h k
picture_lost (Objects at) input a b c ended h k = text_lost _ _ _ _ a b c ended h k
picture_lost History input a b c ended h k = text_lost _ _ _ _ a b c ended h k
picture_lost (Answer (Between pair)) input a b c ended h k = text_lost _ _ _ _ a b c ended h k
picture_lost (Answer (OfPage page)) input a b c ended h k = text_lost _ _ _ _ a b c ended h k
picture_lost (Answer (First condition)) input a b c ended h k = text_lost _ _ _ _ a b c ended h k
picture_lost Page input a b c ended h k = text_lost _ _ _ _ a b c ended h k
picture_lost (Changes shows) input a b c ended h k = text_lost _ _ _ _ a b c ended h k
picture_lost Lives input a b c ended h k = text_lost _ _ _ _ a b c ended h k
picture_lost (Listing limit) input a b c ended h k = text_lost _ _ _ _ a b c ended h k

-- ---- a list of mappings

pub was_listed : {T : Type 0} (s t : Stream) (limit : CallLimit) (text list : List ℕ) (old new : Option (List ℕ)) (ended : Result T TraceFault) (x : T)
    → s.coming ≡ Some text → old ≡ Some [] → new ≡ Some list → ended ≡ Ok x
    → Reads s t (λ input unread. Ends limit Maps input unread old new ended) → Listed limit text list
was_listed {T} s t limit text list old new ended x known first last is h = (known_read s t (λ input unread. Listed limit input list) text known
    (reads_map s t _ _ h (λ xs ys k e. subst (λ (p : Option (List ℕ) × (Option (List ℕ) × Result T TraceFault)). Ends limit Maps xs ys p.0 p.1.0 p.1.1)
    (λ i. (first i, (last i, is i))) e))).1

pub was_not_listed : {T : Type 0} (s t : Stream) (limit : CallLimit) (text list : List ℕ) (old new : Option (List ℕ)) (ended : Result T TraceFault)
    (f : TraceFault) → s.coming ≡ Some text → old ≡ Some [] → new ≡ Some list → ended ≡ Err f
    → Reads s t (λ input unread. Ends limit Maps input unread old new ended) → FailsToList limit text f
was_not_listed {T} s t limit text list old new ended f known first last is h =
    let stops = known_read s t (λ input unread. Stops limit Maps input unread (Some []) (Some list) f) text known
    (reads_map s t _ _ h (λ xs ys k e. subst (λ (p : Option (List ℕ) × (Option (List ℕ) × Result T TraceFault)). Ends limit Maps xs ys p.0 p.1.0 p.1.1)
    (λ i. (first i, (last i, is i))) e)) in
    inl (stops.0, list, stops.1)

-- the fault of a replay in memory
pub no_list_in_memory : (limit : CallLimit) (input : List ℕ) (f : TraceFault) → FailsToList limit input f → FailsToList limit input (in_memory f)
no_list_in_memory limit input (BadLine number) h = h
no_list_in_memory limit input (TooLong number) h = h
no_list_in_memory limit input NoVmLine h = h
no_list_in_memory limit input (Setup fault) h = h
no_list_in_memory limit input ReadFailed h = inr (inl refl)
no_list_in_memory limit input NoMemory h = h
no_list_in_memory limit input WriteFailed h = inr (inl refl)

-- what is told after a flush
pub told_kept : {T : Type 0} (r : Result T TraceFault) (text : ReadFrom) (old new : WrittenTo) → TellsIo fault_named r text old
    → new.failed ≡ old.failed → new.had_failed ≡ old.had_failed → new.is_flushed ≡ true → TellsFaults r text new
told_kept r text old new told same had out = record { read = told.read; write = λ w. same ∙ told.write w; out = go told.kept }
  where
    go : (r ≡ Err WriteFailed) ⊎ (old.failed ≡ old.had_failed) → (r ≡ Err WriteFailed) ⊎ ((new.failed ≡ new.had_failed) × (new.is_flushed ≡ true))
    go (inl w) = inl w
    go (inr k) = inr (same ∙ k ∙ sym had, out)

-- and after one that failed
pub told_lost : {T : Type 0} (r : Result T TraceFault) (text : ReadFrom) (sink : WrittenTo) → r ≡ Err WriteFailed → sink.failed ≡ true
    → TellsFaults r text sink
told_lost r text sink is failed = record { read = λ e. absurd (cc); write = λ w. failed; out = inl is }
