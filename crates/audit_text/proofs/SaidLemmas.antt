-- What a line says, and how it is read.
use Rattle.std.proofs.Common.{◌≡◌, ◌⊎◌, inl, inr, ℕ, Bool, true, false, cond, eqb, List, [], ◌∷◌, Option, Some, None, refl, sym, ap, ◌∙◌, subst}
use Rattle.std.proofs.lemmas.Bool.{and_from, and_parts, or_from, or_left, or_right}
use Rattle.std.specs.Prelude.{◌&&◌, ◌||◌, IfSome, IfNone}
use Rattle.vm_base.specs.declared.requests.Request.{Request}
use Rattle.vm_base.specs.declared.replies.Reply.{Reply}
use Rattle.trace_text.specs.Grammar.{BytesSay, Says}
use Rattle.trace_text.specs.Line.{are_printable, line_of, line_of_words}
use Rattle.trace_text.specs.Request.{◌>>=◌}
use Rattle.trace_text.specs.Words.{words_of}
use Rattle.trace_text.specs.declared.action.Action.{Action}
use Rattle.trace_text.specs.declared.action.Action.TheVariants.{Call, Go, GiveUp, Frame, Guess, Whole, Take, Flush, Review, Walk, Evict}
use Rattle.trace_text.specs.declared.line.Line.{Line}
use Rattle.trace_text.specs.declared.line.Line.TheVariants as Of
use Rattle.trace_text.proofs.Choices.{bind_some, chosen}
use Rattle.trace_text.proofs.LineLemmas.{line_is_said, read_is_said, said_is_read}
use Rattle.audit.specs.declared.auditor.Call.{Call as CallOf}
use Rattle.audit_text.specs.Copying.{CopiesPage, copy_of}
use Rattle.audit_text.specs.Grammar.{Comes, Means, Tells, TellsEvent, goes_on, is_event, is_passed}
use Rattle.audit_text.specs.Reading.{act_said, answered, begun_said, call_said, declaration_of, declared_said, end_said, event_said, if_unanswered}
use Rattle.audit_text.specs.Reading.{copy_said, or_copy, passed_said, plain_said, said_of, told_or}
use Rattle.audit_text.specs.Replies.{NamesReply, is_nothing, is_step, is_unanswered, reply_of}
use Rattle.audit_text.specs.declared.reading.Said.{Said}
use Rattle.audit_text.specs.declared.reading.Said.TheVariants.{Blank, Space, File, Answered, Waits, Ends, StillWaits, Copies, Passes}
use Rattle.audit_text.proofs.CopyLemmas.{copy_all, copy_only, no_declaration}
use Rattle.audit_text.proofs.ReplyLemmas.{nothing_alone, or_split, reply_only, reply_read, still_none, unanswered_none}
use Rattle.trace_text.specs.Halves.{AreHalves}
use Rattle.trace_text.proofs.HalvesLemmas.{halves_one}

-- ---- what is read is said

-- what is said is the reply's, or what else may be
told_parts : (o : Option Reply) (says : Reply → Said) (other : Option Said) (said : Said) → told_or o says other ≡ Some said
    → ((r : Reply) × (o ≡ Some r) × (says r ≡ said)) ⊎ (other ≡ Some said)
told_parts None says other said e = inr e
told_parts (Some r) says other said e = let same : says r ≡ said = cc in inl (r, refl, same)

-- or that it has no reply yet, or that nothing was done
no_reply : (b : Bool) (which said : Said) (text : List ℕ) → if_unanswered b which text ≡ Some said
    → ((b ≡ true) × (which ≡ said)) ⊎ ((is_nothing text ≡ true) × (Passes ≡ said))
no_reply true which said text e = let same : which ≡ said = cc in inl (refl, same)
no_reply false which said text e = elim (chosen (is_nothing text) (Some Passes) None (Some said) e) [
  | inl h ↦ let same : Passes ≡ said = (let g = h.1 in cc) in inr (h.0, same)
  | inr h ↦ let bad = h.1 in absurd (cc)
]

nothing_done : (line : Line) (text : List ℕ) → is_event line ≡ true → is_nothing text ≡ true → Comes Passes line text
nothing_done line text v n = or_right (is_passed line && is_step text) (is_event line && is_nothing text) (and_from _ _ v n)

step_passed : (line : Line) (text : List ℕ) → is_passed line ≡ true → is_step text ≡ true → Comes Passes line text
step_passed line text v n = or_left (is_passed line && is_step text) (is_event line && is_nothing text) (and_from _ _ v n)

-- what a line says that has no reply
unanswered_only : (line : Line) (b : Bool) (which said : Said) (text : List ℕ) → is_event line ≡ true → (b ≡ true → Comes which line text)
    → if_unanswered b which text ≡ Some said → Comes said line text
unanswered_only line b which said text v comes e = elim (no_reply b which said text e) [
  | inl h ↦ subst (λ s. Comes s line text) h.1 (comes h.0)
  | inr h ↦ subst (λ s. Comes s line text) h.1 (nothing_done line text v h.0)
]

comes_call : (core : ℕ) (request : Request) (text : List ℕ) (said : Said) → call_said core request text ≡ Some said
    → Comes said (Of.Now core request) text
unfolding call_said
comes_call core request text said e = elim (told_parts (reply_of text) (answered core request) _ said e) [
  | inl h ↦ subst (λ s. Comes s (Of.Now core request) text) h.2 (refl, reply_only text h.0 h.1)
  | inr h ↦ unanswered_only (Of.Now core request) (is_unanswered text) (Waits core request) said text refl (λ b. inl (refl, b)) h
]

comes_begun : (core : ℕ) (request : Request) (text : List ℕ) (said : Said) → begun_said core request text ≡ Some said
    → Comes said (Of.Act core (Call request)) text
unfolding begun_said
comes_begun core request text said e =
    unanswered_only (Of.Act core (Call request)) (is_step text) (Waits core request) said text refl (λ b. inr (refl, b)) e

comes_end : (line : Line) (core : ℕ) (text : List ℕ) (said : Said) → goes_on line ≡ Some core → is_event line ≡ true
    → end_said core text ≡ Some said → Comes said line text
unfolding end_said
comes_end line core text said g v e = elim (told_parts (reply_of text) (Ends core) _ said e) [
  | inl h ↦ subst (λ s. Comes s line text) h.2 (g, reply_only text h.0 h.1)
  | inr h ↦ unanswered_only line (is_unanswered text || is_step text) (StillWaits core) said text v (λ b. (g, b)) h
]

comes_passed : (line : Line) (text : List ℕ) (said : Said) → is_passed line ≡ true → is_event line ≡ true → passed_said text ≡ Some said
    → Comes said line text
unfolding passed_said
comes_passed line text said p v e = unanswered_only line (is_step text) Passes said text v (λ b. step_passed line text p b) e

comes_act : (core : ℕ) (action : Action) (text : List ℕ) (said : Said) → act_said core action text ≡ Some said
    → Comes said (Of.Act core action) text
comes_act core (Call request) text said e = comes_begun core request text said e
comes_act core Go text said e = comes_end (Of.Act core Go) core text said refl refl e
comes_act core GiveUp text said e = comes_end (Of.Act core GiveUp) core text said refl refl e
comes_act core (Frame frame) text said e = comes_end (Of.Act core (Frame frame)) core text said refl refl e
comes_act core (Guess page) text said e = comes_end (Of.Act core (Guess page)) core text said refl refl e
comes_act core Whole text said e = comes_end (Of.Act core Whole) core text said refl refl e
comes_act core Take text said e = comes_passed (Of.Act core Take) text said refl refl e
comes_act core Flush text said e = comes_passed (Of.Act core Flush) text said refl refl e
comes_act core Review text said e = comes_passed (Of.Act core Review) text said refl refl e
comes_act core (Walk page) text said e = comes_passed (Of.Act core (Walk page)) text said refl refl e
comes_act core (Evict page) text said e = comes_passed (Of.Act core (Evict page)) text said refl refl e

comes_only : (line : Line) (text : List ℕ) (said : Said) → event_said line text ≡ Some said → Comes said line text
comes_only (Of.Finish core) text said e = comes_end (Of.Finish core) core text said refl refl e
comes_only (Of.Now core request) text said e = comes_call core request text said e
comes_only (Of.Act core action) text said e = comes_act core action text said e
comes_only (Of.Fold page) text said e = comes_passed (Of.Fold page) text said refl refl e
comes_only Of.Blank text said e = absurd (cc)
comes_only (Of.Space cores frames calls) text said e = absurd (cc)
comes_only (Of.File number mode len seed) text said e = absurd (cc)

-- ---- what is said is read

goes_read : (line : Line) (core : ℕ) (text : List ℕ) → goes_on line ≡ Some core → event_said line text ≡ end_said core text
goes_read (Of.Finish c) core text e = let same : c ≡ core = cc in ap (λ x. end_said x text) same
goes_read (Of.Act c Go) core text e = let same : c ≡ core = cc in ap (λ x. end_said x text) same
goes_read (Of.Act c GiveUp) core text e = let same : c ≡ core = cc in ap (λ x. end_said x text) same
goes_read (Of.Act c (Frame frame)) core text e = let same : c ≡ core = cc in ap (λ x. end_said x text) same
goes_read (Of.Act c (Guess page)) core text e = let same : c ≡ core = cc in ap (λ x. end_said x text) same
goes_read (Of.Act c Whole) core text e = let same : c ≡ core = cc in ap (λ x. end_said x text) same
goes_read line core text e = absurd (cc)

call_read : (call : CallOf) (text : List ℕ) → NamesReply call.reply text → call_said call.core call.request text ≡ Some (Answered call)
unfolding call_said
call_read call text names =
    ap (λ o. told_or o (answered call.core call.request) (if_unanswered (is_unanswered text) (Waits call.core call.request) text))
    (reply_read call.reply text names)

waits_read : (core : ℕ) (request : Request) (text : List ℕ) → is_unanswered text ≡ true → call_said core request text ≡ Some (Waits core request)
unfolding call_said
waits_read core request text e =
    ap (λ o. told_or o (answered core request) (if_unanswered (is_unanswered text) (Waits core request) text)) (unanswered_none text e)
    ∙ ap (λ b. if_unanswered b (Waits core request) text) e

begun_read : (core : ℕ) (request : Request) (text : List ℕ) → is_step text ≡ true → begun_said core request text ≡ Some (Waits core request)
unfolding begun_said
begun_read core request text e = ap (λ b. if_unanswered b (Waits core request) text) e

end_read : (core : ℕ) (reply : Reply) (text : List ℕ) → NamesReply reply text → end_said core text ≡ Some (Ends core reply)
unfolding end_said
end_read core reply text names =
    ap (λ o. told_or o (Ends core) (if_unanswered (is_unanswered text || is_step text) (StillWaits core) text)) (reply_read reply text names)

still_read : (core : ℕ) (text : List ℕ) → (is_unanswered text || is_step text) ≡ true → end_said core text ≡ Some (StillWaits core)
unfolding end_said
still_read core text e =
    ap (λ o. told_or o (Ends core) (if_unanswered (is_unanswered text || is_step text) (StillWaits core) text)) (still_none text e)
    ∙ ap (λ b. if_unanswered b (StillWaits core) text) e

step_read : (text : List ℕ) → is_step text ≡ true → passed_said text ≡ Some Passes
unfolding passed_said
step_read text e = ap (λ b. if_unanswered b Passes text) e

passes_read : (line : Line) (text : List ℕ) → is_passed line ≡ true → is_step text ≡ true → event_said line text ≡ Some Passes
passes_read (Of.Act core Take) text p e = step_read text e
passes_read (Of.Act core Flush) text p e = step_read text e
passes_read (Of.Act core Review) text p e = step_read text e
passes_read (Of.Act core (Walk page)) text p e = step_read text e
passes_read (Of.Act core (Evict page)) text p e = step_read text e
passes_read (Of.Fold page) text p e = step_read text e
passes_read line text p e = absurd (cc)

-- nothing was done, whatever the line asks for
quiet : (b : Bool) (which : Said) (text : List ℕ) → b ≡ false → is_nothing text ≡ true → if_unanswered b which text ≡ Some Passes
quiet b which text e n = ap (λ c. if_unanswered c which text) e ∙ ap (λ c. cond c (Some Passes) None) n

quiet_call : (core : ℕ) (request : Request) (text : List ℕ) → is_nothing text ≡ true → call_said core request text ≡ Some Passes
unfolding call_said
quiet_call core request text n =
    let alone = nothing_alone text n in
    ap (λ o. told_or o (answered core request) (if_unanswered (is_unanswered text) (Waits core request) text)) alone.0
    ∙ quiet (is_unanswered text) (Waits core request) text alone.1 n

quiet_begun : (core : ℕ) (request : Request) (text : List ℕ) → is_nothing text ≡ true → begun_said core request text ≡ Some Passes
unfolding begun_said
quiet_begun core request text n = quiet (is_step text) (Waits core request) text (nothing_alone text n).2 n

quiet_end : (core : ℕ) (text : List ℕ) → is_nothing text ≡ true → end_said core text ≡ Some Passes
unfolding end_said
quiet_end core text n =
    let alone = nothing_alone text n in
    ap (λ o. told_or o (Ends core) (if_unanswered (is_unanswered text || is_step text) (StillWaits core) text)) alone.0
    ∙ quiet (is_unanswered text || is_step text) (StillWaits core) text (or_from _ _ alone.1 alone.2) n

quiet_passed : (text : List ℕ) → is_nothing text ≡ true → passed_said text ≡ Some Passes
unfolding passed_said
quiet_passed text n = quiet (is_step text) Passes text (nothing_alone text n).2 n

quiet_act : (core : ℕ) (action : Action) (text : List ℕ) → is_nothing text ≡ true → act_said core action text ≡ Some Passes
quiet_act core (Call request) text n = quiet_begun core request text n
quiet_act core Go text n = quiet_end core text n
quiet_act core GiveUp text n = quiet_end core text n
quiet_act core (Frame frame) text n = quiet_end core text n
quiet_act core (Guess page) text n = quiet_end core text n
quiet_act core Whole text n = quiet_end core text n
quiet_act core Take text n = quiet_passed text n
quiet_act core Flush text n = quiet_passed text n
quiet_act core Review text n = quiet_passed text n
quiet_act core (Walk page) text n = quiet_passed text n
quiet_act core (Evict page) text n = quiet_passed text n

quiet_read : (line : Line) (text : List ℕ) → is_event line ≡ true → is_nothing text ≡ true → event_said line text ≡ Some Passes
quiet_read (Of.Now core request) text v n = quiet_call core request text n
quiet_read (Of.Finish core) text v n = quiet_end core text n
quiet_read (Of.Act core action) text v n = quiet_act core action text n
quiet_read (Of.Fold page) text v n = quiet_passed text n
quiet_read Of.Blank text v n = absurd (cc)
quiet_read (Of.Space cores frames calls) text v n = absurd (cc)
quiet_read (Of.File number mode len seed) text v n = absurd (cc)

pub comes_read : (said : Said) (line : Line) (text : List ℕ) → Comes said line text → event_said line text ≡ Some said
comes_read (Answered call) line text (is, names) = ap (λ l. event_said l text) is ∙ call_read call text names
comes_read (Waits core request) line text (inl (is, e)) = ap (λ l. event_said l text) is ∙ waits_read core request text e
comes_read (Waits core request) line text (inr (is, e)) = ap (λ l. event_said l text) is ∙ begun_read core request text e
comes_read (Ends core reply) line text (goes, names) = goes_read line core text goes ∙ end_read core reply text names
comes_read (StillWaits core) line text (goes, e) = goes_read line core text goes ∙ still_read core text e
comes_read Passes line text e = elim (or_split (is_passed line && is_step text) (is_event line && is_nothing text) e) [
  | inl h ↦ let both = and_parts (is_passed line) (is_step text) h in passes_read line text both.0 both.1
  | inr h ↦ let both = and_parts (is_event line) (is_nothing text) h in quiet_read line text both.0 both.1
]
comes_read said line text h = absurd h

-- ---- an event's line

event_only : (bytes front text : List ℕ) (said : Said) → AreHalves bytes front text → said_of (words_of front) text ≡ Some said
    → TellsEvent said bytes
unfolding said_of
event_only bytes front text said halves e =
    let (line, words, is) = bind_some (line_of_words (words_of front)) (λ l. event_said l text) said e in
    record {
      front = front;
      text = text;
      line = line;
      halves = halves;
      says = read_is_said line
          (words_of front) words;
      comes = comes_only line text said is;
    }

pub event_some : (r : Option Said) (bytes front text : List ℕ) → AreHalves bytes front text → r ≡ said_of (words_of front) text
    → IfSome r (λ said. TellsEvent said bytes)
event_some None bytes front text halves e = tt
event_some (Some said) bytes front text halves e = event_only bytes front text said halves (sym e)

pub event_read : (bytes front text : List ℕ) (said : Said) → AreHalves bytes front text → TellsEvent said bytes
    → said_of (words_of front) text ≡ Some said
unfolding said_of
event_read bytes front text said halves t =
    let (f, b) = halves_one bytes front text t.front t.text halves t.halves in
    ap (λ l. line_of_words (words_of l) >>= λ m. event_said m text) f
    ∙ ap (λ l. line_of_words (words_of t.front) >>= λ m. event_said m l) b
    ∙ ap (λ o. o >>= λ m. event_said m t.text) (said_is_read t.line (words_of t.front) t.says)
    ∙ comes_read said t.line t.text t.comes

pub event_none : (r : Option Said) (bytes front text : List ℕ) → AreHalves bytes front text → r ≡ said_of (words_of front) text
    → IfNone r ((said : Said) → TellsEvent said bytes → ⊥)
event_none None bytes front text halves e = λ said t. let read = event_read bytes front text said halves t in absurd (cc)
event_none (Some s) bytes front text halves e = tt

pub event_means : (said : Said) (bytes : List ℕ) → TellsEvent said bytes → Means said bytes
event_means Blank bytes t = absurd t.comes
event_means (Space cores frames calls) bytes t = absurd t.comes
event_means (File number mode len seed) bytes t = absurd t.comes
event_means (Copies page) bytes t = absurd t.comes
event_means said bytes t = t

-- an event's line, if it is printable
pub shown_some : (r : Option Said) (bytes : List ℕ) (said : Said) → TellsEvent said bytes → r ≡ cond (are_printable bytes) (Some said) None
    → IfSome r (λ s. Tells s bytes)
shown_some r bytes said t e = subst (λ o. IfSome o (λ s. Tells s bytes)) (sym e) (go (are_printable bytes) refl)
  where
    go : (b : Bool) → are_printable bytes ≡ b → IfSome (cond b (Some said) None) (λ s. Tells s bytes)
    go true p = (p, event_means said bytes t)
    go false p = tt

pub shown_none : (r : Option Said) (bytes : List ℕ) (said : Said) → r ≡ cond (are_printable bytes) (Some said) None
    → IfNone r ((s : Said) → Tells s bytes → ⊥)
shown_none r bytes said e = subst (λ o. IfNone o ((s : Said) → Tells s bytes → ⊥)) (sym e) (go (are_printable bytes) refl)
  where
    go : (b : Bool) → are_printable bytes ≡ b → IfNone (cond b (Some said) None) ((s : Said) → Tells s bytes → ⊥)
    go true p = tt
    go false p = λ s t. let yes = t.0 in absurd (cc)

-- ---- a line

declared_only : (bytes : List ℕ) (line : Line) (said : Said) → BytesSay line bytes → declared_said line ≡ Some said → Means said bytes
declared_only bytes Of.Blank said h e = let same : Blank ≡ said = cc in subst (λ s. Means s bytes) same h
declared_only bytes (Of.Space cores frames calls) said h e = let same : Space cores frames calls ≡ said = cc in subst (λ s. Means s bytes) same h
declared_only bytes (Of.File number mode len seed) said h e = let same : File number mode len seed ≡ said = cc in subst (λ s. Means s bytes) same h
declared_only bytes line said h e = absurd (cc)

-- what a line says is what it is read as
bytes_read : (bytes : List ℕ) (line : Line) → BytesSay line bytes → line_of bytes ≡ Some line
bytes_read [] line h = said_is_read line [] h
bytes_read (b ∷ bs) line h = go (eqb b 35) h
  where
    go : (c : Bool) → cond c (line ≡ Of.Blank) (Says line (words_of (b ∷ bs)))
        → cond c (Some Of.Blank) (line_of_words (words_of (b ∷ bs))) ≡ Some line
    go true k = ap Some (sym k)
    go false k = said_is_read line (words_of (b ∷ bs)) k

-- what is declared
declared_as : (bytes : List ℕ) (line : Line) (said : Said) → BytesSay line bytes → declared_said line ≡ Some said
    → plain_said bytes ≡ Some said
unfolding declaration_of
declared_as bytes line said h e =
    ap (λ o. or_copy (o >>= declared_said) bytes) (bytes_read bytes line h) ∙ ap (λ o. or_copy o bytes) e

-- what says that a page is copied
copy_as : (bytes : List ℕ) (page : ℕ) → CopiesPage page (words_of bytes) → plain_said bytes ≡ Some (Copies page)
unfolding declaration_of copy_said
copy_as bytes page h =
    ap (λ o. or_copy o bytes) (no_declaration bytes page h) ∙ ap (λ o. o >>= λ p. Some (Copies p)) (copy_all (words_of bytes) page h)

-- what a line says is an event's, or stands in a line without a sign
pub means_either : (said : Said) (bytes : List ℕ) → Means said bytes → TellsEvent said bytes ⊎ (plain_said bytes ≡ Some said)
means_either Blank bytes h = inr (declared_as bytes Of.Blank Blank h refl)
means_either (Space cores frames calls) bytes h = inr (declared_as bytes (Of.Space cores frames calls) (Space cores frames calls) h refl)
means_either (File number mode len seed) bytes h = inr (declared_as bytes (Of.File number mode len seed) (File number mode len seed) h refl)
means_either (Copies page) bytes h = inr (copy_as bytes page h)
means_either said bytes h = inl h

declared_read : (bytes : List ℕ) (said : Said) → (TellsEvent said bytes → ⊥) → Means said bytes → plain_said bytes ≡ Some said
declared_read bytes said never h = elim (means_either said bytes h) [
  | inl t ↦ absurd (never t)
  | inr e ↦ e
]

declaration_only : (bytes : List ℕ) (said : Said) → declaration_of bytes ≡ Some said → Means said bytes
unfolding declaration_of
declaration_only bytes said e =
    let (line, read, is) = bind_some (line_of bytes) declared_said said e in
    declared_only bytes line said (line_is_said bytes line read) is

copied_only : (bytes : List ℕ) (said : Said) → copy_said bytes ≡ Some said → Means said bytes
unfolding copy_said
copied_only bytes said e =
    let (page, read, is) = bind_some (copy_of (words_of bytes)) (λ p. Some (Copies p)) said e in
    let same : Copies page ≡ said = cc in
    subst (λ s. Means s bytes) same (copy_only (words_of bytes) page read)

-- what is read of a line without a sign is said
pub plain_only : (bytes : List ℕ) (said : Said) (o : Option Said) → declaration_of bytes ≡ o → or_copy o bytes ≡ Some said → Means said bytes
plain_only bytes said (Some s) is e = declaration_only bytes said (is ∙ e)
plain_only bytes said None is e = copied_only bytes said e

pub line_some : (r : Option Said) (bytes : List ℕ) → are_printable bytes ≡ true → r ≡ plain_said bytes → IfSome r (λ said. Tells said bytes)
line_some None bytes p e = tt
line_some (Some said) bytes p e = (p, plain_only bytes said (declaration_of bytes) refl (sym e))

pub line_none : (r : Option Said) (bytes : List ℕ) → ((said : Said) → TellsEvent said bytes → ⊥) → r ≡ plain_said bytes
    → IfNone r ((said : Said) → Tells said bytes → ⊥)
line_none None bytes never e = λ said t. let read = declared_read bytes said (never said) t.1 in absurd (cc)
line_none (Some s) bytes never e = tt
