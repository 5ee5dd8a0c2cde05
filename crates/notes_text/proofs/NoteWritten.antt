-- The line that is written of a note names it.
use Rattle.machine_model.proofs.Words.{◌≡◌, ℕ, ◌-◌, ◌*◌, ◌^◌, ◌<◌, List, [], ◌∷◌, ◌++◌, length, take, true, codes, decimal, arith, refl, sym, ap, ◌∙◌}
use Rattle.machine_model.proofs.Words.{append_assoc, length-append}
use Rattle.machine_model.specs.declared.event.Blocker.TheVariants.{Slot}
use Rattle.machine_model.specs.declared.event.Event.{Event}
use Rattle.machine_model.specs.declared.event.Outcome.{Outcome}
use Rattle.machine_model.specs.declared.event.Outcome.TheVariants.{Stepped, Wait, Idle, Answered, Full}
use Rattle.machine_model.specs.declared.event.Event.TheVariants as Ev
use Rattle.machine_model.specs.declared.event.Blocker.TheVariants.{Acks}
use Rattle.trace_words.specs.OutcomeText.{outcome_text}
use Rattle.trace_text.specs.Words.{Word, words_of}
use Rattle.trace_text.specs.Line.{are_printable}
use Rattle.trace_text.specs.Lists.{start_of}
use Rattle.trace_text.specs.Printing.{cores_text, text_of}
use Rattle.trace_text.specs.Spelling.{SpellsPage}
use Rattle.trace_text.specs.Grammar.{Does}
use Rattle.trace_text.specs.declared.action.Action.{Action}
use Rattle.trace_text.specs.declared.action.Action.TheVariants as Do
use Rattle.trace_text.specs.declared.line.Line.TheVariants.{Act, Fold}
use Rattle.trace_words.specs.Events.{event_of}
use Rattle.notes_text.specs.Grammar.{NamesEvent, NamesOutcome}
use Rattle.notes_text.specs.Verdicts.{unended}
use Rattle.trace_words.specs.Written.{core_word, event_words, request_words, spaced}
use Rattle.notes_text.specs.NotesWritten.{note_head, note_text}
use Rattle.notes_text.specs.WrittenLaws.{FitsEvent, FitsOutcome, WritesWhatIsRead}
use Rattle.notes_text.proofs.PrintableLemmas.{cores_printable, decimal_printable, reply_printable}
use Rattle.trace_text.proofs.BytesLemmas.{address_number, decimal_has, decimal_number}
use Rattle.trace_text.proofs.WordLemmas.{IsWord, one_word, unspaced, words_join}
use Rattle.notes_text.proofs.WrittenLemmas.{AreWords, address_word, decimal_word}
use Rattle.notes_text.proofs.WrittenLemmas.{request_are_words, request_asked, word_before, words_spaced}
use Rattle.notes_text.proofs.OutcomeWritten.{acks_written, replies_written}

-- ---- events

core_is : (core : ℕ) → core < 64 → IsWord (core_word core)
core_is core h = one_word 99 (decimal core) (decimal_has unspaced (refl, refl, refl) core (omega (arith, h)))

page_spelled : (page : ℕ) → page < 2 ^ 52 → SpellsPage (start_of page) page
page_spelled page h = (page * 4096, address_number (page * 4096) (omega (arith, h)), omega arith)

page_is : (page : ℕ) → page < 2 ^ 52 → IsWord (start_of page)
page_is page h = address_word (page * 4096) (omega (arith, h))

-- what is written of an event names it, in words
pub record IsWritten (event : Event) : Type 0 where
  pub named : NamesEvent event (event_words event)
  pub words : AreWords (event_words event)

-- a core does this
acts : (core : ℕ) (action : Action) (args : List Word) → core < 64 → Does action args → NamesEvent (event_of core action) (core_word core ∷ args)
acts core action args h does = (Act core action, (core_word core, args, refl, (h, refl), does), refl)

pub event_written : (event : Event) → FitsEvent event → IsWritten event
event_written (Ev.Call core request) (h, f) = record {
  named = acts core (Do.Call request) (codes "call" ∷ request_words request) h (request_words request, refl, request_asked request f);
  words = (core_is core h, (refl, request_are_words request f));
}
event_written (Ev.Go core) h = record { named = acts core Do.Go (codes "go" ∷ []) h refl; words = (core_is core h, (refl, tt)) }
event_written (Ev.Frame core frame) (h, f) = record {
  named = acts core (Do.Frame frame) (codes "frame" ∷ decimal frame ∷ []) h (decimal frame, refl, decimal_number frame f);
  words = (core_is core h, (refl, (decimal_word frame f, tt)));
}
event_written (Ev.Guess core page) (h, f) = record {
  named = acts core (Do.Guess page) (codes "guess" ∷ start_of page ∷ []) h (start_of page, refl, page_spelled page f);
  words = (core_is core h, (refl, (page_is page f, tt)));
}
event_written (Ev.Whole core) h = record { named = acts core Do.Whole (codes "whole" ∷ []) h refl; words = (core_is core h, (refl, tt)) }
event_written (Ev.Take core) h = record { named = acts core Do.Take (codes "take" ∷ []) h refl; words = (core_is core h, (refl, tt)) }
event_written (Ev.Walk core page) (h, f) = record {
  named = acts core (Do.Walk page) (codes "walk" ∷ start_of page ∷ []) h (start_of page, refl, page_spelled page f);
  words = (core_is core h, (refl, (page_is page f, tt)));
}
event_written (Ev.Evict core page) (h, f) = record {
  named = acts core (Do.Evict page) (codes "evict" ∷ start_of page ∷ []) h (start_of page, refl, page_spelled page f);
  words = (core_is core h, (refl, (page_is page f, tt)));
}
event_written (Ev.Flush core) h = record { named = acts core Do.Flush (codes "flush" ∷ []) h refl; words = (core_is core h, (refl, tt)) }
event_written (Ev.Review core) h = record { named = acts core Do.Review (codes "review" ∷ []) h refl; words = (core_is core h, (refl, tt)) }
event_written (Ev.Fold page) f = record {
  named = (Fold page, (start_of page, refl, page_spelled page f), refl);
  words = (refl, (page_is page f, tt));
}
event_written (Ev.GiveUp core) h = record { named = acts core Do.GiveUp (codes "giveup" ∷ []) h refl; words = (core_is core h, (refl, tt)) }

-- ---- outcomes

-- the line of an outcome, which names it
pub record IsLine (outcome : Outcome) : Type 0 where
  pub line : List ℕ
  pub text : outcome_text outcome ≡ line ++ 10 ∷ []
  pub named : NamesOutcome outcome (words_of line)
  pub printable : are_printable line ≡ true

pub outcome_line : (outcome : Outcome) → FitsOutcome outcome → IsLine outcome
outcome_line Stepped h = record { line = codes "step"; text = refl; named = refl; printable = refl }
outcome_line (Wait (Slot core)) h = record {
  line = codes "wait slot" ++ 32 ∷ decimal core;
  text = sym (append_assoc (codes "wait slot ") (decimal core) (10 ∷ []));
  named = (h, words_join (codes "wait slot") (decimal core) ∙ ap (λ ws. codes "wait" ∷ codes "slot" ∷ ws) (decimal_word core (omega (arith, h))));
  printable = decimal_printable core (omega (arith, h));
}
outcome_line (Wait (Acks set)) (some, small) = record {
  line = codes "wait acks" ++ cores_text set;
  text = sym (append_assoc (codes "wait acks") (cores_text set) (10 ∷ []));
  named = acks_written set some small;
  printable = cores_printable set;
}
outcome_line Idle h = record { line = codes "idle"; text = refl; named = refl; printable = refl }
outcome_line (Answered reply) h = record { line = text_of reply; text = refl; named = replies_written reply h; printable = reply_printable reply h }
outcome_line Full h = record { line = codes "full"; text = refl; named = refl; printable = refl }

-- ---- notes

pub line_words : (d : Word) (event : List Word) (l : List ℕ) → IsWord d → AreWords event
    → words_of ((d ++ spaced event ++ codes " = ") ++ l) ≡ d ∷ (event ++ codes "=" ∷ words_of l)
line_words d event l dw ew =
    ap words_of (append_assoc (d ++ spaced event) (codes " = ") l) ∙ words_join (d ++ spaced event) (61 ∷ 32 ∷ l)
    ∙ ap (λ ws. ws ++ codes "=" ∷ words_of l) (word_before d event dw ∙ ap (λ ws. d ∷ ws) (words_spaced event ew))

take_front : (xs ys : List ℕ) → take (length xs) (xs ++ ys) ≡ xs
take_front [] ys = refl
take_front (x ∷ xs) ys = ap (λ l. x ∷ l) (take_front xs ys)

unended_line : (xs : List ℕ) → unended (xs ++ 10 ∷ []) ≡ xs
unended_line xs =
    let size : length (xs ++ 10 ∷ []) - 1 ≡ length xs = omega (arith, length-append xs (10 ∷ [])) in
    ap (λ n. take n (xs ++ 10 ∷ [])) size ∙ take_front xs (10 ∷ [])

pub writes_what_is_read : WritesWhatIsRead
writes_what_is_read note h =
    let o : IsLine note.outcome = outcome_line note.outcome h.outcome in
    let e : IsWritten note.event = event_written note.event h.event in
    let whole : note_text note ≡ (note_head note ++ o.line) ++ 10 ∷ [] =
    ap (λ t. note_head note ++ t) o.text ∙ sym (append_assoc (note_head note) o.line (10 ∷ [])) in
    let line : unended (note_text note) ≡ note_head note ++ o.line = ap unended whole ∙ unended_line (note_head note ++ o.line) in (
      decimal note.ticket,
      event_words note.event,
      words_of o.line,
      ap words_of line ∙ line_words (decimal note.ticket) (event_words note.event) o.line (decimal_word note.ticket h.ticket) e.words,
      decimal_number note.ticket h.ticket,
      e.named,
      o.named,
    )
