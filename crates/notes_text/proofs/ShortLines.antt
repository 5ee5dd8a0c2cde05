-- The lines of notes are short enough to be read.
use Rattle.machine_model.proofs.Words.{◌≡◌, ℕ, zero, suc, ◌+◌, ◌*◌, ◌^◌, ◌<◌, ◌≤◌, Bool, true, false, cond, eqb, List, [], ◌∷◌, ◌++◌, length, codes, decimal}
use Rattle.machine_model.proofs.Words.{map, arith, refl, sym, subst, length-append, filter, range_with_len, length-decimal-le, length-map, members, Flags}
use Rattle.machine_model.proofs.Words.{Request, Mmap, Munmap, Mprotect, Load, Store, Fetch, Prot, EINVAL, MapErr, Reply, Mapped, Byte, Refused, Segv}
use Rattle.machine_model.specs.declared.event.Blocker.TheVariants.{Slot}
use Rattle.machine_model.specs.declared.event.Event.{Event}
use Rattle.machine_model.specs.declared.event.Outcome.{Outcome}
use Rattle.machine_model.specs.declared.event.Outcome.TheVariants.{Stepped, Wait, Idle, Answered, Full}
use Rattle.std.specs.Prelude.{flat_map}
use Rattle.std.specs.Fmt.{digit_glyph}
use Rattle.std.specs.Int.Digits.{digits_of}
use Rattle.machine_model.specs.declared.event.Event.TheVariants as Ev
use Rattle.machine_model.specs.declared.event.Blocker.TheVariants.{Acks}
use Rattle.seats.specs.declared.noted.Noted.{Noted}
use Rattle.trace_words.specs.OutcomeText.{outcome_text}
use Rattle.trace_text.specs.Printing.{address_of, core_text, cores_text, text_of}
use Rattle.trace_text.specs.Spelling.{rights_text}
use Rattle.trace_text.proofs.Choices.{of_four, of_three}
use Rattle.trace_text.proofs.PrintingLemmas.{address_digits}
use Rattle.trace_words.specs.Written.{event_words, flags_text, request_words, spaced}
use Rattle.notes_text.specs.NotesWritten.{note_head, note_text}
use Rattle.seats.specs.Fitting.{FitsReply, FitsRequest}
use Rattle.notes_text.specs.WrittenLaws.{FitsEvent, FitsNote, FitsOutcome}
use Rattle.notes_text.specs.TextLaws.{LinesAreShort, WaitsGoing}
use Rattle.notes_text.proofs.TextWritten.{AreShort, decimal_short, spaced_short}

-- ---- words

address_short : (n : ℕ) → n < 2 ^ 64 → length (address_of n) ≤ 18
address_short n h =
    let all : length (cond (eqb n 0) (codes "0") (map (digit_glyph false) (digits_of 16 n))) ≤ 16 = go (eqb n 0) in
    omega (arith, all, length-append (codes "0x") (cond (eqb n 0) (codes "0") (map (digit_glyph false) (digits_of 16 n))))
  where
    go : (b : Bool) → length (cond b (codes "0") (map (digit_glyph false) (digits_of 16 n))) ≤ 16
    go true = omega arith
    go false = omega (arith, length-map (digits_of 16 n) (digit_glyph false), address_digits n h)

word_short : (n : ℕ) → n < 2 ^ 64 → length (address_of n) ≤ 20
word_short n h = omega (arith, address_short n h)

rights_short : (prot : Prot) → length (rights_text prot) ≤ 20
rights_short prot = of_three (λ r w x. length (rights_text (record { read = r; write = w; exec = x })) ≤ 20)
    (omega arith, omega arith, omega arith, omega arith, omega arith, omega arith, omega arith, omega arith) prot.read prot.write prot.exec

flags_short : (flags : Flags) → length (flags_text flags) ≤ 20
flags_short flags = of_four (λ p s f a. length (flags_text (record { private = p; shared = s; fixed = f; anon = a })) ≤ 20)
    (omega arith, omega arith, omega arith, omega arith, omega arith, omega arith, omega arith, omega arith)
    (omega arith, omega arith, omega arith, omega arith, omega arith, omega arith, omega arith, omega arith)
    flags.private flags.shared flags.fixed flags.anon

core_short : (core : ℕ) → core < 64 → length (decimal core) ≤ 2
core_short core h = length-decimal-le 2 core (omega arith) (omega (arith, h)) (omega (arith, h))

core_word_short : (core : ℕ) → core < 64 → length (codes "c" ++ decimal core) ≤ 3
core_word_short core h = omega (arith, core_short core h, length-append (codes "c") (decimal core))

core_in : (core : ℕ) → core < 64 → length (codes "c" ++ decimal core) ≤ 20
core_in core h = omega (arith, core_word_short core h)

page_short : (page : ℕ) → page < 2 ^ 52 → length (address_of (page * 4096)) ≤ 20
page_short page h = word_short (page * 4096) (omega (arith, h))

request_short : (request : Request) → FitsRequest request → AreShort (request_words request)
request_short (Mmap addr len prot flags file off) (a, l, f, o) = (
  omega arith,
  (word_short addr a, (word_short len l, (rights_short prot, (flags_short flags, (decimal_short file f, (word_short off o, tt)))))),
)
request_short (Munmap addr len) (a, l) = (omega arith, (word_short addr a, (word_short len l, tt)))
request_short (Mprotect addr len prot) (a, l) = (omega arith, (word_short addr a, (word_short len l, (rights_short prot, tt))))
request_short (Load addr) a = (omega arith, (word_short addr a, tt))
request_short (Store addr byte) (a, b) = (omega arith, (word_short addr a, (decimal_short byte (omega (arith, b)), tt)))
request_short (Fetch addr) a = (omega arith, (word_short addr a, tt))

request_few : (request : Request) → length (request_words request) ≤ 7
request_few (Mmap addr len prot flags file off) = omega arith
request_few request = omega arith

event_short : (event : Event) → FitsEvent event → AreShort (event_words event)
event_short (Ev.Call core request) (h, f) = (core_in core h, (omega arith, request_short request f))
event_short (Ev.Go core) h = (core_in core h, (omega arith, tt))
event_short (Ev.Frame core frame) (h, f) = (core_in core h, (omega arith, (decimal_short frame f, tt)))
event_short (Ev.Guess core page) (h, f) = (core_in core h, (omega arith, (page_short page f, tt)))
event_short (Ev.Whole core) h = (core_in core h, (omega arith, tt))
event_short (Ev.Take core) h = (core_in core h, (omega arith, tt))
event_short (Ev.Walk core page) (h, f) = (core_in core h, (omega arith, (page_short page f, tt)))
event_short (Ev.Evict core page) (h, f) = (core_in core h, (omega arith, (page_short page f, tt)))
event_short (Ev.Flush core) h = (core_in core h, (omega arith, tt))
event_short (Ev.Review core) h = (core_in core h, (omega arith, tt))
event_short (Ev.Fold page) f = (omega arith, (page_short page f, tt))
event_short (Ev.GiveUp core) h = (core_in core h, (omega arith, tt))

event_few : (event : Event) → length (event_words event) ≤ 9
event_few (Ev.Call core request) = omega (arith, request_few request)
event_few event = omega arith

event_length : (event : Event) → FitsEvent event → length (spaced (event_words event)) ≤ 189
event_length event h = omega (arith, spaced_short (event_words event) (event_short event h), event_few event)

go_length : (core : ℕ) → core < 64 → length (spaced (event_words (Ev.Go core))) ≤ 7
go_length core h =
    omega (
      arith,
      core_word_short core h,
      length-append (codes " " ++ (codes "c" ++ decimal core)) (spaced (codes "go" ∷ [])),
      length-append (codes " ") (codes "c" ++ decimal core),
    )

-- ---- outcomes

reply_length : (reply : Reply) → FitsReply reply → length (text_of reply) ≤ 20
reply_length (Mapped a) h = word_short a h
reply_length (Byte b) h = decimal_short b (omega (arith, h))
reply_length (Refused EINVAL) h = omega arith
reply_length (Segv MapErr) h = omega arith
reply_length reply h = omega arith

-- of those of n cores from one on
some_length : (set n from : ℕ) → from + n ≤ 64 → length (flat_map core_text (filter (members set) (range_with_len from n))) ≤ 3 * n
some_length set zero from h = omega arith
some_length set (suc n) from h = go (some_length set n (from + 1) (omega (arith, h))) (members set from)
  where
    core : length (core_text from) ≤ 3
    core = omega (arith, core_short from (omega (arith, h)), length-append (codes " ") (decimal from))

    rest : List ℕ
    rest = flat_map core_text (filter (members set) (range_with_len (from + 1) n))

    go : length (flat_map core_text (filter (members set) (range_with_len (from + 1) n))) ≤ 3 * n → (b : Bool)
        → length (flat_map core_text (cond b (from ∷ filter (members set) (range_with_len (from + 1) n))
        (filter (members set) (range_with_len (from + 1) n)))) ≤ 3 * suc n
    go more true = omega (arith, more, core, length-append (core_text from) (flat_map core_text (filter (members set) (range_with_len (from + 1) n))))
    go more false = omega (arith, more)

cores_length : (set : ℕ) → length (cores_text set) ≤ 192
unfolding cores_text
cores_length set = all 64 refl
  where
    all : (n : ℕ) → n ≡ 64 → length (flat_map core_text (filter (members set) (range_with_len 0 64))) ≤ 192
    all n e =
        subst (λ m. length (flat_map core_text (filter (members set) (range_with_len 0 m))) ≤ 192) e
        (let some = some_length set n 0 (omega (arith, e)) in omega (arith, some, e))

acks_length : (set : ℕ) → length (outcome_text (Wait (Acks set))) ≤ 202
acks_length set =
    omega (arith, cores_length set, length-append (codes "wait acks" ++ cores_text set) (codes "\n"), length-append (codes "wait acks") (cores_text set))

-- ---- notes

size : (note : Noted) → length (note_text note)
    ≡ length (decimal note.ticket) + length (spaced (event_words note.event)) + 3 + length (outcome_text note.outcome)
size note =
    let head : length (note_head note) ≡ length (decimal note.ticket ++ spaced (event_words note.event)) + 3 =
    length-append (decimal note.ticket ++ spaced (event_words note.event)) (codes " = ") in
    let front : length (decimal note.ticket ++ spaced (event_words note.event)) ≡ length (decimal note.ticket) + length (spaced (event_words note.event)) =
    length-append (decimal note.ticket) (spaced (event_words note.event)) in
    omega (arith, head, front, length-append (note_head note) (outcome_text note.outcome))

short_enough : (note : Noted) → FitsNote note → length (outcome_text note.outcome) ≤ 21 → length (note_text note) ≤ 257
short_enough note h o =
    omega (arith, o, size note, decimal_short note.ticket h.ticket, event_length note.event h.event)

waits_short : (note : Noted) (core : ℕ) → FitsNote note → note.event ≡ Ev.Go core → length (outcome_text note.outcome) ≤ 202
    → length (note_text note) ≤ 257
waits_short note core h e o =
    let low : core < 64 = subst FitsEvent e h.event in
    let event : length (spaced (event_words note.event)) ≤ 7 = subst (λ x. length (spaced (event_words x)) ≤ 7) (sym e) (go_length core low) in
    omega (arith, o, size note, decimal_short note.ticket h.ticket, event)

line_short : (note : Noted) (outcome : Outcome) → FitsNote note → WaitsGoing note → note.outcome ≡ outcome → FitsOutcome outcome
    → length (note_text note) ≤ 257
line_short note Stepped h w e f = short_enough note h (subst (λ o. length (outcome_text o) ≤ 21) (sym e) (omega arith))
line_short note (Wait (Slot core)) h w e f =
    let text : length (outcome_text (Wait (Slot core))) ≤ 21 =
    omega (arith, core_short core f, length-append (codes "wait slot " ++ decimal core) (codes "\n"), length-append (codes "wait slot ") (decimal core)) in
    short_enough note h (subst (λ o. length (outcome_text o) ≤ 21) (sym e) text)
line_short note (Wait (Acks set)) h w e f =
    let (core, is) = w (Acks set) e in
    waits_short note core h is (subst (λ o. length (outcome_text o) ≤ 202) (sym e) (acks_length set))
line_short note Idle h w e f = short_enough note h (subst (λ o. length (outcome_text o) ≤ 21) (sym e) (omega arith))
line_short note (Answered reply) h w e f =
    let text : length (outcome_text (Answered reply)) ≤ 21 = omega (arith, reply_length reply f, length-append (text_of reply) (codes "\n")) in
    short_enough note h (subst (λ o. length (outcome_text o) ≤ 21) (sym e) text)
line_short note Full h w e f = short_enough note h (subst (λ o. length (outcome_text o) ≤ 21) (sym e) (omega arith))

pub lines_are_short : LinesAreShort
lines_are_short note h w = record { fits = h; short = line_short note note.outcome h w refl h.outcome }
