-- What lines name and declare fits.
use Rattle.machine_model.proofs.Words.{◌≡◌, ◌≢◌, ◌⊎◌, inl, inr, ℕ, zero, suc, ◌+◌, ◌^◌, ◌<◌, ◌≤◌, Bool, true, false, cond, eqb, ltb, List, [], ◌∷◌, ◌++◌}
use Rattle.machine_model.proofs.Words.{Option, Some, None, length, arith, refl, sym, ap, ◌∙◌, subst, length-append, nat_lt, ◌||◌, or_right, nat_tests, members}
use Rattle.machine_model.proofs.Words.{with_member, Mode, Request, Mmap, Munmap, Mprotect, Load, Store, Fetch, Reply, Mapped, Byte}
use Rattle.machine_model.specs.declared.event.Blocker.TheVariants.{Slot}
use Rattle.machine_model.specs.declared.event.Event.{Event}
use Rattle.machine_model.specs.declared.event.Outcome.{Outcome}
use Rattle.machine_model.specs.declared.event.Outcome.TheVariants.{Stepped, Wait, Idle, Answered, Full}
use Rattle.std.specs.List.{AllByRecursion}
use Rattle.std.proofs.lemmas.Nat.{or_lt, pow_below, pow_pos}
use Rattle.std.proofs.lemmas.Nat.Bits.{bit_at-zero}
use Rattle.machine_model.specs.declared.event.Event.TheVariants as Ev
use Rattle.machine_model.specs.declared.event.Blocker.TheVariants.{Acks}
use Rattle.seats.specs.declared.noted.Noted.{Noted}
use Rattle.trace_io.specs.Lines.{lines_of}
use Rattle.trace_text.specs.Words.{Word, words_of}
use Rattle.trace_text.specs.Line.{line_of, line_of_words}
use Rattle.trace_text.specs.Spelling.{SpellsPage}
use Rattle.trace_text.specs.Grammar.{Asks, Backs, Does, Says}
use Rattle.trace_text.specs.declared.action.Action.{Action}
use Rattle.trace_text.specs.declared.action.Action.TheVariants as Do
use Rattle.trace_text.specs.declared.line.Line.{Line}
use Rattle.trace_text.specs.declared.line.Line.TheVariants.{Blank, File, Act, Fold}
use Rattle.trace_text.proofs.Choices.{chosen}
use Rattle.trace_text.proofs.LineLemmas.{read_is_said}
use Rattle.trace_words.specs.declared.declaration.FileLine.{FileLine}
use Rattle.trace_words.specs.Declarations.{DeclarationView, has_long, with_file}
use Rattle.trace_words.specs.Events.{event_of}
use Rattle.notes_text.specs.Grammar.{Ascend, NamesNote, NamesOutcome, NamesReply, event_said, with_cores}
use Rattle.trace_words.specs.Collected.{Collected, nothing, Says as SaysLine, TakesAll, blank, space, file as of_file, item}
use Rattle.trace_words.specs.Ends.{Collects}
use Rattle.seats.specs.Fitting.{FitsReply, FitsRequest}
use Rattle.notes_text.specs.WrittenLaws.{FitsEvent, FitsOutcome}
use Rattle.trace_words.specs.Scripts.{NamesTask}
use Rattle.notes_text.specs.TextLaws.{IsDeclared, NamedFits, NotesDeclare, ScriptsDeclare}
use Rattle.notes_text.proofs.OutcomeWritten.{power_same, with_one}
use Rattle.notes_text.proofs.TextWritten.{none_found}

-- ---- events

backs_fit : (flags : _) (file off : ℕ) (words : List Word) → Backs flags file off words → (file < 2 ^ 64) × (off < 2 ^ 64)
backs_fit flags file off words (inl (e, anon, f, o)) = (omega (arith, f), omega (arith, o))
backs_fit flags file off words (inr (f, o, e, n, m)) = (n.0, m.0)

request_fits : (request : Request) (words : List Word) → Asks request words → FitsRequest request
request_fits (Mmap addr len prot flags file off) words (a, l, p, f, more, e, n, m, is, given, backs) =
    let (low, near) = backs_fit flags file off more backs in (n.0, m.0, low, near)
request_fits (Munmap addr len) words (a, l, e, n, m) = (n.0, m.0)
request_fits (Mprotect addr len prot) words (a, l, p, e, n, m, is) = (n.0, m.0)
request_fits (Load addr) words (a, e, n) = n.0
request_fits (Store addr byte) words (a, b, e, n, m, h) = (n.0, h)
request_fits (Fetch addr) words (a, e, n) = n.0

page_fits : (w : Word) (page : ℕ) → SpellsPage w page → page < 2 ^ 52
page_fits w page (addr, s, e) = omega (arith, s.0, e)

act_fits : (core : ℕ) (action : Action) (args : List Word) → core < 64 → Does action args → FitsEvent (event_of core action)
act_fits core (Do.Call request) args h (words, e, asks) = (h, request_fits request words asks)
act_fits core (Do.Frame frame) args h (w, e, s) = (h, s.0)
act_fits core (Do.Guess page) args h (w, e, s) = (h, page_fits w page s)
act_fits core (Do.Walk page) args h (w, e, s) = (h, page_fits w page s)
act_fits core (Do.Evict page) args h (w, e, s) = (h, page_fits w page s)
act_fits core action args h d = h

said_fits : (event : Event) (line : Line) (words : List Word) → Says line words → event_said line ≡ Some event → FitsEvent event
said_fits event (Act core action) words (c, args, is, spells, does) e =
    let same : event_of core action ≡ event = cc in subst FitsEvent same (act_fits core action args spells.0 does)
said_fits event (Fold page) words (a, is, spells) e =
    let same : Ev.Fold page ≡ event = cc in subst FitsEvent same (page_fits a page spells)
said_fits event line words s e = absurd (cc)

-- ---- outcomes

reply_fits : (reply : Reply) (words : List Word) → NamesReply reply words → FitsReply reply
reply_fits (Mapped address) words (digits, e, s, h) = h
reply_fits (Byte byte) words (w, e, s, h) = h
reply_fits reply words h = tt

cores_fit : (set least n : ℕ) (cores : List ℕ) → n ≡ 64 → set < 2 ^ n → Ascend least cores → with_cores set cores < 2 ^ n
cores_fit set least n [] e h a = h
cores_fit set least n (core ∷ cores) e h (low, small, more) =
    cores_fit (with_member set core) (suc core) n cores e (or_lt n set (2 ^ core) h (pow_below core n (omega (arith, small, e)))) more

-- a member stays
stays : (set core : ℕ) (cores : List ℕ) → members set core ≡ true → members (with_cores set cores) core ≡ true
stays set core [] h = h
stays set core (c ∷ cs) h =
    stays (with_member set c) core cs (with_one set c core ∙ ap (λ b. b || members (2 ^ c) core) h)

some_core : (set first : ℕ) (others : List ℕ) → set ≡ with_cores 0 (first ∷ others) → 0 < set
some_core zero first others e =
    let one : members (with_member 0 first) first ≡ true = with_one 0 first first ∙ or_right _ _ (power_same first) in
    let in_set : members (with_cores (with_member 0 first) others) first ≡ true = stays (with_member 0 first) first others one in
    let none : members 0 first ≡ false = ap (λ b. eqb b 1) (bit_at-zero first) in
    let bad : false ≡ true = sym none ∙ ap (λ s. members s first) e ∙ in_set in absurd (cc)
some_core (suc set) first others e = omega arith

outcome_fits : (outcome : Outcome) (words : List Word) → NamesOutcome outcome words → FitsOutcome outcome
outcome_fits Stepped words h = tt
outcome_fits (Wait (Slot core)) words h = h.0
outcome_fits (Wait (Acks set)) words (first, others, e, a, is) =
    (some_core set first others is, small 64 refl)
  where
    small : (n : ℕ) → n ≡ 64 → set < 2 ^ 64
    small n k = subst (λ m. set < 2 ^ m) k (subst (λ x. x < 2 ^ n) (sym is) (cores_fit 0 0 n (first ∷ others) k (pow_pos n) a))
outcome_fits Idle words h = tt
outcome_fits (Answered reply) words h = reply_fits reply words h
outcome_fits Full words h = tt

pub named_fits : NamedFits
named_fits note words (ticket, event, outcome, is, spells, (line, says, said), names) = record {
  ticket = spells.0;
  event = said_fits note.event line event says said;
  outcome = outcome_fits note.outcome outcome names;
}

-- ---- what is declared

-- all files are kept, or so many that there are too many; their first bytes are bytes
record KeepsFiles (asked : DeclarationView) : Type 0 where
  count : (asked.next ≡ length asked.files) ⊎ (17 ≤ length asked.files)
  bytes : AllByRecursion (λ file. file.seed ≤ 255) asked.files

abbrev Keeps : Option DeclarationView → Type 0
Keeps None = Unit {0}
Keeps (Some asked) = KeepsFiles asked

seeds_more : (files : List FileLine) (file : FileLine) → AllByRecursion (λ file. file.seed ≤ 255) files → file.seed ≤ 255
    → AllByRecursion (λ file. file.seed ≤ 255) (files ++ file ∷ [])
seeds_more [] file all one = (one, tt)
seeds_more (f ∷ fs) file (h, all) one = (h, seeds_more fs file all one)

with_file_keeps : (asked : DeclarationView) (file : FileLine) → KeepsFiles asked → file.seed ≤ 255 → KeepsFiles (with_file asked file)
with_file_keeps asked file k seed = go (ltb (length asked.files) 17) refl
  where
    more : length (asked.files ++ file ∷ []) ≡ length asked.files + 1
    more = length-append asked.files (file ∷ [])

    counted : (asked.next ≡ length asked.files) ⊎ (17 ≤ length asked.files) → length asked.files < 17
        → (suc asked.next ≡ length (asked.files ++ file ∷ [])) ⊎ (17 ≤ length (asked.files ++ file ∷ []))
    counted (inl e) low = inl (omega (arith, e, more))
    counted (inr h) low = absurd (omega (arith, h, low))

    go : (b : Bool) → ltb (length asked.files) 17 ≡ b
        → KeepsFiles (record asked { next = suc asked.next; files = cond b (asked.files ++ file ∷ []) asked.files })
    go true e =
        let low : length asked.files < 17 = grind (arith, nat_tests, e) in
        record { count = counted k.count low; bytes = seeds_more asked.files file k.bytes seed }
    go false e = let many : 17 ≤ length asked.files = grind (arith, nat_tests, e) in record { count = inr many; bytes = k.bytes }

-- a line that says so says it in words
said_words : (bytes : List ℕ) (says : Line) → says ≢ Blank → line_of bytes ≡ Some says → Says says (words_of bytes)
said_words [] says some e = read_is_said says (words_of []) e
said_words (b ∷ bs) says some e = elim (chosen (eqb b 35) (Some Blank) (line_of_words (words_of (b ∷ bs))) (Some says) e) [
  | inl h ↦ let same : Blank ≡ says = (let k = h.1 in cc) in absurd (some (sym same))
  | inr h ↦ read_is_said says (words_of (b ∷ bs)) h.1
]

seed_fits : (bytes : List ℕ) (n : ℕ) (mode : Mode) (len seed : ℕ) → line_of bytes ≡ Some (File n mode len seed) → seed ≤ 255
seed_fits bytes n mode len seed e =
    let other : File n mode len seed ≢ Blank = (λ k. absurd (cc)) in
    let (w, l, s, is, number, length_is, byte, small) = said_words bytes (File n mode len seed) other e in small

line_keeps : {T : Type 0} (k : Bool) (N : ℕ → T → List Word → Type 0) (old new : Collected T) (line : List ℕ) → Keeps old.asked
    → SaysLine k N old line new → Keeps new.asked
line_keeps {T} k N old new line h (blank b is) = subst (λ (c : Collected T). Keeps c.asked) (sym is) h
line_keeps {T} k N old new line h (space none kind cores frames calls said enough is) =
    subst (λ (c : Collected T). Keeps c.asked) (sym is) (record { count = inl refl; bytes = tt })
line_keeps {T} k N old new line h (of_file asked a i kind n mode len seed said next is) =
    subst (λ (c : Collected T). Keeps c.asked) (sym is)
    (with_file_keeps asked (record { mode = mode; len = len; seed = seed }) (subst Keeps a h) (seed_fits line n mode len seed said))
line_keeps {T} k N old new line h (item asked a sound some kind x names is) = subst (λ (c : Collected T). Keeps c.asked) (sym is) h

all_keep : {T : Type 0} (k : Bool) (N : ℕ → T → List Word → Type 0) (lines : List (List ℕ)) (old new : Collected T) → Keeps old.asked
    → TakesAll k N old lines new → Keeps new.asked
all_keep {T} k N [] old new h t = subst (λ (c : Collected T). Keeps c.asked) (sym t) h
all_keep k N (line ∷ lines) old new h (mid, short, takes, t) = all_keep k N lines mid new (line_keeps k N old mid line h takes.says) t

declared : {T : Type 0} (k : Bool) (N : ℕ → T → List Word → Type 0) (text : List ℕ) (asked : DeclarationView) (items : List T)
    → Collects k N text asked items → IsDeclared asked
declared k N text asked items c =
    let all : KeepsFiles asked = all_keep k N (lines_of text) nothing (record { asked = Some asked; items = items }) tt c.takes in
    let (cores, frames, files, long, calls) = none_found (nat_lt asked.cores 1 || nat_lt 64 asked.cores) (nat_lt 65536 asked.frames)
    (nat_lt 16 (length asked.files)) (has_long asked.files) (nat_lt 1048576 asked.calls) c.sound in
    let few : length asked.files < 17 = grind (arith, nat_tests, files) in
    record { sound = c.sound; files = counted all.count few; bytes = all.bytes }
  where
    counted : (asked.next ≡ length asked.files) ⊎ (17 ≤ length asked.files) → length asked.files < 17 → asked.next ≡ length asked.files
    counted (inl e) low = e
    counted (inr h) low = absurd (omega (arith, h, low))

pub notes_declare : NotesDeclare
notes_declare text asked notes c = declared true (λ (cores : ℕ) (note : Noted) words. NamesNote note words) text asked notes c

pub scripts_declare : ScriptsDeclare
scripts_declare text asked lines c = declared false NamesTask text asked lines c
