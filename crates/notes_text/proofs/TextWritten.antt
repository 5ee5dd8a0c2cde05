-- The text that is written of notes says them.
use Rattle.machine_model.proofs.Words.{◌≡◌, ◌≢◌, inl, inr, ℕ, suc, ◌+◌, ◌*◌, ◌^◌, ◌<◌, ◌≤◌, Bool, true, false, cond, eqb, ltb, List, [], ◌∷◌, ◌++◌, Some, None}
use Rattle.machine_model.proofs.Words.{length, codes, decimal, arith, refl, sym, ap, ◌∙◌, subst, append_assoc, append-nil, length-append, ◌||◌, nat_lt}
use Rattle.machine_model.proofs.Words.{nat_tests, length-decimal-le, Mode}
use Rattle.std.specs.Prelude.{flat_map}
use Rattle.std.specs.List.{AllByRecursion}
use Rattle.std.specs.Str.{bytes_eq}
use Rattle.std.proofs.lemmas.Slice.Eq.{bytes_eq-Decides}
use Rattle.vm_base.specs.declared.rights.Mode.TheVariants.{R, W, RW}
use Rattle.machine_model.specs.declared.setup.SetupFault.TheVariants.{Cores, Frames, TooManyFiles, FileTooLong, Calls}
use Rattle.machine_model.specs.Setups.{is_too_long}
use Rattle.seats.specs.declared.noted.Noted.{Noted}
use Rattle.trace_io.specs.Lines.{lines_of}
use Rattle.trace_text.specs.Words.{Word, words_of}
use Rattle.trace_text.specs.Number.{number_of}
use Rattle.trace_text.specs.Line.{are_printable, line_of, line_of_words}
use Rattle.trace_text.specs.Spelling.{mode_text}
use Rattle.trace_text.specs.Grammar.{Says}
use Rattle.trace_text.specs.declared.line.Line.{Line}
use Rattle.trace_text.specs.declared.line.Line.TheVariants.{Blank, Space, File}
use Rattle.trace_text.proofs.LineLemmas.{said_is_read, read_is_said}
use Rattle.trace_text.proofs.BytesLemmas.{append_has, decimal_number}
use Rattle.trace_text.proofs.PrintableLemmas.{read_is_printable}
use Rattle.trace_text.proofs.WordLemmas.{IsWord}
use Rattle.trace_text.proofs.SpellingLemmas.{reads_printed}
use Rattle.trace_words.specs.declared.declaration.FileLine.{FileLine}
use Rattle.trace_words.specs.Declarations.{DeclarationView, asked_fault, asks_for, has_long, is_next, with_file}
use Rattle.trace_words.specs.Kinds.{OfEvents, kind_of}
use Rattle.trace_io.proofs.TakenLemmas.{lines-first}
use Rattle.notes_text.specs.Grammar.{NamesNote}
use Rattle.trace_words.specs.Collected.{Collected, nothing, Takes, TakesAll}
use Rattle.trace_words.specs.Written.{event_words, file_text, files_text, space_text, spaced}
use Rattle.notes_text.specs.NotesWritten.{note_head, note_text, notes_text}
use Rattle.notes_text.specs.WrittenLaws.{FitsNote}
use Rattle.notes_text.specs.TextLaws.{FitsLine, IsDeclared, WrittenIsSaid}
use Rattle.trace_words.proofs.CollectLemmas.{file_taken, item_taken, space_taken}
use Rattle.notes_text.proofs.NoteWritten.{IsLine, IsWritten, event_written, line_words, outcome_line}
use Rattle.notes_text.proofs.PrintableLemmas.{decimal_printable, printable, printable_unbroken}
use Rattle.notes_text.proofs.WrittenLemmas.{AreWords, decimal_word, word_before, words_spaced}

abbrev Names : ℕ → Noted → List Word → Type 0
Names cores note words = NamesNote note words

-- ---- a line of a text

-- the line behind which a newline stands is the first
first_line : (line rest : List ℕ) → are_printable line ≡ true → lines_of ((line ++ codes "\n") ++ rest) ≡ line ∷ lines_of rest
first_line line rest p =
    ap lines_of (append_assoc line (codes "\n") rest) ∙ lines-first (line ++ 10 ∷ rest) line rest (printable_unbroken line p) (inl refl)

-- the line is taken, and then all others
line_taken : (old mid new : Collected Noted) (line rest : List ℕ) → length line ≤ 256 → Takes true Names old line mid
    → TakesAll true Names mid (lines_of rest) new → TakesAll true Names old (lines_of ((line ++ codes "\n") ++ rest)) new
line_taken old mid new line rest short t all =
    subst (λ ls. TakesAll true Names old ls new) (sym (first_line line rest t.printable)) (mid, short, t, all)

-- ---- what is declared

-- each word has at most 20 bytes
abbrev pub AreShort : List Word → Type 0
AreShort ws = AllByRecursion (λ w. length w ≤ 20) ws

pub spaced_short : (ws : List Word) → AreShort ws → length (spaced ws) ≤ 21 * length ws
spaced_short [] h = omega arith
spaced_short (w ∷ ws) h =
    let more : length (spaced ws) ≤ 21 * length ws = spaced_short ws h.1 in
    let one : length w ≤ 20 = h.0 in
    let size : length (spaced (w ∷ ws)) ≡ 1 + length w + length (spaced ws) =
    length-append (codes " " ++ w) (spaced ws) ∙ ap (λ n. n + length (spaced ws)) (length-append (codes " ") w) in
    omega (arith, more, one, size)

pub decimal_short : (n : ℕ) → n < 2 ^ 64 → length (decimal n) ≤ 20
decimal_short n h = length-decimal-le 20 n (omega arith) (omega (arith, h)) h

mode_short : (mode : Mode) → length (mode_text mode) ≤ 20
mode_short R = omega arith
mode_short W = omega arith
mode_short RW = omega arith

mode_word : (mode : Mode) → IsWord (mode_text mode)
mode_word R = refl
mode_word W = refl
mode_word RW = refl

-- a line of a name and words is read as what it says
record IsSaid (line : List ℕ) (name : Word) (words : List Word) (says : Line) : Type 0 where
  words_are : words_of line ≡ name ∷ words
  read : line_of_words (words_of line) ≡ Some says
  printable : are_printable line ≡ true

said_line : (name : Word) (words : List Word) (says : Line) → IsWord name → AreWords words → Says says (name ∷ words)
    → IsSaid (name ++ spaced words) name words says
said_line name words says n ws s =
    let are : words_of (name ++ spaced words) ≡ name ∷ words = word_before name words n ∙ ap (λ l. name ∷ l) (words_spaced words ws) in
    let read : line_of_words (words_of (name ++ spaced words)) ≡ Some says = ap line_of_words are ∙ said_is_read says (name ∷ words) s in
    record { words_are = are; read = read; printable = read_is_printable says (name ++ spaced words) read }

space_line_taken : (cores frames calls : ℕ) → cores < 2 ^ 64 → frames < 2 ^ 64 → calls < 2 ^ 64
    → Takes true Names nothing (codes "vm" ++ spaced (decimal cores ∷ decimal frames ∷ decimal calls ∷ []))
    (record { asked = Some (asks_for cores frames calls); items = [] })
space_line_taken cores frames calls c f l =
    let words = decimal cores ∷ decimal frames ∷ decimal calls ∷ [] in
    let s : IsSaid (codes "vm" ++ spaced words) (codes "vm") words (Space cores frames calls) =
    said_line (codes "vm") words (Space cores frames calls) refl (decimal_word cores c, (decimal_word frames f, (decimal_word calls l, tt))) (
      decimal cores,
      decimal frames,
      decimal calls ∷ [],
      refl,
      decimal_number cores c,
      decimal_number frames f,
      inr (decimal calls, refl, decimal_number calls l),
    ) in
    space_taken true Names nothing _ (codes "vm" ++ spaced words) cores frames calls s.printable (ap kind_of s.words_are) refl s.read
    (λ e. ap length s.words_are) refl

space_short : (cores frames calls : ℕ) → cores < 2 ^ 64 → frames < 2 ^ 64 → calls < 2 ^ 64
    → length (codes "vm" ++ spaced (decimal cores ∷ decimal frames ∷ decimal calls ∷ [])) ≤ 256
space_short cores frames calls c f l =
    let words = decimal cores ∷ decimal frames ∷ decimal calls ∷ [] in
    let short : length (spaced words) ≤ 63 = spaced_short words (decimal_short cores c, (decimal_short frames f, (decimal_short calls l, tt))) in
    omega (arith, short, length-append (codes "vm") (spaced words))

file_words : ℕ → FileLine → List Word
file_words n file = decimal n ∷ mode_text file.mode ∷ decimal file.len ∷ decimal file.seed ∷ []

-- with the next file
after : DeclarationView → FileLine → Collected Noted
after asked file = record { asked = Some (with_file asked file); items = [] }

file_line_taken : (asked : DeclarationView) (file : FileLine) → asked.next < 17 → file.len < 2 ^ 64 → file.seed ≤ 255
    → Takes true Names (record { asked = Some asked; items = [] }) (codes "file" ++ spaced (file_words asked.next file)) (after asked file)
unfolding file_words after
file_line_taken asked file n l s =
    let low : asked.next < 2 ^ 64 = omega (arith, n) in
    let seed : file.seed < 2 ^ 64 = omega (arith, s) in
    let words = decimal asked.next ∷ mode_text file.mode ∷ decimal file.len ∷ decimal file.seed ∷ [] in
    let said : IsSaid (codes "file" ++ spaced words) (codes "file") words (File asked.next file.mode file.len file.seed) =
    said_line (codes "file") words (File asked.next file.mode file.len file.seed) refl
    (decimal_word asked.next low, (mode_word file.mode, (decimal_word file.len l, (decimal_word file.seed seed, tt)))) (
      decimal asked.next,
      decimal file.len,
      decimal file.seed,
      refl,
      decimal_number asked.next low,
      decimal_number file.len l,
      decimal_number file.seed seed,
      s,
    ) in
    let next : is_next asked asked.next ≡ true = grind (arith, nat_tests, n) in
    file_taken true Names (record { asked = Some asked; items = [] }) _ (codes "file" ++ spaced words) asked asked.next file.mode file.len file.seed
    said.printable (ap kind_of said.words_are) refl refl said.read next refl

file_short : (n : ℕ) (file : FileLine) → n < 17 → file.len < 2 ^ 64 → file.seed ≤ 255 → length (codes "file" ++ spaced (file_words n file)) ≤ 256
unfolding file_words
file_short n file m l s =
    let words = decimal n ∷ mode_text file.mode ∷ decimal file.len ∷ decimal file.seed ∷ [] in
    let short : length (spaced words) ≤ 84 = spaced_short words
    (decimal_short n (omega (arith, m)), (mode_short file.mode, (decimal_short file.len l, (decimal_short file.seed (omega (arith, s)), tt)))) in
    omega (arith, short, length-append (codes "file") (spaced words))

-- ---- all files

abbrev Fits : FileLine → Type 0
Fits file = (file.len < 2 ^ 64) × (file.seed ≤ 255)

with_all : DeclarationView → List FileLine → DeclarationView
with_all asked [] = asked
with_all asked (file ∷ files) = with_all (with_file asked file) files

-- few files are all kept
with_few : (asked : DeclarationView) (file : FileLine) → length asked.files < 17
    → with_file asked file ≡ record asked { next = suc asked.next; files = asked.files ++ file ∷ [] }
with_few asked file h =
    let few : ltb (length asked.files) 17 ≡ true = grind (arith, nat_tests, h) in
    ap (λ b. record asked { next = suc asked.next; files = cond b (asked.files ++ file ∷ []) asked.files }) few

with_all_is : (cores frames calls n : ℕ) (before files : List FileLine) → length before + length files < 17
    → with_all (record { cores = cores; frames = frames; calls = calls; next = n; files = before }) files
    ≡ record { cores = cores; frames = frames; calls = calls; next = n + length files; files = before ++ files }
unfolding with_all
with_all_is cores frames calls n before [] h =
    let sum : n ≡ n + 0 = omega arith in
    ap (λ m. record { cores = cores; frames = frames; calls = calls; next = m; files = before }) sum
    ∙ ap (λ l. record { cores = cores; frames = frames; calls = calls; next = n + 0; files = l }) (sym (append-nil before))
with_all_is cores frames calls n before (file ∷ files) h =
    let one : with_file (record { cores = cores; frames = frames; calls = calls; next = n; files = before }) file
    ≡ record { cores = cores; frames = frames; calls = calls; next = suc n; files = before ++ file ∷ [] } =
    with_few (record { cores = cores; frames = frames; calls = calls; next = n; files = before }) file (omega (arith, h)) in
    let sum : suc n + length files ≡ n + suc (length files) = omega arith in
    ap (λ a. with_all a files) one
    ∙ with_all_is cores frames calls (suc n) (before ++ file ∷ []) files (omega (arith, h, length-append before (file ∷ [])))
    ∙ ap (λ m. record { cores = cores; frames = frames; calls = calls; next = m; files = (before ++ file ∷ []) ++ files }) sum
    ∙ ap (λ l. record { cores = cores; frames = frames; calls = calls; next = n + suc (length files); files = l }) (append_assoc before (file ∷ []) files)

files_taken : (asked : DeclarationView) (files : List FileLine) (rest : List ℕ) (new : Collected Noted) → asked.next + length files < 17 → AllByRecursion Fits files
    → TakesAll true Names (record { asked = Some (with_all asked files); items = [] }) (lines_of rest) new
    → TakesAll true Names (record { asked = Some asked; items = [] }) (lines_of (files_text asked.next files ++ rest)) new
unfolding with_all file_words after
files_taken asked [] rest new few fits all = all
files_taken asked (file ∷ files) rest new few (fit, fits) all =
    subst (λ t. TakesAll true Names (record { asked = Some asked; items = [] }) (lines_of t) new)
    (sym (append_assoc (file_text asked.next file) (files_text (suc asked.next) files) rest)) (go
    (files_taken (with_file asked file) files rest new (omega (arith, few)) fits all))
  where
    go : TakesAll true Names (record { asked = Some (with_file asked file); items = [] }) (lines_of (files_text (suc asked.next) files ++ rest)) new
        → TakesAll true Names (record { asked = Some asked; items = [] })
        (lines_of (file_text asked.next file ++ (files_text (suc asked.next) files ++ rest))) new
    go more =
        line_taken (record { asked = Some asked; items = [] }) (after asked file) new (codes "file" ++ spaced (file_words asked.next file))
        (files_text (suc asked.next) files ++ rest) (file_short asked.next file (omega (arith, few)) fit.0 fit.1)
        (file_line_taken asked file (omega (arith, few)) fit.0 fit.1) more

-- ---- notes

-- no number is a word of letters
no_number : (n : ℕ) (w : Word) → n < 2 ^ 64 → number_of w ≡ None → bytes_eq (decimal n) w ≡ false
no_number n w h none = go (bytes_eq (decimal n) w) refl
  where
    go : (b : Bool) → bytes_eq (decimal n) w ≡ b → b ≡ false
    go false e = refl
    go true e =
        let is : decimal n ≡ w = (bytes_eq-Decides (decimal n) w).0 e in
        let bad : Some n ≡ None = sym ((reads_printed n h).0) ∙ ap number_of is ∙ none in absurd (cc)

note_kind : (n : ℕ) (words : List Word) → n < 2 ^ 64 → kind_of (decimal n ∷ words) ≡ OfEvents
note_kind n words h =
    let vm : bytes_eq (decimal n) (codes "vm") ≡ false = no_number n (codes "vm") h refl in
    let file : bytes_eq (decimal n) (codes "file") ≡ false = no_number n (codes "file") h refl in
    rw (vm, file) refl

-- no number begins with a #
sign_is_none : (xs : List ℕ) → number_of (35 ∷ xs) ≡ None
sign_is_none [] = refl
sign_is_none (x ∷ xs) = refl

-- bytes that begin with a number say something
not_blank : (w : Word) (n : ℕ) (rest : List ℕ) (words : List Word) → number_of w ≡ Some n → words_of (w ++ rest) ≡ w ∷ words
    → line_of (w ++ rest) ≢ Some Blank
not_blank [] n rest words e is b = let bad : None ≡ Some n = e in absurd (cc)
not_blank (x ∷ xs) n rest words e is b = go (eqb x 35) refl b
  where
    go : (b : Bool) → eqb x 35 ≡ b → cond b (Some Blank) (line_of_words (words_of ((x ∷ xs) ++ rest))) ≡ Some Blank → ⊥
    go true t b =
        let sign : x ≡ 35 = grind (arith, nat_tests, t) in
        let bad : Some n ≡ None = sym e ∙ ap (λ c. number_of (c ∷ xs)) sign ∙ sign_is_none xs in absurd (cc)
    go false t b =
        let none : words_of ((x ∷ xs) ++ rest) ≡ [] = read_is_said Blank (words_of ((x ∷ xs) ++ rest)) b in
        let bad : (x ∷ xs) ∷ words ≡ [] = sym is ∙ none in absurd (cc)

event_printable : (note : Noted) → FitsNote note → are_printable (spaced (event_words note.event)) ≡ true
event_printable note h =
    let e : IsWritten note.event = event_written note.event h.event in
    let (line, says, is) = e.named in
    read_is_printable line (spaced (event_words note.event))
    (ap line_of_words (words_spaced (event_words note.event) e.words) ∙ said_is_read line (event_words note.event) says)

-- the line of a note, and what it is
record HasLine (note : Noted) : Type 0 where
  line : List ℕ
  text : note_text note ≡ line ++ codes "\n"
  printable : are_printable line ≡ true
  some : line_of line ≢ Some Blank
  kind : kind_of (words_of line) ≡ OfEvents
  named : NamesNote note (words_of line)

has_line : (note : Noted) → FitsNote note → HasLine note
has_line note h =
    let o : IsLine note.outcome = outcome_line note.outcome h.outcome in
    let e : IsWritten note.event = event_written note.event h.event in
    let t : number_of (decimal note.ticket) ≡ Some note.ticket = (reads_printed note.ticket h.ticket).0 in
    let behind = (spaced (event_words note.event) ++ codes " = ") ++ o.line in
    let words : words_of (note_head note ++ o.line) ≡ decimal note.ticket ∷ (event_words note.event ++ codes "=" ∷ words_of o.line) =
    line_words (decimal note.ticket) (event_words note.event) o.line (decimal_word note.ticket h.ticket) e.words in
    let shape : note_head note ++ o.line ≡ decimal note.ticket ++ behind =
    ap (λ l. l ++ o.line) (append_assoc (decimal note.ticket) (spaced (event_words note.event)) (codes " = "))
    ∙ append_assoc (decimal note.ticket) (spaced (event_words note.event) ++ codes " = ") o.line in
    record {
      line = note_head note ++ o.line;
      text = ap (λ t. note_head note ++ t) o.text ∙ sym (append_assoc (note_head note) o.line (10 ∷ []));
      printable = append_has printable (note_head note) o.line
          (append_has printable (decimal note.ticket ++ spaced (event_words note.event)) (codes " = ")
          (append_has printable (decimal note.ticket) (spaced (event_words note.event)) (decimal_printable note.ticket h.ticket) (event_printable note h))
          refl) o.printable;
      some = subst (λ l. line_of l ≢ Some Blank) (sym shape)
          (not_blank (decimal note.ticket) note.ticket behind (event_words note.event ++ codes "=" ∷ words_of o.line) t (ap words_of (sym shape) ∙ words));
      kind = ap kind_of words ∙ note_kind note.ticket (event_words note.event ++ codes "=" ∷ words_of o.line) h.ticket;
      named = (
        decimal note.ticket,
        event_words note.event,
        words_of o.line,
        words,
        decimal_number note.ticket h.ticket,
        e.named,
        o.named,
      );
    }

notes_taken : (asked : DeclarationView) (before notes : List Noted) → asked_fault asked ≡ None → AllByRecursion FitsLine notes
    → TakesAll true Names (record { asked = Some asked; items = before }) (lines_of (flat_map note_text notes))
    (record { asked = Some asked; items = before ++ notes })
notes_taken asked before [] sound h = ap (λ l. record { asked = Some asked; items = l }) (append-nil before)
notes_taken asked before (note ∷ notes) sound (fits, more) =
    let l : HasLine note = has_line note fits.fits in
    let size : length (note_text note) ≡ length l.line + 1 = ap length l.text ∙ length-append l.line (codes "\n") in
    let rest = notes_taken asked (before ++ note ∷ []) notes sound more in
    subst (λ t. TakesAll true Names (record { asked = Some asked; items = before }) (lines_of (t ++ flat_map note_text notes))
    (record { asked = Some asked; items = before ++ note ∷ notes })) (sym l.text)
    (line_taken (record { asked = Some asked; items = before }) (record { asked = Some asked; items = before ++ note ∷ [] })
    (record { asked = Some asked; items = before ++ note ∷ notes }) l.line (flat_map note_text notes) (omega (arith, size, fits.short))
    (item_taken true Names (record { asked = Some asked; items = before }) _ l.line asked note l.printable l.some l.kind refl sound l.named refl)
    (subst (λ (i : List Noted). TakesAll true Names (record { asked = Some asked; items = before ++ note ∷ [] }) (lines_of (flat_map note_text notes))
    (record { asked = Some asked; items = i })) (append_assoc before (note ∷ []) notes) rest))

-- ---- what fits

-- no fault is found
pub none_found : (a b c d e : Bool)
    → cond a (Some Cores) (cond b (Some Frames) (cond c (Some TooManyFiles) (cond d (Some FileTooLong) (cond e (Some Calls) None)))) ≡ None
    → (a ≡ false) × (b ≡ false) × (c ≡ false) × (d ≡ false) × (e ≡ false)
none_found true b c d e h = absurd (cc)
none_found false true c d e h = absurd (cc)
none_found false false true d e h = absurd (cc)
none_found false false false true e h = absurd (cc)
none_found false false false false true h = absurd (cc)
none_found false false false false false h = (refl, refl, refl, refl, refl)

files_fit : (files : List FileLine) → has_long files ≡ false → AllByRecursion (λ file. file.seed ≤ 255) files → AllByRecursion Fits files
files_fit [] h b = tt
files_fit (file ∷ files) h (seed, seeds) = go (λ k. files_fit files k seeds) (is_too_long file.len) refl h
  where
    go : (has_long files ≡ false → AllByRecursion Fits files) → (t : Bool) → is_too_long file.len ≡ t → t || has_long files ≡ false
        → AllByRecursion Fits (file ∷ files)
    go more true e h = absurd (cc)
    go more false e h = let low : file.len < 2 ^ 64 = grind (arith, nat_tests, e) in ((low, seed), more h)

record Limits (asked : DeclarationView) : Type 0 where
  cores : asked.cores < 2 ^ 64
  frames : asked.frames < 2 ^ 64
  calls : asked.calls < 2 ^ 64
  files : length asked.files < 17
  each : AllByRecursion Fits asked.files

limits : (asked : DeclarationView) → IsDeclared asked → Limits asked
limits asked d =
    let (c, f, n, l, k) = none_found (nat_lt asked.cores 1 || nat_lt 64 asked.cores) (nat_lt 65536 asked.frames) (nat_lt 16 (length asked.files))
    (has_long asked.files) (nat_lt 1048576 asked.calls) d.sound in
    record {
      cores = grind (arith, nat_tests, c);
      frames = grind (arith, nat_tests, f);
      calls = grind (arith, nat_tests, k);
      files = grind (arith, nat_tests, n);
      each = files_fit asked.files l d.bytes;
    }

-- ---- the text

declared_is : (asked : DeclarationView) → IsDeclared asked → Limits asked → with_all (asks_for asked.cores asked.frames asked.calls) asked.files ≡ asked
declared_is asked d l =
    let count : 0 + length asked.files ≡ asked.next = omega (arith, d.files) in
    with_all_is asked.cores asked.frames asked.calls 0 [] asked.files (omega (arith, l.files))
    ∙ ap (λ n. record { cores = asked.cores; frames = asked.frames; calls = asked.calls; next = n; files = asked.files }) count

written_taken : (asked : DeclarationView) (notes : List Noted) → IsDeclared asked → AllByRecursion FitsLine notes
    → TakesAll true Names nothing (lines_of (notes_text asked notes)) (record { asked = Some asked; items = notes })
written_taken asked notes d h =
    let l : Limits asked = limits asked d in
    let first = asks_for asked.cores asked.frames asked.calls in
    let end : TakesAll true Names (record { asked = Some (with_all first asked.files); items = [] }) (lines_of (flat_map note_text notes))
    (record { asked = Some asked; items = notes }) =
    subst (λ a. TakesAll true Names (record { asked = Some a; items = [] }) (lines_of (flat_map note_text notes))
    (record { asked = Some asked; items = notes }))
    (sym (declared_is asked d l)) (notes_taken asked [] notes d.sound h) in
    subst (λ t. TakesAll true Names nothing (lines_of t) (record { asked = Some asked; items = notes }))
    (sym (append_assoc (space_text asked) (files_text 0 asked.files) (flat_map note_text notes)))
    (line_taken nothing (record { asked = Some first; items = [] }) (record { asked = Some asked; items = notes })
    (codes "vm" ++ spaced (decimal asked.cores ∷ decimal asked.frames ∷ decimal asked.calls ∷ [])) (files_text 0 asked.files ++ flat_map note_text notes)
    (space_short asked.cores asked.frames asked.calls l.cores l.frames l.calls)
    (space_line_taken asked.cores asked.frames asked.calls l.cores l.frames l.calls)
    (files_taken first asked.files (flat_map note_text notes) (record { asked = Some asked; items = notes }) (omega (arith, l.files)) l.each end))

pub written_is_said : WrittenIsSaid
written_is_said asked notes d h = record { takes = written_taken asked notes d h; sound = d.sound }
