-- A text says one declaration and one list of items, and what says them is refused at no line.
use Rattle.machine_model.proofs.Words.{◌≡◌, ◌⊎◌, inl, inr, ℕ, Bool, true, List, [], ◌∷◌, ◌++◌, Option, Some, None, arith, sym, ap, ◌∙◌, subst, Mode}
use Rattle.seats.specs.declared.noted.Noted.{Noted}
use Rattle.trace_io.specs.Lines.{lines_of}
use Rattle.trace_text.specs.Words.{Word, words_of}
use Rattle.trace_text.specs.Line.{line_of}
use Rattle.trace_text.specs.declared.line.Line.{Line}
use Rattle.trace_text.specs.declared.line.Line.TheVariants.{Blank, Space, File, Act, Fold, Finish, Now}
use Rattle.trace_words.specs.declared.fault.TraceFault.{TraceFault}
use Rattle.trace_words.specs.declared.fault.TraceFault.TheVariants.{NoMemory, ReadFailed}
use Rattle.trace_words.specs.Declarations.{DeclarationView, asked_fault, asks_for, with_file}
use Rattle.trace_words.specs.Kinds.{OfFile, OfEvents}
use Rattle.notes_text.specs.Grammar.{NamesNote}
use Rattle.trace_words.specs.Collected.{Collected, nothing, Says, TakesAll, blank, space, file, item}
use Rattle.trace_words.specs.Ends.{Collects, Front, CannotMake, Stops, reading, unmade, wanting, overlong, refusing, unopened}
use Rattle.notes_text.specs.TextLaws.{SaysOne, SaidIsNotRefused}
use Rattle.notes_text.proofs.NoteLemmas.{notes_one}

-- no line names two items
abbrev Single : {T : Type 0} → (ℕ → T → List Word → Type 0) → Type 0
Single {T} N = (cores : ℕ) (x y : T) (line : List ℕ) → N cores x (words_of line) → N cores y (words_of line) → x ≡ y

-- ---- a line

-- what is declared by a line that says so
declares : Option DeclarationView → Option Line → Option DeclarationView
declares None None = None
declares None (Some Blank) = None
declares None (Some (Space cores frames calls)) = Some (asks_for cores frames calls)
declares None (Some (File n mode len seed)) = None
declares None (Some (Act core action)) = None
declares None (Some (Fold page)) = None
declares None (Some (Finish core)) = None
declares None (Some (Now core request)) = None
declares (Some asked) None = Some asked
declares (Some asked) (Some Blank) = Some asked
declares (Some asked) (Some (Space cores frames calls)) = Some asked
declares (Some asked) (Some (File n mode len seed)) = Some (with_file asked (record { mode = mode; len = len; seed = seed }))
declares (Some asked) (Some (Act core action)) = Some asked
declares (Some asked) (Some (Fold page)) = Some asked
declares (Some asked) (Some (Finish core)) = Some asked
declares (Some asked) (Some (Now core request)) = Some asked

with_asked : {T : Type 0} → Collected T → Option DeclarationView → Collected T
with_asked c o = record c { asked = o }

with_item : {T : Type 0} → Collected T → T → Collected T
with_item c x = record c { items = c.items ++ x ∷ [] }

space_gives : {T : Type 0} (old new : Collected T) (line : List ℕ) (cores frames calls : ℕ) → old.asked ≡ None
    → line_of line ≡ Some (Space cores frames calls) → new ≡ record old { asked = Some (asks_for cores frames calls) }
    → new ≡ with_asked old (declares old.asked (line_of line))
unfolding declares with_asked
space_gives old new line cores frames calls none said is =
    is ∙ sym (ap (λ l. with_asked old (declares old.asked l)) said ∙ ap (λ o. with_asked old (declares o (Some (Space cores frames calls)))) none)

file_gives : {T : Type 0} (old new : Collected T) (line : List ℕ) (asked : DeclarationView) (n : ℕ) (mode : Mode) (len seed : ℕ) → old.asked ≡ Some asked
    → line_of line ≡ Some (File n mode len seed)
    → new ≡ record old { asked = Some (with_file asked (record { mode = mode; len = len; seed = seed })) }
    → new ≡ with_asked old (declares old.asked (line_of line))
unfolding declares with_asked
file_gives old new line asked n mode len seed some said is =
    is ∙ sym (ap (λ l. with_asked old (declares old.asked l)) said ∙ ap (λ o. with_asked old (declares o (Some (File n mode len seed)))) some)

says_once : {T : Type 0} (k : Bool) (N : ℕ → T → List Word → Type 0) → Single N → (old : Collected T) (line : List ℕ) (new also : Collected T)
    → Says k N old line new → Says k N old line also → new ≡ also
unfolding with_item
says_once k N one old line new also (blank b e) (blank c f) = e ∙ sym f
says_once k N one old line new also (blank b e) (space none kind cores frames calls said enough is) =
    let bad : Some Blank ≡ Some (Space cores frames calls) = sym b ∙ said in absurd (cc)
says_once k N one old line new also (blank b e) (file asked a i kind n mode len seed said next is) =
    let bad : Some Blank ≡ Some (File n mode len seed) = sym b ∙ said in absurd (cc)
says_once k N one old line new also (blank b e) (item asked a sound some kind x names is) = absurd (some b)
says_once k N one old line new also (space none kind cores frames calls said enough is) (blank b e) =
    let bad : Some Blank ≡ Some (Space cores frames calls) = sym b ∙ said in absurd (cc)
says_once k N one old line new also (space none kind cores frames calls said enough is) (space none2 kind2 cores2 frames2 calls2 said2 enough2 is2) =
    space_gives old new line cores frames calls none said is ∙ sym (space_gives old also line cores2 frames2 calls2 none2 said2 is2)
says_once k N one old line new also (space none kind cores frames calls said enough is) (file asked a i kind2 n mode len seed said2 next is2) =
    let bad : None ≡ Some asked = sym none ∙ a in absurd (cc)
says_once k N one old line new also (space none kind cores frames calls said enough is) (item asked a sound some kind2 x names is2) =
    let bad : None ≡ Some asked = sym none ∙ a in absurd (cc)
says_once k N one old line new also (file asked a i kind n mode len seed said next is) (blank b e) =
    let bad : Some Blank ≡ Some (File n mode len seed) = sym b ∙ said in absurd (cc)
says_once k N one old line new also (file asked a i kind n mode len seed said next is) (space none kind2 cores frames calls said2 enough is2) =
    let bad : None ≡ Some asked = sym none ∙ a in absurd (cc)
says_once k N one old line new also (file asked a i kind n mode len seed said next is) (file asked2 a2 i2 kind2 n2 mode2 len2 seed2 said2 next2 is2) =
    file_gives old new line asked n mode len seed a said is ∙ sym (file_gives old also line asked2 n2 mode2 len2 seed2 a2 said2 is2)
says_once k N one old line new also (file asked a i kind n mode len seed said next is) (item asked2 a2 sound some kind2 x names is2) =
    let bad : OfFile ≡ OfEvents = sym kind ∙ kind2 in absurd (cc)
says_once k N one old line new also (item asked a sound some kind x names is) (blank b e) = absurd (some b)
says_once k N one old line new also (item asked a sound some kind x names is) (space none kind2 cores frames calls said enough is2) =
    let bad : None ≡ Some asked = sym none ∙ a in absurd (cc)
says_once k N one old line new also (item asked a sound some kind x names is) (file asked2 a2 i kind2 n mode len seed said next is2) =
    let bad : OfFile ≡ OfEvents = sym kind2 ∙ kind in absurd (cc)
says_once k N one old line new also (item asked a sound some kind x names is) (item asked2 a2 sound2 some2 kind2 y names2 is2) =
    let both : Some asked2 ≡ Some asked = sym a2 ∙ a in
    let same : asked2 ≡ asked = cc in
    let item_is : x ≡ y = one asked.cores x y line names (subst (λ (q : DeclarationView). N q.cores y (words_of line)) same names2) in
    is ∙ ap (with_item old) item_is ∙ sym is2

-- ---- all lines

all_once : {T : Type 0} (k : Bool) (N : ℕ → T → List Word → Type 0) → Single N → (lines : List (List ℕ)) (old new also : Collected T)
    → TakesAll k N old lines new → TakesAll k N old lines also → new ≡ also
all_once k N one [] old new also t u = t ∙ sym u
all_once k N one (line ∷ lines) old new also (mid, short, takes, t) (mid2, short2, takes2, u) =
    let same : mid ≡ mid2 = says_once k N one old line mid mid2 takes.says takes2.says in
    all_once k N one lines mid2 new also (subst (λ m. TakesAll k N m lines new) same t) u

-- where the first lines were taken, the others are
others_taken : {T : Type 0} (k : Bool) (N : ℕ → T → List Word → Type 0) → Single N → (done more : List (List ℕ)) (old mid new : Collected T)
    → TakesAll k N old (done ++ more) new → TakesAll k N old done mid → TakesAll k N mid more new
others_taken k N one [] more old mid new t d = subst (λ m. TakesAll k N m more new) (sym d) t
others_taken k N one (line ∷ lines) more old mid new (m, short, takes, t) (m2, short2, takes2, d) =
    let same : m ≡ m2 = says_once k N one old line m m2 takes.says takes2.says in
    others_taken k N one lines more m2 mid new (subst (λ x. TakesAll k N x (lines ++ more) new) same t) d

-- ---- texts

not_refused : {T : Type 0} (k : Bool) (N : ℕ → T → List Word → Type 0) → Single N → (text unread : List ℕ) (asked : DeclarationView) (items : List T)
    (f : TraceFault) → Collects k N text asked items → Stops k N text unread f → (f ≡ ReadFailed) ⊎ (f ≡ NoMemory)
not_refused {T} k N one text unread asked items f c s = go s
  where
    end : Collected T
    end = record { asked = Some asked; items = items }

    left : (p : Front k N text) → TakesAll k N p.collected p.more end
    left p = others_taken k N one p.done p.more nothing p.collected end (subst (λ ls. TakesAll k N nothing ls end) p.lines c.takes) p.takes

    made : (o : Option DeclarationView) → Some asked ≡ o → CannotMake o f → ⊥
    made None e h = absurd (cc)
    made (Some a) e (own, fault, is) =
        let same : asked ≡ a = cc in
        let bad : None ≡ Some own = sym c.sound ∙ ap asked_fault same ∙ fault in absurd (cc)

    go : Stops k N text unread f → (f ≡ ReadFailed) ⊎ (f ≡ NoMemory)
    go (reading e p r u) = inl e
    go (unmade e u) = inr e
    go (wanting e p line others m r w) = inr e
    go (overlong p line others m long e) =
        let (mid, short, takes, rest) = subst (λ ls. TakesAll k N p.collected ls end) m (left p) in
        absurd (omega (arith, long, short))
    go (refusing p line others m short r) =
        let (mid, within, takes, rest) = subst (λ ls. TakesAll k N p.collected ls end) m (left p) in
        absurd (r.cannot mid takes)
    go (unopened p m h) =
        let all : end ≡ p.collected = subst (λ ls. TakesAll k N p.collected ls end) m (left p) in
        absurd (made p.collected.asked (ap (λ (x : Collected T). x.asked) all) h)

note_once : Single (λ (cores : ℕ) (note : Noted) words. NamesNote note words)
note_once cores x y line a b = notes_one x y line a b

pub says_one : SaysOne
says_one text asked other notes others c d =
    let same : record { asked = Some asked; items = notes } ≡ record { asked = Some other; items = others } =
    all_once true (λ (cores : ℕ) (note : Noted) words. NamesNote note words) note_once (lines_of text) nothing _ _ c.takes d.takes in
    let declared : Some asked ≡ Some other = ap (λ (x : Collected Noted). x.asked) same in
    let first : asked ≡ other = cc in
    let second : notes ≡ others = ap (λ (x : Collected Noted). x.items) same in
    (first, second)

pub said_is_not_refused : SaidIsNotRefused
said_is_not_refused text unread asked notes f c s =
    not_refused true (λ (cores : ℕ) (note : Noted) words. NamesNote note words) note_once text unread asked notes f c s
