-- Whole texts, a line at a time.
use Rattle.machine_model.proofs.Words.{◌≡◌, ◌≢◌, true, false, OnOk, ℕ, ◌+◌, ◌<◌, ◌≤◌, Bool, List, [], ◌∷◌, ◌++◌, Option, Some, None, Result, Ok, Err}
use Rattle.machine_model.proofs.Words.{length, take, ◌⊎◌, inl, inr, arith, refl, sym, ap, ◌∙◌, subst, append_assoc, append-nil, length-append, nat_tests}
use Rattle.machine_model.proofs.Words.{IsSomeAnd, Mode}
use Rattle.std.proofs.Common.{IfErr, IfOk}
use Rattle.std.specs.Prelude.{is_err, ◌==◌}
use Rattle.trace_io.specs.Lines.{lines_of, IsUnbroken, TakesLine}
use Rattle.trace_text.specs.Words.{Word}
use Rattle.trace_words.specs.declared.fault.TraceFault.{TraceFault}
use Rattle.trace_words.specs.declared.fault.TraceFault.TheVariants.{BadLine, TooLong, ReadFailed, NoVmLine, NoMemory, Setup, WriteFailed}
use Rattle.trace_words.specs.Declarations.{DeclarationView, asked_fault}
use Rattle.trace_io.specs.Taken.{AreRead}
use Rattle.trace_words.proofs.OwnFaults.{is_own}
use Rattle.trace_io.proofs.TakenLemmas.{lines-first, long_first, HasTaken, none_taken, line_taken, all_taken, taken_more, known_read}
use Rattle.trace_text.specs.Words.{words_of}
use Rattle.trace_text.specs.Line.{are_printable, line_of}
use Rattle.trace_text.specs.declared.line.Line.TheVariants.{Blank, Space, File}
use Rattle.trace_words.specs.Declarations.{is_next, with_file, asks_for}
use Rattle.trace_words.specs.Kinds.{FirstWord, OfSpace, OfFile, OfEvents, kind_of}
use Rattle.trace_words.specs.Collected.{Collected, nothing, Takes, TakesAll, Refuses, Wants, space, item, file, late, fault_of}
use Rattle.machine_model.specs.declared.setup.SetupFault.{SetupFault}
use Rattle.trace_words.specs.Turns.{Scene, Advances, IsOver, IsHeld, Fails, read_fails, too_long, no_memory, refused}
use Rattle.trace_words.specs.Ends.{Collects, Front, CannotMake, Stops, reading, unmade, wanting, overlong, refusing, unopened}

-- one line more
takes-snoc : {T : Type 0} (k : Bool) (N : ℕ → T → List Word → Type 0) (s m n : Collected T) (ls : List (List ℕ)) (l : List ℕ) → TakesAll k N s ls m
    → length l ≤ 256 → Takes k N m l n → TakesAll k N s (ls ++ l ∷ []) n
takes-snoc k N s m n [] l r p t = (n, p, subst (λ x. Takes k N x l n) r t, refl)
takes-snoc k N s m n (x ∷ xs) l r p t = (r.0, r.1, r.2, takes-snoc k N r.0 m n xs l r.3 p t)

-- the lines so far were taken
pub record HasCollected {T : Type 0} (k : Bool) (N : ℕ → T → List Word → Type 0) (input : List ℕ) (now : Scene T) (number : ℕ) : Type 0 where
  pub at : HasTaken input now.left number
  pub takes : TakesAll k N nothing at.done now.collected

-- nothing has been read yet
pub collected_none : {T : Type 0} (k : Bool) (N : ℕ → T → List Word → Type 0) (input : List ℕ) (now : Scene T) → now.left ≡ input
    → now.collected ≡ nothing → HasCollected k N input now 0
unfolding none_taken
collected_none k N input now e s = record { at = none_taken input now.left e; takes = s }

pub collected_more : {T : Type 0} (k : Bool) (N : ℕ → T → List Word → Type 0) (input : List ℕ) (now next : Scene T) (number : ℕ)
    → HasCollected k N input now number → Advances k N now next → HasCollected k N input next (number + 1)
unfolding line_taken
collected_more k N input now next number h a = record {
  at = line_taken input now.left a.line next.left number h.at a.next.unbroken a.next.first;
  takes = takes-snoc k N nothing now.collected next.collected h.at.done a.line h.takes a.next.short a.takes;
}

-- what was taken so far
front_of : {T : Type 0} (k : Bool) (N : ℕ → T → List Word → Type 0) (input : List ℕ) (now : Scene T) (number : ℕ) → HasCollected k N input now number
    → Front k N input
front_of k N input now number h =
    record { done = h.at.done; more = lines_of now.left; collected = now.collected; lines = h.at.lines; takes = h.takes }

pub collected_fails : {T : Type 0} (k : Bool) (N : ℕ → T → List Word → Type 0) (input : List ℕ) (now next : Scene T) (number : ℕ) (f : TraceFault)
    → HasCollected k N input now number → Fails k N now next number f → Stops k N input next.unread f
unfolding front_of
collected_fails k N input now next number f h (read_fails e held u l m) =
    let (r, same) = known_read input h.at.whole now.left held h.at.done next.left next.unread h.at.taken m l.0 l.1 in
    reading e (front_of k N input now number h) r (subst IsUnbroken (sym same) u)
collected_fails k N input now next number f h (too_long e b) =
    let l = long_first 256 now.left b.0 b.1 in
    overlong (front_of k N input now number h) l.line l.others l.lines l.long (e ∙ ap (λ n. TooLong (n + 1)) h.at.count)
collected_fails k N input now next number f h (no_memory e line held t l w) =
    let (whole, taken) = taken_more input h.at.whole now.left line next.left h.at.done h.at.taken t.unbroken t.first in
    let (r, same) = known_read input whole next.left held (h.at.done ++ line ∷ []) next.left next.unread taken refl l.0 l.1 in
    wanting e (front_of k N input now number h) line (lines_of next.left) (lines-first now.left line next.left t.unbroken t.first) r w
collected_fails k N input now next number f h (refused line t b) =
    refusing (front_of k N input now number h) line (lines_of next.left) (lines-first now.left line next.left t.unbroken t.first) t.short
    (subst (λ n. Refuses k N now.collected (n + 1) line f) h.at.count b)

rebuilt : {T : Type 0} (c : Collected T) (asked : DeclarationView) → c.asked ≡ Some asked → c ≡ record { asked = Some asked; items = c.items }
rebuilt c asked e = ap (λ o. record { asked = o; items = c.items }) e

-- the text has ended
pub collected_ends : {T : Type 0} (k : Bool) (N : ℕ → T → List Word → Type 0) (input : List ℕ) (now next : Scene T) (number : ℕ) (asked : DeclarationView)
    → HasCollected k N input now number → IsOver now next → next.collected.asked ≡ Some asked → asked_fault asked ≡ None
    → Collects k N input asked next.collected.items
collected_ends k N input now next number asked h v a sound =
    let all : TakesAll k N nothing (lines_of input) now.collected =
    subst (λ ls. TakesAll k N nothing ls now.collected) (sym (all_taken input now.left number h.at v.ended)) h.takes in
    record { takes = subst (TakesAll k N nothing (lines_of input)) (sym v.collected ∙ rebuilt next.collected asked a) all; sound = sound }

pub collected_stops : {T : Type 0} (k : Bool) (N : ℕ → T → List Word → Type 0) (input : List ℕ) (now next : Scene T) (number : ℕ) (f : TraceFault)
    → HasCollected k N input now number → IsOver now next → CannotMake next.collected.asked f → Stops k N input next.unread f
unfolding front_of
collected_stops k N input now next number f h v c =
    unopened (front_of k N input now number h) (ap lines_of v.ended) (subst (λ (x : Collected _). CannotMake x.asked f) v.collected c)

-- ---- a line

pub item_taken : {T : Type 0} (k : Bool) (N : ℕ → T → List Word → Type 0) (old new : Collected T) (line : List ℕ) (asked : DeclarationView) (x : T)
    → are_printable line ≡ true → line_of line ≢ Some Blank → kind_of (words_of line) ≡ OfEvents → old.asked ≡ Some asked
    → asked_fault asked ≡ None → N asked.cores x (words_of line) → new ≡ record old { items = old.items ++ x ∷ [] } → Takes k N old line new
item_taken k N old new line asked x p s kind a sound names n = record { printable = p; says = item asked a sound s kind x names n }

pub file_taken : {T : Type 0} (k : Bool) (N : ℕ → T → List Word → Type 0) (old new : Collected T) (line : List ℕ) (asked : DeclarationView) (n : ℕ) (mode : Mode)
    (len seed : ℕ) → are_printable line ≡ true → kind_of (words_of line) ≡ OfFile → old.asked ≡ Some asked → old.items ≡ []
    → line_of line ≡ Some (File n mode len seed) → is_next asked n ≡ true
    → new ≡ record old { asked = Some (with_file asked (record { mode = mode; len = len; seed = seed })) } → Takes k N old line new
file_taken k N old new line asked n mode len seed p kind a none said next is =
    record { printable = p; says = file asked a none kind n mode len seed said next is }

pub space_taken : {T : Type 0} (k : Bool) (N : ℕ → T → List Word → Type 0) (old new : Collected T) (line : List ℕ) (cores frames calls : ℕ)
    → are_printable line ≡ true → kind_of (words_of line) ≡ OfSpace → old.asked ≡ None → line_of line ≡ Some (Space cores frames calls)
    → (k ≡ true → length (words_of line) ≡ 4) → new ≡ record old { asked = Some (asks_for cores frames calls) } → Takes k N old line new
space_taken k N old new line cores frames calls p kind none said enough is =
    record { printable = p; says = space none kind cores frames calls said enough is }

-- memory for an item was wanting
pub item_wanted : {T : Type 0} (k : Bool) (N : ℕ → T → List Word → Type 0) (old : Collected T) (number : ℕ) (line : List ℕ) (asked : DeclarationView) (x : T)
    → are_printable line ≡ true → line_of line ≢ Some Blank → kind_of (words_of line) ≡ OfEvents → old.asked ≡ Some asked
    → asked_fault asked ≡ None → N asked.cores x (words_of line)
    → ((NoMemory ≡ NoMemory) × Wants k N old line) ⊎ Refuses k N old number line NoMemory
item_wanted k N old number line asked x p s kind a sound names =
    inl (refl, (record old { items = old.items ++ x ∷ [] }, item_taken k N old _ line asked x p s kind a sound names refl))

pub no_items : {T : Type 0} (xs ys : List T) (b : Bool) → b ≡ true → b ≡ (length ys == 0) → ys ≡ xs → xs ≡ []
no_items [] ys b e t s = refl
no_items {T} (x ∷ xs) ys b e t s =
    let some : (length (x ∷ xs) == 0) ≡ false = grind (arith, nat_tests) in
    let clash : true ≡ false = sym e ∙ t ∙ ap (λ (l : List T). length l == 0) s ∙ some in absurd (cc)

pub kept_ok : {U E : Type 0} (r : Result U E) (X : Type 0) → OnOk r X → is_err r ≡ false → X
kept_ok (Ok u) X h n = h
kept_ok (Err e) X h n = absurd (cc)

-- ---- a turn

pub line_refused : {T : Type 0} (k : Bool) (N : ℕ → T → List Word → Type 0) (old new : Scene T) (n : ℕ) (line held seen : List ℕ) (f : TraceFault)
    → TakesLine old.left line new.left → IsHeld held new → seen ≡ line
    → ((f ≡ NoMemory) × Wants k N old.collected seen) ⊎ Refuses k N old.collected (n + 1) seen f → Fails k N old new n f
line_refused k N old new n line held seen f next holds same (inl e) =
    no_memory e.0 line held next holds (subst (Wants k N old.collected) same e.1)
line_refused k N old new n line held seen f next holds same (inr h) =
    refused line next (subst (λ l. Refuses k N old.collected (n + 1) l f) same h)

pub line_advances : {T : Type 0} (k : Bool) (N : ℕ → T → List Word → Type 0) (old new : Scene T) (line seen : List ℕ)
    → TakesLine old.left line new.left → seen ≡ line → Takes k N old.collected seen new.collected → Advances k N old new
line_advances k N old new line seen next same takes = record {
  line = line;
  next = next;
  takes = subst (λ l. Takes k N old.collected l new.collected) same takes;
}

-- ---- whose fault a fault is

own_late : (o : Option SetupFault) (n : ℕ) → is_own (late o n) ≡ true
unfolding is_own
own_late None n = refl
own_late (Some s) n = refl

own_at : (b : Bool) (a : Option DeclarationView) (n : ℕ) (kind : FirstWord) → is_own (fault_of b a n kind) ≡ true
unfolding is_own
own_at false a n kind = refl
own_at true None n OfSpace = refl
own_at true None n OfFile = refl
own_at true None n OfEvents = refl
own_at true (Some a) n OfSpace = own_late (asked_fault a) n
own_at true (Some a) n OfFile = refl
own_at true (Some a) n OfEvents = own_late (asked_fault a) n

pub not_read : {T X : Type 0} (k : Bool) (N : ℕ → T → List Word → Type 0) (old : Collected T) (n : ℕ) (line : List ℕ) (f : TraceFault)
    → ((f ≡ NoMemory) × Wants k N old line) ⊎ Refuses k N old n line f → f ≡ ReadFailed → X
unfolding is_own
not_read k N old n line f (inl h) e = let clash : NoMemory ≡ ReadFailed = sym h.0 ∙ e in absurd (cc)
not_read k N old n line f (inr h) e =
    let clash : true ≡ false = sym (own_at (are_printable line) old.asked n (kind_of (words_of line))) ∙ ap is_own (sym h.fault ∙ e) in absurd (cc)

pub end_not_read : {X : Type 0} (a : Option DeclarationView) (r : Result Unit TraceFault) → IfErr r (CannotMake a) → r ≡ Err ReadFailed → X
end_not_read a (Ok u) h e = absurd (cc)
end_not_read None (Err f) h e =
    let same : f ≡ ReadFailed = cc in let clash : NoVmLine ≡ ReadFailed = sym h ∙ same in absurd (cc)
end_not_read (Some a) (Err f) h e =
    let same : f ≡ ReadFailed = cc in let clash : Setup h.0 ≡ ReadFailed = sym h.2 ∙ same in absurd (cc)

-- ---- results

pub on_ok_then : {U E : Type 0} (r : Result U E) (X Y : Type 0) → OnOk r X → (X → Y) → IfOk r (λ d. Y)
on_ok_then (Ok u) X Y h f = f h
on_ok_then (Err e) X Y h f = tt

pub some_asked : (o : Option DeclarationView) → IsSomeAnd o (λ asked. asked_fault asked ≡ None) → (asked : DeclarationView) × (o ≡ Some asked) × (asked_fault asked ≡ None)
some_asked None h = absurd h
some_asked (Some a) h = (a, refl, h)

-- no text is at fault for a write
pub stops_own : {T X : Type 0} (k : Bool) (N : ℕ → T → List Word → Type 0) (input unread : List ℕ) (f : TraceFault) → Stops k N input unread f
    → f ≡ WriteFailed → X
unfolding is_own
stops_own k N input unread f (reading e p r u) w = let clash : ReadFailed ≡ WriteFailed = sym e ∙ w in absurd (cc)
stops_own k N input unread f (unmade e u) w = let clash : NoMemory ≡ WriteFailed = sym e ∙ w in absurd (cc)
stops_own k N input unread f (wanting e p line others m r n) w = let clash : NoMemory ≡ WriteFailed = sym e ∙ w in absurd (cc)
stops_own k N input unread f (overlong p line others m l e) w = let clash : TooLong (length p.done + 1) ≡ WriteFailed = sym e ∙ w in absurd (cc)
stops_own k N input unread f (refusing p line others m l r) w =
    let clash : true ≡ false = sym (own_at (are_printable line) p.collected.asked (length p.done + 1) (kind_of (words_of line)))
    ∙ ap is_own (sym r.fault ∙ w) in absurd (cc)
stops_own k N input unread f (unopened p m c) w = go p.collected.asked c
  where
    go : {X : Type 0} (a : Option DeclarationView) → CannotMake a f → X
    go None h = let clash : NoVmLine ≡ WriteFailed = sym h ∙ w in absurd (cc)
    go (Some a) h = let clash : Setup h.0 ≡ WriteFailed = sym h.2 ∙ w in absurd (cc)
