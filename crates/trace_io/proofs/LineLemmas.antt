-- On lines and the search for a newline, and on what is taken from a source.
use Rattle.std.proofs.Common.{◌≡◌, ℕ, ◌+◌, ◌-◌, ◌<◌, ◌≤◌, List, [], ◌∷◌, ◌++◌, length, take, drop, arith, sym, ap, subst, ◌∙◌, eq-eqb}
use Rattle.std.proofs.Common.{length-take, length-drop, length-append, append_assoc, append-nil, Option, None, Some, Result, Ok, Err, OnErr, inl, inr}
use Rattle.std.proofs.lemmas.List.{get_or-take, take-append-le}
use Rattle.std.proofs.KnownBytes.{Consumes-nil, Consumes-trans}
use Rattle.std.proofs.Math.Seq.{take-add}
use Rattle.std.specs.Io.KnownBytes.{Keeps, Consumes}
use Rattle.memchr.specs.Find.{Nowhere, Passes, is_byte}
use Rattle.trace_io.specs.Founds.{Finds, TakesLast}
use Rattle.trace_io.specs.Lines.{IsTooLong, IsUnbroken}
use Rattle.trace_io.specs.Source.{Stream, Gives, Reads}
use Rattle.trace_io.specs.Window.{Window, TakesHeld, left}
use Rattle.trace_io.specs.declared.lines.NextLine.{NextLine}
use Rattle.trace_io.specs.declared.lines.NextLine.TheVariants.{Line, TooLong, End}

-- no newline before place m, which is past the limit
pub not_early : (bs : List ℕ) (m : ℕ) → 256 < length bs → 257 ≤ m → Nowhere (Passes (is_byte 10) bs) 0 m → IsTooLong bs
not_early bs m long far none = (
  long,
  λ k lt e.
      let low : k < 257 = omega (arith, length-take 257 bs) in
      none k (omega arith) (omega arith) (eq-eqb _ _ (sym (get_or-take 257 bs k 0 low) ∙ e)),
)

-- how long a part is
pub length-part : (xs : List ℕ) (a b : ℕ) → a ≤ b → b ≤ length xs → length (take (b - a) (drop a xs)) ≡ b - a
length-part xs a b p q = omega (arith, length-take (b - a) (drop a xs), length-drop a xs)

pub at_front : (xs : List ℕ) (n : ℕ) → take (n - 0) (drop 0 xs) ≡ take n xs
at_front xs n = grind arith

pub IsTooLong-append : (xs ys : List ℕ) → IsTooLong xs → IsTooLong (xs ++ ys)
IsTooLong-append xs ys h =
    let size = length-append xs ys in
    let low : 257 ≤ length xs = h.0 in
    (omega (arith, h.0), rw (take-append-le 257 xs ys low) h.1)

-- the bytes from e on that were read go behind those held
held_grown : (xs ys : List ℕ) (s e n : ℕ) → s ≡ 0 → take e ys ≡ take e xs
    → take (e + n - s) (drop s ys) ≡ take (e - s) (drop s xs) ++ take n (drop e ys)
held_grown xs ys s e n none same =
    let all : take (e + n) ys ≡ take e xs ++ take n (drop e ys) = take-add e n ys ∙ ap (λ l. l ++ take n (drop e ys)) same in
    rw none (at_front ys (e + n) ∙ all ∙ ap (λ l. l ++ take n (drop e ys)) (sym (at_front xs e)))

-- a read behind what is held takes nothing from what is to come
pub filled : (xs ys held later : List ℕ) (s e n : ℕ) → s ≡ 0 → take e ys ≡ take e xs → take (e - s) (drop s xs) ≡ held
    → take (e + n - s) (drop s ys) ++ later ≡ held ++ (take n (drop e ys) ++ later)
filled xs ys held later s e n none same before =
    ap (λ l. l ++ later) (held_grown xs ys s e n none same ∙ ap (λ l. l ++ take n (drop e ys)) before)
    ∙ append_assoc held (take n (drop e ys)) later

-- ---- what a reader of lines takes from a source

-- nothing was read
pub reads_none : (s : Stream) (P : List ℕ → List ℕ → Type 0) → ((xs : List ℕ) → P xs xs) → Reads s s P
reads_none s P h = record {
  bytes = [];
  gives = record { given = sym (append-nil s.given); coming = Consumes-nil s.coming };
  holds = λ later k. h later;
}

pub reads_map : (old new : Stream) (P Q : List ℕ → List ℕ → Type 0) → Reads old new P
    → ((xs ys : List ℕ) → Keeps new.coming (Some ys) → P xs ys → Q xs ys) → Reads old new Q
reads_map old new P Q r f = record { bytes = r.bytes; gives = r.gives; holds = λ later k. f (r.bytes ++ later) later k (r.holds later k) }

may_come : (a b : Option (List ℕ)) (bs later : List ℕ) → Consumes a b bs → Keeps b (Some later) → Keeps a (Some (bs ++ later))
may_come None b bs later c k = tt
may_come (Some x) None bs later c k = absurd c
may_come (Some x) (Some y) bs later c k = ap (λ l. bs ++ l) k ∙ sym c

-- one after the other
pub reads_then : (a b c : Stream) (P Q R : List ℕ → List ℕ → Type 0) → Reads a b P → Reads b c Q
    → ((xs ys zs : List ℕ) → Keeps c.coming (Some zs) → P xs ys → Q ys zs → R xs zs) → Reads a c R
reads_then a b c P Q R p q f = record {
  bytes = p.bytes ++ q.bytes;
  gives = record {
    given = q.gives.given ∙ ap (λ l. l ++ q.bytes) p.gives.given ∙ append_assoc a.given p.bytes q.bytes;
    coming = Consumes-trans a.coming b.coming c.coming p.bytes q.bytes p.gives.coming q.gives.coming;
  };
  holds = λ later k.
      subst (λ l. R l later) (sym (append_assoc p.bytes q.bytes later))
      (f (p.bytes ++ (q.bytes ++ later)) (q.bytes ++ later) later k
      (p.holds (q.bytes ++ later) (may_come b.coming c.coming q.bytes later q.gives.coming k)) (q.holds later k));
}

pub on_err : {T E : Type 0} (r : Result T E) (X : Type 0) → X → OnErr r X
on_err (Ok x) X h = tt
on_err (Err e) X h = h

-- after the end nothing comes
pub nothing_comes : (c : Option (List ℕ)) (ys : List ℕ) → c ≡ Some [] → Keeps c (Some ys) → ys ≡ []
nothing_comes None ys e k = absurd (cc)
nothing_comes (Some x) ys e k = let none : x ≡ [] = cc in k ∙ none

-- a line among what is held
pub found_line : (ys before : List ℕ) (mid new : Window) → left ys mid ≡ before → TakesHeld mid new → Finds before (left ys new) new Line
found_line ys before mid new kept h = record {
  short = h.short;
  unbroken = h.unbroken;
  first = inl (sym kept ∙ ap (λ l. l ++ ys) h.held ∙ append_assoc new.line (10 ∷ new.held) ys);
}

-- a line that is too long among what is held
pub found_long : (ys before : List ℕ) (mid new : Window) → left ys mid ≡ before → (new ≡ mid) × IsTooLong mid.held
    → Finds before (left ys new) new TooLong
found_long ys before mid new kept h = (
  subst IsTooLong kept (IsTooLong-append mid.held ys h.1),
  ap (λ (w : Window). left ys w) h.0 ∙ kept,
)

-- all that is held is the last line, where nothing comes any more
pub found_last : (ys before : List ℕ) (mid new : Window) (f : NextLine) → left ys mid ≡ before → ys ≡ [] → length mid.held ≤ 256
    → IsUnbroken mid.held → TakesLast mid new f → Finds before (left ys new) new f
found_last ys before mid new Line kept none short unbroken h = record {
  short = subst (λ (l : List ℕ). length l ≤ 256) (sym h.0) short;
  unbroken = subst IsUnbroken (sym h.0) unbroken;
  first = inr (
    sym kept ∙ ap (λ l. mid.held ++ l) none ∙ append-nil mid.held ∙ sym h.0,
    ap (λ l. new.held ++ l) none ∙ append-nil new.held ∙ h.1,
    subst (λ (l : List ℕ). 0 < length l) (sym h.0) h.2,
  );
}
found_last ys before mid new TooLong kept none short unbroken h = absurd h
found_last ys before mid new End kept none short unbroken h = (
  sym kept ∙ ap (λ l. mid.held ++ l) none ∙ append-nil mid.held ∙ h.1,
  ap (λ (w : Window). left ys w) h.0 ∙ kept,
)
