-- Lines that are heard as they are read.
use Rattle.std.proofs.Common.{◌≡◌, ℕ, ◌<◌, true, false, Bool, List, [], ◌∷◌, ◌++◌, length, take, drop, arith, refl, sym, ap, ◌∙◌, subst, append-nil}
use Rattle.std.proofs.Common.{append_assoc, inl, inr}
use Rattle.std.specs.Prelude.{if◌then◌else◌, ◌==◌}
use Rattle.std.proofs.lemmas.List.{take-append-drop}
use Rattle.trace_io.proofs.LineLemmas.{nothing_comes, reads_map, reads_then}
use Rattle.trace_io.specs.Lines.{lines_of, onto}
use Rattle.trace_io.specs.Source.{Gives, HasEnded, Reads, Stream}
use Rattle.import_lines.specs.Reading.{HearsInput, HearsLines, HearsMore, IsBreak}

-- nothing was heard yet
pub none_heard : {A : Type 0} (has : A → List (List ℕ) → Type 0) (x : A) (all : List (List ℕ)) → HearsLines has x x all all
none_heard has x all = record { lines = []; heard = λ before h. subst (has x) (sym (append-nil before)) h; same = refl }

-- one more line was heard
pub heard_more : {A : Type 0} (has : A → List (List ℕ) → Type 0) (old mid new : A) (all rest later : List (List ℕ)) (line : List ℕ)
    → HearsLines has old mid all rest → rest ≡ line ∷ later → ((lines : List (List ℕ)) → has mid lines → has new (lines ++ line ∷ []))
    → HearsLines has old new all later
heard_more has old mid new all rest later line h e f = record {
  lines = h.lines ++ line ∷ [];
  heard = λ before p. subst (has new) (append_assoc before h.lines (line ∷ [])) (f (before ++ h.lines) (h.heard before p));
  same = h.same ∙ ap (λ l. h.lines ++ l) e ∙ sym (append_assoc h.lines (line ∷ []) later);
}

-- all were heard
pub heard_all : {A : Type 0} (has : A → List (List ℕ) → Type 0) (old new : A) (all rest : List (List ℕ)) → HearsLines has old new all rest → rest ≡ []
    → (lines : List (List ℕ)) → has old lines → has new (lines ++ all)
heard_all has old new all rest h e lines p =
    subst (λ l. has new (lines ++ l)) (sym (h.same ∙ ap (λ r. h.lines ++ r) e ∙ append-nil h.lines)) (h.heard lines p)

-- ---- a text in two parts

onto_front : (x : ℕ) (ls more : List (List ℕ)) → 0 < length ls → onto x (ls ++ more) ≡ onto x ls ++ more
onto_front x [] more p = absurd (omega arith)
onto_front x (l ∷ ls) more p = refl

some_line : (front : List ℕ) → 0 < length (lines_of (front ++ 10 ∷ []))
some_line [] = omega arith
some_line (x ∷ xs) = by (x == 10)
  where
    onto_some : (ls : List (List ℕ)) → 0 < length (onto x ls)
    onto_some [] = omega arith
    onto_some (l ∷ ls) = omega arith

    by : (b : Bool) → 0 < length (if b then [] ∷ lines_of (xs ++ 10 ∷ []) else onto x (lines_of (xs ++ 10 ∷ [])))
    by true = omega arith
    by false = onto_some (lines_of (xs ++ 10 ∷ []))

lines_split : (front more : List ℕ) → lines_of ((front ++ 10 ∷ []) ++ more) ≡ lines_of (front ++ 10 ∷ []) ++ lines_of more
lines_split [] more = refl
lines_split (x ∷ xs) more = by (lines_split xs more) (x == 10)
  where
    by : lines_of ((xs ++ 10 ∷ []) ++ more) ≡ lines_of (xs ++ 10 ∷ []) ++ lines_of more → (b : Bool) → (if b then [] ∷ lines_of ((xs ++ 10 ∷ []) ++ more) else onto x (lines_of ((xs ++ 10 ∷ []) ++ more)))
        ≡ (if b then [] ∷ lines_of (xs ++ 10 ∷ []) else onto x (lines_of (xs ++ 10 ∷ []))) ++ lines_of more
    by more_same true = ap (λ l. [] ∷ l) more_same
    by more_same false = ap (onto x) more_same ∙ onto_front x (lines_of (xs ++ 10 ∷ [])) (lines_of more) (some_line xs)

-- no line ends in what comes
pub more_held : {A : Type 0} (has : A → List (List ℕ) → Type 0) (x : A) (text held : List ℕ) → held ≡ text → HearsMore has x x text held
more_held has x text held e = record {
  lines = [];
  heard = λ before h. subst (has x) (sym (append-nil before)) h;
  same = λ later. ap (λ l. lines_of (l ++ later)) (sym e);
}

-- the lines that end in it were heard
pub more_heard : {A : Type 0} (has : A → List (List ℕ) → Type 0) (old new : A) (held bytes whole rest : List ℕ) (end : ℕ)
    → IsBreak bytes end → (end ≡ 0 → ⊥) → whole ≡ held ++ take end bytes → rest ≡ drop end bytes
    → ((lines : List (List ℕ)) → has old lines → has new (lines ++ lines_of whole)) → HearsMore has old new (held ++ bytes) rest
more_heard has old new held bytes whole rest end is some e r f = record {
  lines = lines_of whole;
  heard = f;
  same = λ later.
      let parts : (held ++ bytes) ++ later ≡ whole ++ (rest ++ later) =
      ap (λ b. (held ++ b) ++ later) (sym (take-append-drop end bytes))
      ∙ append_assoc held (take end bytes ++ drop end bytes) later
      ∙ ap (λ l. held ++ l) (append_assoc (take end bytes) (drop end bytes) later)
      ∙ sym (append_assoc held (take end bytes) (drop end bytes ++ later))
      ∙ ap (λ w. w ++ (drop end bytes ++ later)) (sym e)
      ∙ ap (λ d. whole ++ (d ++ later)) (sym r) in
      ap lines_of parts ∙ ended is (rest ++ later);
}
  where
    ended : IsBreak bytes end → (more : List ℕ) → lines_of (whole ++ more) ≡ lines_of whole ++ lines_of more
    ended (inl none) more = absurd (some none)
    ended (inr b) more =
        let shape : whole ≡ (held ++ b.1) ++ 10 ∷ [] = e ∙ ap (λ l. held ++ l) b.2 ∙ sym (append_assoc held b.1 (10 ∷ [])) in
        ap (λ w. lines_of (w ++ more)) shape ∙ lines_split (held ++ b.1) more ∙ ap (λ w. lines_of w ++ lines_of more) (sym shape)

-- ---- what is read

pub none_read : {A : Type 0} (has : A → List (List ℕ) → Type 0) (x : A) (s : Stream) (held : List ℕ) → held ≡ [] → Reads s s (λ xs ys. xs ≡ ys)
    → HearsInput has x x s s held
none_read has x s held e r = record {
  lines = [];
  heard = λ before h. subst (has x) (sym (append-nil before)) h;
  read = reads_map s s _ _ r (λ xs ys k q. ap lines_of q ∙ ap (λ l. lines_of (l ++ ys)) (sym e));
}

-- some bytes were read
given : (a b : Stream) (bs : List ℕ) → Gives a b bs → Reads a b (λ xs ys. xs ≡ bs ++ ys)
given a b bs g = record { bytes = bs; gives = g; holds = λ later k. refl }

-- what was read is heard
pub read_more : {A : Type 0} (has : A → List (List ℕ) → Type 0) (first old new : A) (a b c : Stream) (held bytes rest : List ℕ)
    → HearsInput has first old a b held → Gives b c bytes → HearsMore has old new (held ++ bytes) rest → HearsInput has first new a c rest
read_more has first old new a b c held bytes rest h g m = record {
  lines = h.lines ++ m.lines;
  heard = λ before p. subst (has new) (append_assoc before h.lines m.lines) (m.heard (before ++ h.lines) (h.heard before p));
  read = reads_then a b c _ _ _ h.read (given b c bytes g) (λ xs ys zs k p q.
      p ∙ ap (λ l. h.lines ++ lines_of (held ++ l)) q
      ∙ ap (λ l. h.lines ++ lines_of l) (sym (append_assoc held bytes zs))
      ∙ ap (λ l. h.lines ++ l) (m.same zs)
      ∙ sym (append_assoc h.lines m.lines (lines_of (rest ++ zs))));
}

-- the input has ended, and what is held was heard
pub read_all : {A : Type 0} (has : A → List (List ℕ) → Type 0) (first old new : A) (a b c : Stream) (held bytes : List ℕ)
    → HearsInput has first old a b held → Gives b c bytes → bytes ≡ [] → HasEnded c
    → ((lines : List (List ℕ)) → has old lines → has new (lines ++ lines_of held))
    → Reads a c (λ input unread. (lines : List (List ℕ)) → has first lines → has new (lines ++ lines_of input))
read_all has first old new a b c held bytes h g none ended f =
    reads_then a b c _ _ _ h.read (given b c bytes g) (λ xs ys zs k p q lines l.
    let nothing : zs ≡ [] = nothing_comes c.coming zs ended k in
    let last : ys ≡ [] = q ∙ ap (λ n. n ++ zs) none ∙ nothing in
    let all : lines_of xs ≡ h.lines ++ lines_of held = p ∙ ap (λ n. h.lines ++ lines_of (held ++ n)) last ∙ ap (λ n. h.lines ++ lines_of n) (append-nil held) in
    subst (λ n. has new (lines ++ n)) (sym all)
    (subst (has new) (append_assoc lines h.lines (lines_of held)) (f (lines ++ h.lines) (h.heard lines l))))

pub read_some : {A : Type 0} (has : A → List (List ℕ) → Type 0) (first old : A) (a b c : Stream) (held bytes : List ℕ)
    → HearsInput has first old a b held → Gives b c bytes → Reads a c (λ input unread. input ≡ input)
read_some has first old a b c held bytes h g = reads_then a b c _ _ _ h.read (given b c bytes g) (λ xs ys zs k p q. refl)
