-- Lines that are passed, one after another
use Rattle.std.proofs.Common.{◌≡◌, ◌≢◌, ℕ, Bool, true, false, bytes_eq, List, [], ◌∷◌, ◌++◌, arith, length, refl, sym, ap, subst, ◌∙◌, append_assoc}
use Rattle.std.proofs.Common.{append-nil, codes, Some, slice_get}
use Rattle.std.specs.List.{flat_map}
use Rattle.std.proofs.lemmas.Grind.{flat_map-append}
use Rattle.std.proofs.lemmas.Slice.Eq.{bytes_eq-Decides}
use Rattle.trace_io.specs.Lines.{lines_of}
use Rattle.state_changes.specs.Marks.{Comes, Goes, IsOther, LineMark, LinesDiffer, PassesOn, SaysDifference, mark_text}

-- nothing was passed yet
pub passed_none : (out old new : List ℕ) → PassesOn out out old old new new
passed_none out old new = ([], sym (append-nil out), record { marks = []; says = refl; on = λ later h. h })

-- a line that stays before lines that differ so
stays : (line : List ℕ) (marks : List LineMark) (old new : List (List ℕ)) → LinesDiffer marks old new → LinesDiffer marks (line ∷ old) (line ∷ new)
stays line [] old new h = ap (λ ls. line ∷ ls) h
stays line (Goes l ∷ marks) old new (stay, rest, more, o, n, a, h) = (line ∷ stay, rest, more, ap (λ ls. line ∷ ls) o, ap (λ ls. line ∷ ls) n, a, h)
stays line (Comes l ∷ marks) old new (stay, rest, more, o, n, a, h) = (line ∷ stay, rest, more, ap (λ ls. line ∷ ls) o, ap (λ ls. line ∷ ls) n, a, h)

pub passed_same : (out old rest new more line other : List ℕ) → lines_of old ≡ line ∷ lines_of rest → lines_of new ≡ other ∷ lines_of more → line ≡ other
    → PassesOn out out old rest new more
passed_same out old rest new more line other o n same = (
  [],
  sym (append-nil out),
  record {
    marks = [];
    says = refl;
    on = λ later h. subst (λ x. LinesDiffer later x (lines_of new)) (sym o)
        (subst (LinesDiffer later (line ∷ lines_of rest)) (sym (n ∙ ap (λ l. l ∷ lines_of more) (sym same))) (stays line later _ _ h));
  },
)

-- a text in three pieces behind another
joined : (out sign line end : List ℕ) → ((out ++ sign) ++ line) ++ end ≡ out ++ ((sign ++ line) ++ end)
joined out sign line end = ap (λ t. t ++ end) (append_assoc out sign line) ∙ append_assoc out (sign ++ line) end

pub passed_gone : (before after old rest new line : List ℕ) → lines_of old ≡ line ∷ lines_of rest
    → after ≡ ((before ++ codes "- ") ++ line) ++ codes "\n" → IsOther old new → PassesOn before after old rest new new
passed_gone before after old rest new line o out apart = (
  mark_text (Goes line),
  out ∙ joined before (codes "- ") line (codes "\n"),
  record {
    marks = Goes line ∷ [];
    says = sym (append-nil (mark_text (Goes line)));
    on = λ later h. ([], lines_of rest, lines_of new, o, refl, apart line (lines_of rest) o, h);
  },
)

pub passed_come : (before after old new more line : List ℕ) → lines_of new ≡ line ∷ lines_of more
    → after ≡ ((before ++ codes "+ ") ++ line) ++ codes "\n" → IsOther new old → PassesOn before after old old new more
passed_come before after old new more line n out apart = (
  mark_text (Comes line),
  out ∙ joined before (codes "+ ") line (codes "\n"),
  record {
    marks = Comes line ∷ [];
    says = sym (append-nil (mark_text (Comes line)));
    on = λ later h. ([], lines_of old, lines_of more, refl, n, apart line (lines_of more) n, h);
  },
)

-- first lines that differ
pub other_lines : (one two line other : List ℕ) (rest more : List (List ℕ)) → lines_of one ≡ line ∷ rest → lines_of two ≡ other ∷ more → line ≢ other
    → IsOther one two
other_lines one two line other rest more o t differ first others is e =
    let same : line ∷ rest ≡ first ∷ others = sym o ∙ is in
    let got : Some other ≡ Some first = sym (ap (λ ls. slice_get ls 0) t) ∙ e in
    differ cc

-- no text is no line
pub other_than_none : (text : List ℕ) → IsOther text []
other_than_none text line more is e = absurd cc

-- none is left
empty : (xs : List ℕ) → length xs ≡ 0 → xs ≡ []
empty [] e = refl
empty (x ∷ xs) e = absurd (omega (arith, e))

pub passed_old : (a b old rest new more : List ℕ) → length rest ≡ 0 → PassesOn a b old rest new more → PassesOn a b old [] new more
passed_old a b old rest new more e p = subst (λ r. PassesOn a b old r new more) (empty rest e) p

pub passed_new : (a b old rest new more : List ℕ) → length more ≡ 0 → PassesOn a b old rest new more → PassesOn a b old rest new []
passed_new a b old rest new more e p = subst (λ r. PassesOn a b old rest new r) (empty more e) p

-- all were passed
pub all_said : (text old new : List ℕ) → (old ≢ new) → PassesOn [] text old [] new [] → SaysDifference text old new
all_said text old new apart (said, is, p) = record {
  marks = p.marks;
  differ = subst (λ ms. LinesDiffer ms (lines_of old) (lines_of new)) (append-nil p.marks) (p.on [] refl);
  says = is ∙ p.says;
  same = λ e. absurd (apart e);
}

-- two texts that are told apart
pub apart_of : (a b : List ℕ) → bytes_eq a b ≡ false → a ≢ b
apart_of a b differ e = go (bytes_eq a b) ((bytes_eq-Decides a b).1 e) differ
  where
    go : (x : Bool) → x ≡ true → x ≡ false → ⊥
    go x t f = absurd (cc)

-- nothing has to be said of one text
pub same_said : (old new : List ℕ) → old ≡ new → SaysDifference [] old new
same_said old new e = record { marks = []; differ = ap lines_of e; says = refl; same = λ x. refl }

-- one after the other
pub passed_then : (a b c old rest last new more end : List ℕ) → PassesOn a b old rest new more → PassesOn b c rest last more end
    → PassesOn a c old last new end
passed_then a b c old rest last new more end (one, x, p) (two, y, q) = (
  one ++ two,
  y ∙ ap (λ l. l ++ two) x ∙ append_assoc a one two,
  record {
    marks = p.marks ++ q.marks;
    says = ap (λ l. l ++ two) p.says ∙ ap (λ l. flat_map mark_text p.marks ++ l) q.says ∙ sym (flat_map-append mark_text p.marks q.marks);
    on = λ later h. subst (λ ms. LinesDiffer ms (lines_of old) (lines_of new)) (sym (append_assoc p.marks q.marks later)) (p.on (q.marks ++ later)
        (q.on later h));
  },
)
