-- A walk over the lines of a trace up to the first behind which the state's text has these words
use Rattle.std.proofs.Common.{◌≡◌, ℕ, zero, suc, ◌+◌, ◌<◌, ◌≤◌, ◌⊎◌, ◌↔◌, inl, inr, List, [], ◌∷◌, ◌++◌, Option, None, Some, arith, length, refl, sym, ap, subst, ◌∙◌, take, drop, Bool, true, false}
use Rattle.std.proofs.lemmas.Bool.{false≢true}
use Rattle.std.specs.Option.{is_some}
use Rattle.memchr.specs.Find.{FindsNeedle, OccursAt}
use Rattle.state_changes.specs.declared.seeking.Sought.{Sought}
use Rattle.state_changes.specs.Pages.{all_changed, text_behind}
use Rattle.state_changes.specs.Recorded.{MomentOf}
use Rattle.state_changes.specs.Seeking.{HasWords, Seeks}
use Rattle.state_changes.specs.Spans.{span_of}

-- so many lines were passed, whose texts have no such words, and what is left of lines and steps
pub record Seek (words : List ℕ) (lines : List (List ℕ)) (moments : List MomentOf) (first : List ℕ) (n : ℕ) (rest : List (List ℕ)) (left : List MomentOf)
    (text : List ℕ) : Type 0 where
  pub ahead : (k : ℕ) → text_behind (n + k) lines moments first ≡ text_behind k rest left text
  pub before : (m : ℕ) → m < n → ¬ HasWords words (text_behind m lines moments first)
  pub count : n + length rest ≡ length lines

pub seek_begins : (words : List ℕ) (lines : List (List ℕ)) (moments left : List MomentOf) (first text : List ℕ) → left ≡ moments → text ≡ first
    → Seek words lines moments first 0 lines left text
seek_begins words lines moments left first text all is = record {
  ahead = λ k. let same : 0 + k ≡ k = omega arith in ap (λ j. text_behind j lines moments first) same
      ∙ sym (ap (λ t. text_behind k lines left t) is ∙ ap (λ ms. text_behind k lines ms first) all);
  before = λ m h. absurd (omega (arith, h));
  count = omega arith;
}

here : (words : List ℕ) (lines : List (List ℕ)) (moments : List MomentOf) (first : List ℕ) (n : ℕ) (rest : List (List ℕ)) (left : List MomentOf)
    (text : List ℕ) → Seek words lines moments first n rest left text → text_behind n lines moments first ≡ text
here words lines moments first n rest left text s =
    let same : n ≡ n + 0 = omega arith in ap (λ k. text_behind k lines moments first) same ∙ s.ahead 0

split : (n k : ℕ) → n < suc k → (n < k) ⊎ (n ≡ k)
split n k h = grind (arith, h)

lacking : (words : List ℕ) (lines : List (List ℕ)) (moments : List MomentOf) (first : List ℕ) (n : ℕ) (rest : List (List ℕ)) (left : List MomentOf)
    (text : List ℕ) → Seek words lines moments first n rest left text → ¬ HasWords words text
    → (m : ℕ) → m < suc n → ¬ HasWords words (text_behind m lines moments first)
lacking words lines moments first n rest left text s lacks m h = go (split m n h)
  where
    go : (m < n) ⊎ (m ≡ n) → ¬ HasWords words (text_behind m lines moments first)
    go (inl less) = s.before m less
    go (inr is) = λ has. lacks (subst (HasWords words) (ap (λ k. text_behind k lines moments first) is ∙ here words lines moments first n rest left text s) has)

-- a line more
pub seek_on : (words : List ℕ) (lines : List (List ℕ)) (moments : List MomentOf) (first : List ℕ) (n next : ℕ) (rest more : List (List ℕ)) (line : List ℕ)
    (left own others : List MomentOf) (text after : List ℕ) → Seek words lines moments first n rest left text → ¬ HasWords words text → next ≡ n + 1
    → rest ≡ line ∷ more → own ≡ take (span_of line left) left → others ≡ drop (span_of line left) left → after ≡ all_changed text own
    → Seek words lines moments first next more others after
seek_on words lines moments first n next rest more line left own others text after s lacks next_is is own_is others_is after_is = record {
  ahead = λ k.
      let same : next + k ≡ n + suc k = omega (arith, next_is) in ap (λ j. text_behind j lines moments first) same
      ∙ s.ahead (suc k)
      ∙ ap (λ ls. text_behind (suc k) ls left text) is
      ∙ ap (λ ms. text_behind k more ms (all_changed text (take (span_of line left) left))) (sym others_is)
      ∙ ap (λ ms. text_behind k more others (all_changed text ms)) (sym own_is)
      ∙ ap (text_behind k more others) (sym after_is);
  before = λ m h. lacking words lines moments first n rest left text s lacks m (omega (arith, h, next_is));
  count = omega (arith, next_is, s.count, ap length is);
}

pub seek_ends : (words : List ℕ) (lines : List (List ℕ)) (moments : List MomentOf) (first : List ℕ) (rest : List (List ℕ)) (left : List MomentOf)
    (s : Sought) → Seek words lines moments first s.lines rest left s.text.items → (s.has ≡ true → HasWords words s.text.items)
    → (s.has ≡ false → (rest ≡ []) × ¬ HasWords words s.text.items) → Seeks words (length lines) (λ n. text_behind n lines moments first) s
seek_ends words lines moments first rest left s seek has none =
    let now : s.text.items ≡ text_behind s.lines lines moments first = sym (here words lines moments first s.lines rest left s.text.items seek) in
    record {
      is = now;
      before = seek.before;
      has = λ h. subst (HasWords words) now (has h);
      none = λ h. (omega (arith, seek.count, ap length (none h).0), λ there. (none h).1 (subst (HasWords words) (sym now) there));
    }

-- ---- words in a text

has_some : (text words : List ℕ) (at : ℕ) → FindsNeedle text words 0 (Some at) → HasWords words text
has_some text words at (before, occurs) = (at, occurs)

has_none : (text words : List ℕ) → FindsNeedle text words 0 None → ¬ HasWords words text
has_none text words nowhere (at, occurs) = nowhere at (omega arith) (omega (arith, occurs.fits)) occurs

pub found_words : (text words : List ℕ) (r : Option ℕ) (b : Bool) → FindsNeedle text words 0 r → b ≡ is_some r → (b ≡ true → HasWords words text)
    × (HasWords words text → b ≡ true)
found_words text words None b h is = (λ t. absurd (false≢true (sym is ∙ t)), λ has. absurd (has_none text words h has))
found_words text words (Some at) b h is = (λ t. has_some text words at h, λ has. is)
