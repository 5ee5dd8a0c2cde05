-- The changes of lines, one after another
use Rattle.std.proofs.Common.{◌≡◌, ℕ, zero, suc, ◌+◌, ◌<◌, List, [], ◌∷◌, ◌++◌, ◌⊎◌, inl, inr, arith, length, length-append, refl, sym, ap, subst}
use Rattle.std.proofs.Common.{◌∙◌, take, drop, drop-cons, get_or, Vec}
use Rattle.std.specs.declared.alloc.Global.{Global}
use Rattle.state_changes.specs.Applied.{Differs, applied}
use Rattle.trace_io.specs.Lines.{lines_of}
use Rattle.state_text.specs.declared.form.Form.TheVariants.{Text}
use Rattle.state_text.specs.Traces.{told_text}
use Rattle.state_changes.specs.Pages.{ShowsStates, all_changed, text_behind}
use Rattle.state_changes.specs.Recorded.{MomentOf, Recorded}
use Rattle.state_changes.specs.Spans.{span_of}
use Rattle.state_changes.specs.Behind.{SaysChanges, SaysSteps}
use Rattle.trace.specs.Numbered.{text_at, texts_of}
use Rattle.state_changes.specs.Marks.{SaysDifference}

-- a text for each line so far, and what is left of lines and steps
pub record Walk (lines : List (List ℕ)) (r : Recorded) (texts : List (List ℕ)) (rest : List (List ℕ)) (left : List MomentOf) (text : List ℕ) : Type 0 where
  pub ahead : (n : ℕ) → text_behind (length texts + n) lines r.moments r.first ≡ text_behind n rest left text
  pub says : (n : ℕ) → n < length texts
      → SaysDifference (text_at n texts) (text_behind n lines r.moments r.first) (text_behind (suc n) lines r.moments r.first)
  pub count : length texts + length rest ≡ length lines

begins : (lines : List (List ℕ)) (r : Recorded) → Walk lines r [] lines r.moments r.first
begins lines r = record {
  ahead = λ n. let same : length {A = List ℕ} [] + n ≡ n = omega arith in ap (λ k. text_behind k lines r.moments r.first) same;
  says = λ n h. absurd (omega (arith, h));
  count = omega arith;
}

pub walk_begins : (lines : List (List ℕ)) (r : Recorded) (texts : List (List ℕ)) (left : List MomentOf) (text : List ℕ) → texts ≡ [] → left ≡ r.moments
    → text ≡ r.first → Walk lines r texts lines left text
walk_begins lines r texts left text none all first = subst (λ x. Walk lines r x lines left text) (sym none)
    (subst (λ x. Walk lines r [] lines x text) (sym all) (subst (λ x. Walk lines r [] lines r.moments x) (sym first) (begins lines r)))

-- ---- a text more

at_old : (n : ℕ) (texts : List (List ℕ)) (said : List ℕ) → n < length texts → text_at n (texts ++ said ∷ []) ≡ text_at n texts
at_old n [] said h = absurd (omega (arith, h))
at_old zero (t ∷ ts) said h = refl
at_old (suc n) (t ∷ ts) said h = at_old n ts said (omega (arith, h))

at_new : (texts : List (List ℕ)) (said : List ℕ) → text_at (length texts) (texts ++ said ∷ []) ≡ said
at_new [] said = refl
at_new (t ∷ ts) said = at_new ts said

split : (n k : ℕ) → n < suc k → (n < k) ⊎ (n ≡ k)
split n k h = grind (arith, h)

walk_on : (lines : List (List ℕ)) (r : Recorded) (texts rest more : List (List ℕ)) (line : List ℕ) (left own others : List MomentOf)
    (text after said : List ℕ) → Walk lines r texts rest left text → rest ≡ line ∷ more → own ≡ take (span_of line left) left
    → others ≡ drop (span_of line left) left → after ≡ all_changed text own → SaysDifference said text after
    → Walk lines r (texts ++ said ∷ []) more others after
walk_on lines r texts rest more line left own others text after said w is own_is others_is after_is differs =
    let size : length (texts ++ said ∷ []) ≡ suc (length texts) = omega (arith, length-append texts (said ∷ [])) in
    let all = λ (k : ℕ). text_behind k lines r.moments r.first in
    let next : (n : ℕ) → all (length texts + suc n) ≡ text_behind n more others after = λ n. w.ahead (suc n)
    ∙ ap (λ ls. text_behind (suc n) ls left text) is
    ∙ ap (λ ms. text_behind n more ms (all_changed text (take (span_of line left) left))) (sym others_is)
    ∙ ap (λ ms. text_behind n more others (all_changed text ms)) (sym own_is)
    ∙ ap (text_behind n more others) (sym after_is) in
    let here : all (length texts) ≡ text =
    let same : length texts ≡ length texts + 0 = omega arith in ap all same ∙ w.ahead 0 in
    let there : all (suc (length texts)) ≡ after =
    let same : suc (length texts) ≡ length texts + suc 0 = omega arith in ap all same ∙ next 0 in
    record {
      ahead = λ n. let same : length (texts ++ said ∷ []) + n ≡ length texts + suc n = omega (arith, size) in ap all same ∙ next n;
      says = λ n h. go n (split n (length texts) (omega (arith, h, size))) here there;
      count = omega (arith, size, w.count, ap length is);
    }
  where
    go : (n : ℕ) → (n < length texts) ⊎ (n ≡ length texts) → text_behind (length texts) lines r.moments r.first ≡ text
        → text_behind (suc (length texts)) lines r.moments r.first ≡ after
        → SaysDifference (text_at n (texts ++ said ∷ [])) (text_behind n lines r.moments r.first) (text_behind (suc n) lines r.moments r.first)
    go n (inl h) here there = subst (λ t. SaysDifference t (text_behind n lines r.moments r.first) (text_behind (suc n) lines r.moments r.first))
        (sym (at_old n texts said h)) (w.says n h)
    go n (inr e) here there = subst (λ k. SaysDifference (text_at k (texts ++ said ∷ [])) (text_behind k lines r.moments r.first)
        (text_behind (suc k) lines r.moments r.first)) (sym e)
        (subst (λ t. SaysDifference t (text_behind (length texts) lines r.moments r.first) (text_behind (suc (length texts)) lines r.moments r.first))
        (sym (at_new texts said))
        (subst (λ t. SaysDifference said t (text_behind (suc (length texts)) lines r.moments r.first)) (sym here)
        (subst (λ t. SaysDifference said text t) (sym there) differs)))

pub walk_ends : (lines : List (List ℕ)) (r : Recorded) (texts rest : List (List ℕ)) (left : List MomentOf) (text : List ℕ) → Walk lines r texts rest left text
    → rest ≡ [] → SaysSteps lines r texts
walk_ends lines r texts rest left text w is =
    let all : length texts ≡ length lines = omega (arith, w.count, ap length is) in
    record { all = all; says = λ n h. w.says n (omega (arith, h, all)) }

pub walk_more : (lines : List (List ℕ)) (r : Recorded) (texts all rest more : List (List ℕ)) (line : List ℕ) (left own others : List MomentOf)
    (text after said : List ℕ) → all ≡ texts ++ said ∷ [] → Walk lines r texts rest left text → rest ≡ line ∷ more → own ≡ take (span_of line left) left
    → others ≡ drop (span_of line left) left → after ≡ all_changed text own → SaysDifference said text after → Walk lines r all more others after
walk_more lines r texts all rest more line left own others text after said grown w is own_is others_is after_is differs =
    subst (λ ts. Walk lines r ts more others after) (sym grown)
    (walk_on lines r texts rest more line left own others text after said w is own_is others_is after_is differs)

-- ---- states

pub changes_said : (lines : List (List ℕ)) (r : Recorded) (texts : List (List ℕ)) → ShowsStates lines r → SaysSteps lines r texts → SaysChanges lines texts
changes_said lines r texts s h = record {
  behind = λ n. (s n).0;
  told = λ n. (s n).1;
  all = h.all;
  says = λ n k. subst (λ t. SaysDifference (text_at n texts) t (told_text Text (s (suc n)).0)) (s n).2
      (subst (λ t. SaysDifference (text_at n texts) (text_behind n lines r.moments r.first) t) (s (suc n)).2 (h.says n k));
}

-- ---- in memory

pub texts_more : (texts : List (Vec ℕ Global)) (text : Vec ℕ Global) → texts_of (texts ++ text ∷ []) ≡ texts_of texts ++ text.items ∷ []
texts_more [] text = refl
texts_more (t ∷ ts) text = ap (λ (ls : List (List ℕ)). t.items ∷ ls) (texts_more ts text)

pub none_left : (text : List ℕ) → length text ≡ 0 → lines_of text ≡ []
none_left [] e = refl
none_left (x ∷ xs) e = absurd (omega (arith, e))

-- a step more
pub change_more : (at : ℕ) (ms : List MomentOf) (m : MomentOf) (d : Differs) (before given after result : List ℕ) → at < length ms → m ≡ get_or ms at m
    → d ≡ m.change → given ≡ before → after ≡ applied d.parts d.added given → all_changed before (drop at ms) ≡ result
    → all_changed after (drop (at + 1) ms) ≡ result
change_more at ms m d before given after result h is change_is given_is after_is e =
    let next : suc at ≡ at + 1 = omega arith in
    let front : drop at ms ≡ m ∷ drop (at + 1) ms = drop-cons ms at m h ∙ ap (λ x. x ∷ drop (suc at) ms) (sym is) ∙ ap (λ k. m ∷ drop k ms) next in
    let step : after ≡ applied m.change.parts m.change.added before = after_is ∙ ap (applied d.parts d.added) given_is
    ∙ ap (λ (x : Differs). applied x.parts x.added before) change_is in
    ap (λ t. all_changed t (drop (at + 1) ms)) step ∙ sym (ap (all_changed before) front) ∙ e
