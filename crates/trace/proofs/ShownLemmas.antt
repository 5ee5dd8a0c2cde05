-- What a replay writes: the text of outcomes, and the log piece by piece.
use Rattle.machine_model.proofs.Words.{◌≡◌, ℕ, ◌+◌, ◌<◌, ◌≤◌, List, [], ◌∷◌, ◌++◌, Option, length, take, drop, get_or, arith, refl, sym, ap, ◌∙◌, subst}
use Rattle.machine_model.proofs.Words.{append_assoc, common_steps, flat_map-append, Appends-nil, Appends-trans, flat_map, Appends, Entry}
use Rattle.std.proofs.lemmas.List.{take-append-drop}
use Rattle.trace_io.specs.Sink.{AppendsFront}
use Rattle.trace_io.proofs.IoLemmas.{each_more, front_longer, front_more}
use Rattle.trace_words.specs.declared.show.Show.{Show}
use Rattle.trace_words.specs.declared.show.Show.TheVariants.{Outcomes, OutcomesAndLog, Maps}
use Rattle.trace.specs.Stage.{Stage}
use Rattle.trace.specs.Shown.{told, IsBehind, IsBegunBehind}
use Rattle.trace_text.specs.Lists.{entry_text, log_text}

-- ---- the text of outcomes

pub told_none : (show : Show) → told show [] ≡ []
told_none Outcomes = refl
told_none OutcomesAndLog = refl
told_none Maps = refl

pub told_more : (show : Show) (xs ys : List ℕ) → told show (xs ++ ys) ≡ told show xs ++ told show ys
told_more Outcomes xs ys = refl
told_more OutcomesAndLog xs ys = refl
told_more Maps xs ys = refl

-- ---- the log

-- some lines were handed on, and the others wait
abbrev pub IsHanded : Option (List ℕ) → Option (List ℕ) → List ℕ → List ℕ → Type 0
IsHanded a b waiting text = (done : List ℕ) × Appends a b done × (done ++ waiting ≡ text)

-- there is no line yet
pub handed_none : (a : Option (List ℕ)) (waiting : List ℕ) → waiting ≡ [] → IsHanded a a waiting (log_text [])
unfolding log_text
handed_none a waiting none = ([], Appends-nil a, none)

-- room was made, and the line of one entry more waits
pub handed_more : (a b c : Option (List ℕ)) (log : List Entry) (n : ℕ) (x : Entry) (was rest now : List ℕ) → n < length log → x ≡ get_or log n x
    → IsHanded a b was (log_text (take n log)) → (text : List ℕ) × Appends b c text × (was ≡ text ++ rest) → now ≡ rest ++ entry_text x
    → IsHanded a c now (log_text (take (n + 1) log))
unfolding log_text
handed_more a b c log n x was rest now h is p q e = (
  p.0 ++ q.0,
  Appends-trans a b c p.0 q.0 p.1 q.1,
  ap (λ t. (p.0 ++ q.0) ++ t) e ∙ append_assoc p.0 q.0 (rest ++ entry_text x)
      ∙ ap (λ t. p.0 ++ t) (sym (append_assoc q.0 rest (entry_text x)) ∙ ap (λ t. t ++ entry_text x) (sym q.2))
      ∙ sym (append_assoc p.0 was (entry_text x)) ∙ ap (λ t. t ++ entry_text x) p.2 ∙ sym (each_more entry_text log n x h is),
)

-- a front of the waiting ones was handed on
pub handed_front : (a b c : Option (List ℕ)) (log : List Entry) (n : ℕ) (waiting : List ℕ) → IsHanded a b waiting (log_text (take n log))
    → AppendsFront b c waiting → AppendsFront a c (log_text log)
unfolding log_text
handed_front a b c log n waiting p q =
    let front : AppendsFront a c (log_text (take n log)) = subst (AppendsFront a c) p.2 (front_more a b c p.0 waiting p.1 q) in
    let whole = sym (flat_map-append entry_text (take n log) (drop n log)) ∙ ap log_text (take-append-drop n log) in
    subst (AppendsFront a c) whole (front_longer a c _ (flat_map entry_text (drop n log)) front)

-- all of them were handed on
pub handed_all : (a b c : Option (List ℕ)) (log : List Entry) (n : ℕ) (waiting : List ℕ) → length log ≤ n
    → IsHanded a b waiting (log_text (take n log)) → Appends b c waiting → Appends a c (log_text log)
handed_all a b c log n waiting h p q =
    subst (Appends a c) (p.2 ∙ ap log_text (whole log n h)) (Appends-trans a b c p.0 waiting p.1 q)
  where
    whole : (log : List Entry) (n : ℕ) → length log ≤ n → take n log ≡ log
    whole log n h = grind (arith, common_steps)

-- ---- what comes behind the outcomes

-- all of it is what it begins with
pub begun_behind : (show : Show) (s : Stage) (text : List ℕ) → IsBehind show s text → IsBegunBehind show s text
begun_behind Outcomes s text is = is
begun_behind OutcomesAndLog s text is = is
begun_behind Maps s text is = (_, is.0, is.1, is.2)
