-- Who watched a trace's steps from the first on knows the state to which it leads.
use Rattle.machine_model.proofs.Words.{◌≡◌, ℕ, true, List, [], ◌++◌, Option, Some, refl, sym, ap, subst, ◌∙◌, World, Run}
use Rattle.machine_model.specs.declared.event.Event.{Event}
use Rattle.machine_model.specs.declared.event.Outcome.{Outcome}
use Rattle.radix_range.specs.Tree.{new_tree}
use Rattle.trace_io.specs.Lines.{lines_of}
use Rattle.trace_words.specs.declared.show.Show.TheVariants.{Maps}
use Rattle.trace_text.specs.Listing.{maps_text}
use Rattle.trace.specs.Shown.{IsBehind}
use Rattle.radix_range.proofs.New.{new_tree_new}
use Rattle.trace_words.specs.Declarations.{DeclarationView, made_by}
use Rattle.trace.specs.Seen.{HasMachine, IsSeenWith, SeesAll}
use Rattle.trace.specs.Stage.{CanOpen, Declared, Running, Stage, Start, new_machine}
use Rattle.state_text.specs.declared.form.Form.{Form}
use Rattle.state_text.specs.Counts.{counts_at, counts_text}
use Rattle.state_text.proofs.New.{none_at_first}
use Rattle.state_seen.specs.Shown.{Follows, IsNothing, Seen}
use Rattle.state_text.specs.Texts.{seen_text, state_text}
use Rattle.state_text.specs.Traces.{Told, told_text}
use Rattle.state_changes.specs.Leads.{IsTold}
use Rattle.state_text.specs.Laws.{Knows}
use Rattle.state_text.proofs.Watched.{opening, run_of, text_shown, watched}

no_steps : (w : World) (es : List Event) (os : List Outcome) → es ≡ [] → os ≡ [] → Run w es os w
no_steps w es os e o = subst (λ x. Run w x os w) (sym e) (subst (λ x. Run w [] x w) (sym o) refl)

-- a state that the lines lead to, and its mappings, of which the text in this form is that of what was seen and of the counts
abbrev Tells : Form → List (List ℕ) → List ℕ → Option World → Seen → Type 0
Tells form lines list machine r = (t : Told) × IsTold lines t × (seen_text form list r ++ counts_at form machine ≡ told_text form t)

pub seen_state : (form : Form) (one r : Seen) (machine : Option World) (input list : List ℕ) → IsNothing one
    → IsSeenWith Follows one r machine Maps input (Some []) (Some list)
    → r.whole ≡ true → Tells form (lines_of input) list machine r
seen_state form one r machine input list n s whole = go s.0 s.1 s.2.opens s.2.holds s.2.is
  where
    start : (a : DeclarationView) → Knows one (new_machine a)
    start a = opening one (made_by a) new_tree new_tree_new n

    both : (maps : List ℕ) (w : World) → seen_text form list r ≡ state_text form maps w → counts_at form machine ≡ counts_text form w
        → seen_text form list r ++ counts_at form machine ≡ state_text form maps w ++ counts_text form w
    both maps w e f = ap (λ l. l ++ counts_at form machine) e ∙ ap (λ l. state_text form maps w ++ l) f

    go : (stage : Stage) → HasMachine stage machine → CanOpen stage → SeesAll Follows one stage (lines_of input) s.2.text r
        → IsBehind Maps stage s.2.behind → Tells form (lines_of input) list machine r
    go (Start limit) has can h behind = absurd can
    go (Declared limit a) has can (es, os, asks, l) (maps, lists, text) =
        let fresh : Knows r (new_machine a) = subst (λ x. Knows x (new_machine a)) (sym l.2) (start a) in (
          record { world = new_machine a; maps = maps },
          record {
            comes = record { asked = a; events = es; outcomes = os; text = s.2.text; asks = asks; run = no_steps (new_machine a) es os l.0 l.1 };
            stage = Declared limit a;
            is = (can, refl);
            maps = lists;
          },
          both (maps_text maps) (new_machine a)
              (ap (λ t. seen_text form t r) (s.2.appends ∙ text) ∙ text_shown form (maps_text maps) r (new_machine a) (fresh whole))
              (ap (counts_at form) has ∙ sym (none_at_first form (made_by a) new_tree)),
        )
    go (Running w) has can (es, os, asks, l) (maps, lists, text) = (
      record { world = w; maps = maps },
      record {
        comes = record {
          asked = l.0;
          events = es;
          outcomes = os;
          text = s.2.text;
          asks = asks;
          run = run_of one (new_machine l.0) es os w r l.1;
        };
        stage = Running w;
        is = refl;
        maps = lists;
      },
      both (maps_text maps) w
          (ap (λ t. seen_text form t r) (s.2.appends ∙ text) ∙ text_shown form (maps_text maps) r w (watched one (new_machine l.0) es os w r l.1
          (start l.0) whole))
          (ap (counts_at form) has),
    )
