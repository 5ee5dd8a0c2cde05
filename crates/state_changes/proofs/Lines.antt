-- The state behind each line
use Rattle.machine_model.proofs.Words.{append-nil, ◌≡◌, ℕ, zero, suc, ◌+◌, true, List, [], ◌∷◌, ◌++◌, refl, sym, ap, subst, ◌∙◌, Option}
use Rattle.machine_model.proofs.Words.{None, World, Run}
use Rattle.machine_model.specs.declared.event.Event.{Event}
use Rattle.machine_model.specs.declared.event.Event.TheVariants.{Go}
use Rattle.machine_model.specs.declared.event.Outcome.{Outcome}
use Rattle.machine_model.specs.declared.event.Outcome.TheVariants.{Stepped, Wait, Idle, Answered, Full}
use Rattle.std.proofs.Common.{length, length-append, take, drop, append_assoc, IsSomeAnd, Some, arith}
use Rattle.std.specs.Prelude.{replicate}
use Rattle.std.proofs.lemmas.List.{append_cancel_left}
use Rattle.std.proofs.Math.Seq.{take-append_seam, drop-append_seam}
use Rattle.radix_range.specs.Tree.{new_tree}
use Rattle.radix_range.proofs.New.{new_tree_new}
use Rattle.machine_model.proofs.SoundKept.{reached_opening}
use Rattle.slot_lock.specs.MapWalks.{info_meta}
use Rattle.core_steps.specs.declared.machine.Finished.{Finished}
use Rattle.core_steps.specs.declared.machine.Finished.TheVariants.{Last, Stuck}
use Rattle.trace_io.specs.Lines.{lines_of}
use Rattle.trace_text.specs.Line.{line_of}
use Rattle.trace_text.specs.declared.line.Line.{Line}
use Rattle.trace_text.specs.declared.line.Line.TheVariants.{Blank, Space, File, Act, Fold, Finish, Now}
use Rattle.trace_words.specs.declared.show.Show.{Show}
use Rattle.trace_words.specs.Declarations.{DeclarationView, made_by}
use Rattle.trace.specs.EventRuns.{Asks, AllAsk, AsksCall, AsksFinish}
use Rattle.trace.specs.Seen.{IsSeen, SeesAll}
use Rattle.trace.specs.Stage.{CanOpen, Declared, Running, Stage, Start, new_machine}
use Rattle.watched.specs.Watching.{GoesUntil, Watches}
use Rattle.state_seen.specs.Shown.{Follows}
use Rattle.state_text.specs.declared.form.Form.TheVariants.{Text}
use Rattle.state_text.specs.Counts.{counts_text}
use Rattle.state_text.proofs.New.{none_at_first}
use Rattle.state_text.specs.Texts.{seen_text, state_text}
use Rattle.slot_lock.specs.declared.map_list.MapLine.{MapLine}
use Rattle.slot_lock.specs.MapList.{plain_metas}
use Rattle.vm_base.specs.Plain.{Plain}
use Rattle.core_steps.specs.MapLines.{ListsMaps}
use Rattle.trace_text.specs.Listing.{maps_text}
use Rattle.state_text.specs.Laws.{Knows}
use Rattle.state_text.proofs.Watched.{opening, run_of, text_shown, watched}
use Rattle.state_changes.specs.Recorded.{IsFresh, MomentOf, Recorded, Records}
use Rattle.state_changes.specs.Pages.{ShowsStates, all_changed, text_behind}
use Rattle.state_changes.specs.Spans.{span_of}
use Rattle.state_changes.proofs.Made.{Shows, counted, since, whole_back}

-- who records follows as well
seen_too : (one : Recorded) (w : World) (es : List Event) (os : List Outcome) (v : World) (other : Recorded) → Watches Records one w es os v other
    → Watches Follows one.seen w es os v other.seen
seen_too one w [] [] v other r = (r.0, ap (λ (x : Recorded). x.seen) r.1)
seen_too one w (e ∷ es) (o ∷ os) v other r = (r.0, r.1.seen, r.2, r.3.follows, seen_too r.1 r.0 es os v other r.4)
seen_too one w [] (o ∷ os) v other r = absurd r
seen_too one w (e ∷ es) [] v other r = absurd r

-- ---- some first steps

pub record TwoHalves (one : Recorded) (w : World) (es later : List Event) (os outcomes : List Outcome) (v : World) (other : Recorded) : Type 0 where
  pub mid : Recorded
  pub at : World
  pub front : Watches Records one w es os at mid
  pub back : Watches Records mid at later outcomes v other

halves : (one : Recorded) (w : World) (es later : List Event) (os outcomes : List Outcome) (v : World) (other : Recorded) → length es ≡ length os
    → Watches Records one w (es ++ later) (os ++ outcomes) v other → TwoHalves one w es later os outcomes v other
halves one w [] later [] outcomes v other e r = record { mid = one; at = w; front = (refl, refl); back = r }
halves one w [] later (o ∷ os) outcomes v other e r = absurd (omega (arith, e))
halves one w (x ∷ es) later [] outcomes v other e r = absurd (omega (arith, e))
halves one w (x ∷ es) later (o ∷ os) outcomes v other e r =
    let rest = halves r.1 r.0 es later os outcomes v other (omega (arith, e)) r.4 in
    record { mid = rest.mid; at = rest.at; front = (r.0, r.1, r.2, r.3, rest.front); back = rest.back }

run_halves : (w m v : World) (es later : List Event) (os outcomes : List Outcome) → Run w es os m → Run m later outcomes v
    → Run w (es ++ later) (os ++ outcomes) v
run_halves w m v [] later [] outcomes r s = subst (λ x. Run x later outcomes v) r s
run_halves w m v [] later (o ∷ os) outcomes r s = absurd r
run_halves w m v (e ∷ es) later [] outcomes r s = absurd r
run_halves w m v (e ∷ es) later (o ∷ os) outcomes r s = (r.0, r.1, run_halves r.0 m v es later os outcomes r.2 s)

-- ---- the first lines

pub record FirstLines (n : ℕ) (lines : List (List ℕ)) (w : World) (ms : List MomentOf) (text : List ℕ) : Type 0 where
  pub events : List Event
  pub outcomes : List Outcome
  pub printed : List ℕ
  pub to : World
  pub asks : AllAsk (take n lines) events outcomes printed
  pub run : Run w events outcomes to
  pub maps : List MapLine
  pub lists : ListsMaps to maps
  pub shows : text_behind n lines ms text ≡ state_text Text (maps_text maps) to ++ counts_text Text to

abbrev Knowing : Recorded → World → Type 0
Knowing one w = Shows one w × Knows one.seen w

at_once : (one : Recorded) (w : World) → one.seen.whole ≡ true → (k : Knowing one w) → one.text ≡ state_text Text (maps_text k.0.maps) w ++ counts_text Text w
at_once one w whole k = k.0.is ∙ ap (λ l. l ++ counts_text Text w) (text_shown Text (maps_text k.0.maps) one.seen w (k.1 whole))

same_front : (n : ℕ) (e : Event) (o : Outcome) → length (replicate n e) ≡ length (replicate n o)
same_front zero e o = refl
same_front (suc n) e o = ap suc (same_front n e o)

finish_lengths : (core : ℕ) (es : List Event) (os : List Outcome) (text : List ℕ) → AsksFinish core es os text → length es ≡ length os
finish_lengths core es os text a = go a.0 a.1 a.2
  where
    go : (n : ℕ) (f : Finished) → GoesUntil core n f es os → length es ≡ length os
    go n (Last o) g = ap length g.2 ∙ length-append (replicate n (Go core)) (Go core ∷ []) ∙ ap (λ k. k + 1) (same_front n (Go core) Stepped)
        ∙ sym (length-append (replicate n Stepped) (o ∷ [])) ∙ sym (ap length g.3)
    go n Stuck g = ap length g.1 ∙ same_front n (Go core) Stepped ∙ sym (ap length g.2)

lengths : (said : Option Line) (es : List Event) (os : List Outcome) (text : List ℕ) → IsSomeAnd said (λ l. Asks l es os text) → length es ≡ length os
lengths None es os text a = absurd a
lengths (Some Blank) es os text a = ap length a.0 ∙ sym (ap length a.1)
lengths (Some (Space cores frames calls)) es os text a = ap length a.0 ∙ sym (ap length a.1)
lengths (Some (File n mode len seed)) es os text a = ap length a.0 ∙ sym (ap length a.1)
lengths (Some (Act core action)) es os text a = ap length a.1 ∙ sym (ap length a.2)
lengths (Some (Fold page)) es os text a = ap length a.1 ∙ sym (ap length a.2)
lengths (Some (Finish core)) es os text a = finish_lengths core es os text a
lengths (Some (Now core request)) es os text a = go a.0 a.1
  where
    go : (o : Outcome) → AsksCall core request o es os text → length es ≡ length os
    go Stepped c = ap length c.3 ∙ ap suc (finish_lengths core c.0 c.1 text c.2) ∙ sym (ap length c.4)
    go (Wait b) c = ap length c.0 ∙ sym (ap length c.1)
    go Idle c = ap length c.0 ∙ sym (ap length c.1)
    go (Answered r) c = ap length c.0 ∙ sym (ap length c.1)
    go Full c = ap length c.0 ∙ sym (ap length c.1)

-- ---- by induction over the lines

front : (n : ℕ) (lines : List (List ℕ)) (one : Recorded) (w : World) (es : List Event) (os : List Outcome) (text : List ℕ) (v : World) (r : Recorded)
    (ms : List MomentOf) → AllAsk lines es os text → Watches Records one w es os v r → r.whole ≡ true → r.seen.whole ≡ true → Knowing one w
    → r.moments ≡ one.moments ++ ms → FirstLines n lines w ms one.text
front zero lines one w es os text v r ms a x whole seen k m = record {
  events = [];
  outcomes = [];
  printed = [];
  to = w;
  asks = (refl, refl, refl);
  run = refl;
  maps = k.0.maps;
  lists = k.0.lists;
  shows = at_once one w ((since one w es os v r x whole k.0).seen seen) k;
}
front (suc n) [] one w es os text v r ms a x whole seen k m = record {
  events = [];
  outcomes = [];
  printed = [];
  to = w;
  asks = (refl, refl, refl);
  run = refl;
  maps = k.0.maps;
  lists = k.0.lists;
  shows = at_once one w ((since one w es os v r x whole k.0).seen seen) k;
}
front (suc n) (l ∷ ls) one w es os text v r ms a x whole seen k m =
    let cut = halves one w a.first a.later a.outcome a.outcomes v r (lengths (line_of l) a.first a.outcome a.front a.asks)
    (subst (λ y. Watches Records one w y (a.outcome ++ a.outcomes) v r) a.events (subst (λ y. Watches Records one w es y v r) a.came x)) in
    let there = whole_back cut.mid cut.at a.later a.outcomes v r cut.back whole in
    let done = since one w a.first a.outcome cut.at cut.mid cut.front there k.0 in
    let left = since cut.mid cut.at a.later a.outcomes v r cut.back whole done.shows in
    let known = watched one.seen w a.first a.outcome cut.at cut.mid.seen (seen_too one w a.first a.outcome cut.at cut.mid cut.front) k.1 in
    let rest = front n ls cut.mid cut.at a.later a.outcomes a.rest v r left.moments a.others cut.back whole seen (done.shows, known) left.more in
    let own : ms ≡ done.moments ++ left.moments =
    append_cancel_left one.moments ms (done.moments ++ left.moments)
    (sym m ∙ left.more ∙ ap (λ y. y ++ left.moments) done.more ∙ append_assoc one.moments done.moments left.moments) in
    let span : span_of l ms ≡ length done.moments =
    ap (span_of l) own ∙ counted (line_of l) a.first a.outcome a.front done.moments left.moments a.asks done.marks in
    let taken : take (span_of l ms) ms ≡ done.moments =
    ap (λ y. take y ms) span ∙ ap (take (length done.moments)) own ∙ take-append_seam done.moments left.moments in
    let dropped : drop (span_of l ms) ms ≡ left.moments =
    ap (λ y. drop y ms) span ∙ ap (drop (length done.moments)) own ∙ drop-append_seam done.moments left.moments in
    record {
      events = a.first ++ rest.events;
      outcomes = a.outcome ++ rest.outcomes;
      printed = a.front ++ rest.printed;
      to = rest.to;
      asks = record {
        first = a.first;
        later = rest.events;
        outcome = a.outcome;
        outcomes = rest.outcomes;
        front = a.front;
        rest = rest.printed;
        asks = a.asks;
        others = rest.asks;
        events = refl;
        came = refl;
        prints = refl;
      };
      run = run_halves w cut.at rest.to a.first rest.events a.outcome rest.outcomes
          (run_of one.seen w a.first a.outcome cut.at cut.mid.seen (seen_too one w a.first a.outcome cut.at cut.mid cut.front)) rest.run;
      maps = rest.maps;
      lists = rest.lists;
      shows = ap (λ y. text_behind n ls y (all_changed one.text (take (span_of l ms) ms))) dropped
          ∙ ap (λ y. text_behind n ls left.moments (all_changed one.text y)) taken
          ∙ ap (text_behind n ls left.moments) done.changes
          ∙ rest.shows;
    }

-- ---- a whole trace

-- a new machine has no mappings
none_mapped : (a : DeclarationView) → ListsMaps (new_machine a) []
none_mapped a t leads p low high = ap (λ (x : Plain). plain_metas x p) leads

begins_so : (one : Recorded) (a : DeclarationView) → IsFresh one → Shows one (new_machine a)
unfolding maps_text
begins_so one a fresh = record {
  maps = [];
  slots = λ p low high. ap info_meta (new_tree_new.unmapped p);
  lists = none_mapped a;
  kept = fresh.maps;
  reached = λ few. reached_opening (made_by a) new_tree few new_tree_new;
  is = fresh.text ∙ sym (append-nil (seen_text Text [] one.seen))
      ∙ ap (λ l. seen_text Text [] one.seen ++ l) (sym (none_at_first Text (made_by a) new_tree));
}

still : (one r : Recorded) (w : World) (es : List Event) (os : List Outcome) → es ≡ [] → os ≡ [] → r ≡ one → Watches Records one w es os w r
still one r w es os e o is = subst (λ x. Watches Records one w x os w r) (sym e) (subst (λ x. Watches Records one w [] x w r) (sym o) (refl, is))

pub states_shown : (one r : Recorded) (show : Show) (input : List ℕ) (old new : Option (List ℕ)) → IsFresh one → IsSeen Records one r show input old new
    → r.whole ≡ true → r.seen.whole ≡ true → ShowsStates (lines_of input) r
states_shown one r show input old new fresh s whole seen = go s.0 s.1.opens s.1.holds
  where
    from : (asked : DeclarationView) (es : List Event) (os : List Outcome) (v : World) → AllAsk (lines_of input) es os s.1.text
        → Watches Records one (new_machine asked) es os v r → ShowsStates (lines_of input) r
    from asked es os v asks x n =
        let begun = since one (new_machine asked) es os v r x whole (begins_so one asked fresh) in
        let f = front n (lines_of input) one (new_machine asked) es os s.1.text v r r.moments asks x whole seen
        (begins_so one asked fresh, opening one.seen (made_by asked) new_tree new_tree_new fresh.seen) (ap (λ y. y ++ r.moments) (sym fresh.moments)) in (
          record { world = f.to; maps = f.maps },
          record {
            comes = record { asked = asked; events = f.events; outcomes = f.outcomes; text = f.printed; asks = f.asks; run = f.run };
            stage = Running f.to;
            is = refl;
            maps = f.lists;
          },
          ap (text_behind n (lines_of input) r.moments) (begun.first ∙ fresh.first ∙ sym fresh.text) ∙ f.shows,
        )

    go : (stage : Stage) → CanOpen stage → SeesAll Records one stage (lines_of input) s.1.text r → ShowsStates (lines_of input) r
    go (Start limit) can h = absurd can
    go (Declared limit a) can (es, os, asks, l) =
        from a es os (new_machine a) asks (still one r (new_machine a) es os l.0 l.1 l.2)
    go (Running w) can (es, os, asks, l) = from l.0 es os w asks l.1
