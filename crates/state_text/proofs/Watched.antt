-- Who watches each step from the first on knows the state.
use Rattle.machine_model.proofs.Words.{◌≡◌, ◌≢◌, arith, core_of, nat_tests, Some, ℕ, ◌<◌, ◌==◌, Bool, true, false, cond, refl, sym, ap, subst, ◌∙◌}
use Rattle.machine_model.proofs.Words.{List, [], ◌∷◌, ◌++◌, nat_lt}
use Rattle.machine_model.proofs.Words.{put, eq_true, has, None, Option, Translation, Message, asked, members}
use Rattle.machine_model.proofs.Words.{World, Made, Slots, new_world, Step, Run}
use Rattle.machine_model.specs.declared.event.Event.{Event}
use Rattle.machine_model.specs.declared.event.Outcome.{Outcome}
use Rattle.machine_model.specs.declared.event.Outcome.TheVariants.{Stepped, Full, Idle, Wait, Answered}
use Rattle.machine_model.specs.declared.phase.Phase.{Phase}
use Rattle.machine_model.specs.declared.phase.Phase.TheVariants.{Free}
use Rattle.std.specs.List.{flat_map}
use Rattle.mmu.specs.declared.message.Took.{Took}
use Rattle.mmu.specs.declared.message.Took.TheVariants as took
use Rattle.watched.specs.Watching.{Watches}
use Rattle.state_seen.specs.declared.deed.HardwareStep.{HardwareStep}
use Rattle.state_seen.specs.declared.deed.HardwareStep.TheVariants.{Nothing, Translate, Shoot, Take, Walk, Evict}
use Rattle.vm_base.specs.Functions.{across, over}
use Rattle.state_seen.specs.Deeds.{deed_of}
use Rattle.state_seen.specs.declared.edit.TableStep.{TableStep}
use Rattle.state_seen.specs.declared.edit.TableStep.TheVariants as to
use Rattle.state_seen.specs.Edits.{after_edit, edit_of, edited, table_at, taken_from}
use Rattle.state_seen.specs.Held.{Holds, done, held, own_part, told}
use Rattle.state_text.specs.Laws.{Knows}
use Rattle.state_seen.specs.Shown.{Follows, IsNothing, IsShown, Seen, after_step, holds_of, inboxes, is_core, phase_at, phase_in}
use Rattle.core_steps.specs.Changing.{may_change}
use Rattle.core_steps.proofs.Keeping.{keeps}
use Rattle.machine_model.specs.Holding.{some_has}
use Rattle.state_seen.specs.Lists.{at_page}
use Rattle.state_seen.specs.PageTexts.{pages_text, texts_below}
use Rattle.state_seen.proofs.PageTexts.{pages_same, texts_same}
use Rattle.state_seen.specs.declared.used.Used.{Used}
use Rattle.state_text.specs.declared.form.Form.{Form}
use Rattle.state_text.specs.PageTexts.{mappings_text, used_line}
use Rattle.state_seen.specs.Used.{used_in, used_of}
use Rattle.slot_lock.specs.Slots.{IsNew}
use Rattle.state_text.specs.Texts.{core_text, epoch_line, message_line, seen_core, seen_text, state_text, table_line}
use Rattle.state_text.specs.Texts.{tlb_line, work_text}
use Rattle.state_seen.proofs.Phases.{step_stays}
use Rattle.state_seen.proofs.Steps.{step_kept}
use Rattle.state_seen.proofs.TableSteps.{tables_kept}

-- ---- of cores that hold the same, below 64

abbrev Same : (ℕ → Holds) → (ℕ → Holds) → Type 0
Same h g = (c : ℕ) → c < 64 → h c ≡ g c

put_at : (f : Holds → Holds) (h g : ℕ → Holds) (c : ℕ) → Same h g → Same (put h c (f (h c))) (put g c (f (g c)))
put_at f h g c same d lt = go (d == c) refl
  where
    go : (b : Bool) → (d == c) ≡ b → cond b (f (h c)) (h d) ≡ cond b (f (g c)) (g d)
    go true e = ap f (same c (subst (λ n. n < 64) (eq_true d c e) lt))
    go false e = same d lt

done_same : (deed : HardwareStep) (h g : ℕ → Holds) → Same h g → Same (done deed h) (done deed g)
done_same Nothing h g same = same
done_same (Translate c touch entry) h g same = put_at (own_part (Translate c touch entry)) h g c same
done_same (Take c) h g same = put_at (own_part (Take c)) h g c same
done_same (Walk c page entry) h g same = put_at (own_part (Walk c page entry)) h g c same
done_same (Evict c page) h g same = put_at (own_part (Evict c page)) h g c same
done_same (Shoot c set range) h g same = λ d lt.
    ap (λ x. cond (put (members set) c false d) (told c range x) x) (put_at (own_part (Shoot c set range)) h g c same d lt)

after_same : (o : Outcome) (deed : HardwareStep) (h g : ℕ → Holds) → Same h g → Same (after_step o deed h) (after_step o deed g)
after_same Stepped deed h g same = done_same deed h g same
after_same (Wait blocker) deed h g same = same
after_same Idle deed h g same = same
after_same (Answered reply) deed h g same = same
after_same Full deed h g same = same

-- ---- of tables that are the same, below 64

abbrev Tables : Type 0
Tables = ℕ → ℕ → Option Translation

abbrev Alike : Tables → Tables → Type 0
Alike t u = (c p : ℕ) → c < 64 → t c p ≡ u c p

alike_at : (f : (ℕ → Option Translation) → ℕ → Option Translation) (t u : Tables) (c : ℕ)
    → ((x y : ℕ → Option Translation) → ((p : ℕ) → x p ≡ y p) → (p : ℕ) → f x p ≡ f y p) → Alike t u → Alike (put t c (f (t c))) (put u c (f (u c)))
alike_at f t u c same alike d p lt = go (d == c) refl
  where
    go : (b : Bool) → (d == c) ≡ b → cond b (f (t c)) (t d) p ≡ cond b (f (u c)) (u d) p
    go true e = same (t c) (u c) (λ q. alike c q (subst (λ n. n < 64) (eq_true d c e) lt)) p
    go false e = alike d p lt

over_same : (s : ℕ → Bool) (x y : ℕ → Option Translation) → ((p : ℕ) → x p ≡ y p) → (p : ℕ) → over x s None p ≡ over y s None p
over_same s x y same p = ap (λ e. cond (s p) None e) (same p)

taken_same : (m : Took) (x y : ℕ → Option Translation) → ((p : ℕ) → x p ≡ y p) → (p : ℕ) → taken_from m x p ≡ taken_from m y p
taken_same (took.Clear range) x y same p = over_same (has range) x y same p
taken_same (took.Invalidate range) x y same p = same p
taken_same took.Idle x y same p = same p

took_same : (t u : Tables) (c : ℕ) (m n : Took) → (c < 64 → m ≡ n) → Alike t u → Alike (put t c (taken_from m (t c))) (put u c (taken_from n (u c)))
took_same t u c m n is alike d p lt = go (d == c) refl
  where
    go : (b : Bool) → (d == c) ≡ b → cond b (taken_from m (t c)) (t d) p ≡ cond b (taken_from n (u c)) (u d) p
    go true e = let low = subst (λ k. k < 64) (eq_true d c e) lt in
        taken_same m (t c) (u c) (λ q. alike c q low) p ∙ ap (λ x. taken_from x (u c) p) (is low)
    go false e = alike d p lt

edited_same : (edit : TableStep) (i j : ℕ → List Message) (v t u : Tables) → ((c : ℕ) → c < 64 → i c ≡ j c) → Alike t u
    → Alike (edited edit i v t) (edited edit j v u)
edited_same to.Nothing i j v t u box alike = alike
edited_same (to.Clear c range) i j v t u box alike = alike_at (λ x. over x (has range) None) t u c (over_same (has range)) alike
edited_same (to.Take c) i j v t u box alike = took_same t u c (asked (i c)) (asked (j c)) (λ lt. ap asked (box c lt)) alike
edited_same (to.Install c page) i j v t u box alike =
    alike_at (λ x. put x page (v c page)) t u c (λ x y same p. ap (λ e. cond (p == page) (v c page) e) (same p)) alike

after_alike : (o : Outcome) (edit : TableStep) (i j : ℕ → List Message) (v t u : Tables) → ((c : ℕ) → c < 64 → i c ≡ j c) → Alike t u
    → Alike (after_edit o edit i v t) (after_edit o edit j v u)
after_alike Stepped edit i j v t u box alike = edited_same edit i j v t u box alike
after_alike (Wait blocker) edit i j v t u box alike = alike
after_alike Idle edit i j v t u box alike = alike
after_alike (Answered reply) edit i j v t u box alike = alike
after_alike Full edit i j v t u box alike = alike

-- ---- of pages, where those that a step may change were looked at

pages_kept : (before : ℕ → Option Used) (w : World) (e : Event) (o : Outcome) (v : World) → Step w e o v → ((p : ℕ) → before p ≡ used_in w p)
    → (p : ℕ) → across before (some_has (may_change w e)) (used_in v) p ≡ used_in v p
pages_kept before w e o v s same p = go (some_has (may_change w e) p) refl
  where
    go : (b : Bool) → some_has (may_change w e) p ≡ b → cond b (used_in v p) (before p) ≡ used_in v p
    go true i = refl
    go false i = same p ∙ sym (ap used_of (keeps w v e o s p i))

-- ---- steps

followed : (one : Seen) (w : World) (e : Event) (o : Outcome) (v : World) (other : Seen) → Step w e o v → Follows one w e o v other → Knows one w
    → Knows other v
followed one w e o v other s f k whole =
    let before = k (f.whole whole) in
    record {
      holds = λ c lt. f.holds whole c lt ∙ after_same o (deed_of w e) (held one.cores) (holds_of w) before.holds c lt ∙ sym (step_kept w e o v s c);
      tables = λ c p lt. f.tables whole c p lt
          ∙ after_alike o (edit_of w e) (inboxes one.cores) w.hardware.inbox v.hardware.table (table_at one.tables) w.hardware.table
          (λ d less. ap (λ (h : Holds). h.inbox) (before.holds d less)) before.tables c p lt
          ∙ sym (tables_kept w e o v s c p);
      pages = λ p. f.pages whole p ∙ pages_kept (at_page one.pages) w e o v s before.pages p;
      phases = λ c lt. f.phases c lt ∙ phases_kept (core_of e) refl c (before.phases c lt);
      epoch = f.epoch;
    }
  where
    -- the call of the event's core was looked at
    phases_kept : (x : Option ℕ) → core_of e ≡ x → (c : ℕ) → phase_at one c ≡ phase_in w c → cond (is_core x c) (phase_in v c) (phase_at one c) ≡ phase_in v c
    phases_kept None is c same = same ∙ sym (step_stays w e o v s c (λ h. let no = sym is ∙ h in cc))
    phases_kept (Some d) is c same = go (c == d) refl
      where
        go : (b : Bool) → (c == d) ≡ b → cond b (phase_in v c) (phase_at one c) ≡ phase_in v c
        go true i = refl
        go false i = same ∙ sym (step_stays w e o v s c (λ h. let both : Some d ≡ Some c = sym is ∙ h in
            let ne : c ≢ d = grind (arith, nat_tests, i) in let eq : d ≡ c = cc in absurd (ne (sym eq))))

pub watched : (one : Seen) (w : World) (es : List Event) (os : List Outcome) (v : World) (other : Seen) → Watches Follows one w es os v other
    → Knows one w → Knows other v
watched one w [] [] v other r k = subst (λ x. Knows other x) (sym r.0) (subst (λ x. Knows x w) (sym r.1) k)
watched one w (e ∷ es) (o ∷ os) v other r k =
    watched r.1 r.0 es os v other r.4 (followed one w e o r.0 r.1 r.2 r.3 k)
watched one w [] (o ∷ os) v other r k = absurd r
watched one w (e ∷ es) [] v other r k = absurd r

pub run_of : (one : Seen) (w : World) (es : List Event) (os : List Outcome) (v : World) (other : Seen) → Watches Follows one w es os v other
    → Run w es os v
run_of one w [] [] v other r = r.0
run_of one w (e ∷ es) (o ∷ os) v other r = (r.0, r.2, run_of r.1 r.0 es os v other r.4)
run_of one w [] (o ∷ os) v other r = absurd r
run_of one w (e ∷ es) [] v other r = absurd r

-- a new machine has nothing to see
pub opening : (r : Seen) (made : Made) (slots : Slots) → IsNew slots → IsNothing r → Knows r (new_world made slots)
opening r made slots new n whole = record {
  holds = λ c lt. n.holds c;
  tables = λ c p lt. n.tables c p;
  pages = λ p. n.pages p ∙ sym (ap used_of (new.unmapped p));
  phases = λ c lt. n.phases c ∙ free (nat_lt c made.cores);
  epoch = n.epoch;
}
  where
    free : (b : Bool) → ◌≡◌ {A = Phase} Free (cond b Free Free)
    free true = refl
    free false = refl

-- ---- texts

core_same : (form : Form) (c : ℕ) (phase : Phase) (h : Holds) (t u : ℕ → Option Translation) → ((p : ℕ) → t p ≡ u p) → core_text form c phase h t ≡ core_text form c phase h u
core_same form c phase h t u same =
    ap (λ l. work_text form c phase ++ flat_map (tlb_line form c h.inbox) h.tlb ++ l ++ flat_map (message_line form c) h.inbox)
    (pages_same (table_line form c h.inbox) t u same)

pub text_shown : (form : Form) (maps : List ℕ) (r : Seen) (w : World) → IsShown r w → seen_text form maps r ≡ state_text form maps w
text_shown form maps r w k =
    ap (λ n. epoch_line form n ++ texts_below (seen_core form r.phases r.cores r.tables) 64 ++ mapped ++ pages_text (used_line form) (at_page r.pages)) k.epoch
    ∙ ap (λ l. epoch_line form w.memory.counts.epoch ++ l ++ mapped ++ pages_text (used_line form) (at_page r.pages))
    (texts_same (seen_core form r.phases r.cores r.tables) (λ c. core_text form c (phase_in w c) (holds_of w c) (w.hardware.table c)) 64 each)
    ∙ ap (λ l. epoch_line form w.memory.counts.epoch ++ texts_below (λ c. core_text form c (phase_in w c) (holds_of w c) (w.hardware.table c)) 64
    ++ mapped ++ l) (pages_same (used_line form) (at_page r.pages) (used_in w) k.pages)
  where
    mapped : List ℕ
    mapped = mappings_text form maps

    each : (c : ℕ) → c < 64 → seen_core form r.phases r.cores r.tables c ≡ core_text form c (phase_in w c) (holds_of w c) (w.hardware.table c)
    each c lt = ap (λ p. core_text form c p (held r.cores c) (table_at r.tables c)) (k.phases c lt)
        ∙ ap (λ h. core_text form c (phase_in w c) h (table_at r.tables c)) (k.holds c lt)
        ∙ core_same form c (phase_in w c) (holds_of w c) (table_at r.tables c) (w.hardware.table c) (λ p. k.tables c p lt)
