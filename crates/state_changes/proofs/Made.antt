-- What is recorded of steps, one after another
use Rattle.machine_model.proofs.Words.{◌≡◌, ◌≢◌, ℕ, zero, suc, ◌+◌, true, false, List, [], ◌∷◌, ◌++◌, refl, sym, ap, subst, ◌∙◌, None, Option}
use Rattle.machine_model.proofs.Words.{Bool, World}
use Rattle.machine_model.specs.declared.event.Event.{Event}
use Rattle.machine_model.specs.declared.event.Outcome.{Outcome}
use Rattle.machine_model.specs.declared.event.Outcome.TheVariants.{Stepped, Wait, Idle, Answered, Full}
use Rattle.std.proofs.Common.{length, length-append, min, arith, append_assoc, append-nil, IsSomeAnd, Some, if◌then◌else◌}
use Rattle.std.specs.Prelude.{replicate}
use Rattle.core_steps.specs.Finishing.{finish_limit}
use Rattle.core_steps.specs.declared.machine.Finished.{Finished}
use Rattle.core_steps.specs.declared.machine.Finished.TheVariants.{Last, Stuck}
use Rattle.trace_text.specs.declared.line.Line.{Line}
use Rattle.trace_text.specs.declared.line.Line.TheVariants.{Blank, Space, File, Act, Fold, Finish, Now}
use Rattle.watched.specs.Watching.{GoesUntil, Watches}
use Rattle.trace.specs.EventRuns.{Asks, AsksCall, AsksFinish}
use Rattle.slot_lock.specs.declared.map_list.MapLine.{MapLine}
use Rattle.core_steps.specs.MapLines.{ListsMaps}
use Rattle.state_text.specs.declared.form.Form.TheVariants.{Text}
use Rattle.state_text.specs.Counts.{counts_text}
use Rattle.state_text.specs.Texts.{seen_text}
use Rattle.trace_text.specs.Listing.{maps_text}
use Rattle.std.specs.Option.{is_some}
use Rattle.core_steps.specs.Changing.{may_change}
use Rattle.machine_model.specs.Step.{Step}
use Rattle.slot_lock.specs.MapList.{IsMapList}
use Rattle.slot_lock.specs.MapWalks.{slot_metas}
use Rattle.state_changes.specs.Recorded.{HasAdded, MomentOf, Recorded, Records, goes_on}
use Rattle.state_changes.proofs.Kept.{AsReached, kept_slots, listed_maps, listed_slots, reached_now}
use Rattle.state_changes.specs.Pages.{all_changed}
use Rattle.state_changes.specs.Spans.{call_len, count_of, steps_to_end}

-- these are the steps with these outcomes
abbrev pub Marks : List Outcome → List MomentOf → Type 0
Marks [] [] = Unit {0}
Marks (o ∷ os) (m ∷ ms) = (m.goes_on ≡ goes_on o) × Marks os ms
Marks [] (m ∷ ms) = ⊥
Marks (o ∷ os) [] = ⊥

-- the text is that of what is seen now, of the state's mappings and of its counts
pub record Shows (r : Recorded) (w : World) : Type 0 where
  pub maps : List MapLine
  pub slots : IsMapList (slot_metas w.slots) maps
  pub lists : ListsMaps w maps
  pub kept : r.maps ≡ maps_text maps
  pub reached : AsReached w
  pub is : r.text ≡ seen_text Text (maps_text maps) r.seen ++ counts_text Text w

-- what was recorded of some steps, which led to this state
pub record SinceOne (one : Recorded) (v : World) (other : Recorded) (os : List Outcome) : Type 0 where
  pub whole : one.whole ≡ true
  pub seen : other.seen.whole ≡ true → one.seen.whole ≡ true
  pub first : other.first ≡ one.first
  pub moments : List MomentOf
  pub more : other.moments ≡ one.moments ++ moments
  pub marks : Marks os moments
  pub changes : all_changed one.text moments ≡ other.text
  pub shows : Shows other v

-- a step more
shows_on : (one : Recorded) (w : World) (e : Event) (o : Outcome) (v : World) (other : Recorded) (goes changes : Bool) → changes ≡ is_some (may_change w e)
    → Step w e o v → HasAdded goes changes v one other → Shows one w → Shows other v
shows_on one w e o v other goes true same step a s =
    let r = reached_now w v e o step a.reached s.reached in
    record {
      maps = a.maps.0;
      slots = listed_slots v r a.maps.0 a.maps.1;
      lists = a.maps.1;
      kept = a.maps.2;
      reached = λ few. r;
      is = a.shows ∙ ap (λ t. seen_text Text t other.seen ++ counts_text Text v) a.maps.2;
    }
shows_on one w e o v other goes false same step a s =
    let r = reached_now w v e o step a.reached s.reached in
    let slots = kept_slots w v e o s.maps step (sym same) s.slots in
    let kept : other.maps ≡ maps_text s.maps = a.maps ∙ s.kept in
    record {
      maps = s.maps;
      slots = slots;
      lists = listed_maps v r s.maps slots;
      kept = kept;
      reached = λ few. r;
      is = a.shows ∙ ap (λ t. seen_text Text t other.seen ++ counts_text Text v) kept;
    }

pub whole_back : (one : Recorded) (w : World) (es : List Event) (os : List Outcome) (v : World) (other : Recorded) → Watches Records one w es os v other
    → other.whole ≡ true → one.whole ≡ true
whole_back one w [] [] v other r whole = subst (λ (x : Recorded). x.whole ≡ true) r.1 whole
whole_back one w (e ∷ es) (o ∷ os) v other r whole = r.3.whole (whole_back r.1 r.0 es os v other r.4 whole)
whole_back one w [] (o ∷ os) v other r whole = absurd r
whole_back one w (e ∷ es) [] v other r whole = absurd r

pub since : (one : Recorded) (w : World) (es : List Event) (os : List Outcome) (v : World) (other : Recorded) → Watches Records one w es os v other
    → other.whole ≡ true → Shows one w → SinceOne one v other os
since one w [] [] v other r whole shows = subst (λ x. SinceOne one x other []) (sym r.0) (subst (λ x. SinceOne one w x []) (sym r.1) (record {
  whole = subst (λ (x : Recorded). x.whole ≡ true) r.1 whole;
  seen = λ h. h;
  first = refl;
  moments = [];
  more = sym (append-nil one.moments);
  marks = tt;
  changes = refl;
  shows = shows;
}))
since one w (e ∷ es) (o ∷ os) v other r whole shows =
    let mid = r.1 in
    let there = whole_back mid r.0 es os v other r.4 whole in
    let one_more = r.3.added there in
    let rest = since mid r.0 es os v other r.4 whole (shows_on one w e o r.0 mid _ _ refl r.2 one_more shows) in
    record {
      whole = r.3.whole there;
      seen = λ h. r.3.follows.whole (rest.seen h);
      first = rest.first ∙ r.3.first;
      moments = one_more.moment ∷ rest.moments;
      more = rest.more ∙ ap (λ l. l ++ rest.moments) one_more.moments ∙ append_assoc one.moments (one_more.moment ∷ []) rest.moments;
      marks = (one_more.goes_on, rest.marks);
      changes = ap (λ t. all_changed t rest.moments) one_more.changes_to ∙ rest.changes;
      shows = rest.shows;
    }
since one w [] (o ∷ os) v other r whole shows = absurd r
since one w (e ∷ es) [] v other r whole shows = absurd r

-- ---- how many steps a line makes

marked_none : (os : List Outcome) (ms : List MomentOf) → os ≡ [] → Marks os ms → length ms ≡ 0
marked_none os ms e k = go ms (subst (λ x. Marks x ms) e k)
  where
    go : (ms : List MomentOf) → Marks [] ms → length ms ≡ 0
    go [] k = refl
    go (m ∷ ms) k = absurd k

marked_one : (o : Outcome) (os : List Outcome) (ms : List MomentOf) → os ≡ o ∷ [] → Marks os ms → length ms ≡ 1
marked_one o os ms e k = go ms (subst (λ x. Marks x ms) e k)
  where
    go : (ms : List MomentOf) → Marks (o ∷ []) ms → length ms ≡ 1
    go [] k = absurd k
    go (m ∷ []) k = refl
    go (m ∷ n ∷ ms) k = absurd k.1

stops : (o : Outcome) → o ≢ Stepped → goes_on o ≡ false
stops Stepped ne = absurd (ne refl)
stops (Wait b) ne = refl
stops Idle ne = refl
stops (Answered r) ne = refl
stops Full ne = refl

-- plain steps, and then one that isn't
to_end : (n : ℕ) (o : Outcome) (ms others : List MomentOf) → o ≢ Stepped → Marks (replicate n Stepped ++ o ∷ []) ms
    → (steps_to_end (ms ++ others) ≡ suc n) × (length ms ≡ suc n)
to_end zero o [] others ne k = absurd k
to_end zero o (m ∷ []) others ne k = (ap (λ b. if b then suc (steps_to_end others) else 1) (k.0 ∙ stops o ne), refl)
to_end zero o (m ∷ l ∷ ms) others ne k = absurd k.1
to_end (suc n) o [] others ne k = absurd k
to_end (suc n) o (m ∷ ms) others ne k =
    let rest = to_end n o ms others ne k.1 in
    (ap (λ b. if b then suc (steps_to_end (ms ++ others)) else 1) k.0 ∙ ap suc rest.0, ap suc rest.1)

-- plain steps alone
to_more : (n : ℕ) (ms others : List MomentOf) → Marks (replicate n Stepped) ms
    → (steps_to_end (ms ++ others) ≡ n + steps_to_end others) × (length ms ≡ n)
to_more zero [] others k = (omega arith, refl)
to_more zero (m ∷ ms) others k = absurd k
to_more (suc n) [] others k = absurd k
to_more (suc n) (m ∷ ms) others k =
    let rest = to_more n ms others k.1 in
    (ap (λ b. if b then suc (steps_to_end (ms ++ others)) else 1) k.0 ∙ omega (arith, rest.0), omega (arith, rest.1))

finishes : (core : ℕ) (es : List Event) (os : List Outcome) (text : List ℕ) (ms others : List MomentOf) → AsksFinish core es os text → Marks os ms
    → min (steps_to_end (ms ++ others)) finish_limit ≡ length ms
finishes core es os text ms others a k = go a.0 a.1 a.2
  where
    go : (n : ℕ) (f : Finished) → GoesUntil core n f es os → min (steps_to_end (ms ++ others)) finish_limit ≡ length ms
    go n (Last o) g = let h = to_end n o ms others g.1 (subst (λ x. Marks x ms) g.3 k) in omega (arith, h.0, h.1, g.0)
    go n Stuck g = let h = to_more n ms others (subst (λ x. Marks x ms) g.2 k) in omega (arith, h.0, h.1, g.0)

begins : (core : ℕ) (es : List Event) (os : List Outcome) (text : List ℕ) (ms others : List MomentOf) → AsksFinish core es os text
    → Marks (Stepped ∷ os) ms → call_len (ms ++ others) ≡ length ms
begins core es os text [] others a k = absurd k
begins core es os text (m ∷ ms) others a k =
    ap (λ b. if b then suc (min (steps_to_end (ms ++ others)) finish_limit) else 1) k.0 ∙ ap suc (finishes core es os text ms others a k.1)

refused : (o : Outcome) (ms others : List MomentOf) → goes_on o ≡ false → Marks (o ∷ []) ms → call_len (ms ++ others) ≡ length ms
refused o [] others e k = absurd k
refused o (m ∷ []) others e k = ap (λ b. if b then suc (min (steps_to_end others) finish_limit) else 1) (k.0 ∙ e)
refused o (m ∷ l ∷ ms) others e k = absurd k.1

one_of : (ms others : List MomentOf) → length ms ≡ 1 → min (length (ms ++ others)) 1 ≡ length ms
one_of ms others e = omega (arith, e, length-append ms others)

-- it makes those that it asked for
pub counted : (said : Option Line) (es : List Event) (os : List Outcome) (text : List ℕ) (ms others : List MomentOf)
    → IsSomeAnd said (λ l. Asks l es os text) → Marks os ms → count_of said (ms ++ others) ≡ length ms
counted None es os text ms others a k = absurd a
counted (Some Blank) es os text ms others a k = sym (marked_none os ms a.1 k)
counted (Some (Space cores frames calls)) es os text ms others a k = sym (marked_none os ms a.1 k)
counted (Some (File n mode len seed)) es os text ms others a k = sym (marked_none os ms a.1 k)
counted (Some (Act core action)) es os text ms others a k = one_of ms others (marked_one a.0 os ms a.2 k)
counted (Some (Fold page)) es os text ms others a k = one_of ms others (marked_one a.0 os ms a.2 k)
counted (Some (Finish core)) es os text ms others a k = finishes core es os text ms others a k
counted (Some (Now core request)) es os text ms others a k = go a.0 a.1
  where
    go : (o : Outcome) → AsksCall core request o es os text → call_len (ms ++ others) ≡ length ms
    go Stepped c = begins core c.0 c.1 text ms others c.2 (subst (λ x. Marks x ms) c.4 k)
    go (Wait b) c = refused (Wait b) ms others refl (subst (λ x. Marks x ms) c.1 k)
    go Idle c = refused Idle ms others refl (subst (λ x. Marks x ms) c.1 k)
    go (Answered r) c = refused (Answered r) ms others refl (subst (λ x. Marks x ms) c.1 k)
    go Full c = refused Full ms others refl (subst (λ x. Marks x ms) c.1 k)
