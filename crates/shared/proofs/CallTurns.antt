-- Calls, one alone or in a list, and asides, by a core that took the machine
use Rattle.std.proofs.Common.{◌≡◌, ◌≢◌, ℕ, ◌-◌, ◌<◌, List, [], ◌∷◌, ◌++◌, length, refl}
use Rattle.std.proofs.Common.{sym, ap, ◌∙◌, subst, inl, inr, arith, ne_eqb}
use Rattle.std.specs.Prelude.{MatchBool, Option, None}
use mathlib.Core.Bool.{true, false}
use Rattle.atomic_table.specs.Table.{Me}
use Rattle.atomic_table.specs.Seated.{TableId}
use Rattle.vm_base.specs.declared.requests.Request.{Request}
use Rattle.vm_base.specs.declared.replies.Reply.{Reply}
use Rattle.machine_model.specs.World.{World, Made}
use Rattle.machine_model.specs.Alone.{IsCalm}
use Rattle.core_steps.specs.Machine.{IsLegal}
use Rattle.shared.specs.declared.history.Replied.{Replied}
use Rattle.shared.specs.declared.history.Turn.{Turn}
use Rattle.shared.specs.declared.space.Answer.{Answer}
use Rattle.shared.specs.declared.space.Answer.TheVariants as Tells
use Rattle.shared.specs.declared.space.Passed.TheVariants as By
use Rattle.shared.specs.declared.asides.Aside.{Aside}
use Rattle.machine_model.specs.declared.event.Event.{Event}
use Rattle.machine_model.specs.declared.event.Outcome.{Outcome}
use Rattle.machine_model.specs.declared.event.Outcome.TheVariants.{Full}
use Rattle.shared.specs.declared.space.Calls.TheVariants as Lists
use Rattle.shared.specs.declared.series.Series.{Series}
use Rattle.shared.specs.declared.series.SeriesEnd.{SeriesEnd}
use Rattle.shared.specs.declared.series.SeriesEnd.TheVariants as For
use Rattle.shared.specs.Serial.{AreTold, EndsSeries, LeftFor}
use Rattle.shared.specs.declared.space.Known.{Known}
use Rattle.shared.specs.declared.whole.CallEnd.{CallEnd}
use Rattle.shared.specs.declared.whole.CallEnd.TheVariants as To
use Rattle.shared.specs.Histories.{Adds, Ends, IsFull, IsOver, StepsAside, event_of, history_of, logged, replied}
use Rattle.shared.specs.Turns.{turn}
use Rattle.shared.specs.Cores.{Answers, AnswersAll, FindsOver, HasTurn, IsBeside, MadeAside, Passes}
use Rattle.shared.specs.Rules.{CanGive, Learns, Makes, Missed, Took, after, answer_of}
use Rattle.shared.specs.Rules.{given, holding, looked, view_of, word_after, word_of}
use Rattle.shared.proofs.InCalls.{adds_nothing}
use Rattle.shared.proofs.TurnLemmas.{order_more}
use Rattle.shared.proofs.Views.{as_elem}

module _ {S : Type 0} (state : S → World) (key : List S) where
  -- ---- a call

  -- the word was 1
  pub took_home : (n : ℕ) (m w : Me S (Known S)) → n ≡ 1 → Took state n m w
      → (d : S) × (rest : List (Turn S)) × (w ≡ (holding m.0 rest, (0, d) ∷ m.1)) × Learns state m.0 rest d × IsCalm (state d)
  took_home n m w e t = subst (λ k. Took state k m w) e t

  -- it wasn't
  took_none : (n : ℕ) (m w : Me S (Known S)) → n ≢ 1 → Took state n m w → Missed state n m w
  took_none n m w ne t = subst (λ b. MatchBool b ((d : S) × (rest : List (Turn S)) × (w ≡ (holding m.0 rest, (0, d) ∷ m.1)) × Learns state m.0 rest d
      × IsCalm (state d)) (Missed state n m w)) (ne_eqb n 1 ne) t

  zero_not_one : (n : ℕ) → n ≡ 0 → n ≢ 1
  zero_not_one n e one = omega (arith, e, one)

  -- it was 0
  pub took_busy : (n : ℕ) (m w : Me S (Known S)) → n ≡ 0 → Took state n m w
      → (w ≡ m) × (m.0.holds ≡ false → (space : TableId) → IsBeside state (view_of space m.0))
  took_busy n m w e t = subst (λ k. Missed state k m w) e (took_none n m w (zero_not_one n e) t)

  -- it was neither
  took_spent : (n : ℕ) (m w : Me S (Known S)) → n ≢ 1 → n ≢ 0 → Took state n m w
      → (d : S) × (rest : List (Turn S)) × (w ≡ (looked m.0 rest, m.1)) × Learns state m.0 rest d × IsOver (state d)
  took_spent n m w ne out t = subst (λ b. MatchBool b ((w ≡ m) × (m.0.holds ≡ false → (space : TableId) → IsBeside state (view_of space m.0)))
      ((d : S) × (rest : List (Turn S)) × (w ≡ (looked m.0 rest, m.1)) × Learns state m.0 rest d × IsOver (state d))) (ne_eqb n 0 out)
      (took_none n m w ne t)

  what_added : (w : World) (core : ℕ) (request : Request) (ended : CallEnd) (v : World) → Ends w core request ended v
      → (added : List Replied) × Adds core added (history_of w) (history_of v)
  what_added w core request (To.Reply reply) v h = (replied request reply ∷ [], h.1)
  what_added w core request To.Refused v h = ([], h.1)
  what_added w core request To.Spent v h = (logged request h.0.0, h.0.1)

  over_then : (w : World) (core : ℕ) (request : Request) (ended : CallEnd) (v : World) → Ends w core request ended v → word_of ended ≢ 1 → IsOver v
  over_then w core request (To.Reply reply) v h ne = absurd (ne refl)
  over_then w core request To.Refused v h ne = absurd (ne refl)
  over_then w core request To.Spent v h ne = h.1

  is_calm_then : (w : World) (core : ℕ) (request : Request) (ended : CallEnd) (v : World) → Ends w core request ended v → word_of ended ≡ 1 → IsCalm v
  is_calm_then w core request (To.Reply reply) v h e = h.0
  is_calm_then w core request To.Refused v h e = h.0
  is_calm_then w core request To.Spent v h e = absurd (omega (arith, e))

  never_out : (ended : CallEnd) → word_of ended ≢ 0
  never_out (To.Reply reply) e = omega (arith, e)
  never_out To.Refused e = omega (arith, e)
  never_out To.Spent e = omega (arith, e)

  -- the machine that a core took, once it was used, can be given back
  gives_back : (v now : Known S) (rest : List (Turn S)) (d : S) (Does : World → World → Type 0) (carried : List (ℕ × S)) (word : ℕ) → v.live ≡ true
      → Learns state v rest d → (makes : Makes state d Does carried) → now ≡ holding v rest → word ≢ 0 → (word ≡ 1 → IsCalm (state makes.machine))
      → (word ≢ 1 → IsOver (state makes.machine))
      → ((added : List Replied) × Adds v.core added (history_of (state d)) (history_of (state makes.machine)))
      → (x : S) × (carried ≡ (0, x) ∷ []) × CanGive state now x word
  gives_back v now rest d Does carried word live learns makes same in_place calm over adds = (
    makes.machine,
    makes.has,
    subst (λ (k : Known S). CanGive state k makes.machine word) (sym same) (record {
      holds = refl;
      live = live;
      in_place = in_place;
      calm = calm;
      over = over;
      made = makes.made ∙ learns.made;
      leads = (d, learns.last, record { legal = makes.legal; made = makes.made; adds = adds });
    }),
  )

  -- after a call
  pub call_gives : (v now : Known S) (rest : List (Turn S)) (d : S) (number : ℕ) (request : Request) (ended : CallEnd) (carried : List (ℕ × S)) (word : ℕ)
      → v.live ≡ true → number ≡ v.core → Learns state v rest d
      → Makes state d (λ x y. Ends x number request ended y) carried → now ≡ holding v rest → word ≡ word_of ended
      → (x : S) × (carried ≡ (0, x) ∷ []) × CanGive state now x word
  call_gives v now rest d number request ended carried word live is learns makes same sent =
      let e : World = state makes.machine in
      let ends : Ends (state d) v.core request ended e = subst (λ n. Ends (state d) n request ended e) is makes.does in
      gives_back v now rest d _ carried word live learns makes same
      (λ out. never_out ended (sym sent ∙ out))
      (λ home. is_calm_then (state d) v.core request ended e ends (sym sent ∙ home))
      (λ not. over_then (state d) v.core request ended e ends (λ home. not (sent ∙ home)))
      (what_added (state d) v.core request ended e ends)

  -- after calls one after another
  series_over : (stop : SeriesEnd) (v : World) → LeftFor stop v → word_after stop ≢ 1 → IsOver v
  series_over For.Spent v h ne = h
  series_over _ v h ne = absurd (ne refl)

  series_calm : (stop : SeriesEnd) (v : World) → LeftFor stop v → word_after stop ≡ 1 → IsCalm v
  series_calm For.Done v h e = h
  series_calm For.NoCall v h e = h
  series_calm For.NoMemory v h e = h
  series_calm For.Refused v h e = h.0
  series_calm For.Spent v h e = absurd (omega (arith, e))

  never_out_after : (stop : SeriesEnd) → word_after stop ≢ 0
  never_out_after For.Spent e = omega (arith, e)
  never_out_after _ e = omega (arith, e)

  -- what calls of a machine come to
  abbrev pub DoesEach : {T : Type 0} → ℕ → List (Option Request) → (Reply → T) → List T → Series → List T → World → World → Type 0
  DoesEach number asked told_of was series told x y = (added : List Replied) × AreTold told_of added was told × (series.made ≡ length added)
      × EndsSeries x number asked added series.stop y

  pub all_gives : {T : Type 0} (v now : Known S) (rest : List (Turn S)) (d : S) (number : ℕ) (asked : List (Option Request)) (told_of : Reply → T)
      (was told : List T) (series : Series) (carried : List (ℕ × S)) (word : ℕ) → v.live ≡ true → number ≡ v.core → Learns state v rest d
      → Makes state d (DoesEach number asked told_of was series told) carried → now ≡ holding v rest
      → word ≡ word_after series.stop → (x : S) × (carried ≡ (0, x) ∷ []) × CanGive state now x word
  all_gives v now rest d number asked told_of was told series carried word live is learns makes same sent =
      let e : World = state makes.machine in
      let ends = makes.does.3 in
      gives_back v now rest d _ carried word live learns makes same
      (λ out. never_out_after series.stop (sym sent ∙ out))
      (λ home. series_calm series.stop e ends.left (sym sent ∙ home))
      (λ not. series_over series.stop e ends.left (λ home. not (sent ∙ home)))
      (makes.does.0 ++ ends.more, subst (λ n. Adds n (makes.does.0 ++ ends.more) (history_of (state d)) (history_of e)) is ends.adds)

  -- after an aside
  pub aside_gives : (v now : Known S) (rest : List (Turn S)) (d : S) (event : Event) (outcome : Outcome) (carried : List (ℕ × S)) → v.live ≡ true
      → Learns state v rest d → Makes state d (λ x y. StepsAside x event outcome y × IsCalm y) carried → now ≡ holding v rest
      → (x : S) × (carried ≡ (0, x) ∷ []) × CanGive state now x 1
  aside_gives v now rest d event outcome carried live learns makes same =
      gives_back v now rest d _ carried 1 live learns makes same (λ e. omega (arith, e)) (λ _. makes.does.1) (λ ne. absurd (ne refl))
      ([], adds_nothing v.core (history_of (state d)) (history_of (state makes.machine)) makes.does.0.1)

  -- what a core has once it gave the machine back
  abbrev Idle : ℕ → ℕ → Me S (Known S) → Type 0
  Idle number left me = (me.1 ≡ []) × (me.0.holds ≡ false) × (me.0.live ≡ true) × (number ≡ me.0.core) × (left ≡ me.0.spare) × (left < 64)

  pub is_idle : (number left : ℕ) (start held gave : Me S (Known S)) (rest : List (Turn S)) (d : S) → Idle number left start → held.0 ≡ holding start.0 rest
      → gave ≡ (after state held.0 d, []) → Idle number left gave
  is_idle number left start held gave rest d idle holds back =
      subst (Idle number left) (sym (back ∙ ap (λ (u : Known S). (after state u d, [])) holds)) (refl, refl, idle.2, idle.3, idle.4, idle.5)

  -- and where it only looked
  pub idle_still : (number left n : ℕ) (start looks : Me S (Known S)) → Idle number left start → n ≢ 1 → n ≢ 0 → Took state n start looks
      → Idle number left looks
  idle_still number left n start looks idle ne out t = subst (Idle number left) (sym (took_spent n start looks ne out t).2) idle

  has_turn : (space : TableId) (v : Known S) (rest : List (Turn S)) (d e : S) (added : List Replied) (Does : World → World → Type 0) → Learns state v rest d
      → Adds v.core added (history_of (state d)) (history_of (state e)) → (state e).made ≡ (state d).made → IsLegal (state e) → Does (state d) (state e)
      → HasTurn state (view_of space v) added Does (view_of space (after state (holding v rest) e))
  has_turn space v rest d e added Does learns adds made legal does = record {
    between = rest;
    before = d;
    after = e;
    turns = refl;
    others = learns.others;
    order = order_more state v.first (v.turns ++ rest) d (turn v.core e) learns.order learns.last (record { legal = legal; made = made; adds = (added, adds) });
    begun = learns.last;
    legal = learns.legal;
    joined = λ k t here. learns.joined k t (as_elem v.others k t here);
    adds = adds;
    does = does;
    mine = adds.own ∙ ap (λ l. l ++ added) learns.mine;
    own = refl;
    same = refl;
  }

  pub call_answers : (space other : TableId) (v w : Known S) (rest : List (Turn S)) (d : S) (number : ℕ) (request : Request) (ended : CallEnd) (answer : Answer)
      (carried : List (ℕ × S)) → other ≡ space → number ≡ v.core → Learns state v rest d → (makes : Makes state d (λ x y. Ends x number request ended y) carried)
      → w ≡ after state (holding v rest) makes.machine → answer ≡ answer_of ended
      → Answers state (view_of space v) request answer (view_of other w)
  call_answers space other v w rest d number request ended answer carried there is learns makes same told =
      subst (λ (p : TableId × (Known S × Answer)). Answers state (view_of space v) request p.1.1 (view_of p.0 p.1.0))
      (λ i. (sym there i, (sym same i, sym told i)))
      (go ended (subst (λ n. Ends (state d) n request ended (state makes.machine)) is makes.does))
    where
      go : (ended : CallEnd) → Ends (state d) v.core request ended (state makes.machine)
          → Answers state (view_of space v) request (answer_of ended) (view_of space (after state (holding v rest) makes.machine))
      go (To.Reply reply) h = has_turn space v rest d makes.machine (replied request reply ∷ []) (λ x y. Unit {0}) learns h.1 makes.made makes.legal tt
      go To.Refused h = inl (None, has_turn space v rest d makes.machine [] (λ x y. IsFull y) learns h.1 makes.made makes.legal h.2)
      go To.Spent h = inl (h.0.0, has_turn space v rest d makes.machine (logged request h.0.0) (λ x y. IsFull y) learns h.0.1 makes.made makes.legal (inr h.1))

  -- calls one after another
  pub all_answers : {T : Type 0} (space other : TableId) (v w : Known S) (rest : List (Turn S)) (d : S) (number : ℕ) (asked : List (Option Request))
      (told_of : Reply → T) (was told : List T) (series : Series) (carried : List (ℕ × S)) → other ≡ space → number ≡ v.core → Learns state v rest d
      → (makes : Makes state d (DoesEach number asked told_of was series told) carried)
      → w ≡ after state (holding v rest) makes.machine
      → AnswersAll state (view_of space v) asked told_of was (Lists.Made series) told (view_of other w)
  all_answers space other v w rest d number asked told_of was told series carried there is learns makes same =
      subst (λ (p : TableId × Known S). AnswersAll state (view_of space v) asked told_of was (Lists.Made series) told (view_of p.0 p.1))
      (λ i. (sym there i, sym same i)) (
        makes.does.0,
        makes.does.1,
        makes.does.2,
        makes.does.3.first,
        makes.does.3.stops,
        inl (
          makes.does.3.more,
          makes.does.3.is_more,
          has_turn space v rest d makes.machine (makes.does.0 ++ makes.does.3.more) (λ x y. LeftFor series.stop y) learns
              (subst (λ n. Adds n (makes.does.0 ++ makes.does.3.more) (history_of (state d)) (history_of (state makes.machine))) is makes.does.3.adds)
              makes.made makes.legal makes.does.3.left,
        ),
      )

  -- nothing was taken, and so nothing changed
  pub same_view : (space other : TableId) (n : ℕ) (m w : Me S (Known S)) → n ≡ 0 → Took state n m w → other ≡ space → view_of other w.0 ≡ view_of space m.0
  same_view space other n m w e t there =
      let same = (took_busy n m w e t).0 in ap (λ (p : TableId × Me S (Known S)). view_of p.0 p.1.0) (λ i. (there i, same i))

  -- where no call can begin any more
  finds_over : (space other : TableId) (n : ℕ) (m w : Me S (Known S)) → n ≢ 1 → n ≢ 0 → Took state n m w → other ≡ space
      → FindsOver state (view_of space m.0) (view_of other w.0)
  finds_over space other n m w ne out t there =
      let k = took_spent n m w ne out t in
      subst (λ (p : TableId × Me S (Known S)). FindsOver state (view_of space m.0) (view_of p.0 p.1.0)) (λ i. (sym there i, sym k.2 i)) (record {
        between = k.1;
        machine = k.0;
        others = k.3.others;
        order = k.3.order;
        here = k.3.last;
        over = k.4;
        same = refl;
      })

  pub full_answers : (space other : TableId) (n : ℕ) (m w : Me S (Known S)) (request : Request) → n ≢ 1 → n ≢ 0 → Took state n m w → other ≡ space
      → Answers state (view_of space m.0) request Tells.Full (view_of other w.0)
  full_answers space other n m w request ne out t there = inr (finds_over space other n m w ne out t there)

  pub full_all : {T : Type 0} (space other : TableId) (n : ℕ) (m w : Me S (Known S)) (asked : List (Option Request)) (told_of : Reply → T) (was : List T)
      (series : Series) → n ≢ 1 → n ≢ 0 → Took state n m w → other ≡ space → series ≡ record { made = 0; stop = For.Refused }
      → AnswersAll state (view_of space m.0) asked told_of was (Lists.Made series) was (view_of other w.0)
  full_all space other n m w asked told_of was series ne out t there is =
      subst (λ s. AnswersAll state (view_of space m.0) asked told_of was (Lists.Made s) was (view_of other w.0)) (sym is)
      ([], refl, refl, refl, tt, inr (refl, refl, finds_over space other n m w ne out t there))

  pub full_passes : (space other : TableId) (n : ℕ) (m w : Me S (Known S)) (aside : Aside) → n ≢ 1 → n ≢ 0 → Took state n m w → other ≡ space
      → Passes state (view_of space m.0) aside (By.Came Full) (view_of other w.0)
  full_passes space other n m w aside ne out t there = inr (refl, finds_over space other n m w ne out t there)

  -- an aside
  pub aside_passes : (space other : TableId) (v w : Known S) (rest : List (Turn S)) (d : S) (number : ℕ) (aside : Aside) (outcome : Outcome)
      (carried : List (ℕ × S)) → other ≡ space
      → number ≡ v.core → Learns state v rest d → (makes : Makes state d (λ x y. StepsAside x (event_of number aside) outcome y × IsCalm y) carried)
      → w ≡ after state (holding v rest) makes.machine
      → Passes state (view_of space v) aside (By.Came outcome) (view_of other w)
  aside_passes space other v w rest d number aside outcome carried there is learns makes same =
      let e : S = makes.machine in
      let Does : World → World → Type 0 = λ x y. StepsAside x (event_of v.core aside) outcome y × IsCalm y in
      subst (λ (p : TableId × Known S). MadeAside state (view_of space v) aside outcome (view_of p.0 p.1)) (λ i. (sym there i, sym same i))
      (inl (has_turn space v rest d e [] Does learns (adds_nothing v.core (history_of (state d)) (history_of (state e)) makes.does.0.1) makes.made makes.legal
      (subst (λ n. StepsAside (state d) (event_of n aside) outcome (state e) × IsCalm (state e)) is makes.does)))
