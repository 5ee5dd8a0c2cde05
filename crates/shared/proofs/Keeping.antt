-- Each step keeps the rule of the one history
use Rattle.std.proofs.Common.{◌≡◌, ◌≢◌, ℕ, ◌-◌, ◌<◌, ◌≤◌, eqb, cond, List, [], ◌∷◌, ◌++◌, length, set, refl}
use Rattle.std.proofs.Common.{sym, ap, ◌∙◌, subst, ◌⊎◌, inl, inr, ⊎_elim, arith, eq-eqb, ne_eqb}
use Rattle.std.specs.Prelude.{MatchBool, slice_index}
use mathlib.Core.Bool.{Bool, true, false}
use mathlib.Core.Option.{some, none, some-ne-none, some-injective}
use lib.ListN.{get_elem?}
use prog.Atomic.{either}
use Rattle.atomic_table.specs.Table.{State, Me, step, keeps, takes, gives, stepped, put_back, Act, Valid, carried_after, opening, Allows}
use Rattle.atomic_table.specs.Table.{Splits, Joins, Seen, Final}
use Rattle.atomic_table.proofs.Lists.{at_longer, at_set, set_again}
use Rattle.atomic_table.specs.Seated.{TableId}
use Rattle.vm_base.proofs.Functions.{eq_true}
use Rattle.std.proofs.Math.Logic.{∥∥₁_elim}
use Rattle.std.proofs.Props.{props}
use Rattle.machine_model.proofs.SoundKept.{reached_fine}
use Rattle.machine_model.specs.World.{World, Made}
use Rattle.machine_model.specs.Alone.{IsCalm}
use Rattle.core_steps.specs.Machine.{IsLegal}
use Rattle.shared.specs.declared.history.Turn.{Turn}
use Rattle.shared.specs.declared.history.JoinedCore.{JoinedCore}
use Rattle.shared.specs.declared.space.Known.{Known}
use Rattle.shared.specs.Histories.{IsOver, replied_by}
use Rattle.shared.specs.Turns.{AreInOrder, IsTold, Leads, NoneOf, left_by, log_in, turn}
use Rattle.shared.specs.Cores.{Agrees, IsBeside, made_of}
use Rattle.shared.specs.Rules.{CanGive, Fits, Gives, Holds, Home, Kept, Learns, Missed, Out, Takes, Took, after, first_known}
use Rattle.shared.specs.Rules.{given, holding, looked, padded, spent_core, split_known, view_of, with_other}
use Rattle.shared.proofs.TurnLemmas.{left_more, none_behind, none_more, order_more, others_keep, replied_on, sees_all, sees_more, told_on}
use Rattle.shared.proofs.Views.{above_spare, as_elem, each_at, each_both, each_end, each_front, not_both, not_true, one_entry, set_there, still_at}

module _ {S : Type 0} (state : S → World) (key : List S) where
  -- ---- the start

  pub opened : (d : S) → key ≡ d ∷ [] → IsLegal (state d) → IsCalm (state d) → 0 < (state d).made.cores
      → Kept state key (opening (padded 1) (d ∷ []) (first_known state key))
  opened d is legal calm some_core =
      let made : made_of state key ≡ (state d).made = ap (made_of state) is in
      let cores : (made_of state key).cores ≡ (state d).made.cores = ap (λ (m : Made). m.cores) made in
      let v : Known S = first_known state key in
      record {
        turns = [];
        seat_of = λ _. 0;
        gone = λ _. false;
        left = (made_of state key).cores - 1;
        few = omega (arith, cores, some_core);
        order = tt;
        each = each_end (λ id u. Fits state key [] (λ _. 0) (λ _. false) ((made_of state key).cores - 1) id u) [] v
            (λ k u e. absurd (some-ne-none u (sym e)))
            (record {
              seen = λ _. sees_all 0 [] [] refl;
              mine = λ _. refl;
              seat = λ _. refl;
              core = λ _. inl refl;
              here = λ _. omega (arith, cores, some_core);
              first = λ _. refl;
              stays = λ _. refl;
              spare = λ _. (refl, refl, refl);
              told = λ k t e. absurd (some-ne-none t (sym e));
            });
        unborn = λ _ _ _. (tt, refl);
        place = inl (record {
          machine = d;
          word = 1;
          words = refl;
          homes = refl;
          in_place = λ e. omega (arith, e);
          calm = λ _. calm;
          over = λ ne. absurd (ne refl);
          legal = legal;
          made = sym made;
          last = is;
          none_holds = each_end (λ _ (u : Known S). u.holds ≡ false) [] v (λ k u e. absurd (some-ne-none u (sym e))) refl;
        });
      }

  -- ---- the machine is taken

  -- a core that this one didn't take in has it
  beside : (space : TableId) (id : ℕ) (v : Known S) (s : State S (Known S)) (k : Kept state key s) → get_elem? s.views id ≡ some v
      → Out state s k.turns → v.live ≡ true → v.holds ≡ false → IsBeside state (view_of space v)
  beside space id v s k at o lives idle =
      let fits = k.each id v at in
      let u : Known S = o.held.0 in
      let has = k.each o.holder u o.held.1 in
      let live = o.held.2.live in (
        u.core,
        record {
          here = subst (λ (m : Made). u.core < m.cores) (ap (made_of state) (sym (fits.first lives))) (has.here live);
          other = λ same.
              let seats : o.holder ≡ id = sym (has.seat live) ∙ (ap k.seat_of same ∙ fits.seat lives) in
              let holds = subst Holds (one_entry s.views o.holder id u v o.held.1 at seats) o.held.2 in
              not_both v.holds idle holds.holds;
          split = above_spare v.spare k.left u.core (λ more. (fits.spare more).2) (has.core live);
          away = λ n t e same. not_both (k.gone u.core) (has.stays live) (ap k.gone (sym same) ∙ (fits.told n t (as_elem v.others n t e)).1);
        },
      )

  -- what a core learns that looks at the machine
  learns : (id : ℕ) (v : Known S) (s : State S (Known S)) (k : Kept state key s) (at : get_elem? s.views id ≡ some v) (lives : v.live ≡ true)
      → (f : Home state key s k.turns) → Learns state v ((k.each id v at).seen lives).rest f.machine
  learns id v s k at lives f =
      let fits = k.each id v at in
      let sees = fits.seen lives in
      let first = fits.first lives in
      record {
        others = sees.others;
        order = subst (λ (p : List S × List (Turn S)). AreInOrder state p.0 p.1) (λ i. (sym first i, sees.goes i)) k.order;
        last = (λ i. left_by (first i) (sym sees.goes i)) ∙ f.last;
        legal = f.legal;
        made = f.made ∙ ap (made_of state) (sym first);
        here = subst (λ (m : Made). v.core < m.cores) (sym f.made) (fits.here lives);
        mine = ap (λ l. replied_by v.core (log_in state l)) (sym f.last) ∙ fits.mine lives;
        joined = λ n t e. subst (λ (p : List S × List (Turn S)). IsTold state p.0 p.1 t) (λ i. (sym first i, sees.goes i)) (fits.told n t e).0;
      }

  -- what is so of a core that learned of all turns
  fits_looked : (left id : ℕ) (seat_of : ℕ → ℕ) (gone : ℕ → Bool) (turns : List (Turn S)) (v : Known S) (rest : List (Turn S)) → turns ≡ v.turns ++ rest
      → Fits state key turns seat_of gone left id v → (b : Bool) → Fits state key turns seat_of gone left id (record (looked v rest) { holds = b })
  fits_looked left id seat_of gone turns v rest goes fits b = record {
    seen = λ _. sees_all v.core (v.turns ++ rest) turns (sym goes);
    mine = fits.mine;
    seat = fits.seat;
    core = fits.core;
    here = fits.here;
    first = fits.first;
    stays = fits.stays;
    spare = fits.spare;
    told = fits.told;
  }

  abbrev TakesSo : (slots id : ℕ) → Me S (Known S) → State S (Known S) → Type 0
  TakesSo slots id me s = (w : Known S) × (a : Act S) × Valid s.homes me.1 a
      × Kept state key (stepped s 8 (either (eqb (slice_index s.words 8) 1) 0 (slice_index s.words 8)) id me.1 w a)
      × Takes state (step slots 8 1 0 none) me (slice_index s.words 8) (w, carried_after me.1 a)

  -- another core has it
  busy : (slots id : ℕ) (me : Me S (Known S)) (s : State S (Known S)) (k : Kept state key s) → get_elem? s.views id ≡ some me.0 → me.0.live ≡ true
      → Out state s k.turns → TakesSo slots id me s
  busy slots id me s k at lives o =
      let there : slice_index s.words 8 ≡ 0 = ap (λ ws. slice_index ws 8) o.words in
      let words : set s.words 8 (either (eqb (slice_index s.words 8) 1) 0 (slice_index s.words 8)) ≡ s.words =
      ap (λ ws. set ws 8 (either (eqb (slice_index ws 8) 1) 0 (slice_index ws 8))) o.words ∙ sym o.words in
      let views : set s.views id me.0 ≡ s.views = set_again s.views id me.0 at in (
        me.0,
        keeps,
        tt,
        subst (λ (x : List ℕ × List (Known S)). Kept state key record { words = x.0; homes = s.homes; views = x.1 }) (λ i. (sym words i, sym views i)) k,
        subst (λ m. Took state m me me) (sym there) (refl, λ idle space. beside space id me.0 s k at o lives idle),
      )

  -- no call can begin any more
  spent : (slots id : ℕ) (me : Me S (Known S)) (s : State S (Known S)) (k : Kept state key s) → get_elem? s.views id ≡ some me.0 → me.0.live ≡ true
      → (f : Home state key s k.turns) → eqb f.word 1 ≡ false → TakesSo slots id me s
  spent slots id me s k at lives f differs =
      let n : ℕ = f.word in
      let there : slice_index s.words 8 ≡ n = ap (λ ws. slice_index ws 8) f.words in
      let words : set s.words 8 (either (eqb (slice_index s.words 8) 1) 0 (slice_index s.words 8)) ≡ padded n =
      ap (λ ws. set ws 8 (either (eqb (slice_index ws 8) 1) 0 (slice_index ws 8))) f.words ∙ ap (λ b. padded (either b 0 n)) differs in
      let sees = (k.each id me.0 at).seen lives in
      let w : Known S = looked me.0 sees.rest in
      let not_zero : eqb n 0 ≡ false = ne_eqb n 0 f.in_place in (
        w,
        keeps,
        tt,
        record {
          turns = k.turns;
          seat_of = k.seat_of;
          gone = k.gone;
          left = k.left;
          few = k.few;
          order = k.order;
          each = each_at (λ j v. Fits state key k.turns k.seat_of k.gone k.left j v) s.views id w (λ j v _ e. k.each j v e)
              (fits_looked k.left id k.seat_of k.gone k.turns me.0 sees.rest sees.goes (k.each id me.0 at) me.0.holds);
          unborn = k.unborn;
          place = inl (record {
            machine = f.machine;
            word = n;
            words = words;
            homes = f.homes;
            in_place = f.in_place;
            calm = f.calm;
            over = f.over;
            legal = f.legal;
            made = f.made;
            last = f.last;
            none_holds = each_at (λ _ (v : Known S). v.holds ≡ false) s.views id w (λ j v _ e. f.none_holds j v e) (f.none_holds id me.0 at);
          });
        },
        subst (λ m. Took state m me (w, me.1)) (sym there) (missed n (w, me.1) differs not_zero (
          f.machine,
          sees.rest,
          refl,
          learns id me.0 s k at lives f,
          f.over (λ one. let z = sym (ap (λ n. eqb n 1) one) ∙ differs in cc),
        )),
      )
    where
      missed : (n : ℕ) (w : Me S (Known S)) → eqb n 1 ≡ false → eqb n 0 ≡ false
          → (d : S) × (rest : List (Turn S)) × (w ≡ (looked me.0 rest, me.1)) × Learns state me.0 rest d × IsOver (state d) → Took state n me w
      missed n w e f z = subst (λ b. MatchBool b ((d : S) × (rest : List (Turn S)) × (w ≡ (holding me.0 rest, (0, d) ∷ me.1)) × Learns state me.0 rest d
          × IsCalm (state d)) (Missed state n me w)) (sym e)
          (subst (λ b. MatchBool b ((w ≡ me) × (me.0.holds ≡ false → (space : TableId) → IsBeside state (view_of space me.0)))
          ((d : S) × (rest : List (Turn S)) × (w ≡ (looked me.0 rest, me.1)) × Learns state me.0 rest d × IsOver (state d))) (sym f) z)

  taken : (slots id : ℕ) (me : Me S (Known S)) (s : State S (Known S)) (k : Kept state key s) → get_elem? s.views id ≡ some me.0 → me.0.live ≡ true
      → (f : Home state key s k.turns) → f.word ≡ 1 → TakesSo slots id me s
  taken slots id me s k at live f home =
      let d : S = f.machine in
      let sees = (k.each id me.0 at).seen live in
      let w : Known S = holding me.0 sees.rest in
      let me' : Me S (Known S) = (w, (0, d) ∷ me.1) in
      let words : s.words ≡ padded 1 = f.words ∙ ap padded home in
      let one : slice_index s.words 8 ≡ 1 = ap (λ ws. slice_index ws 8) words in (
        w,
        takes 0 d,
        ap (λ h. get_elem? h 0) f.homes,
        record {
          turns = k.turns;
          seat_of = k.seat_of;
          gone = k.gone;
          left = k.left;
          few = k.few;
          order = k.order;
          each = each_at (λ j v. Fits state key k.turns k.seat_of k.gone k.left j v) s.views id w (λ j v _ e. k.each j v e)
              (fits_looked k.left id k.seat_of k.gone k.turns me.0 sees.rest sees.goes (k.each id me.0 at) true);
          unborn = k.unborn;
          place = inr (record {
            holder = id;
            words = ap (λ ws. set ws 8 (either (eqb (slice_index ws 8) 1) 0 (slice_index ws 8))) words;
            homes = ap (λ h. set h 0 none) f.homes;
            held = (w, set_there s.views id me.0 w at, record { holds = refl; live = live });
            one_holds = each_at (λ j (v : Known S). v.holds ≡ true → (j ≡ id) × (v.turns ≡ k.turns)) s.views id w
                (λ j v _ e yes. absurd (not_both v.holds (f.none_holds j v e) yes)) (λ _. (refl, sym sees.goes));
          });
        },
        subst (λ m. Took state m me me') (sym one) (d, sees.rest, refl, learns id me.0 s k at live f, f.calm home),
      )

  pub take_keeps : (slots id : ℕ) (me : Me S (Known S)) → me.0.live ≡ true
      → Allows (Kept state key) slots id me 8 (λ n. either (eqb n 1) 0 n) (Takes state (step slots 8 1 0 none) me)
  take_keeps slots id me live s k wide at small = ⊎_elim
      (λ (f : Home state key s k.turns). at_home f (eqb f.word 1) refl)
      (λ (o : Out state s k.turns). busy slots id me s k at live o)
      k.place
    where
      at_home : (f : Home state key s k.turns) (b : Bool) → eqb f.word 1 ≡ b → TakesSo slots id me s
      at_home f true e = taken slots id me s k at live f (eq_true f.word 1 e)
      at_home f false e = spent slots id me s k at live f e

  -- ---- the machine is given back

  pub give_keeps : (slots id : ℕ) (me : Me S (Known S)) (d : S) (word : ℕ) → me.1 ≡ (0, d) ∷ [] → CanGive state me.0 d word
      → Allows (Kept state key) slots id me 8 (λ _. word) (λ _. Gives state (step slots 8 word 0 none) me word)
  give_keeps slots id me d word has can s k wide at small = ⊎_elim
      (λ (f : Home state key s k.turns). absurd (not_both me.0.holds (f.none_holds id me.0 at) can.holds))
      (λ (o : Out state s k.turns).
      let fits = k.each id me.0 at in
      let first = fits.first can.live in
      let here = o.one_holds id me.0 at can.holds in
      let mine : Turn S = turn me.0.core d in
      let turns : List (Turn S) = k.turns ++ mine ∷ [] in
      let x : S = can.leads.0 in
      let last : left_by key k.turns ≡ x ∷ [] = (λ i. left_by (sym first i) (sym here.1 i)) ∙ can.leads.1 in
      let leads : Leads state (state x) me.0.core (state d) = can.leads.2 in
      let w : Known S = given state me.0 me.1 in
      let gave : w ≡ after state me.0 d = ap (given state me.0) has in
      let told_more : (t : JoinedCore S) → IsTold state key k.turns t × (k.gone t.core ≡ true) → IsTold state key turns t × (k.gone t.core ≡ true) = λ t old.
      (told_on state key k.turns x mine t last leads (λ same. not_both (k.gone t.core) (ap k.gone same ∙ fits.stays can.live) old.1) old.0, old.1) in (
        w,
        gives,
        tt,
        record {
          turns = turns;
          seat_of = k.seat_of;
          gone = k.gone;
          left = k.left;
          few = k.few;
          order = order_more state key k.turns x mine k.order last leads;
          each = each_at (λ j v. Fits state key turns k.seat_of k.gone k.left j v) s.views id w
              (λ j v other there.
              let old = k.each j v there in
              let differ : v.live ≡ true → v.core ≢ me.0.core = λ lives same. other (sym (old.seat lives) ∙ (ap k.seat_of same ∙ fits.seat can.live)) in
              record {
                seen = λ lives. sees_more v.core v.turns k.turns mine (old.seen lives) (λ same. differ lives (sym same));
                mine = λ lives. replied_on state v.core key k.turns x mine last leads (differ lives) ∙ old.mine lives;
                seat = old.seat;
                core = old.core;
                here = old.here;
                first = old.first;
                stays = old.stays;
                spare = old.spare;
                told = λ n t e. told_more t (old.told n t e);
              })
              (subst (λ (u : Known S). Fits state key turns k.seat_of k.gone k.left id u) (sym gave) (record {
                seen = λ _. sees_all me.0.core (me.0.turns ++ mine ∷ []) turns (ap (λ l. l ++ mine ∷ []) here.1);
                mine = λ _. ap (λ l. replied_by me.0.core (log_in state l)) (left_more key k.turns mine);
                seat = fits.seat;
                core = fits.core;
                here = fits.here;
                first = fits.first;
                stays = fits.stays;
                spare = fits.spare;
                told = λ n t e. told_more t (fits.told n t e);
              }));
          unborn = λ c low high.
              let differ : me.0.core ≢ c = λ same. ⊎_elim (λ (z : me.0.core ≡ 0). absurd (omega (arith, sym same ∙ z)))
              (λ (l : k.left < me.0.core). absurd (omega (arith, same)))
              (fits.core can.live) in
              (none_more c k.turns mine (k.unborn c low high).0 differ, (k.unborn c low high).1);
          place = inl (record {
            machine = d;
            word = word;
            words = ap (λ ws. set ws 8 word) o.words;
            homes = λ i. put_back (o.homes i) (has i);
            in_place = can.in_place;
            calm = can.calm;
            over = can.over;
            legal = leads.legal;
            made = can.made ∙ ap (made_of state) first;
            last = left_more key k.turns mine;
            none_holds = each_at (λ _ (v : Known S). v.holds ≡ false) s.views id w
                (λ j v other there. not_true v.holds (λ yes. other ((o.one_holds j v there yes).0 ∙ sym here.0))) (ap (λ (u : Known S). u.holds) gave);
          });
        },
        refl,
      ))
      k.place

  -- ---- a core is split off

  pub split_keeps : (id : ℕ) (v : Known S) → 0 < v.spare → Splits (Kept state key) id v (record v { spare = v.spare - 1 }) (split_known state v)
  split_keeps id v some_spare s k at =
      let fits = k.each id v at in
      let is = fits.spare some_spare in
      let l : Known S = record v { spare = v.spare - 1 } in
      let r : Known S = split_known state v in
      let vs : List (Known S) = set s.views id l in
      let seat_of : ℕ → ℕ = λ c. cond (eqb c v.spare) (length vs) (k.seat_of c) in
      let left : ℕ = k.left - 1 in
      let is_left : v.spare ≡ k.left = is.2 in
      let sees = fits.seen is.0 in
      let first : v.first ≡ key = fits.first is.0 in
      let order = subst (λ (p : List S × List (Turn S)). AreInOrder state p.0 p.1) (λ i. (sym first i, sees.goes i)) k.order in
      let apart : (c : ℕ) → (c ≡ 0) ⊎ (k.left < c)
      → c ≢ v.spare = λ c lies same. ⊎_elim (λ (z : c ≡ 0). absurd (omega (arith, some_spare, same, z)))
      (λ (m : k.left < c). absurd (omega (arith, same, is_left, m))) lies in
      let stays : (c : ℕ) → (c ≡ 0) ⊎ (k.left < c)
      → seat_of c ≡ k.seat_of c = λ c lies. ap (λ b. cond b (length vs) (k.seat_of c)) (ne_eqb c v.spare (apart c lies)) in
      let above : (c : ℕ) → (c ≡ 0) ⊎ (k.left < c) → (c ≡ 0) ⊎ (left < c) = λ c lies. ⊎_elim (λ z. inl z) (λ (m : k.left < c). inr (omega (arith, m))) lies in
      let unborn = k.unborn v.spare (omega (arith, some_spare)) (omega (arith, is_left)) in
      let others : NoneOf v.spare sees.rest = none_behind v.spare v.turns sees.rest (subst (NoneOf v.spare) sees.goes unborn.0) in
      record {
        turns = k.turns;
        seat_of = seat_of;
        gone = k.gone;
        left = left;
        few = let few = k.few in omega (arith, few);
        order = k.order;
        each = each_end (λ j u. Fits state key k.turns seat_of k.gone left j u) vs r
            (each_at (λ j u. Fits state key k.turns seat_of k.gone left j u) s.views id l
            (λ j u other there.
            let old = k.each j u there in
            record {
              seen = old.seen;
              mine = old.mine;
              seat = λ lives. stays u.core (old.core lives) ∙ old.seat lives;
              core = λ lives. above u.core (old.core lives);
              here = old.here;
              first = old.first;
              stays = old.stays;
              spare = λ more. let o = old.spare more in absurd (other (sym (old.seat o.0) ∙ (ap k.seat_of (o.1 ∙ sym is.1) ∙ fits.seat is.0)));
              told = old.told;
            })
            (record {
              seen = fits.seen;
              mine = fits.mine;
              seat = λ lives. stays v.core (fits.core lives) ∙ fits.seat lives;
              core = λ lives. above v.core (fits.core lives);
              here = fits.here;
              first = fits.first;
              stays = fits.stays;
              spare = λ _. (is.0, is.1, omega (arith, is_left));
              told = fits.told;
            }))
            (record {
              seen = λ _. record { rest = sees.rest; goes = sees.goes; others = others };
              mine = λ _. (λ i. replied_by v.spare (log_in state (left_by (sym first i) (sees.goes i))))
                  ∙ others_keep state v.spare v.first v.turns sees.rest order others;
              seat = λ _. ap (λ b. cond b (length vs) (k.seat_of v.spare)) (eq-eqb v.spare v.spare refl);
              core = λ _. inr (omega (arith, is_left, some_spare));
              here = λ _. let few = k.few in omega (arith, is_left, few);
              first = λ _. fits.first is.0;
              stays = λ _. unborn.1;
              spare = λ more. absurd (omega (arith, more));
              told = λ n t here. absurd (some-ne-none t (sym here));
            });
        unborn = λ c low high. k.unborn c low (omega (arith, high));
        place = ⊎_elim
            (λ (f : Home state key s k.turns). inl (record {
              machine = f.machine;
              word = f.word;
              words = f.words;
              homes = f.homes;
              in_place = f.in_place;
              calm = f.calm;
              over = f.over;
              legal = f.legal;
              made = f.made;
              last = f.last;
              none_holds = each_end (λ _ (u : Known S). u.holds ≡ false) vs r
                  (each_at (λ _ (u : Known S). u.holds ≡ false) s.views id l (λ j u _ e. f.none_holds j u e) (f.none_holds id v at)) refl;
            }))
            (λ (o : Out state s k.turns). inr (record {
              holder = o.holder;
              words = o.words;
              homes = o.homes;
              held =
                  let stays = still_at Holds s.views id o.holder v o.held.0 l at o.held.1 o.held.2
                  (λ same. let h = subst Holds (one_entry s.views o.holder id o.held.0 v o.held.1 at same) o.held.2 in record { holds = h.holds; live = h.live }) in
                  (stays.0, at_longer vs (r ∷ []) o.holder stays.0 stays.1, stays.2);
              one_holds = each_end (λ j (u : Known S). u.holds ≡ true → (j ≡ o.holder) × (u.turns ≡ k.turns)) vs r
                  (each_at (λ j (u : Known S). u.holds ≡ true → (j ≡ o.holder) × (u.turns ≡ k.turns)) s.views id l (λ j u _ e. o.one_holds j u e)
                  (o.one_holds id v at))
                  (λ yes. absurd (cc yes));
            }))
            k.place;
      }

  -- ---- a core is taken in

  still : (b c : Bool) → c ≡ true → cond b true c ≡ true
  still true c e = refl
  still false c e = e

  pub join_keeps : (id : ℕ) (v : Known S) (other : ℕ) (w : Known S) → v.live ≡ true → v.holds ≡ false → w.live ≡ true → w.holds ≡ false
      → Joins (Kept state key) id v other w (with_other v w) spent_core
  join_keeps id v other w lives idle lives' idle' s k at apart there' =
      let b : Known S = with_other v w in
      let vs : List (Known S) = set s.views id b in
      let there : get_elem? s.views other ≡ some w =
      ⊎_elim (λ (t : (other ≡ id) × (b ≡ w)). absurd (apart t.0)) (λ (t : (other ≢ id) × (get_elem? s.views other ≡ some w)). t.1)
      (at_set s.views id other b w there') in
      let fits = k.each id v at in
      let last = k.each other w there in
      let gone : ℕ → Bool = λ c. cond (eqb c w.core) true (k.gone c) in
      let still_here : (c : ℕ) → c ≢ w.core → k.gone c ≡ false → gone c ≡ false = λ c not e. ap (λ y. cond y true (k.gone c)) (ne_eqb c w.core not) ∙ e in
      let told_still : (t : JoinedCore S) → IsTold state key k.turns t × (k.gone t.core ≡ true) → IsTold state key k.turns t × (gone t.core ≡ true) =
      λ t old. (old.0, still (eqb t.core w.core) (k.gone t.core) old.1) in
      let new : JoinedCore S = record { core = w.core; turns = w.turns; mine = w.mine } in
      record {
        turns = k.turns;
        seat_of = k.seat_of;
        gone = gone;
        left = k.left;
        few = k.few;
        order = k.order;
        each = each_at (λ j u. Fits state key k.turns k.seat_of gone k.left j u) vs other spent_core
            (λ j u far here. each_at (λ j u. j ≢ other → Fits state key k.turns k.seat_of gone k.left j u) s.views id b
            (λ j u _ here far.
            let old = k.each j u here in
            record {
              seen = old.seen;
              mine = old.mine;
              seat = old.seat;
              core = old.core;
              here = old.here;
              first = old.first;
              stays = λ lives. still_here u.core (λ same. far (sym (old.seat lives) ∙ (ap k.seat_of same ∙ last.seat lives'))) (old.stays lives);
              spare = old.spare;
              told = λ n t e. told_still t (old.told n t e);
            })
            (λ _. record {
              seen = fits.seen;
              mine = fits.mine;
              seat = fits.seat;
              core = fits.core;
              here = fits.here;
              first = fits.first;
              stays = λ _. still_here v.core (λ same. apart (sym (last.seat lives') ∙ (ap k.seat_of (sym same) ∙ fits.seat lives))) (fits.stays lives);
              spare = fits.spare;
              told = each_both (λ t. IsTold state key k.turns t × (gone t.core ≡ true)) v.others (new ∷ w.others) (λ n t e. told_still t (fits.told n t e))
                  (each_front (λ t. IsTold state key k.turns t × (gone t.core ≡ true)) new w.others
                  (record { seen = last.seen lives'; mine = last.mine lives' }, ap (λ y. cond y true (k.gone w.core)) (eq-eqb w.core w.core refl))
                  (λ n t e. told_still t (last.told n t e)));
            }) j u here far)
            (record {
              seen = λ yes. absurd (cc yes);
              mine = λ yes. absurd (cc yes);
              seat = λ yes. absurd (cc yes);
              core = λ yes. absurd (cc yes);
              here = λ yes. absurd (cc yes);
              first = λ yes. absurd (cc yes);
              stays = λ yes. absurd (cc yes);
              spare = λ more. absurd (omega (arith, more));
              told = λ n t e. absurd (some-ne-none t (sym e));
            });
        unborn = λ c low high.
            let old = k.unborn c low high in (
              old.0,
              still_here c (λ same. ⊎_elim (λ (z : w.core ≡ 0). absurd (omega (arith, same ∙ z)))
                  (λ (m : k.left < w.core). absurd (omega (arith, same))) (last.core lives')) old.1,
            );
        place = ⊎_elim
            (λ (f : Home state key s k.turns). inl (record {
              machine = f.machine;
              word = f.word;
              words = f.words;
              homes = f.homes;
              in_place = f.in_place;
              calm = f.calm;
              over = f.over;
              legal = f.legal;
              made = f.made;
              last = f.last;
              none_holds = each_at (λ _ (u : Known S). u.holds ≡ false) vs other spent_core
                  (λ j u _ e. each_at (λ _ (u : Known S). u.holds ≡ false) s.views id b (λ j u _ e. f.none_holds j u e) idle j u e) refl;
            }))
            (λ (o : Out state s k.turns). inr (record {
              holder = o.holder;
              words = o.words;
              homes = o.homes;
              held =
                  let first = still_at Holds s.views id o.holder v o.held.0 b at o.held.1 o.held.2
                  (λ same. let h = subst Holds (one_entry s.views o.holder id o.held.0 v o.held.1 at same) o.held.2 in record { holds = h.holds; live = lives }) in
                  still_at Holds vs other o.holder w first.0 spent_core there' first.1 first.2
                  (λ same. let h = subst Holds (one_entry vs o.holder other first.0 w first.1 there' same) first.2 in
                  absurd (not_both w.holds idle' h.holds));
              one_holds = each_at (λ j (u : Known S). u.holds ≡ true → (j ≡ o.holder) × (u.turns ≡ k.turns)) vs other spent_core
                  (λ j u _ e. each_at (λ j (u : Known S). u.holds ≡ true → (j ≡ o.holder) × (u.turns ≡ k.turns)) s.views id b (λ j u _ e. o.one_holds j u e)
                  (λ yes. absurd (not_both v.holds idle yes)) j u e)
                  (λ yes. absurd (cc yes));
            }))
            k.place;
      }

  -- ---- the end

  -- where the word isn't 0, the machine that was at home is as the last turn left it
  pub closes : (space : TableId) (id : ℕ) (v : Known S) (ws : List ℕ) (xs : List S) (d : S) (word : ℕ) → v.live ≡ true
      → Final (Seen (Kept state key) id v) ws xs
      → get_elem? ws 8 ≡ some word → word ≢ 0 → get_elem? xs 0 ≡ some d → Agrees state d (view_of space v)
  closes space id v ws xs d word lives end there home here =
      let s = end.0 in
      let k : Kept state key s = end.1.0 in
      let fits = k.each id v end.1.1 in
      let first = fits.first lives in
      let words : s.words ≡ ws = end.2 in
      ⊎_elim
      (λ (f : Home state key s k.turns).
      let same : f.machine ≡ d = sym (some-injective d f.machine (sym here ∙ end.4 0 f.machine (ap (λ h. get_elem? h 0) f.homes))) in
      record {
        turns = k.turns;
        order = subst (λ l. AreInOrder state l k.turns) (sym first) k.order;
        last = ap (λ l. left_by l k.turns) first ∙ f.last ∙ ap (λ x. x ∷ []) same;
        legal = subst (λ (x : S). IsLegal (state x)) same f.legal;
        made = sym (ap (λ (x : S). (state x).made) same) ∙ (f.made ∙ ap (made_of state) (sym first));
        own = subst (λ l. IsTold state l k.turns (told v)) (sym first) (record { seen = fits.seen lives; mine = fits.mine lives });
        others = λ n t e. subst (λ l. IsTold state l k.turns t) (sym first) (fits.told n t (as_elem v.others n t e)).0;
      })
      (λ (o : Out state s k.turns). absurd
      (let e : some 0 ≡ some word = ap (λ l. get_elem? l 8) (sym o.words ∙ words) ∙ there in home (sym (some-injective 0 word e))))
      k.place
    where
      told : Known S → JoinedCore S
      told v = record { core = v.core; turns = v.turns; mine = v.mine }

  -- where it is 0, a core that this one didn't take in has the machine
  pub loses : (space : TableId) (id : ℕ) (v : Known S) (ws : List ℕ) (xs : List S) (word : ℕ) → v.live ≡ true → v.holds ≡ false
      → Final (Seen (Kept state key) id v) ws xs → get_elem? ws 8 ≡ some word → word ≡ 0 → IsBeside state (view_of space v)
  loses space id v ws xs word lives idle end there out =
      let s = end.0 in
      let k : Kept state key s = end.1.0 in
      let words : s.words ≡ ws = end.2 in
      ⊎_elim
      (λ (f : Home state key s k.turns). absurd
      (let e : some f.word ≡ some word = ap (λ l. get_elem? l 8) (sym f.words ∙ words) ∙ there in f.in_place (some-injective f.word word e ∙ out)))
      (λ (o : Out state s k.turns). beside space id v s k end.1.1 o lives idle)
      k.place

-- a legal machine has 64 cores at the most
pub few_cores : (w : World) → IsLegal w → w.made.cores ≤ 64
few_cores w legal = ∥∥₁_elim legal.reached (hlevel props) (λ r. (reached_fine w r).order.few)
