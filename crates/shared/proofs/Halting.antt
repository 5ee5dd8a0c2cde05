-- A call halts, is let go, or is given up, and is ended
use Rattle.machine_model.proofs.Words.{◌≡◌, ◌≢◌, ℕ, ◌+◌, ◌<◌, ◌≤◌, arith, Bool, true, false, refl, sym, ap, subst, None, ◌∙◌, inl}
use Rattle.machine_model.proofs.Words.{inr, ◌⊎◌, ⊎_elim, World, Request, Reply}
use Rattle.machine_model.proofs.Words.{Step, members, awaited, eq_true, ◌==◌}
use Rattle.machine_model.proofs.Words.{nat_tests, Result, ∥∥₁_elim, props}
use Rattle.machine_model.specs.declared.event.Event.TheVariants.{Call}
use Rattle.machine_model.specs.declared.event.Outcome.{Outcome}
use Rattle.machine_model.specs.declared.event.Outcome.TheVariants.{Stepped, Answered, Full, Idle, Wait}
use Rattle.machine_model.specs.declared.phase.Phase.TheVariants.{Free}
use Rattle.machine_model.proofs.Going.{has_core}
use Rattle.machine_model.proofs.Shapes.{handed_out}
use Rattle.machine_model.specs.declared.event.Event.TheVariants as EventOf
use Rattle.vm_base.specs.declared.memory.NoMemory.{NoMemory}
use Rattle.machine_model.proofs.SoundKept.{reached_fine}
use Rattle.machine_model.specs.Alone.{IsCalm, left_to}
use Rattle.core_steps.specs.declared.machine.Finished.{Finished}
use Rattle.core_steps.specs.declared.machine.Finished.TheVariants.{Last, Stuck}
use Rattle.core_steps.specs.Finishing.{Calls, Finishes, FinishesAfter, IsCallRefused, IsRefused}
use Rattle.core_steps.specs.Moving.{Tries}
use Rattle.core_steps.specs.Machine.{IsLegal}
use Rattle.shared.specs.declared.whole.CallEnd.{CallEnd}
use Rattle.shared.specs.declared.whole.CallEnd.TheVariants as To
use Rattle.shared.specs.Histories.{Ends, IsOver}
use Rattle.shared.specs.Calling.{ComesTo, EndsFrom, Halts, HaltsTo, InCall, IsAnswered, IsLetGo, LeavesHalted, Rests, TakesPast, Wants, ended_by, is_answered}
use Rattle.shared.proofs.InCalls.{Ends-at-once, along, began, call_begins, call_made, call_refused, calls_first, event_on, finish_ends}
use Rattle.shared.proofs.InCalls.{finish_made, finish_on, gives_beside, refused_on, takes_beside, tried}
use Rattle.shared.proofs.Limits.{AnswersOr, IsClosing, Taken, begun_rests, begun_short, closing_finishes, closing_refused, gives_up}
use Rattle.shared.proofs.Limits.{left_awaited, left_below, let_go_finishes, none_left, over_stays, refused_full, take_rests, two_at_most}
use Rattle.shared.proofs.Limits.{wants_busy}

-- ---- a call comes to its reply, or halts

halted : (w m : World) (c : ℕ) (request : Request) (o : Outcome) (v : World) → IsLegal w → IsCalm w → Step w (Call c request) Stepped m
    → InCall w c request m → handed_out o ≡ None
    → ((reply : Reply) → o ≢ Answered reply) → Finishes m c (Last o) v → Halts w c request v
halted w m c request o v legal calm s k quiet unanswered f =
    let on = finish_on w c request m (Last o) v k f quiet in
    (on, begun_rests w m c request o v legal calm s on.made unanswered f)

finished_comes : (w : World) (c : ℕ) (request : Request) (m : World) (finished : Finished) (v : World) → IsLegal w → IsCalm w
    → Step w (Call c request) Stepped m → InCall w c request m
    → Finishes m c finished v → ComesTo finished w c request v
finished_comes w c request m Stuck v legal calm s k f = absurd (begun_short w m c request v legal calm s f)
finished_comes w c request m (Last (Answered reply)) v legal calm s k f = finish_ends w c request m reply v k f
finished_comes w c request m (Last Stepped) v legal calm s k f = absurd (f.1.1 refl)
finished_comes w c request m (Last (Wait by)) v legal calm s k f = inl (halted w m c request (Wait by) v legal calm s k refl (λ reply e. cc) f)
finished_comes w c request m (Last Idle) v legal calm s k f = inl (halted w m c request Idle v legal calm s k refl (λ reply e. cc) f)
finished_comes w c request m (Last Full) v legal calm s k f = inl (halted w m c request Full v legal calm s k refl (λ reply e. cc) f)

-- none could begin
refused_comes : (w : World) (c : ℕ) (request : Request) (o : Outcome) (m : World) → c < w.made.cores → IsLegal w → IsCalm w → o ≢ Stepped
    → Step w (Call c request) o m
    → ComesTo (Last o) w c request m
refused_comes w c request (Answered reply) m here legal calm ne s = absurd (let z = (call_refused w c request (Answered reply) m legal calm ne s).1 in cc)
refused_comes w c request Stepped m here legal calm ne s = absurd (ne refl)
refused_comes w c request (Wait by) m here legal calm ne s = let z = (call_refused w c request (Wait by) m legal calm ne s).0 in
    inr (z.calm, z.adds, refused_full w c request (Wait by) m here calm ne s)
refused_comes w c request Idle m here legal calm ne s = let z = (call_refused w c request Idle m legal calm ne s).0 in
    inr (z.calm, z.adds, refused_full w c request Idle m here calm ne s)
refused_comes w c request Full m here legal calm ne s = let z = (call_refused w c request Full m legal calm ne s).0 in
    inr (z.calm, z.adds, refused_full w c request Full m here calm ne s)

call_comes : (w : World) (c : ℕ) (request : Request) (finished : Finished) (v : World) → c < w.made.cores → IsLegal w → IsCalm w → Calls w c request finished v
    → ComesTo finished w c request v
call_comes w c request finished v here legal calm k = ⊎_elim
    (λ (e : k.0 ≡ Stepped).
    let s = subst (λ o. Step w (Call c request) o k.1) e k.2 in
    finished_comes w c request k.1 finished v legal calm s (call_begins w c request k.1 legal calm s) (subst (λ o. FinishesAfter k.1 c o finished v) e k.3))
    (λ (h : Ends-at-once k.0).
    let y = h.1 k.1 finished c v k.3 in
    subst (λ (p : Finished × World). ComesTo p.0 w c request p.1) (λ i. (sym y.1 i, sym y.0 i)) (refused_comes w c request k.0 k.1 here legal calm h.0 k.2))
    (began k.0)

-- a call and what settles it
pub call_settles : (w : World) (c : ℕ) (request : Request) (finished : Finished) (m : World) (ended : CallEnd) (v : World) → c < w.made.cores → IsLegal w
    → IsCalm w
    → Calls w c request finished m → EndsFrom (ComesTo finished) m c ended v → Ends w c request ended v × (v.made ≡ w.made)
call_settles w c request finished m ended v here legal calm called settled =
    settled w request (call_made w c request finished m called) (call_comes w c request finished m here legal calm called)

-- a call that was refused memory, and how it is given up
pub call_gives_up : (kept : Bool) (w : World) (c : ℕ) (request : Request) (m : World) (ended : CallEnd) (v : World) → IsLegal w → IsCalm w
    → IsCallRefused kept w c request m
    → EndsFrom Wants m c ended v → Ends w c request ended v × (v.made ≡ w.made)
call_gives_up kept w c request m ended v legal calm k ends =
    let on = along w c request k.0 (call_begins w c request k.0 legal calm k.1) k.2.0 m k.2.3 in
    ends w request on.made (on, (kept, k.2.2))

-- ---- what settles a call

pub settled_answered : (x : World) (c : ℕ) (finished : Finished) (ended : CallEnd) → is_answered finished ≡ true → ended ≡ ended_by finished
    → EndsFrom (ComesTo finished) x c ended x
settled_answered x c (Last (Answered reply)) ended a e = λ w request made k. (subst (λ (e : CallEnd). Ends w c request e x) (sym e) k, made)
settled_answered x c (Last Stepped) ended a e = absurd cc
settled_answered x c (Last (Wait by)) ended a e = absurd cc
settled_answered x c (Last Idle) ended a e = absurd cc
settled_answered x c (Last Full) ended a e = absurd cc
settled_answered x c Stuck ended a e = absurd cc

-- a call that isn't answered halts, or none began
not_answered : (w : World) (c : ℕ) (request : Request) (finished : Finished) (x : World) → is_answered finished ≡ false → ComesTo finished w c request x
    → Halts w c request x ⊎ Ends w c request To.Refused x
not_answered w c request (Last (Answered reply)) x a k = absurd cc
not_answered w c request (Last Stepped) x a k = k
not_answered w c request (Last (Wait by)) x a k = k
not_answered w c request (Last Idle) x a k = k
not_answered w c request (Last Full) x a k = k
not_answered w c request Stuck x a k = k

pub settled_free : (x : World) (c : ℕ) (finished : Finished) → is_answered finished ≡ false → x.calls.phase c ≡ Free
    → EndsFrom (ComesTo finished) x c To.Refused x
settled_free x c finished a free = λ w request made k. (
  ⊎_elim (λ (i : Halts w c request x). absurd (i.0.runs free)) (λ (e : Ends w c request To.Refused x). e) (not_answered w c request finished x a k),
  made,
)

pub settled_waits : (x : World) (c : ℕ) (finished : Finished) (ended : CallEnd) (v : World) → is_answered finished ≡ false → x.calls.phase c ≢ Free
    → EndsFrom Halts x c ended v
    → EndsFrom (ComesTo finished) x c ended v
settled_waits x c finished ended v a runs ends = λ w request made k.
    ⊎_elim (λ (i : Halts w c request x). ends w request made i) (λ (e : Ends w c request To.Refused x). absurd (runs (e.0 c)))
    (not_answered w c request finished x a k)

-- ---- takes

-- who isn't awaited takes nothing
pub not_awaited : (awaited other : ℕ) (x : World) (c : ℕ) → members awaited other ≡ false → TakesPast awaited other x c x
not_awaited awaited other x c none = λ w request k. (k, λ over. over, λ r. inl (r, λ d some. (some, λ is. absurd (let z = sym is ∙ none in cc))))

-- a take at the limit
over_on : (x v : World) (d : ℕ) (o : Outcome) → Step x (EventOf.Take d) o v → IsOver x → IsOver v
over_on x v d o s over = subst IsOver (sym (over_stays x (EventOf.Take d) o v over s).1) over

both_taken : (awaited other : ℕ) (x y v : World) → Taken x y other → Taken y v other → (d : ℕ) → 0 < left_to v d
    → (0 < left_to x d) × (members awaited other ≡ true → d ≢ other)
both_taken awaited other x y v one two d some = (
  one.fewer d (two.fewer d some),
  λ _ same. let none : left_to v d ≡ 0 = subst (λ n. left_to v n ≡ 0) (sym same) (two_at_most x y v other one two) in omega (arith, none, some),
)

-- who is takes twice
pub takes_past : (awaited other : ℕ) (x y v : World) (c : ℕ) (r q : Result Outcome NoMemory) → Tries (Step x (EventOf.Take other)) ⊥ x r y
    → Tries (Step y (EventOf.Take other)) ⊥ y q v → TakesPast awaited other x c v
takes_past awaited other x y v c r q first second = λ w request k.
    let one = tried ⊥ x y (EventOf.Take other) r (λ z. z) first in
    let two = tried ⊥ y v (EventOf.Take other) q (λ z. z) second in
    let on = event_on w c request x y (EventOf.Take other) one.0 (takes_beside other) k one.1 in (
      event_on w c request y v (EventOf.Take other) two.0 (takes_beside other) on two.1,
      λ over. over_on y v other two.0 two.1 (over_on x y other one.0 one.1 over),
      λ rests. ⊎_elim
          (λ (a : Rests c request y × Taken x y other). ⊎_elim
          (λ (b : Rests c request v × Taken y v other). inl (b.0, both_taken awaited other x y v a.1 b.1))
          (λ (over : IsOver v). inr over)
          (take_rests y v c request other two.0 a.0 two.1))
          (λ (over : IsOver y). inr (over_on y v other two.0 two.1 over))
          (take_rests x y c request other one.0 rests one.1),
    )

-- at first just the awaited have takes before them
pub halts_first : (set : ℕ) (x : World) (c : ℕ) → members set ≡ awaited x.hardware.inbox c → LeavesHalted (HaltsTo set 0) x c x
halts_first set x c is = λ w request k. (
  k.0,
  ⊎_elim (λ (r : Rests c request x). inl (r, λ d some. (ap (λ (f : ℕ → Bool). f d) is ∙ left_awaited x c request r d some, omega arith)))
      (λ (over : IsOver x). inr over) k.1,
)

beyond : (n d : ℕ) → n ≤ d → (d ≢ n) → n + 1 ≤ d
beyond n d l ne = go (d == n) refl
  where
    go : (b : Bool) → (d == n) ≡ b → n + 1 ≤ d
    go true e = absurd (ne (eq_true d n e))
    go false e = grind (arith, nat_tests)

-- the next one takes
pub halts_next : (set n other : ℕ) (u x : World) (c : ℕ) (v : World) → other ≡ n → LeavesHalted (HaltsTo set n) u c x → TakesPast set other x c v
    → LeavesHalted (HaltsTo set (n + 1)) u c v
halts_next set n other u x c v is before past = λ w request k.
    let takes : TakesPast set n x c v = subst (λ m. TakesPast set m x c v) is past in
    let h = before w request k in
    let after = takes w request h.0 in (
      after.0,
      ⊎_elim
          (λ (a : Rests c request x × ((d : ℕ) → 0 < left_to x d → (members set d ≡ true) × (n ≤ d))). ⊎_elim
          (λ (b : Rests c request v × ((d : ℕ) → 0 < left_to v d → (0 < left_to x d) × (members set n ≡ true → d ≢ n))).
          inl (
            b.0,
            λ d some.
                let was = b.1 d some in
                let at = a.1 d was.0 in
                (at.0, beyond n d at.1 (λ same. was.1 (subst (λ m. members set m ≡ true) same at.0) same)),
          ))
          (λ (over : IsOver v). inr over)
          (after.2 a.0))
          (λ (over : IsOver x). inr (after.1 over))
          h.1,
    )

-- after the last none has
pub halts_last : (set n : ℕ) (u : World) (c : ℕ) (v : World) → 64 ≤ n → LeavesHalted (HaltsTo set n) u c v → LeavesHalted IsLetGo u c v
halts_last set n u c v all before = λ w request k.
    let h = before w request k in (
      h.0,
      ⊎_elim
          (λ (a : Rests c request v × ((d : ℕ) → 0 < left_to v d → (members set d ≡ true) × (n ≤ d))).
          inl (
            a.0,
            λ d. none_left (left_to v d)
                (λ some. let high = (a.1 d some).1 in let low = left_below v c request a.0 d some in omega (arith, all, high, low)),
          ))
          (λ (over : IsOver v). inr over)
          h.1,
    )

-- ---- ending a call that is in flight

-- one that was finished
pub finish_by : (w : World) (c : ℕ) (request : Request) (x : World) (finished : Finished) (v : World) (ended : CallEnd) → InCall w c request x
    → Finishes x c finished v
    → AnswersOr finished v → ended ≡ ended_by finished → Ends w c request ended v × (v.made ≡ w.made)
finish_by w c request x finished v ended k f answers is =
    (subst (λ (e : CallEnd). Ends w c request e v) (sym is) (go finished f answers), finish_made x c finished v f ∙ k.made)
  where
    spent : (finished : Finished) → is_answered finished ≡ false → InCall w c request v → AnswersOr finished v → Ends w c request To.Spent v
    spent finished no_reply on answers = (
      calls_first w c request v on,
      ⊎_elim (λ (a : IsAnswered finished). absurd (let z = sym a ∙ no_reply in cc)) (λ (over : IsOver v). over) answers,
    )

    go : (finished : Finished) → Finishes x c finished v → AnswersOr finished v → Ends w c request (ended_by finished) v
    go (Last (Answered reply)) f a = finish_ends w c request x reply v k f
    go Stuck f a = spent Stuck refl (finish_on w c request x Stuck v k f refl) a
    go (Last Stepped) f a = spent (Last Stepped) refl (finish_on w c request x (Last Stepped) v k f refl) a
    go (Last (Wait by)) f a = spent (Last (Wait by)) refl (finish_on w c request x (Last (Wait by)) v k f refl) a
    go (Last Idle) f a = spent (Last Idle) refl (finish_on w c request x (Last Idle) v k f refl) a
    go (Last Full) f a = spent (Last Full) refl (finish_on w c request x (Last Full) v k f refl) a

-- where it was let go
pub let_go_ends : (u x : World) (c : ℕ) (finished : Finished) (v : World) (ended : CallEnd) → LeavesHalted IsLetGo u c x → Finishes x c finished v
    → ended ≡ ended_by finished → EndsFrom Halts u c ended v
let_go_ends u x c finished v ended lets f is = λ w request made k.
    let h = lets w request k in finish_by w c request x finished v ended h.0 f (let_go_finishes x c request finished v h.1 f) is

pub let_go_refused : (keeps : Bool) (u x : World) (c : ℕ) (m : World) (ended : CallEnd) (v : World) → LeavesHalted IsLetGo u c x → IsRefused keeps x c m
    → EndsFrom Wants m c ended v
    → EndsFrom Halts u c ended v
let_go_refused keeps u x c m ended v lets r ends = λ w request made k.
    let h = lets w request k in
    let on = refused_on keeps w c request x m h.0 r in
    ends w request on.made (on, (keeps, r.2))

-- where it was given up
gives_then : (w : World) (c : ℕ) (request : Request) (x m : World) (r : Result Outcome NoMemory) → Wants w c request x
    → Tries (Step x (EventOf.GiveUp c)) ⊥ x r m
    → InCall w c request m × (IsClosing (m.calls.phase c) ⊎ IsOver m)
gives_then w c request x m r k t =
    let one = tried ⊥ x m (EventOf.GiveUp c) r (λ z. z) t in
    let here : c < x.made.cores = ∥∥₁_elim k.0.reached (hlevel props) (λ r. has_core x c (reached_fine x r).order (wants_busy k.1.0 x c k.1.1)) in
    (event_on w c request x m (EventOf.GiveUp c) one.0 (gives_beside c) k.0 one.1, gives_up k.1.0 x c one.0 m here k.1.1 one.1)

pub given_up_ends : (x m : World) (c : ℕ) (r : Result Outcome NoMemory) (finished : Finished) (v : World) (ended : CallEnd)
    → Tries (Step x (EventOf.GiveUp c)) ⊥ x r m
    → Finishes m c finished v → ended ≡ ended_by finished → EndsFrom Wants x c ended v
given_up_ends x m c r finished v ended t f is = λ w request made k.
    let h = gives_then w c request x m r k t in finish_by w c request m finished v ended h.0 f (closing_finishes m c finished v h.0.reached h.1 f) is

pub given_up_refused : (keeps : Bool) (x m : World) (c : ℕ) (r : Result Outcome NoMemory) (v : World) → Tries (Step x (EventOf.GiveUp c)) ⊥ x r m
    → IsRefused keeps m c v
    → EndsFrom Wants x c To.Spent v
given_up_refused keeps x m c r v t refused = λ w request made k.
    let h = gives_then w c request x m r k t in
    let on = refused_on keeps w c request m v h.0 refused in
    ((calls_first w c request v on, closing_refused keeps m c v h.0.reached h.1 refused), on.made)
