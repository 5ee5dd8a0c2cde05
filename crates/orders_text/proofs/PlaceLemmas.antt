-- One line after another.
use Rattle.std.proofs.Common.{◌≡◌, ◌⊎◌, inl, inr, ℕ, zero, suc, ◌+◌, ◌<◌, ◌≤◌, cond, get_or, is_some, set, Bool, true, false, List, [], ◌∷◌, ◌++◌}
use Rattle.std.proofs.Common.{length, slice_get, Option, Some, None}
use Rattle.std.proofs.Common.{append_assoc, append-nil, length-append, arith, refl, sym, ap, ◌∙◌, subst}
use Rattle.std.specs.Prelude.{◌&&◌, nat_lt, option_map, replicate}
use Rattle.audit_text.specs.Heard.{Declared}
use Rattle.std.proofs.lemmas.Bool.Decides.{nat_tests}
use Rattle.trace_io.specs.declared.fault.IoFault.TheVariants.{NoMemory}
use Rattle.audit_text.specs.declared.reading.Said.{Said}
use Rattle.audit_text.specs.declared.reading.Said.TheVariants as Says
use Rattle.orders.specs.declared.history.Timed.{Timed}
use Rattle.orders_text.specs.Apart.{AreApart, AreForward, DoOverlap}
use Rattle.orders_text.specs.Faults.{IsAt, IsAtFault, IsOutOfPlace, IsPlace, LacksSpace}
use Rattle.orders_text.specs.History.{IsHistory, Leads, Read, begun, between, by_lines, declared_after, ended, event_after, may_event, may_stamp}
use Rattle.orders_text.specs.History.{part_after, read_after, unread, with_call, with_declared, with_waiting}
use Rattle.orders_text.specs.Lines.{Tells, call_to}
use Rattle.orders_text.specs.Steps.{Refuses, SaysNothing, TellsOverlap}
use Rattle.orders_text.specs.declared.clock.PendingCall.{PendingCall}
use Rattle.orders_text.specs.declared.clock.Clock.{Clock}
use Rattle.orders_text.specs.declared.clock.Clock.TheVariants.{Unset, Stamps, Lines}
use Rattle.orders_text.specs.declared.faults.HistoryFault.{HistoryFault}
use Rattle.orders_text.specs.declared.faults.HistoryFault.TheVariants.{BadLine, TooLong, NoVmLine, Backwards, Overlap, Io}
use Rattle.orders_text.specs.declared.lines.HistoryLine.{HistoryLine}
use Rattle.orders_text.specs.declared.lines.HistoryLine.TheVariants.{Part, Timed as TimedCall, Event}

leads_more : (n : ℕ) (a : Read) (ls : List (List ℕ)) (m t : Read) (l : List ℕ) (told : HistoryLine) → Leads n a ls m → length l ≤ 512 → Tells told l
    → read_after (n + length ls) m told ≡ Some t → Leads n a (ls ++ l ∷ []) t
leads_more n a [] m t l told h short tells after =
    let same : n + 0 ≡ n = omega arith in
    (told, t, short, tells, subst (λ k. read_after k a told ≡ Some t) same (subst (λ x. read_after (n + 0) x told ≡ Some t) h after), refl)
leads_more n a (x ∷ xs) m t l told h short tells after =
    let same : n + suc (length xs) ≡ suc n + length xs = omega arith in
    (h.0, h.1, h.2, h.3, h.4, leads_more (suc n) h.1 xs m t l told h.5 short tells (subst (λ k. read_after k m told ≡ Some t) same after))

pub place_first : (lines : List (List ℕ)) (r : Read) → r ≡ unread → IsPlace lines 0 lines r
place_first lines r e = record { done = []; is = refl; count_is = refl; leads = e }

pub place_more : (lines rest more : List (List ℕ)) (n : ℕ) (r q : Read) (line : List ℕ) (told : HistoryLine) → IsPlace lines n rest r → rest ≡ line ∷ more
    → length line ≤ 512 → Tells told line → read_after (n + 1) r told ≡ Some q → IsPlace lines (n + 1) more q
place_more lines rest more n r q line told p e short tells after =
    let number : n + 1 ≡ 1 + length p.done = omega (arith, p.count_is) in record {
      done = p.done ++ line ∷ [];
      is = p.is ∙ ap (λ l. p.done ++ l) e ∙ sym (append_assoc p.done (line ∷ []) more);
      count_is = length-append p.done (line ∷ []) ∙ ap (λ k. k + 1) p.count_is;
      leads = leads_more 1 unread p.done r q line told p.leads short tells (subst (λ k. read_after k r told ≡ Some q) number after);
    }

pub place_last : (lines rest : List (List ℕ)) (n : ℕ) (r : Read) → IsPlace lines n rest r → rest ≡ [] → Leads 1 unread lines r
place_last lines rest n r p e =
    let all : p.done ≡ lines = sym (p.is ∙ ap (λ l. p.done ++ l) e ∙ append-nil p.done) in
    subst (λ l. Leads 1 unread l r) all p.leads

is_at : (lines rest more : List (List ℕ)) (n : ℕ) (r : Read) (line : List ℕ) → IsPlace lines n rest r → rest ≡ line ∷ more
    → IsAt lines (n + 1) line r
is_at lines rest more n r line p e = record {
  before = n;
  more = more;
  number_is = omega arith;
  place = subst (λ l. IsPlace lines n l r) e p;
}

-- ---- faults

pub fault_here : (lines rest more : List (List ℕ)) (n : ℕ) (r : Read) (line : List ℕ) (f : HistoryFault) → IsPlace lines n rest r → rest ≡ line ∷ more
    → SaysNothing line (n + 1) f → IsAtFault lines f
fault_here lines rest more n r line (BadLine k) p e (is, short, says) = record {
  read = r;
  line = line;
  at = subst (λ i. IsAt lines i line r) (sym is) (is_at lines rest more n r line p e);
  short = short;
  misplaced = inl says;
}
fault_here lines rest more n r line (TooLong k) p e (is, long) = record {
  read = r;
  line = line;
  at = subst (λ i. IsAt lines i line r) (sym is) (is_at lines rest more n r line p e);
  long = long;
}
fault_here lines rest more n r line f p e says = absurd says

pub refused_here : (lines rest more : List (List ℕ)) (n : ℕ) (r : Read) (line : List ℕ) (told : HistoryLine) (f : HistoryFault) → IsPlace lines n rest r
    → rest ≡ line ∷ more → length line ≤ 512 → Tells told line → Refuses (n + 1) r told f → IsAtFault lines f
refused_here lines rest more n r line told (BadLine k) p e short tells (is, out) = record {
  read = r;
  line = line;
  at = subst (λ i. IsAt lines i line r) (sym is) (is_at lines rest more n r line p e);
  short = short;
  misplaced = inr (told, tells, subst (λ i. IsOutOfPlace i r told) (sym is) out);
}
refused_here lines rest more n r line told NoVmLine p e short tells (space, needs) = record {
  read = r;
  count = n;
  more = line ∷ more;
  place = subst (λ l. IsPlace lines n l r) e p;
  no_space = space;
  stuck = (told, short, tells, needs);
}
refused_here lines rest more n r line (TimedCall c) (Backwards k) p e short tells (is, space, backwards) = record {
  read = r;
  line = line;
  at = subst (λ i. IsAt lines i line r) (sym is) (is_at lines rest more n r line p e);
  space = space;
  short = short;
  call = c;
  tells = tells;
  backwards = backwards;
}
refused_here lines rest more n r line told (Backwards k) p e short tells h = absurd h.2
refused_here lines rest more n r line told (TooLong k) p e short tells h = absurd h
refused_here lines rest more n r line told (Overlap k m) p e short tells h = absurd h
refused_here lines rest more n r line told (Io NoMemory) p e short tells h = tt
refused_here lines rest more n r line told (Io f) p e short tells h = absurd h

-- the text ends before a space is declared
pub end_refused : (lines : List (List ℕ)) (r : Read) → Leads 1 unread lines r → r.declared.has_space ≡ false → LacksSpace lines
end_refused lines r h space = record {
  read = r;
  count = length lines;
  more = [];
  place = record { done = lines; is = sym (append-nil lines); count_is = refl; leads = h };
  no_space = space;
  stuck = tt;
}

-- ---- all calls begin below their ends

one_more : (h : List Timed) (c : Timed) → AreForward h → c.begin < c.end → AreForward (h ++ c ∷ [])
one_more h c all forward i a is = go h i all is
  where
    go : (xs : List Timed) (i : ℕ) → AreForward xs → slice_get (xs ++ c ∷ []) i ≡ Some a → a.begin < a.end
    go [] zero all is = let same : c ≡ a = cc in subst (λ (x : Timed). x.begin < x.end) same forward
    go [] (suc i) all is = absurd cc
    go (x ∷ xs) zero all is = all zero a is
    go (x ∷ xs) (suc i) all is = go xs i (λ j b e. all (suc j) b e) is

-- in front of this line calls have begun that are told, below their ends, or wait
pub record IsTimely (n : ℕ) (r : Read) : Type 0 where
  pub forward : AreForward r.calls
  pub before : (core : ℕ) (b : PendingCall) → begun r core ≡ Some b → b.line < n

later : (n : ℕ) (r : Read) → IsTimely n r → IsTimely (suc n) r
later n r t = record { forward = t.forward; before = λ core b e. let less = t.before core b e in omega (arith, less) }

-- with another call or none for one core
set_either : {X : Type 0} (xs : List X) (i j : ℕ) (x d : X) → (get_or (set xs i x) j d ≡ x) ⊎ (get_or (set xs i x) j d ≡ get_or xs j d)
set_either [] i j x d = inr refl
set_either (y ∷ ys) zero zero x d = inl refl
set_either (y ∷ ys) zero (suc j) x d = inr refl
set_either (y ∷ ys) (suc i) zero x d = inr refl
set_either (y ∷ ys) (suc i) (suc j) x d = set_either ys i j x d

one_waits : (n : ℕ) (r : Read) (core : ℕ) (o : Option PendingCall) → ((b : PendingCall) → o ≡ Some b → b.line < suc n) → IsTimely n r
    → IsTimely (suc n) (with_waiting r core o)
one_waits n r core o low t = record {
  forward = t.forward;
  before = λ k b e. go k b e (set_either r.waiting core k o None);
}
  where
    go : (k : ℕ) (b : PendingCall) → get_or (set r.waiting core o) k None ≡ Some b
        → (get_or (set r.waiting core o) k None ≡ o) ⊎ (get_or (set r.waiting core o) k None ≡ get_or r.waiting k None) → b.line < suc n
    go k b e (inl is) = low b (sym is ∙ e)
    go k b e (inr is) = let less = t.before k b (sym is ∙ e) in omega (arith, less)

one_called : (clock : Clock) (number n : ℕ) (r : Read) (c : Timed) → c.begin < c.end → IsTimely n r
    → IsTimely n (with_call clock number r c)
one_called clock number n r c less t = record { forward = one_more r.calls c t.forward less; before = t.before }

same_timely : (n : ℕ) (r q : Read) → Some r ≡ Some q → IsTimely n r → IsTimely n q
same_timely n r q e t = let same : r ≡ q = cc in subst (IsTimely n) same t

event_timely : (n : ℕ) (r q : Read) (said : Said) → event_after n r said ≡ Some q → IsTimely n r → IsTimely (suc n) q
event_timely n r q (Says.Answered call) h t = go (is_some (begun r call.core)) h
  where
    go : (b : Bool) → cond b None (Some (with_call Lines n r (between n n call))) ≡ Some q → IsTimely (suc n) q
    go true e = absurd cc
    go false e = same_timely (suc n) (with_call Lines n r (between n n call)) q e
        (later n (with_call Lines n r (between n n call)) (one_called Lines n n r (between n n call) (omega arith) t))
event_timely n r q (Says.Waits core request) h t = go (is_some (begun r core)) h
  where
    low : (b : PendingCall) → Some (record { line = n; request = request }) ≡ Some b → b.line < suc n
    low b e =
        let one : record { line = n; request = request } ≡ b = cc in
        let same : n ≡ b.line = ap (λ (x : PendingCall). x.line) one in omega (arith, same)

    go : (b : Bool) → cond b None (Some (with_waiting r core (Some (record { line = n; request = request })))) ≡ Some q → IsTimely (suc n) q
    go true e = absurd cc
    go false e = same_timely (suc n) (with_waiting r core (Some (record { line = n; request = request }))) q e
        (one_waits n r core (Some (record { line = n; request = request })) low t)
event_timely n r q (Says.Ends core reply) h t = go (begun r core) refl h
  where
    go : (o : Option PendingCall) → begun r core ≡ o → option_map (ended n r core reply) o ≡ Some q → IsTimely (suc n) q
    go None is e = absurd cc
    go (Some b) is e =
        let less : b.line < n = t.before core b is in
        same_timely (suc n) (ended n r core reply b) q e (one_called Lines n (suc n) (with_waiting r core None)
        (between b.line n (call_to core b.request reply)) (omega (arith, less)) (one_waits n r core None (λ x none. absurd cc) t))
event_timely n r q (Says.StillWaits core) h t = go (is_some (begun r core)) h
  where
    go : (b : Bool) → cond b (Some (by_lines r)) None ≡ Some q → IsTimely (suc n) q
    go true e = same_timely (suc n) (by_lines r) q e (later n (by_lines r) (record { forward = t.forward; before = t.before }))
    go false e = absurd cc
event_timely n r q Says.Passes h t =
    same_timely (suc n) (by_lines r) q h (later n (by_lines r) (record { forward = t.forward; before = t.before }))
event_timely n r q said h t = absurd cc

step_timely : (n : ℕ) (r q : Read) (told : HistoryLine) → read_after n r told ≡ Some q → IsTimely n r → IsTimely (suc n) q
step_timely n r q (TimedCall c) h t = by r.declared.has_space (may_stamp r.clock) (nat_lt c.begin c.end) refl h
  where
    by : (s m b : Bool) → nat_lt c.begin c.end ≡ b → cond (s && m && b) (Some (with_call Stamps n r c)) None ≡ Some q → IsTimely (suc n) q
    by true true true less e =
        let forward : c.begin < c.end = grind (arith, nat_tests, less) in
        same_timely (suc n) (with_call Stamps n r c) q e (later n (with_call Stamps n r c) (one_called Stamps n n r c forward t))
    by true true false less e = absurd cc
    by true false b less e = absurd cc
    by false m b less e = absurd cc
step_timely n r q (Event said) h t = by r.declared.has_space (may_event r.clock) h
  where
    by : (s m : Bool) → cond (s && m) (event_after n r said) None ≡ Some q → IsTimely (suc n) q
    by true true e = event_timely n r q said e t
    by true false e = absurd cc
    by false m e = absurd cc
step_timely n r q (Part Says.Blank) h t = same_timely (suc n) r q h (later n r t)
step_timely n r q (Part said) h t = go r.clock said h
  where
    go : (k : Clock) (s : Said) → declared_after r k s ≡ Some q → IsTimely (suc n) q
    go Unset s h = keeps (part_after r.declared s) h
      where
        keeps : (o : Option Declared) → option_map (with_declared r) o ≡ Some q → IsTimely (suc n) q
        keeps None h = absurd cc
        keeps (Some d) h = same_timely (suc n) (with_declared r d) q h
            (later n (with_declared r d) (record { forward = t.forward; before = t.before }))
    go k s h = absurd cc

all_timely : (n : ℕ) (a b : Read) (ls : List (List ℕ)) → Leads n a ls b → IsTimely n a → AreForward b.calls
all_timely n a b [] h t = subst (λ (x : Read). AreForward x.calls) (sym h) t.forward
all_timely n a b (l ∷ ls) h t = all_timely (suc n) h.1 b ls h.5 (step_timely n a h.1 h.0 h.4 t)

-- none is there at first
unread_timely : IsTimely 1 unread
unread_timely = record { forward = λ i a is. absurd cc; before = λ core b e. absurd (never 64 core b e) }
  where
    never : (n core : ℕ) (b : PendingCall) → get_or (replicate n None) core None ≡ Some b → ⊥
    never zero core b e = absurd cc
    never (suc n) zero b e = absurd cc
    never (suc n) (suc core) b e = never n core b e

pub all_forward : (b : Read) (ls : List (List ℕ)) → Leads 1 unread ls b → AreForward b.calls
all_forward b ls h = all_timely 1 unread b ls h unread_timely

-- ---- the end

pub overlap_told : (lines : List (List ℕ)) (r : Read) (calls : List Timed) (ls : List ℕ) (one other : ℕ) (f : HistoryFault) → calls ≡ r.calls
    → ls ≡ r.lines → Leads 1 unread lines r → DoOverlap calls one other → TellsOverlap ls one other f → IsAtFault lines f
overlap_told lines r calls ls one other f e g h d t = go f
    (subst (λ (x : List Timed). DoOverlap x one other) e d) (subst (λ (x : List ℕ). TellsOverlap x one other f) g t)
  where
    go : (f : HistoryFault) → DoOverlap r.calls one other → TellsOverlap r.lines one other f → IsAtFault lines f
    go (Overlap number before) d t = record {
      read = r;
      leads = h;
      one = one;
      two = other;
      overlap = d;
      first = t.0;
      second = t.1;
    }
    go (Io NoMemory) d t = tt
    go f d t = absurd t

pub is_history : (lines : List (List ℕ)) (r : Read) (calls : List Timed) → calls ≡ r.calls → Leads 1 unread lines r → r.declared.has_space ≡ true
    → AreApart calls → IsHistory lines r
is_history lines r calls e h s a = record { leads = h; space = s; apart = subst AreApart e a }

pub forward_there : (h k : List Timed) → h ≡ k → AreForward k → AreForward h
forward_there h k e f = subst AreForward (sym e) f
