-- Seats that are gathered: the last of them, and then one after another
use Rattle.std.proofs.Common.{◌≡◌, ℕ, zero, suc, ◌+◌, ◌<◌, List, [], ◌∷◌, ◌++◌, length, map, get_or, append_assoc, append-nil, refl, sym, ap, ◌∙◌, subst, arith}
use Rattle.std.specs.Prelude.{All, sum_by}
use Rattle.std.proofs.lemmas.List.{map-append, length-append}
use Rattle.std.proofs.lemmas.List.Elements.{All-append}
use Rattle.std.proofs.lemmas.List.Sums.{sum_by-append, sum_by-cons, sum_by_push}
use Rattle.atomic_table.specs.Seated.{TableId}
use Rattle.seats.specs.Gathered.{AreWhole, tickets_in}
use Rattle.seats.specs.Notes.{SeatView, ticket_of}
use Rattle.seats.specs.Tickets.{AreDealt, JoinedView, Rises, TicketerView, count_in, times_in}
use Rattle.seats.specs.declared.noted.Noted.{Noted}

abbrev pub notes_of : SeatView → List Noted
notes_of s = s.notes

abbrev pub stands_for : SeatView → ℕ
stands_for s = s.spare + 1

-- joined are the last seat, which noted this, and the seats so far, which noted these
pub record IsGathered (word : TableId) (last : List Noted) (spare : ℕ) (joined : JoinedView) (seats : List SeatView) (all : List (List Noted)) : Type 0 where
  pub here : joined.word ≡ word
  pub lists : joined.lists ≡ map ticket_of last ∷ tickets_in all
  pub count : joined.spare + length joined.lists ≡ sum_by stands_for seats + (spare + 1)
  pub rising : All Rises (tickets_in all)
  pub notes : all ≡ map notes_of seats

none_rise : All Rises []
none_rise k d lt = absurd (omega arith)

one_rises : (l : List ℕ) → Rises l → All Rises (l ∷ [])
one_rises l r zero d lt = r
one_rises l r (suc k) d lt = absurd (omega arith)

-- the last alone
pub gathered_first : (word : TableId) (last : SeatView) (t : TicketerView) (notes : List Noted) (joined : JoinedView) → last.word ≡ word
    → t ≡ record { word = last.word; tickets = map ticket_of last.notes; spare = last.spare } → notes ≡ last.notes
    → joined ≡ record { word = t.word; lists = t.tickets ∷ []; spare = t.spare } → IsGathered word notes joined.spare joined [] []
gathered_first word last t notes joined here parts are is = record {
  here = ap (λ (j : JoinedView). j.word) is ∙ (ap (λ (t : TicketerView). t.word) parts ∙ here);
  lists = ap (λ (j : JoinedView). j.lists) is ∙ ap (λ (t : TicketerView). t.tickets ∷ []) parts ∙ sym (ap (λ l. map ticket_of l ∷ []) are);
  count = (let e : length joined.lists ≡ 1 = ap (λ (j : JoinedView). length j.lists) is in omega (arith, e));
  rising = none_rise;
  notes = refl;
}

-- with one seat more
module _ (word : TableId) (last : List Noted) (spare : ℕ) (joined next : JoinedView) (seats : List SeatView) (all : List (List Noted)) (s : SeatView)
    (t : TicketerView) (notes : List Noted) (h : IsGathered word last spare joined seats all)
    (parts : t ≡ record { word = s.word; tickets = map ticket_of s.notes; spare = s.spare }) (are : notes ≡ s.notes) (rises : Rises (map ticket_of s.notes))
    (is : next ≡ record joined { lists = joined.lists ++ t.tickets ∷ []; spare = joined.spare + t.spare }) where
  tickets : t.tickets ≡ map ticket_of notes
  tickets = ap (λ (t : TicketerView). t.tickets) parts ∙ sym (ap (map ticket_of) are)

  more : tickets_in (all ++ notes ∷ []) ≡ tickets_in all ++ map ticket_of notes ∷ []
  more = map-append (map ticket_of) all (notes ∷ [])

  pub gathered_next : IsGathered word last spare next (seats ++ s ∷ []) (all ++ notes ∷ [])
  gathered_next = record {
    here = ap (λ (j : JoinedView). j.word) is ∙ h.here;
    lists = ap (λ (j : JoinedView). j.lists) is ∙ ap (λ l. l ++ t.tickets ∷ []) h.lists
        ∙ ap (λ l. map ticket_of last ∷ (tickets_in all ++ l ∷ [])) tickets ∙ ap (λ ls. map ticket_of last ∷ ls) (sym more);
    count =
        (let n = ap (λ (j : JoinedView). j.spare + length j.lists) is in
        let l = length-append joined.lists (t.tickets ∷ []) in
        let p = sum_by_push stands_for seats s in
        let q = ap (λ (t : TicketerView). t.spare) parts in
        let c = h.count in
        omega (arith, n, l, p, q, c));
    rising = subst (λ ls. All Rises ls) (sym more) (All-append Rises (tickets_in all) (map ticket_of notes ∷ []) h.rising
        (one_rises (map ticket_of notes) (subst (λ l. Rises (map ticket_of l)) (sym are) rises)));
    notes = ap (λ ls. ls ++ notes ∷ []) h.notes ∙ ap (λ l. map notes_of seats ++ l ∷ []) are ∙ sym (map-append notes_of seats (s ∷ []));
  }

-- lists with one more, as they lie in vectors
pub lists_more : {V : Type 0} (f : V → List Noted) (new old : List V) (v : V) → new ≡ old ++ v ∷ [] → map f new ≡ map f old ++ f v ∷ []
lists_more f new old v is = ap (map f) is ∙ map-append f old (v ∷ [])

-- as the notes lie in vectors
pub gathered_pushed : {V : Type 0} (f : V → List Noted) (new old : List V) (v : V) (word : TableId) (last : List Noted) (spare : ℕ) (joined next : JoinedView)
    (seats : List SeatView) (s : SeatView) (t : TicketerView) → IsGathered word last spare joined seats (map f old)
    → t ≡ record { word = s.word; tickets = map ticket_of s.notes; spare = s.spare } → f v ≡ s.notes → Rises (map ticket_of s.notes)
    → next ≡ record joined { lists = joined.lists ++ t.tickets ∷ []; spare = joined.spare + t.spare } → new ≡ old ++ v ∷ []
    → IsGathered word last spare next (seats ++ s ∷ []) (map f new)
gathered_pushed f new old v word last spare joined next seats s t h parts are rises is pushed =
    subst (λ ls. IsGathered word last spare next (seats ++ s ∷ []) ls) (sym (lists_more f new old v pushed))
    (gathered_next word last spare joined next seats (map f old) s t (f v) h parts are rises is)

-- all are 64
pub gathered_all : (word : TableId) (last : SeatView) (notes : List Noted) (spare : ℕ) (joined : JoinedView) (seats front items : List SeatView)
    (all : List (List Noted)) → IsGathered word notes spare joined seats all → spare ≡ last.spare → seats ≡ front → items ≡ front ++ last ∷ []
    → sum_by stands_for items ≡ 64 → joined.spare + length joined.lists ≡ 64
gathered_all word last notes spare joined seats front items all h same are split sum =
    let p = sum_by_push stands_for front last in
    let q = ap (sum_by stands_for) split in
    let r = ap (sum_by stands_for) are in
    let c = h.count in
    omega (arith, p, q, r, c, sum, same)

-- the first seats are of the word where all are
pub own_front : (word : TableId) (items front : List SeatView) (last : SeatView) → items ≡ front ++ last ∷ [] → All (λ (s : SeatView). s.word ≡ word) items
    → All (λ (s : SeatView). s.word ≡ word) front × (last.word ≡ word)
own_front word items front last split own =
    let both = subst (λ ss. All (λ (s : SeatView). s.word ≡ word) ss) split own in (front_of front both, last_of front both)
  where
    front_of : (front : List SeatView) → All (λ (s : SeatView). s.word ≡ word) (front ++ last ∷ []) → All (λ (s : SeatView). s.word ≡ word) front
    front_of [] both k d lt = absurd (omega arith)
    front_of (s ∷ ss) both zero d lt = both zero d (omega arith)
    front_of (s ∷ ss) both (suc k) d lt = front_of ss (λ j e less. both (suc j) e (omega (arith, less))) k d (omega arith)

    last_of : (front : List SeatView) → All (λ (s : SeatView). s.word ≡ word) (front ++ last ∷ []) → last.word ≡ word
    last_of [] both = both zero last (omega arith)
    last_of (s ∷ ss) both = last_of ss (λ j e less. both (suc j) e (omega (arith, less)))

-- and the next of those that are left
pub own_next : (word : TableId) (items more : List SeatView) (s : SeatView) → items ≡ s ∷ more → All (λ (s : SeatView). s.word ≡ word) items
    → (s.word ≡ word) × All (λ (s : SeatView). s.word ≡ word) more
own_next word items more s split own =
    let both = subst (λ ss. All (λ (s : SeatView). s.word ≡ word) ss) split own in (both zero s (omega arith), λ k d lt. both (suc k) d (omega (arith, lt)))

pub left_next : (seats items more whole : List SeatView) (s : SeatView) → items ≡ s ∷ more → seats ++ items ≡ whole → (seats ++ s ∷ []) ++ more ≡ whole
left_next seats items more whole s split left = append_assoc seats (s ∷ []) more ∙ ap (λ l. seats ++ l) (sym split) ∙ left

pub none_there : {X : Type 0} (items : List X) (n : ℕ) → length items ≡ n → n ≡ 0 → items ≡ []
none_there [] n e z = refl
none_there (x ∷ xs) n e z = absurd (omega (arith, e, z))

pub all_left : (seats items whole : List SeatView) → items ≡ [] → seats ++ items ≡ whole → seats ≡ whole
all_left seats items whole nothing left = sym (append-nil seats) ∙ ap (λ l. seats ++ l) (sym nothing) ∙ left

-- the last list goes behind the others
sum_moved : (f : List ℕ → ℕ) (l : List ℕ) (ls : List (List ℕ)) → sum_by f (ls ++ l ∷ []) ≡ sum_by f (l ∷ ls)
sum_moved f l ls =
    let a = sum_by_push f ls l in
    let b = sum_by-cons f l ls in
    omega (arith, a, b)

pub gathered_whole : (word : TableId) (last : List Noted) (spare n : ℕ) (joined : JoinedView) (seats : List SeatView) (all : List (List Noted))
    → IsGathered word last spare joined seats all → Rises (map ticket_of last) → AreDealt n joined.lists → AreWhole (all ++ last ∷ [])
gathered_whole word last spare n joined seats all h rises dealt = record {
  rising = subst (λ ls. All Rises ls) (sym more) (All-append Rises (tickets_in all) (map ticket_of last ∷ []) h.rising (one_rises (map ticket_of last) rises));
  dealt = subst (λ m. AreDealt m (tickets_in (all ++ last ∷ []))) (sym same) (record {
    each_once = λ x. moved (λ l. times_in x l) (λ l ls. sum_moved _ l ls) ∙ dealt.each_once x;
    counted = same;
  });
}
  where
    more : tickets_in (all ++ last ∷ []) ≡ tickets_in all ++ map ticket_of last ∷ []
    more = map-append (map ticket_of) all (last ∷ [])

    moved : (f : List (List ℕ) → ℕ) → ((l : List ℕ) (ls : List (List ℕ)) → f (ls ++ l ∷ []) ≡ f (l ∷ ls)) → f (tickets_in (all ++ last ∷ [])) ≡ f joined.lists
    moved f e = ap f more ∙ e (map ticket_of last) (tickets_in all) ∙ ap f (sym h.lists)

    same : count_in (tickets_in (all ++ last ∷ [])) ≡ n
    same = moved count_in (λ l ls. sum_moved (λ m. length m) l ls) ∙ dealt.counted

-- the last list behind them, as they were noted
pub gathered_notes : (word : TableId) (last : SeatView) (notes : List Noted) (spare : ℕ) (joined : JoinedView) (seats front items : List SeatView)
    (all : List (List Noted)) → IsGathered word notes spare joined seats all → notes ≡ last.notes → seats ≡ front → items ≡ front ++ last ∷ []
    → all ++ notes ∷ [] ≡ map notes_of items
gathered_notes word last notes spare joined seats front items all h are same split =
    ap (λ ls. ls ++ notes ∷ []) (h.notes ∙ ap (map notes_of) same) ∙ ap (λ l. map notes_of front ++ l ∷ []) are
    ∙ sym (map-append notes_of front (last ∷ [])) ∙ sym (ap (map notes_of) split)
