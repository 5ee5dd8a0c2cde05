-- Many calls, one after another
use Rattle.machine_model.proofs.Words.{◌≡◌, ◌≢◌, ℕ, ◌+◌, ◌<◌, ◌≤◌, arith, refl, sym, ap, subst, Option, None, Some, [], ◌∷◌, ◌++◌, ◌∙◌, List, length, map}
use Rattle.machine_model.proofs.Words.{take, drop, get_or, set, append-nil, append_assoc, take_more, slice_get-get_or, Request, Reply, World}
use Rattle.std.specs.Prelude.{slice_get}
use Rattle.std.proofs.lemmas.List.{get_or-map, length-map, map_push}
use Rattle.vm_base.specs.declared.replies.Reply.TheVariants.{NoMemory}
use Rattle.machine_model.specs.Alone.{IsCalm}
use Rattle.shared.specs.declared.history.SeenLog.{SeenLog}
use Rattle.shared.specs.declared.history.Replied.{Replied}
use Rattle.shared.specs.declared.series.SeriesEnd.{SeriesEnd}
use Rattle.shared.specs.declared.series.SeriesEnd.TheVariants as For
use Rattle.shared.specs.declared.whole.CallEnd.{CallEnd}
use Rattle.shared.specs.declared.whole.CallEnd.TheVariants as To
use Rattle.shared.specs.Histories.{Adds, Ends, IsFull, IsOver, history_of, logged, replied, replied_by}
use Rattle.shared.specs.Serial.{AllGranted, AreFirst, AreTold, EndsSeries, MakesOne, stop_after, stop_for, told_for}
use Rattle.shared.proofs.Lists.{begins_through}
use Rattle.shared.proofs.InCalls.{adds_nothing}
use Rattle.shared.proofs.Places.{one_longer, same_place, told_more}

-- ---- what histories grow by

pub adds_more : (c : ℕ) (a b : List Replied) (h k l : SeenLog) → Adds c a h k → Adds c b k l → Adds c (a ++ b) h l
adds_more c a b h k l x y = record {
  begins = begins_through h k l x.begins y.begins;
  own = y.own ∙ (ap (λ r. r ++ b) x.own ∙ append_assoc (replied_by c h) a b);
  others = λ d ne. y.others d ne ∙ x.others d ne;
}

-- nothing else stands in the log
adds_just : (c : ℕ) (a : List Replied) (h k : SeenLog) → Adds c a h k → Adds c (a ++ []) h k
adds_just c a h k x = subst (λ l. Adds c l h k) (sym (append-nil a)) x

-- ---- replies that memory was refused

pub is_refused : (reply : Reply) → For.NoMemory ≡ stop_after reply → reply ≡ NoMemory
is_refused NoMemory e = refl
is_refused _ e = absurd cc

is_granted : (reply : Reply) → For.Done ≡ stop_after reply → reply ≢ NoMemory
is_granted reply e none = absurd (let z : For.Done ≡ For.NoMemory = e ∙ ap stop_after none in cc)

no_call_after : (reply : Reply) → For.NoCall ≡ stop_after reply → ⊥
no_call_after NoMemory e = cc
no_call_after _ e = cc

no_limit_after : (reply : Reply) → For.Refused ≡ stop_after reply → ⊥
no_limit_after NoMemory e = cc
no_limit_after _ e = cc

none_spent_after : (reply : Reply) → For.Spent ≡ stop_after reply → ⊥
none_spent_after NoMemory e = cc
none_spent_after _ e = cc

granted_more : (added : List Replied) (call : Replied) → AllGranted added → call.reply ≢ NoMemory → AllGranted (added ++ call ∷ [])
granted_more [] call g n = (n, tt)
granted_more (x ∷ xs) call g n = (g.0, granted_more xs call g.1 n)

-- ---- one call

module _ {T : Type 0} (told_of : Reply → T) (m : World) (c : ℕ) where
  -- it was made, with this reply
  pub record IsMade (o : Option Request) (put : T) (call : Replied) (v : World) : Type 0 where
    pub asked : o ≡ Some call.request
    pub told : put ≡ told_of call.reply
    pub calm : IsCalm v
    pub adds : Adds c (call ∷ []) (history_of m) (history_of v)

  made_by : (request : Request) (reply : Reply) (was put : T) (v : World) → Ends m c request (To.Reply reply) v → put ≡ told_for told_of (To.Reply reply) was
      → IsMade (Some request) put (replied request reply) v
  made_by request reply was put v e p = record { asked = refl; told = p; calm = e.0; adds = e.1 }

  one_done : (o : Option Request) (was put : T) (v : World) → MakesOne told_of m c o was For.Done put v
      → (call : Replied) × IsMade o put call v × (call.reply ≢ NoMemory)
  one_done None was put v k = absurd (let z = k.0 in cc)
  one_done (Some request) was put v k = go k.0 k.1 k.2 k.3
    where
      go : (ended : CallEnd) → Ends m c request ended v → For.Done ≡ stop_for ended → put ≡ told_for told_of ended was
          → (call : Replied) × IsMade (Some request) put call v × (call.reply ≢ NoMemory)
      go (To.Reply reply) e s p = (replied request reply, made_by request reply was put v e p, is_granted reply s)
      go To.Refused e s p = absurd cc
      go To.Spent e s p = absurd cc

  one_refused : (o : Option Request) (was put : T) (v : World) → MakesOne told_of m c o was For.NoMemory put v
      → (call : Replied) × IsMade o put call v × (call.reply ≡ NoMemory)
  one_refused None was put v k = absurd (let z = k.0 in cc)
  one_refused (Some request) was put v k = go k.0 k.1 k.2 k.3
    where
      go : (ended : CallEnd) → Ends m c request ended v → For.NoMemory ≡ stop_for ended → put ≡ told_for told_of ended was
          → (call : Replied) × IsMade (Some request) put call v × (call.reply ≡ NoMemory)
      go (To.Reply reply) e s p = (replied request reply, made_by request reply was put v e p, is_refused reply s)
      go To.Refused e s p = absurd cc
      go To.Spent e s p = absurd cc

  one_no_call : (o : Option Request) (was put : T) (v : World) → MakesOne told_of m c o was For.NoCall put v → (o ≡ None) × (put ≡ was) × (v ≡ m)
  one_no_call None was put v k = (refl, k.1, k.2)
  one_no_call (Some request) was put v k = absurd (go k.0 k.2)
    where
      go : (ended : CallEnd) → For.NoCall ≡ stop_for ended → ⊥
      go (To.Reply reply) s = no_call_after reply s
      go To.Refused s = cc
      go To.Spent s = cc

  one_limited : (o : Option Request) (was put : T) (v : World) → MakesOne told_of m c o was For.Refused put v
      → (put ≡ was) × IsCalm v × Adds c [] (history_of m) (history_of v) × IsFull v
  one_limited None was put v k = absurd (let z = k.0 in cc)
  one_limited (Some request) was put v k = go k.0 k.1 k.2 k.3
    where
      go : (ended : CallEnd) → Ends m c request ended v → For.Refused ≡ stop_for ended → put ≡ told_for told_of ended was
          → (put ≡ was) × IsCalm v × Adds c [] (history_of m) (history_of v) × IsFull v
      go (To.Reply reply) e s p = absurd (no_limit_after reply s)
      go To.Refused e s p = (p, e.0, e.1, e.2)
      go To.Spent e s p = absurd cc

  one_spent : (o : Option Request) (was put : T) (v : World) → MakesOne told_of m c o was For.Spent put v
      → (put ≡ was) × (request : Request) × (reply : Option Reply) × (o ≡ Some request) × Adds c (logged request reply) (history_of m) (history_of v) × IsOver v
  one_spent None was put v k = absurd (let z = k.0 in cc)
  one_spent (Some request) was put v k = go k.0 k.1 k.2 k.3
    where
      go : (ended : CallEnd) → Ends m c request ended v → For.Spent ≡ stop_for ended → put ≡ told_for told_of ended was
          → (put ≡ was) × (r : Request) × (reply : Option Reply) × (Some request ≡ Some r) × Adds c (logged r reply) (history_of m) (history_of v) × IsOver v
      go (To.Reply reply) e s p = absurd (none_spent_after reply s)
      go To.Refused e s p = absurd cc
      go To.Spent e s p = (p, request, e.0.0, refl, e.0.1, e.1)

-- ---- the first of them

module _ {Q T : Type 0} (request_of : Q → Option Request) (told_of : Reply → T) (w : World) (c : ℕ) (asks : List Q) where
  -- so many were made
  pub record MadeFirst (n : ℕ) (was now : List T) (v : World) : Type 0 where
    pub added : List Replied
    pub count : length added ≡ n
    pub first : take n (map request_of asks) ≡ map (λ (call : Replied). Some call.request) added
    pub told : now ≡ map (λ (call : Replied). told_of call.reply) added ++ drop n was
    pub granted : AllGranted added
    pub calm : IsCalm v
    pub adds : Adds c added (history_of w) (history_of v)

  -- what the series comes to
  abbrev pub SeriesEnds : ℕ → List T → SeriesEnd → List T → World → Type 0
  SeriesEnds made was stop told v = (added : List Replied) × AreTold told_of added was told × (made ≡ length added)
      × EndsSeries w c (map request_of asks) added stop v

  pub made_none : (was : List T) → IsCalm w → MadeFirst 0 was was w
  made_none was calm = record {
    added = [];
    count = refl;
    first = refl;
    told = refl;
    granted = tt;
    calm = calm;
    adds = adds_nothing c (history_of w) (history_of w) refl;
  }

  asked_at : (n : ℕ) (d : Q) → n < length asks → get_or (map request_of asks) n (request_of d) ≡ request_of (get_or asks n d)
  asked_at n d low = get_or-map request_of asks n d (request_of d) low

  asked_low : (n : ℕ) → n < length asks → n < length (map request_of asks)
  asked_low n low = subst (λ k. n < k) (sym (length-map asks request_of)) low

  module _ (n : ℕ) (was now : List T) (m : World) (d : Q) (is_d : d ≡ get_or asks n d) (low : n < length asks) (h : MadeFirst n was now m) where
    asked_here : get_or (map request_of asks) n (request_of d) ≡ request_of d
    asked_here = asked_at n d low ∙ ap request_of (sym is_d)

    -- the next one was made
    first_more : (call : Replied) → request_of d ≡ Some call.request
        → take (n + 1) (map request_of asks) ≡ map (λ (call : Replied). Some call.request) (h.added ++ call ∷ [])
    first_more call e =
        take_more (map request_of asks) n (request_of d) (asked_low n low)
        ∙ (ap (λ o. take n (map request_of asks) ++ o ∷ []) (asked_here ∙ e)
        ∙ (ap (λ l. l ++ Some call.request ∷ []) h.first ∙ sym (map_push (λ (call : Replied). Some call.request) h.added call)))

    told_next : (call : Replied) (put : T) → put ≡ told_of call.reply → length asks ≤ length was
        → set now n put ≡ map (λ (call : Replied). told_of call.reply) (h.added ++ call ∷ []) ++ drop (n + 1) was
    told_next call put e room =
        let inside : n < length was = omega (arith, low, room) in
        ap (λ x. set now n x) e ∙ told_more (λ (call : Replied). told_of call.reply) h.added call n was now h.count inside h.told

    pub made_more : (e put : T) (v : World) → length asks ≤ length was → MakesOne told_of m c (request_of d) e For.Done put v
        → MadeFirst (n + 1) was (set now n put) v
    made_more e put v room makes =
        let one = one_done told_of m c _ e put v makes in
        record {
          added = h.added ++ one.0 ∷ [];
          count = one_longer h.added one.0 n h.count;
          first = first_more one.0 one.1.asked;
          told = told_next one.0 put one.1.told room;
          granted = granted_more h.added one.0 h.granted one.2;
          calm = one.1.calm;
          adds = adds_more c h.added (one.0 ∷ []) (history_of w) (history_of m) (history_of v) h.adds one.1.adds;
        }

    -- or it was refused memory, and ends the series
    pub ends_refused : (e put : T) (v : World) → length asks ≤ length was → MakesOne told_of m c (request_of d) e For.NoMemory put v
        → SeriesEnds (n + 1) was For.NoMemory (set now n put) v
    ends_refused e put v room makes =
        let one = one_refused told_of m c _ e put v makes in
        let count : length (h.added ++ one.0 ∷ []) ≡ n + 1 = one_longer h.added one.0 n h.count in
        let last : one.0 ≡ replied one.0.request NoMemory = ap (λ r. replied one.0.request r) one.2 in (
          h.added ++ one.0 ∷ [],
          subst (λ k. set now n put ≡ map (λ (call : Replied). told_of call.reply) (h.added ++ one.0 ∷ []) ++ drop k was) (sym count)
              (told_next one.0 put one.1.told room),
          sym count,
          record {
            first = subst (λ k. take k (map request_of asks) ≡ map (λ (call : Replied). Some call.request) (h.added ++ one.0 ∷ [])) (sym count)
                (first_more one.0 one.1.asked);
            stops = (h.added, one.0.request, ap (λ x. h.added ++ x ∷ []) last, h.granted);
            more = [];
            is_more = refl;
            adds = adds_just c (h.added ++ one.0 ∷ []) (history_of w) (history_of v)
                (adds_more c h.added (one.0 ∷ []) (history_of w) (history_of m) (history_of v) h.adds one.1.adds);
            left = one.1.calm;
          },
        )

    -- or the series ends before it
    told_still : (put : T) (e : T) → put ≡ get_or now n e → set now n put ≡ map (λ (call : Replied). told_of call.reply) h.added ++ drop (length h.added) was
    told_still put e is = same_place now n e put is ∙ subst (λ k. now ≡ map (λ (call : Replied). told_of call.reply) h.added ++ drop k was) (sym h.count) h.told

    first_still : AreFirst (map request_of asks) h.added
    first_still = subst (λ k. take k (map request_of asks) ≡ map (λ (call : Replied). Some call.request) h.added) (sym h.count) h.first

    pub ends_no_call : (e put : T) (v : World) → MakesOne told_of m c (request_of d) (get_or now n e) For.NoCall put v
        → SeriesEnds n was For.NoCall (set now n put) v
    ends_no_call e put v makes =
        let one = one_no_call told_of m c _ (get_or now n e) put v makes in
        let at : slice_get (map request_of asks) n ≡ Some None =
        slice_get-get_or (map request_of asks) n (request_of d) (asked_low n low) ∙ ap Some (asked_here ∙ one.0) in (
          h.added,
          told_still put e one.1,
          sym h.count,
          record {
            first = first_still;
            stops = (subst (λ k. slice_get (map request_of asks) k ≡ Some None) (sym h.count) at, h.granted);
            more = [];
            is_more = refl;
            adds = subst (λ x. Adds c (h.added ++ []) (history_of w) (history_of x)) (sym one.2) (adds_just c h.added (history_of w) (history_of m) h.adds);
            left = subst IsCalm (sym one.2) h.calm;
          },
        )

    pub ends_limited : (e put : T) (v : World) → MakesOne told_of m c (request_of d) (get_or now n e) For.Refused put v
        → SeriesEnds n was For.Refused (set now n put) v
    ends_limited e put v makes =
        let one = one_limited told_of m c _ (get_or now n e) put v makes in (
          h.added,
          told_still put e one.0,
          sym h.count,
          record {
            first = first_still;
            stops = h.granted;
            more = [];
            is_more = refl;
            adds = adds_more c h.added [] (history_of w) (history_of m) (history_of v) h.adds one.2;
            left = (one.1, one.3);
          },
        )

    pub ends_spent : (e put : T) (v : World) → MakesOne told_of m c (request_of d) (get_or now n e) For.Spent put v
        → SeriesEnds n was For.Spent (set now n put) v
    ends_spent e put v makes =
        let one = one_spent told_of m c _ (get_or now n e) put v makes in
        let at : slice_get (map request_of asks) n ≡ Some (Some one.1) =
        slice_get-get_or (map request_of asks) n (request_of d) (asked_low n low) ∙ ap Some (asked_here ∙ one.3) in (
          h.added,
          told_still put e one.0,
          sym h.count,
          record {
            first = first_still;
            stops = h.granted;
            more = logged one.1 one.2;
            is_more = (one.1, one.2, subst (λ k. slice_get (map request_of asks) k ≡ Some (Some one.1)) (sym h.count) at, refl);
            adds = adds_more c h.added (logged one.1 one.2) (history_of w) (history_of m) (history_of v) h.adds one.4;
            left = one.5;
          },
        )

  -- or it was the last
  pub ends_done : (n k : ℕ) (was told : List T) (v : World) → k ≡ length asks → n ≡ length asks → MadeFirst n was told v → SeriesEnds k was For.Done told v
  ends_done n k was told v whole all h = (
    h.added,
    subst (λ k. told ≡ map (λ (call : Replied). told_of call.reply) h.added ++ drop k was) (sym h.count) h.told,
    whole ∙ sym (h.count ∙ all),
    record {
      first = subst (λ k. take k (map request_of asks) ≡ map (λ (call : Replied). Some call.request) h.added) (sym h.count) h.first;
      stops = (h.count ∙ (all ∙ sym (length-map asks request_of)), h.granted);
      more = [];
      is_more = refl;
      adds = adds_just c h.added (history_of w) (history_of v) h.adds;
      left = h.calm;
    },
  )
