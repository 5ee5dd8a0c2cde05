-- Whose messages an inbox has, and why there is room
use Rattle.std.proofs.Common.{◌≡◌, ◌≢◌, ℕ, ◌<◌, ◌≤◌, ◌==◌, Bool, true, false, cond, ◌||◌, List, [], ◌∷◌, ◌++◌, length, map, Option, None}
use Rattle.std.proofs.Common.{Some, is_some, refl, sym, ap, ◌∙◌, subst, arith, eqb}
use Rattle.std.specs.List.{IsDistinct, AllByRecursion, list_any}
use Rattle.std.proofs.lemmas.Map.Keys.{IsDistinct-cons}
use Rattle.std.proofs.lemmas.Map.Steps.{length-le_from_distinct_below}
use Rattle.std.proofs.lemmas.Bool.Decides.{nat_tests}
use Rattle.std.proofs.lemmas.List.{length-map}
use Rattle.vm_base.specs.declared.page.PageRange.{PageRange}
use Rattle.vm_base.proofs.Functions.{eq_true, eq_false}
use Rattle.mmu.specs.declared.message.Message.{Message}
use Rattle.mmu.specs.Messages.{message_of, posted, AreFromOthers}

pub none_from : {X : Type 0} (o : Option X) → is_some o ≡ false → o ≡ None
none_from None e = refl
none_from (Some x) e = absurd (cc)

abbrev froms : List Message → List ℕ
froms ms = map (λ (m : Message). m.from) ms

-- a message at the end is found where none before it is
pub message_of-push : (ms : List Message) (m : Message) (c : ℕ) → message_of (ms ++ m ∷ []) c ≡ cond (is_some (message_of ms c))
    (message_of ms c) (cond (m.from == c) (Some m) None)
message_of-push [] m c = refl
message_of-push (x ∷ xs) m c = by (x.from == c) (message_of-push xs m c)
  where
    by : (b : Bool) → message_of (xs ++ m ∷ []) c ≡ cond (is_some (message_of xs c)) (message_of xs c) (cond (m.from == c) (Some m) None)
        → cond b (Some x) (message_of (xs ++ m ∷ []) c) ≡ cond (is_some (cond b (Some x) (message_of xs c)))
        (cond b (Some x) (message_of xs c)) (cond (m.from == c) (Some m) None)
    by true e = refl
    by false e = e

-- no message is the core's: none has its number
none_cons : (x : Message) (xs : List Message) (c : ℕ) → message_of (x ∷ xs) c ≡ None → (x.from ≢ c) × (message_of xs c ≡ None)
none_cons x xs c e = go (x.from == c) refl e
  where
    go : (b : Bool) → (x.from == c) ≡ b → cond b (Some x) (message_of xs c) ≡ None → (x.from ≢ c) × (message_of xs c ≡ None)
    go true t h = absurd (cc)
    go false t h = (eq_false x.from c t, h)

pub test_of : (a b : ℕ) → a ≢ b → eqb a b ≡ false
test_of a b ne = grind (arith, nat_tests)

pub test_itself : (a : ℕ) → eqb a a ≡ true
test_itself a = grind (arith, nat_tests)

apart : (ms : List Message) (c : ℕ) → message_of ms c ≡ None → AllByRecursion (λ y. eqb c y ≡ false) (froms ms)
apart [] c e = tt
apart (x ∷ xs) c e =
    let h : (x.from ≢ c) × (message_of xs c ≡ None) = none_cons x xs c e in
    (test_of c x.from (λ s. h.0 (sym s)), apart xs c h.1)

distinct : (ms : List Message) (core : ℕ) → AreFromOthers core ms → IsDistinct eqb (froms ms)
unfolding IsDistinct
distinct [] core d = tt
distinct (m ∷ ms) core d = (apart ms m.from d.2, distinct ms core d.3)

of_others : (ms : List Message) (core : ℕ) → AreFromOthers core ms → message_of ms core ≡ None
of_others [] core d = refl
of_others (m ∷ ms) core d = go (m.from == core) refl (of_others ms core d.3)
  where
    go : (b : Bool) → (m.from == core) ≡ b → message_of ms core ≡ None → cond b (Some m) (message_of ms core) ≡ None
    go true t h = absurd (d.1 (eq_true m.from core t))
    go false t h = h

below : (ms : List Message) (core : ℕ) → AreFromOthers core ms → (q : ℕ) → list_any (eqb q) (froms ms) ≡ true → q < 64
below [] core d q h = absurd (cc)
below (m ∷ ms) core d q h = go (eqb q m.from) refl (below ms core d.3 q) h
  where
    go : (b : Bool) → eqb q m.from ≡ b → (list_any (eqb q) (froms ms) ≡ true → q < 64) → b || list_any (eqb q) (froms ms) ≡ true → q < 64
    go true t g e = subst (λ n. n < 64) (sym (eq_true q m.from t)) d.0
    go false t g e = g e

cons_below : (a : ℕ) (xs : List ℕ) → a < 64 → ((q : ℕ) → list_any (eqb q) xs ≡ true → q < 64) → (q : ℕ) → list_any (eqb q) (a ∷ xs) ≡ true → q < 64
cons_below a xs h g q t = go (eqb q a) refl t
  where
    go : (b : Bool) → eqb q a ≡ b → b || list_any (eqb q) xs ≡ true → q < 64
    go true e s = subst (λ n. n < 64) (sym (eq_true q a e)) h
    go false e s = g q s

-- a core that has none here, of another core, finds room
pub has_room : (ms : List Message) (core from : ℕ) → AreFromOthers core ms → core < 64 → from < 64 → from ≢ core → message_of ms from ≡ None → length ms < 63
has_room ms core from d h g ne none =
    let one : IsDistinct eqb (from ∷ froms ms) = IsDistinct-cons eqb from (froms ms) (apart ms from none) (distinct ms core d) in
    let two : IsDistinct eqb (core ∷ from ∷ froms ms) = IsDistinct-cons eqb core (from ∷ froms ms)
    (test_of core from (λ s. ne (sym s)), apart ms core (of_others ms core d)) one in
    let few : length (core ∷ from ∷ froms ms) ≤ 64 = length-le_from_distinct_below (core ∷ from ∷ froms ms) 64 two
    (cons_below core (from ∷ froms ms) h (cons_below from (froms ms) g (below ms core d))) in
    let same : length (froms ms) ≡ length ms = length-map ms (λ (m : Message). m.from) in
    omega arith

-- a message of another core that has none here may stand at the end
pub others-push : (ms : List Message) (core from : ℕ) (range : PageRange) → AreFromOthers core ms → from < 64 → from ≢ core
    → message_of ms from ≡ None → AreFromOthers core (ms ++ posted from range ∷ [])
others-push [] core from range d g ne none = (g, ne, refl, tt)
others-push (m ∷ ms) core from range d g ne none =
    let h : (m.from ≢ from) × (message_of ms from ≡ None) = none_cons m ms from none in
    (d.0, d.1, still, others-push ms core from range d.3 g ne h.1)
  where
    still : message_of (ms ++ posted from range ∷ []) m.from ≡ None
    still = message_of-push ms (posted from range) m.from
        ∙ (rw d.2 (ap (λ b. cond b (Some (posted from range)) None) (test_of from m.from (λ s. (none_cons m ms from none).0 (sym s)))))

pub any_is_some : (ms : List Message) (c : ℕ) → list_any (λ (m : Message). m.from == c) ms ≡ is_some (message_of ms c)
any_is_some [] c = refl
any_is_some (m ∷ ms) c = by (m.from == c) (any_is_some ms c)
  where
    by : (b : Bool) → list_any (λ (m : Message). m.from == c) ms ≡ is_some (message_of ms c)
        → b || list_any (λ (m : Message). m.from == c) ms ≡ is_some (cond b (Some m) (message_of ms c))
    by true e = refl
    by false e = e
