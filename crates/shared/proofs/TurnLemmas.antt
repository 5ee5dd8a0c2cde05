-- Turns, one after another
use Rattle.std.proofs.Common.{◌≡◌, ◌≢◌, ℕ, List, [], ◌∷◌, ◌++◌, refl, sym, ap, ◌∙◌, subst, append-nil, append_assoc}
use Rattle.machine_model.specs.World.{World}
use Rattle.shared.specs.declared.history.Turn.{Turn}
use Rattle.shared.specs.declared.history.JoinedCore.{JoinedCore}
use Rattle.shared.specs.Histories.{history_of, replied_by}
use Rattle.shared.specs.Turns.{AreInOrder, HasSeen, IsTold, Leads, NoneOf, left_by, log_in}

module _ {S : Type 0} where
  -- ---- one turn more

  pub left_more : (first : List S) (ts : List (Turn S)) (t : Turn S) → left_by first (ts ++ t ∷ []) ≡ t.machine ∷ []
  left_more first [] t = refl
  left_more first (s ∷ ts) t = left_more (s.machine ∷ []) ts t

  pub none_more : (c : ℕ) (ts : List (Turn S)) (t : Turn S) → NoneOf c ts → t.core ≢ c → NoneOf c (ts ++ t ∷ [])
  none_more c [] t n ne = (ne, tt)
  none_more c (s ∷ ts) t n ne = (n.0, none_more c ts t n.1 ne)

  pub none_behind : (c : ℕ) (xs ys : List (Turn S)) → NoneOf c (xs ++ ys) → NoneOf c ys
  none_behind c [] ys n = n
  none_behind c (x ∷ xs) ys n = none_behind c xs ys n.1

  pub sees_more : (c : ℕ) (known all : List (Turn S)) (t : Turn S) → HasSeen c known all → t.core ≢ c → HasSeen c known (all ++ t ∷ [])
  sees_more c known all t h ne = record {
    rest = h.rest ++ t ∷ [];
    goes = ap (λ l. l ++ t ∷ []) h.goes ∙ append_assoc known h.rest (t ∷ []);
    others = none_more c h.rest t h.others ne;
  }

  pub sees_all : (c : ℕ) (known all : List (Turn S)) → known ≡ all → HasSeen c known all
  sees_all c known all e = record { rest = []; goes = sym (append-nil known ∙ e); others = tt }

module _ {S : Type 0} (state : S → World) where
  pub order_more : (first : List S) (ts : List (Turn S)) (x : S) (t : Turn S) → AreInOrder state first ts → left_by first ts ≡ x ∷ []
      → Leads state (state x) t.core (state t.machine) → AreInOrder state first (ts ++ t ∷ [])
  order_more [] [] x t o e l = absurd cc
  order_more (y ∷ ys) [] x t o e l =
      let same : x ≡ y = cc in
      (subst (λ (z : S). Leads state (state z) t.core (state t.machine)) same l, tt)
  order_more [] (s ∷ ts) x t o e l = absurd o
  order_more (y ∷ ys) (s ∷ ts) x t o e l = (o.0, order_more (s.machine ∷ []) ts x t o.1 e l)

  -- ---- what other cores change

  -- the last turn was another core's
  pub replied_on : (c : ℕ) (first : List S) (ts : List (Turn S)) (x : S) (t : Turn S) → left_by first ts ≡ x ∷ []
      → Leads state (state x) t.core (state t.machine) → c ≢ t.core
      → replied_by c (log_in state (left_by first (ts ++ t ∷ []))) ≡ replied_by c (log_in state (left_by first ts))
  replied_on c first ts x t last leads ne =
      ap (λ l. replied_by c (log_in state l)) (left_more first ts t)
      ∙ (leads.adds.1.others c ne ∙ ap (λ l. replied_by c (log_in state l)) (sym last))

  keeps : (c : ℕ) (first : List S) (ts : List (Turn S)) → AreInOrder state first ts → NoneOf c ts
      → replied_by c (log_in state (left_by first ts)) ≡ replied_by c (log_in state first)
  keeps c first [] o n = refl
  keeps c [] (t ∷ ts) o n = absurd o
  keeps c (x ∷ xs) (t ∷ ts) o n = keeps c (t.machine ∷ []) ts o.1 n.1 ∙ o.0.adds.1.others c (λ e. n.0 (sym e))

  -- all turns from here on were
  pub others_keep : (c : ℕ) (first : List S) (ts rest : List (Turn S)) → AreInOrder state first (ts ++ rest) → NoneOf c rest
      → replied_by c (log_in state (left_by first (ts ++ rest))) ≡ replied_by c (log_in state (left_by first ts))
  others_keep c first [] rest o n = keeps c first rest o n
  others_keep c [] (t ∷ ts) rest o n = absurd o
  others_keep c (x ∷ xs) (t ∷ ts) rest o n = others_keep c (t.machine ∷ []) ts rest o.1 n

  pub told_on : (first : List S) (ts : List (Turn S)) (x : S) (t : Turn S) (d : JoinedCore S) → left_by first ts ≡ x ∷ []
      → Leads state (state x) t.core (state t.machine) → d.core ≢ t.core → IsTold state first ts d → IsTold state first (ts ++ t ∷ []) d
  told_on first ts x t d last leads ne old = record {
    seen = sees_more d.core d.turns ts t old.seen (λ e. ne (sym e));
    mine = replied_on d.core first ts x t last leads ne ∙ old.mine;
  }
