-- The entries that a call has made in the log: that of its copy, if its page has got one, and that of its reply
use Rattle.machine_model.proofs.Words.{◌≡◌, ℕ, refl, sym, ap, subst, Some, None, Option, ◌∙◌, List, [], ◌∷◌, ◌++◌, PageRange, Reply, Request, detached, Plain}
use Rattle.machine_model.proofs.Words.{put_same, Entry, Phase, Lock, Cut, Post, Acks, Try, Want, Fill, CopyPost, CopyAcks, Install, Release, taken_for, to}
use Rattle.machine_model.proofs.Words.{let_go, with_entry, answer_entry, held_after, locked_to, World, EntryLeads, Replays, with_copy, Users}
use Rattle.vm_base.specs.declared.log.Entry.TheVariants as EntryOf
use Rattle.machine_model.specs.declared.phase.Phase.TheVariants.{Back as Leaving}
use Rattle.machine_model.proofs.Effects.{Status, Closed, Asked, Told, status, told_in, moves_quiet, replies_quiet, locked_quiet, back_quiet, taken_asked}
use Rattle.machine_model.proofs.Shapes.{LetsGo, unlocks, returns, releases, GoesBy, moves, divides, cuts, fits, owns, lets_go, answers, posts, commits}
use Rattle.machine_model.proofs.Shapes.{takes, zeroes, first_copies, caches, shares, posts_copy, copies, installs, accesses, faults}
use Rattle.machine_model.proofs.OneMap.{log_leads_to_one}
use Rattle.machine_model.specs.Alone.{IsCopied, IsNoted}
use Rattle.vm_base.specs.Copies.{or_else}
use Rattle.machine_model.proofs.Used.{IsFrom, IsUsed, copy_after, used_at}

-- the log is that of the beginning, with the copy that the call has made, and with its reply once it has one
abbrev pub IsLogged : List Entry → List Entry → ℕ → ℕ → Option ℕ → Status → Type 0
IsLogged first log call c copy Closed = ⊥
IsLogged first log call c copy Asked = IsCopied first copy call log
IsLogged first log call c copy (Told reply) = IsNoted first copy call c reply log

-- of core c's call
abbrev pub IsLoggedOf : List Entry → ℕ → Option ℕ → ℕ → World → Type 0
IsLoggedOf first call copy c w = IsLogged first w.calls.log call c copy (status (w.calls.phase c))

-- ---- where the log leads

-- what the last entry did
pub last_entry : (rs : List Request) (es : List Entry) (t u : Plain) (e : Entry) → Replays rs t (es ++ e ∷ []) u
    → (m : Plain) × Replays rs t es m × EntryLeads rs m e u
last_entry rs [] t u e r = (t, refl, subst (EntryLeads rs t e) (sym r.2) r.1)
last_entry rs (x ∷ xs) t u e r = let k = last_entry rs xs r.0 u e r.2 in (k.0, (r.0, r.1, k.1), k.2)

-- the map in which the call goes on
pub from_log : (rs : List Request) (first log : List Entry) (z t now : Plain) (call : ℕ) (copy : Option ℕ) → IsCopied first copy call log → Replays rs z first t
    → Replays rs z log now → IsFrom t copy now
from_log rs first log z t now call None k f r = log_leads_to_one rs first z now t (subst (λ l. Replays rs z l now) k r) f
from_log rs first log z t now call (Some page) k f r =
    let last = last_entry rs first z now (EntryOf.Detach k.0 call page) (subst (λ l. Replays rs z l now) k.1 r) in
    subst (λ m. detached m page ≡ Some now) (log_leads_to_one rs first z last.0 t last.1 f) last.2.1

pub is_with_copy : (t : Plain) (copy : Option ℕ) (now : Plain) → IsFrom t copy now → now ≡ with_copy t copy
is_with_copy t None now h = h
is_with_copy t (Some page) now h = sym (ap (or_else t) h)

-- ---- steps

to_asked : (first : List Entry) (call : ℕ) (copy : Option ℕ) (c : ℕ) (new : Phase) (x v : World) → v ≡ to c new x → status new ≡ Asked
    → IsCopied first copy call x.calls.log → IsLoggedOf first call copy c v
to_asked first call copy c new x v h a k =
    subst (IsLoggedOf first call copy c) (sym h)
    (subst (IsLogged first x.calls.log call c copy) (sym (ap status (put_same x.calls.phase c new) ∙ a)) k)

to_told : (first : List Entry) (call : ℕ) (copy : Option ℕ) (c : ℕ) (new : Phase) (reply : Reply) (x v : World) → v ≡ to c new x → status new ≡ Told reply
    → IsNoted first copy call c reply x.calls.log → IsLoggedOf first call copy c v
to_told first call copy c new reply x v h a k =
    subst (IsLoggedOf first call copy c) (sym h)
    (subst (IsLogged first x.calls.log call c copy) (sym (ap status (put_same x.calls.phase c new) ∙ a)) k)

was_asked : (first : List Entry) (call : ℕ) (copy : Option ℕ) (c : ℕ) (old : Phase) (w : World) → w.calls.phase c ≡ old → status old ≡ Asked
    → IsLoggedOf first call copy c w → IsCopied first copy call w.calls.log
was_asked first call copy c old w e a k = subst (IsLogged first w.calls.log call c copy) (ap status e ∙ a) k

lets_go_logged : (first : List Entry) (call : ℕ) (copy : Option ℕ) (c : ℕ) (w : World) (x : World) (held : PageRange) (b : ℕ) (new : Phase) (v : World)
    → IsLoggedOf first call copy c w → LetsGo (w.calls.phase c) held b new → x.calls ≡ w.calls → v ≡ to c new x → IsLoggedOf first call copy c v
lets_go_logged first call copy c w x held b new v k (unlocks reply e n) same h =
    to_told first call copy c new reply x v h (ap status n ∙ told_in (held_after held b) reply)
    (subst (λ calls. IsNoted first copy call c reply calls.log) (sym same) (subst (IsLogged first w.calls.log call c copy) (ap status e) k))
lets_go_logged first call copy c w x held b new v k (returns place target e n) same h =
    to_asked first call copy c new x v h
    (ap status n ∙ (back_quiet place target (held_after held b)).asked)
    (subst (λ calls. IsCopied first copy call calls.log) (sym same) (was_asked first call copy c (Leaving place target held) w e refl k))
lets_go_logged first call copy c w x held b new v k (releases touch e i n) same h =
    to_asked first call copy c new x v h (ap status n)
    (subst (λ calls. IsCopied first copy call calls.log) (sym same) (was_asked first call copy c (Release touch) w e refl k))

-- with a copy where there was none
copied_log : (first : List Entry) (call : ℕ) (copy : Option ℕ) (log : List Entry) (step page : ℕ) → copy ≡ None → IsCopied first copy call log
    → IsCopied first (Some page) call (log ++ EntryOf.Detach step call page ∷ [])
copied_log first call copy log step page none k =
    let was : log ≡ first = subst (λ o. IsCopied first o call log) none k in
    (step, ap (λ l. l ++ EntryOf.Detach step call page ∷ []) was)

pub logged_on : (first : List Entry) (t : Plain) (users : Users) (c : ℕ) (request : Request) (copy : Option ℕ) (w v : World)
    → IsUsed t users c request copy w → IsLoggedOf first (w.calls.number c) copy c w → (g : GoesBy w c v)
    → IsLoggedOf first (w.calls.number c) (copy_after g copy) c v
logged_on first t users c request copy w v u k (moves new m h) =
    let (old, now) = moves_quiet w c new m in
    to_asked first (w.calls.number c) copy c new w v h now.asked (subst (IsLogged first w.calls.log (w.calls.number c) c copy) old.asked k)
logged_on first t users c request copy w v u k (divides goal cursor s e i h) = subst (IsLoggedOf first (w.calls.number c) copy c) (sym h) k
logged_on first t users c request copy w v u k (cuts place target range s e i h) =
    subst (IsLoggedOf first (w.calls.number c) copy c) (sym h) k
logged_on first t users c request copy w v u k (fits place target range e i h) =
    to_asked first (w.calls.number c) copy c _ w v h refl (was_asked first (w.calls.number c) copy c (Cut place target range) w e refl k)
logged_on first t users c request copy w v u k (owns goal cursor b s e l h) =
    to_asked first (w.calls.number c) copy c (locked_to goal b) (record w { slots = s }) v h (locked_quiet goal b).asked
    (was_asked first (w.calls.number c) copy c (Lock goal cursor) w e refl k)
logged_on first t users c request copy w v u k (lets_go held b s new l i h) =
    lets_go_logged first (w.calls.number c) copy c w (record w { slots = s }) held b new v k l refl h
logged_on first t users c request copy w v u k (answers held reply r h) =
    to_told first (w.calls.number c) copy c (let_go held reply) reply (with_entry (answer_entry w c reply) w) v h (told_in held reply)
    (w.calls.log, subst (IsLogged first w.calls.log (w.calls.number c) c copy) (replies_quiet w c held reply r).asked k, (w.calls.events, refl))
logged_on first t users c request copy w v u k (posts change shoot e h) =
    to_asked first (w.calls.number c) copy c _ _ v h refl (was_asked first (w.calls.number c) copy c (Post change shoot) w e refl k)
logged_on first t users c request copy w v u k (commits goal change counts e n l h) =
    to_told first (w.calls.number c) copy c _ _ _ v h refl
    (w.calls.log, was_asked first (w.calls.number c) copy c (Acks goal change) w e refl k, (w.calls.events, refl))
logged_on first t users c request copy w v u k (takes touch old x e l h) =
    to_asked first (w.calls.number c) copy c (taken_for touch old x) _ v h (taken_asked touch old x).0
    (was_asked first (w.calls.number c) copy c (Want touch old) w e refl k)
logged_on first t users c request copy w v u k (zeroes touch x counts e b i h) =
    to_asked first (w.calls.number c) copy c _ _ v h refl (was_asked first (w.calls.number c) copy c (Fill touch (Some x)) w e refl k)
logged_on first t users c request copy w v u k (first_copies touch x counts e b i h) =
    to_asked first (w.calls.number c) (Some touch.page) c _ _ v h refl
    (copied_log first (w.calls.number c) copy w.calls.log w.calls.events touch.page (used_at t users c request copy w (Fill touch (Some x)) e u).0
    (was_asked first (w.calls.number c) copy c (Fill touch (Some x)) w e refl k))
logged_on first t users c request copy w v u k (caches touch x counts e s n i h) =
    to_asked first (w.calls.number c) copy c _ _ v h refl (was_asked first (w.calls.number c) copy c (Fill touch (Some x)) w e refl k)
logged_on first t users c request copy w v u k (shares touch own x counts e s n i h) =
    to_asked first (w.calls.number c) copy c _ _ v h refl (was_asked first (w.calls.number c) copy c (Fill touch own) w e refl k)
logged_on first t users c request copy w v u k (posts_copy touch x e h) =
    to_asked first (w.calls.number c) copy c _ _ v h refl (was_asked first (w.calls.number c) copy c (CopyPost touch x) w e refl k)
logged_on first t users c request copy w v u k (copies touch x g counts e n a i h) =
    to_asked first (w.calls.number c) (Some touch.page) c _ _ v h refl
    (copied_log first (w.calls.number c) copy w.calls.log w.calls.events touch.page (used_at t users c request copy w (CopyAcks touch x) e u).0
    (was_asked first (w.calls.number c) copy c (CopyAcks touch x) w e refl k))
logged_on first t users c request copy w v u k (installs touch e h) =
    to_asked first (w.calls.number c) copy c _ _ v h refl (was_asked first (w.calls.number c) copy c (Install touch) w e refl k)
logged_on first t users c request copy w v u k (accesses touch x e i h) =
    to_told first (w.calls.number c) copy c _ _ _ v h refl
    (w.calls.log, was_asked first (w.calls.number c) copy c (Try touch) w e refl k, (w.calls.events, refl))
logged_on first t users c request copy w v u k (faults touch e i h) =
    to_asked first (w.calls.number c) copy c _ _ v h refl (was_asked first (w.calls.number c) copy c (Try touch) w e refl k)
