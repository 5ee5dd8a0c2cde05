-- How many plain steps a call can still take where no other call runs
use Rattle.machine_model.proofs.Words.{◌≡◌, ℕ, zero, suc, ◌≤◌, ◌<◌, ◌+◌, ◌-◌, ◌^◌, Bool, ◌==◌, refl, ap, arith, Some, None, Option, is_some, nat_le, PageRange}
use Rattle.machine_model.proofs.Words.{Reply, by_test, Touch, range_of, target_range, goal_range, IsSoundPlace, Place, Target, Hint, Window, Slots, Divides}
use Rattle.machine_model.proofs.Words.{between, Goal, Phase, Free, Check, Lock, Guess, Find, Cut, Decide, Post, Acks, Unlock, Answer, Try, Settle, Want, Fill}
use Rattle.machine_model.proofs.Words.{CopyPost, CopyAcks, Install, Release, let_go, translated_by, frame_reached, Hardware, back_to, guess_of, trying}
use Rattle.machine_model.proofs.Words.{IsPageRange, all_locked, locked_to, held_after}
use Rattle.std.proofs.Common.{if◌then◌else◌}
use Rattle.slot_lock.specs.Edges.{edges_below}
use Rattle.slot_lock.specs.declared.plan.Target.TheVariants.{Run}
use Rattle.slot_lock.proofs.EdgeCounts.{edges_below-Divides, edges_below-most}
use Rattle.slot_lock.specs.declared.plan.Goal.TheVariants as To
use Rattle.machine_model.specs.declared.phase.Phase.TheVariants.{Back as Leaving}
use Rattle.machine_model.specs.Placing.{elsewhere}
use Rattle.machine_model.specs.Orderly.{IsPassed}

-- ---- divisions that are left

-- at how many valid pages no slot begins
pub missing : Slots → ℕ
missing s = 2 ^ 35 - edges_below s (2 ^ 35)

-- 1 where a slot begins
abbrev one : Bool → ℕ
one b = if b then 1 else 0

same_edges : (s t : Slots) → t.edge ≡ s.edge → (n : ℕ) → edges_below t n ≡ edges_below s n
unfolding edges_below
same_edges s t e zero = refl
same_edges s t e (suc n) =
    let a : one (t.edge n) ≡ one (s.edge n) = ap (λ f. one (f n)) e in
    let b = same_edges s t e n in
    omega (arith, a, b)

pub missing_same : (s t : Slots) → t.edge ≡ s.edge → missing t ≡ missing s
unfolding missing
missing_same s t e = ap (λ n. 2 ^ 35 - n) (same_edges s t e (2 ^ 35))

-- a division leaves fewer
pub missing_less : (s t : Slots) (owner : Option ℕ) (at : ℕ) → at < 2 ^ 35 → Divides s t owner at → missing t < missing s
unfolding missing
missing_less s t owner at l h =
    let a = edges_below-Divides s t owner at (2 ^ 35) h l in
    let b = edges_below-most t (2 ^ 35) in
    omega (arith, a, b)

pub missing_most : (s : Slots) → missing s ≤ 2 ^ 35
unfolding missing
missing_most s = omega arith

-- ---- the rank

abbrev pub size : PageRange → ℕ
size r = r.end - r.first

-- the frame to which core c's tables and TLB lead an access
abbrev pub reach_of : Hardware → ℕ → Touch → Option ℕ
reach_of h c touch = frame_reached (translated_by h c touch)

-- the access finds a frame
abbrev pub hits : (Touch → Option ℕ) → Touch → Bool
hits reach touch = is_some (reach touch)

-- for a mapping that looks for its place, apart from divisions: while it locks its window and goes there
abbrev pub window_rank : Place → ℕ
window_rank place = size place.window + (size place.window + 4)

-- where it is to guess a run, which it locks before its window
abbrev pub guess_rank : Place → ℕ
guess_rank place = place.count + (place.count + (window_rank place + 3))

-- once it has let its target go
abbrev pub elsewhere_rank : Place → Target → ℕ
elsewhere_rank place (Hint range) = guess_rank place
elsewhere_rank place _ = window_rank place

-- with all pages of its target held
abbrev pub found_rank : Place → Target → ℕ
found_rank place (Hint range) = size range + (guess_rank place + 2)
found_rank place (Run range) = size range + (window_rank place + 2)
found_rank place Window = size place.window + 4

-- once all pages of the goal are locked
abbrev pub locked_rank : Goal → ℕ
locked_rank (To.Place place target) = found_rank place target
locked_rank (To.Change change) = size (range_of change) + 4
locked_rank (To.Access touch) = 12

-- with m divisions left
abbrev pub rank : ℕ → (Touch → Option ℕ) → Phase → ℕ
rank m reach Free = 0
rank m reach (Check request) = 2 ^ 38
rank m reach (Lock goal cursor) = m + (((goal_range goal).end - cursor) + locked_rank goal)
rank m reach (Guess place) = m + guess_rank place
rank m reach (Find place target) = m + found_rank place target
rank m reach (Leaving place target held) = m + (size held + (elsewhere_rank place target + 1))
rank m reach (Cut place target range) = m + (size (target_range place target) + 3)
rank m reach (Decide change) = size (range_of change) + 4
rank m reach (Post change shoot) = size (range_of change) + 3
rank m reach (Acks goal change) = size (goal_range goal) + 2
rank m reach (Unlock held reply) = size held + 1
rank m reach (Answer reply) = 1
rank m reach (Try touch) = if hits reach touch then 2 else m + 14
rank m reach (Settle touch) = 12
rank m reach (Want touch old) = 11
rank m reach (CopyPost touch frame) = 10
rank m reach (CopyAcks touch frame) = 9
rank m reach (Fill touch frame) = 8
rank m reach (Install touch) = 7
rank m reach (Release touch) = 6

abbrev pub rank_of : Slots → (Touch → Option ℕ) → Phase → ℕ
rank_of s reach phase = rank (missing s) reach phase

-- ---- locking and unlocking go on to the right

all_rank : (m : ℕ) (reach : Touch → Option ℕ) (goal : Goal) → rank m reach (all_locked goal) ≤ m + locked_rank goal
all_rank m reach (To.Place place target) = omega arith
all_rank m reach _ = omega arith

pub lock_less : (m : ℕ) (reach old : Touch → Option ℕ) (goal : Goal) (cursor b : ℕ) → cursor < b → b ≤ (goal_range goal).end
    → rank m reach (locked_to goal b) < rank m old (Lock goal cursor)
lock_less m reach old goal cursor b l n =
    by_test (λ phase. rank m reach phase < m + (((goal_range goal).end - cursor) + locked_rank goal)) (nat_le (goal_range goal).end b)
    (all_locked goal) (Lock goal b)
    (λ _. let a = all_rank m reach goal in omega (arith, a)) (λ _. omega arith)

pub unlock_less : (m n : ℕ) (reach old : Touch → Option ℕ) (held : PageRange) (reply : Reply) (b : ℕ) → held.first < b → b ≤ held.end
    → rank m reach (let_go (held_after held b) reply) < rank n old (Unlock held reply)
unlock_less m n reach old held reply b l e =
    by_test (λ o. rank m reach (let_go o reply) < size held + 1) (b == held.end) None (Some (between b held.end)) (λ _. omega arith) (λ _. omega arith)

-- ---- a mapping that looks for its place

-- what lies behind a target that is let go: the guess of a run, or the window
elsewhere_least : (m : ℕ) (reach : Touch → Option ℕ) (place : Place) (target : Target)
    → rank m reach (elsewhere place target) ≤ m + elsewhere_rank place target
elsewhere_least m reach place (Hint range) = omega arith
elsewhere_least m reach place _ = omega arith

-- a mapping that lets pages go still has some, or looks elsewhere
pub back_all : (P : Phase → Type 0) (place : Place) (target : Target) (o : Option PageRange) → P (Guess place) → P (trying place Window)
    → ((held : PageRange) → P (Leaving place target held)) → P (back_to place target o)
back_all P place (Hint range) None g w h = g
back_all P place (Run range) None g w h = w
back_all P place Window None g w h = w
back_all P place target (Some held) g w h = h held

-- with fewer steps left
pub back_less : (m : ℕ) (reach old : Touch → Option ℕ) (place : Place) (target : Target) (held : PageRange) (b : ℕ) → held.first < b
    → b ≤ held.end
    → rank m reach (back_to place target (held_after held b)) < rank m old (Leaving place target held)
back_less m reach old place target held b l e =
    by_test (λ o. rank m reach (back_to place target o) < m + (size held + (elsewhere_rank place target + 1)))
    (b == held.end) None (Some (between b held.end))
    (λ _. let a = elsewhere_least m reach place target in omega (arith, a)) (λ _. omega arith)

-- it lets a hint or a run go before it looks elsewhere
pub turn_less : (m : ℕ) (reach old : Touch → Option ℕ) (place : Place) (target : Target) → IsPassed target
    → rank m reach (Leaving place target (target_range place target)) < rank m old (Find place target)
turn_less m reach old place Window k = absurd k
turn_less m reach old place _ k = omega arith

-- it cuts the slots of its target, or is refused
pub find_more : (m : ℕ) (reach : Touch → Option ℕ) (place : Place) (target : Target)
    → m + (size (target_range place target) + 3) < rank m reach (Find place target)
find_more m reach place (Hint range) = omega arith
find_more m reach place _ = omega arith

-- it locks the run that it guesses, or its window
pub guess_less : (m : ℕ) (reach old : Touch → Option ℕ) (place : Place) (found : Option ℕ)
    → rank m reach (trying place (guess_of place found)) < rank m old (Guess place)
guess_less m reach old place None = omega arith
guess_less m reach old place (Some first) = omega arith

-- its window has valid pages alone
few_placed : (place : Place) → IsSoundPlace place → window_rank place ≤ 2 ^ 36 + 4
few_placed place k = let high = k.window.high in omega (arith, high)

-- after its check it looks for a run, or locks its hint
pub seek_less : (m : ℕ) (reach : Touch → Option ℕ) (place : Place) → m ≤ 2 ^ 35 → IsSoundPlace place → rank m reach (Guess place) < 2 ^ 38
seek_less m reach place most k = let a = few_placed place k in let fits = k.fits in omega (arith, a, fits, most)

pub hint_less : (m : ℕ) (reach : Touch → Option ℕ) (place : Place) (range : PageRange) → m ≤ 2 ^ 35 → IsSoundPlace place → IsPageRange range
    → rank m reach (trying place (Hint range)) < 2 ^ 38
hint_less m reach place range most k valid =
    let a = few_placed place k in let fits = k.fits in let high = valid.high in omega (arith, a, fits, high, most)
