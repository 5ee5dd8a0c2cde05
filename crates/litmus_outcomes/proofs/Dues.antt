-- One thing said of what is due
use Rattle.std.proofs.Common.{◌≡◌, ◌≢◌, ℕ, zero, suc, ◌<◌, ◌==◌, Bool, true, false, cond, List, [], ◌∷◌, ◌++◌, length, set, slice_get, Some, refl}
use Rattle.std.proofs.Common.{sym, ◌∙◌, ap, subst, arith, ◌+◌, ◌≤◌, append_assoc, append-nil, drop, get_or}
use Rattle.std.proofs.lemmas.List.{drop_all, drop_more}
use Rattle.machine_model.specs.declared.event.Event.{Event}
use Rattle.machine_model.specs.declared.event.Outcome.{Outcome}
use Rattle.vm_base.proofs.Functions.{eq_true, eq_false}
use Rattle.vm_base.specs.declared.replies.Reply.{Reply}
use Rattle.vm_base.specs.declared.requests.Request.{Request}
use Rattle.litmus_merges.specs.declared.asked.Asked.{Asked}
use Rattle.litmus_merges.proofs.Lists.{get_one, get_read, get_within}
use Rattle.litmus_outcomes.specs.Performed.{Said, said, said_by, said_of, scripted}
use Rattle.litmus_outcomes.specs.Performed.Said.{Asks, Tells}
use Rattle.litmus_outcomes.specs.declared.performing.Due.{Due}
use Rattle.litmus_outcomes.specs.declared.performing.Stage.{Stage}
use Rattle.litmus_outcomes.specs.declared.performing.Stage.TheVariants.{Ahead, Begun, Over}
use Rattle.litmus_outcomes.specs.Dues.{IsNextDue, due_said, dues_of, dues_said, stage_said}

-- a call of another core, or one that is over, says nothing
over_silent : (c : ℕ) (d : Due) → d.stage ≡ Over → due_said c d ≡ []
over_silent c d e = ap (λ (s : Stage). cond (d.core == c) (stage_said s d.request d.reply) []) e ∙ same (d.core == c)
  where
    same : (b : Bool) → cond b (stage_said Over d.request d.reply) [] ≡ []
    same true = refl
    same false = refl

other_silent : (c : ℕ) (d : Due) → d.core ≢ c → due_said c d ≡ []
other_silent c d ne = by (d.core == c) refl
  where
    by : (b : Bool) → (d.core == c) ≡ b → cond b (stage_said d.stage d.request d.reply) [] ≡ []
    by true e = absurd (ne (eq_true d.core c e))
    by false e = refl

-- what the core says with its next call, if anything
abbrev pub front : ℕ → ℕ → List Said → List Said
front c core says = cond (core == c) says []

-- one thing said at a place: the due becomes another of the same core, which has that less to say
swap_front : (c core : ℕ) (says : List Said) (d e : Due) (rest : List Said) → d.core ≡ core → e.core ≡ core
    → stage_said d.stage d.request d.reply ≡ says ++ stage_said e.stage e.request e.reply
    → due_said c d ++ rest ≡ front c core says ++ (due_said c e ++ rest)
swap_front c core says d e rest dc ec less =
    ap (λ (n : ℕ). cond (n == c) (stage_said d.stage d.request d.reply) [] ++ rest) dc
    ∙ (by (core == c)
    ∙ sym (ap (λ (n : ℕ). front c core says ++ (cond (n == c) (stage_said e.stage e.request e.reply) [] ++ rest)) ec))
  where
    join : (xs ys zs : List Said) → (xs ++ ys) ++ zs ≡ xs ++ (ys ++ zs)
    join [] ys zs = refl
    join (x ∷ xs) ys zs = ap (λ (l : List Said). x ∷ l) (join xs ys zs)

    by : (b : Bool) → cond b (stage_said d.stage d.request d.reply) [] ++ rest
        ≡ cond b says [] ++ (cond b (stage_said e.stage e.request e.reply) [] ++ rest)
    by true = ap (λ (l : List Said). l ++ rest) less ∙ join says (stage_said e.stage e.request e.reply) rest
    by false = refl

-- what stands before says nothing where the core says something
pass : (c core : ℕ) (says : List Said) (d : Due) (rest : List Said) → (d.core ≡ core → d.stage ≡ Over)
    → due_said c d ++ (front c core says ++ rest) ≡ front c core says ++ (due_said c d ++ rest)
pass c core says d rest over = by (core == c) refl
  where
    by : (b : Bool) → (core == c) ≡ b → due_said c d ++ (cond b says [] ++ rest) ≡ cond b says [] ++ (due_said c d ++ rest)
    by false e = refl
    by true e = here (d.core == core) refl
      where
        silent : due_said c d ≡ [] → due_said c d ++ (says ++ rest) ≡ says ++ (due_said c d ++ rest)
        silent none = ap (λ (l : List Said). l ++ (says ++ rest)) none ∙ sym (ap (λ (l : List Said). says ++ (l ++ rest)) none)

        here : (x : Bool) → (d.core == core) ≡ x → due_said c d ++ (says ++ rest) ≡ says ++ (due_said c d ++ rest)
        here true f = silent (over_silent c d (over (eq_true d.core core f)))
        here false f = silent (other_silent c d (λ g. eq_false d.core core f (g ∙ sym (eq_true core c e))))

pub said_first : (c core k : ℕ) (says : List Said) (dues : List Due) (d e : Due) → IsNextDue dues core k d → e.core ≡ core
    → stage_said d.stage d.request d.reply ≡ says ++ stage_said e.stage e.request e.reply
    → dues_said c dues ≡ front c core says ++ dues_said c (set dues k e)
said_first c core k says [] d e next ec less = let no = next.is in absurd cc
said_first c core zero says (x ∷ dues) d e next ec less =
    let is = next.is in
    let same : x ≡ d = cc in
    ap (λ (y : Due). due_said c y ++ dues_said c dues) same ∙ swap_front c core says d e (dues_said c dues) next.of ec less
said_first c core (suc k) says (x ∷ dues) d e next ec less =
    let inner : IsNextDue dues core k d = record { is = next.is; of = next.of; earlier = λ j other l at same. next.earlier (suc j) other (omega (arith, l)) at same } in
    ap (λ (l : List Said). due_said c x ++ l) (said_first c core k says dues d e inner ec less)
    ∙ pass c core says x (dues_said c (set dues k e)) (λ same. next.earlier zero x (omega arith) refl same)

-- at first all is due
pub all_due : (c : ℕ) (calls : List Asked) (replies : List Reply) → dues_said c (dues_of calls replies) ≡ scripted c calls replies
all_due c [] replies = refl
all_due c (call ∷ calls) [] = refl
all_due c (call ∷ calls) (reply ∷ replies) = ap (λ (l : List Said). said_of c call reply ++ l) (all_due c calls replies)

-- a call that is to begin, and one that is to have its reply
pub begins : (d : Due) (request : Request) → d.stage ≡ Ahead → d.request ≡ request
    → stage_said d.stage d.request d.reply ≡ (Asks request ∷ []) ++ stage_said Begun d.request d.reply
begins d request ahead same =
    ap (λ (s : Stage). stage_said s d.request d.reply) ahead ∙ ap (λ (q : Request). Asks q ∷ Tells d.reply ∷ []) same

pub ends : (d : Due) (reply : Reply) → d.stage ≡ Begun → d.reply ≡ reply
    → stage_said d.stage d.request d.reply ≡ (Tells reply ∷ []) ++ stage_said Over d.request d.reply
ends d reply begun same = ap (λ (s : Stage). stage_said s d.request d.reply) begun ∙ ap (λ (y : Reply). Tells y ∷ []) same

-- ---- one call more

read : {A : Type 0} (xs : List A) (k : ℕ) (x : A) → slice_get xs k ≡ Some x → x ≡ get_or xs k x
read [] k x e = absurd cc
read (y ∷ ys) zero x e = let same : y ≡ x = cc in sym same
read (y ∷ ys) (suc k) x e = read ys k x e

pub dues_more : (calls : List Asked) (replies : List Reply) (k : ℕ) (call : Asked) (reply : Reply) (dues new all : List Due) → k < length calls
    → k < length replies → call ≡ get_or calls k call → slice_get replies k ≡ Some reply
    → new ≡ dues ++ record { core = call.core; request = call.request; reply = reply; stage = Ahead } ∷ []
    → dues ++ dues_of (drop k calls) (drop k replies) ≡ all → new ++ dues_of (drop (k + 1) calls) (drop (k + 1) replies) ≡ all
dues_more calls replies k call reply dues new all in-calls in-replies is got more h =
    ap (λ (l : List Due). l ++ dues_of (drop (k + 1) calls) (drop (k + 1) replies)) more
    ∙ (append_assoc dues (due ∷ []) (dues_of (drop (k + 1) calls) (drop (k + 1) replies))
    ∙ (ap (λ (l : List Due). dues ++ l) (sym next) ∙ h))
  where
    its : reply ≡ get_or replies k reply
    its = read replies k reply got

    due : Due
    due = record { core = call.core; request = call.request; reply = reply; stage = Ahead }

    next : dues_of (drop k calls) (drop k replies) ≡ due ∷ dues_of (drop (k + 1) calls) (drop (k + 1) replies)
    next =
        ap (λ (l : List Asked). dues_of l (drop k replies)) (drop_more calls k call in-calls ∙ ap (λ (x : Asked). x ∷ drop (k + 1) calls) (sym is))
        ∙ ap (dues_of (call ∷ drop (k + 1) calls)) (drop_more replies k reply in-replies ∙ ap (λ (x : Reply). x ∷ drop (k + 1) replies) (sym its))

pub dues_end : (calls : List Asked) (replies : List Reply) (k : ℕ) (dues all : List Due) → length calls ≤ k
    → dues ++ dues_of (drop k calls) (drop k replies) ≡ all → dues ≡ all
dues_end calls replies k dues all end h =
    sym (append-nil dues) ∙ (ap (λ (l : List Asked). dues ++ dues_of l (drop k replies)) (sym (drop_all k calls end)) ∙ h)

-- ---- one looked at

pub over_more : (c : ℕ) (dues : List Due) (k : ℕ) (d : Due) → k < length dues → d ≡ get_or dues k d → d.stage ≡ Over
    → (dues_said c (drop k dues) ≡ [] → dues_said c dues ≡ []) → dues_said c (drop (k + 1) dues) ≡ [] → dues_said c dues ≡ []
over_more c dues k d within is over h rest =
    h (ap (dues_said c) (drop_more dues k d within ∙ ap (λ (x : Due). x ∷ drop (k + 1) dues) (sym is))
    ∙ (ap (λ (l : List Said). l ++ dues_said c (drop (k + 1) dues)) (over_silent c d over) ∙ rest))

pub over_end : (c : ℕ) (dues : List Due) (k : ℕ) → length dues ≤ k → (dues_said c (drop k dues) ≡ [] → dues_said c dues ≡ []) → dues_said c dues ≡ []
over_end c dues k end h = h (ap (dues_said c) (drop_all k dues end))

-- ---- one event

pub said_more : (c : ℕ) (es : List Event) (os : List Outcome) (k : ℕ) (e : Event) (o : Outcome) (dues new : List Due) (all : List Said) → k < length es
    → k < length os → e ≡ get_or es k e → o ≡ get_or os k o → dues_said c dues ≡ said_by c e o ++ dues_said c new
    → (said c (drop k es) (drop k os) ≡ dues_said c dues → said c es os ≡ all)
    → said c (drop (k + 1) es) (drop (k + 1) os) ≡ dues_said c new → said c es os ≡ all
said_more c es os k e o dues new all in-es in-os is its one h rest =
    h (ap (λ (l : List Event). said c l (drop k os)) (drop_more es k e in-es ∙ ap (λ (x : Event). x ∷ drop (k + 1) es) (sym is))
    ∙ (ap (said c (e ∷ drop (k + 1) es)) (drop_more os k o in-os ∙ ap (λ (x : Outcome). x ∷ drop (k + 1) os) (sym its))
    ∙ (ap (λ (l : List Said). said_by c e o ++ l) rest ∙ sym one)))

pub said_end : (c : ℕ) (es : List Event) (os : List Outcome) (k : ℕ) (dues : List Due) (all : List Said) → length es ≤ k → dues_said c dues ≡ []
    → (said c (drop k es) (drop k os) ≡ dues_said c dues → said c es os ≡ all) → said c es os ≡ all
said_end c es os k dues all end none h = h (ap (λ (l : List Event). said c l (drop k os)) (drop_all k es end) ∙ sym none)

-- ---- the core's next call

next_within : (dues slice : List Due) (core k : ℕ) → slice ≡ dues → (d : Due) × IsNextDue slice core k d → k < length dues
next_within dues slice core k same next = get_within dues k next.0 (subst (λ (xs : List Due). slice_get xs k ≡ Some next.0) same next.1.is)

moved : (c core k : ℕ) (says : List Said) (dues slice new : List Due) (d e : Due) → slice ≡ dues → (x : Due) × IsNextDue slice core k x → d ≡ get_or dues k d
    → e.core ≡ d.core → stage_said d.stage d.request d.reply ≡ says ++ stage_said e.stage e.request e.reply → new ≡ set dues k e
    → dues_said c dues ≡ front c core says ++ dues_said c new
moved c core k says dues slice new d e same next is alike less more =
    let there : IsNextDue dues core k next.0 = subst (λ (xs : List Due). IsNextDue xs core k next.0) same next.1 in
    let one : next.0 ≡ d = get_one dues k next.0 d there.is (get_read dues k d (get_within dues k next.0 there.is) is) in
    let here : IsNextDue dues core k d = subst (IsNextDue dues core k) one there in
    said_first c core k says dues d e here (alike ∙ here.of) less ∙ ap (λ (xs : List Due). front c core says ++ dues_said c xs) (sym more)

-- what was read at a place twice is one
twice : (dues slice : List Due) (core k : ℕ) (x d : Due) → slice ≡ dues → (y : Due) × IsNextDue slice core k y → x ≡ get_or dues k x → d ≡ get_or dues k d → d ≡ x
twice dues slice core k x d same next is its =
    let within = next_within dues slice core k same next in
    get_one dues k d x (get_read dues k d within its) (get_read dues k x within is)

pub begun_there : (c core k : ℕ) (request : Request) (dues slice : List Due) (x d : Due) → slice ≡ dues → (y : Due) × IsNextDue slice core k y
    → x ≡ get_or dues k x → d ≡ get_or dues k d → x.stage ≡ Ahead → x.request ≡ request
    → dues_said c dues ≡ front c core (Asks request ∷ []) ++ dues_said c (set dues k (record d { stage = Begun }))
begun_there c core k request dues slice x d same next is its ahead asks =
    let one = twice dues slice core k x d same next is its in
    moved c core k (Asks request ∷ []) dues slice (set dues k (record d { stage = Begun })) d (record d { stage = Begun }) same next its refl
    (begins d request (ap (λ (y : Due). y.stage) one ∙ ahead) (ap (λ (y : Due). y.request) one ∙ asks)) refl

pub told_there : (c core k : ℕ) (reply : Reply) (dues slice : List Due) (x d : Due) → slice ≡ dues → (y : Due) × IsNextDue slice core k y
    → x ≡ get_or dues k x → d ≡ get_or dues k d → x.stage ≡ Begun → x.reply ≡ reply
    → dues_said c dues ≡ front c core (Tells reply ∷ []) ++ dues_said c (set dues k (record d { stage = Over }))
told_there c core k reply dues slice x d same next is its begun tells =
    let one = twice dues slice core k x d same next is its in
    moved c core k (Tells reply ∷ []) dues slice (set dues k (record d { stage = Over })) d (record d { stage = Over }) same next its refl
    (ends d reply (ap (λ (y : Due). y.stage) one ∙ begun) (ap (λ (y : Due). y.reply) one ∙ tells)) refl
