-- One line after another, also after replies that are wrong.
use Rattle.std.proofs.Common.{◌≡◌, ◌⊎◌, inl, inr, ℕ, zero, suc, ◌+◌, ◌≤◌, Bool, true, false, cond, List, [], ◌∷◌, ◌++◌, length, Option, Some, None}
use Rattle.std.proofs.Common.{Result, Ok, Err}
use Rattle.std.proofs.Common.{append_assoc, append-nil, length-append, arith, refl, sym, ap, ◌∙◌, subst}
use Rattle.vm_base.specs.Plain.{Plain}
use Rattle.vm_base.specs.declared.replies.Reply.{Reply}
use Rattle.audit.specs.declared.auditor.Call.{Call}
use Rattle.trace_io.specs.declared.fault.IoFault.TheVariants.{NoMemory, ReadFailed, WriteFailed}
use Rattle.audit_text.specs.Ends.{IsAtFault}
use Rattle.audit_text.specs.Faults.{SaysNothing}
use Rattle.audit_text.specs.Grammar.{Tells}
use Rattle.audit_text.specs.Heard.{Declared, Heard, Stage, Front, Behind, Leads, behind, item_told, heard_after, is_certain, nothing, stage_after, undeclared}
use Rattle.audit_text.specs.Heard.{lacking_by, with_item}
use Rattle.audit_text.specs.Legal.{IsPlace, first_map, heard_in, told_at}
use Rattle.std.specs.Prelude.{◌&&◌, IfErr, OnOk, if◌then◌else◌, not}
use Rattle.audit_text.specs.Reviewed.GoesOn.{there}
use Rattle.audit_text.specs.Reviewed.{GoesOn, GoesOnBy, IsReviewed, IsThere, IsTextAtFault, Reviews, Turns, TurnsBy, wrong_at}
use Rattle.audit_text.specs.Reviewing.{IsBefore, TurnsOutSo}
use Rattle.audit_text.specs.Steps.{EndsFront, Hears}
use Rattle.audit_text.specs.declared.allowing.Terms.{Terms}
use Rattle.audit_text.specs.declared.item.AuditItem.{AuditItem}
use Rattle.audit_text.specs.declared.hearing.Turn.TheVariants.{Legal, Illegal}
use Rattle.audit_text.specs.declared.input.AuditFault.{AuditFault}
use Rattle.audit_text.specs.declared.input.AuditFault.TheVariants.{BadLine, TooLong, NoVmLine, Io}
use Rattle.audit_text.specs.declared.judging.Verdict.{Verdict}
use Rattle.audit_text.specs.declared.reading.Said.{Said}

-- ---- going on

pub not_there : (a b : Terms) (s t : Plain) (call : Call) → a ≡ b → s ≡ t → ((v : Plain) → ¬ IsThere b t call v) → (v : Plain)
    → ¬ IsThere a s call v
not_there a b s t call e f n v h = n v (subst (λ x. IsThere x t call v) e (subst (λ p. IsThere a p call v) f h))

pub goes_so : {T E : Type 0} (r : Result T E) (a b : Terms) (s t : Plain) (call : Call) (due : Reply) (u : Plain) → a ≡ b → s ≡ t
    → OnOk r (GoesOn a s call due u) → OnOk r (GoesOn b t call due u)
goes_so (Ok x) a b s t call due u e f g = subst (λ y. GoesOn y t call due u) e (subst (λ p. GoesOn a p call due u) f g)
goes_so (Err x) a b s t call due u e f g = tt

pub goes_there : (terms : Terms) (t : Plain) (call : Call) (due : Reply) (u : Plain) → IsThere terms t call u → GoesOn terms t call due u
goes_there terms t call due u h = there h

-- ---- one line

pub legal_turn : (terms : Terms) (h k : Heard) (t u : Plain) (said : Said) (line : ℕ) (found new : List Verdict) → new ≡ found
    → Hears terms h t said Legal k u → TurnsOutSo {T = Unit {0}} terms h t said line found (Ok tt) k u new
legal_turn terms h k t u said line found new same (is, moves) = (is, ([], same ∙ sym (append-nil found), inl (refl, moves)))

pub wrong_turn : (terms : Terms) (h k m : Heard) (t v u : Plain) (said : Said) (line : ℕ) (item : AuditItem) (due : Option Reply) (certain : Bool)
    (found new : List Verdict) → Hears terms h t said (Illegal item due certain) k v → GoesOnBy terms v item due u
    → m ≡ with_item k certain item → new ≡ found ++ wrong_at line item due certain ∷ []
    → TurnsOutSo {T = Unit {0}} terms h t said line found (Ok tt) m u new
wrong_turn terms h k m t v u said line item due certain found new (told, same, sure, refused, after) goes is added = (
  after ∙ ap Some (sym is),
  (
    wrong_at line item due certain ∷ [],
    added,
    inr (item, due, told, refused, subst (λ x. GoesOnBy terms x item due u) same goes, ap (λ b. wrong_at line item due b ∷ []) sure),
  ),
)

-- by terms that are known by an equation
pub turns_by : {T : Type 0} (b terms : Terms) (h k : Heard) (t u : Plain) (said : Said) (n : ℕ) (old new : List Verdict) (r : Result T AuditFault)
    → b ≡ terms → TurnsOutSo b h t said n old r k u new → TurnsOutSo terms h t said n old r k u new
turns_by b terms h k t u said n old new r e turns = subst (λ x. TurnsOutSo x h t said n old r k u new) e turns

-- ---- lines

reviews_more : (terms : Terms) (s : Stage) (t : Plain) (n : ℕ) (ls : List (List ℕ)) (found added : List Verdict) (m z : Stage) (u v : Plain) (l : List ℕ)
    (said : Said) → Reviews terms s t n ls found m u → length l ≤ 512 → Tells said l → stage_after m said ≡ Some z
    → Turns terms m u (suc (n + length ls)) said added v → Reviews terms s t n (ls ++ l ∷ []) (found ++ added) z v
reviews_more terms s t n [] found added m z u v l said (none, stays, same) short tells after turns =
    let start : Turns terms s t (suc n) said added v =
    subst (λ i. Turns terms s t (suc i) said added v) (let e : n + 0 ≡ n = omega arith in e)
    (subst (λ x. Turns terms s x (suc (n + 0)) said added v) same (subst (λ x. Turns terms x u (suc (n + 0)) said added v) stays turns)) in (
      said,
      z,
      v,
      added,
      [],
      short,
      tells,
      subst (λ x. stage_after x said ≡ Some z) stays after,
      start,
      ap (λ xs. xs ++ added) none ∙ sym (append-nil added),
      (refl, refl, refl),
    )
reviews_more terms s t n (x ∷ xs) found added m z u v l said r short tells after turns = (
  r.0,
  r.1,
  r.2,
  r.3,
  r.4 ++ added,
  r.5,
  r.6,
  r.7,
  r.8,
  ap (λ ys. ys ++ added) r.9 ∙ append_assoc r.3 r.4 added,
  reviews_more terms r.1 r.2 (suc n) xs r.4 added m z u v l said r.10 short tells after
      (subst (λ i. Turns terms m u i said added v) (let e : suc (n + suc (length xs)) ≡ suc (suc n + length xs) = omega arith in e) turns),
)

reviews_lead : (terms : Terms) (s : Stage) (t : Plain) (n : ℕ) (ls : List (List ℕ)) (found : List Verdict) (z : Stage) (v : Plain)
    → Reviews terms s t n ls found z v → Leads s ls z
reviews_lead terms s t n [] found z v r = r.1
reviews_lead terms s t n (x ∷ xs) found z v r =
    (r.0, r.1, r.5, r.6, r.7, reviews_lead terms r.1 r.2 (suc n) xs r.4 z v r.10)

leads_join : (a : Stage) (xs ys : List (List ℕ)) (m z : Stage) → Leads a xs m → Leads m ys z → Leads a (xs ++ ys) z
leads_join a [] ys m z h k = subst (λ x. Leads x ys z) h k
leads_join a (x ∷ xs) ys m z h k = (h.0, h.1, h.2, h.3, h.4, leads_join h.1 xs ys m z h.5 k)

-- ---- places

-- the line is at its place
place_before : (terms : Terms) (lines more : List (List ℕ)) (d : Declared) (h : Heard) (t : Plain) (found : List Verdict) (said : Said) (n : ℕ)
    (b : IsBefore terms lines d h t found said n more) → IsPlace lines (length b.front + length b.done) (b.line ∷ more) b.stage
place_before terms lines more d h t found said n b = record {
  done = b.front ++ b.done;
  is = b.is ∙ sym (append_assoc b.front b.done (b.line ∷ more));
  count = length-append b.front b.done;
  leads = leads_join (Front undeclared) b.front b.done (Front d) b.stage b.leads
      (reviews_lead terms (Front d) (first_map d) (length b.front) b.done found b.stage t b.reviews);
}

-- the line was heard
abbrev After : Terms → List (List ℕ) → Declared → Heard → Plain → List Verdict → List (List ℕ) → ℕ → Type 0
After terms lines d k u new rest n = (front : List (List ℕ)) × (done : List (List ℕ)) × (lines ≡ front ++ (done ++ rest))
    × (n ≡ length front + length done) × Leads (Front undeclared) front (Front d)
    × (d.has_space ≡ true) × Reviews terms (Front d) (first_map d) (length front) done new (Behind d k) u

heard_line : (terms : Terms) (lines more : List (List ℕ)) (d : Declared) (h k : Heard) (t u : Plain) (found new : List Verdict) (said : Said) (n : ℕ)
    → IsBefore terms lines d h t found said n more → TurnsOutSo {T = Unit {0}} terms h t said n found (Ok tt) k u new
    → After terms lines d k u new more n
heard_line terms lines more d h k t u found new said n b (is, (added, adds, turns)) =
    let next : stage_after b.stage said ≡ Some (Behind d k) = b.after ∙ ap (behind d) is in
    let at : TurnsBy terms t n (told_at b.stage said) (is_certain (heard_in b.stage) said) added u =
    subst (λ o. TurnsBy terms t n o (is_certain (heard_in b.stage) said) added u) (sym b.told)
    (subst (λ (x : Heard). TurnsBy terms t n (item_told h said) (is_certain x said) added u) (sym b.heard) turns) in
    let more_reviews = reviews_more terms (Front d) (first_map d) (length b.front) b.done found added b.stage (Behind d k) t u b.line said b.reviews
    b.short b.tells next (subst (λ i. Turns terms b.stage t i said added u) b.number_is at) in (
      b.front,
      b.done ++ b.line ∷ [],
      b.is ∙ ap (λ l. b.front ++ l) (sym (append_assoc b.done (b.line ∷ []) more)),
      (let c = length-append b.done (b.line ∷ []) in omega (arith, c, b.number_is)),
      b.leads,
      b.space,
      subst (λ f. Reviews terms (Front d) (first_map d) (length b.front) (b.done ++ b.line ∷ []) f (Behind d k) u) (sym adds) more_reviews,
    )

pub before_next : (terms : Terms) (lines rest more : List (List ℕ)) (d : Declared) (h k : Heard) (t u : Plain) (found new : List Verdict)
    (said other : Said) (n m : ℕ) (line : List ℕ) → IsBefore terms lines d h t found said n rest
    → TurnsOutSo {T = Unit {0}} terms h t said n found (Ok tt) k u new → rest ≡ line ∷ more → (length line ≤ 512) × Tells other line → m ≡ n + 1
    → IsBefore terms lines d k u new other m more
before_next terms lines rest more d h k t u found new said other n m line b turns e says up =
    let a = heard_line terms lines rest d h k t u found new said n b turns in
    record {
      front = a.0;
      done = a.1;
      line = line;
      is = a.2 ∙ ap (λ l. a.0 ++ (a.1 ++ l)) e;
      number_is = omega (arith, up, a.3);
      leads = a.4;
      space = a.5;
      stage = Behind d k;
      reviews = a.6;
      short = says.0;
      tells = says.1;
      after = refl;
      told = refl;
      declared = refl;
      heard = refl;
    }

pub before_last : (terms : Terms) (lines rest : List (List ℕ)) (d : Declared) (h k : Heard) (t u : Plain) (found new : List Verdict) (said : Said)
    (n judged : ℕ) → IsBefore terms lines d h t found said n rest → TurnsOutSo {T = Unit {0}} terms h t said n found (Ok tt) k u new → rest ≡ []
    → judged ≡ k.calls → IsReviewed terms lines new judged (lacking_by terms k)
before_last terms lines rest d h k t u found new said n judged b turns e counted =
    let a = heard_line terms lines rest d h k t u found new said n b turns in
    record {
      front = a.0;
      rest = a.1;
      is = a.2 ∙ ap (λ l. a.0 ++ (a.1 ++ l)) e ∙ ap (λ l. a.0 ++ l) (append-nil a.1);
      declared = d;
      leads = a.4;
      space = a.5;
      stage = Behind d k;
      plain = u;
      reviews = a.6;
      calls_are = counted;
      lacking_are = refl;
    }

pub before_fault : (T : Type 0) (terms : Terms) (lines more : List (List ℕ)) (d : Declared) (h k : Heard) (t u : Plain) (found new : List Verdict)
    (said : Said) (n : ℕ) (f : AuditFault) → IsBefore terms lines d h t found said n more
    → TurnsOutSo {T = T} terms h t said n found (Err f) k u new → IsTextAtFault lines f
before_fault T terms lines more d h k t u found new said n (BadLine m) b (is, none) = record {
  stage = b.stage;
  line = b.line;
  more = more;
  before = length b.front + length b.done;
  number_is = is ∙ b.number_is;
  place = place_before terms lines more d h t found said n b;
  short = b.short;
  misplaced = inr (said, b.tells, b.after ∙ ap (behind d) none, λ needs. ap (λ (e : Declared). e.has_space) b.declared ∙ b.space);
}
before_fault T terms lines more d h k t u found new said n (Io NoMemory) b turns = tt
before_fault T terms lines more d h k t u found new said n f b turns = absurd turns

pub before_unread : (terms : Terms) (lines rest more : List (List ℕ)) (d : Declared) (h k : Heard) (t u : Plain) (found new : List Verdict)
    (said : Said) (n m : ℕ) (line : List ℕ) (f : AuditFault) → IsBefore terms lines d h t found said n rest
    → TurnsOutSo {T = Unit {0}} terms h t said n found (Ok tt) k u new → rest ≡ line ∷ more → m ≡ n + 1 → SaysNothing line m f
    → IsTextAtFault lines f
before_unread terms lines rest more d h k t u found new said n m line f b turns e up says =
    go f (subst (λ i. SaysNothing line i f) up says)
  where
    a : After terms lines d k u new rest n
    a = heard_line terms lines rest d h k t u found new said n b turns

    at : IsPlace lines n (line ∷ more) (Behind d k)
    at = record {
      done = a.0 ++ a.1;
      is = a.2 ∙ ap (λ l. a.0 ++ (a.1 ++ l)) e ∙ sym (append_assoc a.0 a.1 (line ∷ more));
      count = length-append a.0 a.1 ∙ sym a.3;
      leads = leads_join (Front undeclared) a.0 a.1 (Front d) (Behind d k) a.4
          (reviews_lead terms (Front d) (first_map d) (length a.0) a.1 new (Behind d k) u a.6);
    }

    go : (f : AuditFault) → SaysNothing line (n + 1) f → IsTextAtFault lines f
    go (BadLine i) (is, short, says) = record {
      stage = Behind d k;
      line = line;
      more = more;
      before = n;
      number_is = omega (arith, is);
      place = at;
      short = short;
      misplaced = inl says;
    }
    go (TooLong i) (is, long) = record {
      stage = Behind d k;
      line = line;
      more = more;
      before = n;
      number_is = omega (arith, is);
      place = at;
      long = long;
    }
    go f says = absurd says

-- ---- the first line, and none

pub before_first : (terms : Terms) (lines more : List (List ℕ)) (d : Declared) (h : Heard) (t : Plain) (found : List Verdict) (said : Said) (n : ℕ)
    → EndsFront lines d (Some said) n more → d.has_space ≡ true → h ≡ nothing → t ≡ first_map d → found ≡ []
    → IsBefore terms lines d h t found said n more
before_first terms lines more d h t found said n (at, ended, needs) space new first none = record {
  front = at.place.done;
  done = [];
  line = at.line;
  is = at.place.is;
  number_is = (let c = at.place.count in omega (arith, at.number_is, c));
  leads = at.place.leads;
  space = space;
  stage = Front d;
  reviews = (none, refl, first);
  short = at.short;
  tells = at.tells;
  after = ended ∙ ap (λ b. cond b (behind d (heard_after nothing said)) None) space
      ∙ ap (λ (x : Heard). behind d (heard_after x said)) (sym new);
  told = ap (λ b. cond b (item_told nothing said) None) space ∙ ap (λ (x : Heard). item_told x said) (sym new);
  declared = refl;
  heard = sym new;
}

none_lack : (terms : Terms) → 0 ≡ lacking_by terms nothing
none_lack terms = go (terms.any_place && not terms.is_strict)
  where
    go : (b : Bool) → ◌≡◌ {A = ℕ} 0 (if b then 0 else 0)
    go true = refl
    go false = refl

pub reviewed_none : (terms : Terms) (lines : List (List ℕ)) (d : Declared) (n : ℕ) → IsPlace lines n [] (Front d) → d.has_space ≡ true
    → IsReviewed terms lines [] 0 0
reviewed_none terms lines d n p space = record {
  front = p.done;
  rest = [];
  is = p.is;
  declared = d;
  leads = p.leads;
  space = space;
  stage = Front d;
  plain = first_map d;
  reviews = (refl, refl, refl);
  calls_are = refl;
  lacking_are = none_lack terms;
}

pub text_fault : (terms : Terms) (lines : List (List ℕ)) (f : AuditFault) → IsAtFault terms lines f → IsTextAtFault lines f
text_fault terms lines (BadLine n) h = record {
  stage = h.stage;
  line = h.line;
  more = h.more;
  before = h.before;
  number_is = h.number_is;
  place = h.place;
  short = h.short;
  misplaced = h.misplaced;
}
text_fault terms lines (TooLong n) h = record {
  stage = h.stage;
  line = h.line;
  more = h.more;
  before = h.before;
  number_is = h.number_is;
  place = h.place;
  long = h.long;
}
text_fault terms lines NoVmLine h = h
text_fault terms lines (Io NoMemory) h = tt
text_fault terms lines (Io ReadFailed) h = absurd h
text_fault terms lines (Io WriteFailed) h = absurd h

-- a line that is told as wrong, whatever its telling came to
pub wrong_turns : (terms : Terms) (h k m : Heard) (t v u : Plain) (said : Said) (line : ℕ) (item : AuditItem) (due : Option Reply) (certain : Bool)
    (found new : List Verdict) (r : Result (Unit {0}) AuditFault) → Hears terms h t said (Illegal item due certain) k v
    → OnOk r (GoesOnBy terms v item due u) → OnOk r (m ≡ with_item k certain item)
    → OnOk r (new ≡ found ++ wrong_at line item due certain ∷ []) → IfErr r (λ f. f ≡ Io NoMemory)
    → TurnsOutSo {T = Unit {0}} terms h t said line found r m u new
wrong_turns terms h k m t v u said line item due certain found new (Ok tt) hears goes is added err =
    wrong_turn terms h k m t v u said line item due certain found new hears goes is added
wrong_turns terms h k m t v u said line item due certain found new (Err f) hears goes is added err =
    subst (λ x. TurnsOutSo {T = Unit {0}} terms h t said line found (Err x) m u new) (sym err) tt
