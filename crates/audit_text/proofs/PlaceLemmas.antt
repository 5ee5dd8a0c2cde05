-- One line after another.
use Rattle.std.proofs.Common.{◌≡◌, inl, inr, ℕ, ◌+◌, ◌≤◌, Bool, true, false, List, [], ◌∷◌, ◌++◌, length, Option, Some, None, Ok, Err}
use Rattle.std.proofs.Common.{append_assoc, append-nil, length-append, arith, refl, sym, ap, ◌∙◌, subst}
use Rattle.vm_base.specs.Plain.{Plain}
use Rattle.vm_base.specs.declared.replies.Reply.{Reply}
use Rattle.audit_text.specs.declared.item.AuditItem.{AuditItem}
use Rattle.audit_text.specs.Allowed.{AreAllowed}
use Rattle.audit_text.specs.Ends.{IsAtFault}
use Rattle.audit_text.specs.Faults.{SaysNothing}
use Rattle.audit_text.specs.Grammar.{Tells}
use Rattle.audit_text.specs.Heard.{Declared, Heard, Stage, Front, Behind, Leads, behind, is_certain, lacking_by, needs_space, stage_after, undeclared}
use Rattle.audit_text.specs.Legal.{Follows, HasSpaceFor, IsLegal, IsPlace, IsWrong, first_map, heard_in}
use Rattle.audit_text.specs.Steps.{EndsFront, HasEnded, Hears, IsAtLine, IsCall, IsFound, IsRefused, IsWanting, MayWant, TurnsOut}
use Rattle.audit_text.proofs.HeardLemmas.{moves_on}
use Rattle.audit_text.specs.declared.allowing.Terms.{Terms}
use Rattle.audit_text.specs.declared.hearing.Turn.TheVariants.{Legal, Illegal}
use Rattle.audit_text.specs.declared.input.AuditFault.{AuditFault}
use Rattle.audit_text.specs.declared.input.AuditFault.TheVariants.{BadLine, TooLong, Io}
use Rattle.trace_io.specs.declared.fault.IoFault.TheVariants.{NoMemory}
use Rattle.audit_text.specs.declared.judging.Verdict.{Verdict}
use Rattle.audit_text.specs.declared.judging.Verdict.TheVariants as Of
use Rattle.audit_text.specs.declared.reading.Said.{Said}

leads_more : (a : Stage) (ls : List (List ℕ)) (m t : Stage) (l : List ℕ) (said : Said) → Leads a ls m → length l ≤ 512 → Tells said l
    → stage_after m said ≡ Some t → Leads a (ls ++ l ∷ []) t
leads_more a [] m t l said h short tells after = (said, t, short, tells, subst (λ x. stage_after x said ≡ Some t) h after, refl)
leads_more a (x ∷ xs) m t l said h short tells after =
    (h.0, h.1, h.2, h.3, h.4, leads_more h.1 xs m t l said h.5 short tells after)

pub place_first : (lines : List (List ℕ)) (d : Declared) → d ≡ undeclared → IsPlace lines 0 lines (Front d)
place_first lines d e = record { done = []; is = refl; count = refl; leads = ap Front e }

pub place_more : (lines rest more : List (List ℕ)) (n : ℕ) (s t : Stage) (line : List ℕ) (said : Said) → IsPlace lines n rest s → rest ≡ line ∷ more
    → (length line ≤ 512) × Tells said line → stage_after s said ≡ Some t → IsPlace lines (n + 1) more t
place_more lines rest more n s t line said p e says after = record {
  done = p.done ++ line ∷ [];
  is = p.is ∙ ap (λ l. p.done ++ l) e ∙ sym (append_assoc p.done (line ∷ []) more);
  count = length-append p.done (line ∷ []) ∙ ap (λ k. k + 1) p.count;
  leads = leads_more (Front undeclared) p.done s t line said p.leads says.0 says.1 after;
}

pub at_line : (lines rest more : List (List ℕ)) (n : ℕ) (s : Stage) (line : List ℕ) (said : Said) → IsPlace lines n rest s → rest ≡ line ∷ more
    → (length line ≤ 512) × Tells said line → IsAtLine lines (n + 1) said more s
at_line lines rest more n s line said p e says = record {
  line = line;
  before = n;
  number_is = omega arith;
  place = subst (λ l. IsPlace lines n l s) e p;
  short = says.0;
  tells = says.1;
}

pub at_next : (lines more : List (List ℕ)) (n : ℕ) (s t : Stage) (said : Said) → IsAtLine lines n said more s → stage_after s said ≡ Some t
    → IsPlace lines n more t
at_next lines more n s t said a after =
    let up : a.before + 1 ≡ n = omega (arith, a.number_is) in
    subst (λ k. IsPlace lines k more t) up (place_more lines (a.line ∷ more) more a.before s t a.line said a.place refl (a.short, a.tells) after)

-- the declaration ends at this line
pub ended_front : (lines rest more : List (List ℕ)) (n : ℕ) (d e : Declared) (line : List ℕ) (said : Said) → IsPlace lines n rest (Front d)
    → rest ≡ line ∷ more → (length line ≤ 512) × Tells said line → (e ≡ d) × HasEnded d said × (needs_space said ≡ true)
    → EndsFront lines e (Some said) (n + 1) more
ended_front lines rest more n d e line said p is says (same, ended, needs) =
    subst (λ (x : Declared). EndsFront lines x (Some said) (n + 1) more) (sym same)
    (at_line lines rest more n (Front d) line said p is says, ended, needs)

-- ---- faults

pub fault_here : (terms : Terms) (lines rest more : List (List ℕ)) (n : ℕ) (s : Stage) (t : Plain) (line : List ℕ) (f : AuditFault)
    → IsPlace lines n rest s → Follows terms s t → rest ≡ line ∷ more → SaysNothing line (n + 1) f → IsAtFault terms lines f
fault_here terms lines rest more n s t line (BadLine k) p h e (is, short, says) = record {
  stage = s;
  plain = t;
  line = line;
  more = more;
  before = n;
  number_is = omega (arith, is);
  place = subst (λ l. IsPlace lines n l s) e p;
  replies = h;
  short = short;
  misplaced = inl says;
}
fault_here terms lines rest more n s t line (TooLong k) p h e (is, long) = record {
  stage = s;
  plain = t;
  line = line;
  more = more;
  before = n;
  number_is = omega (arith, is);
  place = subst (λ l. IsPlace lines n l s) e p;
  replies = h;
  long = long;
}
fault_here terms lines rest more n s t line f p h e says = absurd says

pub bad_at : (terms : Terms) (lines more : List (List ℕ)) (n : ℕ) (s : Stage) (t : Plain) (said : Said) → IsAtLine lines n said more s → Follows terms s t
    → stage_after s said ≡ None → HasSpaceFor s said → IsAtFault terms lines (BadLine n)
bad_at terms lines more n s t said a h none space = record {
  stage = s;
  plain = t;
  line = a.line;
  more = more;
  before = a.before;
  number_is = a.number_is;
  place = a.place;
  replies = h;
  short = a.short;
  misplaced = inr (said, a.tells, none, space);
}

-- ---- calls

after_legal : (terms : Terms) (lines more : List (List ℕ)) (d : Declared) (h k : Heard) (t u : Plain) (said : Said) (n : ℕ)
    → IsCall terms lines d h t said n more
    → Hears terms h t said Legal k u → IsPlace lines n more (Behind d k) × AreAllowed terms (first_map d) k.items u
after_legal terms lines more d h k t u said n c (is, moves) =
    let next : stage_after c.stage said ≡ Some (Behind d k) = c.after ∙ ap (behind d) is in
    let same : AreAllowed terms (first_map d) (heard_in c.stage).items t =
    subst (λ (e : Declared). AreAllowed terms (first_map e) (heard_in c.stage).items t) c.declared c.follows in
    let told : AreAllowed terms (first_map d) h.items t =
    subst (λ (e : Heard). AreAllowed terms (first_map d) e.items t) c.heard same in
    (at_next lines more n c.stage (Behind d k) said c.at next, moves_on terms (first_map d) t u h k said is moves told)

pub call_next : (terms : Terms) (lines rest more : List (List ℕ)) (d : Declared) (h k : Heard) (t u : Plain) (said other : Said) (n m : ℕ)
    (line : List ℕ)
    → IsCall terms lines d h t said n rest → Hears terms h t said Legal k u → rest ≡ line ∷ more → (length line ≤ 512) × Tells other line → m ≡ n + 1
    → IsCall terms lines d k u other m more
call_next terms lines rest more d h k t u said other n m line c hears e says up =
    let (place, follows) = after_legal terms lines rest d h k t u said n c hears in
    record {
      stage = Behind d k;
      at = subst (λ i. IsAtLine lines i other more (Behind d k)) (sym up) (at_line lines rest more n (Behind d k) line other place e says);
      space = c.space;
      after = refl;
      told = refl;
      declared = refl;
      heard = refl;
      follows = follows;
    }

pub call_last : (terms : Terms) (lines rest : List (List ℕ)) (d : Declared) (h k : Heard) (t u : Plain) (said : Said) (n judged lacking : ℕ)
    → IsCall terms lines d h t said n rest → Hears terms h t said Legal k u → rest ≡ [] → judged ≡ k.calls → lacking ≡ lacking_by terms k
    → IsLegal terms lines judged lacking k.passed
call_last terms lines rest d h k t u said n judged lacking c hears e counted lacked =
    let (place, follows) = after_legal terms lines rest d h k t u said n c hears in
    let all : place.done ≡ lines = sym (place.is ∙ ap (λ l. place.done ++ l) e ∙ append-nil place.done) in
    record {
      stage = Behind d k;
      plain = u;
      leads = subst (λ l. Leads (Front undeclared) l (Behind d k)) all place.leads;
      space = c.space;
      replies = follows;
      calls_are = counted;
      lacking_are = lacked;
      passed_are = refl;
    }

pub call_fault : (terms : Terms) (lines rest more : List (List ℕ)) (d : Declared) (h k : Heard) (t u : Plain) (said : Said) (n m : ℕ) (line : List ℕ)
    (f : AuditFault)
    → IsCall terms lines d h t said n rest → Hears terms h t said Legal k u → rest ≡ line ∷ more → m ≡ n + 1 → SaysNothing line m f
    → IsAtFault terms lines f
call_fault terms lines rest more d h k t u said n m line f c hears e up says =
    let (place, follows) = after_legal terms lines rest d h k t u said n c hears in
    fault_here terms lines rest more n (Behind d k) u line f place follows e (subst (λ i. SaysNothing line i f) up says)

call_wrong : (terms : Terms) (lines more : List (List ℕ)) (d : Declared) (h k : Heard) (t u : Plain) (said : Said) (n m : ℕ) (item : AuditItem) (due : Option Reply)
    (certain : Bool) → IsCall terms lines d h t said n more → m ≡ n → Hears terms h t said (Illegal item due certain) k u
    → IsWrong terms lines m item due certain u
call_wrong terms lines more d h k t u said n m item due certain c is (told, same, sure, refused, after) = record {
  stage = c.stage;
  line = c.at.line;
  more = more;
  said = said;
  before = c.at.before;
  number_is = is ∙ c.at.number_is;
  place = c.at.place;
  replies = subst (Follows terms c.stage) (sym same) c.follows;
  short = c.at.short;
  tells = c.at.tells;
  told = c.told ∙ told;
  none = (subst (λ x. IsRefused terms x item due) (sym same) refused).0;
  other = (subst (λ x. IsRefused terms x item due) (sym same) refused).1;
  certain_is = sure ∙ ap (λ (e : Heard). is_certain e said) (sym c.heard);
}

-- the verdict of a turn
pub turn_verdict : (terms : Terms) (lines more : List (List ℕ)) (d : Declared) (h k : Heard) (t u : Plain) (said : Said) (n : ℕ) (verdict : Verdict)
    → IsCall terms lines d h t said n more → TurnsOut terms h t said n (Ok (Some verdict)) k u → IsFound terms lines verdict u
turn_verdict terms lines more d h k t u said n (Of.Legal calls lacking passed) c turns = absurd turns
turn_verdict terms lines more d h k t u said n (Of.Illegal m item due) c turns =
    call_wrong terms lines more d h k t u said n m item due true c turns.0 turns.1
turn_verdict terms lines more d h k t u said n (Of.Undecided m item due) c turns =
    call_wrong terms lines more d h k t u said n m item due false c turns.0 turns.1

pub turn_fault : (terms : Terms) (lines more : List (List ℕ)) (d : Declared) (h k : Heard) (t u : Plain) (said : Said) (n : ℕ) (f : AuditFault)
    → IsCall terms lines d h t said n more → TurnsOut terms h t said n (Err f) k u → IsAtFault terms lines f
turn_fault terms lines more d h k t u said n (BadLine m) c turns =
    subst (λ i. IsAtFault terms lines (BadLine i)) (sym turns.0)
    (bad_at terms lines more n c.stage t said c.at c.follows (c.after ∙ ap (behind d) turns.1)
    (λ needs. ap (λ (e : Declared). e.has_space) c.declared ∙ c.space))
turn_fault terms lines more d h k t u said n (Io NoMemory) c turns = tt
turn_fault terms lines more d h k t u said n f c turns = absurd turns

-- memory was wanted
turn_wants : (terms : Terms) (lines more : List (List ℕ)) (d : Declared) (h k : Heard) (t u : Plain) (said : Said) (n : ℕ) (f : AuditFault)
    → IsCall terms lines d h t said n more → TurnsOut terms h t said n (Err f) k u → f ≡ Io NoMemory → IsWanting terms lines
turn_wants terms lines more d h k t u said n f c turns is = record {
  stage = c.stage;
  number = n;
  said = said;
  more = more;
  plain = t;
  at = c.at;
  follows = c.follows;
  may = subst (λ (e : Heard). MayWant terms e t said) (sym c.heard) (subst (λ (x : AuditFault). TurnsOut terms h t said n (Err x) k u) is turns);
}

-- ---- the same of a turn whose rule is known by an equation

pub turn_wants_by : (b terms : Terms) → b ≡ terms → (lines more : List (List ℕ)) (d : Declared) (h k : Heard) (t u : Plain) (said : Said) (n : ℕ)
    (f : AuditFault) → IsCall terms lines d h t said n more → TurnsOut b h t said n (Err f) k u → f ≡ Io NoMemory → IsWanting terms lines
turn_wants_by b terms e lines more d h k t u said n f c turns is =
    turn_wants terms lines more d h k t u said n f c (subst (λ (x : Terms). TurnsOut x h t said n (Err f) k u) e turns) is

pub turn_fault_by : (b terms : Terms) → b ≡ terms → (lines more : List (List ℕ)) (d : Declared) (h k : Heard) (t u : Plain) (said : Said) (n : ℕ)
    (f : AuditFault) → IsCall terms lines d h t said n more → TurnsOut b h t said n (Err f) k u → IsAtFault terms lines f
turn_fault_by b terms e lines more d h k t u said n f c turns =
    turn_fault terms lines more d h k t u said n f c (subst (λ (x : Terms). TurnsOut x h t said n (Err f) k u) e turns)

pub turn_verdict_by : (b terms : Terms) → b ≡ terms → (lines more : List (List ℕ)) (d : Declared) (h k : Heard) (t u : Plain) (said : Said) (n : ℕ)
    (o : Option Verdict)
    (verdict : Verdict) → IsCall terms lines d h t said n more → TurnsOut b h t said n (Ok o) k u → o ≡ Some verdict → IsFound terms lines verdict u
turn_verdict_by b terms e lines more d h k t u said n o verdict c turns is =
    turn_verdict terms lines more d h k t u said n verdict c
    (subst (λ (x : Terms). TurnsOut x h t said n (Ok (Some verdict)) k u) e
    (subst (λ (x : Option Verdict). TurnsOut b h t said n (Ok x) k u) is turns))

pub hears_by : (b terms : Terms) → b ≡ terms → (h k : Heard) (t u : Plain) (said : Said) (n : ℕ) (o : Option Verdict) → TurnsOut b h t said n (Ok o) k u
    → o ≡ None → Hears terms h t said Legal k u
hears_by b terms e h k t u said n o turns none =
    subst (λ (x : Terms). Hears x h t said Legal k u) e (subst (λ (x : Option Verdict). TurnsOut b h t said n (Ok x) k u) none turns)
