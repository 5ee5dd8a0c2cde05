-- What is written of the outcomes of a litmus test.
use Rattle.std.specs.Prelude.{◌≡◌, ℕ, suc, ◌+◌, ◌-◌, take, Bool, true, false, not, ◌&&◌, List, [], ◌∷◌, ◌++◌, codes, decimal, length, map}
use Rattle.std.specs.Prelude.{if◌then◌else◌, ◌==◌, IsPermutation}
use Rattle.std.specs.List.{list_all}
use Rattle.vm_base.specs.declared.replies.Reply.{Reply}
use Rattle.slot_lock.specs.declared.map_list.MapLine.{MapLine}
use Rattle.trace_text.specs.Listing.{mapping_text}
use Rattle.litmus_merges.specs.declared.asked.Asked.{Asked}
use Rattle.trace_text.specs.Printing.{address_of, text_of}
use Rattle.trace_words.specs.Written.{core_word}
use Rattle.litmus_text.specs.Scripts.{Claim}
use Rattle.litmus_report.specs.Verdicts.{Outcome, condition_holds, count_so, is_so, judged}
use Rattle.litmus_text.specs.declared.facts.Fact.{Fact}
use Rattle.litmus_text.specs.declared.facts.Fact.TheVariants.{Has, Lacks, Shows}
use Rattle.litmus_text.specs.declared.facts.Connective.{Connective}
use Rattle.litmus_text.specs.declared.facts.Connective.TheVariants.{And, Or}
use Rattle.litmus_text.specs.declared.facts.Term.{Term}
use Rattle.litmus_text.specs.declared.kinds.Quantifier.{Quantifier}
use Rattle.litmus_text.specs.declared.kinds.Quantifier.TheVariants.{Exists, Never, Forall}
use Rattle.litmus_report.specs.declared.verdict.ClauseVerdict.{ClauseVerdict}
use Rattle.litmus_report.specs.declared.verdict.ClauseVerdict.TheVariants.{Holds, Fails, Open}

-- ---- an outcome

-- what stands before a reply: its core's word, where another core's is before it, or, as the number 64, none
abbrev pub lead_in : ℕ → ℕ → List ℕ
lead_in before core = if before == core then codes ", "
    else (if before == 64 then [] else codes "; ") ++ core_word core ++ codes " "

-- `c0 done; c1 1, 2`
abbrev pub replies_text : ℕ → List Asked → List Reply → List ℕ
replies_text before [] replies = []
replies_text before (call ∷ calls) [] = []
replies_text before (call ∷ calls) (reply ∷ replies) = lead_in before call.core ++ text_of reply ++ replies_text call.core calls replies

abbrev pub final_text : ℕ → Reply → List ℕ
final_text addr reply = codes "; " ++ address_of addr ++ codes " " ++ text_of reply

-- `; 0x10000 65`
abbrev pub finals_text : List ℕ → List Reply → List ℕ
finals_text [] finals = []
finals_text (addr ∷ addrs) [] = []
finals_text (addr ∷ addrs) (reply ∷ finals) = final_text addr reply ++ finals_text addrs finals

-- a mapping, as the list of mappings has it, but for the newline
abbrev pub mapped_text : MapLine → List ℕ
mapped_text line = take (length (mapping_text line) - 1) (mapping_text line)

-- mappings behind the first
abbrev pub more_mapped : List MapLine → List ℕ
more_mapped [] = []
more_mapped (line ∷ lines) = codes " | " ++ mapped_text line ++ more_mapped lines

-- `0x10000-0x11000 rw- anon | 0x12000-0x13000 r-- anon`
abbrev pub all_mapped : List MapLine → List ℕ
all_mapped [] = codes "nothing"
all_mapped (line ∷ lines) = mapped_text line ++ more_mapped lines

-- `; maps ` and the mappings, where they are asked for
abbrev pub if_mapped : Bool → List MapLine → List ℕ
if_mapped true lines = codes "; maps " ++ all_mapped lines
if_mapped false lines = []

abbrev pub reached_text : Bool → List ℕ
reached_text true = []
reached_text false = codes " (open)"

abbrev pub outcome_text : List Asked → List ℕ → Bool → Outcome → List ℕ
outcome_text calls addrs maps o =
    replies_text 64 calls o.replies ++ finals_text addrs o.finals ++ if_mapped maps o.maps ++ reached_text o.reached

-- ---- a clause

abbrev pub quantifier_text : Quantifier → List ℕ
quantifier_text Exists = codes "exists"
quantifier_text Never = codes "never"
quantifier_text Forall = codes "forall"

abbrev pub joint_text : Connective → List ℕ
joint_text And = codes " and "
joint_text Or = codes " or "

abbrev pub call_text : ℕ → ℕ → List ℕ
call_text core number = core_word core ++ codes "." ++ decimal number

abbrev pub fact_text : Fact → List ℕ
fact_text (Has core number reply) = call_text core number ++ codes " = " ++ text_of reply
fact_text (Lacks core number reply) = call_text core number ++ codes " != " ++ text_of reply
fact_text (Shows addr shown) = address_of addr ++ codes " = " ++ decimal shown

-- facts behind the first, each with its joint
abbrev pub more_text : List Term → List ℕ
more_text [] = []
more_text (t ∷ ts) = joint_text t.joint ++ fact_text t.fact ++ more_text ts

abbrev pub terms_text : List Term → List ℕ
terms_text [] = []
terms_text (t ∷ ts) = fact_text t.fact ++ more_text ts

abbrev pub clause_text : Claim → List ℕ
clause_text c = quantifier_text c.quantifier ++ codes " " ++ terms_text c.terms

abbrev pub verdict_text : ClauseVerdict → List ℕ
verdict_text Holds = codes ": holds\n"
verdict_text Fails = codes ": fails\n"
verdict_text Open = codes ": open\n"

-- ---- the counts of a clause

-- how often it is so, by how often it is and how often it isn't
abbrev pub often_text : ℕ → ℕ → List ℕ
often_text positive negative = if positive == 0 then codes "Never" else if negative == 0 then codes "Always" else codes "Sometimes"

abbrev pub counts_text : ℕ → ℕ → List ℕ
counts_text positive negative = often_text positive negative ++ codes " " ++ decimal positive ++ codes " " ++ decimal negative ++ codes "\n"

-- `Observation NAME Sometimes POSITIVE NEGATIVE`
abbrev pub observation_text : List ℕ → ℕ → ℕ → List ℕ
observation_text name positive negative = codes "Observation " ++ name ++ codes " " ++ counts_text positive negative
