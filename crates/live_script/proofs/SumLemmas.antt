-- One note more adds to the numbers of notes.
use Rattle.std.proofs.Common.{◌≡◌, ℕ, ◌+◌, Bool, true, false, cond, List, [], ◌∷◌, ◌++◌, length, refl, sym, ap, ◌∙◌, arith, filter}
use Rattle.std.proofs.lemmas.List.{length-append}
use Rattle.machine_model.proofs.Words.{filter-append}
use Rattle.vm_base.specs.declared.replies.Reply.{Reply}
use Rattle.vm_base.specs.declared.requests.Request.{Request}
use Rattle.machine_model.specs.declared.event.Event.{Event}
use Rattle.machine_model.specs.declared.event.Event.TheVariants.{Call}
use Rattle.machine_model.specs.declared.event.Outcome.{Outcome}
use Rattle.machine_model.specs.declared.event.Outcome.TheVariants.{Answered}
use Rattle.watched.specs.declared.summary.Replies.{Replies}
use Rattle.seats.specs.declared.noted.Noted.{Noted}
use Rattle.live_script.specs.declared.sums.Requests.{Requests}
use Rattle.live_script.specs.declared.sums.Segvs.{Segvs}
use Rattle.live_script.specs.declared.sums.Sums.{Sums}
use Rattle.live_script.specs.Sums.{answered, answers, asked, asks, count, is_take, limited, one_if}
use Rattle.live_script.specs.Sums.{requests_in, replies_in, segvs_in, requests_after, replies_after, segvs_after, sums_of}
use Rattle.live_script.specs.Sums.{is_mmap, is_munmap, is_mprotect, is_load, is_store, is_fetch}
use Rattle.live_script.specs.Sums.{is_mapped, is_done, is_byte, is_refused, is_segv, is_maperr, is_accerr, is_bus, is_no_frame, is_no_memory}

-- ---- one number

count_more : (is : Noted → Bool) (ns : List Noted) (n : Noted) → one_if (is n) (count is ns) ≡ count is (ns ++ n ∷ [])
count_more is ns n = go (is n) refl where
  parts : length (filter is (ns ++ n ∷ [])) ≡ length (filter is ns) + length (cond (is n) (n ∷ []) [])
  parts = ap length (filter-append is ns (n ∷ [])) ∙ length-append (filter is ns) (cond (is n) (n ∷ []) [])

  go : (b : Bool) → is n ≡ b → one_if b (count is ns) ≡ count is (ns ++ n ∷ [])
  go true e =
      let size : length (filter is (ns ++ n ∷ [])) ≡ length (filter is ns) + 1
      = parts ∙ ap (λ b. length (filter is ns) + length (cond b (n ∷ []) [])) e in omega (arith, size)
  go false e =
      let size : length (filter is (ns ++ n ∷ [])) ≡ length (filter is ns) + 0
      = parts ∙ ap (λ b. length (filter is ns) + length (cond b (n ∷ []) [])) e in omega (arith, size)

-- ---- records of numbers

same_requests : (r s : Requests) → r.mmap ≡ s.mmap → r.munmap ≡ s.munmap → r.mprotect ≡ s.mprotect → r.load ≡ s.load → r.store ≡ s.store → r.fetch ≡ s.fetch → r ≡ s
same_requests r s a b c d e f =
    ap (λ n. record { mmap = n; munmap = r.munmap; mprotect = r.mprotect; load = r.load; store = r.store; fetch = r.fetch }) a
    ∙ ap (λ n. record { mmap = s.mmap; munmap = n; mprotect = r.mprotect; load = r.load; store = r.store; fetch = r.fetch }) b
    ∙ ap (λ n. record { mmap = s.mmap; munmap = s.munmap; mprotect = n; load = r.load; store = r.store; fetch = r.fetch }) c
    ∙ ap (λ n. record { mmap = s.mmap; munmap = s.munmap; mprotect = s.mprotect; load = n; store = r.store; fetch = r.fetch }) d
    ∙ ap (λ n. record { mmap = s.mmap; munmap = s.munmap; mprotect = s.mprotect; load = s.load; store = n; fetch = r.fetch }) e
    ∙ ap (λ n. record { mmap = s.mmap; munmap = s.munmap; mprotect = s.mprotect; load = s.load; store = s.store; fetch = n }) f

same_replies : (r s : Replies) → r.mapped ≡ s.mapped → r.done ≡ s.done → r.byte ≡ s.byte → r.refused ≡ s.refused → r.segv ≡ s.segv → r.bus ≡ s.bus → r.no_frame ≡ s.no_frame → r.no_memory ≡ s.no_memory → r ≡ s
same_replies r s a b c d e f g h =
    ap (λ n. record { mapped = n; done = r.done; byte = r.byte; refused = r.refused; segv = r.segv; bus = r.bus; no_frame = r.no_frame; no_memory = r.no_memory }) a
    ∙ ap (λ n. record { mapped = s.mapped; done = n; byte = r.byte; refused = r.refused; segv = r.segv; bus = r.bus; no_frame = r.no_frame; no_memory = r.no_memory }) b
    ∙ ap (λ n. record { mapped = s.mapped; done = s.done; byte = n; refused = r.refused; segv = r.segv; bus = r.bus; no_frame = r.no_frame; no_memory = r.no_memory }) c
    ∙ ap (λ n. record { mapped = s.mapped; done = s.done; byte = s.byte; refused = n; segv = r.segv; bus = r.bus; no_frame = r.no_frame; no_memory = r.no_memory }) d
    ∙ ap (λ n. record { mapped = s.mapped; done = s.done; byte = s.byte; refused = s.refused; segv = n; bus = r.bus; no_frame = r.no_frame; no_memory = r.no_memory }) e
    ∙ ap (λ n. record { mapped = s.mapped; done = s.done; byte = s.byte; refused = s.refused; segv = s.segv; bus = n; no_frame = r.no_frame; no_memory = r.no_memory }) f
    ∙ ap (λ n. record { mapped = s.mapped; done = s.done; byte = s.byte; refused = s.refused; segv = s.segv; bus = s.bus; no_frame = n; no_memory = r.no_memory }) g
    ∙ ap (λ n. record { mapped = s.mapped; done = s.done; byte = s.byte; refused = s.refused; segv = s.segv; bus = s.bus; no_frame = s.no_frame; no_memory = n }) h

same_segvs : (r s : Segvs) → r.maperr ≡ s.maperr → r.accerr ≡ s.accerr → r ≡ s
same_segvs r s a b =
    ap (λ n. record { maperr = n; accerr = r.accerr }) a
    ∙ ap (λ n. record { maperr = s.maperr; accerr = n }) b

same_sums : (r s : Sums) → r.requests ≡ s.requests → r.replies ≡ s.replies → r.segvs ≡ s.segvs → r.takes ≡ s.takes → r.notes ≡ s.notes → r ≡ s
same_sums r s a b c d e =
    ap (λ n. record { requests = n; replies = r.replies; segvs = r.segvs; takes = r.takes; notes = r.notes }) a
    ∙ ap (λ n. record { requests = s.requests; replies = n; segvs = r.segvs; takes = r.takes; notes = r.notes }) b
    ∙ ap (λ n. record { requests = s.requests; replies = s.replies; segvs = n; takes = r.takes; notes = r.notes }) c
    ∙ ap (λ n. record { requests = s.requests; replies = s.replies; segvs = s.segvs; takes = n; notes = r.notes }) d
    ∙ ap (λ n. record { requests = s.requests; replies = s.replies; segvs = s.segvs; takes = s.takes; notes = n }) e

-- ---- one note more

requests_more : (ns : List Noted) (n : Noted) → requests_after (requests_in ns) n.event ≡ requests_in (ns ++ n ∷ [])
requests_more ns n = go n.event refl where
  more_of : (e : Event) → n.event ≡ e → (is : Request → Bool) → one_if (asks is e) (asked is ns) ≡ asked is (ns ++ n ∷ [])
  more_of e at is = ap (λ x. one_if (asks is x) (asked is ns)) (sym at) ∙ count_more (λ m. asks is m.event) ns n

  go : (e : Event) → n.event ≡ e → requests_after (requests_in ns) e ≡ requests_in (ns ++ n ∷ [])
  go (Call core request) at = let more = more_of (Call core request) at in
      same_requests _ _ (more is_mmap) (more is_munmap) (more is_mprotect) (more is_load) (more is_store) (more is_fetch)
  go e at = let more = more_of e at in
      same_requests _ _ (more is_mmap) (more is_munmap) (more is_mprotect) (more is_load) (more is_store) (more is_fetch)

replies_more : (ns : List Noted) (n : Noted) → replies_after (replies_in ns) n.outcome ≡ replies_in (ns ++ n ∷ [])
replies_more ns n = go n.outcome refl where
  more_of : (e : Outcome) → n.outcome ≡ e → (is : Reply → Bool) → one_if (answers is e) (answered is ns) ≡ answered is (ns ++ n ∷ [])
  more_of e at is = ap (λ x. one_if (answers is x) (answered is ns)) (sym at) ∙ count_more (λ m. answers is m.outcome) ns n

  go : (e : Outcome) → n.outcome ≡ e → replies_after (replies_in ns) e ≡ replies_in (ns ++ n ∷ [])
  go (Answered reply) at = let more = more_of (Answered reply) at in
      same_replies _ _ (more is_mapped) (more is_done) (more is_byte) (more is_refused) (more is_segv) (more is_bus) (more is_no_frame) (more is_no_memory)
  go e at = let more = more_of e at in
      same_replies _ _ (more is_mapped) (more is_done) (more is_byte) (more is_refused) (more is_segv) (more is_bus) (more is_no_frame) (more is_no_memory)

segvs_more : (ns : List Noted) (n : Noted) → segvs_after (segvs_in ns) n.outcome ≡ segvs_in (ns ++ n ∷ [])
segvs_more ns n = go n.outcome refl where
  more_of : (e : Outcome) → n.outcome ≡ e → (is : Reply → Bool) → one_if (answers is e) (answered is ns) ≡ answered is (ns ++ n ∷ [])
  more_of e at is = ap (λ x. one_if (answers is x) (answered is ns)) (sym at) ∙ count_more (λ m. answers is m.outcome) ns n

  go : (e : Outcome) → n.outcome ≡ e → segvs_after (segvs_in ns) e ≡ segvs_in (ns ++ n ∷ [])
  go (Answered reply) at = let more = more_of (Answered reply) at in
      same_segvs _ _ (more is_maperr) (more is_accerr)
  go e at = let more = more_of e at in
      same_segvs _ _ (more is_maperr) (more is_accerr)

abbrev with_note : Sums → Noted → Sums
with_note s n = record {
  requests = requests_after s.requests n.event;
  replies = replies_after s.replies n.outcome;
  segvs = segvs_after s.segvs n.outcome;
  takes = one_if (is_take n.event) s.takes;
  notes = limited (s.notes + 1);
}

sums_more : (ns : List Noted) (n : Noted) → with_note (sums_of ns) n ≡ sums_of (ns ++ n ∷ [])
sums_more ns n =
    same_sums _ _ (requests_more ns n) (replies_more ns n) (segvs_more ns n) (count_more (λ m. is_take m.event) ns n)
    (let size = length-append ns (n ∷ []) in omega (arith, size))

-- the numbers of these notes become those of one more
pub counted : (ns : List Noted) (n : Noted) (s t : Sums) → s ≡ sums_of ns → t ≡ with_note s n → t ≡ sums_of (ns ++ n ∷ [])
counted ns n s t is more = more ∙ (ap (λ x. with_note x n) is ∙ sums_more ns n)
