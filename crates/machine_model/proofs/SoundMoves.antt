-- What a step leaves: a call goes on, or has its reply
use Rattle.machine_model.proofs.Words.{◌≡◌, ◌⊎◌, ◌++◌, ◌∷◌, [], ℕ, Bool, false, inl, inr, refl, sym, subst, Some, Option, PageInfo, PageRange, Reply}
use Rattle.machine_model.proofs.Words.{Request, frame_of, Bytes}
use Rattle.machine_model.proofs.Words.{File, Plain, nothing_mapped, Slots, Counts, Event, Entry, Phase, is_past_end, to, with_entry, after_reply, answer_entry}
use Rattle.machine_model.proofs.Words.{detach_entry, World, Hardware, Memory, nth, CanAccess, Replays, Stands, detached, IsPlace}
use Rattle.vm_base.specs.declared.rights.Access.TheVariants.{Store}
use Rattle.machine_model.proofs.Words.{EntryLeads}
use Rattle.machine_model.specs.Orderly.{IsOrderly}
use Rattle.machine_model.specs.Coherent.{IsCoherentState}
use Rattle.machine_model.specs.Counted.{IsCountedState}
use Rattle.machine_model.specs.Sound.{IsDue, Notes}
use Rattle.machine_model.specs.Invariant.{IsWellFormed, Shows, ShowsPlain, ShowsPage, ShowsFile, own_frame}
use Rattle.machine_model.proofs.Logs.{replays_more}

-- a state in order, whose slots and frames show a plain page map, be it the log's or not
pub record IsShown (w : World) : Type 0 where
  pub order : IsOrderly w
  pub coherent : IsCoherentState w
  pub counted : IsCountedState w
  pub plain : Plain
  pub good : ShowsPlain w plain

abbrev pub shown : (w : World) → IsWellFormed w → IsShown w
shown w f = record { order = f.order; coherent = f.coherent; counted = f.counted; plain = f.plain; good = f.good }

-- the log has no more entry, or one that leads from t to u
abbrev pub LeadsOn : World → World → Plain → Plain → Type 0
LeadsOn w v t u =
    ((v.calls.log ≡ w.calls.log) × (u ≡ t))
    ⊎ ((entry : Entry) × (v.calls.log ≡ w.calls.log ++ entry ∷ []) × EntryLeads v.calls.requests t entry u)

-- The state v after a step by this event from w, which showed t, but for its order, its translations and its counts: it shows a map to
-- which the step's entry leads, and so does a log that led to t.
pub record Leaves (w : World) (t : Plain) (event : Event) (v : World) : Type 0 where
  pub plain : Plain
  pub good : ShowsPlain v plain
  pub leads : LeadsOn w v t plain
  pub log : Replays w.calls.requests (nothing_mapped w.made.file) w.calls.log t → Replays v.calls.requests (nothing_mapped v.made.file) v.calls.log plain
  pub notes : Notes w event v

pub stays : (w : World) (event : Event) (f : IsShown w) → Leaves w f.plain event w
stays w event f = record { plain = f.plain; good = f.good; leads = inl (refl, refl); log = λ h. h; notes = inl refl }

-- ---- the map that is shown where no frame comes in

-- new contents of slots and frames that have no frame more
pub shows_less : (w : World) (t u : Plain) (info : ℕ → Option PageInfo) (bytes : ℕ → Bytes) → ShowsPlain w t
    → ((p : ℕ) → ShowsPage (record w.memory { bytes = bytes }) (info p) (u.entry p))
    → ((n : ℕ) → ShowsFile bytes (w.memory.cached n) (w.made.file n) (u.file n))
    → ((p f : ℕ) → frame_of (info p) ≡ Some f → frame_of (w.slots.info p) ≡ Some f)
    → ((p f : ℕ) → own_frame w.memory.cached (info p) ≡ Some f → own_frame w.memory.cached (w.slots.info p) ≡ Some f)
    → ((p f : ℕ) → frame_of (info p) ≡ Some f → is_past_end w.made.file (info p) ≡ false)
    → Shows w.made.file info (record w.memory { bytes = bytes }) u
shows_less w t u info bytes g pages files fewer own whole = record {
  pages = pages;
  files = files;
  apart = λ p q f h k. g.apart p q f (own p f h) (fewer q f k);
  unfiled = λ p n k f h. g.unfiled p n k f (own p f h);
  whole = whole;
}

-- pages that have the same
pub shows_same : (w : World) (t : Plain) (info : ℕ → Option PageInfo) → info ≡ w.slots.info → ShowsPlain w t → Shows w.made.file info w.memory t
shows_same w t info same g = subst (λ info. Shows w.made.file info w.memory t) (sym same) g

-- free frames and counts aren't shown
pub with_memory : (w : World) (t : Plain) {is_free : ℕ → Bool} {counts : Counts} → ShowsPlain w t
    → Shows w.made.file w.slots.info (record w.memory { is_free = is_free; counts = counts }) t
with_memory w t g = record { pages = g.pages; files = g.files; apart = g.apart; unfiled = g.unfiled; whole = g.whole }

pub with_counts_shown : (file : ℕ → Option File) (info : ℕ → Option PageInfo) (m : Memory) (counts : Counts) (t : Plain) → Shows file info m t
    → Shows file info (record m { counts = counts }) t
with_counts_shown file info m counts t g = record { pages = g.pages; files = g.files; apart = g.apart; unfiled = g.unfiled; whole = g.whole }

-- ---- the call of core c goes on

pub goes_on : (w : World) (event : Event) (c : ℕ) (phase : Phase) (s : Slots) (h : Hardware) (m : Memory) (f : IsShown w)
    → Shows w.made.file s.info m f.plain → Leaves w f.plain event (to c phase (record w { slots = s; hardware = h; memory = m }))
goes_on w event c phase s h m f good = record { plain = f.plain; good = good; leads = inl (refl, refl); log = λ h. h; notes = inl refl }

-- and no call does
pub beside : (w : World) (event : Event) (s : Slots) (h : Hardware) (m : Memory) (f : IsShown w)
    → Shows w.made.file s.info m f.plain → Leaves w f.plain event (record w { slots = s; hardware = h; memory = m })
beside w event s h m f good = record { plain = f.plain; good = good; leads = inl (refl, refl); log = λ h. h; notes = inl refl }

-- ---- the call of core c goes on, and its page has a copy

pub copies_on : (w : World) (event : Event) (c page : ℕ) (phase : Phase) (s : Slots) (h : Hardware) (m : Memory) (f : IsShown w) (u : Plain)
    → CanAccess f.plain.file (f.plain.entry page) Store → detached f.plain page ≡ Some u → Shows w.made.file s.info m u
    → Leaves w f.plain event (to c phase (with_entry (detach_entry w c page) (record w { slots = s; hardware = h; memory = m })))
copies_on w event c page phase s h m f u can is good =
    let entry : Entry = detach_entry w c page in
    record {
      plain = u;
      good = good;
      leads = inr (entry, refl, (can, is));
      log = λ h. replays_more w.calls.requests w.calls.log (nothing_mapped w.made.file) f.plain u entry h (can, is);
      notes = inr (entry, refl, refl, tt);
    }

-- ---- the call of core c has its reply

pub tells : (w : World) (event : Event) (c : ℕ) (held : Option PageRange) (reply : Reply) (s : Slots) (h : Hardware) (m : Memory) (f : IsShown w)
    (u : Plain) (request : Request) → nth w.calls.requests (w.calls.number c) ≡ Some request → Stands IsPlace f.plain c request reply u
    → IsDue event w.memory.is_free (answer_entry w c reply) → Shows w.made.file s.info m u
    → Leaves w f.plain event (after_reply c held reply (record w { slots = s; hardware = h; memory = m }))
tells w event c held reply s h m f u request number stands due good =
    let entry : Entry = answer_entry w c reply in
    record {
      plain = u;
      good = good;
      leads = inr (entry, refl, (request, number, stands));
      log = λ h. replays_more w.calls.requests w.calls.log (nothing_mapped w.made.file) f.plain u entry h (request, number, stands);
      notes = inr (entry, refl, refl, due);
    }

-- and nothing else changes
pub answers : (w : World) (event : Event) (c : ℕ) (held : Option PageRange) (reply : Reply) (f : IsShown w) (request : Request)
    → nth w.calls.requests (w.calls.number c) ≡ Some request → Stands IsPlace f.plain c request reply f.plain → IsDue event w.memory.is_free (answer_entry w c reply)
    → Leaves w f.plain event (after_reply c held reply w)
answers w event c held reply f request number stands due =
    tells w event c held reply w.slots w.hardware w.memory f f.plain request number stands due f.good
