-- A core that is lent to a step, as the abstract machine's
use Rattle.std.specs.Prelude.{ℕ, List, Option}
use Rattle.mmu.specs.declared.entry.Translation.{Translation}
use Rattle.mmu.specs.declared.tlb.TlbEntry.{TlbEntry}
use Rattle.mmu.specs.declared.message.Message.{Message}
use Rattle.mmu.specs.declared.message.Took.{Took}
use Rattle.mmu.specs.declared.message.Took.TheVariants.{Clear, Invalidate, Idle}
use Rattle.mmu.specs.Messages.{InboxOf, remaining}
use Rattle.machine_model.specs.World.{Hardware}
use Rattle.machine_model.specs.Translating.{tables_cleared, tlb_invalidated, with_inbox}

-- what the machine has of one core: its tables' entry of each page, its TLB from the oldest filled
-- on, and its inbox from the oldest message on
pub record OneCore : Type 0 where
  pub table : ℕ → Option Translation
  pub tlb : List TlbEntry
  pub inbox : List Message

abbrev pub one_core : (ℕ → Option Translation) → List TlbEntry → InboxOf → OneCore
one_core table tlb box = record { table = table; tlb = tlb; inbox = box.messages }

-- core c of the machine
abbrev pub core_in : Hardware → ℕ → OneCore
core_in h c = record { table = h.table c; tlb = h.tlb c; inbox = h.inbox c }

-- a machine each of whose cores has this
abbrev pub all_like : OneCore → Hardware
all_like k = record { table = λ c. k.table; tlb = λ c. k.tlb; inbox = λ c. k.inbox }

-- what core c, which has this, has after a step of the machine's hardware
abbrev pub after_on : ℕ → (Hardware → Hardware) → OneCore → OneCore
after_on c step k = core_in (step (all_like k)) c

-- Core c acts on its oldest message, which asks for this: at the first take the tables are cleared,
-- at the second the TLB is invalidated.
abbrev pub after_take : ℕ → Took → Hardware → Hardware
after_take c (Clear range) h = with_inbox (tables_cleared h c range) c (remaining (h.inbox c))
after_take c (Invalidate range) h = with_inbox (tlb_invalidated h c range) c (remaining (h.inbox c))
after_take c Idle h = h
