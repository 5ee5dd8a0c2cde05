-- What the machine's cores have, as functions of the core
use Rattle.std.specs.Prelude.{◌≡◌, ℕ, List, [], length, map, Option, None, slice_index_or}
use Rattle.mmu.specs.declared.entry.Translation.{Translation}
use Rattle.mmu.specs.declared.tlb.TlbEntry.{TlbEntry}
use Rattle.mmu.specs.Messages.{InboxOf}
use Rattle.mmu.specs.Inboxes.{inbox}
use Rattle.machine_model.specs.World.{Hardware}

-- what is read of each core, and this beyond the last
abbrev pub of_each : {C V : Type 0} → (C → V) → V → List C → ℕ → V
of_each read none cpus c = slice_index_or (map read cpus) c none

-- how many cores there are and how many inboxes, and what the cores have
pub record CoreParts : Type 0 where
  pub count : ℕ
  pub inboxes : ℕ
  pub hardware : Hardware

abbrev pub parts_of : {C : Type 0} → (C → ℕ → Option Translation) → (C → List TlbEntry) → List C
    → List InboxOf → CoreParts
parts_of table tlb cpus boxes = record {
  count = length cpus;
  inboxes = length boxes;
  hardware = record {
    table = of_each table (λ p. None) cpus;
    tlb = of_each tlb [] cpus;
    inbox = inbox boxes;
  };
}

-- each core has an inbox
abbrev pub HaveInboxes : CoreParts → Type 0
HaveInboxes parts = parts.inboxes ≡ parts.count
