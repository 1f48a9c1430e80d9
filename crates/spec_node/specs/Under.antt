-- A node that keeps a part of what a larger one keeps: the same slots and numbers, and the same answers.
use Rattle.std.specs.Prelude.{ℕ, ◌≡◌}
use Rattle.wire_message.specs.Content.{Content}
use Rattle.part_handlers.specs.declared.rules.CallKind.{CallKind}
use Rattle.part_handlers.specs.declared.rules.Forbidden.{Forbidden}
use Rattle.spec_node.specs.Record.{Node}
use Rattle.spec_node.specs.Behaviour.{Behaviour, Contact, Asking}
use Rattle.spec_node.specs.Step.{Site}

-- the node that keeps the part alone
abbrev pub under : {Larger Smaller : Type 0} → (Larger → Smaller) → Node Larger → Node Smaller
under part node = record { asked = node.asked; ran = node.ran; local = part node.local }

-- the larger behaviour does to the part what the smaller one does, but for the nodes' own requests and for how runs are
-- told
pub record IsOver
    {Larger Smaller : Type 0} (part : Larger → Smaller) (over : Behaviour Larger) (own : Behaviour Smaller)
    : Type 0 where
  pub judges : (thread : ℕ) (kind : CallKind) (local : Larger)
      → over.judges thread kind local ≡ own.judges thread kind (part local)
  pub notes : (thread : ℕ) (forbidden : Forbidden) (local : Larger)
      → part (over.notes thread forbidden local) ≡ own.notes thread forbidden (part local)
  pub faults : (asking : Asking) → over.faults asking ≡ own.faults asking
  pub says : (asking : Asking) (local : Larger) → over.says asking local ≡ own.says asking (part local)
  pub refuses : (content : Content) → over.refuses content ≡ own.refuses content
  pub busy : (content : Content) (local : Larger) → over.busy content local ≡ own.busy content (part local)
  pub waits : (content : Content) (local : Larger) → over.waits content local ≡ own.waits content (part local)
  pub run : (contact : Contact) (content : Content) (local : Larger)
      → part (over.run contact content local).0 ≡ (own.run contact content (part local)).0
  pub reply : (contact : Contact) (content : Content) (local : Larger)
      → (over.run contact content local).1 ≡ (own.run contact content (part local)).1
  pub take : (contact : Contact) (content : Content) (local : Larger)
      → part (over.take contact content local) ≡ own.take contact content (part local)

-- the site with the other behaviour
abbrev pub site_with : {Larger Smaller : Type 0} → Site Larger → Behaviour Smaller → Site Smaller
site_with site own = record { settings = site.settings; behaviour = own; me = site.me }
