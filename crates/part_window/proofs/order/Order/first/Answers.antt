use Rattle.std.proofs.Common.{ℕ, ◌≡◌, ◌≤◌, Option, Some, List, length}
use Rattle.std.proofs.Common.{ap, sym, ◌∙◌, subst, arith}
use Rattle.std.specs.Prelude.{slice_get}
use Rattle.std.proofs.lemmas.List.{length-map}
use Rattle.part_window.specs.declared.order.Due.{Due}
use Rattle.part_window.specs.Order.{due_view, head_of}
use Rattle.part_window.proofs.Entries.{read-time, view-listed}
use Rattle.part_window.proofs.Entries.{first-view, none-view}
use Rattle.part_window.proofs.order.Order.first.Goals as goal

pub returns-then-place-head-clause-none : goal.returns-then-place-head-clause-none
returns-then-place-head-clause-none c =
    let entries = c.self.inside.entries in
    let entry = c.on_ring-place.result in
    let is_head : c.head-head.result ≡ head_of entries = omega (arith, c.head-head.ensures) in
    let at : slice_get entries (head_of entries) ≡ Some entry =
    subst (λ (index : ℕ). slice_get entries index ≡ Some entry) is_head c.on_ring-place.ensures in
    λ index due is. none-view entries entry c.self.invariant (c.if-place-head.true
    ∙ is_head) at index due (ap (λ (dues : List (Option Due)). slice_get dues index) c.self.view_is ∙ is)

pub returns-else-place-head-clause-first : goal.returns-else-place-head-clause-first
returns-else-place-head-clause-first c =
    let entries = c.self.inside.entries in
    let entry = c.on_ring-place.result in
    let is_head : c.head-head.result ≡ head_of entries = omega (arith, c.head-head.ensures) in
    let at : slice_get entries (head_of entries) ≡ Some entry =
    subst (λ (index : ℕ). slice_get entries index ≡ Some entry) is_head c.on_ring-place.ensures in
    let known = first-view entries entry c.self.invariant (λ same. c.if-place-head.false (same ∙ sym is_head)) at in
    let first_entry = c.on_ring-entry.result in
    let here = c.on_ring-entry.ensures in
    λ index due is. let rising = known.2 index due
    (ap (λ (dues : List (Option Due)). slice_get dues index) c.self.view_is
    ∙ is) in subst (λ (moment : ℕ). (moment ≤ due.time) × (due.time ≡ moment → entry.next ≤ index))
    (read-time entries entry.next first_entry here) rising

pub returns-else-place-head-clause-listed : goal.returns-else-place-head-clause-listed
returns-else-place-head-clause-listed c =
    let entries = c.self.inside.entries in
    let entry = c.on_ring-place.result in
    let is_head : c.head-head.result ≡ head_of entries = omega (arith, c.head-head.ensures) in
    let at : slice_get entries (head_of entries) ≡ Some entry =
    subst (λ (index : ℕ). slice_get entries index ≡ Some entry) is_head c.on_ring-place.ensures in
    let known = first-view entries entry c.self.invariant (λ same. c.if-place-head.false (same ∙ sym is_head)) at in
    let first_entry = c.on_ring-entry.result in
    let here = c.on_ring-entry.ensures in
    ap (λ (dues : List (Option Due)). slice_get dues entry.next) (sym c.self.view_is)
    ∙ view-listed entries entry.next first_entry here known.0

pub returns-else-place-head-clause-inside : goal.returns-else-place-head-clause-inside
returns-else-place-head-clause-inside c =
    let entries = c.self.inside.entries in
    let entry = c.on_ring-place.result in
    let is_head : c.head-head.result ≡ head_of entries = omega (arith, c.head-head.ensures) in
    let at : slice_get entries (head_of entries) ≡ Some entry =
    subst (λ (index : ℕ). slice_get entries index ≡ Some entry) is_head c.on_ring-place.ensures in
    let known = first-view entries entry c.self.invariant (λ same. c.if-place-head.false (same ∙ sym is_head)) at in
    omega (arith, known.1, ap (λ (dues : List (Option Due)). length dues) c.self.view_is, length-map entries due_view)
