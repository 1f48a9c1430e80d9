-- The beginning of a transfer of many pieces, by two versions.
use Rattle.std.proofs.Common.{◌≡◌, ℕ, suc, List, [], ◌∷◌, Option, Some, refl, ap, ◌∙◌}
use Rattle.std.specs.Prelude.{if◌then◌else◌}
use Rattle.spec_node.specs.Record.{Node}
use Rattle.node_rules.specs.EndpointLocal.{EndpointLocal}
use Rattle.node_rules.specs.EndpointRules.{OtherCall, OnTransfers}
use Rattle.node_rules.specs.TransferCalls.{BeginImplicit, RegionBegin}
use Rattle.node_rules.specs.Called.{Performs}
use Rattle.node_rules.specs.declared.answer.Answer.{Answer}
use Rattle.node_endpoint.specs.Sites.{ThreadCall}
use Rattle.node_vis.specs.declared.shapes.Piece.{Piece}
use Rattle.node_vis.specs.Plans.{PlanState}
use Rattle.node_vis.specs.Beginning.{BeginCall, NodeAt, answer_of_call, record_after_call, first_refused_by, is_refused}
use Rattle.node_vis.specs.Beginning.{beginning, beginnings, on_transfers, pieces_asked, transfer_of, vis_answer_by}
use Rattle.node_vis.specs.Beginning.{vis_by, vis_of}
use Rattle.sim_versions.specs.Respelled.{Versions, one_job, other_job, respell_node}
use Rattle.sim_versions.proofs.Ticking.{done_alike}

-- the node at a time, by the one version and by the other
abbrev one_at : Versions → (node now : ℕ) → NodeAt
one_at v node now = record { job = one_job v; node = node; now = now }

abbrev other_at : Versions → (node now : ℕ) → NodeAt
other_at v node now = record { job = other_job v; node = node; now = now }

-- a call that a thread makes, where it isn't a request
abbrev performed : (thread : ℕ) → OtherCall → ThreadCall
performed thread call = record { thread = thread; call = Performs call }

-- it is answered alike, and leaves the same
answer_alike : (v : Versions) (node now : ℕ) (kept : Node EndpointLocal) (thread : ℕ) (call : OtherCall)
    → answer_of_call (other_at v node now) (respell_node v.spell kept) (performed thread call)
    ≡ answer_of_call (one_at v node now) kept (performed thread call)
answer_alike v node now kept thread call =
    ap (λ (done : Answer × EndpointLocal). done.0) (done_alike v node kept thread call)

record_alike : (v : Versions) (node now : ℕ) (kept : Node EndpointLocal) (thread : ℕ) (call : OtherCall)
    → record_after_call (other_at v node now) (respell_node v.spell kept) (performed thread call)
    ≡ respell_node v.spell (record_after_call (one_at v node now) kept (performed thread call))
record_alike v node now kept thread call =
    ap (λ (done : Answer × EndpointLocal). record (respell_node v.spell kept) { local = done.1 })
    (done_alike v node kept thread call)

-- the same piece is the first that is refused
refused_alike : (v : Versions) (node now : ℕ) (plan : PlanState) (thread number : ℕ) (pieces : List Piece)
    (kept : Node EndpointLocal)
    → first_refused_by (other_at v node now) (respell_node v.spell kept) number (beginnings plan thread pieces)
    ≡ first_refused_by (one_at v node now) kept number (beginnings plan thread pieces)
refused_alike v node now plan thread number [] kept = refl
refused_alike v node now plan thread number (piece ∷ pieces) kept =
    let call = OnTransfers (BeginImplicit (transfer_of plan piece)) in
    let one = one_at v node now in
    let other = other_at v node now in
    let after = record_after_call one kept (beginning plan thread piece) in
    let answer = answer_of_call one kept (beginning plan thread piece) in
    let rest = beginnings plan thread pieces in
    ap (λ (a : Answer). if is_refused a then Some number
    else first_refused_by other (record_after_call other (respell_node v.spell kept) (beginning plan thread piece))
    (suc number) rest) (answer_alike v node now kept thread call)
    ∙ (ap (λ (n : Node EndpointLocal). if is_refused answer then Some number
    else first_refused_by other n (suc number) rest) (record_alike v node now kept thread call)
    ∙ ap (λ (o : Option ℕ). if is_refused answer then Some number else o)
    (refused_alike v node now plan thread (suc number) pieces after))

-- so the whole is answered alike
pub begin_alike : (v : Versions) (node now : ℕ) (kept : Node EndpointLocal) (asked : BeginCall)
    → vis_answer_by (other_at v node now) (respell_node v.spell kept) asked ≡ vis_answer_by (one_at v node now) kept asked
begin_alike v node now kept asked =
    let one = one_at v node now in
    let other = other_at v node now in
    let opens = on_transfers asked.thread RegionBegin in
    let after = record_after_call one kept opens in
    let pieces = beginnings asked.plan asked.thread (pieces_asked asked) in
    let call = OnTransfers RegionBegin in
    ap (λ (a : Answer). vis_of a (vis_by asked.from (first_refused_by other
    (record_after_call other (respell_node v.spell kept) opens) asked.from pieces)))
    (answer_alike v node now kept asked.thread call)
    ∙ (ap (λ (n : Node EndpointLocal). vis_of (answer_of_call one kept opens)
    (vis_by asked.from (first_refused_by other n asked.from pieces))) (record_alike v node now kept asked.thread call)
    ∙ ap (λ (o : Option ℕ). vis_of (answer_of_call one kept opens) (vis_by asked.from o))
    (refused_alike v node now asked.plan asked.thread asked.from (pieces_asked asked) after))
