use Rattle.std.proofs.Common.{◌≡◌, ◌+◌, ◌<◌, ◌≤◌, Option, Some, None}
use Rattle.std.proofs.Common.{length, ap, sym, ◌∙◌, subst, refl, arith}
use Rattle.std.specs.Prelude.{slice_get, position, IfSome}
use Rattle.part_window.specs.TableState.{slots_of}
use Rattle.part_window.specs.SlotsState.{Vacant, is_vacant, PeerState, SlotsState}
use Rattle.part_window.specs.SlotsState.{CanClaim, Refuses}
use Rattle.part_window.specs.declared.credits.NoClaim.TheVariants.{Exhausted, NotYet}
use Rattle.std.proofs.lemmas.List.Quantifiers.{position-Some}
use Rattle.base_lists.proofs.Indexes.{read-at}
use Rattle.part_window.proofs.CreditsViewed.{peer-is}
use Rattle.part_window.proofs.CreditsViewed.{node-range}
use Rattle.part_window.proofs.credits.CreditSlots.next.Goals as goal

pub index-given-requires : goal.index-given-requires
index-given-requires c =
    let fields = c.self.inside in
    let table = fields.table in
    let inside : c.args.to < length table.counts = node-range c.args.to c.self.invariant c.self.view_is c.requires in
    omega (arith, inside, c.self.invariant.nodes, fields.given.ok.0)

pub returns-then-given-self-clause-refused : goal.returns-then-given-self-clause-refused
returns-then-given-self-clause-refused c =
    let fields = c.self.inside in
    let given = fields.given.items in
    let table = fields.table in
    let kept = c.self.invariant in
    let view = c.self.view_is in
    let seen = c.args.self.now in
    let to = c.args.to in
    let inside : to < length table.counts = node-range to kept view c.requires in
    let number = c.index-given.result.now in
    let at : slice_get given to ≡ Some number =
    read-at given to number (omega (arith, inside, kept.nodes)) c.index-given.ensures in
    let peer : slice_get seen.peers to ≡ Some (record { given = number; slots = slots_of table to }) =
    ap (λ (u : SlotsState). slice_get u.peers to) (sym view)
    ∙ peer-is fields.last given table to number kept.nodes at in
    let last : fields.last ≡ seen.last = ap (λ (u : SlotsState). u.last) view in
    let low : seen.last ≤ number = omega (arith, c.if-given-self.true, last) in
    subst (λ (o : Option PeerState). IfSome o (λ place. Refuses place seen.last Exhausted)) (sym peer) low

pub first_vacant-requires : goal.first_vacant-requires
first_vacant-requires c =
    node-range c.args.to c.self.invariant c.self.view_is c.requires

pub returns-in-None-clause-refused : goal.returns-in-None-clause-refused
returns-in-None-clause-refused c =
    let fields = c.self.inside in
    let given = fields.given.items in
    let table = fields.table in
    let kept = c.self.invariant in
    let view = c.self.view_is in
    let seen = c.args.self.now in
    let to = c.args.to in
    let inside : to < length table.counts = node-range to kept view c.requires in
    let number = c.index-given.result.now in
    let at : slice_get given to ≡ Some number =
    read-at given to number (omega (arith, inside, kept.nodes)) c.index-given.ensures in
    let peer : slice_get seen.peers to ≡ Some (record { given = number; slots = slots_of table to }) =
    ap (λ (u : SlotsState). slice_get u.peers to) (sym view)
    ∙ peer-is fields.last given table to number kept.nodes at in
    let last : fields.last ≡ seen.last = ap (λ (u : SlotsState). u.last) view in
    let low : number < seen.last = omega (arith, c.if-given-self.false, last) in
    let none : position is_vacant (slots_of table to) ≡ None = sym c.first_vacant.ensures ∙ c.in-None.is in
    subst (λ (o : Option PeerState). IfSome o (λ place. Refuses place seen.last NotYet)) (sym peer) (low, none)

pub returns-in-Some-clause-next : goal.returns-in-Some-clause-next
returns-in-Some-clause-next c =
    let fields = c.self.inside in
    let given = fields.given.items in
    let table = fields.table in
    let kept = c.self.invariant in
    let view = c.self.view_is in
    let seen = c.args.self.now in
    let to = c.args.to in
    let inside : to < length table.counts = node-range to kept view c.requires in
    let number = c.index-given.result.now in
    let at : slice_get given to ≡ Some number =
    read-at given to number (omega (arith, inside, kept.nodes)) c.index-given.ensures in
    let peer : slice_get seen.peers to ≡ Some (record { given = number; slots = slots_of table to }) =
    ap (λ (u : SlotsState). slice_get u.peers to) (sym view)
    ∙ peer-is fields.last given table to number kept.nodes at in
    let last : fields.last ≡ seen.last = ap (λ (u : SlotsState). u.last) view in
    let low : number < seen.last = omega (arith, c.if-given-self.false, last) in
    let some : position is_vacant (slots_of table to) ≡ Some c.in-Some.slot =
    sym c.first_vacant.ensures ∙ c.in-Some.is in
    subst (λ (o : Option PeerState). IfSome o
    (λ place. CanClaim place seen.last c.in-Some.slot × (number + 1 ≡ place.given + 1))) (sym peer) (
      record {
        left = low;
        in_range =
            (position-Some is_vacant (slots_of table to) c.in-Some.slot Vacant some).0;
        lowest = some;
      },
      refl,
    )
