use Rattle.std.proofs.Common.{◌≡◌, ℕ, Option, None, is_some, true≢false}
use Rattle.std.proofs.Common.{sym, ap, subst, ◌∙◌, arith}
use Rattle.wire_message.specs.declared.pairs.PairCredits.{PairCredits}
use Rattle.wire_message.specs.Parameters.{Parameters, AreInRange, with_pair}
use Rattle.wire_message.specs.Stored.{parameters_of}
use Rattle.wire_message.proofs.Keeping.{is_none_of, few_places, added_is, takes_of, TakesPair}
use Rattle.wire_message.proofs.Keeping.{range_added, stored_added}
use Rattle.wire_message.proofs.settings.Settings.with_pair.Goals as goal
use Rattle.wire_message.proofs.settings.Settings.with_pair.Goals.{then-from-self-via-then-from-self}
use Rattle.wire_message.proofs.settings.Settings.with_pair.Goals.{then-from-self-via-else-from-self+then-to-self}
use Rattle.wire_message.proofs.settings.Settings.with_pair.Goals.{then-credits-lt1-via-then-credits-lt1}
use Rattle.wire_message.proofs.settings.Settings.with_pair.Goals.{then-credits-lt1-via-else-credits-lt1+then-credits-gt32}

abbrev pair_of : (from to credits : ℕ) → PairCredits
pair_of from to credits = record { from = from; to = to; credits = credits }

pub returns-then-from-self : goal.returns-then-from-self
returns-then-from-self c = λ range.
    let pair = pair_of c.args.from c.args.to c.args.credits in
    let takes = takes_of c.self.inside c.args.self.now pair c.self.view_is range in
    elim c.then-from-self.branch [
      | then-from-self-via-then-from-self w ↦ omega (arith, takes.is.from, w.if-from-self.true)
      | then-from-self-via-else-from-self+then-to-self w ↦ omega (arith, takes.is.to, w.if-to-self.true)
    ]

pub returns-then-from-to : goal.returns-then-from-to
returns-then-from-to c = λ range.
    let pair = pair_of c.args.from c.args.to c.args.credits in
    let takes = takes_of c.self.inside c.args.self.now pair c.self.view_is range in
    takes.is.apart c.if-from-to.true

pub returns-then-credits-lt1 : goal.returns-then-credits-lt1
returns-then-credits-lt1 c = λ range.
    let pair = pair_of c.args.from c.args.to c.args.credits in
    let takes = takes_of c.self.inside c.args.self.now pair c.self.view_is range in
    elim c.then-credits-lt1.branch [
      | then-credits-lt1-via-then-credits-lt1 w ↦ omega (arith, takes.is.some_credit, w.if-credits-lt1.true)
      | then-credits-lt1-via-else-credits-lt1+then-credits-gt32 w ↦
          omega (arith, takes.is.credits, w.if-credits-gt32.true)
    ]

pub returns-then-is_some : goal.returns-then-is_some
returns-then-is_some c = λ range.
    let pair = pair_of c.args.from c.args.to c.args.credits in
    let takes = takes_of c.self.inside c.args.self.now pair c.self.view_is range in
    let none : c.own_credits.result ≡ None = c.own_credits.ensures ∙ takes.none in
    true≢false (sym c.if-is_some.true ∙ (c.is_some.ensures ∙ ap (λ (own : Option ℕ). is_some own) none))

-- what was asked is taken
taken : (c : goal.After-places-1)
    → TakesPair (parameters_of c.self.inside) (pair_of c.args.from c.args.to c.args.credits)
taken c =
    let none = sym c.own_credits.ensures
    ∙ is_none_of c.own_credits.result (sym c.is_some.ensures ∙ c.if-is_some.false) in
    record {
      is = record {
        from = c.if-from-self.false;
        to = c.if-to-self.false;
        apart = c.if-from-to.false;
        some_credit = c.if-credits-lt1.false;
        credits = c.if-credits-gt32.false;
      };
      none = none;
      few = few_places c.self.inside c.self.invariant c.if-self-ge-PLACES.false;
    }

pub invariant_of-result : goal.invariant_of-result
invariant_of-result c =
    let pair = pair_of c.args.from c.args.to c.args.credits in
    stored_added c.self.inside pair c.self.invariant c.if-self-ge-PLACES.false (taken c)

pub returns : goal.returns
returns c =
    let pair = pair_of c.args.from c.args.to c.args.credits in (
      added_is c.self.inside pair c.self.invariant c.if-self-ge-PLACES.false
          ∙ ap (λ (all : Parameters). with_pair all pair) c.self.view_is,
      subst (λ (all : Parameters). AreInRange (with_pair all pair)) c.self.view_is
          (range_added (parameters_of c.self.inside) pair c.self.invariant.range (taken c)),
    )
