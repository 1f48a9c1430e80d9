-- A batch is asked by one call.
use Rattle.std.proofs.Common.{◌≡◌, refl}
use Rattle.node_endpoint.specs.declared.caller.Called.{Called}
use Rattle.node_endpoint.specs.declared.caller.Called.TheVariants as called
use Rattle.node_endpoint.specs.declared.caller.Caller.{Ghosts}
use Rattle.node_endpoint.specs.Making.{MakesOne}
use Rattle.node_endpoint.specs.Sites.{ThreadCall, MayLack, answer_at}
use Rattle.node_endpoint.specs.Answer.{Answer}
use Rattle.node_atomics.specs.Asking.{answer_of}

-- what the clauses of a call say of it
pub record CallsOnce {K : Type 0} (caller : Ghosts K) (old : K) (call : ThreadCall) (result : Called) (new : K)
    : Type 0 where
  pub site : caller.site new ≡ caller.site old
  pub lent : caller.lent new ≡ caller.lent old
  pub answered : (answer : Answer) → result ≡ called.Answer answer → (whole : caller.Whole)
      → caller.stands old whole
      → (answer ≡ answer_at (caller.site old) (caller.record_in (caller.site old) whole) call)
      × caller.stands new (caller.after (caller.site old) whole call)
  pub no_memory : result ≡ called.NoMemory → (whole : caller.Whole) → caller.stands old whole
      → MayLack caller.may_lack call × caller.stands new whole

pub makes_one : {K : Type 0} (caller : Ghosts K) (old : K) (call : ThreadCall) (result : Called) (new : K)
    → CallsOnce caller old call result new → MakesOne caller old call (answer_of result) new
makes_one caller old call (called.Answer answer) new it = (
  record { site = it.site; lent = it.lent; whole = λ whole stands. (it.answered answer refl whole stands).1 },
  λ whole stands. (it.answered answer refl whole stands).0,
)
makes_one caller old call called.NoMemory new it = ((it.site, it.lent), λ whole stands. it.no_memory refl whole stands)
