-- The exchanges of a pair: what becomes of a request.
use Rattle.std.specs.Prelude.{ℕ, suc, ◌-◌, if◌then◌else◌, List, [], ◌∷◌, true, false}
use Rattle.base_lists.specs.Update.{update}
use Rattle.sim_world.specs.declared.exchanges.Exchange.{Exchange}

-- a new exchange, of a request in this slot
abbrev pub new_exchange : (slot : ℕ) → Exchange
new_exchange slot = record { slot = slot; ran = false; back = false }

abbrev pub run : Exchange → Exchange
run exchange = record exchange { ran = true }

-- the exchanges, where that of the request with this number ran
abbrev pub with_ran : List Exchange → ℕ → List Exchange
with_ran list number = update list (number - 1) run

abbrev pub with_credit_back : Exchange → Exchange
with_credit_back exchange = record exchange { back = true }

-- the exchanges, where that of the request with this number is back
abbrev pub with_returned : List Exchange → ℕ → List Exchange
with_returned list number = update list (number - 1) with_credit_back

-- how many exchanges at the beginning of the list are back
abbrev pub leading_back : List Exchange → ℕ
leading_back [] = 0
leading_back (exchange ∷ later) = if exchange.back then suc (leading_back later) else 0
