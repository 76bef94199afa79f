-- When the next one leaves: what the private functions give. The promise of this crate does not speak of it.
use Rattle.std.specs.Prelude.{◌≡◌, ℕ, ◌+◌, ◌-◌, ◌*◌, ◌/◌, ◌<◌, ◌≤◌, min, Bool, true, false, List, Option, MatchOption}
use Rattle.std.specs.List.{filter_map, reduce}
use Rattle.rules.specs.Basics.{some}
use Rattle.turns.specs.Types.{Waiter, Turns}
use Rattle.turns.specs.Turns.{period_of, may_leave}

-- the least multiple of p from x on
abbrev pub up_to : ℕ → ℕ → ℕ
up_to p x = (x + (p - 1)) / p * p

-- the least period of those that wait
abbrev pub shortest : List Waiter → Option ℕ
shortest ws = reduce min (filter_map period_of ws)

-- some of them leaves in the tick n after clock t, if none has before
abbrev pub leaves_in : ℕ → ℕ → Turns → Bool
leaves_in t n now = some (may_leave (t + n) (now.wait - n)) now.waiters

-- the first of so many ticks in which one leaves
abbrev pub IsNext : ℕ → Turns → ℕ → Option ℕ → Type 0
IsNext t now ticks r =
    MatchOption r ((n : ℕ) → 0 < n → n ≤ ticks → leaves_in t n now ≡ false)
    (λ first. (0 < first) × (first ≤ ticks) × (leaves_in t first now ≡ true) × ((n : ℕ) → 0 < n → n < first → leaves_in t n now ≡ false))
