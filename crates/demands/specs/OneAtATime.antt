-- K8, "One fan at a time": what the request is for. "All six starting together trip the row's power supply."
use Rattle.std.specs.Prelude.{ℕ, ◌+◌, ◌≤◌, ◌<◌, ◌≡◌}
use Rattle.demands.specs.Types.{State}
use Rattle.rules.specs.State.{channel}
use Rattle.rules.specs.Registers.{delay_code}
use Rattle.rules.specs.Tick.{delay_of, tick, iterate}

-- in the next tick the ramp value of the channel with index i leaves 0
abbrev pub Leaves : State → ℕ → Type 0
Leaves s i = ((channel s i).ramp ≡ 0) × (0 < (channel (tick s) i).ramp)

-- over the ticks of a quiet span from a state on
pub record OneAtATime (s : State) : Type 0 where
  -- a channel leaves 0 "only at wait 0, and then sets the wait": in one tick at most one does
  pub at_most_one : (t i j : ℕ) → Leaves (iterate t tick s) i → Leaves (iterate t tick s) j → i ≡ j
  -- the wait "falls by one each tick": two ticks in which channels leave are at least as far apart as the start delay is coded
  pub apart : (a b i j : ℕ) → a < b → Leaves (iterate a tick s) i → Leaves (iterate b tick s) j → a + delay_of s ≤ b

-- for every state, valid or not, with a delay code above 0
abbrev pub AlwaysOneAtATime : Type 0
AlwaysOneAtATime = (s : State) → (delay_code s.registers.options ≡ 0 → ⊥) → OneAtATime s
