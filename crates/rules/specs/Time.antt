-- "Time": the clock, and the codes of the registers in ticks.
use Rattle.std.specs.Prelude.{ℕ, ◌+◌, ◌-◌, ◌*◌, ◌%◌, ◌^◌, Bool, [], ◌∷◌, eqb, get_or, if◌then◌else◌}

-- "The clock is a 32-bit number of ticks that returns to 0 after 4,294,967,295"
abbrev pub clock_after : ℕ → ℕ → ℕ
clock_after clock ticks = (clock + ticks) % 2 ^ 32

-- "Watchdog codes 0 to 3: off, 2,560, 5,120, 15,360 ticks"
unfoldable pub watchdog_limit : ℕ → ℕ
watchdog_limit code = get_or (0 ∷ 2560 ∷ 5120 ∷ 15360 ∷ []) code 0

-- "Spin-up codes 0 to 3: none, 256, 512, 1,024 ticks"
unfoldable pub spin_ticks : ℕ → ℕ
spin_ticks code = get_or (0 ∷ 256 ∷ 512 ∷ 1024 ∷ []) code 0

-- K8, of 14h's start delay: "codes 0 to 5 are 0, 128, 256, 512, 1,024 and 2,048 ticks, with 6 and 7 as 5"
unfoldable pub start_delay : ℕ → ℕ
start_delay code = get_or (0 ∷ 128 ∷ 256 ∷ 512 ∷ 1024 ∷ 2048 ∷ 2048 ∷ 2048 ∷ []) code 0

-- K7: "Boxes of modification A keep 01's whole time; boxes of modification B end early", "A is number 0, B is 1"
abbrev pub ends_early : ℕ → Bool
ends_early modification = eqb modification 1

-- "Rate code k from 1 to 7: period 2^(k-1) ticks. With asymmetric fall the period of a falling duty is doubled"
abbrev pub rate_period : ℕ → Bool → ℕ
rate_period code doubled = if doubled then 2 * 2 ^ (code - 1) else 2 ^ (code - 1)
