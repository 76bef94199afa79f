-- The round trips, of a valid state with its second fan failed and its third spinning up with one pulse counted, and of the largest numbers.
use Prim.Native.Nat.{ℕ}
use mathlib.Core.Path.{◌≡◌, refl}
use mathlib.Core.Bool.{Bool, true, false, ◌&&◌, false≢true}
use mathlib.Core.List.{List, [], ◌∷◌}
use lib.Dec.{leb}
use borrow.Author.Tests.{leb-true}
use Rattle.rules.specs.Time.{watchdog_limit}
use Rattle.rules.specs.Valid.{valid_channel, valid_pulses, valid_registers, valid_start, valid_timer, valid_of}
use Rattle.rules.proofs.Tests.{and_left, and_right}
use Rattle.numbers.specs.Numbers.{channels_limits, limits, Within, state_numbers, channel_from, channel_at, registers_from, timer_from, start_from, state_from}
use Rattle.numbers.proofs.RoundTrips.{round-trips}

-- numbers are within limits where a test says so, which antt computes
abbrev fitting : List ℕ → List ℕ → Bool
fitting [] [] = true
fitting [] (n ∷ v) = false
fitting (most ∷ l) [] = false
fitting (most ∷ l) (n ∷ v) = leb n most && fitting l v

within_by : (l v : List ℕ) → fitting l v ≡ true → Within l v
unfolding Within
within_by [] [] e = tt
within_by [] (n ∷ v) e = false≢true e
within_by (most ∷ l) [] e = false≢true e
within_by (most ∷ l) (n ∷ v) e =
    (leb-true n most (and_left (leb n most) (fitting l v) e), within_by l v (and_right (leb n most) (fitting l v) e))

abbrev numbers : List ℕ
numbers =
    5120 ∷ 1 ∷ 45 ∷ 196 ∷ 2 ∷ 63 ∷ 32 ∷ 41 ∷ 0 ∷ 17 ∷ 2 ∷ 1 ∷ 128 ∷ 196 ∷ 1 ∷ 128
    ∷ 104 ∷ 84 ∷ 900 ∷ 300 ∷ 0 ∷ 400 ∷ 2000 ∷ 5 ∷ 0 ∷ 0
    ∷ 72 ∷ 76 ∷ 2047 ∷ 20 ∷ 0 ∷ 20 ∷ 1100 ∷ 0 ∷ 3 ∷ 0
    ∷ 40 ∷ 94 ∷ 1 ∷ 511 ∷ 250 ∷ 511 ∷ 0 ∷ 255 ∷ 0 ∷ 1
    ∷ 16 ∷ 0 ∷ 7 ∷ 0 ∷ 0 ∷ 128 ∷ 1 ∷ 0 ∷ 0 ∷ 0
    ∷ 8 ∷ 2 ∷ 640 ∷ 511 ∷ 0 ∷ 510 ∷ 2047 ∷ 16 ∷ 1 ∷ 0
    ∷ 0 ∷ 254 ∷ 0 ∷ 77 ∷ 0 ∷ 76 ∷ 64 ∷ 1 ∷ 0 ∷ 0
    ∷ []

pub numbers-within : Within limits numbers
unfolding limits channels_limits
numbers-within = within_by limits numbers refl

pub numbers-valid : valid_of (state_from numbers) ≡ true
unfolding valid_of valid_registers valid_start valid_timer valid_channel valid_pulses watchdog_limit state_from registers_from start_from timer_from channel_at channel_from
numbers-valid = refl

pub numbers-again : state_numbers (state_from numbers) ≡ numbers
numbers-again = round-trips.numbers-back numbers numbers-within

pub state-again : state_from (state_numbers (state_from numbers)) ≡ state_from numbers
state-again =
    round-trips.state-back (state_from numbers) (rw numbers-again numbers-within) (round-trips.valid-apart (state_from numbers) numbers-valid)

pub largest-within : Within limits limits
unfolding limits channels_limits
largest-within = within_by limits limits refl
