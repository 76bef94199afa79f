-- The speed calculation.
use Rattle.std.specs.Prelude.{ℕ, ◌*◌, ◌/◌, ◌≤◌, ◌≡◌, Bool, true, false, not, ◌&&◌, ◌||◌, [], ◌∷◌, leb, ltb, eqb, get_or, Result, Ok, Err, if◌then◌else◌}
use Rattle.rules.specs.Types.{Refusal, Speed, Rpm, Stopped, TooFast}
use Rattle.rules.specs.declared.refusal.Refusal.TheVariants.{SpeedOutOfRange}
use Rattle.rules.specs.Calls.{accepted, number_of}

-- "range 1, 2, 4, 8, 16, 32, 32, 32 for codes 0 to 7"
unfoldable pub speed_range : ℕ → ℕ
speed_range code = get_or (1 ∷ 2 ∷ 4 ∷ 8 ∷ 16 ∷ 32 ∷ 32 ∷ 32 ∷ []) code 0

-- "floor(491,520 × range / (pulses × count))"
abbrev pub revolutions : ℕ → ℕ → ℕ → ℕ
revolutions range pulses count = 491520 * speed_range range / (pulses * count)

-- refusal 6: "range code above 7, pulses not 1 to 4", and since K2 only "counts above 2,047"
unfoldable pub speed_refused : ℕ → ℕ → ℕ → Bool
speed_refused range pulses count = ltb 7 range || not (leb 1 pulses && leb pulses 4) || ltb 2047 count

-- K2: "The speed calculation shall answer stopped for count 2,047 and too fast for count 0"; 6 is "tested first"
unfoldable pub speed_of : ℕ → ℕ → ℕ → Result Speed Refusal
speed_of range pulses count =
    if speed_refused range pulses count then Err SpeedOutOfRange
    else if eqb count 2047 then Ok Stopped
    else if eqb count 0 then Ok TooFast
    else Ok (Rpm (revolutions range pulses count))

-- the paper's number and value for each case of the answer; the two words are accepted and carry speed 0
abbrev pub speed_refusal : Result Speed Refusal → ℕ
speed_refusal (Ok speed) = accepted
speed_refusal (Err refusal) = number_of refusal

abbrev pub speed_value : Result Speed Refusal → ℕ
speed_value (Ok (Rpm speed)) = speed
speed_value (Ok Stopped) = 0
speed_value (Ok TooFast) = 0
speed_value (Err refusal) = 0

-- what the paper says of the two: 6 "then and never otherwise", with "speed 0"
pub record SpeedTold (range pulses count : ℕ) (answer : Result Speed Refusal) : Type 0 where
  pub refused : speed_refused range pulses count ≡ true → (speed_refusal answer ≡ 6) × (speed_value answer ≡ 0)
  pub stopped : speed_refused range pulses count ≡ false → count ≡ 2047 → (speed_refusal answer ≡ 0) × (speed_value answer ≡ 0)
  pub too_fast : speed_refused range pulses count ≡ false → count ≡ 0 → (speed_refusal answer ≡ 0) × (speed_value answer ≡ 0)
  pub given : speed_refused range pulses count ≡ false → 1 ≤ count → count ≤ 2046 →
      (speed_refusal answer ≡ 0) × (speed_value answer ≡ revolutions range pulses count)
