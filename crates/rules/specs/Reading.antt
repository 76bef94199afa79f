-- The reading of clock and duties, which the paper calls the cabin reading.
use Rattle.std.specs.Prelude.{ℕ, ◌<◌, false, List, map, eqb, Float, get_or, replicate, Result, Ok, Err, if◌then◌else◌}
use Rattle.std.specs.Float.{binary64}
use Rattle.std.specs.Float.Ieee.{round}
use Rattle.std.specs.Float.Ieee.Exact.{HasValue}
use Rattle.rules.specs.Types.{State, Refusal, Reading, ReadingAnswer}
use Rattle.rules.specs.Duty.{conditions_of, output_duty}
use Rattle.rules.specs.Valid.{valid_of}
use Rattle.rules.specs.Calls.{accepted, state_not_valid, number_of}

-- "divided by 512": the f64 nearest to n / 512
unfoldable pub over512 : ℕ → Float
over512 n = round binary64 false n 512

-- "and exact": x is n / 512 itself, with nothing rounded; finite, not negative, and 512 times its value is n
abbrev pub Exactly : ℕ → Float → Type 0
Exactly n x = HasValue x false n 512

-- a duty as a share, in 512ths: "with 511 given as 1"
abbrev pub share_of : ℕ → ℕ
share_of duty = if eqb duty 511 then 512 else duty

-- what is read, in 512ths: the clock, and of each channel the share; "duty here is output duty". "After a refused cabin reading ..
-- every number is 0"
unfoldable pub clock_read : State → ℕ
clock_read s = if valid_of s then s.timer.clock else 0

unfoldable pub shares_read : State → List ℕ
shares_read s = if valid_of s then map (λ ch. share_of (output_duty (conditions_of s) ch)) s.channels else replicate 6 0

-- the call; it gives "the state back unchanged"
unfoldable pub reading_of : State → ReadingAnswer
reading_of s =
    record {
      refusal = if valid_of s then accepted else state_not_valid;
      reading = record { seconds = over512 (clock_read s); shares = map over512 (shares_read s) };
      state = s;
    }

-- the same of the call's result in the code
abbrev pub reading_by : State → Result Reading Refusal → ReadingAnswer
reading_by s (Ok reading) = record { refusal = accepted; reading = reading; state = s }
reading_by s (Err refusal) =
    record {
      refusal = number_of refusal;
      reading = record { seconds = over512 0; shares = map over512 (replicate 6 0) };
      state = s;
    }

-- "These are f64": each of them is exact
pub record ExactReading (s : State) (r : Reading) : Type 0 where
  pub seconds : Exactly (clock_read s) r.seconds
  pub shares : (i : ℕ) → i < 6 → Exactly (get_or (shares_read s) i 0) (get_or r.shares i (over512 0))
