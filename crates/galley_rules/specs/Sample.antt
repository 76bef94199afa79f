-- A sample of the temperature: the row that it leaves, ALERT and SHDN, and the target duties that it writes.
use Rattle.std.specs.Prelude.{ℕ, suc, min, max, Bool, false, not, List, [], ◌∷◌, eqb, ℤ, pos, ◌+ℤ◌, if◌then◌else◌}
use Rattle.std.specs.Int.Signed.{lt_z}
use Rattle.rules.specs.Calls.{accepted, state_not_valid}
use Rattle.rules.specs.Valid.{valid_of}
use Rattle.rules.specs.Make.{after_each, targets, target_call}
use Rattle.galley_rules.specs.Types.{State, Call, Galley, SampleAnswer}
use Rattle.galley_rules.specs.Temperature.{in_range, row_of}
use Rattle.galley_rules.specs.Galley.{temperature_out_of_range, with_sample, eighths_of, valid_galley}
use Rattle.galley_rules.specs.Table.{no_table, are_tables, in_force, row_duty}

-- "After a sample T the row is the lesser of the present row and the row of T + h, but never below the row of T"
unfoldable pub row_after : ℕ → ℤ → ℕ → ℕ
row_after row t h = max (min row (row_of (t +ℤ pos h))) (row_of t)

-- "A sample writes, from channel 1 up, only those of the six target duties that differ", since K6 a word each: from the channel with
-- index i on, whose targets these are
unfoldable pub calls_from : ℕ → ℕ → List ℕ → List Call
calls_from duty i [] = []
calls_from duty i (target ∷ targets) =
    let others = calls_from duty (suc i) targets in
    if eqb target duty then others else target_call i duty ∷ others

abbrev pub sample_answer : ℕ → Bool → Bool → Galley → State → SampleAnswer
sample_answer refusal alert shutdown g s =
    record { refusal = refusal; alert = alert; shutdown = shutdown; galley = g; state = s }

-- the galley, the controller's state, the sample, the normal and the quiet table
module _ (g : Galley) (s : State) (t : ℤ) (normal quiet : List ℕ) where
  -- "1 for either state, 20 either table not 48 bytes, .. 22 temperature out of range, in that order"
  unfoldable pub sample_refusal : ℕ
  sample_refusal =
      if not (valid_galley g) then state_not_valid
      else if not (valid_of s) then state_not_valid
      else if not (are_tables normal quiet) then no_table
      else if not (in_range t) then temperature_out_of_range
      else accepted

  abbrev pub sample_row : ℕ
  sample_row = row_after g.row t (eighths_of g.hysteresis)

  abbrev pub sample_duty : ℕ
  sample_duty = row_duty (in_force g.quiet normal quiet) sample_row

  -- the calls of the controller that a sample makes. "comparing the present targets is no register read"
  abbrev pub sample_calls : List Call
  sample_calls = calls_from sample_duty 0 (targets s)

  -- "ALERT and SHDN are each asserted exactly when the sample is above its threshold, and not after a refusal"; refused, "both states
  -- as given"
  unfoldable pub sample_of : SampleAnswer
  sample_of =
      if eqb sample_refusal accepted
      then sample_answer accepted (lt_z g.high t) (lt_z g.over t) (with_sample g sample_row t) (after_each s sample_calls)
      else sample_answer sample_refusal false false g s
