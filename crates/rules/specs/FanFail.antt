-- The FAN_FAIL query.
use Rattle.std.specs.Prelude.{ℕ, ◌+◌, Bool, true, false, not, ◌&&◌, List, [], ◌∷◌, map, Option, None, Some, Result, Ok, Err, if◌then◌else◌}
use Rattle.rules.specs.Types.{State, FanFailAnswer, Refusal, Failed}
use Rattle.rules.specs.Basics.{some, flag}
use Rattle.rules.specs.State.{channel}
use Rattle.rules.specs.Registers.{masked}
use Rattle.rules.specs.Valid.{valid_of}
use Rattle.rules.specs.Calls.{accepted, state_not_valid, number_of}

-- of each channel, from 1 to 6, whether it "has its fault bit set and its mask bit clear"
abbrev pub failed : State → List Bool
failed s = map (λ i. (channel s i).fault && not (masked s.registers.mask1 i)) (0 ∷ 1 ∷ 2 ∷ 3 ∷ 4 ∷ 5 ∷ [])

-- "how many unmasked channels have failed"
abbrev pub how_many : List Bool → ℕ
how_many [] = 0
how_many (b ∷ bs) = flag b + how_many bs

-- "and the lowest one, 0 if none": the first of them, if the first channel of the list is channel n
abbrev pub lowest_from : ℕ → List Bool → ℕ
lowest_from n [] = 0
lowest_from n (b ∷ bs) = if b then n else lowest_from (n + 1) bs

abbrev pub fan_fail_answer : ℕ → Bool → ℕ → ℕ → State → FanFailAnswer
fan_fail_answer refusal asserted many lowest s =
    record { refusal = refusal; asserted = asserted; failed = many; lowest = lowest; state = s }

-- the same of the query's result in the code
abbrev pub fan_fail_by : State → Result (Option Failed) Refusal → FanFailAnswer
fan_fail_by s (Ok None) = fan_fail_answer accepted false 0 0 s
fan_fail_by s (Ok (Some failed)) = fan_fail_answer accepted true failed.count failed.lowest s
fan_fail_by s (Err refusal) = fan_fail_answer (number_of refusal) false 0 0 s

-- "asserted exactly when some channel has its fault bit set and its mask bit clear". "After a refused .. FAN_FAIL query every
-- number is 0 and the pin is not asserted"; it gives "the state back unchanged"
unfoldable pub fan_fail_of : State → FanFailAnswer
fan_fail_of s =
    if valid_of s then fan_fail_answer accepted (some (λ b. b) (failed s)) (how_many (failed s)) (lowest_from 1 (failed s)) s
    else fan_fail_answer state_not_valid false 0 0 s
