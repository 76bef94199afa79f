-- The call that takes a tachometer result: "channel, count of 8,192 Hz clocks".
use Rattle.std.specs.Prelude.{ℕ, ◌+◌, ◌-◌, min, Bool, not, ◌&&◌, ◌||◌, [], ◌∷◌, leb, ltb, eqb, get_or, set, if◌then◌else◌}
use Rattle.rules.specs.Types.{Channel, Results, State, Conditions, Answer}
use Rattle.rules.specs.State.{channel, results, results_of, with_results, with_channels}
use Rattle.rules.specs.Registers.{monitor_only, tachometer_enabled, queue_code, target_count}
use Rattle.rules.specs.Duty.{conditions_of, output_duty}
use Rattle.rules.specs.Valid.{if_valid}
use Rattle.rules.specs.Calls.{if_channel}

-- "the queue length (codes 0 to 3: 1, 2, 4, 6)"
unfoldable pub queue_length : ℕ → ℕ
queue_length code = get_or (1 ∷ 2 ∷ 4 ∷ 6 ∷ []) code 0

-- "the lesser of the count and 2,047 is stored"
abbrev pub stored_count : ℕ → ℕ
stored_count count = min count 2047

-- "It is judged if the box is not in standby, no spin-up time remains, and the channel is monitor only or its output duty is
-- above 0"
unfoldable pub judged : Conditions → Channel → Bool
judged k ch = not k.standby && eqb ch.spin 0 && (monitor_only ch.config || ltb 0 (output_duty k ch))

-- since K3 "a stored count of 2,047 is bad for any target"; any other is "Judged bad when the stored count exceeds the target count"
unfoldable pub is_bad : Channel → ℕ → Bool
is_bad ch stored = eqb stored 2047 || ltb (target_count ch) stored

-- "the channel's queue count goes up, to at most 6, and if it is then at least the queue length .. the fault bit is set"
abbrev pub bad_result : ℕ → ℕ → Results → Results
bad_result needed stored r =
    let queue = min (r.queue + 1) 6 in
    results stored queue (r.fault || leb needed queue)

-- "Judged good: queue count 0, fault bit kept"
abbrev pub good_result : ℕ → Results → Results
good_result stored r = results stored 0 r.fault

abbrev pub unjudged_result : ℕ → Results → Results
unjudged_result stored r = results stored r.queue r.fault

-- what a result makes of those before it, where so many bad ones in a row are needed. "If tachometer enabled is clear, it is
-- accepted and nothing changes"
unfoldable pub result_taken : Bool → Bool → Bool → ℕ → ℕ → Results → Results
result_taken enabled is_judged bad needed stored r =
    if not enabled then r
    else if not is_judged then unjudged_result stored r
    else if bad then bad_result needed stored r
    else good_result stored r

-- a result of one channel
unfoldable pub channel_result : Conditions → ℕ → Channel → ℕ → Channel
channel_result k needed ch count =
    let stored = stored_count count in
    with_results ch (result_taken (tachometer_enabled ch.config) (judged k ch) (is_bad ch stored) needed stored (results_of ch))

-- a result of the channel with index i, judged by the state before it
abbrev pub with_result : State → ℕ → ℕ → State
with_result s i count =
    let needed = queue_length (queue_code s.registers.options) in
    with_channels s (set s.channels i (channel_result (conditions_of s) needed (channel s i) count))

unfoldable pub result_of : State → ℕ → ℕ → Answer
result_of s n count = if_valid s (if_channel n s (with_result s (n - 1) count))
