-- The call that tells the level of the pin FULL_SPEED.
use Rattle.std.specs.Prelude.{Bool}
use Rattle.rules.specs.Types.{State, Answer}
use Rattle.rules.specs.State.{with_pin}
use Rattle.rules.specs.Valid.{if_valid}
use Rattle.rules.specs.Calls.{accepted, answer}

-- "Pin stores the level and nothing else"
unfoldable pub pin_of : State → Bool → Answer
pin_of s high = if_valid s (answer accepted (with_pin s high))
