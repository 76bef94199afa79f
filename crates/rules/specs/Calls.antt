-- What the calls share: the refusal numbers, what is given back, and what an access to a register does besides.
use Rattle.std.specs.Prelude.{ℕ, ◌-◌, Bool, false, ◌&&◌, leb, eqb, Option, None, Some, Result, Ok, Err, if◌then◌else◌}
use Rattle.rules.specs.Types.{State, Answer, ReadAnswer, Refusal, ByteRead}
use Rattle.rules.specs.declared.refusal.Refusal.TheVariants as refused
use Rattle.rules.specs.State.{with_idle, with_timer}

-- "Refusal numbers", "Tested in the order of their numbers; given then and never otherwise", but for 8 of K6, which comes "after 3".
-- 0 is accepted
abbrev pub accepted : ℕ
accepted = 0

-- "state not sound"
abbrev pub state_not_valid : ℕ
state_not_valid = 1

-- "address not carried"
abbrev pub not_carried : ℕ
not_carried = 2

-- "write to a read-only register"
abbrev pub read_only : ℕ
read_only = 3

-- "fan configuration byte with bit 7, 2 or 0 set"
abbrev pub config_not_allowed : ℕ
config_not_allowed = 4

-- "channel not 1 to 6"
abbrev pub no_such_channel : ℕ
no_such_channel = 5

-- of the speed calculation; K2: "6 stays for codes, pulses and counts above 2,047, tested first"
abbrev pub speed_out_of_range : ℕ
speed_out_of_range = 6

-- "start: a pin-set value out of range"; K7: "7 for another modification"
abbrev pub start_out_of_range : ℕ
start_out_of_range = 7

-- K6: "a byte write to 40h to 4Bh or 50h to 5Bh, or a word write elsewhere or to an odd address"
abbrev pub wrong_width : ℕ
wrong_width = 8

-- the number of each
abbrev pub number_of : Refusal → ℕ
number_of refused.StateNotValid = state_not_valid
number_of refused.NotCarried = not_carried
number_of refused.ReadOnly = read_only
number_of refused.ConfigNotAllowed = config_not_allowed
number_of refused.NoSuchChannel = no_such_channel
number_of refused.SpeedOutOfRange = speed_out_of_range
number_of refused.StartOutOfRange = start_out_of_range
number_of refused.WrongWidth = wrong_width

-- what a call answers that gives a state back; what a read answers
abbrev pub answer : ℕ → State → Answer
answer refusal s = record { refusal = refusal; state = s }

abbrev pub read_answer : ℕ → ℕ → State → ReadAnswer
read_answer refusal byte s = record { refusal = refusal; byte = byte; state = s }

-- the same of a call's result in the code: refused, it gives the number and the "state as given"
abbrev pub answer_by : State → Result State Refusal → Answer
answer_by s (Ok next) = answer accepted next
answer_by s (Err refusal) = answer (number_of refusal) s

abbrev pub read_answer_by : State → Result ByteRead Refusal → ReadAnswer
read_answer_by s (Ok read) = read_answer accepted read.byte read.state
read_answer_by s (Err refusal) = read_answer (number_of refusal) 0 s

-- a call that is refused with a number, "state as given", or leaves a state
abbrev pub unless_refused : ℕ → State → State → Answer
unless_refused refusal s next = if eqb refusal accepted then answer accepted next else answer refusal s

-- refusal 5, K7 too: "5 for the channel". A call of a channel, counted from 1, is refused with it or leaves a state
abbrev pub is_channel : ℕ → Bool
is_channel n = leb 1 n && leb n 6

-- the place of the channel of a number, if there is one
abbrev pub numbered : ℕ → Option ℕ
numbered n = if is_channel n then Some (n - 1) else None

abbrev pub if_channel : ℕ → State → State → Answer
if_channel n s next = if is_channel n then answer accepted next else answer no_such_channel s

-- "Each accepted read or write sets the idle count to 0 and ends an expiry"
abbrev pub accessed : State → State
accessed s = with_timer s (with_idle s.timer 0 false)
