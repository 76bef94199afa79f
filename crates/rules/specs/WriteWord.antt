-- The call that writes a word, of K6: "Join the two byte writes of a target duty or target count into one word write."
use Rattle.std.specs.Prelude.{ℕ, false, not, set, if◌then◌else◌}
use Rattle.rules.specs.Types.{Channel, State, WordRegister, Target, TargetCount, Place, Absent, ReadOnly, Shared, Own, OwnWord, Answer}
use Rattle.rules.specs.State.{channel, results, with_settings, with_results, with_channels}
use Rattle.rules.specs.Registers.{target_count}
use Rattle.rules.specs.Words.{word_duty, word_count}
use Rattle.rules.specs.Map.{place_at, is_carried, is_read_only, is_first}
use Rattle.rules.specs.Valid.{if_valid}
use Rattle.rules.specs.Calls.{accepted, not_carried, read_only, wrong_width, unless_refused, accessed}

-- "that channel's fault bit and queue count become 0"
abbrev pub cleared : Channel → Channel
cleared ch = with_results ch (results ch.count 0 false)

-- the number that the word shows is the target; its other bits are dropped. "for a duty clears the fault once"
unfoldable pub target_written : Channel → ℕ → WordRegister → Channel
target_written ch word Target =
    cleared (with_settings ch ch.config ch.dynamics ch.window (word_duty word) (target_count ch))
target_written ch word TargetCount =
    with_settings ch ch.config ch.dynamics ch.window ch.target (word_count word)

-- the word goes into the register of one channel
abbrev pub own_word_written : State → ℕ → WordRegister → ℕ → State
own_word_written s word r i = with_channels s (set s.channels i (target_written (channel s i) word r))

-- the word goes to what stands at an address
unfoldable pub word_written : State → ℕ → Place → State
word_written s word Absent = s
word_written s word (ReadOnly r) = s
word_written s word (Shared r) = s
word_written s word (Own r i) = s
word_written s word (OwnWord r i low) = own_word_written s word r i

-- 2, 3, and K6's "8, after 3: .. a word write elsewhere or to an odd address", by what stands at the address
unfoldable pub word_refusal : Place → ℕ
word_refusal place =
    if not (is_carried place) then not_carried
    else if is_read_only place then read_only
    else if not (is_first place) then wrong_width
    else accepted

-- refusal 1, those, or the write: "It counts as one bus transaction"
unfoldable pub write_word_of : State → ℕ → ℕ → Answer
write_word_of s a word = let place = place_at a in if_valid s (unless_refused (word_refusal place) s (word_written (accessed s) word place))
