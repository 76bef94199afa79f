-- The state by its parts: a channel of it, and the parts that change together.
use Rattle.std.specs.Prelude.{ℕ, Bool, false, List, get_or}
use Rattle.rules.specs.Types.{Channel, Results, Registers, StartValues, Timer, State}

-- a channel with every number 0 and every flag clear
abbrev pub blank : Channel
blank =
    record {
      config = 0;
      dynamics = 0;
      window = 0;
      target = 0;
      target_count = 0;
      count = 0;
      queue = 0;
      fault = false;
      ramp = 0;
      spin = 0;
      pulses = 0;
    }

-- the channel with index i, which is channel i + 1 of the paper
abbrev pub channel : State → ℕ → Channel
channel s i = get_or s.channels i blank

-- what a tachometer result changes of a channel
abbrev pub results : ℕ → ℕ → Bool → Results
results count queue fault = record { count = count; queue = queue; fault = fault }

abbrev pub results_of : Channel → Results
results_of ch = results ch.count ch.queue ch.fault

-- a channel with other settings; with other results; with another ramp value, spin-up time and count of pulses; with another ramp value
abbrev pub with_settings : Channel → ℕ → ℕ → ℕ → ℕ → ℕ → Channel
with_settings ch config dynamics window target target-count =
    record {
      config = config;
      dynamics = dynamics;
      window = window;
      target = target;
      target_count = target-count;
      count = ch.count;
      queue = ch.queue;
      fault = ch.fault;
      ramp = ch.ramp;
      spin = ch.spin;
      pulses = ch.pulses;
    }

abbrev pub with_results : Channel → Results → Channel
with_results ch r =
    record {
      config = ch.config;
      dynamics = ch.dynamics;
      window = ch.window;
      target = ch.target;
      target_count = ch.target_count;
      count = r.count;
      queue = r.queue;
      fault = r.fault;
      ramp = ch.ramp;
      spin = ch.spin;
      pulses = ch.pulses;
    }

abbrev pub with_motion : Channel → ℕ → ℕ → ℕ → Channel
with_motion ch ramp spin pulses =
    record {
      config = ch.config;
      dynamics = ch.dynamics;
      window = ch.window;
      target = ch.target;
      target_count = ch.target_count;
      count = ch.count;
      queue = ch.queue;
      fault = ch.fault;
      ramp = ramp;
      spin = spin;
      pulses = pulses;
    }

abbrev pub with_ramp : Channel → ℕ → Channel
with_ramp ch ramp = with_motion ch ramp ch.spin ch.pulses

-- the registers of the box, in the order of their addresses
abbrev pub registers : ℕ → ℕ → ℕ → ℕ → ℕ → Registers
registers control frequency mask2 mask1 options =
    record { control = control; frequency = frequency; mask2 = mask2; mask1 = mask1; options = options }

-- the pin-set values, and the timer; a timer with another idle count and expiry; with another status bit; with another wait
abbrev pub start_values : ℕ → ℕ → ℕ → ℕ → ℕ → StartValues
start_values watchdog spinup target frequency modification =
    record { watchdog = watchdog; spinup = spinup; target = target; frequency = frequency; modification = modification }

abbrev pub timer : ℕ → ℕ → Bool → Bool → ℕ → Timer
timer clock idle expired status wait = record { clock = clock; idle = idle; expired = expired; status = status; wait = wait }

abbrev pub with_idle : Timer → ℕ → Bool → Timer
with_idle t idle expired = timer t.clock idle expired t.status t.wait

abbrev pub with_status : Timer → Bool → Timer
with_status t status = timer t.clock t.idle t.expired status t.wait

abbrev pub with_wait : Timer → ℕ → Timer
with_wait t wait = timer t.clock t.idle t.expired t.status wait

-- a state with other channels; with other registers; with another pin level; with another timer
abbrev pub with_channels : State → List Channel → State
with_channels s channels =
    record { channels = channels; registers = s.registers; pin = s.pin; start = s.start; timer = s.timer }

abbrev pub with_registers : State → Registers → State
with_registers s r =
    record { channels = s.channels; registers = r; pin = s.pin; start = s.start; timer = s.timer }

abbrev pub with_pin : State → Bool → State
with_pin s pin =
    record { channels = s.channels; registers = s.registers; pin = pin; start = s.start; timer = s.timer }

abbrev pub with_timer : State → Timer → State
with_timer s timer =
    record { channels = s.channels; registers = s.registers; pin = s.pin; start = s.start; timer = timer }
