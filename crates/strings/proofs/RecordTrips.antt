-- A record is read back as it was written, and only what is written is read.
use Prim.Native.Nat.{ℕ, zero, suc, ◌+◌, ◌/◌, ◌%◌, ◌^◌, ◌≤◌}
use mathlib.Core.Path.{◌≡◌, refl, sym, ap, ◌∙◌}
use mathlib.Core.Bool.{Bool, true, false, false≢true}
use mathlib.Core.List.{List, [], ◌∷◌, ◌++◌, append_assoc, append-nil}
use native.Mathlib.Omega.{arith}
use lib.Dec.{ltb, eqb}
use lib.ListN.{length, length-append}
use borrow.Author.Tests.{lt-ltb, ltb-true, eqb-true, eqb-false}
use Rattle.std.specs.Prelude.{if◌then◌else◌}
use Rattle.std.proofs.lemmas.Grind.{flat_map-append}
use Rattle.std.proofs.lemmas.List.Folds.{list_all-append}
use Rattle.rules.specs.Basics.{flag}
use Rattle.rules.specs.declared.Call.TheVariants as call
use Rattle.rules.proofs.Tests.{choice, and_left, and_right}
use Rattle.strings.specs.Types.{Call, Group, Stage, Kind, WriteAddress, WriteByte, ReadAddress, TickCount, ResultChannel, ResultCount, PinLevel, WordAddress, WordValue, PulseChannel, Partial, Step, Order}
use Rattle.strings.specs.Group as group
use Rattle.strings.specs.Step.{More, Whole, Refused}
use Rattle.strings.specs.declared.order.Order.TheVariants.{Write, Read, Ticks, Tachometer, Pin, WriteWord, Pulse}
use Rattle.strings.specs.Number.{group_of}
use Rattle.strings.specs.Record.{write_kind, read_kind, ticks_kind, tachometer_kind, pin_kind, write_word_kind, pulse_kind, begun, blank, kind_of, number_of, group_taken, step_of}
use Rattle.strings.specs.String.{Front, whole, end, refused, stepped, record_from, front_of}
use Rattle.strings.specs.Encode.{bytes_within, number_bytes, numbers_bytes, numbers_of, encoded, order_of}
use Rattle.strings.specs.Trips.{Number, number, no_number, grouped, number_from, number_in, below, front_by, is_held, RoundTrips}
use Rattle.strings.proofs.Stages.{earlier, by_kind}
use Rattle.strings.proofs.Fronts.{is_whole, rest_of, from-ahead}
use Rattle.strings.proofs.NumberTrips.{number-written, number_read}

-- ---- number by number

-- what a number, or its refusal, makes of a record at a stage
abbrev on_number : Stage → Number → Front
on_number stage (number n rest) = stepped (number_of stage n) rest (λ q. record_from q rest)
on_number stage (no_number refusal) = refused refusal

number-first : (stage : Stage) (k acc : ℕ) (string : List ℕ) →
    record_from (record { stage = stage; groups = k; value = acc }) string ≡ on_number stage (number_from k acc string)
unfolding record_from number_from step_of
number-first stage k acc [] = refl
number-first stage k acc (byte ∷ string) = by (λ v. number-first stage (k + 1) v string) (group_of k acc byte)
  where
    by : ((v : ℕ) → record_from (record { stage = stage; groups = k + 1; value = v }) string ≡ on_number stage (number_from (k + 1) v string)) →
        (g : Group) → stepped (group_taken (record { stage = stage; groups = k; value = acc }) g) string (λ q. record_from q string)
        ≡ on_number stage (grouped g string (λ v. number_from (k + 1) v string))
    by on (group.More v) = on v
    by on (group.Last n) = refl
    by on (group.Refused refusal) = refl

-- ---- written, and read back

number-taken : (stage : Stage) (n : ℕ) → ltb n (2 ^ 32) ≡ true → (rest : List ℕ) →
    record_from (begun stage) (number_bytes n ++ rest) ≡ stepped (number_of stage n) rest (λ q. record_from q rest)
number-taken stage n small rest = number-first stage 0 0 _ ∙ ap (on_number stage) (number-written n (ltb-true n (2 ^ 32) small) rest)

-- a number has a byte, so that the string has not ended
begins : (n : ℕ) (rest : List ℕ) → front_of (number_bytes n ++ rest) ≡ record_from blank (number_bytes n ++ rest)
unfolding number_bytes bytes_within front_of
begins n rest = by (ltb n 128)
  where
    by : (t : Bool) → front_of ((if t then n ∷ [] else (128 + n % 128) ∷ bytes_within 4 (n / 128)) ++ rest)
        ≡ record_from blank ((if t then n ∷ [] else (128 + n % 128) ∷ bytes_within 4 (n / 128)) ++ rest)
    by true = refl
    by false = refl

module _ (rest : List ℕ) where
  -- the numbers after one, read from a stage on
  abbrev numbers_read : Stage → List ℕ → Front
  numbers_read stage numbers = record_from (begun stage) (numbers_bytes numbers ++ rest)

  numbers-taken : (stage : Stage) (n : ℕ) (numbers : List ℕ) → ltb n (2 ^ 32) ≡ true →
      numbers_read stage (n ∷ numbers) ≡ stepped (number_of stage n) (numbers_bytes numbers ++ rest) (λ q. record_from q (numbers_bytes numbers ++ rest))
  unfolding numbers_bytes
  numbers-taken stage n numbers small = rw append_assoc (number-taken stage n small (numbers_bytes numbers ++ rest))

  front-taken : (n : ℕ) (numbers : List ℕ) → front_of (numbers_bytes (n ∷ numbers) ++ rest) ≡ numbers_read Kind (n ∷ numbers)
  unfolding numbers_bytes
  front-taken n numbers = rw append_assoc (begins n (numbers_bytes numbers ++ rest))

  judged : (t : Bool) (c : Call) (refusal : ℕ) (on : Partial → Front) →
      stepped (if t then Whole c else Refused refusal) rest on ≡ (if t then whole c rest else refused refusal)
  judged true c refusal on = refl
  judged false c refusal on = refl

  order-written : (order : Order) → below (2 ^ 32) (numbers_of order) ≡ true → front_of (encoded order ++ rest) ≡ front_by order rest
  unfolding encoded numbers_bytes number_of kind_of
  order-written (Write address value) h =
      let a = and_left (ltb address (2 ^ 32)) _ h in
      let v = and_left (ltb value (2 ^ 32)) true (and_right (ltb address (2 ^ 32)) _ h) in
      front-taken write_kind (address ∷ value ∷ []) ∙ numbers-taken Kind write_kind (address ∷ value ∷ []) refl ∙ numbers-taken WriteAddress address (value ∷ []) a ∙
      numbers-taken (WriteByte address) value [] v ∙ judged (ltb value 256) _ _ _
  order-written (Read address) h =
      front-taken read_kind (address ∷ []) ∙ numbers-taken Kind read_kind (address ∷ []) refl ∙ numbers-taken ReadAddress address [] (and_left (ltb address (2 ^ 32)) true h)
  order-written (Ticks n) h = front-taken ticks_kind (n ∷ []) ∙ numbers-taken Kind ticks_kind (n ∷ []) refl ∙ numbers-taken TickCount n [] (and_left (ltb n (2 ^ 32)) true h)
  order-written (Tachometer channel count) h =
      let a = and_left (ltb channel (2 ^ 32)) _ h in
      let v = and_left (ltb count (2 ^ 32)) true (and_right (ltb channel (2 ^ 32)) _ h) in
      front-taken tachometer_kind (channel ∷ count ∷ []) ∙ numbers-taken Kind tachometer_kind (channel ∷ count ∷ []) refl ∙ numbers-taken ResultChannel channel (count ∷ []) a ∙
      numbers-taken (ResultCount channel) count [] v
  order-written (Pin level) h =
      front-taken pin_kind (level ∷ []) ∙ numbers-taken Kind pin_kind (level ∷ []) refl ∙ numbers-taken PinLevel level [] (and_left (ltb level (2 ^ 32)) true h) ∙
      judged (ltb level 2) _ _ _
  order-written (WriteWord address word) h =
      let a = and_left (ltb address (2 ^ 32)) _ h in
      let v = and_left (ltb word (2 ^ 32)) true (and_right (ltb address (2 ^ 32)) _ h) in
      front-taken write_word_kind (address ∷ word ∷ []) ∙ numbers-taken Kind write_word_kind (address ∷ word ∷ []) refl ∙ numbers-taken WordAddress address (word ∷ []) a ∙
      numbers-taken (WordValue address) word [] v ∙ judged (ltb word 65536) _ _ _
  order-written (Pulse channel) h =
      front-taken pulse_kind (channel ∷ []) ∙ numbers-taken Kind pulse_kind (channel ∷ []) refl ∙ numbers-taken PulseChannel channel [] (and_left (ltb channel (2 ^ 32)) true h)

  -- a byte and a word are below 2 ^ 32 too
  small-too : (limit n : ℕ) → limit ≤ 65536 → ltb n limit ≡ true → ltb n (2 ^ 32) ≡ true
  small-too limit n few h = lt-ltb n (2 ^ 32) (omega (arith, ltb-true n limit h))

  call-written : (c : Call) → is_held c ≡ true → front_of (encoded (order_of c) ++ rest) ≡ whole c rest
  unfolding order_of
  call-written (call.Write address byte) h =
      let small = and_right (ltb address (2 ^ 32)) (ltb byte 256) h in
      order-written (Write address byte) (rw (and_left (ltb address (2 ^ 32)) (ltb byte 256) h, small-too 256 byte (omega arith) small) refl) ∙ rw small refl
  call-written (call.Read address) h = order-written (Read address) (rw h refl)
  call-written (call.Ticks n) h = order-written (Ticks n) (rw h refl)
  call-written (call.Tachometer channel count) h =
      order-written (Tachometer channel count)
      (rw (and_left (ltb channel (2 ^ 32)) (ltb count (2 ^ 32)) h, and_right (ltb channel (2 ^ 32)) (ltb count (2 ^ 32)) h) refl)
  call-written (call.Pin true) h = order-written (Pin 1) refl
  call-written (call.Pin false) h = order-written (Pin 0) refl
  call-written (call.WriteWord address word) h =
      let small = and_right (ltb address (2 ^ 32)) (ltb word 65536) h in
      order-written (WriteWord address word) (rw (and_left (ltb address (2 ^ 32)) (ltb word 65536) h, small-too 65536 word (omega arith) small) refl) ∙ rw small refl
  call-written (call.Pulse channel) h = order-written (Pulse channel) (rw h refl)

-- ---- read, and what was read is what is written

-- a step after a number has the numbers so far: at the stage that begins, or as the record of its call
abbrev Has : List ℕ → Step → Type 0
Has numbers (More p) = (p ≡ begun p.stage) × (earlier p.stage ≡ numbers)
Has numbers (Whole c) = numbers_of (order_of c) ≡ numbers
Has numbers (Refused refusal) = Unit {0}

level-is : (n : ℕ) → ltb n 2 ≡ true → flag (eqb n 1) ≡ n
level-is n h =
    choice (λ x. x ≡ n) (eqb n 1) 1 0 (λ e. sym (eqb-true n 1 e)) (λ e. let other = eqb-false n 1 e in omega (arith, ltb-true n 2 h, other))

number-has : (stage : Stage) (n : ℕ) → Has (earlier stage ++ (n ∷ [])) (number_of stage n)
unfolding number_of order_of
number-has Kind n = by_kind (Has (n ∷ [])) n (λ stage e. (refl, e)) tt
number-has WriteAddress n = (refl, refl)
number-has (WriteByte address) n = choice (Has (write_kind ∷ address ∷ n ∷ [])) (ltb n 256) _ _ (λ _. refl) (λ _. tt)
number-has ReadAddress n = refl
number-has TickCount n = refl
number-has ResultChannel n = (refl, refl)
number-has (ResultCount channel) n = refl
number-has PinLevel n = choice (Has (pin_kind ∷ n ∷ [])) (ltb n 2) _ _ (λ h. rw (level-is n h) refl) (λ _. tt)
number-has WordAddress n = (refl, refl)
number-has (WordValue address) n = choice (Has (write_word_kind ∷ address ∷ n ∷ [])) (ltb n 65536) _ _ (λ _. refl) (λ _. tt)
number-has PulseChannel n = refl

numbers-append : (a b : List ℕ) (rest : List ℕ) → numbers_bytes (a ++ b) ++ rest ≡ numbers_bytes a ++ (numbers_bytes b ++ rest)
unfolding numbers_bytes
numbers-append a b rest = rw (flat_map-append, append_assoc)

one_number : (n : ℕ) (rest : List ℕ) → numbers_bytes (n ∷ []) ++ rest ≡ number_bytes n ++ rest
unfolding numbers_bytes
one_number n rest = ap (λ x. x ++ rest) (append-nil (number_bytes n))

number-long : (n : ℕ) → 1 ≤ length (number_bytes n)
unfolding number_bytes bytes_within
number-long n = choice (λ (x : List ℕ). 1 ≤ length x) (ltb n 128) _ _ (λ _. omega arith) (λ _. omega arith)

abbrev order_in : Front → Order
order_in (whole c rest) = order_of c
order_in end = Pin 0
order_in (refused refusal) = Pin 0

module _ (c : Call) (rest : List ℕ) where
  abbrev ReadFrom : ℕ → Type 0
  ReadFrom k = (stage : Stage) (string : List ℕ) → length string ≤ k → below 256 string ≡ true → record_from (begun stage) string ≡ whole c rest →
      numbers_bytes (earlier stage) ++ string ≡ encoded (order_of c) ++ rest

  module _ (k : ℕ) (shorter : ReadFrom k) (stage : Stage) (n : ℕ) (left : List ℕ) (fits : length left ≤ k) (small : below 256 left ≡ true) where
    by-step : (t : Step) → Has (earlier stage ++ (n ∷ [])) t → stepped t left (λ q. record_from q left) ≡ whole c rest →
        numbers_bytes (earlier stage ++ (n ∷ [])) ++ left ≡ encoded (order_of c) ++ rest
    unfolding encoded
    by-step (More p) (begins-anew, has) e =
        ap (λ x. numbers_bytes x ++ left) (sym has) ∙ shorter p.stage left fits small (ap (λ q. record_from q left) (sym begins-anew) ∙ e)
    by-step (Whole d) has e =
        ap (λ x. numbers_bytes x ++ left) (sym has) ∙ ap (λ x. numbers_bytes (numbers_of (order_in x)) ++ rest_of x) e
    by-step (Refused refusal) has e = absurd (false≢true (ap is_whole e))

  read-from : (k : ℕ) → ReadFrom k
  read-from zero stage string fits small e = let a = from-ahead c rest (begun stage) string e in absurd (omega (arith, a.enough, a.within, fits))
  read-from (suc k) stage string fits small e = by (read-from k) (number_in string) refl (sym (number-first stage 0 0 string) ∙ e)
    where
      by : ReadFrom k → (m : Number) → number_in string ≡ m → on_number stage m ≡ whole c rest →
          numbers_bytes (earlier stage) ++ string ≡ encoded (order_of c) ++ rest
      by shorter (number n left) is h =
          let spelled = (number_read string small n left is).0 in
          let long : length string ≡ length (number_bytes n) + length left = ap length spelled ∙ length-append (number_bytes n) left in
          let fewer : length left ≤ k = omega (arith, long, number-long n, fits) in
          let bytes : below 256 left ≡ true = and_right _ _ (sym (list_all-append _ (number_bytes n) left) ∙ ap (below 256) (sym spelled) ∙ small) in
          ap (λ x. numbers_bytes (earlier stage) ++ x) (spelled ∙ sym (one_number n left)) ∙ sym (numbers-append (earlier stage) (n ∷ []) left) ∙
          by-step k shorter stage n left fewer bytes (number_of stage n) (number-has stage n) h
      by shorter (no_number refusal) is h = absurd (false≢true (ap is_whole h))

record-read : (string : List ℕ) → below 256 string ≡ true → (c : Call) (rest : List ℕ) → front_of string ≡ whole c rest → string ≡ encoded (order_of c) ++ rest
unfolding front_of numbers_bytes
record-read [] small c rest e = absurd (false≢true (ap is_whole e))
record-read (byte ∷ string) small c rest e = read-from c rest (length (byte ∷ string)) Kind (byte ∷ string) (omega arith) small e

-- ---- both ways

pub round-trips : RoundTrips
round-trips =
    record {
      number-written = number-written;
      number_read = number_read;
      order-written = λ order small rest. order-written rest order small;
      call-written = λ c held rest. call-written rest c held;
      record-read = record-read;
    }
