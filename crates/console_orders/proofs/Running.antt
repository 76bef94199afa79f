-- A run as the answer to a line, and a record.
use Prim.Native.Nat.{ℕ, ◌≤◌, min}
use mathlib.Core.Path.{◌≡◌, refl, ap, ◌∙◌}
use mathlib.Core.List.{List, [], ◌∷◌, ◌++◌}
use native.Mathlib.Omega.{arith}
use lib.ListN.{length, take, drop, length-append, length-drop}
use lib.Seq.{take_at}
use Rattle.rules.specs.declared.State.{State}
use Rattle.rules.specs.Calls.{state_not_valid}
use Rattle.strings.specs.declared.order.Order.{Order}
use Rattle.strings.specs.Types.{RunAnswer}
use Rattle.strings.specs.Encode.{encoded}
use Rattle.strings.specs.Run.{answers_too_short, Ran, ran, run_on, Given, given, ended, run_of}
use Rattle.std.specs.Prelude.{Option, Some, Result, Ok}
use Rattle.strings.specs.declared.Found.{Found}
use Rattle.strings.specs.declared.refusal.StringRefusal.{StringRefusal}
use Rattle.strings.specs.String.{record_at}
use Rattle.strings.specs.Refusals.{found_by}
use Rattle.strings.proofs.Fronts.{FoundAhead, record-ahead}
use Rattle.strings.proofs.Parts.{of-each-way}
use Rattle.encode.proofs.Lengths.{record-length}
use Rattle.lent.specs.Put.{Put}
use Rattle.lent.specs.Values.{number}
use Rattle.lent.proofs.Stores.{put-with-room}
use Rattle.lent.proofs.Parts.{take_min}
use Rattle.console_outcome.specs.declared.hand.Hand.{Hand}
use Rattle.console_outcome.specs.Outcome.{with_state, Told, tells_bytes}
use Rattle.console_orders.specs.Packets.{ran_told, run_told, encode_told}

-- the answer bytes lie in the buffer, which is as long as it was
ended-within : (r : Ran) (before : List ℕ) (g : Given) → g ≡ ended r before → length g.buffer ≡ length before → g.answer.answered ≤ length before
ended-within r before g e same =
    let answered : g.answer.answered ≡ length r.answers = ap (λ (x : Given). x.answer.answered) e in
    omega (arith, simp (length-append, length-drop) at (ap (λ (x : Given). length x.buffer) e))

pub answered-within : (s : State) (string : List ℕ) (allowance : ℕ) (before after : List ℕ) (answer : RunAnswer) →
    given answer after ≡ run_of s string allowance before → length after ≡ length before → answer.answered ≤ length before
answered-within s string allowance before after answer e same =
    let done : (r : Ran) → given answer after ≡ ended r before → answer.answered ≤ length before =
    λ r h. ended-within r before (given answer after) h same in
    of-each-way (λ x. given answer after ≡ x → answer.answered ≤ length before) s string allowance before
    (done (ran state_not_valid 0 [] s)) (λ _ _. done (ran answers_too_short 0 [] s)) (λ _ _. done (run_on allowance s string)) e

-- a run by the values of a line, whose answers stand at the front of the buffer
pub run-told : (hand : Hand) (v bytes buffer : List ℕ) {allowance room : ℕ} {string after : List ℕ} {answer : RunAnswer} {next : Hand} {says : Told} →
    string ≡ take (number v 0) bytes → allowance ≡ number v 1 → room ≡ min (number v 2) (length buffer) →
    given answer after ≡ run_of hand.state string allowance (take room buffer) → length after ≡ room → next ≡ with_state hand answer.state →
    says ≡ tells_bytes next (answer.refusal ∷ answer.taken ∷ answer.answered ∷ []) (take room (after ++ drop room buffer)) →
    says ≡ run_told hand v bytes buffer
run-told hand v bytes buffer {allowance} {room} {string} {after} {answer} string-is allowed room-is r long next-is t =
    let answers : take room buffer ≡ take (number v 2) buffer = rw room-is (take_min (number v 2) buffer) in
    let ran = rw (string-is, allowed, answers) at r in
    rw (take_at after (drop room buffer) room long, next-is) at t ∙ ap (ran_told hand) ran

-- a buffer of eleven bytes holds a record
record-put : (order : Order) {before after : List ℕ} {next : ℕ} → 11 ≤ length before → Put (encoded order) 0 before after next →
    take next after ≡ encoded order
record-put order {before} {after} {next} long p =
    let room = put-with-room p (omega (arith, record-length order)) in
    let all : length (encoded order) ≡ next = omega (arith, room.1) in
    rw room.0 (take_at (encoded order) _ next all)

pub record-told : (hand : Hand) (order : Order) {before after : List ℕ} {next : ℕ} {says : Told} → 11 ≤ length before →
    Put (encoded order) 0 before after next → says ≡ tells_bytes hand [] (take next after) → says ≡ encode_told hand order
record-told hand order long p t = rw (record-put order long p) at t

-- a record that is found lies ahead, within the string
pub found-ahead : (string : List ℕ) (at : ℕ) {found : Result (Option Found) StringRefusal} {known : Option Found} {one : Found} →
    found_by found ≡ record_at string at → found ≡ Ok known → known ≡ Some one → FoundAhead string at one.call one.next
found-ahead string at {found} {known} {one} e is here =
    record-ahead string at (found_by found) e one.call one.next (rw (is, here) refl)
