-- An output duty is 0 to 511 in every valid state, so that its register word shows it.
use Prim.Native.Nat.{ℕ, ◌<◌}
use mathlib.Core.Path.{◌≡◌}
use mathlib.Core.Bool.{true, not, ◌&&◌}
use lib.Dec.{ltb, leb, eqb, lit<}
use borrow.Author.Tests.{ltb-true}
use Rattle.laws.proofs.Types.{Channel, State, Conditions, Option, None, Some}
use Rattle.rules.specs.State.{channel}
use Rattle.rules.specs.Registers.{monitor_only}
use Rattle.rules.specs.Duty.{conditions_of, override_by, override_of, duty_under, output_duty}
use Rattle.rules.specs.Valid.{valid_of}
use Rattle.rules.proofs.Tests.{choice}
use Rattle.laws.proofs.Valid.{parts, parts-of-channel, four}

-- a duty that an override forces
InRange : Option ℕ → Type 0
InRange None = Unit {0}
InRange (Some duty) = duty < 512

override-in-range : (k : Conditions) (ch : Channel) → InRange (override_of k ch)
unfolding override_by InRange
override-in-range k ch =
    choice InRange (monitor_only ch.config) _ _ (λ e. lit< tt) λ e.
    choice InRange (not k.pin) _ _ (λ e. lit< tt) λ e.
    choice InRange k.standby _ _ (λ e. lit< tt) λ e.
    choice InRange k.expired _ _ (λ e. lit< tt) λ e.
    choice InRange (eqb k.option 0 && ch.fault) _ _ (λ e. lit< tt) λ e.
    choice InRange (eqb k.option 2 && ch.fault) _ _ (λ e. lit< tt) λ e.
    choice InRange (eqb k.option 3 && k.faulty) _ _ (λ e. lit< tt) (λ e. tt)

duty-in-range : (o : Option ℕ) (ch : Channel) → InRange o → ch.ramp < 512 → duty_under o ch < 512
unfolding InRange
duty-in-range None ch h l = choice (λ d. d < 512) (ltb 0 ch.spin) 511 ch.ramp (λ e. lit< tt) (λ e. l)
duty-in-range (Some duty) ch h l = h

pub output-duty-lt : (s : State) (i : ℕ) → valid_of s ≡ true → output_duty (conditions_of s) (channel s i) < 512
unfolding output_duty
output-duty-lt s i e =
    let ch = channel s i in
    let p = parts-of-channel _ s.channels i (parts s e).channels in
    duty-in-range (override_of (conditions_of s) ch) ch (override-in-range (conditions_of s) ch)
    (ltb-true ch.ramp 512 (four (ltb ch.ramp 512) (leb ch.spin 1024) _ _ p.motion).0)
