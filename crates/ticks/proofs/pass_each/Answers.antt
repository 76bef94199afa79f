-- Jump by jump.
use Rattle.std.proofs.Common.{◌≡◌, suc, Result, Ok, Err, map, length, drop, refl, sym, ap, ◌∙◌, add-one, arith, drop-cons}
use Rattle.std.specs.Result.{result_unwrap_or}
use lib.Seq.{drop-length}
use Rattle.rules.specs.declared.State.{State}
use Rattle.rules.specs.declared.refusal.Refusal.{Refusal}
use Rattle.rules.specs.declared.Call.TheVariants.{Ticks}
use Rattle.rules.specs.Types.{Answer}
use Rattle.rules.specs.Calls.{accepted, answer, answer_by}
use Rattle.rules.specs.Make.{made, after_each, each_passed}
use Rattle.ticks.proofs.pass_each.Goals as goal

-- refused or not, the state of an answer goes on
goes-on : (s : State) (r : Result State Refusal) → result_unwrap_or r s ≡ (answer_by s r).state
goes-on s (Ok next) = refl
goes-on s (Err refusal) = refl

pub loop-ticks-preserved : goal.loop-ticks-preserved
unfolding made after_each
loop-ticks-preserved c = let l = c.loop-ticks in
    let elapsed = c.args.elapsed.now in
    let next = c.unwrap_or-last.ensures ∙ goes-on l.last c.pass_ticks.result ∙ ap (λ (a : Answer). a.state) c.pass_ticks.ensures in
    rw add-one
    (ap (λ s. after_each s (map Ticks (drop (suc l.ticks-index) elapsed))) next
    ∙ sym (ap (λ xs. after_each l.last (map Ticks xs)) (drop-cons elapsed l.ticks-index 0 c.loop-ticks-test.true)) ∙ l.invariant)

pub returns : goal.returns
unfolding after_each each_passed
returns c = let l = c.loop-ticks in
    let elapsed = c.args.elapsed.now in
    let all : l.ticks-index ≡ length elapsed = omega arith in
    let none = ap (λ n. drop n elapsed) all ∙ drop-length elapsed in
    rw (sym c.valid.ensures ∙ c.if-not-valid.false) (ap (answer accepted) (sym (ap (λ xs. after_each l.last (map Ticks xs)) none) ∙ l.invariant))
