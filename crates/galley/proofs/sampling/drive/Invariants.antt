-- What is left to do from here on leaves what all of it leaves from the start, and the state stays valid.
use Rattle.std.proofs.Common.{◌≡◌, true}
use Rattle.rules.specs.Valid.{valid_of}
use Rattle.rules.specs.Make.{after_each, targets}
use Rattle.galley_rules.specs.Sample.{calls_from}
use Rattle.galley_rules.proofs.Drive.{left_from}
use Rattle.galley.proofs.sampling.drive.Given as goal

abbrev pub invariant-loop-i : goal.invariant-loop-i
invariant-loop-i l =
    (valid_of l.state ≡ true)
    × (after_each l.state (left_from l.duty l.target-items l.i) ≡ after_each l.fn.state (calls_from l.duty 0 (targets l.fn.state)))
