-- The bits come in from the last channel's on.
use Rattle.std.proofs.Common.{◌≡◌, ◌∙◌, ◌*◌, ◌+◌, ◌%◌, reverse, fold, rules, arith}
use Rattle.rules.specs.Basics.{flag}
use Rattle.laws.proofs.Types.{Channel}
use Rattle.laws.proofs.Faults.{fault-byte-folded}
use Rattle.device.proofs.duty.fault_byte.Goals as goal

pub returns : goal.returns
returns c =
    let folded : c.fold.result ≡ fold (λ byte (ch : Channel). byte * 2 % 256 + flag ch.fault) 0 (reverse c.args.channels) = search rules in
    folded ∙ fault-byte-folded c.args.channels (omega arith)
