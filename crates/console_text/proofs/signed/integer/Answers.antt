-- Both halves of the 32 bits, read as two's complement.
use Rattle.std.proofs.Common.{◌∙◌}
use Rattle.console_text.proofs.Integers.{integer-bits, integer-read}
use Rattle.console_text.proofs.signed.integer.Goals as goal

pub returns : goal.returns
returns c = integer-read c.args.bits (c.cast_signed.ensures ∙ integer-bits c.args.bits)
