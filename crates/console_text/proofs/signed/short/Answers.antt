-- Both halves of the 16 bits, read as two's complement.
use Rattle.std.proofs.Common.{◌∙◌}
use Rattle.console_text.proofs.Integers.{short-bits, short-read}
use Rattle.console_text.proofs.signed.short.Goals as goal

pub returns : goal.returns
returns c = short-read c.args.bits (c.cast_signed.ensures ∙ short-bits c.args.bits)
