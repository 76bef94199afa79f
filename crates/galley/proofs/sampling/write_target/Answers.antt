-- The word goes where the call would put it.
use Rattle.std.proofs.Common.{◌≡◌, sym, ◌∙◌, lt-ltb}
use mathlib.Core.Path.{ap}
use Rattle.rules.specs.declared.WordRegister.TheVariants.{Target}
use Rattle.laws.proofs.Targets.{word-written}
use Rattle.galley.proofs.sampling.write_target.Goals as goal

pub returns : goal.returns
returns c =
    let made = rw (lt-ltb c.args.i 6 c.requires.1) at c.new.ensures in
    let told : c.unwrap-channel.result ≡ c.args.i = cc in
    rw told at c.write_own.ensures
    ∙ sym (ap (λ a. a.state) (word-written c.args.state Target c.args.i c.args.word c.requires.0 c.requires.1))
