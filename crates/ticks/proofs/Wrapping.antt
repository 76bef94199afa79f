-- The clock of a channel's ticks may wrap before them: each is at the remainder of its clock.
use Rattle.std.proofs.Common.{◌≡◌, ℕ, zero, suc, ◌+◌, ◌%◌, ◌^◌, Bool, refl, sym, ap, ◌∙◌, arith}
use Rattle.rules.specs.declared.Channel.{Channel}
use Rattle.rules.specs.Tick.{channel_tick}
use Rattle.laws.proofs.ChannelTicks.{channel_ticks}

pub ticks-wrapped : (held : Bool) (m t : ℕ) (ch : Channel) → channel_ticks held m (t % 2 ^ 32) ch ≡ channel_ticks held m t ch
unfolding channel_ticks
ticks-wrapped held zero t ch = refl
ticks-wrapped held (suc m) t ch =
    let same : (t % 2 ^ 32 + 1) % 2 ^ 32 ≡ (t + 1) % 2 ^ 32 = omega arith in
    sym (ticks-wrapped held m (t % 2 ^ 32 + 1) (channel_tick held ((t % 2 ^ 32 + 1) % 2 ^ 32) ch))
    ∙ ap (λ c. channel_ticks held m c (channel_tick held c ch)) same
    ∙ ticks-wrapped held m (t + 1) (channel_tick held ((t + 1) % 2 ^ 32) ch)
