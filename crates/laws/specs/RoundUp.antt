-- "the round-up of a / t": the least number q with a ≤ q * t, for t at least 1.
use Rattle.std.specs.Prelude.{ℕ, ◌+◌, ◌-◌, ◌/◌}

unfoldable pub up : ℕ → ℕ → ℕ
up a t = (a + (t - 1)) / t
