-- A number as the set of the places of its bits.
use Rattle.std.specs.Prelude.{◌≡◌, Bool, ℕ, ◌/◌, ◌%◌, ◌^◌, eqb}

-- Bit q of the mask m is set.
abbrev pub Has : ℕ → ℕ → Type 0
Has m q = m / 2 ^ q % 2 ≡ 1

-- The same as a test.
abbrev pub has_bit : ℕ → ℕ → Bool
has_bit m q = eqb (m / 2 ^ q % 2) 1
