-- The class of a byte, by ranges.
use Rattle.std.specs.Prelude.{ℕ, Bool, false, cond, ◌||◌, ◌==◌, nat_le}
use Rattle.reader.specs.declared.class.Class.{Class}
use Rattle.reader.specs.declared.class.Class.TheVariants.{Refused, Space, Small, Capital, Sign}

-- The byte is one from lo to hi.
abbrev pub within : ℕ → ℕ → ℕ → Bool
within lo hi b = cond (nat_le lo b) (nat_le b hi) false

-- The byte is one of the signs ( ) * + ? ^ |.
abbrev pub is_sign : ℕ → Bool
is_sign b = within 40 43 b || (b == 63 || (b == 94 || b == 124))

-- A space; a to z; A to H; a sign; every other byte is refused.
abbrev pub class_of : ℕ → Class
class_of b = cond (b == 32) Space (cond (within 97 122 b) Small (cond (within 65 72 b) Capital (cond (is_sign b) Sign Refused)))

-- A number for each class, by which classes are told apart.
abbrev pub class_number_lem : Class → ℕ
class_number_lem Refused = 0
class_number_lem Space = 1
class_number_lem Small = 2
class_number_lem Capital = 3
class_number_lem Sign = 4
