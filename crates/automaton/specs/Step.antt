-- One step of the automaton, as a number.
use Rattle.std.specs.Prelude.{ℕ, zero, suc, ◌/◌, ◌^◌, cond, List, length, ◌==◌, bit_and, bit_or, slice_index}
use Rattle.automaton.specs.declared.Automaton.{Automaton}

-- The union of those of the first n rows that the mask has.
unfoldable pub gather : List ℕ → ℕ → ℕ → ℕ
gather rows mask zero = 0
gather rows mask (suc n) = cond (bit_and (mask / 2 ^ n) 1 == 1) (bit_or (gather rows mask n) (slice_index rows n)) (gather rows mask n)

-- The states that follow those of the mask and fit the kind and the mark.
unfoldable pub stepped : Automaton → ℕ → ℕ → ℕ → ℕ
stepped a mask kind mark = bit_and (bit_and (gather a.follow mask (length a.follow)) (bit_or (slice_index a.fits kind) a.any)) (slice_index a.marked mark)
