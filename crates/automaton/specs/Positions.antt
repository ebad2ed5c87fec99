-- What a position fits, in tables of any automaton.
use Rattle.std.specs.Prelude.{ℕ, ◌<◌, ◌⊎◌, List, slice_index}
use Rattle.model.specs.declared.Label.{Label}
use Rattle.model.specs.declared.Label.TheVariants.{Kind, Any}
use Rattle.bits.specs.Bit.{Has}
use Rattle.automaton.specs.Run.{Set}

-- The position q fits the kind k.
abbrev pub FitAt : List ℕ → ℕ → ℕ → Set
FitAt fits any k q = Has (slice_index fits k) q ⊎ Has any q

-- A label that a text can have: one of the eight kinds, or `any`.
abbrev pub Known : Label → Type 0
Known (Kind k) = k < 8
Known Any = Unit {0}
