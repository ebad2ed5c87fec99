-- The stack of levels.
use Rattle.std.specs.Prelude.{◌≡◌, ℕ, ◌+◌, ◌<◌, slice_index_or}
use Rattle.pattern.specs.Parts.{no_level}
use Rattle.pattern.specs.declared.levels.Level.{Level}
use Rattle.pattern.specs.declared.levels.Levels.{Levels}

-- The stack has one level more.
pub record Pushed (before after : Levels) (level : Level) : Type 0 where
  pub deeper : after.depth ≡ before.depth + 1
  pub top : slice_index_or after.held before.depth no_level ≡ level
  pub below : (k : ℕ) → k < before.depth → slice_index_or after.held k no_level ≡ slice_index_or before.held k no_level

-- The level was the innermost of the stack, and is taken off.
pub record Popped (before after : Levels) (level : Level) : Type 0 where
  pub shallower : before.depth ≡ after.depth + 1
  pub top : level ≡ slice_index_or before.held after.depth no_level
  pub below : after.held ≡ before.held
