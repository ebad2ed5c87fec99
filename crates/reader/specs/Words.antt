-- How each name is spelt, and what it means.
use Rattle.std.specs.Prelude.{ℕ, List, codes}
use Rattle.model.specs.declared.Label.TheVariants as label
use Rattle.grammar.specs.declared.Symbol.{Symbol}
use Rattle.grammar.specs.declared.Symbol.TheVariants as symbol
use Rattle.reader.specs.declared.word.Word.{Word}
use Rattle.reader.specs.declared.word.Word.TheVariants.{Free, Badge, Pin, Turn, Lift, Fire, Dock, Stair, Any, Empty}

-- The letters of a name.
abbrev pub spelling : Word → List ℕ
spelling Free = codes "free"
spelling Badge = codes "badge"
spelling Pin = codes "pin"
spelling Turn = codes "turn"
spelling Lift = codes "lift"
spelling Fire = codes "fire"
spelling Dock = codes "dock"
spelling Stair = codes "stair"
spelling Any = codes "any"
spelling Empty = codes "empty"

-- The symbol of a name: the kinds by their numbers, `any` and `empty`.
abbrev pub meaning : Word → Symbol
meaning Free = symbol.Name (label.Kind 0)
meaning Badge = symbol.Name (label.Kind 1)
meaning Pin = symbol.Name (label.Kind 2)
meaning Turn = symbol.Name (label.Kind 3)
meaning Lift = symbol.Name (label.Kind 4)
meaning Fire = symbol.Name (label.Kind 5)
meaning Dock = symbol.Name (label.Kind 6)
meaning Stair = symbol.Name (label.Kind 7)
meaning Any = symbol.Name label.Any
meaning Empty = symbol.Empty
