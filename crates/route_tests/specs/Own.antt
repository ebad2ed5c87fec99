-- Two rules of one's own.
use Rattle.std.specs.Prelude.{false, not, ◌&&◌, ◌||◌, ◌==◌, nat_lt}
use Rattle.model.specs.Routes.{len}
use Rattle.model.specs.Rules.{RuleMeaning, trail}

-- No step at all.
abbrev pub nowhere : RuleMeaning
nowhere = record { permits = λ r p z. false; greatest = 0 }

-- A trail that does not enter the lifts' zones 5 and 6 after its third step. The length that it states is more than a
-- route can have.
abbrev pub lifts_early : RuleMeaning
lifts_early = record { permits = λ r p z. trail.permits r p z && (nat_lt (len r) 3 || not (z == 5 || z == 6)); greatest = 1000 }
