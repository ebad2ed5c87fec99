use Rattle.std.proofs.Common.{◌≡◌, ℕ, ◌<◌, length, get_or, None}
use Rattle.plan.specs.Filed.{body_below_lem}
use Rattle.plan.proofs.bytes.PlanFile.index.Given as goal

abbrev pub invariant-loop-body : goal.invariant-loop-body
invariant-loop-body l = (length l.index ≡ 256) × ((n : ℕ) → n < 256 → get_or l.index n None ≡ body_below_lem l.self.bytes.now n l.body)
