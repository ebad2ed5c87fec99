use Rattle.pattern.proofs.Parsers.{kept_self, joined_none, joined_some}
use Rattle.pattern.proofs.levels.Level.joined.Goals as goal

pub returns-in-None : goal.returns-in-None
returns-in-None c = (kept_self c.args.automaton.now, λ lo mid q t h l m. joined_none c.args.automaton.now c.args.item lo mid q t (rw c.in-None.is at h) m)

pub returns-in-Some : goal.returns-in-Some
returns-in-Some c = (
  c.sequence.ensures.same,
  λ lo mid q t h. joined_some c.args.automaton.now c.sequence.new.self c.in-Some.before c.args.item _ c.sequence.ensures.same.count c.sequence.ensures.built lo mid q t (rw c.in-Some.is at h),
)
