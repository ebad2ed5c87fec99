use Rattle.automaton.proofs.Steps.{accepts_meet, accepts_reads}
use Rattle.automaton.proofs.Automaton.accepts.Goals as goal

pub returns : goal.returns
returns c =
    let m = accepts_meet c.args.mask c.args.self.now.accept in
    record { meets = m; reads = accepts_reads c.args.self.now c.args.mask _ m }
