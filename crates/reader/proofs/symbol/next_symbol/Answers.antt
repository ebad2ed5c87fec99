use Rattle.std.proofs.Common.{◌∙◌, subst}
use Rattle.reader.specs.Tokens.{TokenAt, named}
use Rattle.reader.proofs.symbol.next_symbol.Goals as goal

pub returns-in_ok-word-in-Name : goal.returns-in_ok-word-in-Name
returns-in_ok-word-in-Name c =
    let h = subst (λ t. TokenAt c.args.reader.now.text.now c.args.reader.now.at t c.in_ok-token.place c.next_token.new.self.at) c.in-Name.is c.in_ok-token.ensures.token in
    record { same = c.in_ok-token.ensures.same; symbol = named c.in_ok-word-in-Name.word h.0 (c.in_ok-word-in-Name.ensures ∙ h.1) c.into.ensures }
