use Rattle.std.proofs.Common.{◌≡◌, ◌∙◌, None, refl, arith, rules}
use Rattle.pattern.proofs.Parsers.{passed_on}
use Rattle.pattern.proofs.Turns.{first, again, refused, unread, ends, too_long}
use Rattle.pattern.proofs.compile.Goals as goal

pub returns-then-text-gt-LONGEST : goal.returns-then-text-gt-LONGEST
returns-then-text-gt-LONGEST c = too_long c.args.text.now c.if-text-gt-LONGEST.true

pub tokens-init : goal.tokens-init
tokens-init c = (c.new-reader.ensures.0, rw c.new-reader.ensures.1 (first c.args.text.now c.new-parser.result (omega arith) c.new-parser.ensures))

pub returns-in_err-symbol : goal.returns-in_err-symbol
returns-in_err-symbol c =
    rw (passed_on c.from_residual.result c.from_residual.ensures.1 refl) (unread c.args.text.now c.tokens.reader.at c.tokens.parser c.tokens.invariant.1 _ (rw c.tokens.invariant.0 at c.in_err-symbol.ensures.symbol))

pub tokens-preserved : goal.tokens-preserved
tokens-preserved c =
    let h = c.tokens.invariant.1 in
    let a = rw (c.tokens.invariant.0, c.in-Some-default.is-0) at c.in_ok-symbol.ensures.symbol in
    (c.in_ok-symbol.ensures.same ∙ c.tokens.invariant.0, again c.args.text.now c.tokens.reader.at c.tokens.parser h c.take.new.self c.in-Some-default.symbol _ _ a (c.in_ok-take.ensures _ _ _ _ _ h.shows))

pub returns-in_err-take : goal.returns-in_err-take
returns-in_err-take c =
    let a = rw (c.tokens.invariant.0, c.in-Some-default.is-0) at c.in_ok-symbol.ensures.symbol in
    let h = c.tokens.invariant.1 in
    rw (passed_on c.from_residual-in_err-take.result c.from_residual-in_err-take.ensures.1 refl) (refused c.args.text.now c.tokens.reader.at c.tokens.parser h _ c.in-Some-default.symbol _ _ a (c.in_err-take.ensures _ _ _ _ _ h.shows))

pub returns : goal.returns
returns c =
    let none : c.in_ok-symbol.field-0.0 ≡ None = search rules in
    let (e, _, _) = rw (c.tokens.invariant.0, none) at c.in_ok-symbol.ensures.symbol in
    ends c.args.text.now c.tokens.reader.at c.tokens.parser c.tokens.invariant.1 c.finish.result _ e refl c.finish.ensures
