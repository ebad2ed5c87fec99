use Rattle.std.proofs.lemmas.Result.{err_from_is_err_and}
use Rattle.listing.proofs.replays.replay.Goals as goal

pub returns : goal.returns
returns g c =
    let k = c.in_ok-pattern.ensures in
    record { tree = k.tree; gives = k.gives; replayed = c.in_ok-replies.ensures k.tree k.recognises }

pub returns-in_err-pattern : goal.returns-in_err-pattern
returns-in_err-pattern g c =
    let p = err_from_is_err_and c.from_residual.result c.from_residual.ensures.1 in
    rw (p.1, p.2) c.in_err-pattern.ensures

pub returns-in_err-replies : goal.returns-in_err-replies
returns-in_err-replies g c =
    let p = err_from_is_err_and c.from_residual-in_err-replies.result c.from_residual-in_err-replies.ensures.1 in
    rw (p.1, p.2) tt
