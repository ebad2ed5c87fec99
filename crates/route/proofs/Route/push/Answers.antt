use Rattle.std.proofs.Common.{arith}
use borrow.Author.Tests.{lt-true}
use Rattle.route.proofs.Views.{Room, track_push, routes_push}
use Rattle.route.proofs.Route.push.Goals as goal

pub returns : goal.returns
returns c =
    let r = c.args.self.now in
    let q = c.write.new.self in
    let room : Room r = record { passages = omega arith; zones = omega arith; marks = omega arith; masks = omega arith } in
    let h = track_push r q _ room c.write.ensures in
    record {
      told = lt-true _ _ (omega arith);
      track = λ _. h;
      route = λ _. routes_push q r _ h;
      full = λ l. absurd (omega arith);
    }
