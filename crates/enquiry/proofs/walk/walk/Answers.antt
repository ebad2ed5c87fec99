use Rattle.std.proofs.Common.{◌≡◌, ◌<◌, ◌*◌, ◌+◌, [], length, get_or, sym, ap, ◌∙◌, arith, slice_range}
use borrow.Author.Tests.{clash}
use Rattle.std.specs.Simd.{first_chunks}
use Rattle.route.specs.Reading.{track_of}
use Rattle.enquiry.proofs.Chunks.{step_at, counted}
use Rattle.enquiry.proofs.Ways.{begins, goes_on_by, stuck_by, no_end}
use Rattle.enquiry.proofs.walk.walk.Goals as goal

pub loop-passage-init : goal.loop-passage-init
loop-passage-init g c = begins _ _ _ _ _ _ _ c.new-route.result (c.new-route.ensures.0 ∙ c.start.ensures) c.new-route.ensures.1 (omega arith) (omega (arith, c.new-route.ensures.0, c.start.ensures))

pub returns-then-not-tread : goal.returns-then-not-tread
returns-then-not-tread g c =
    let ws = c.args.words.now in
    let n = get_or ws 0 0 in
    let i = c.loop-passage.passage-index in
    let cs = c.as_chunks.result.0.now in
    let k = counted ws n c.requires.long in
    let f = c.as_chunks.ensures.front ∙ ap (λ m. first_chunks 3 m (slice_range ws 2 (2 + 3 * n))) k in
    let t : i < length cs = c.loop-passage-test.true in
    let l : i < n = omega (arith, t, c.as_chunks.ensures.front_len, k) in
    stuck_by _ _ _ _ _ _ ws (get_or (get_or cs i []) 0 0) (get_or (get_or cs i []) 1 0) (get_or (get_or cs i []) 2 0) i
    (step_at ws n cs i 0 (2 + 3 * i) f l (omega arith) (omega arith)) (step_at ws n cs i 1 (3 + 3 * i) f l (omega arith) (omega arith)) (step_at ws n cs i 2 (4 + 3 * i) f l (omega arith) (omega arith))
    (track_of c.loop-passage.route) (track_of c.tread.new.route) l c.requires.long c.loop-passage.invariant c.if-not-tread.ensures

pub loop-passage-preserved : goal.loop-passage-preserved
loop-passage-preserved g c =
    let ws = c.args.words.now in
    let n = get_or ws 0 0 in
    let i = c.loop-passage.passage-index in
    let cs = c.as_chunks.result.0.now in
    let k = counted ws n c.requires.long in
    let f = c.as_chunks.ensures.front ∙ ap (λ m. first_chunks 3 m (slice_range ws 2 (2 + 3 * n))) k in
    let t : i < length cs = c.loop-passage-test.true in
    let l : i < n = omega (arith, t, c.as_chunks.ensures.front_len, k) in
    goes_on_by _ _ _ _ _ _ ws (get_or (get_or cs i []) 0 0) (get_or (get_or cs i []) 1 0) (get_or (get_or cs i []) 2 0) i
    (step_at ws n cs i 0 (2 + 3 * i) f l (omega arith) (omega arith)) (step_at ws n cs i 1 (3 + 3 * i) f l (omega arith) (omega arith)) (step_at ws n cs i 2 (4 + 3 * i) f l (omega arith) (omega arith))
    (track_of c.loop-passage.route) (track_of c.tread.new.route) l c.requires.long c.loop-passage.invariant c.if-not-tread.ensures

pub returns : goal.returns
returns g c =
    let n = get_or c.args.words.now 0 0 in
    let k = counted c.args.words.now n c.requires.long in
    let t : c.loop-passage.passage-index ≡ length c.as_chunks.result.0.now = omega arith in
    no_end _ _ _ _ _ _ _ _ c.loop-passage.passage-index (t ∙ c.as_chunks.ensures.front_len ∙ k) c.loop-passage.invariant (λ e. clash (sym c.if-is_answer.false ∙ c.is_answer.ensures ∙ e))
