use Rattle.std.proofs.Common.{◌+◌, ◌*◌, ◌<◌, ◌≤◌, get_or, slice_range, ap, ◌∙◌, arith, below_more}
use Rattle.std.specs.Simd.{first_chunks}
use Rattle.enquiry.proofs.Chunks.{step_at, counted}
use Rattle.model.specs.Calls.MalformedAt.{under_two, over_256, too_few, mark_over_8}
use Rattle.model.proofs.Total.{not_malformed}
use Rattle.enquiry.proofs.formed.malformed.Goals as goal

pub returns-then-words-lt2 : goal.returns-then-words-lt2
returns-then-words-lt2 c = under_two (omega arith)

pub returns-then-n-gt256 : goal.returns-then-n-gt256
returns-then-n-gt256 c = over_256 (omega arith) (omega arith)

pub returns-then-words-n : goal.returns-then-words-n
returns-then-words-n c = too_few (omega arith) (omega arith) (omega arith)

pub returns-then-mark-gt8 : goal.returns-then-mark-gt8
returns-then-mark-gt8 c =
    let ws = c.args.words.now in
    let n = get_or ws 0 0 in
    let i = c.loop-i.i in
    let cs = c.as_chunks.result.0.now in
    let k = counted ws n c.if-words-n.false in
    let f = c.as_chunks.ensures.front ∙ ap (λ m. first_chunks 3 m (slice_range ws 2 (2 + 3 * n))) k in
    let l : i < n = omega (arith, c.loop-i-test.true, c.as_chunks.ensures.front_len, k) in
    let e = step_at ws n cs i 2 (4 + 3 * i) f l (omega arith) (omega arith) in
    mark_over_8 i (omega arith) (omega arith) (omega arith) l (omega (arith, e, c.if-mark-gt8.true)) c.loop-i.invariant

pub loop-i-preserved : goal.loop-i-preserved
loop-i-preserved c =
    let ws = c.args.words.now in
    let n = get_or ws 0 0 in
    let i = c.loop-i.i in
    let cs = c.as_chunks.result.0.now in
    let k = counted ws n c.if-words-n.false in
    let f = c.as_chunks.ensures.front ∙ ap (λ m. first_chunks 3 m (slice_range ws 2 (2 + 3 * n))) k in
    let l : i < n = omega (arith, c.loop-i-test.true, c.as_chunks.ensures.front_len, k) in
    let e = step_at ws n cs i 2 (4 + 3 * i) f l (omega arith) (omega arith) in
    below_more _ _ c.loop-i.invariant (omega (arith, e, c.if-mark-gt8.false))

pub returns : goal.returns
returns c =
    let ws = c.args.words.now in
    let n = get_or ws 0 0 in
    let k = counted ws n c.if-words-n.false in
    let t : n ≤ c.loop-i.i = omega (arith, c.loop-i-test.false, c.as_chunks.ensures.front_len, k) in
    not_malformed ws (omega arith) (omega arith) (omega arith) (λ j h. c.loop-i.invariant j (omega arith))
