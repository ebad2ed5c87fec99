use Rattle.std.proofs.Common.{◌≡◌, ℕ, zero, suc, ◌+◌, ◌*◌, ◌<◌, ◌≤◌, List, [], ◌∷◌, length, get_or, drop, set, sym, refl, ap, ◌∙◌, arith, drop-cons}
use Rattle.route.specs.Tracks.{Taken}
use Rattle.route.specs.Reading.{taken_of, taken_at, track_of}
use Rattle.route.specs.declared.Route.{Route}
use Rattle.route.proofs.Views.{length_taken}
use Rattle.enquiry.specs.Records.{words_on, record_on}

pub set_words : (xs : List Taken) (w : List ℕ) (j q : ℕ) → set (words_on xs w) (3 * length xs + j) q ≡ words_on xs (set w j q)
set_words [] w j q = let e : 3 * length {A = Taken} [] + j ≡ j = omega arith in rw e refl
set_words (x ∷ xs) w j q =
    let e : 3 * length (x ∷ xs) + j ≡ 3 * length xs + suc (suc (suc j)) = omega arith in
    rw e (set_words xs (x.passage ∷ x.zone ∷ x.mark ∷ w) (suc (suc (suc j))) q)

pub three : (e : List ℕ) (k : ℕ) → k + 2 < length e → drop k e ≡ get_or e k 0 ∷ get_or e (suc k) 0 ∷ get_or e (suc (suc k)) 0 ∷ drop (suc (suc (suc k))) e
three e k l =
    let a : k < length e = omega arith in
    let b : suc k < length e = omega arith in
    let c : suc (suc k) < length e = omega arith in
    drop-cons e k 0 a ∙ ap (λ (v : List ℕ). get_or e k 0 ∷ v) (drop-cons e (suc k) 0 b ∙ ap (λ (v : List ℕ). get_or e (suc k) 0 ∷ v) (drop-cons e (suc (suc k)) 0 c))

-- the words as they stand once i steps are written
abbrev pub written : Route → List ℕ → ℕ → List ℕ
written r e i = r.len ∷ r.start ∷ words_on (taken_of (taken_at r) i) (drop (2 + 3 * i) e)

set_at : (n s : ℕ) (xs : List Taken) (w : List ℕ) (k j q : ℕ) → k ≡ 2 + 3 * length xs + j → set (n ∷ s ∷ words_on xs w) k q ≡ n ∷ s ∷ words_on xs (set w j q)
set_at n s xs w k j q e =
    let f : k ≡ suc (suc (3 * length xs + j)) = omega arith in
    rw f (ap (λ (v : List ℕ). n ∷ s ∷ v) (set_words xs w j q))

pub written_more : (r : Route) (e : List ℕ) (i at : ℕ) → at ≡ 2 + 3 * i → 5 + 3 * i ≤ length e →
    set (set (set (written r e i) at (taken_at r i).passage) (at + 1) (taken_at r i).zone) (at + 2) (taken_at r i).mark ≡ written r e (i + 1)
unfolding taken_of
written_more r e i at h l =
    let n = length_taken (taken_at r) i in
    let t = three e (2 + 3 * i) (omega arith) in
    let xs = taken_of (taken_at r) i in
    let d : suc (suc (suc (2 + 3 * i))) ≡ 2 + 3 * (i + 1) = omega arith in
    let q : suc i ≡ i + 1 = omega arith in
    let x = taken_at r i in
    let b = get_or e (suc (2 + 3 * i)) 0 in
    let c = get_or e (suc (suc (2 + 3 * i))) 0 in
    let v = drop (suc (suc (suc (2 + 3 * i)))) e in
    ap (λ (w : List ℕ). set (set (set (r.len ∷ r.start ∷ words_on xs w) at x.passage) (at + 1) x.zone) (at + 2) x.mark) t
    ∙ ap (λ (w : List ℕ). set (set w (at + 1) x.zone) (at + 2) x.mark) (set_at r.len r.start xs (get_or e (2 + 3 * i) 0 ∷ b ∷ c ∷ v) at 0 x.passage (omega arith))
    ∙ ap (λ (w : List ℕ). set w (at + 2) x.mark) (set_at r.len r.start xs (x.passage ∷ b ∷ c ∷ v) (at + 1) 1 x.zone (omega arith))
    ∙ set_at r.len r.start xs (x.passage ∷ x.zone ∷ c ∷ v) (at + 2) 2 x.mark (omega arith)
    ∙ ap (λ (k : ℕ). r.len ∷ r.start ∷ words_on xs (x.passage ∷ x.zone ∷ x.mark ∷ drop k e)) d
    ∙ ap (λ (k : ℕ). r.len ∷ r.start ∷ words_on (taken_of (taken_at r) k) (drop (2 + 3 * (i + 1)) e)) q

-- the head of the words
pub head_written : (r : Route) (e : List ℕ) → 2 ≤ length e → set (set e 0 r.len) 1 r.start ≡ written r (set (set e 0 r.len) 1 r.start) 0
unfolding taken_of
head_written r [] l = absurd (omega arith)
head_written r (x ∷ []) l = absurd (omega arith)
head_written r (x ∷ (y ∷ e)) l = refl

pub drop_head : (e : List ℕ) (a b k : ℕ) → 2 ≤ k → drop k (set (set e 0 a) 1 b) ≡ drop k e
drop_head e a b zero l = absurd (omega arith)
drop_head e a b (suc zero) l = absurd (omega arith)
drop_head [] a b (suc (suc k)) l = refl
drop_head (x ∷ []) a b (suc (suc k)) l = refl
drop_head (x ∷ (y ∷ e)) a b (suc (suc k)) l = refl

pub all_written : (r : Route) (e : List ℕ) (at : ℕ) → at ≡ 2 + 3 * r.len → written r (set (set e 0 r.len) 1 r.start) r.len ≡ record_on (track_of r) (drop at e)
all_written r e at h =
    ap (λ (v : List ℕ). r.len ∷ r.start ∷ words_on (taken_of (taken_at r) r.len) v) (drop_head e r.len r.start (2 + 3 * r.len) (omega arith))
    ∙ ap (λ (k : ℕ). k ∷ r.start ∷ words_on (taken_of (taken_at r) r.len) (drop (2 + 3 * r.len) e)) (sym (length_taken (taken_at r) r.len))
    ∙ ap (λ (k : ℕ). record_on (track_of r) (drop k e)) (sym h)

pub words_more : (r : Route) (e w : List ℕ) (i at : ℕ) → w ≡ written r e i → at ≡ 2 + 3 * i → 5 + 3 * i ≤ length e →
    set (set (set w at (taken_at r i).passage) (at + 1) (taken_at r i).zone) (at + 2) (taken_at r i).mark ≡ written r e (i + 1)
words_more r e w i at p h l =
    ap (λ (v : List ℕ). set (set (set v at (taken_at r i).passage) (at + 1) (taken_at r i).zone) (at + 2) (taken_at r i).mark) p ∙ written_more r e i at h l

pub words_all : (r : Route) (e w : List ℕ) (i at : ℕ) → i ≡ r.len → w ≡ written r (set (set e 0 r.len) 1 r.start) i → at ≡ 2 + 3 * i → w ≡ record_on (track_of r) (drop at e)
words_all r e w i at q p h = p ∙ ap (λ (k : ℕ). written r (set (set e 0 r.len) 1 r.start) k) q ∙ all_written r e at (h ∙ ap (λ (k : ℕ). 2 + 3 * k) q)
