-- The words of a record's steps, three by three.
use Rattle.std.proofs.Common.{◌≡◌, ℕ, zero, suc, ◌+◌, ◌-◌, ◌*◌, ◌/◌, ◌<◌, ◌≤◌, List, [], length, get_or, take, drop, slice_range, refl, ap, ◌∙◌, arith, get_or-take, length-take, length-drop}
use Rattle.std.proofs.lemmas.List.{get_or-drop, drop-drop}
use Rattle.std.specs.Simd.{first_chunks}

chunk : (k : ℕ) (xs : List ℕ) (i : ℕ) → i < k → get_or (first_chunks 3 k xs) i [] ≡ take 3 (drop (3 * i) xs)
chunk zero xs i l = absurd (omega arith)
chunk (suc k) xs zero l = refl
chunk (suc k) xs (suc i) l =
    let e : 3 + 3 * i ≡ 3 * suc i = omega arith in
    chunk k (drop 3 xs) i (omega arith) ∙ ap (take 3) (drop-drop (3 * i) 3 xs) ∙ ap (λ (n : ℕ). take 3 (drop n xs)) e

step_word : (ws : List ℕ) (n i j : ℕ) → i < n → j < 3 → get_or (get_or (first_chunks 3 n (slice_range ws 2 (2 + 3 * n))) i []) j 0 ≡ get_or ws (2 + 3 * i + j) 0
step_word ws n i j l m =
    let e : 2 + (3 * i + j) ≡ 2 + 3 * i + j = omega arith in
    ap (λ (c : List ℕ). get_or c j 0) (chunk n (slice_range ws 2 (2 + 3 * n)) i l)
    ∙ get_or-take 3 (drop (3 * i) (slice_range ws 2 (2 + 3 * n))) j 0 m
    ∙ get_or-drop (3 * i) (slice_range ws 2 (2 + 3 * n)) j 0
    ∙ get_or-take (2 + 3 * n - 2) (drop 2 ws) (3 * i + j) 0 (omega arith)
    ∙ get_or-drop 2 ws (3 * i + j) 0
    ∙ ap (λ (k : ℕ). get_or ws k 0) e

pub step_at : (ws : List ℕ) (n : ℕ) (cs : List (List ℕ)) (i j k : ℕ) → cs ≡ first_chunks 3 n (slice_range ws 2 (2 + 3 * n)) → i < n → j < 3 → 2 + 3 * i + j ≡ k → get_or (get_or cs i []) j 0 ≡ get_or ws k 0
step_at ws n cs i j k f l m e = ap (λ (ds : List (List ℕ)). get_or (get_or ds i []) j 0) f ∙ step_word ws n i j l m ∙ ap (λ (x : ℕ). get_or ws x 0) e

pub counted : (ws : List ℕ) (n : ℕ) → 2 + 3 * n ≤ length ws → length (slice_range ws 2 (2 + 3 * n)) / 3 ≡ n
counted ws n l = let e : length (slice_range ws 2 (2 + 3 * n)) ≡ 3 * n = simp (length-take, length-drop) (omega arith) in ap (λ (k : ℕ). k / 3) e ∙ omega arith
