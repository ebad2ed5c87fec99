use Rattle.std.proofs.Common.{◌≡◌, ℕ, zero, suc, ◌+◌, ◌*◌, ◌^◌, ◌<◌, ◌≤◌, List, [], ◌∷◌, length, ap, inl, inr, mul-le-mul_right, mul_comm, add-mul, one-mul, pow-suc, arith}
use Rattle.search.specs.Spaces.{Code, Before, Earlier}
use Rattle.listing.specs.Rank.{digit, rank, Low}

lex : (a b x r s : ℕ) → a < b → r < x → a * x + r < b * x + s
lex a b x r s h k =
    let l : (a + 1) * x ≤ b * x = mul-le-mul_right x (omega arith) in
    let e : (a + 1) * x ≡ a * x + 1 * x = add-mul a 1 x in
    let f : 1 * x ≡ x = one-mul x in
    omega arith

base_pos : (n : ℕ) → 0 < 2305 ^ n
base_pos zero = omega arith
base_pos (suc n) = rw (pow-suc 2305 n) (omega (arith, base_pos n))

pub rank_low : (n : ℕ) (u : List Code) → Low u → length u ≤ n → rank n u < 2305 ^ n
unfolding rank
rank_low zero u l h = omega arith
rank_low (suc n) [] l h = base_pos (suc n)
rank_low (suc n) (c ∷ u) l h =
    let k = lex (digit c) 2305 (2305 ^ n) (rank n u) 0 (omega (arith, l.0, l.1)) (rank_low n u l.2 (omega arith)) in
    rw (pow-suc 2305 n) (omega (arith, k, mul_comm (2305 ^ n) 2305))

digits : (c d : Code) → c.mark < 9 → Before c d → digit c < digit d
digits c d m (inl h) = omega arith
digits c d m (inr h) = omega arith

pub rank_up : (n : ℕ) (u w : List Code) → Low u → Low w → length u ≤ n → length w ≤ n → Earlier u w → rank n u < rank n w
unfolding rank
rank_up n [] [] a b h k e = absurd e
rank_up n (c ∷ u) [] a b h k e = absurd e
rank_up zero [] (d ∷ w) a b h k e = absurd (omega arith)
rank_up (suc n) [] (d ∷ w) a b h k e = let t = lex 0 (digit d) (2305 ^ n) 0 (rank n w) (omega arith) (base_pos n) in omega arith
rank_up zero (c ∷ u) (d ∷ w) a b h k e = absurd (omega arith)
rank_up (suc n) (c ∷ u) (d ∷ w) a b h k (inl e) = lex (digit c) (digit d) (2305 ^ n) (rank n u) (rank n w) (digits c d a.1 e) (rank_low n u a.2 (omega arith))
rank_up (suc n) (c ∷ u) (d ∷ w) a b h k (inr e) =
    let t = rank_up n u w a.2 b.2 (omega arith) (omega arith) e.1 in
    let q : digit c * 2305 ^ n ≡ digit d * 2305 ^ n = ap (λ (x : Code). digit x * 2305 ^ n) e.0 in
    omega arith
