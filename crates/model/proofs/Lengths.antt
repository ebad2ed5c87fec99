-- The greatest lengths of the three rules are reached.
use Rattle.std.proofs.Common.{◌≡◌, ℕ, zero, suc, ◌+◌, ◌%◌, ◌<◌, ◌≤◌, List, [], ◌∷◌, map, length, get_or, sym, refl, ap, ◌∙◌, arith}
use Rattle.model.specs.Routes.{Step, Route, passages, zones_of, len}
use Rattle.model.specs.Rules.{Plain, Trail, Acyclic, Simple}
use Rattle.model.specs.Lengths.{LengthsReached}
use Rattle.model.proofs.RuleLaws.{restrictors}

-- n steps by the passages i, i + 1 and so on, the passage p into the zone g p
walk : (ℕ → ℕ) → ℕ → ℕ → List Step
walk g i zero = []
walk g i (suc n) = record { number = i; reached = g i } ∷ walk g (suc i) n

module _ (g : ℕ → ℕ) where
  walk_length : (i n : ℕ) → length (walk g i n) ≡ n
  unfolding walk
  walk_length i zero = refl
  walk_length i (suc n) = ap suc (walk_length (suc i) n)

  number_at : (i n j : ℕ) → j < n → get_or (map (λ (s : Step). s.number) (walk g i n)) j 0 ≡ i + j
  unfolding walk
  number_at i zero j h = absurd (omega arith)
  number_at i (suc n) zero h = omega arith
  number_at i (suc n) (suc j) h = let e = number_at (suc i) n j (omega arith) in omega arith

  reached_at : (i n j : ℕ) → j < n → get_or (map (λ (s : Step). s.reached) (walk g i n)) j 0 ≡ g (i + j)
  unfolding walk
  reached_at i zero j h = absurd (omega arith)
  reached_at i (suc n) zero h = ap g (omega arith)
  reached_at i (suc n) (suc j) h = reached_at (suc i) n j (omega arith) ∙ ap g (omega arith)

  round : ℕ → Route
  round n = record { start = 0; steps = walk g 0 n }

  -- the zone at a place
  zone : ℕ → ℕ
  zone zero = 0
  zone (suc j) = g j

  zone_at : (n j : ℕ) → j ≤ n → get_or (zones_of (round n)) j 0 ≡ zone j
  unfolding round zone
  zone_at n zero h = refl
  zone_at n (suc j) h = reached_at 0 n j (omega arith) ∙ ap g (omega arith)

  at : (n j : ℕ) → j < len (round n) → get_or (passages (round n)) j 0 ≡ j
  unfolding round
  at n j h = let l = walk_length 0 n in let e = number_at 0 n j (omega arith) in omega arith

  plain_round : (n : ℕ) → n ≤ 256 → ((i : ℕ) → i < n → g i < 64) → Plain (round n)
  unfolding round zone
  plain_round n few low = record { start_low = omega arith; reached_low = λ i h. zone_low i h; number_low = λ i h. let e = at n i h in let l = walk_length 0 n in omega arith; alike = λ i j a b e. let p = at n i a in let q = at n j b in same i j (omega arith) }
    where
      zone_low : (i : ℕ) → i ≤ len (round n) → get_or (zones_of (round n)) i 0 < 64
      zone_low zero h = omega arith
      zone_low (suc i) h = let l = walk_length 0 n in let e = zone_at n (suc i) (omega arith) in let b = low i (omega arith) in omega arith

      same : (i j : ℕ) → i ≡ j → get_or (zones_of (round n)) (suc i) 0 ≡ get_or (zones_of (round n)) (suc j) 0
      same i j e = ap (λ (k : ℕ). get_or (zones_of (round n)) (suc k) 0) e

-- from the zone 0 into it, by 256 passages
trail_round : Trail (round (λ p. 0) 256)
trail_round i j l h e = let p = at (λ x. 0) 256 i (omega arith) in let q = at (λ x. 0) 256 j h in omega arith

-- through all zones
acyclic_round : Acyclic (round suc 63)
unfolding zone round
acyclic_round i j l h e = let k = walk_length suc 0 63 in go i j l (omega arith) (sym (zone_at suc 63 i (omega arith)) ∙ e ∙ zone_at suc 63 j (omega arith))
  where
    go : (i j : ℕ) → i < j → j ≤ 63 → zone suc i ≡ zone suc j → ⊥
    go i zero l h e = omega arith
    go zero (suc j) l h e = omega arith
    go (suc i) (suc j) l h e = omega arith

-- and back to the first
home : ℕ → ℕ
home p = suc p % 64

simple_round : Simple (round home 64)
unfolding zone home round
simple_round i j l h e = let k = walk_length home 0 64 in let r = go i j l (omega arith) (sym (zone_at home 64 i (omega arith)) ∙ e ∙ zone_at home 64 j (omega arith)) in (r.0, omega arith)
  where
    go : (i j : ℕ) → i < j → j ≤ 64 → zone home i ≡ zone home j → (i ≡ 0) × (j ≡ 64)
    go i zero l h e = absurd (omega arith)
    go zero (suc j) l h e = (refl, omega arith)
    go (suc i) (suc j) l h e = absurd (omega arith)

pub lengths_reached : LengthsReached
unfolding round home
lengths_reached = record {
  trail_reached = record { route = round (λ p. 0) 256; plain = plain_round (λ p. 0) 256 (omega arith) (λ i h. omega arith); allowed = (restrictors.trail_is (round (λ p. 0) 256)).1 trail_round; longest = walk_length (λ p. 0) 0 256 };
  acyclic_reached = record { route = round suc 63; plain = plain_round suc 63 (omega arith) (λ i h. omega arith); allowed = (restrictors.acyclic_is (round suc 63)).1 acyclic_round; longest = walk_length suc 0 63 };
  simple_reached = record { route = round home 64; plain = plain_round home 64 (omega arith) (λ i h. omega arith); allowed = (restrictors.simple_is (round home 64)).1 simple_round; longest = walk_length home 0 64 };
}
