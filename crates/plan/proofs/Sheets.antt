-- What stands on a closure sheet.
use Rattle.std.proofs.Common.{◌≡◌, ℕ, zero, suc, ◌/◌, ◌%◌, ◌^◌, ◌<◌, Bool, true, false, cond, eqb, List, length, get_or, set, replicate, sym, refl, ap, ◌∙◌, arith, get_or-set_other, get_or-set_same, eq-eqb, ne_eqb}
use native.Mathlib.Decide.{ℕ_discrete}
use lib.Bits.{bit_or}
use Rattle.bits.specs.Bit.{has_bit}
use Rattle.bits.proofs.Bit.{set_bit_lem, has_zero}
use Rattle.plan.specs.Shut.{shut}

zeros : (k i : ℕ) → ◌≡◌ {A = ℕ} (get_or (replicate k 0) i 0) 0
zeros zero i = refl
zeros (suc k) zero = refl
zeros (suc k) (suc i) = zeros k i

pub blank_open : (n : ℕ) → shut (replicate 32 0) n ≡ false
blank_open n = ap (λ (b : ℕ). has_bit b (n % 8)) (zeros 32 (n / 8)) ∙ ne_eqb (0 / 2 ^ (n % 8) % 2) 1 (has_zero (n % 8))

pub shut_one : (xs : List ℕ) (p n : ℕ) → p / 8 < length xs → shut (set xs (p / 8) (bit_or (get_or xs (p / 8) 0) (2 ^ (p % 8)))) n ≡ cond (eqb n p) true (shut xs n)
shut_one xs p n l = go (ℕ_discrete n p)
  where
    byte : ℕ
    byte = bit_or (get_or xs (p / 8) 0) (2 ^ (p % 8))

    here : get_or (set xs (p / 8) byte) (p / 8) 0 ≡ byte
    here = get_or-set_same xs (p / 8) byte 0 l

    other : (n ≡ p → ⊥) → Dec (n / 8 ≡ p / 8) → shut (set xs (p / 8) byte) n ≡ shut xs n
    other d (no q) = ap (λ (b : ℕ). has_bit b (n % 8)) (get_or-set_other xs (p / 8) (n / 8) byte 0 q)
    other d (yes q) =
        let m : n % 8 ≡ p % 8 → ⊥ = λ e. d (omega arith) in
        ap (λ (i : ℕ). has_bit (get_or (set xs (p / 8) byte) i 0) (n % 8)) q
        ∙ ap (λ (b : ℕ). has_bit b (n % 8)) here
        ∙ (set_bit_lem (get_or xs (p / 8) 0) (p % 8) (n % 8)).1 m
        ∙ ap (λ (i : ℕ). has_bit (get_or xs i 0) (n % 8)) (sym q)

    go : Dec (n ≡ p) → shut (set xs (p / 8) byte) n ≡ cond (eqb n p) true (shut xs n)
    go (yes e) =
        ap (λ (k : ℕ). shut (set xs (p / 8) byte) k) e
        ∙ ap (λ (b : ℕ). has_bit b (p % 8)) here
        ∙ (set_bit_lem (get_or xs (p / 8) 0) (p % 8) (p % 8)).0
        ∙ ap (λ (t : Bool). cond t true (shut xs n)) (sym (eq-eqb n p e))
    go (no d) = other d (ℕ_discrete (n / 8) (p / 8)) ∙ ap (λ (t : Bool). cond t true (shut xs n)) (sym (ne_eqb n p d))
