use mathlib.Core.Path.{◌≡◌, refl, sym, ap, ◌∙◌, subst}
use mathlib.Core.Logic.{◌⊎◌, inl, inr, ◌↔◌}
use Prim.Native.Nat.{ℕ, zero, suc, ◌+◌, ◌*◌, ◌/◌, ◌%◌, ◌^◌, ◌≤◌, ◌<◌, ◌-◌, min, max}
use native.Mathlib.Omega.{arith}
use native.Mathlib.Decide.{dec_lt}
use native.Mathlib.Nat.{div-eq_of_lt, lt_of_lt_of_le, one-mul, pow-suc, mul-mod_left, mod-lt, zero-mul}
use lib.Pow.{pow_pos, pow_mono, pow-lt, pow-add, shl-shr, shr_lt, split}
use lib.Bits.{bit_and, bit_or, and_step, or_step, and_shr, or_shr, and_mask}
use mathlib.Core.Bool.{Bool, true, false}
use borrow.Author.Tests.{eqb-true, eq-eqb}
use Rattle.bits.specs.Bit.{Has, has_bit}

or_low : (a b : ℕ) → bit_or a b % 2 ≡ max (a % 2) (b % 2)
or_low a b = rw (or_step a b) (omega arith)

and_low : (a b : ℕ) → bit_and a b % 2 ≡ min (a % 2) (b % 2)
and_low a b = rw (and_step a b) (omega arith)

pub or_bit : (a b q : ℕ) → bit_or a b / 2 ^ q % 2 ≡ max (a / 2 ^ q % 2) (b / 2 ^ q % 2)
or_bit a b q = rw (or_shr a b q) (or_low (a / 2 ^ q) (b / 2 ^ q))

pub and_bit : (a b q : ℕ) → bit_and a b / 2 ^ q % 2 ≡ min (a / 2 ^ q % 2) (b / 2 ^ q % 2)
and_bit a b q = rw (and_shr a b q) (and_low (a / 2 ^ q) (b / 2 ^ q))

decide : (m q : ℕ) → Has m q ⊎ (m / 2 ^ q % 2 ≡ 0)
decide m q = elim (dec_lt (m / 2 ^ q % 2) 1) [ yes h ↦ inr (omega arith) | no h ↦ inl (omega arith) ]

pub has_or : (a b q : ℕ) → Has (bit_or a b) q ↔ (Has a q ⊎ Has b q)
has_or a b q = (there, back)
  where
    there : Has (bit_or a b) q → Has a q ⊎ Has b q
    there h = elim (decide a q) [ inl x ↦ inl x | inr x ↦ inr (omega (arith, or_bit a b q)) ]

    back : Has a q ⊎ Has b q → Has (bit_or a b) q
    back (inl h) = omega (arith, or_bit a b q)
    back (inr h) = omega (arith, or_bit a b q)

pub has_and : (a b q : ℕ) → Has (bit_and a b) q ↔ (Has a q × Has b q)
has_and a b q = (λ h. omega (arith, and_bit a b q), λ h. omega (arith, and_bit a b q))

high_zero : (m q : ℕ) → m < 2 ^ q → Has m q → ⊥
high_zero m q h b = omega (arith, div-eq_of_lt h)

pub has_zero : (q : ℕ) → Has 0 q → ⊥
has_zero q h = high_zero 0 q (pow_pos q) h

pub has_below : (k m q : ℕ) → m < 2 ^ k → Has m q → q < k
has_below k m q h b = elim (dec_lt q k) [ yes l ↦ l | no l ↦ absurd (high_zero m q (lt_of_lt_of_le h (pow_mono (let z : k ≤ q = omega arith in z))) b) ]

pub one_at : (p : ℕ) → Has (2 ^ p) p
one_at p = ap (λ (x : ℕ). x / 2 ^ p % 2) (sym (one-mul (2 ^ p))) ∙ ap (λ (x : ℕ). x % 2) (shl-shr 1 p)

one_above : (d q : ℕ) → 2 ^ (suc d + q) / 2 ^ q % 2 ≡ 0
one_above d q = ap (λ (x : ℕ). x / 2 ^ q % 2) (pow-add 2 (suc d) q) ∙ ap (λ (x : ℕ). x % 2) (shl-shr (2 ^ suc d) q) ∙ ap (λ (x : ℕ). x % 2) (pow-suc 2 d) ∙ mul-mod_left (2 ^ d) 2

pub one_only : (p q : ℕ) → Has (2 ^ p) q → q ≡ p
one_only p q h = elim (dec_lt p q) [ yes l ↦ absurd (high_zero (2 ^ p) q (pow-lt l) h) | no l ↦ elim (dec_lt q p) [ yes k ↦ absurd (below k) | no k ↦ omega arith ] ]
  where
    below : q < p → ⊥
    below k =
        let e : p ≡ suc (p - suc q) + q = omega arith in
        let z : 2 ^ p / 2 ^ q % 2 ≡ 0 = ap (λ (x : ℕ). 2 ^ x / 2 ^ q % 2) e ∙ one_above (p - suc q) q in
        omega arith

pub has_one : (p q : ℕ) → Has (2 ^ p) q ↔ (q ≡ p)
has_one p q = (one_only p q, λ e. subst (λ (x : ℕ). Has (2 ^ p) x) (sym e) (one_at p))

low_only : (k m : ℕ) → m < 2 ^ suc k → m / 2 ^ k % 2 ≡ 0 → m < 2 ^ k
low_only k m h z =
    let e : suc k ≡ 1 + k = omega arith in
    let s : m / 2 ^ k < 2 = shr_lt 1 k (subst (λ (x : ℕ). m < 2 ^ x) e h) in
    let o : m / 2 ^ k ≡ 0 = omega arith in
    let p : m / 2 ^ k * 2 ^ k ≡ 0 = ap (λ (x : ℕ). x * 2 ^ k) o ∙ zero-mul (2 ^ k) in
    omega (arith, split m k, mod-lt m (pow_pos k))

-- a mask that is not zero has a bit
pub some_bit : (k m : ℕ) → m < 2 ^ k → ¬ (m ≡ 0) → (q : ℕ) × Has m q
some_bit zero m h n = absurd (n (omega arith))
some_bit (suc k) m h n = elim (dec_lt (m / 2 ^ k % 2) 1) [
  | no l ↦ (k, omega arith)
  | yes l ↦ some_bit k m (low_only k m h (omega arith)) n
]

pub test_bit : (m q : ℕ) → bit_and (m / 2 ^ q) 1 ≡ m / 2 ^ q % 2
test_bit m q = and_mask (m / 2 ^ q) 1

pub grows : (m : ℕ) → m < 2 ^ m
grows zero = pow_pos 0
grows (suc m) = rw (pow-suc 2 m) (omega (arith, grows m))

-- the test `mask & other != 0`
pub meet : (a b : ℕ) → (¬ (bit_and a b ≡ 0)) ↔ ((q : ℕ) × Has a q × Has b q)
meet a b = (there, back)
  where
    there : ¬ (bit_and a b ≡ 0) → (q : ℕ) × Has a q × Has b q
    there n = let (q, x) = some_bit (bit_and a b) (bit_and a b) (grows (bit_and a b)) n in (q, ((has_and a b q).0 x).0, ((has_and a b q).0 x).1)

    back : (q : ℕ) × Has a q × Has b q → ¬ (bit_and a b ≡ 0)
    back (q, x, y) e = has_zero q (subst (λ (m : ℕ). Has m q) e ((has_and a b q).1 (x, y)))

-- the test and the fact
pub has_test : (m q : ℕ) → Has m q → has_bit m q ≡ true
has_test m q h = eq-eqb (m / 2 ^ q % 2) 1 h

pub test_has : (m q : ℕ) → has_bit m q ≡ true → Has m q
test_has m q h = eqb-true (m / 2 ^ q % 2) 1 h

-- two tests agree where the facts do
pub same_test : (a b : Bool) → (a ≡ true → b ≡ true) → (b ≡ true → a ≡ true) → a ≡ b
same_test true b f g = sym (f refl)
same_test false true f g = g refl
same_test false false f g = refl

-- one bit more
pub set_bit_lem : (m p q : ℕ) → (has_bit (bit_or m (2 ^ p)) p ≡ true) × ((q ≡ p → ⊥) → has_bit (bit_or m (2 ^ p)) q ≡ has_bit m q)
set_bit_lem m p q = (
  has_test (bit_or m (2 ^ p)) p ((has_or m (2 ^ p) p).1 (inr (one_at p))),
  λ n. same_test (has_bit (bit_or m (2 ^ p)) q) (has_bit m q)
      (λ h. elim ((has_or m (2 ^ p) q).0 (test_has _ q h)) [ inl x ↦ has_test m q x | inr x ↦ absurd (n (one_only p q x)) ])
      (λ h. has_test (bit_or m (2 ^ p)) q ((has_or m (2 ^ p) q).1 (inl (test_has m q h)))),
)
