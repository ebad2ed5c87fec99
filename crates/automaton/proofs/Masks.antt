-- The loops over the bits of a mask.
use Rattle.std.proofs.Common.{◌≡◌, ℕ, ◌+◌, ◌/◌, ◌^◌, ◌<◌, ◌⊎◌, ◌↔◌, List, length, get_or, set, sym, ◌∙◌, subst, inl, inr, arith, get_or-set_other, get_or-set_same}
use native.Mathlib.Decide.{dec_lt, ℕ_discrete}
use lib.Bits.{bit_and, bit_or}
use Rattle.bits.specs.Bit.{Has}
use Rattle.bits.proofs.Bit.{has_or, has_zero, has_one, test_bit}

-- the union of the rows below i that the mask has
abbrev pub Below : List ℕ → ℕ → ℕ → ℕ → Type 0
Below rows mask i q = (s : ℕ) × (s < i) × Has mask s × Has (get_or rows s 0) q

pub rows_none : (rows : List ℕ) (mask q : ℕ) → Has 0 q ↔ Below rows mask 0 q
rows_none rows mask q = (λ h. absurd (has_zero q h), λ b. omega (arith, b.1))

narrow : (rows : List ℕ) (mask i q : ℕ) → Below rows mask i q → Below rows mask (i + 1) q
narrow rows mask i q (s, h, a, b) = (s, omega arith, a, b)

pub rows_more : (rows : List ℕ) (mask reach i : ℕ) → ((q : ℕ) → Has reach q ↔ Below rows mask i q) → bit_and (mask / 2 ^ i) 1 ≡ 1
    → (q : ℕ) → Has (bit_or reach (get_or rows i 0)) q ↔ Below rows mask (i + 1) q
rows_more rows mask reach i inv t q = (there, back)
  where
    here : Has mask i
    here = sym (test_bit mask i) ∙ t

    step : Has reach q ⊎ Has (get_or rows i 0) q → Below rows mask (i + 1) q
    step (inl h) = narrow rows mask i q ((inv q).0 h)
    step (inr h) = (i, omega arith, here, h)

    there : Has (bit_or reach (get_or rows i 0)) q → Below rows mask (i + 1) q
    there h = step ((has_or reach (get_or rows i 0) q).0 h)

    back : Below rows mask (i + 1) q → Has (bit_or reach (get_or rows i 0)) q
    back (s, l, a, b) = (has_or reach (get_or rows i 0) q).1 (elim (dec_lt s i) [
      | yes k ↦ inl ((inv q).1 (s, k, a, b))
      | no k ↦ inr (let e : s ≡ i = omega arith in subst (λ (x : ℕ). Has (get_or rows x 0) q) e b)
    ])

pub rows_skip : (rows : List ℕ) (mask reach i : ℕ) → ((q : ℕ) → Has reach q ↔ Below rows mask i q) → (bit_and (mask / 2 ^ i) 1 ≡ 1 → ⊥)
    → (q : ℕ) → Has reach q ↔ Below rows mask (i + 1) q
rows_skip rows mask reach i inv t q = (λ h. narrow rows mask i q ((inv q).0 h), back)
  where
    back : Below rows mask (i + 1) q → Has reach q
    back (s, l, a, b) = elim (dec_lt s i) [
      | yes k ↦ (inv q).1 (s, k, a, b)
      | no k ↦ absurd (let e : s ≡ i = omega arith in t (test_bit mask i ∙ subst (λ (x : ℕ). Has mask x) e a))
    ]

-- ---- the loop of `link`: rows below i that the mask has are widened
abbrev pub Linked : (rows rows' : List ℕ) (from to i : ℕ) → Type 0
Linked rows rows' from to i = (s q : ℕ) → Has (get_or rows' s 0) q ↔ (Has (get_or rows s 0) q ⊎ ((s < i) × Has from s × Has to q))

pub linked_more : (rows mid : List ℕ) (from to i : ℕ) → i < length mid → Linked rows mid from to i → bit_and (from / 2 ^ i) 1 ≡ 1
    → Linked rows (set mid i (bit_or (get_or mid i 0) to)) from to (i + 1)
linked_more rows mid from to i lt inv t s q = elim (ℕ_discrete s i) [
  | yes e ↦ rw (e, get_or-set_same) (grind (arith, test_bit from i, has_or (get_or mid i 0) to q, inv i q))
  | no n ↦ rw get_or-set_other (grind (arith, inv s q))
]

pub linked_skip : (rows mid : List ℕ) (from to i : ℕ) → Linked rows mid from to i → (bit_and (from / 2 ^ i) 1 ≡ 1 → ⊥) → Linked rows mid from to (i + 1)
linked_skip rows mid from to i inv t s q = grind (arith, test_bit, inv s q)

pub linked_all : (rows rows' : List ℕ) (from to i : ℕ) → ((s : ℕ) → Has from s → s < i) → Linked rows rows' from to i
    → (s q : ℕ) → Has (get_or rows' s 0) q ↔ (Has (get_or rows s 0) q ⊎ (Has from s × Has to q))
linked_all rows rows' from to i low inv s q = grind (arith, low s, inv s q)

pub or_only : (a b t : ℕ) (P : Type 0) → ((q : ℕ) → Has t q ↔ (P × Has b q)) → (q : ℕ) → Has (bit_or a t) q ↔ (Has a q ⊎ (P × Has b q))
or_only a b t P h q = grind (arith, has_or a t q, h q)

-- a bit set in one row
pub mark_row : (rows : List ℕ) (i p b : ℕ) → i < length rows → b ≡ 2 ^ p
    → (k q : ℕ) → Has (get_or (set rows i (bit_or (get_or rows i 0) b)) k 0) q ↔ (Has (get_or rows k 0) q ⊎ ((q ≡ p) × (k ≡ i)))
mark_row rows i p b lt eb k q = elim (ℕ_discrete k i) [
  | yes e ↦ rw (e, eb, get_or-set_same) (grind (arith, has_or (get_or rows i 0) (2 ^ p) q, has_one p q))
  | no n ↦ rw get_or-set_other (grind arith)
]

pub admit_kind : (rows : List ℕ) (any i p b : ℕ) → i < length rows → b ≡ 2 ^ p
    → (k q : ℕ) → (Has (get_or (set rows i (bit_or (get_or rows i 0) b)) k 0) q ⊎ Has any q) ↔ ((Has (get_or rows k 0) q ⊎ Has any q) ⊎ ((q ≡ p) × (k ≡ i)))
admit_kind rows any i p b lt eb k q = grind (arith, mark_row rows i p b lt eb k q)

pub admit_any : (rows : List ℕ) (any p b : ℕ) → b ≡ 2 ^ p
    → (k q : ℕ) → (Has (get_or rows k 0) q ⊎ Has (bit_or any b) q) ↔ ((Has (get_or rows k 0) q ⊎ Has any q) ⊎ ((q ≡ p) × Unit {0}))
admit_any rows any p b eb k q = rw eb (grind (arith, has_or any (2 ^ p) q, has_one p q))
