-- Members of a list that is mapped, or kept under a test.
use Rattle.std.proofs.Common.{◌≡◌, Bool, true, false, cond, T, ◌⊎◌, List, [], ◌∷◌, map, refl, ap, inl, inr}
use mathlib.Core.List.Memᴰ
use mathlib.Core.List.{Memᴰ}

pub map_mem {ℓ ℓ'} : {X : Type ℓ} {Y : Type ℓ'} (f : X → Y) (y : Y) (xs : List X) → Memᴰ y (map f xs) → (x : X) × Memᴰ x xs × (y ≡ f x)
map_mem f y [] m = elim m [ ]
map_mem {X = X} f y (x ∷ xs) m = go (Memᴰ.cases_cons m) (λ k. map_mem f y xs k)
  where
    go : (y ≡ f x) ⊎ Memᴰ y (map f xs) → (Memᴰ y (map f xs) → (w : X) × Memᴰ w xs × (y ≡ f w)) → (w : X) × Memᴰ w (x ∷ xs) × (y ≡ f w)
    go (inl e) k = (x, Memᴰ.head refl, e)
    go (inr n) k = let r = k n in (r.0, Memᴰ.tail r.1, r.2)

pub mem_map {ℓ ℓ'} : {X : Type ℓ} {Y : Type ℓ'} (f : X → Y) (x : X) (xs : List X) → Memᴰ x xs → Memᴰ (f x) (map f xs)
mem_map f x xs (Memᴰ.head e) = Memᴰ.head (ap f e)
mem_map f x xs (Memᴰ.tail m) = Memᴰ.tail (mem_map f x _ m)

pub cond_mem : {X : Type 0} (b : Bool) (x : X) (xs : List X) → Memᴰ x (cond b xs []) → T b × Memᴰ x xs
cond_mem true x xs m = (tt, m)
cond_mem false x xs m = elim m [ ]

pub mem_cond : {X : Type 0} (b : Bool) (x : X) (xs : List X) → T b → Memᴰ x xs → Memᴰ x (cond b xs [])
mem_cond true x xs t m = m
mem_cond false x xs t m = absurd t
