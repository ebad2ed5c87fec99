-- The order of records is strict, and two lines can be compared.
use Rattle.std.proofs.Common.{◌<◌, ◌⊎◌, List, [], ◌∷◌, refl, inl, inr, arith}
use native.Mathlib.Decide.{dec_lt}
use Rattle.model.specs.Records.{Answer, Line, Lower, Level, Earlier, Before, mark_word, record_of}

pub lower_irrefl : (x y : Line) → Level x y → Lower x y → ⊥
lower_irrefl x y e (inl h) = omega arith
lower_irrefl x y e (inr h) = omega arith

pub earlier_irrefl : (xs : List Line) → Earlier xs xs → ⊥
earlier_irrefl [] h = h
earlier_irrefl (x ∷ xs) (inl h) = lower_irrefl x x (refl, refl) h
earlier_irrefl (x ∷ xs) (inr h) = earlier_irrefl xs h.1

pub lower_trans : (x y z : Line) → Lower x y → Lower y z → Lower x z
lower_trans x y z (inl g) (inl h) = inl (omega arith)
lower_trans x y z (inl g) (inr h) = inl (omega arith)
lower_trans x y z (inr g) (inl h) = inl (omega arith)
lower_trans x y z (inr g) (inr h) = inr (omega arith)

pub lower_level : (x y z : Line) → Lower x y → Level y z → Lower x z
lower_level x y z (inl g) h = inl (omega arith)
lower_level x y z (inr g) h = inr (omega arith)

pub level_lower : (x y z : Line) → Level x y → Lower y z → Lower x z
level_lower x y z g (inl h) = inl (omega arith)
level_lower x y z g (inr h) = inr (omega arith)

pub level_level : (x y z : Line) → Level x y → Level y z → Level x z
level_level x y z g h = omega arith

pub earlier_trans : (xs ys zs : List Line) → Earlier xs ys → Earlier ys zs → Earlier xs zs
earlier_trans [] [] zs g h = absurd g
earlier_trans [] (y ∷ ys) [] g h = h
earlier_trans [] (y ∷ ys) (z ∷ zs) g h = tt
earlier_trans (x ∷ xs) [] zs g h = absurd g
earlier_trans (x ∷ xs) (y ∷ ys) [] g h = h
earlier_trans (x ∷ xs) (y ∷ ys) (z ∷ zs) (inl g) (inl h) = inl (lower_trans x y z g h)
earlier_trans (x ∷ xs) (y ∷ ys) (z ∷ zs) (inl g) (inr h) = inl (lower_level x y z g h.0)
earlier_trans (x ∷ xs) (y ∷ ys) (z ∷ zs) (inr g) (inl h) = inl (level_lower x y z g.0 h)
earlier_trans (x ∷ xs) (y ∷ ys) (z ∷ zs) (inr g) (inr h) = inr (level_level x y z g.0 h.0, earlier_trans xs ys zs g.1 h.1)

pub before_irrefl : (a : Answer) → Before a a → ⊥
before_irrefl a h = earlier_irrefl (record_of a).lines h

pub before_trans : (a b c : Answer) → Before a b → Before b c → Before a c
before_trans a b c g h = earlier_trans (record_of a).lines (record_of b).lines (record_of c).lines g h

-- two lines compare
unfoldable pub compare_lines : (x y : Line) → Lower x y ⊎ (Level x y ⊎ Lower y x)
compare_lines x y = go (dec_lt x.number y.number) (dec_lt y.number x.number) (dec_lt (mark_word x.mark) (mark_word y.mark)) (dec_lt (mark_word y.mark) (mark_word x.mark))
  where
    go : Dec (x.number < y.number) → Dec (y.number < x.number) → Dec (mark_word x.mark < mark_word y.mark) → Dec (mark_word y.mark < mark_word x.mark) → Lower x y ⊎ (Level x y ⊎ Lower y x)
    go (yes a) b c d = inl (inl a)
    go (no a) (yes b) c d = inr (inr (inl b))
    go (no a) (no b) (yes c) d = inl (inr (omega arith, c))
    go (no a) (no b) (no c) (yes d) = inr (inr (inr (omega arith, d)))
    go (no a) (no b) (no c) (no d) = inr (inl (omega arith, omega arith))

pub lower_level_clash : (x y : Line) → Level x y ⊎ Lower y x → Lower x y → ⊥
lower_level_clash x y (inl e) (inl h) = omega arith
lower_level_clash x y (inl e) (inr h) = omega arith
lower_level_clash x y (inr (inl e)) (inl h) = omega arith
lower_level_clash x y (inr (inl e)) (inr h) = omega arith
lower_level_clash x y (inr (inr e)) (inl h) = omega arith
lower_level_clash x y (inr (inr e)) (inr h) = omega arith
