use Rattle.std.proofs.Common.{◌≡◌, ℕ, ◌<◌, ◌≤◌, List, length, get_or, sym, refl, ap, ◌∙◌, ⊎_elim, arith}
use Rattle.std.proofs.str.Laws.{order}
use Rattle.reader.specs.Classes.{class_of}
use Rattle.reader.specs.declared.class.Class.{Class}
use Rattle.reader.proofs.reader.Reader.next_token.Goals as goal

-- a run whose first byte is of its class is not empty
not_empty : (text : List ℕ) (k : Class) (p q : ℕ) → p ≤ q → p < length text → class_of (get_or text p 0) ≡ k → (q < length text → class_of (get_or text q 0) ≡ k → ⊥) → p < q
not_empty text k p q le inside is stops =
    ⊎_elim (λ h. h) (λ h. let same : q ≡ p = omega arith in absurd (stops (omega arith) (ap (λ i. class_of (get_or text i 0)) same ∙ is))) (order p q)

pub returns-in-Small : goal.returns-in-Small
returns-in-Small c =
    record {
      same = refl;
      token = (
        record {
          onward = omega arith;
          spaces = c.run_end-place.ensures.all;
          some = not_empty _ _ _ _ (omega arith) (omega arith) (sym c.in-Small.ensures) c.run_end-end.ensures.stops;
          inside = omega arith;
          run = c.run_end-end.ensures.all;
          longest = c.run_end-end.ensures.stops;
        },
        refl,
      );
    }
