-- The combinators on tables and fragments, against the theory.
use Rattle.std.proofs.Common.{◌≡◌, ℕ, ◌+◌, ◌^◌, ◌<◌, ◌≤◌, true, false, ◌≢◌, ◌⊎◌, ◌↔◌, List, [], ◌∷◌, length, get_or, set, Option, refl, ◌∙◌, inr, arith, get_or-set_other, get_or-set_same}
use Rattle.bits.specs.Bit.{Has}
use Rattle.model.specs.Patterns.{Tree, name, star, plus, Fits}
use Rattle.model.specs.Patterns.{Letter}
use Rattle.model.specs.Records.{mark_word}
use Rattle.automaton.specs.Readings.{Pair, Word, Reads}
use Rattle.automaton.specs.Run.{Edges, In, Same, then_frag, or_frag, star_frag, Stepped}
use Rattle.automaton.specs.Tables.{edges, at, frag, Compiled, Extends, Built, FitAt, InTurn, Either, Within}
use Rattle.automaton.specs.declared.Automaton.{Automaton}
use Rattle.automaton.specs.declared.Fragment.{Fragment}
use Rattle.automaton.proofs.Glushkov.{move, means_seq, means_alt, means_star, means_plus, means_name, reword, recognised, started}
use Rattle.bits.proofs.Bit.{has_one, has_or}
use lib.Bits.{bit_or}
use Rattle.model.specs.declared.Label.{Label}

flip : {A B : Type 0} → A ↔ B → B ↔ A
flip e = (e.1, e.0)

pub same_in : {A : Type 0} → A ↔ A
same_in = (λ x. x, λ x. x)

-- what `link` ensures
abbrev pub Joins : (rows rows' : List ℕ) (from to : ℕ) → Type 0
Joins rows rows' from to = (s q : ℕ) → Has (get_or rows' s 0) q ↔ (Has (get_or rows s 0) q ⊎ (Has from s × Has to q))

-- in b, which fits what a fits, more states follow
module _ (a b : Automaton) (fit : (q : ℕ) (x : Pair) → at a q x ↔ at b q x) where
  joins_keep : (from to lo : ℕ) → Joins a.follow b.follow from to → ((q : ℕ) → Has from q → lo ≤ q) → Extends a b lo
  joins_keep from to lo links above = record { rows = λ s q l. grind (arith, links s q, above s); ats = λ q x l. fit q x }

  pub then_built : (f g r : Fragment) → Joins a.follow b.follow f.last g.first → Same (frag r) (then_frag (frag f) (frag g)) → InTurn a b f g r
  then_built f g r links same lo mid hi p q h k m n = record {
    compiled = move (means_seq (at a) h k m n) (λ s x i. fit s x) (flip same.null) (λ s. flip (same.first s)) (λ s. flip (same.last s)) (λ s t i. flip (links s t));
    kept = joins_keep f.last g.first lo links (λ s b. (m.last_in s b).0);
  }

  pub star_built : (f r : Fragment) → Joins a.follow b.follow f.last f.first → Same (frag r) (star_frag (frag f)) → (lo hi : ℕ) (p : Tree) → Compiled a f lo hi p → Built a b r lo hi (star p)
  star_built f r links same lo hi p m = record {
    compiled = move (means_star (at a) m) (λ s x i. fit s x) (flip same.null) (λ s. flip (same.first s)) (λ s. flip (same.last s)) (λ s t i. flip (links s t));
    kept = joins_keep f.last f.first lo links (λ s b. (m.last_in s b).0);
  }

  pub plus_built : (f : Fragment) → Joins a.follow b.follow f.last f.first → (lo hi : ℕ) (p : Tree) → Compiled a f lo hi p → Built a b f lo hi (plus p)
  plus_built f links lo hi p m = record {
    compiled = move (means_plus (at a) m) (λ s x i. fit s x) same_in (λ s. same_in) (λ s. same_in) (λ s t i. flip (links s t));
    kept = joins_keep f.last f.first lo links (λ s b. (m.last_in s b).0);
  }

pub either_built : (a : Automaton) (f g r : Fragment) → Same (frag r) (or_frag (frag f) (frag g)) → Either a f g r
either_built a f g r same lo mid hi p q h k m n = move (means_alt (at a) h k m n) (λ s x i. same_in) (flip same.null) (λ s. flip (same.first s)) (λ s. flip (same.last s)) (λ s t i. same_in)

-- what `name` does to the tables
pub name_built : (a b : Automaton) → Within a → (label : Label) (mark r0 : ℕ) (m : Option Letter) → mark_word m ≡ mark → r0 ≡ 2 ^ a.count → ((q : ℕ) → edges b a.count q → ⊥)
    → ((s : ℕ) → s < a.count → get_or b.follow s 0 ≡ get_or a.follow s 0)
    → ((k q : ℕ) → FitAt b.fits b.any k q ↔ (FitAt a.fits a.any k q ⊎ ((q ≡ a.count) × Fits label k)))
    → ((k q : ℕ) → Has (get_or b.marked k 0) q ↔ (Has (get_or a.marked k 0) q ⊎ ((q ≡ a.count) × (k ≡ mark))))
    → Built a b (record { nullable = false; first = r0; last = r0 }) a.count (a.count + 1) (name label m)
name_built a b w label mark r0 m em er none old hf hm = record { compiled = move (reword words (means_name (at b) (edges b) a.count none)) (λ s x i. same_in) (absurd, λ e. absurd (cc)) bits bits (λ s t i. same_in); kept = record { rows = rows; ats = ats } }
  where
    bits : (q : ℕ) → (q ≡ a.count) ↔ Has r0 q
    bits q = rw er (flip (has_one a.count q))

    words : (u : List Pair) → ((x : Pair) × (u ≡ x ∷ []) × at b a.count x) ↔ Reads (name label m) u
    words u = (
      λ (x, e, (f, k)). (x, e, grind (arith, (hf x.0 a.count).0 f, w.fits x.0 a.count), grind (arith, (hm x.1 a.count).0 k, w.marked x.1 a.count, em)),
      λ (x, e, f, k). (x, e, ((hf x.0 a.count).1 (inr (refl, f)), (hm x.1 a.count).1 (inr (refl, k ∙ em)))),
    )

    rows : (s q : ℕ) → s < a.count → edges a s q ↔ edges b s q
    rows s q l = rw (old s l) same_in

    ats : (q : ℕ) (x : Pair) → q < a.count → at a q x ↔ at b q x
    ats q x l = grind (arith, hf x.0 q, hm x.1 q)

-- the new position is below the new count
pub name_fits : (a : Automaton) → Within a → (label : Label) (fits : List ℕ) (any : ℕ) → ((k q : ℕ) → FitAt fits any k q ↔ (FitAt a.fits a.any k q ⊎ ((q ≡ a.count) × Fits label k)))
    → (k q : ℕ) → FitAt fits any k q → q < a.count + 1
name_fits a w label fits any h k q x = grind (arith, (h k q).0 x, w.fits k q)

pub name_marks : (a : Automaton) → Within a → (mark : ℕ) (marked : List ℕ) → ((k q : ℕ) → Has (get_or marked k 0) q ↔ (Has (get_or a.marked k 0) q ⊎ ((q ≡ a.count) × (k ≡ mark))))
    → (k q : ℕ) → Has (get_or marked k 0) q → q < a.count + 1
name_marks a w mark marked h k q x = grind (arith, (h k q).0 x, w.marked k q)

-- what `finish` does to the tables
module _ (a : Automaton) (f : Fragment) (t : ℕ) (few : a.count ≤ 31) where
  -- which state follows which
  abbrev ends_edges : Edges
  ends_edges s q = Has (get_or (set a.follow 31 f.first) s 0) q

  pub finish_recognises : 31 < length a.follow → ((q : ℕ) → Has t q ↔ ((f.nullable ≡ true) × Has (2 ^ 31) q)) → (p : Tree) → Compiled a f 0 a.count p
      → (w : Word) → ((q : ℕ) × Stepped (at a) ends_edges (λ s. s ≡ 31) w q × Has (bit_or f.last t) q) ↔ Reads p w
  finish_recognises lt ht p m = recognised (at a) ends_edges (Has (bit_or f.last t)) 31 (Reads p) (started {E' = ends_edges} 31 (Has (bit_or f.last t)) m (λ i. omega (arith, few)) rows first accepts)
    where
      rows : (s q : ℕ) → In 0 a.count s → edges a s q ↔ ends_edges s q
      rows s q i = let ne : s ≢ 31 = omega (arith, few) in rw get_or-set_other same_in

      first : (q : ℕ) → ends_edges 31 q ↔ Has f.first q
      first q = rw get_or-set_same same_in

      accepts : (q : ℕ) → Has (bit_or f.last t) q ↔ (Has f.last q ⊎ ((f.nullable ≡ true) × (q ≡ 31)))
      accepts q = grind (arith, has_or f.last t q, ht q, has_one 31 q)
