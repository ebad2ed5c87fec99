-- The grammar by concatenation and the grammar by what is left are one.
use Rattle.std.proofs.Common.{◌≡◌, List, [], ◌∷◌, ◌++◌, sym, refl, ap, ◌∙◌, subst, append_assoc, append-nil}
use Rattle.model.specs.Patterns.{Tree, ◌then◌, ◌or◌}
use Rattle.grammar.specs.Grammar.{repeated, Atom, kind, nothing, marked, group, Item, plain, times, Sequence, single, more, Pattern, lone, another}
use Rattle.grammar.specs.declared.Symbol.{Symbol}
use Rattle.grammar.specs.declared.Symbol.TheVariants.{Name, Empty, Letter, Caret, Bar, Repeat, Open, Close}
use Rattle.grammar.proofs.Leaving as g
use Rattle.grammar.proofs.Leaving.{AtomTo, ItemTo, SequenceTo, PatternTo}

mutual
  to_atom : {ts : List Symbol} {t : Tree} → Atom ts t → (r : List Symbol) → AtomTo (ts ++ r) r t
  to_atom (kind w) r = g.kind w
  to_atom nothing r = g.nothing
  to_atom (marked w l) r = g.marked w l
  to_atom (group {ts = ts} {t = t} h) r =
      subst (λ x. AtomTo (Open ∷ x) r t) (sym (append_assoc ts (Close ∷ []) r)) (g.group (to_pattern h (Close ∷ r)))

  to_item : {ts : List Symbol} {t : Tree} → Item ts t → (r : List Symbol) → ItemTo (ts ++ r) r t
  to_item (plain h) r = g.plain (to_atom h r)
  to_item (times {ts = ts} {t = t} s h) r =
      subst (λ x. ItemTo x r (repeated s t)) (sym (append_assoc ts (Repeat s ∷ []) r)) (g.times s (to_atom h (Repeat s ∷ r)))

  to_sequence : {ts : List Symbol} {t : Tree} → Sequence ts t → (r : List Symbol) → SequenceTo (ts ++ r) r t
  to_sequence (single h) r = g.single (to_item h r)
  to_sequence (more {ts = ts} {us = us} {t = t} {u = u} h k) r =
      subst (λ x. SequenceTo x r (t then u)) (sym (append_assoc ts us r)) (g.more (to_sequence h (us ++ r)) (to_item k r))

  to_pattern : {ts : List Symbol} {t : Tree} → Pattern ts t → (r : List Symbol) → PatternTo (ts ++ r) r t
  to_pattern (lone h) r = g.lone (to_sequence h r)
  to_pattern (another {ts = ts} {us = us} {t = t} {u = u} h k) r =
      subst (λ x. PatternTo x r (t or u)) (sym (append_assoc ts (Bar ∷ us) r)) (g.another (to_pattern h (Bar ∷ (us ++ r))) (to_sequence k r))

abbrev Front : (List Symbol → Tree → Type 0) → List Symbol → List Symbol → Tree → Type 0
Front P x r t = (ts : List Symbol) × (x ≡ ts ++ r) × P ts t

mutual
  from_atom : {x r : List Symbol} {t : Tree} → AtomTo x r t → Front Atom x r t
  from_atom (g.kind w) = (Name w ∷ [], refl, kind w)
  from_atom g.nothing = (Empty ∷ [], refl, nothing)
  from_atom (g.marked w l) = (Name w ∷ Caret ∷ Letter l ∷ [], refl, marked w l)
  from_atom (g.group {r = r} h) =
      let (ts, e, k) = from_pattern h in
      (Open ∷ (ts ++ Close ∷ []), ap (λ l. Open ∷ l) (e ∙ sym (append_assoc ts (Close ∷ []) r)), group k)

  from_item : {x r : List Symbol} {t : Tree} → ItemTo x r t → Front Item x r t
  from_item (g.plain h) = let (ts, e, k) = from_atom h in (ts, e, plain k)
  from_item (g.times {r = r} s h) =
      let (ts, e, k) = from_atom h in
      (ts ++ Repeat s ∷ [], e ∙ sym (append_assoc ts (Repeat s ∷ []) r), times s k)

  from_sequence : {x r : List Symbol} {t : Tree} → SequenceTo x r t → Front Sequence x r t
  from_sequence (g.single h) = let (ts, e, k) = from_item h in (ts, e, single k)
  from_sequence (g.more {r = r} h i) =
      let (ts, e, k) = from_sequence h in
      let (us, f, j) = from_item i in
      (ts ++ us, e ∙ ap (λ l. ts ++ l) f ∙ sym (append_assoc ts us r), more k j)

  from_pattern : {x r : List Symbol} {t : Tree} → PatternTo x r t → Front Pattern x r t
  from_pattern (g.lone h) = let (ts, e, k) = from_sequence h in (ts, e, lone k)
  from_pattern (g.another {r = r} h i) =
      let (ts, e, k) = from_pattern h in
      let (us, f, j) = from_sequence i in
      (ts ++ Bar ∷ us, e ∙ ap (λ l. ts ++ Bar ∷ l) f ∙ sym (append_assoc ts (Bar ∷ us) r), another k j)

pub to_whole : (ts : List Symbol) (t : Tree) → Pattern ts t → PatternTo ts [] t
to_whole ts t h = subst (λ x. PatternTo x [] t) (append-nil ts) (to_pattern h [])

pub from_whole : (ts : List Symbol) (t : Tree) → PatternTo ts [] t → Pattern ts t
from_whole ts t h =
    let (us, e, k) = from_pattern h in
    subst (λ x. Pattern x t) (sym (e ∙ append-nil us)) k
