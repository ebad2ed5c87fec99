-- What the grammar reads, the machine reads.
use Rattle.std.proofs.Common.{◌≡◌, List, ◌∷◌, Some, None, Option, refl, ap, ◌∙◌}
use Rattle.grammar.specs.declared.Symbol.{Symbol}
use Rattle.grammar.specs.declared.Symbol.TheVariants.{Bar, Repeat, Close}
use Rattle.model.specs.declared.Label.{Label}
use Rattle.model.specs.Patterns.{Tree, name, empty, ◌or◌}
use Rattle.grammar.specs.declared.Times.{Times}
use Rattle.grammar.specs.Grammar.{repeated}
use Rattle.grammar.proofs.Leaving.{AtomTo, kind, nothing, marked, group, ItemTo, plain, times, SequenceTo, single, more, PatternTo, lone, another}
use Rattle.grammar.specs.Machine.{Mode, due, named, atomed, itemed, Level, level, State, at, joined, or_else, run}

-- the mode after an atom, and after an item
pub data AtomIn : Mode → Tree → Type 0 where
  by_name : (w : Label) → AtomIn (named w) (name w None)
  by_atom : (t : Tree) → AtomIn (atomed t) t

pub data ItemIn : Mode → Tree → Type 0 where
  as_atom : {m : Mode} {t : Tree} → AtomIn m t → ItemIn m t
  as_item : (t : Tree) → ItemIn (itemed t) t

-- from the state s the symbols x lead to the state of s' before r
abbrev pub Leads : State → List Symbol → State → List Symbol → Type 0
Leads s x s' r = run (Some s) x ≡ run (Some s') r

abbrev pub AfterAtom : List Level → Option Tree → Option Tree → List Symbol → List Symbol → Tree → Type 0
AfterAtom fs a q x r t = (m : Mode) × AtomIn m t × Leads (at fs a q due) x (at fs a q m) r

abbrev pub AfterItem : List Level → Option Tree → Option Tree → List Symbol → List Symbol → Tree → Type 0
AfterItem fs a q x r t = (m : Mode) × ItemIn m t × Leads (at fs a q due) x (at fs a q m) r

abbrev pub AfterSequence : List Level → Option Tree → List Symbol → List Symbol → Tree → Type 0
AfterSequence fs a x r t =
    (q : Option Tree) × (m : Mode) × (u : Tree) × ItemIn m u × (joined q u ≡ t) × Leads (at fs a None due) x (at fs a q m) r

abbrev pub AfterPattern : List Level → List Symbol → List Symbol → Tree → Type 0
AfterPattern fs x r t =
    (a : Option Tree) × (q : Option Tree) × (m : Mode) × (u : Tree) × ItemIn m u × (or_else a (joined q u) ≡ t) × Leads (at fs None None due) x (at fs a q m) r

-- an item that begins behind another joins that one to those before it
begins_atom : (fs : List Level) (a q : Option Tree) (m : Mode) (u : Tree) {x r : List Symbol} {t : Tree} → AtomTo x r t → ItemIn m u → Leads (at fs a q m) x (at fs a (Some (joined q u)) due) x
begins_atom fs a q m u (kind w) (as_atom (by_name v)) = refl
begins_atom fs a q m u (kind w) (as_atom (by_atom v)) = refl
begins_atom fs a q m u (kind w) (as_item v) = refl
begins_atom fs a q m u nothing (as_atom (by_name v)) = refl
begins_atom fs a q m u nothing (as_atom (by_atom v)) = refl
begins_atom fs a q m u nothing (as_item v) = refl
begins_atom fs a q m u (marked w l) (as_atom (by_name v)) = refl
begins_atom fs a q m u (marked w l) (as_atom (by_atom v)) = refl
begins_atom fs a q m u (marked w l) (as_item v) = refl
begins_atom fs a q m u (group p) (as_atom (by_name v)) = refl
begins_atom fs a q m u (group p) (as_atom (by_atom v)) = refl
begins_atom fs a q m u (group p) (as_item v) = refl

begins : (fs : List Level) (a q : Option Tree) (m : Mode) (u : Tree) {x r : List Symbol} {t : Tree} → ItemTo x r t → ItemIn m u → Leads (at fs a q m) x (at fs a (Some (joined q u)) due) x
begins fs a q m u (plain p) i = begins_atom fs a q m u p i
begins fs a q m u (times s p) i = begins_atom fs a q m u p i

bar_leads : (fs : List Level) (a q : Option Tree) (m : Mode) (u : Tree) (y : List Symbol) → ItemIn m u → Leads (at fs a q m) (Bar ∷ y) (at fs (Some (or_else a (joined q u))) None due) y
bar_leads fs a q m u y (as_atom (by_name v)) = refl
bar_leads fs a q m u y (as_atom (by_atom v)) = refl
bar_leads fs a q m u y (as_item v) = refl

pub close_leads : (fs : List Level) (b p a q : Option Tree) (m : Mode) (u : Tree) (y : List Symbol) → ItemIn m u → Leads (at (level b p ∷ fs) a q m) (Close ∷ y) (at fs b p (atomed (or_else a (joined q u)))) y
close_leads fs b p a q m u y (as_atom (by_name v)) = refl
close_leads fs b p a q m u y (as_atom (by_atom v)) = refl
close_leads fs b p a q m u y (as_item v) = refl

post_leads : (fs : List Level) (a q : Option Tree) (m : Mode) (u : Tree) (s : Times) (y : List Symbol) → AtomIn m u → Leads (at fs a q m) (Repeat s ∷ y) (at fs a q (itemed (repeated s u))) y
post_leads fs a q m u s y (by_name v) = refl
post_leads fs a q m u s y (by_atom v) = refl

mutual
  pub atom : {x r : List Symbol} {t : Tree} → AtomTo x r t → (fs : List Level) (a q : Option Tree) → AfterAtom fs a q x r t
  atom (kind w) fs a q = (named w, by_name w, refl)
  atom nothing fs a q = (atomed empty, by_atom empty, refl)
  atom (marked w l) fs a q = (atomed _, by_atom _, refl)
  atom (group {r = r} {t = t} p) fs a q =
      let (b, c, m, u, i, e, l) = pattern p (level a q ∷ fs) in
      (atomed t, by_atom t, l ∙ close_leads fs a q b c m u r i ∙ ap (λ v. run (Some (at fs a q (atomed v))) r) e)

  pub item : {x r : List Symbol} {t : Tree} → ItemTo x r t → (fs : List Level) (a q : Option Tree) → AfterItem fs a q x r t
  item (plain p) fs a q = let (m, i, l) = atom p fs a q in (m, as_atom i, l)
  item (times {r = r} {t = t} s p) fs a q =
      let (m, i, l) = atom p fs a q in
      (itemed (repeated s t), as_item (repeated s t), l ∙ post_leads fs a q m t s r i)

  pub sequence : {x r : List Symbol} {t : Tree} → SequenceTo x r t → (fs : List Level) (a : Option Tree) → AfterSequence fs a x r t
  sequence (single {t = t} p) fs a = let (m, i, l) = item p fs a None in (None, m, t, i, refl, l)
  sequence (more {y = y} {r = r} {t = t} {u = u} s p) fs a =
      let (q, m, v, i, e, l) = sequence s fs a in
      let (n, j, k) = item p fs a (Some t) in
      (Some t, n, u, j, refl, l ∙ begins fs a q m v p i ∙ ap (λ h. run (Some (at fs a (Some h) due)) y) e ∙ k)

  pub pattern : {x r : List Symbol} {t : Tree} → PatternTo x r t → (fs : List Level) → AfterPattern fs x r t
  pattern (lone p) fs = let (q, m, u, i, e, l) = sequence p fs None in (None, q, m, u, i, e, l)
  pattern (another {y = y} {r = r} {t = t} {u = u} p s) fs =
      let (a, q, m, v, i, e, l) = pattern p fs in
      let (c, n, w, j, d, k) = sequence s fs (Some t) in
      (Some t, c, n, w, j, ap (λ h. t or h) d, l ∙ bar_leads fs a q m v y i ∙ ap (λ h. run (Some (at fs (Some h) None due)) y) e ∙ k)
