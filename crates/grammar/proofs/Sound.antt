-- What the machine reads, the grammar reads; and from each state some symbols end it.
use Rattle.std.proofs.Common.{◌≡◌, ℕ, List, [], ◌∷◌, ◌++◌, Some, None, Option, sym, refl, ap, ◌∙◌, subst, arith}
use Rattle.grammar.specs.declared.Symbol.{Symbol}
use Rattle.grammar.specs.declared.Symbol.TheVariants.{Name, Empty, Letter, Caret, Bar, Repeat, Open, Close}
use Rattle.model.specs.declared.Label.{Label}
use Rattle.model.specs.Patterns.{Tree, name, empty}
use Rattle.model.specs.Records.{letter}
use Rattle.grammar.specs.declared.Times.{Times}
use Rattle.grammar.proofs.Leaving.{AtomTo, kind, nothing, marked, group, ItemTo, plain, times, SequenceTo, single, more, PatternTo, lone, another}
use Rattle.grammar.specs.Machine.{Mode, due, named, marking, atomed, itemed, Level, level, State, at, joined, or_else, step, step_at, run, start, finish, finished, ready, begin, begun, opened, barred, closed, times_by, careted, lettered, in_mode}
use Rattle.grammar.specs.Theorems.{Accepts}
use Rattle.grammar.specs.Grammar.{Pattern, Begins}
use Rattle.grammar.proofs.Plainly.{to_whole, from_whole}
use Rattle.grammar.proofs.Complete.{by_name, by_atom, ItemIn, as_atom, as_item, close_leads, pattern}

abbrev pub OnSome : {A : Type 0} → Option A → (A → Type 0) → Type 0
OnSome None P = Unit {0}
OnSome (Some a) P = P a

-- what is read, part by part: from x, with r left
pub data Alts : Option Tree → List Symbol → List Symbol → Type 0 where
  no_bar : {x : List Symbol} → Alts None x x
  before_bar : {x y : List Symbol} {t : Tree} → PatternTo x (Bar ∷ y) t → Alts (Some t) x y

pub data Items : Option Tree → List Symbol → List Symbol → Type 0 where
  no_item : {x : List Symbol} → Items None x x
  items : {x y : List Symbol} {t : Tree} → SequenceTo x y t → Items (Some t) x y

pub data Cur : Mode → List Symbol → List Symbol → Type 0 where
  is_due : {x : List Symbol} → Cur due x x
  is_named : {r : List Symbol} (w : Label) → Cur (named w) (Name w ∷ r) r
  is_marking : {r : List Symbol} (w : Label) → Cur (marking w) (Name w ∷ Caret ∷ r) r
  is_atom : {x r : List Symbol} {t : Tree} → AtomTo x r t → Cur (atomed t) x r
  is_item : {x r : List Symbol} {t : Tree} → ItemTo x r t → Cur (itemed t) x r

pub data Outer : List Level → List Symbol → List Symbol → Type 0 where
  top : {x : List Symbol} → Outer [] x x
  inner : {fs : List Level} {a q : Option Tree} {x y z r : List Symbol} → Outer fs x y → Alts a y z → Items q z (Open ∷ r) → Outer (level a q ∷ fs) x r

pub data Reads : State → List Symbol → List Symbol → Type 0 where
  reads : {fs : List Level} {a q : Option Tree} {m : Mode} {x y z w r : List Symbol} → Outer fs x y → Alts a y z → Items q z w → Cur m w r → Reads (at fs a q m) x r

-- the items with one more
longer : {q : Option Tree} {z w y : List Symbol} {u : Tree} → Items q z w → ItemTo w y u → SequenceTo z y (joined q u)
longer no_item i = single i
longer (items s) i = more s i

wider : {a : Option Tree} {x z y : List Symbol} {t : Tree} → Alts a x z → SequenceTo z y t → PatternTo x y (or_else a t)
wider no_bar s = lone s
wider (before_bar p) s = another p s

ready_reads : {q : Option Tree} {m : Mode} {z w y : List Symbol} → Items q z w → Cur m w y → OnSome (ready m) (λ u. SequenceTo z y (joined q u))
ready_reads i is_due = tt
ready_reads i (is_named w) = longer i (plain (kind w))
ready_reads i (is_marking w) = tt
ready_reads i (is_atom p) = longer i (plain p)
ready_reads i (is_item p) = longer i p

begin_reads : {q : Option Tree} {m : Mode} {z w y : List Symbol} → Items q z w → Cur m w y → OnSome (begin q m) (λ p. Items p z y)
begin_reads i is_due = i
begin_reads i (is_named w) = items (longer i (plain (kind w)))
begin_reads i (is_marking w) = tt
begin_reads i (is_atom p) = items (longer i (plain p))
begin_reads i (is_item p) = items (longer i p)

post_reads : {m : Mode} {w : List Symbol} (s : Times) (r : List Symbol) → Cur m w (Repeat s ∷ r) → OnSome (times_by s m) (λ n. Cur n w r)
post_reads s r is_due = tt
post_reads s r (is_named w) = is_item (times s (kind w))
post_reads s r (is_marking w) = tt
post_reads s r (is_atom p) = is_item (times s p)
post_reads s r (is_item p) = tt

caret_reads : {m : Mode} {w : List Symbol} (r : List Symbol) → Cur m w (Caret ∷ r) → OnSome (careted m) (λ n. Cur n w r)
caret_reads r is_due = tt
caret_reads r (is_named w) = is_marking w
caret_reads r (is_marking w) = tt
caret_reads r (is_atom p) = tt
caret_reads r (is_item p) = tt

letter_reads : {m : Mode} {w : List Symbol} (l : ℕ) (r : List Symbol) → Cur m w (Letter l ∷ r) → OnSome (lettered l m) (λ n. Cur n w r)
letter_reads l r is_due = tt
letter_reads l r (is_named w) = tt
letter_reads l r (is_marking w) = is_atom (marked w l)
letter_reads l r (is_atom p) = tt
letter_reads l r (is_item p) = tt

begun_reads : {fs : List Level} {a : Option Tree} {n : Mode} {x y z w r : List Symbol} → Outer fs x y → Alts a y z → Cur n w r → (o : Option (Option Tree)) → OnSome o (λ p. Items p z w) → OnSome (begun fs a n o) (λ s. Reads s x r)
begun_reads o a c None h = tt
begun_reads o a c (Some p) h = reads o a h c

opened_reads : {fs : List Level} {a : Option Tree} {x y z : List Symbol} (r : List Symbol) → Outer fs x y → Alts a y z → (o : Option (Option Tree)) → OnSome o (λ p. Items p z (Open ∷ r)) → OnSome (opened fs a o) (λ s. Reads s x r)
opened_reads r o a None h = tt
opened_reads r o a (Some p) h = reads (inner o a h) no_bar no_item is_due

barred_reads : {fs : List Level} {a : Option Tree} {x y z : List Symbol} (q : Option Tree) (r : List Symbol) → Outer fs x y → Alts a y z → (o : Option Tree) → OnSome o (λ u. SequenceTo z (Bar ∷ r) (joined q u)) → OnSome (barred fs a q o) (λ s. Reads s x r)
barred_reads q r o a None h = tt
barred_reads q r o a (Some u) h = reads o (before_bar (wider a h)) no_item is_due

closed_reads : {fs : List Level} {a : Option Tree} {x y z : List Symbol} (q : Option Tree) (r : List Symbol) → Outer fs x y → Alts a y z → (o : Option Tree) → OnSome o (λ u. SequenceTo z (Close ∷ r) (joined q u)) → OnSome (closed fs a q o) (λ s. Reads s x r)
closed_reads q r top a o h = tt
closed_reads q r (inner o b i) a None h = tt
closed_reads q r (inner o b i) a (Some u) h = reads o b i (is_atom (group (wider a h)))

mode_reads : {fs : List Level} {a q : Option Tree} {x y z w : List Symbol} (r : List Symbol) → Outer fs x y → Alts a y z → Items q z w → (o : Option Mode) → OnSome o (λ n. Cur n w r) → OnSome (in_mode fs a q o) (λ s. Reads s x r)
mode_reads r o a i None h = tt
mode_reads r o a i (Some n) h = reads o a i h

at_reads : {fs : List Level} {a : Option Tree} {m : Mode} {x y z w : List Symbol} (q : Option Tree) (c : Symbol) (r : List Symbol) → Outer fs x y → Alts a y z → Items q z w → Cur m w (c ∷ r) → OnSome (step_at fs a q m c) (λ s. Reads s x r)
at_reads q (Name k) r o a i c = begun_reads o a (is_named k) _ (begin_reads i c)
at_reads q Empty r o a i c = begun_reads o a (is_atom nothing) _ (begin_reads i c)
at_reads q (Letter l) r o a i c = mode_reads r o a i _ (letter_reads l r c)
at_reads q Caret r o a i c = mode_reads r o a i _ (caret_reads r c)
at_reads q Bar r o a i c = barred_reads q r o a _ (ready_reads i c)
at_reads q (Repeat s) r o a i c = mode_reads r o a i _ (post_reads s r c)
at_reads q Open r o a i c = opened_reads r o a _ (begin_reads i c)
at_reads q Close r o a i c = closed_reads q r o a _ (ready_reads i c)

-- matched in this way round, so that the left symbols stay a variable
step_reads : {s : State} {x y : List Symbol} → Reads s x y → (c : Symbol) (r : List Symbol) → y ≡ c ∷ r → OnSome (step s c) (λ s'. Reads s' x r)
step_reads (reads {q = q} {m = m} {w = w} o a i k) c r e = at_reads q c r o a i (subst (λ l. Cur m w l) e k)

pub run_reads : (x : List Symbol) (o : Option State) (ts : List Symbol) → OnSome o (λ s. Reads s x ts) → OnSome (run o ts) (λ s. Reads s x [])
run_reads x None ts h = tt
run_reads x (Some s) [] h = h
run_reads x (Some s) (c ∷ ts) h = run_reads x (step s c) ts (step_reads h c ts refl)

finished_reads : {a : Option Tree} {x z : List Symbol} (q : Option Tree) → Alts a x z → (o : Option Tree) → OnSome o (λ u. SequenceTo z [] (joined q u)) → OnSome (finished a q o) (λ t. PatternTo x [] t)
finished_reads q a None h = tt
finished_reads q a (Some u) h = wider a h

finish_at : {fs : List Level} {a : Option Tree} {m : Mode} {x y z w : List Symbol} (q : Option Tree) → Outer fs x y → Alts a y z → Items q z w → Cur m w [] → OnSome (finish (at fs a q m)) (λ t. PatternTo x [] t)
finish_at q top a i c = finished_reads q a _ (ready_reads i c)
finish_at q (inner o b j) a i c = tt

finish_reads : {s : State} {x y : List Symbol} → Reads s x y → y ≡ [] → OnSome (finish s) (λ t. PatternTo x [] t)
finish_reads (reads {q = q} {m = m} {w = w} o a i k) e = finish_at q o a i (subst (λ l. Cur m w l) e k)

pub sound : (ts : List Symbol) (t : Tree) → Accepts ts t → Pattern ts t
sound ts t h =
    let P : Option State → Type 0 = λ o. OnSome o (λ s. Reads s ts []) in
    let Q : Option Tree → Type 0 = λ o. OnSome o (λ u. PatternTo ts [] u) in
    from_whole ts t (subst Q h.2 (finish_reads (subst P h.1 (run_reads ts (Some start) ts (reads top no_bar no_item is_due))) refl))

is_ready : {m : Mode} {u : Tree} → ItemIn m u → ready m ≡ Some u
is_ready (as_atom (by_name w)) = refl
is_ready (as_atom (by_atom t)) = refl
is_ready (as_item t) = refl

pub complete : (ts : List Symbol) (t : Tree) → Pattern ts t → Accepts ts t
complete ts t p =
    let (a, q, m, u, i, e, l) = pattern (to_whole ts t p) [] in
    (at [] a q m, l, ap (finished a q) (is_ready i) ∙ ap {B = Option Tree} Some e)

pub run_++ : (o : Option State) (ts us : List Symbol) → run o (ts ++ us) ≡ run (run o ts) us
run_++ None ts us = refl
run_++ (Some s) [] us = refl
run_++ (Some s) (x ∷ ts) us = run_++ (step s x) ts us

-- from each state some symbols end it
abbrev Ends : State → Type 0
Ends s = (rest : List Symbol) × (e : State) × (t : Tree) × (run (Some s) rest ≡ Some e) × (finish e ≡ Some t)

ends_ready : (fs : List Level) (a q : Option Tree) (m : Mode) (u : Tree) → ItemIn m u → Ends (at fs a q m)
ends_ready [] a q m u i = ([], at [] a q m, or_else a (joined q u), refl, ap (finished a q) (is_ready i))
ends_ready (level b p ∷ fs) a q m u i =
    let (rest, e, t, r, f) = ends_ready fs b p (atomed (or_else a (joined q u))) (or_else a (joined q u)) (as_atom (by_atom _)) in
    (Close ∷ rest, e, t, close_leads fs b p a q m u rest i ∙ r, f)

ends_at : (fs : List Level) (a q : Option Tree) (m : Mode) → Ends (at fs a q m)
ends_at fs a q due =
    let (rest, e, t, r, f) = ends_ready fs a q (atomed empty) empty (as_atom (by_atom _)) in
    (Empty ∷ rest, e, t, r, f)
ends_at fs a q (named w) = ends_ready fs a q (named w) (name w None) (as_atom (by_name w))
ends_at fs a q (marking w) =
    let (rest, e, t, r, f) = ends_ready fs a q (atomed (name w (letter 1))) (name w (letter 1)) (as_atom (by_atom _)) in
    (Letter 1 ∷ rest, e, t, r, f)
ends_at fs a q (atomed t) = ends_ready fs a q (atomed t) t (as_atom (by_atom t))
ends_at fs a q (itemed t) = ends_ready fs a q (itemed t) t (as_item t)

ends : (s : State) → Ends s
ends (at fs a q m) = ends_at fs a q m

pub alive : (ts : List Symbol) (s : State) → run (Some start) ts ≡ Some s → Begins ts
alive ts s h =
    let (rest, e, t, r, f) = ends s in
    (rest, t, sound (ts ++ rest) t (e, run_++ (Some start) ts rest ∙ ap (λ o. run o rest) h ∙ r, f))

pub dead : (ts : List Symbol) → run (Some start) ts ≡ None → Begins ts → ⊥
dead ts h v =
    let got = complete (ts ++ v.0) v.1 v.2 in
    let lost : run (Some start) (ts ++ v.0) ≡ None = run_++ (Some start) ts v.0 ∙ ap (λ o. run o v.0) h in
    let z : ◌≡◌ {A = ℕ} 0 1 = cc (sym got.1 ∙ lost) in
    omega arith

pub one : (ts : List Symbol) (t u : Tree) → Pattern ts t → Pattern ts u → t ≡ u
one ts t u p q =
    let a = complete ts t p in
    let b = complete ts u q in
    cc (a.1, a.2, b.1, b.2)
