-- What each turn of the parser does to what it shows.
use Rattle.std.proofs.Common.{◌≡◌, ℕ, suc, ◌+◌, ◌<◌, ◌≤◌, ◌↔◌, ◌⊎◌, inl, inr, List, [], ◌∷◌, length, get_or, Some, None, Option, sym, refl, ap, ◌∙◌, subst, add-one, arith, Ok, Err, Result, IsErrAnd}
use Rattle.fault.specs.declared.PatternFault.{PatternFault}
use Rattle.model.specs.Patterns.{Tree, name}
use Rattle.model.specs.Records.{letter}
use Rattle.model.specs.declared.Label.{Label}
use Rattle.automaton.specs.Tables.{Compiled, Extends, Built, Keeps, InTurn, Either, Within}
use Rattle.automaton.specs.declared.Automaton.{Automaton}
use Rattle.automaton.specs.declared.Fragment.{Fragment}
use Rattle.automaton.proofs.Glushkov.{move}
use Rattle.grammar.specs.Grammar as grammar
use Rattle.grammar.specs.Machine as machine
use Rattle.grammar.specs.Machine.{joined, or_else, ready, begin, begun, opened, barred, closed, times_by, careted, lettered, in_mode, finished, step_at, finish}
use Rattle.grammar.specs.declared.Symbol.TheVariants as symbol
use Rattle.grammar.specs.declared.Times.{Times}
use Rattle.pattern.specs.Parts.{Held, no_part, a_part, Last, is_due, is_named, is_marking, is_atom, is_item, no_level, OpenLevels, pending, Room, Added, JoinedTo, Repeated}
use Rattle.pattern.specs.Parsing.{Shown, Shows, LetGo, Whole, Goes}
use Rattle.pattern.specs.Stack.{Pushed, Popped}
use Rattle.pattern.specs.declared.levels.Level.{Level}
use Rattle.pattern.specs.declared.levels.Levels.{Levels}
use Rattle.pattern.specs.declared.parser.Mode.{Mode}
use Rattle.pattern.specs.declared.parser.Mode.TheVariants.{Due, Named, Marking, Atom, Item}
use Rattle.pattern.specs.declared.parser.Parser.{Parser}

same_in : {A : Type 0} → A ↔ A
same_in = (λ x. x, λ x. x)

-- ---- what stands on positions that are kept stays
extends_self : (a : Automaton) (n : ℕ) → Extends a a n
extends_self a n = record { rows = λ s q l. same_in; ats = λ q x l. same_in }

extends_down : {a b : Automaton} {n k : ℕ} → Extends a b n → k ≤ n → Extends a b k
extends_down e h = record { rows = λ s q l. e.rows s q (omega arith); ats = λ q x l. e.ats q x (omega arith) }

extends_on : {a b c : Automaton} {n : ℕ} → Extends a b n → Extends b c n → Extends a c n
extends_on e f = record {
  rows = λ s q l. grind (arith, e.rows s q, f.rows s q);
  ats = λ q x l. grind (arith, e.ats q x, f.ats q x);
}

compiled_kept : {a b : Automaton} {n : ℕ} (f : Fragment) (lo hi : ℕ) (t : Tree) → Extends a b n → hi ≤ n → Compiled a f lo hi t → Compiled b f lo hi t
compiled_kept f lo hi t e h m = move m (λ q x i. e.ats q x (omega arith)) same_in (λ q. same_in) (λ q. same_in) (λ s q i. e.rows s q (omega arith))

held_kept : {a b : Automaton} {n lo hi : ℕ} {o : Option Fragment} {t : Option Tree} → Extends a b n → hi ≤ n → Held a lo hi o t → Held b lo hi o t
held_kept e h (no_part z) = no_part z
held_kept {lo = lo} {hi = hi} e h (a_part {f = f} {t = t} l m) = a_part l (compiled_kept f lo hi t e h m)

held_le : {a : Automaton} {lo hi : ℕ} {o : Option Fragment} {t : Option Tree} → Held a lo hi o t → lo ≤ hi
held_le (no_part z) = omega arith
held_le (a_part l m) = l

levels_kept : {a b : Automaton} {n : ℕ} (hi : ℕ) (ls : List Level) (d : ℕ) (fs : List machine.Level) → Extends a b n → hi ≤ n → OpenLevels a hi ls d fs → OpenLevels b hi ls d fs
levels_kept hi ls d [] e h z = z
levels_kept hi ls d (machine.level b p ∷ fs) e h (k, lo, mid, s, o, x, y) =
    let l : lo ≤ mid = held_le x in
    let m : mid ≤ hi = held_le y in
    (k, lo, mid, s, levels_kept lo ls k fs e (omega arith) o, held_kept e (omega arith) x, held_kept e h y)

levels_same : (a : Automaton) (hi : ℕ) (ls ks : List Level) (d : ℕ) (fs : List machine.Level) → ((k : ℕ) → k < d → get_or ks k no_level ≡ get_or ls k no_level) → OpenLevels a hi ls d fs → OpenLevels a hi ks d fs
levels_same a hi ls ks d [] same z = z
levels_same a hi ls ks d (machine.level b p ∷ fs) same (k, lo, mid, s, o, x, y) =
    let e : get_or ks k no_level ≡ get_or ls k no_level = same k (omega arith) in
    (k, lo, mid, s, levels_same a lo ls ks k fs (λ j l. same j (omega arith)) o, subst (λ (z : Level). Held a lo mid z.sequences b) (sym e) x, subst (λ (z : Level). Held a mid hi z.items p) (sym e) y)

-- ---- the item that is read
-- What the machine has read last is a tree, and the item reads it.
abbrev pub Matches : Automaton → Automaton → ℕ → machine.Mode → Fragment → Type 0
Matches a b lo m f = (t : Tree) × (ready m ≡ Some t) × (b.count ≡ a.count + pending m) × Added a b lo f t

-- What the item leaves: an automaton of at most 31 positions, in which it matches what was read last.
abbrev pub Left : Automaton → Mode → Automaton → Fragment → Type 0
Left a mode b f = (b.count ≤ 31) × Within b × ((lo : ℕ) (m : machine.Mode) → Last a lo mode m → Matches a b lo m f)

pub named_left : {a b : Automaton} {mode : Mode} {l : Label} {f : Fragment} → mode ≡ Named l → Room a mode → b.count ≡ a.count + 1 → Within b → Built a b f a.count (a.count + 1) (name l None) → Left a mode b f
named_left {a = a} {b = b} {l = l} {f = f} is r n w h = (omega (arith, room.0), w, λ lo m k. matches lo m (subst (λ (x : Mode). Last a lo x m) is k))
  where
    room : Room a (Named l)
    room = subst (λ (x : Mode). Room a x) is r

    matches : (lo : ℕ) (m : machine.Mode) → Last a lo (Named l) m → Matches a b lo m f
    matches lo m (is_named e q k) = (name l None, refl, n, record { below = omega arith; built = subst (λ (x : ℕ). Built a b f x b.count (name l None)) (sym e) (subst (λ (x : ℕ). Built a b f a.count x (name l None)) (sym n) h) })

pub atom_left : {a : Automaton} {mode : Mode} {f : Fragment} → (mode ≡ Atom f) ⊎ (mode ≡ Item f) → a.count ≤ 31 → Within a → Left a mode a f
atom_left {a = a} {mode = mode} {f = f} is few w = (few, w, λ lo m. by_mode lo m is)
  where
    added : {lo : ℕ} {t : Tree} → lo ≤ a.count → Compiled a f lo a.count t → Added a a lo f t
    added {lo = lo} l h = record { below = l; built = record { compiled = h; kept = extends_self a lo } }

    atom : (lo : ℕ) (m : machine.Mode) → Last a lo (Atom f) m → Matches a a lo m f
    atom lo m (is_atom {t = t} l h) = (t, refl, omega arith, added l h)

    item : (lo : ℕ) (m : machine.Mode) → Last a lo (Item f) m → Matches a a lo m f
    item lo m (is_item {t = t} l h) = (t, refl, omega arith, added l h)

    by_mode : (lo : ℕ) (m : machine.Mode) → (mode ≡ Atom f) ⊎ (mode ≡ Item f) → Last a lo mode m → Matches a a lo m f
    by_mode lo m (inl e) k = atom lo m (subst (λ (x : Mode). Last a lo x m) e k)
    by_mode lo m (inr e) k = item lo m (subst (λ (x : Mode). Last a lo x m) e k)

pub levels_length : (a : Automaton) (hi : ℕ) (ls : List Level) (d : ℕ) (fs : List machine.Level) → OpenLevels a hi ls d fs → d ≡ length fs
levels_length a hi ls d [] z = z.0
levels_length a hi ls d (machine.level b p ∷ fs) (k, lo, mid, s, o, x, y) = s ∙ ap suc (levels_length a lo ls k fs o)

-- ---- the parts that are put together
pub joined_none : (a : Automaton) (f : Fragment) (lo mid : ℕ) (q : Option Tree) (t : Tree) → Held a lo mid None q → Compiled a f mid a.count t → Built a a f lo a.count (joined q t)
joined_none a f lo mid q t (no_part e) h = record { compiled = subst (λ (x : ℕ). Compiled a f x a.count t) (sym e) h; kept = extends_self a lo }

pub kept_self : (a : Automaton) → Keeps a a
kept_self a = record { count = refl; within = λ w. record { fits = w.fits; marked = w.marked } }

pub joined_some : (a b : Automaton) (g f r : Fragment) → b.count ≡ a.count → InTurn a b g f r → (lo mid : ℕ) (q : Option Tree) (t : Tree) → Held a lo mid (Some g) q → mid ≤ a.count → Compiled a f mid a.count t → Built a b r lo b.count (joined q t)
joined_some a b g f r e h lo mid q t (a_part {t = p} l m) k n = subst (λ (x : ℕ). Built a b r lo x (joined q t)) (sym e) (h lo mid a.count p t l k m n)

pub either_some : (a : Automaton) (g f r : Fragment) → Either a g f r → (lo mid : ℕ) (b : Option Tree) (t : Tree) → Held a lo mid (Some g) b → mid ≤ a.count → Compiled a f mid a.count t → Compiled a r lo a.count (or_else b t)
either_some a g f r h lo mid b t (a_part {t = p} l m) k n = h lo mid a.count p t l k m n

-- ---- what the parser shows when the item that is read stands behind those before it, in the automaton c
pub record Tail (p : Parser) (c : Automaton) (n : ℕ) (fs : List machine.Level) (b : Option Tree) (r : Fragment) (t : Tree) : Type 0 where
  pub lo : ℕ
  pub mid : ℕ
  pub below : mid ≤ c.count
  pub due : p.mode ≡ Due
  pub counted : n ≡ c.count
  pub few : n ≤ 31
  pub levels : OpenLevels c lo p.levels.held p.levels.depth fs
  pub sequences : Held c lo mid p.level.sequences b
  pub compiled : Compiled c r mid c.count t

pub tail : (p o : Parser) (c : Automaton) (n : ℕ) (fs : List machine.Level) (b q : Option Tree) (m : machine.Mode) (f r : Fragment) → Shows p n fs b q m
    → LetGo p o f → JoinedTo o.automaton c o.level.items f r → (t : Tree) × (ready m ≡ Some t) × Tail o c n fs b r (joined q t)
tail p o c n fs b q m f r h l (k, j) =
    let (t, e, count, x) = l.added h.hi m h.last in
    let first : Extends p.automaton o.automaton h.hi = x.built.kept in
    let le : h.lo ≤ h.mid = held_le h.sequences in
    let le2 : h.mid ≤ h.hi = held_le h.items in
    let made = j h.mid h.hi q t (rw l.level (held_kept first (omega arith) h.items)) x.below x.built.compiled in
    let on : Extends p.automaton c h.mid = extends_on (extends_down first (omega arith)) made.kept in (
      t,
      e,
      record {
        lo = h.lo;
        mid = h.mid;
        below = omega (arith, x.below, k.count);
        due = l.due;
        counted = h.counted ∙ sym count ∙ sym k.count;
        few = h.few;
        levels = rw l.levels (levels_kept h.lo p.levels.held p.levels.depth fs on le h.levels);
        sequences = rw l.level (held_kept on (omega arith) h.sequences);
        compiled = made.compiled;
      },
    )

-- ---- what the machine answers
pub some_none : {A : Type 0} {x : A} {o : Option A} → o ≡ Some x → o ≡ None → ⊥
some_none e f = cc

-- a fault that `?` passes on
pub passed_on : {T : Type 0} (r : Result T PatternFault) {e f : PatternFault} → IsErrAnd r (λ y. y ≡ e) → e ≡ f → r ≡ Err f
passed_on (Ok x) h i = absurd h
passed_on (Err y) h i = ap (λ z. Err z) (h ∙ i)

pub begin_some : (q : Option Tree) (m : machine.Mode) (t : Tree) → ready m ≡ Some t → begin q m ≡ Some (Some (joined q t))
begin_some q machine.due t e = cc
begin_some q (machine.named l) t e = cc
begin_some q (machine.marking l) t e = cc
begin_some q (machine.atomed u) t e = cc
begin_some q (machine.itemed u) t e = cc

pub begin_none : {a : Automaton} {lo : ℕ} {mode : Mode} {m : machine.Mode} (q : Option Tree) → Last a lo mode m → (mode ≡ Due → ⊥) → ready m ≡ None → begin q m ≡ None
begin_none q (is_due e) n r = absurd (n refl)
begin_none q (is_named e x k) n r = cc
begin_none q (is_marking e x k) n r = refl
begin_none q (is_atom l h) n r = cc
begin_none q (is_item l h) n r = cc

pub times_some : {a : Automaton} {lo : ℕ} {mode : Mode} {m : machine.Mode} (k : Times) (t : Tree) → Last a lo mode m → ((f : Fragment) → mode ≡ Item f → ⊥) → ready m ≡ Some t → times_by k m ≡ Some (machine.itemed (grammar.repeated k t))
times_some k t (is_due e) n r = cc
times_some k t (is_named e x y) n r = cc
times_some k t (is_marking e x y) n r = cc
times_some k t (is_atom l h) n r = cc
times_some k t (is_item {f = f} l h) n r = absurd (n f refl)

pub times_none : (k : Times) (m : machine.Mode) → ready m ≡ None → times_by k m ≡ None
times_none k machine.due r = refl
times_none k (machine.named l) r = cc
times_none k (machine.marking l) r = refl
times_none k (machine.atomed t) r = cc
times_none k (machine.itemed t) r = cc

pub times_item : {a : Automaton} {lo : ℕ} {f : Fragment} {m : machine.Mode} (k : Times) → Last a lo (Item f) m → times_by k m ≡ None
times_item k (is_item l h) = refl

pub no_letter : {a : Automaton} {lo : ℕ} {mode : Mode} {m : machine.Mode} (k : ℕ) → Last a lo mode m → ((l : Label) → mode ≡ Marking l → ⊥) → lettered k m ≡ None
no_letter k (is_due e) n = refl
no_letter k (is_named e x y) n = refl
no_letter k (is_marking {l = l} e x y) n = absurd (n l refl)
no_letter k (is_atom l h) n = refl
no_letter k (is_item l h) n = refl

pub no_caret : {a : Automaton} {lo : ℕ} {mode : Mode} {m : machine.Mode} → Last a lo mode m → ((l : Label) → mode ≡ Named l → ⊥) → careted m ≡ None
no_caret (is_due e) n = refl
no_caret (is_named {l = l} e x y) n = absurd (n l refl)
no_caret (is_marking e x y) n = refl
no_caret (is_atom l h) n = refl
no_caret (is_item l h) n = refl

pub closed_none : (fs : List machine.Level) (b q : Option Tree) → closed fs b q None ≡ None
closed_none [] b q = refl
closed_none (machine.level c p ∷ fs) b q = refl

pub finish_none : (fs : List machine.Level) (b q : Option Tree) (m : machine.Mode) → ready m ≡ None → finish (machine.at fs b q m) ≡ None
finish_none [] b q m e = ap (finished b q) e
finish_none (f ∷ fs) b q m e = refl

-- ---- what the parser shows after each turn
pub shown_new : (a : Automaton) (ls : Levels) (level : Level) → a.count ≡ 0 → ls.depth ≡ 0 → level.sequences ≡ None → level.items ≡ None → Shown a ls level Due 0 [] None None machine.due
shown_new a ls level e d none none' = record { lo = 0; mid = 0; hi = 0; counted = omega arith; few = omega arith; levels = (d, refl); sequences = rw none (no_part refl); items = rw none' (no_part refl); last = is_due (sym e) }

module _ (a : Automaton) (ls : Levels) (level : Level) (n : ℕ) (fs : List machine.Level) (b q : Option Tree) where
  -- nothing was read since the items
  pub was_due : (mode : Mode) (m : machine.Mode) → mode ≡ Due → Shown a ls level mode n fs b q m → (begin q m ≡ Some q) × Shown a ls level mode n fs b q machine.due
  was_due mode m e h = go m (subst (λ (x : Mode). Last a h.hi x m) e h.last) h
    where
      go : (m : machine.Mode) → {lo : ℕ} → Last a lo Due m → Shown a ls level mode n fs b q m → (begin q m ≡ Some q) × Shown a ls level mode n fs b q machine.due
      go m (is_due z) k = (refl, k)

  -- another mode in an automaton that keeps the parts
  pub with_last : {mode : Mode} (m : machine.Mode) (c : Automaton) (mode' : Mode) (k : ℕ) (u : machine.Mode) (h : Shown a ls level mode n fs b q m)
      → Extends a c h.hi → k ≡ c.count + pending u → k ≤ 31 → Last c h.hi mode' u → Shown c ls level mode' k fs b q u
  with_last m c mode' k u h x e few l =
      let le : h.lo ≤ h.mid = held_le h.sequences in
      let le2 : h.mid ≤ h.hi = held_le h.items in
      record {
        lo = h.lo;
        mid = h.mid;
        hi = h.hi;
        counted = e;
        few = few;
        levels = levels_kept h.lo ls.held ls.depth fs x (omega arith) h.levels;
        sequences = held_kept x (omega arith) h.sequences;
        items = held_kept x (omega arith) h.items;
        last = l;
      }

  -- another mode over the same parts
  pub with_mode : {mode : Mode} (m : machine.Mode) (mode' : Mode) (k : ℕ) (u : machine.Mode) (h : Shown a ls level mode n fs b q m) → k ≡ a.count + pending u → k ≤ 31 → Last a h.hi mode' u
      → Shown a ls level mode' k fs b q u
  with_mode m mode' k u h e few l = with_last m a mode' k u h (extends_self a h.hi) e few l

-- the item that was read stands behind the others
pub settled : (p : Parser) (c : Automaton) (n : ℕ) (fs : List machine.Level) (b : Option Tree) (r : Fragment) (t : Tree) → Tail p c n fs b r t
    → Shown c p.levels (record { sequences = p.level.sequences; items = Some r }) p.mode n fs b (Some t) machine.due
settled p c n fs b r t h = record {
  lo = h.lo;
  mid = h.mid;
  hi = c.count;
  counted = omega (arith, h.counted);
  few = h.few;
  levels = h.levels;
  sequences = h.sequences;
  items = a_part h.below h.compiled;
  last = subst (λ (x : Mode). Last c c.count x machine.due) (sym h.due) (is_due refl);
}

pub whole : (p : Parser) (c : Automaton) (n : ℕ) (fs : List machine.Level) (b : Option Tree) (r f : Fragment) (t u : Tree) (h : Tail p c n fs b r t) → Compiled c f h.lo c.count u → Whole c p.levels p.mode n fs f u
whole p c n fs b r f t u h x =
    let le : h.lo ≤ h.mid = held_le h.sequences in
    record { lo = h.lo; below = omega (arith, h.below); due = h.due; counted = h.counted; few = h.few; levels = h.levels; compiled = x }

module _ (a : Automaton) (ls : Levels) (mode : Mode) (n : ℕ) where
  -- a sequence ends: it stands with those before it
  pub barred_shows : (fs : List machine.Level) (f : Fragment) (t : Tree) → Whole a ls mode n fs f t → Shown a ls (record { sequences = Some f; items = None }) mode n fs (Some t) None machine.due
  barred_shows fs f t h = record {
    lo = h.lo;
    mid = a.count;
    hi = a.count;
    counted = omega (arith, h.counted);
    few = h.few;
    levels = h.levels;
    sequences = a_part h.below h.compiled;
    items = no_part refl;
    last = subst (λ (x : Mode). Last a a.count x machine.due) (sym h.due) (is_due refl);
  }

  -- a parenthesis opens
  pub opened_shows : (ks : Levels) (level level' : Level) (fs : List machine.Level) (b q : Option Tree) → Pushed ls ks level → level'.sequences ≡ None → level'.items ≡ None → Shown a ls level mode n fs b q machine.due
      → Shown a ks level' mode n (machine.level b q ∷ fs) None None machine.due
  opened_shows ks level level' fs b q p none none' h = record {
    lo = h.hi;
    mid = h.hi;
    hi = h.hi;
    counted = h.counted;
    few = h.few;
    levels = (
      ls.depth,
      h.lo,
      h.mid,
      p.deeper ∙ add-one ls.depth,
      levels_same a h.lo ls.held ks.held ls.depth fs p.below h.levels,
      subst (λ (z : Level). Held a h.lo h.mid z.sequences b) (sym p.top) h.sequences,
      subst (λ (z : Level). Held a h.mid h.hi z.items q) (sym p.top) h.items,
    );
    sequences = rw none (no_part refl);
    items = rw none' (no_part refl);
    last = h.last;
  }

  -- a parenthesis closes: the level before it comes back
  pub closed_goes : (ks : Levels) (level : Level) (fs : List machine.Level) (b q : Option Tree) (m : machine.Mode) (f : Fragment) (t : Tree) → Popped ls ks level → ready m ≡ Some t
      → Whole a ls mode n fs f (or_else b (joined q t)) → Goes fs b q m symbol.Close n (Shown a ks level (Atom f))
  closed_goes ks level [] b q m f t p e h = let z : ls.depth ≡ 0 = h.levels.0 in absurd (omega (arith, p.shallower))
  closed_goes ks level (machine.level c r ∷ fs) b q m f t p e h =
      let (k, lo, mid, s, o, x, y) = h.levels in
      let d : k ≡ ks.depth = omega (arith, p.shallower) in
      record {
        levels = fs;
        sequences = c;
        items = r;
        last = machine.atomed (or_else b (joined q t));
        step = ap (closed (machine.level c r ∷ fs) b q) e;
        shows = record {
          lo = lo;
          mid = mid;
          hi = h.lo;
          counted = omega (arith, h.counted);
          few = h.few;
          levels = rw (p.below, ← d) o;
          sequences = rw (p.top, ← d) x;
          items = rw (p.top, ← d) y;
          last = is_atom h.below h.compiled;
        };
      }

  pub none_open : (fs : List machine.Level) (b q : Option Tree) (f : Fragment) (t : Tree) (o : Option Tree) → ls.depth ≡ 0 → Whole a ls mode n fs f t → closed fs b q o ≡ None
  none_open [] b q f t o e h = refl
  none_open (machine.level c r ∷ fs) b q f t o e h = let (k, lo, mid, s, l, x, y) = h.levels in absurd (omega arith)

  -- the end
  pub some_open : (fs : List machine.Level) (b q : Option Tree) (m : machine.Mode) (f : Fragment) (t : Tree) → 0 < ls.depth → Whole a ls mode n fs f t → finish (machine.at fs b q m) ≡ None
  some_open [] b q m f t l h = let (e, z) = h.levels in absurd (omega arith)
  some_open (g ∷ fs) b q m f t l h = refl

  pub ended : (fs : List machine.Level) (b q : Option Tree) (m : machine.Mode) (f : Fragment) (t : Tree) → ls.depth ≤ 0 → Whole a ls mode n fs f (or_else b (joined q t)) → ready m ≡ Some t
      → (finish (machine.at fs b q m) ≡ Some (or_else b (joined q t))) × Compiled a f 0 a.count (or_else b (joined q t))
  ended [] b q m f t l h e = (ap (finished b q) e, subst (λ (x : ℕ). Compiled a f x a.count (or_else b (joined q t))) h.levels.1 h.compiled)
  ended (machine.level c r ∷ fs) b q m f t l h e = let (k, lo, mid, s, o, x, y) = h.levels in absurd (omega arith)

pub last_due : {a : Automaton} {lo : ℕ} {mode : Mode} → Last a lo mode machine.due → lo ≡ a.count
last_due (is_due e) = e

module _ (a : Automaton) (ls : Levels) (level : Level) (mode : Mode) (n : ℕ) (fs : List machine.Level) (b q : Option Tree) (m : machine.Mode) where
  -- a letter behind a name and `^`
  pub marked_goes : (l : Label) (k : ℕ) (c : Automaton) (f : Fragment) → mode ≡ Marking l → Shown a ls level mode n fs b q m → c.count ≡ a.count + 1 → Built a c f a.count (a.count + 1) (name l (letter k))
      → Goes fs b q m (symbol.Letter k) n (Shown c ls level (Atom f))
  marked_goes l k c f is h e d = go m (subst (λ (x : Mode). Last a h.hi x m) is h.last) h refl
    where
      go : (m : machine.Mode) {lo : ℕ} → Last a lo (Marking l) m → (h : Shown a ls level mode n fs b q m) → lo ≡ h.hi → Goes fs b q m (symbol.Letter k) n (Shown c ls level (Atom f))
      go m (is_marking z r y) g same =
          let here : g.hi ≡ a.count = sym same ∙ z in
          let built : Built a c f g.hi c.count (name l (letter k)) = subst (λ (x : ℕ). Built a c f x c.count (name l (letter k))) (sym here) (subst (λ (x : ℕ). Built a c f a.count x (name l (letter k))) (sym e) d) in
          record {
            levels = fs;
            sequences = b;
            items = q;
            last = machine.atomed (name l (letter k));
            step = refl;
            shows = with_last a ls level n fs b q (machine.marking l) c (Atom f) n (machine.atomed (name l (letter k))) g built.kept (omega (arith, g.counted)) g.few (is_atom (omega arith) built.compiled);
          }

  -- `^` behind a name
  pub careted_goes : (l : Label) → mode ≡ Named l → Shown a ls level mode n fs b q m → Goes fs b q m symbol.Caret n (Shown a ls level (Marking l))
  careted_goes l is h = go m (subst (λ (x : Mode). Last a h.hi x m) is h.last) h refl
    where
      go : (m : machine.Mode) {lo : ℕ} → Last a lo (Named l) m → (h : Shown a ls level mode n fs b q m) → lo ≡ h.hi → Goes fs b q m symbol.Caret n (Shown a ls level (Marking l))
      go m (is_named z r y) g same =
          record { levels = fs; sequences = b; items = q; last = machine.marking l; step = refl; shows = with_mode a ls level n fs b q (machine.named l) (Marking l) n (machine.marking l) g g.counted g.few (is_marking (sym same ∙ z) r y) }

-- `*`, `+` or `?` behind an atom
pub repeated_goes : (p o : Parser) (n : ℕ) (fs : List machine.Level) (b q : Option Tree) (m : machine.Mode) (k : Times) (c : Automaton) (f r : Fragment) → Shows p n fs b q m
    → ((g : Fragment) → p.mode ≡ Item g → ⊥) → LetGo p o f → Repeated o.automaton c k f r → Goes fs b q m (symbol.Repeat k) n (Shown c o.levels o.level (Item r))
repeated_goes p o n fs b q m k c f r h ne l (keeps, d) =
    let (t, e, count, x) = l.added h.hi m h.last in
    let made = d h.hi t x.built.compiled in
    record {
      levels = fs;
      sequences = b;
      items = q;
      last = machine.itemed (grammar.repeated k t);
      step = ap (in_mode fs b q) (times_some k t h.last ne e);
      shows = rw (l.levels, l.level) (with_last p.automaton p.levels p.level n fs b q m c (Item r) n (machine.itemed (grammar.repeated k t)) h (extends_on x.built.kept made.kept) (omega (arith, h.counted, keeps.count)) h.few (is_item (omega (arith, x.below, keeps.count)) made.compiled));
    }
