-- What the reading of a text keeps from token to token.
use Rattle.std.proofs.Common.{◌≡◌, ℕ, ◌+◌, ◌-◌, ◌<◌, ◌≤◌, ◌⊎◌, List, [], ◌∷◌, ◌++◌, length, Some, None, Ok, Err, Option, Result, sym, refl, ap, ◌∙◌, subst, inl, inr, add-one, arith, MatchResult}
use Rattle.fault.specs.declared.PatternFault.{PatternFault}
use Rattle.fault.specs.declared.PatternFault.TheVariants.{Long, Byte, Unknown, Misplaced, Names, Nested}
use Rattle.model.specs.Patterns.{Tree, empty}
use Rattle.automaton.specs.Tables.{Recognises}
use Rattle.automaton.specs.declared.Automaton.{Automaton}
use Rattle.grammar.specs.Grammar as grammar
use Rattle.grammar.specs.Grammar.{Begins}
use Rattle.grammar.specs.Machine as machine
use Rattle.grammar.specs.Machine.{Mode, due, named, atomed, Level, level, State, at, step_at, run, start, finish}
use Rattle.grammar.specs.declared.Symbol.{Symbol}
use Rattle.grammar.specs.declared.Symbol.TheVariants.{Name, Empty, Letter, Caret, Bar, Repeat, Open, Close}
use Rattle.grammar.proofs.Sound.{sound, complete, alive, dead, run_++}
use Rattle.reader.specs.Symbols.{TokenFault}
use Rattle.reader.specs.Tokens.{EndAt, SymbolAt}
use Rattle.reader.proofs.Lexing.{cut_more}
use Rattle.pattern.specs.Texts.{counted, opened, names_of, open_of, token, at_end, Breaks, Sooner, FirstFault}
use Rattle.pattern.specs.Parsing.{Shows, Goes, Refuses, Ended}
use Rattle.pattern.specs.Verdicts.{Reading}
use Rattle.pattern.specs.declared.parser.Parser.{Parser}
use Rattle.pattern.proofs.Parsers.{levels_length, some_none}
use Rattle.pattern.proofs.Verdict.{Good, names_more, open_more, first_byte, first_unknown, first_misplaced, first_names, first_nested, unbroken}

-- ---- what one step does to the depth
-- the state, if there is one, has d open levels
abbrev Lies : ℕ → Option State → Type 0
Lies d None = Unit {0}
Lies d (Some (at gs b q m)) = length gs ≡ d

begun_lies : (fs : List Level) (b : Option Tree) (m : Mode) (o : Option (Option Tree)) → Lies (length fs) (machine.begun fs b m o)
begun_lies fs b m None = tt
begun_lies fs b m (Some q) = refl

mode_lies : (fs : List Level) (b q : Option Tree) (o : Option Mode) → Lies (length fs) (machine.in_mode fs b q o)
mode_lies fs b q None = tt
mode_lies fs b q (Some m) = refl

barred_lies : (fs : List Level) (b q o : Option Tree) → Lies (length fs) (machine.barred fs b q o)
barred_lies fs b q None = tt
barred_lies fs b q (Some t) = refl

opened_lies : (fs : List Level) (b : Option Tree) (o : Option (Option Tree)) → Lies (length fs + 1) (machine.opened fs b o)
opened_lies fs b None = tt
opened_lies fs b (Some q) = sym (add-one (length fs))

closed_lies : (fs : List Level) (b q o : Option Tree) → Lies (length fs - 1) (machine.closed fs b q o)
closed_lies [] b q o = tt
closed_lies (level c p ∷ fs) b q None = tt
closed_lies (level c p ∷ fs) b q (Some t) = omega arith

deeper : (fs : List Level) (b q : Option Tree) (m : Mode) (s : Symbol) → Lies (opened s (length fs)) (step_at fs b q m s)
deeper fs b q m (Name p) = begun_lies fs b (named p) (machine.begin q m)
deeper fs b q m Empty = begun_lies fs b (atomed empty) (machine.begin q m)
deeper fs b q m (Letter l) = mode_lies fs b q (machine.lettered l m)
deeper fs b q m Caret = mode_lies fs b q (machine.careted m)
deeper fs b q m Bar = barred_lies fs b q (machine.ready m)
deeper fs b q m (Repeat k) = mode_lies fs b q (machine.times_by k m)
deeper fs b q m Open = opened_lies fs b (machine.begin q m)
deeper fs b q m Close = closed_lies fs b q (machine.ready m)

-- ---- the turns
pub record Sofar (text : List ℕ) (from : ℕ) (p : Parser) : Type 0 where
  pub symbols : List Symbol
  pub good : Good text symbols from
  pub levels : List Level
  pub sequences : Option Tree
  pub items : Option Tree
  pub last : Mode
  pub ran : run (Some start) symbols ≡ Some (at levels sequences items last)
  pub shows : Shows p (names_of symbols) levels sequences items last
  pub deep : open_of symbols ≡ length levels

no_front : (us vs : List Symbol) → [] ≡ us ++ vs → open_of us ≤ 16
no_front [] vs e = omega arith
no_front (u ∷ us) vs e = let z : ◌≡◌ {A = ℕ} 0 1 = cc in absurd (omega arith)

pub first : (text : List ℕ) (p : Parser) → length text ≤ 512 → Shows p 0 [] None None due → Sofar text 0 p
first text p short h =
    record {
      symbols = [];
      good = record { short = short; cut = refl; begins = alive [] start refl; few = omega arith; shallow = no_front };
      levels = [];
      sequences = None;
      items = None;
      last = due;
      ran = refl;
      shows = h;
      deep = refl;
    }

-- the fronts of a list with one more at its end
fronts : (s : Symbol) (ts us vs : List Symbol) → ts ++ s ∷ [] ≡ us ++ vs → (us ≡ ts ++ s ∷ []) ⊎ ((ws : List Symbol) × (ts ≡ us ++ ws))
fronts s ts [] vs e = inr (ts, refl)
fronts s [] (u ∷ us) vs e = inl (cc (no_more us vs (cc)))
  where
    no_more : (us vs : List Symbol) → [] ≡ us ++ vs → us ≡ []
    no_more [] vs e = refl
    no_more (u ∷ us) vs e = let z : ◌≡◌ {A = ℕ} 0 1 = cc in absurd (omega arith)
fronts s (t ∷ ts) (u ∷ us) vs e = go (fronts s ts us vs (cc))
  where
    go : (us ≡ ts ++ s ∷ []) ⊎ ((ws : List Symbol) × (ts ≡ us ++ ws)) → (u ∷ us ≡ t ∷ (ts ++ s ∷ [])) ⊎ ((ws : List Symbol) × (t ∷ ts ≡ u ∷ (us ++ ws)))
    go (inl x) = inl (cc)
    go (inr (ws, x)) = inr (ws, cc)

some_run : (o : Option State) → run o [] ≡ o
some_run None = refl
some_run (Some s) = refl

module _ (text : List ℕ) (from : ℕ) (p : Parser) (h : Sofar text from p) where
  one_more : (s : Symbol) → run (Some start) (h.symbols ++ s ∷ []) ≡ step_at h.levels h.sequences h.items h.last s
  one_more s = run_++ (Some start) h.symbols (s ∷ []) ∙ ap (λ o. run o (s ∷ [])) h.ran ∙ some_run (step_at h.levels h.sequences h.items h.last s)

  -- a symbol is taken
  pub again : (after : Parser) (s : Symbol) (place to : ℕ) → SymbolAt text from s place to → Goes h.levels h.sequences h.items h.last s (names_of h.symbols) (Shows after) → Sofar text to after
  again after s place to a g =
      let names : names_of (h.symbols ++ s ∷ []) ≡ counted s (names_of h.symbols) = names_more 0 h.symbols (s ∷ []) in
      let now_open : open_of (h.symbols ++ s ∷ []) ≡ length g.levels = open_more 0 h.symbols (s ∷ []) ∙ ap (opened s) h.deep ∙ sym (subst (Lies (opened s (length h.levels))) g.step (deeper h.levels h.sequences h.items h.last s)) in
      let depth : after.levels.depth ≡ length g.levels = levels_length after.automaton g.shows.lo after.levels.held after.levels.depth g.levels g.shows.levels in
      let ran : run (Some start) (h.symbols ++ s ∷ []) ≡ Some (at g.levels g.sequences g.items g.last) = one_more s ∙ g.step in
      record {
        symbols = h.symbols ++ s ∷ [];
        good = record {
          short = h.good.short;
          cut = cut_more text 0 from place to s h.symbols h.good.cut a;
          begins = alive (h.symbols ++ s ∷ []) (at g.levels g.sequences g.items g.last) ran;
          few = omega (arith, g.shows.few);
          shallow = λ us vs e. shallow (omega (arith, after.levels.deep)) us (fronts s h.symbols us vs e);
        };
        levels = g.levels;
        sequences = g.sequences;
        items = g.items;
        last = g.last;
        ran = ran;
        shows = subst (λ n. Shows after n g.levels g.sequences g.items g.last) (sym names) g.shows;
        deep = now_open;
      }
    where
      shallow : open_of (h.symbols ++ s ∷ []) ≤ 16 → (us : List Symbol) → (us ≡ h.symbols ++ s ∷ []) ⊎ ((ws : List Symbol) × (h.symbols ≡ us ++ ws)) → open_of us ≤ 16
      shallow l us (inl e) = subst (λ ts. open_of ts ≤ 16) (sym e) l
      shallow l us (inr (ws, e)) = h.good.shallow us ws e

  goes_on : (s : Symbol) → (step_at h.levels h.sequences h.items h.last s ≡ None → ⊥) → (o : Option State) → step_at h.levels h.sequences h.items h.last s ≡ o → Begins (h.symbols ++ s ∷ [])
  goes_on s f None e = absurd (f e)
  goes_on s f (Some σ) e = alive (h.symbols ++ s ∷ []) σ (one_more s ∙ e)

  -- a symbol is refused
  pub refused : (f : PatternFault) (s : Symbol) (place to : ℕ) → SymbolAt text from s place to → Refuses h.levels h.sequences h.items h.last s (names_of h.symbols) place f → FirstFault text f
  refused (Misplaced x) s place to a (e, n) =
      subst (λ z. FirstFault text (Misplaced z)) (sym e) (first_misplaced text h.symbols from h.good place (token s to a (dead (h.symbols ++ s ∷ []) (one_more s ∙ n))))
  refused (Names x) s place to a (e, n, l, is, count) =
      subst (λ z. FirstFault text (Names z)) (sym e) (first_names text h.symbols from h.good l place to (subst (λ z. SymbolAt text from z place to) is a) (subst (λ z. Begins (h.symbols ++ z ∷ [])) is (goes_on s n _ refl)) count)
  refused (Nested x) s place to a (e, n, is, deep) =
      subst (λ z. FirstFault text (Nested z)) (sym e) (first_nested text h.symbols from h.good place to (subst (λ z. SymbolAt text from z place to) is a) (subst (λ z. Begins (h.symbols ++ z ∷ [])) is (goes_on s n _ refl)) (h.deep ∙ deep))
  refused (Long x) s place to a n = absurd n
  refused (Byte x) s place to a n = absurd n
  refused (Unknown x) s place to a n = absurd n

  -- a byte is refused, or a name is unknown
  pub unread : (f : PatternFault) → TokenFault text from f → FirstFault text f
  unread (Byte x) a = first_byte text h.symbols from h.good x a
  unread (Unknown x) (q, a) = first_unknown text h.symbols from h.good x q a
  unread (Long x) a = absurd a
  unread (Misplaced x) a = absurd a
  unread (Names x) a = absurd a
  unread (Nested x) a = absurd a

  no_pattern : finish (at h.levels h.sequences h.items h.last) ≡ None → (t : Tree) → grammar.Pattern h.symbols t → ⊥
  no_pattern e t w =
      let got = complete h.symbols t w in
      let same : Some (at h.levels h.sequences h.items h.last) ≡ Some got.0 = sym h.ran ∙ got.1 in
      let is : at h.levels h.sequences h.items h.last ≡ got.0 = cc in
      some_none (ap finish is ∙ got.2) e

  -- the end
  pub ends : (r : Result Automaton PatternFault) (place : ℕ) → EndAt text from → place ≡ length text → Ended p place r → MatchResult r (Reading text) (FirstFault text)
  ends r place e l d = go r (d (names_of h.symbols) h.levels h.sequences h.items h.last h.shows)
    where
      go : (r : Result Automaton PatternFault)
          → MatchResult r (λ a. (t : Tree) × (finish (at h.levels h.sequences h.items h.last) ≡ Some t) × Recognises a t) (λ f. (f ≡ Misplaced place) × (finish (at h.levels h.sequences h.items h.last) ≡ None))
          → MatchResult r (Reading text) (FirstFault text)
      go (Ok a) (t, f, rec) =
          let is : grammar.Pattern h.symbols t = sound h.symbols t (at h.levels h.sequences h.items h.last, h.ran, f) in
          record { unbroken = unbroken text h.symbols from h.good t e is; tree = t; gives = record { symbols = h.symbols; to = from; cut = h.good.cut; ends = e; is = is }; recognises = rec }
      go (Err f) (is, n) = subst (FirstFault text) (sym is) (first_misplaced text h.symbols from h.good place (at_end e l (no_pattern n)))

-- more than 512 bytes
pub too_long : (text : List ℕ) → 512 < length text → FirstFault text (Long 512)
too_long text l = record { token = 0; breaks = (refl, l, refl); first = first_of }
  where
    first_of : (j : ℕ) (g : PatternFault) → Breaks text j g → Sooner j g 0 (Long 512) → ⊥
    first_of j g b (inl k) = omega arith
    first_of j (Long x) b (inr (e, k)) = omega arith
    first_of j (Byte x) b (inr (e, k)) = omega arith
    first_of j (Unknown x) b (inr (e, k)) = omega arith
    first_of j (Misplaced x) b (inr (e, k)) = omega arith
    first_of j (Names x) b (inr (e, k)) = omega arith
    first_of j (Nested x) b (inr (e, k)) = omega arith
