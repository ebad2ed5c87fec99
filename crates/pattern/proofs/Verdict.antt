-- A text has at most one tree and at most one first fault; and what is needed to say that a fault is the first.
use Rattle.std.proofs.Common.{◌≡◌, ℕ, ◌+◌, ◌<◌, ◌≤◌, ◌⊎◌, List, [], ◌∷◌, ◌++◌, length, sym, refl, ap, ◌∙◌, subst, inl, inr, append_assoc, arith}
use native.Mathlib.Decide.{dec_lt}
use Rattle.fault.specs.Faults.{pattern_number}
use Rattle.fault.specs.declared.PatternFault.{PatternFault}
use Rattle.fault.specs.declared.PatternFault.TheVariants.{Long, Byte, Unknown, Misplaced, Names, Nested}
use Rattle.model.specs.Patterns.{Tree}
use Rattle.model.specs.declared.Label.{Label}
use Rattle.grammar.specs.Grammar as grammar
use Rattle.grammar.specs.Grammar.{Begins}
use Rattle.grammar.specs.declared.Symbol.{Symbol}
use Rattle.grammar.specs.declared.Symbol.TheVariants.{Name, Empty, Letter, Caret, Bar, Repeat, Open, Close}
use Rattle.grammar.proofs.Sound.{one}
use Rattle.reader.specs.Symbols.{Cut}
use Rattle.reader.specs.Tokens.{ByteAt, EndAt, SymbolAt, UnknownAt}
use Rattle.reader.specs.declared.class.Class.TheVariants.{Refused}
use Rattle.reader.proofs.Lexing.{First, symbol_first, name_first, byte_first, first_one, end_first, symbol_one, symbol_refused, symbol_unknown, unknown_refused, cut_one, cut_split, split_at}
use Rattle.pattern.specs.Texts.{Gives, counted, opened, names_from, open_from, names_of, open_of, Before, MisplacedAt, token, at_end, Breaks, Sooner, FirstFault, Unbroken}

-- ---- one reading
-- cut up to the end, a text has one list of symbols
whole_one : (text : List ℕ) (from to end : ℕ) (ts us : List Symbol) → Cut text from ts to → EndAt text to → Cut text from us end → EndAt text end → ts ≡ us
whole_one text from to end [] [] c e d f = refl
whole_one text from to end [] (u ∷ us) c e (p, q, a, d) f = absurd (end_first (subst (EndAt text) (sym c) e) (symbol_first a))
whole_one text from to end (s ∷ ts) [] (p, q, a, c) e d f = absurd (end_first (subst (EndAt text) (sym d) f) (symbol_first a))
whole_one text from to end (s ∷ ts) (u ∷ us) (p, q, a, c) e (x, y, b, d) f =
    let (same, _, on) = symbol_one a b in
    let rest = whole_one text q to end ts us c e (subst (λ z. Cut text z us end) (sym on) d) f in
    cc

pub one_tree : (text : List ℕ) (t u : Tree) → Gives text t → Gives text u → t ≡ u
one_tree text t u g h =
    let same = whole_one text 0 g.to h.to g.symbols h.symbols g.cut g.ends h.cut h.ends in
    one h.symbols t u (subst (λ ts. grammar.Pattern ts t) same g.is) h.is

-- ---- one first fault
ends_one : (text : List ℕ) (i : ℕ) (b c : Before text i) → b.to ≡ c.to
ends_one text i b c = (cut_one text 0 b.to c.to b.symbols c.symbols b.cut c.cut (b.many ∙ sym c.many)).1

-- where the misplaced token stands
misplaced_first : {text : List ℕ} {ts : List Symbol} {to p : ℕ} → MisplacedAt text ts to p → First text to p ⊎ (EndAt text to × (p ≡ length text))
misplaced_first (token s q a n) = inl (symbol_first a)
misplaced_first (at_end e l n) = inr (e, l)

places_one : (text : List ℕ) (to p q : ℕ) → First text to p ⊎ (EndAt text to × (p ≡ length text)) → First text to q ⊎ (EndAt text to × (q ≡ length text)) → p ≡ q
places_one text to p q (inl a) (inl b) = first_one a b
places_one text to p q (inl a) (inr (e, l)) = absurd (end_first e a)
places_one text to p q (inr (e, l)) (inl b) = absurd (end_first e b)
places_one text to p q (inr (e, l)) (inr (f, k)) = l ∙ sym k

-- the same rule is broken by the same token at one place
same_rule : (text : List ℕ) (i : ℕ) (f g : PatternFault) → pattern_number f ≡ pattern_number g → Breaks text i f → Breaks text i g → f ≡ g
same_rule text i (Long p) (Long q) e (z, l, x) (w, k, y) = ap Long (x ∙ sym y)
same_rule text i (Byte p) (Byte q) e (b, x) (c, y) = ap Byte (first_one (byte_first Refused (subst (λ n. ByteAt text n Refused p) (ends_one text i b c) x) (λ z. omega arith)) (byte_first Refused y (λ z. omega arith)))
same_rule text i (Unknown p) (Unknown q) e (b, m, x) (c, n, y) = ap Unknown (first_one (name_first (subst (λ k. UnknownAt text k p m) (ends_one text i b c) x).name) (name_first y.name))
same_rule text i (Misplaced p) (Misplaced q) e (b, x) (c, y) =
    ap Misplaced (places_one text c.to p q (subst (λ k. First text k p ⊎ (EndAt text k × (p ≡ length text))) (ends_one text i b c) (misplaced_first x)) (misplaced_first y))
same_rule text i (Names p) (Names q) e (b, l, m, x, s) (c, k, n, y, t) = ap Names (first_one (subst (λ z. First text z p) (ends_one text i b c) (symbol_first x)) (symbol_first y))
same_rule text i (Nested p) (Nested q) e (b, m, x, s) (c, n, y, t) = ap Nested (first_one (subst (λ z. First text z p) (ends_one text i b c) (symbol_first x)) (symbol_first y))
same_rule text i (Long p) (Byte q) e x y = absurd (omega arith)
same_rule text i (Long p) (Unknown q) e x y = absurd (omega arith)
same_rule text i (Long p) (Misplaced q) e x y = absurd (omega arith)
same_rule text i (Long p) (Names q) e x y = absurd (omega arith)
same_rule text i (Long p) (Nested q) e x y = absurd (omega arith)
same_rule text i (Byte p) (Long q) e x y = absurd (omega arith)
same_rule text i (Byte p) (Unknown q) e x y = absurd (omega arith)
same_rule text i (Byte p) (Misplaced q) e x y = absurd (omega arith)
same_rule text i (Byte p) (Names q) e x y = absurd (omega arith)
same_rule text i (Byte p) (Nested q) e x y = absurd (omega arith)
same_rule text i (Unknown p) (Long q) e x y = absurd (omega arith)
same_rule text i (Unknown p) (Byte q) e x y = absurd (omega arith)
same_rule text i (Unknown p) (Misplaced q) e x y = absurd (omega arith)
same_rule text i (Unknown p) (Names q) e x y = absurd (omega arith)
same_rule text i (Unknown p) (Nested q) e x y = absurd (omega arith)
same_rule text i (Misplaced p) (Long q) e x y = absurd (omega arith)
same_rule text i (Misplaced p) (Byte q) e x y = absurd (omega arith)
same_rule text i (Misplaced p) (Unknown q) e x y = absurd (omega arith)
same_rule text i (Misplaced p) (Names q) e x y = absurd (omega arith)
same_rule text i (Misplaced p) (Nested q) e x y = absurd (omega arith)
same_rule text i (Names p) (Long q) e x y = absurd (omega arith)
same_rule text i (Names p) (Byte q) e x y = absurd (omega arith)
same_rule text i (Names p) (Unknown q) e x y = absurd (omega arith)
same_rule text i (Names p) (Misplaced q) e x y = absurd (omega arith)
same_rule text i (Names p) (Nested q) e x y = absurd (omega arith)
same_rule text i (Nested p) (Long q) e x y = absurd (omega arith)
same_rule text i (Nested p) (Byte q) e x y = absurd (omega arith)
same_rule text i (Nested p) (Unknown q) e x y = absurd (omega arith)
same_rule text i (Nested p) (Misplaced q) e x y = absurd (omega arith)
same_rule text i (Nested p) (Names q) e x y = absurd (omega arith)

pub one_fault : (text : List ℕ) (f g : PatternFault) → FirstFault text f → FirstFault text g → f ≡ g
one_fault text f g a b = elim (dec_lt a.token b.token) [
  | yes l ↦ absurd (b.first a.token f a.breaks (inl l))
  | no l ↦ elim (dec_lt b.token a.token) [
    | yes k ↦ absurd (a.first b.token g b.breaks (inl k))
    | no k ↦ same_token (omega arith)
  ]
]
  where
    same_token : a.token ≡ b.token → f ≡ g
    same_token e = elim (dec_lt (pattern_number f) (pattern_number g)) [
      | yes l ↦ absurd (b.first a.token f a.breaks (inr (e, l)))
      | no l ↦ elim (dec_lt (pattern_number g) (pattern_number f)) [
        | yes k ↦ absurd (a.first b.token g b.breaks (inr (sym e, k)))
        | no k ↦ same_rule text b.token f g (omega arith) (subst (λ i. Breaks text i f) e a.breaks) b.breaks
      ]
    ]

pub unbroken_none : (text : List ℕ) (f : PatternFault) → Unbroken text → FirstFault text f → ⊥
unbroken_none text f u a = u a.token f a.breaks

-- ---- symbols that break no rule
pub record Good (text : List ℕ) (ts : List Symbol) (to : ℕ) : Type 0 where
  pub short : length text ≤ 512
  pub cut : Cut text 0 ts to
  pub begins : Begins ts
  pub few : names_of ts ≤ 31
  pub shallow : (us vs : List Symbol) → ts ≡ us ++ vs → open_of us ≤ 16

begins_front : (us vs : List Symbol) → Begins (us ++ vs) → Begins us
begins_front us vs (rest, t, p) = (vs ++ rest, t, subst (λ ts. grammar.Pattern ts t) (append_assoc us vs rest) p)

pub names_more : (n : ℕ) (ts us : List Symbol) → names_from n (ts ++ us) ≡ names_from (names_from n ts) us
names_more n [] us = refl
names_more n (t ∷ ts) us = names_more (counted t n) ts us

pub open_more : (d : ℕ) (ts us : List Symbol) → open_from d (ts ++ us) ≡ open_from (open_from d ts) us
open_more d [] us = refl
open_more d (t ∷ ts) us = open_more (opened t d) ts us

counted_grows : (s : Symbol) (n : ℕ) → n ≤ counted s n
counted_grows (Name l) n = omega arith
counted_grows Empty n = omega arith
counted_grows (Letter m) n = omega arith
counted_grows Caret n = omega arith
counted_grows Bar n = omega arith
counted_grows (Repeat k) n = omega arith
counted_grows Open n = omega arith
counted_grows Close n = omega arith

names_grow : (ts : List Symbol) (n : ℕ) → n ≤ names_from n ts
names_grow [] n = omega arith
names_grow (t ∷ ts) n = omega (arith, counted_grows t n, names_grow ts (counted t n))

-- the token behind the symbols us is the symbol s, with which some pattern begins, which is not the 32nd name and not the
-- 17th open parenthesis: it breaks no rule
fine : (text : List ℕ) (us : List Symbol) (to : ℕ) (s : Symbol) (p q : ℕ) → length text ≤ 512 → Cut text 0 us to → SymbolAt text to s p q → Begins (us ++ s ∷ [])
    → names_of (us ++ s ∷ []) ≤ 31 → open_of (us ++ s ∷ []) ≤ 16 → (g : PatternFault) → Breaks text (length us) g → ⊥
fine text us to s p q short cut a begins few shallow (Long x) (z, l, e) = omega arith
fine text us to s p q short cut a begins few shallow (Byte x) (b, y) =
    let (_, e) = cut_one text 0 b.to to b.symbols us b.cut cut b.many in
    symbol_refused a (subst (λ n. ByteAt text n Refused x) e y)
fine text us to s p q short cut a begins few shallow (Unknown x) (b, r, y) =
    let (_, e) = cut_one text 0 b.to to b.symbols us b.cut cut b.many in
    symbol_unknown a (subst (λ n. UnknownAt text n x r) e y)
fine text us to s p q short cut a begins few shallow (Misplaced x) (b, y) =
    let (d, e) = cut_one text 0 b.to to b.symbols us b.cut cut b.many in
    go (subst (λ n. MisplacedAt text us n x) e (subst (λ ts. MisplacedAt text ts b.to x) d y))
  where
    go : MisplacedAt text us to x → ⊥
    go (token t r c n) = n (subst (λ z. Begins (us ++ z ∷ [])) (symbol_one a c).0 begins)
    go (at_end c l n) = end_first c (symbol_first a)
fine text us to s p q short cut a begins few shallow (Names x) (b, l, r, y, n) =
    let (d, e) = cut_one text 0 b.to to b.symbols us b.cut cut b.many in
    let same : s ≡ Name l = (symbol_one a (subst (λ z. SymbolAt text z (Name l) x r) e y)).0 in
    let count : names_of us ≡ 31 = ap names_of (sym d) ∙ n in
    let with_it : names_of (us ++ s ∷ []) ≡ names_of us + 1 = names_more 0 us (s ∷ []) ∙ ap (λ z. counted z (names_of us)) same in
    omega arith
fine text us to s p q short cut a begins few shallow (Nested x) (b, r, y, n) =
    let (d, e) = cut_one text 0 b.to to b.symbols us b.cut cut b.many in
    let same : s ≡ Open = (symbol_one a (subst (λ z. SymbolAt text z Open x r) e y)).0 in
    let count : open_of us ≡ 16 = ap open_of (sym d) ∙ n in
    let with_it : open_of (us ++ s ∷ []) ≡ open_of us + 1 = open_more 0 us (s ∷ []) ∙ ap (λ z. opened z (open_of us)) same in
    omega arith

module _ (text : List ℕ) (ts : List Symbol) (to : ℕ) (h : Good text ts to) where
  -- no token of the symbols breaks a rule
  pub none_before : (j : ℕ) (g : PatternFault) → Breaks text j g → j < length ts → ⊥
  none_before j g b l =
      let (us, s, vs, e, n) = split_at ts j l in
      let (mid, c, (p, q, a, d)) = cut_split text 0 to us (s ∷ vs) (subst (λ x. Cut text 0 x to) e h.cut) in
      let whole : ts ≡ (us ++ s ∷ []) ++ vs = e ∙ sym (append_assoc us (s ∷ []) vs) in
      let count : names_of ts ≡ names_from (names_of (us ++ s ∷ [])) vs = ap names_of whole ∙ names_more 0 (us ++ s ∷ []) vs in
      fine text us mid s p q h.short c a (begins_front (us ++ s ∷ []) vs (subst Begins whole h.begins)) (omega (arith, h.few, names_grow vs (names_of (us ++ s ∷ [])))) (h.shallow (us ++ s ∷ []) vs whole) g (subst (λ i. Breaks text i g) (sym n) b)

  abbrev here : Before text (length ts)
  here = record { symbols = ts; to = to; many = refl; cut = h.cut }

  -- what is before the token behind the symbols
  same_before : (b : Before text (length ts)) → (b.symbols ≡ ts) × (b.to ≡ to)
  same_before b = cut_one text 0 b.to to b.symbols ts b.cut h.cut b.many

  -- the first fault is of the token behind the symbols, if no rule with a lower number is broken by it
  first_here : (f : PatternFault) → Breaks text (length ts) f → ((g : PatternFault) → Breaks text (length ts) g → pattern_number g < pattern_number f → ⊥) → FirstFault text f
  first_here f b lower = record { token = length ts; breaks = b; first = first }
    where
      first : (j : ℕ) (g : PatternFault) → Breaks text j g → Sooner j g (length ts) f → ⊥
      first j g c (inl l) = none_before j g c l
      first j g c (inr (e, l)) = lower g (subst (λ i. Breaks text i g) e c) l

  pub first_byte : (p : ℕ) → ByteAt text to Refused p → FirstFault text (Byte p)
  first_byte p a = first_here (Byte p) (here, a) lower
    where
      lower : (g : PatternFault) → Breaks text (length ts) g → pattern_number g < 31 → ⊥
      lower (Long x) (z, l, e) n = omega (arith, h.short)
      lower (Byte x) b n = omega arith
      lower (Unknown x) b n = omega arith
      lower (Misplaced x) b n = omega arith
      lower (Names x) b n = omega arith
      lower (Nested x) b n = omega arith

  pub first_unknown : (p q : ℕ) → UnknownAt text to p q → FirstFault text (Unknown p)
  first_unknown p q a = first_here (Unknown p) (here, q, a) lower
    where
      lower : (g : PatternFault) → Breaks text (length ts) g → pattern_number g < 32 → ⊥
      lower (Long x) (z, l, e) n = omega (arith, h.short)
      lower (Byte x) (b, c) n = unknown_refused a (subst (λ k. ByteAt text k Refused x) (same_before b).1 c)
      lower (Unknown x) b n = omega arith
      lower (Misplaced x) b n = omega arith
      lower (Names x) b n = omega arith
      lower (Nested x) b n = omega arith

  -- a byte that is refused or an unknown name stands neither where a symbol stands nor at the end
  not_byte : (x : ℕ) → ByteAt text to Refused x → (p : ℕ) → MisplacedAt text ts to p → ⊥
  not_byte x c p (token s q a n) = symbol_refused a c
  not_byte x c p (at_end e l n) = end_first e (byte_first Refused c (λ z. omega arith))

  not_unknown : (x r : ℕ) → UnknownAt text to x r → (p : ℕ) → MisplacedAt text ts to p → ⊥
  not_unknown x r c p (token s q a n) = symbol_unknown a c
  not_unknown x r c p (at_end e l n) = end_first e (name_first c.name)

  pub first_misplaced : (p : ℕ) → MisplacedAt text ts to p → FirstFault text (Misplaced p)
  first_misplaced p a = first_here (Misplaced p) (here, a) lower
    where
      lower : (g : PatternFault) → Breaks text (length ts) g → pattern_number g < 33 → ⊥
      lower (Long x) (z, l, e) n = omega (arith, h.short)
      lower (Byte x) (b, c) n = not_byte x (subst (λ k. ByteAt text k Refused x) (same_before b).1 c) p a
      lower (Unknown x) (b, r, c) n = not_unknown x r (subst (λ k. UnknownAt text k x r) (same_before b).1 c) p a
      lower (Misplaced x) b n = omega arith
      lower (Names x) b n = omega arith
      lower (Nested x) b n = omega arith

  -- a symbol with which some pattern begins is not misplaced
  not_misplaced : (s : Symbol) (p q : ℕ) → SymbolAt text to s p q → Begins (ts ++ s ∷ []) → (x : ℕ) → MisplacedAt text ts to x → ⊥
  not_misplaced s p q a begins x (token t r c n) = n (subst (λ z. Begins (ts ++ z ∷ [])) (symbol_one a c).0 begins)
  not_misplaced s p q a begins x (at_end e l n) = end_first e (symbol_first a)

  moved : (x : ℕ) (b : Before text (length ts)) → MisplacedAt text b.symbols b.to x → MisplacedAt text ts to x
  moved x b c = subst (λ k. MisplacedAt text ts k x) (same_before b).1 (subst (λ us. MisplacedAt text us b.to x) (same_before b).0 c)

  pub first_names : (l : Label) (p q : ℕ) → SymbolAt text to (Name l) p q → Begins (ts ++ Name l ∷ []) → names_of ts ≡ 31 → FirstFault text (Names p)
  first_names l p q a begins count = first_here (Names p) (here, l, q, a, count) lower
    where
      lower : (g : PatternFault) → Breaks text (length ts) g → pattern_number g < 34 → ⊥
      lower (Long x) (z, k, e) n = omega (arith, h.short)
      lower (Byte x) (b, c) n = symbol_refused a (subst (λ k. ByteAt text k Refused x) (same_before b).1 c)
      lower (Unknown x) (b, r, c) n = symbol_unknown a (subst (λ k. UnknownAt text k x r) (same_before b).1 c)
      lower (Misplaced x) (b, c) n = not_misplaced (Name l) p q a begins x (moved x b c)
      lower (Names x) b n = omega arith
      lower (Nested x) b n = omega arith

  pub first_nested : (p q : ℕ) → SymbolAt text to Open p q → Begins (ts ++ Open ∷ []) → open_of ts ≡ 16 → FirstFault text (Nested p)
  first_nested p q a begins deep = first_here (Nested p) (here, q, a, deep) lower
    where
      not_name : (l : Label) → Open ≡ Name l → ⊥
      not_name l e = let z : ◌≡◌ {A = ℕ} 0 1 = cc in omega arith

      lower : (g : PatternFault) → Breaks text (length ts) g → pattern_number g < 35 → ⊥
      lower (Long x) (z, k, e) n = omega (arith, h.short)
      lower (Byte x) (b, c) n = symbol_refused a (subst (λ k. ByteAt text k Refused x) (same_before b).1 c)
      lower (Unknown x) (b, r, c) n = symbol_unknown a (subst (λ k. UnknownAt text k x r) (same_before b).1 c)
      lower (Misplaced x) (b, c) n = not_misplaced Open p q a begins x (moved x b c)
      lower (Names x) (b, l, r, c, y) n = not_name l (symbol_one a (subst (λ k. SymbolAt text k (Name l) x r) (same_before b).1 c)).0
      lower (Nested x) b n = omega arith

  -- the symbols go up to the end, and are a pattern: no rule is broken
  pub unbroken : (t : Tree) → EndAt text to → grammar.Pattern ts t → Unbroken text
  unbroken t ends is j g b = elim (dec_lt j (length ts)) [
    | yes l ↦ none_before j g b l
    | no l ↦ elim (dec_lt (length ts) j) [ yes k ↦ beyond g k b | no k ↦ (let e : j ≡ length ts = omega arith in at_it g (subst (λ i. Breaks text i g) e b)) ]
  ]
    where
      nothing : (p : ℕ) → First text to p → ⊥
      nothing p f = end_first ends f

      at_it : (g : PatternFault) → Breaks text (length ts) g → ⊥
      at_it (Long x) (z, l, e) = omega (arith, h.short)
      at_it (Byte x) (b, c) = nothing x (byte_first Refused (subst (λ k. ByteAt text k Refused x) (same_before b).1 c) (λ z. omega arith))
      at_it (Unknown x) (b, r, c) = nothing x (name_first (subst (λ k. UnknownAt text k x r) (same_before b).1 c).name)
      at_it (Misplaced x) (b, c) = go (moved x b c)
        where
          go : MisplacedAt text ts to x → ⊥
          go (token s q a n) = nothing x (symbol_first a)
          go (at_end e l n) = n t is
      at_it (Names x) (b, l, r, c, y) = nothing x (symbol_first (subst (λ k. SymbolAt text k (Name l) x r) (same_before b).1 c))
      at_it (Nested x) (b, r, c, y) = nothing x (symbol_first (subst (λ k. SymbolAt text k Open x r) (same_before b).1 c))

      longer : Before text j → length ts < j → ⊥
      longer b k =
          let (us, s, vs, e, n) = split_at b.symbols (length ts) (omega (arith, b.many)) in
          let (mid, c, (p, q, a, d)) = cut_split text 0 b.to us (s ∷ vs) (subst (λ x. Cut text 0 x b.to) e b.cut) in
          let (_, same) = cut_one text 0 mid to us ts c h.cut n in
          nothing p (subst (λ x. First text x p) same (symbol_first a))

      beyond : (g : PatternFault) → length ts < j → Breaks text j g → ⊥
      beyond (Long x) k (z, l, e) = omega (arith, h.short)
      beyond (Byte x) k (b, c) = longer b k
      beyond (Unknown x) k (b, r, c) = longer b k
      beyond (Misplaced x) k (b, c) = longer b k
      beyond (Names x) k (b, l, r, c, y) = longer b k
      beyond (Nested x) k (b, r, c, y) = longer b k
