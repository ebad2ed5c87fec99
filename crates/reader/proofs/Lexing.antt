-- A text is cut into symbols in one way.
use Rattle.std.proofs.Common.{◌≡◌, ℕ, zero, suc, ◌<◌, ◌≤◌, Bool, true, false, cond, ◌&&◌, eqb, List, [], ◌∷◌, ◌++◌, length, get_or, Some, None, codes, Option, sym, refl, ap, ◌∙◌, subst, arith}
use native.Mathlib.Decide.{dec_lt}
use Rattle.grammar.specs.declared.Symbol.{Symbol}
use Rattle.reader.specs.Classes.{class_of, class_number_lem}
use Rattle.reader.specs.Tokens.{AllOf, part, NameAt, ByteAt, EndAt, LoneAt, letter, sign, SymbolAt, named, lone, UnknownAt}
use Rattle.reader.specs.Symbols.{Cut}
use Rattle.reader.specs.Words.{spelling, meaning}
use Rattle.reader.specs.declared.class.Class.{Class}
use Rattle.reader.specs.declared.class.Class.TheVariants.{Refused, Space, Small, Capital, Sign}
use Rattle.reader.specs.declared.word.Word.{Word}
use Rattle.reader.specs.declared.word.Word.TheVariants.{Free, Badge, Pin, Turn, Lift, Fire, Dock, Stair, Any, Empty}

-- behind the spaces from `from` on, something stands at p
pub record First (text : List ℕ) (from p : ℕ) : Type 0 where
  pub onward : from ≤ p
  pub spaces : AllOf Space text from p
  pub inside : p < length text
  pub solid : class_of (get_or text p 0) ≡ Space → ⊥

clash : {j k : Class} {c : Class} → c ≡ j → c ≡ k → (class_number_lem j ≡ class_number_lem k → ⊥) → ⊥
clash e f n = n (ap class_number_lem (sym e ∙ f))

name_class : {text : List ℕ} {from p q : ℕ} → NameAt text from p q → class_of (get_or text p 0) ≡ Small
name_class {p = p} n = n.run p n.some (omega arith)

pub name_first : {text : List ℕ} {from p q : ℕ} → NameAt text from p q → First text from p
name_first n = record { onward = n.onward; spaces = n.spaces; inside = omega (arith, n.some, n.inside); solid = λ e. clash e (name_class n) (λ z. omega arith) }

pub byte_first : {text : List ℕ} {from p : ℕ} (k : Class) → ByteAt text from k p → (class_number_lem k ≡ 1 → ⊥) → First text from p
byte_first k b n = record { onward = b.onward; spaces = b.spaces; inside = b.inside; solid = λ e. clash b.class e n }

lone_first : {text : List ℕ} {from : ℕ} {s : Symbol} {p q : ℕ} → LoneAt text from s p q → First text from p
lone_first (letter b e r) = byte_first Capital b (λ z. omega arith)
lone_first (sign b e r) = byte_first Sign b (λ z. omega arith)

pub symbol_first : {text : List ℕ} {from : ℕ} {s : Symbol} {p q : ℕ} → SymbolAt text from s p q → First text from p
symbol_first (named w n e m) = name_first n
symbol_first (lone l) = lone_first l

pub first_one : {text : List ℕ} {from p r : ℕ} → First text from p → First text from r → p ≡ r
first_one {p = p} {r = r} a b = elim (dec_lt p r) [
  | yes l ↦ absurd (a.solid (b.spaces p l a.onward))
  | no l ↦ elim (dec_lt r p) [ yes k ↦ absurd (b.solid (a.spaces r k b.onward)) | no k ↦ omega arith ]
]

pub end_first : {text : List ℕ} {from p : ℕ} → EndAt text from → First text from p → ⊥
end_first {p = p} e f = f.solid (e.spaces p f.inside f.onward)

name_end_one : {text : List ℕ} {from p q r : ℕ} → NameAt text from p q → NameAt text from p r → q ≡ r
name_end_one {p = p} {q = q} {r = r} a b = elim (dec_lt q r) [
  | yes l ↦ absurd (a.longest (omega (arith, b.inside)) (b.run q l (omega (arith, a.some))))
  | no l ↦ elim (dec_lt r q) [ yes k ↦ absurd (b.longest (omega (arith, a.inside)) (a.run r k (omega (arith, b.some)))) | no k ↦ omega arith ]
]

-- ---- a name is spelt in one way
alike : List ℕ → List ℕ → Bool
alike [] [] = true
alike [] (y ∷ ys) = false
alike (x ∷ xs) [] = false
alike (x ∷ xs) (y ∷ ys) = eqb x y && alike xs ys

word_of : List ℕ → Option Word
word_of s = cond (alike s (codes "free")) (Some Free) (cond (alike s (codes "badge")) (Some Badge) (cond (alike s (codes "pin")) (Some Pin) (cond (alike s (codes "turn")) (Some Turn) (cond (alike s (codes "lift")) (Some Lift) (cond (alike s (codes "fire")) (Some Fire) (cond (alike s (codes "dock")) (Some Dock) (cond (alike s (codes "stair")) (Some Stair) (cond (alike s (codes "any")) (Some Any) (cond (alike s (codes "empty")) (Some Empty) None)))))))))

word_of_spelling : (w : Word) → word_of (spelling w) ≡ Some w
unfolding word_of alike
word_of_spelling Free = refl
word_of_spelling Badge = refl
word_of_spelling Pin = refl
word_of_spelling Turn = refl
word_of_spelling Lift = refl
word_of_spelling Fire = refl
word_of_spelling Dock = refl
word_of_spelling Stair = refl
word_of_spelling Any = refl
word_of_spelling Empty = refl

spelt_one : (w v : Word) → spelling w ≡ spelling v → w ≡ v
spelt_one w v e = let k : Some w ≡ Some v = sym (word_of_spelling w) ∙ ap word_of e ∙ word_of_spelling v in cc

name_lone : {text : List ℕ} {from : ℕ} {s : Symbol} {p q r : ℕ} → NameAt text from p q → LoneAt text from s p r → ⊥
name_lone n (letter b e f) = clash (name_class n) b.class (λ z. omega arith)
name_lone n (sign b e f) = clash (name_class n) b.class (λ z. omega arith)

at_one : {text : List ℕ} {from : ℕ} {s t : Symbol} {p q r : ℕ} → SymbolAt text from s p q → SymbolAt text from t p r → (s ≡ t) × (q ≡ r)
at_one {text} {from} {s} {t} {p} (named w n e m) (named v k f o) =
    let same = name_end_one n k in
    (m ∙ ap meaning (spelt_one w v (e ∙ ap (part text p) same ∙ sym f)) ∙ sym o, same)
at_one (named w n e m) (lone l) = absurd (name_lone n l)
at_one (lone l) (named w n e m) = absurd (name_lone n l)
at_one (lone (letter b e q)) (lone (letter c f r)) = (e ∙ sym f, q ∙ sym r)
at_one (lone (letter b e q)) (lone (sign c f r)) = absurd (clash b.class c.class (λ z. omega arith))
at_one (lone (sign b e q)) (lone (letter c f r)) = absurd (clash b.class c.class (λ z. omega arith))
at_one (lone (sign b e q)) (lone (sign c f r)) = (e ∙ sym f, q ∙ sym r)

-- behind a place at most one symbol stands
pub symbol_one : {text : List ℕ} {from : ℕ} {s t : Symbol} {p q u r : ℕ} → SymbolAt text from s p q → SymbolAt text from t u r → (s ≡ t) × (p ≡ u) × (q ≡ r)
symbol_one {text} {from} {s} {t} {p} {q} {u} {r} a b =
    let same : p ≡ u = first_one (symbol_first a) (symbol_first b) in
    let both = at_one a (subst (λ x. SymbolAt text from t x r) (sym same) b) in
    (both.0, same, both.1)

-- behind a place stands no symbol where a byte is refused, or a name is unknown
pub symbol_refused : {text : List ℕ} {from : ℕ} {s : Symbol} {p q u : ℕ} → SymbolAt text from s p q → ByteAt text from Refused u → ⊥
symbol_refused {text} {from} {s} {p} {q} {u} a b =
    let same : p ≡ u = first_one (symbol_first a) (byte_first Refused b (λ z. omega arith)) in
    go (subst (λ x. SymbolAt text from s x q) same a)
  where
    go : SymbolAt text from s u q → ⊥
    go (named w n e m) = clash (name_class n) b.class (λ z. omega arith)
    go (lone (letter c e f)) = clash c.class b.class (λ z. omega arith)
    go (lone (sign c e f)) = clash c.class b.class (λ z. omega arith)

pub symbol_unknown : {text : List ℕ} {from : ℕ} {s : Symbol} {p q u r : ℕ} → SymbolAt text from s p q → UnknownAt text from u r → ⊥
symbol_unknown {text} {from} {s} {p} {q} {u} {r} a b =
    let same : p ≡ u = first_one (symbol_first a) (name_first b.name) in
    go (subst (λ x. SymbolAt text from s x q) same a)
  where
    go : SymbolAt text from s u q → ⊥
    go (named w n e m) = b.unknown w (e ∙ ap (part text u) (name_end_one n b.name))
    go (lone l) = name_lone b.name l

pub unknown_refused : {text : List ℕ} {from p q u : ℕ} → UnknownAt text from p q → ByteAt text from Refused u → ⊥
unknown_refused {text} {from} {p} {q} {u} a b =
    let same : p ≡ u = first_one (name_first a.name) (byte_first Refused b (λ z. omega arith)) in
    clash (subst (λ x. class_of (get_or text x 0) ≡ Small) same (name_class a.name)) b.class (λ z. omega arith)

-- ---- the whole text
pub cut_one : (text : List ℕ) (from to end : ℕ) (ts us : List Symbol) → Cut text from ts to → Cut text from us end → length ts ≡ length us → (ts ≡ us) × (to ≡ end)
cut_one text from to end [] [] e f l = (refl, sym e ∙ f)
cut_one text from to end [] (u ∷ us) e f l = absurd (omega arith)
cut_one text from to end (s ∷ ts) [] e f l = absurd (omega arith)
cut_one text from to end (s ∷ ts) (u ∷ us) (p, q, a, e) (x, y, b, f) l =
    let (same, _, on) = symbol_one a b in
    let (rest, ends) = cut_one text q to end ts us e (subst (λ z. Cut text z us end) (sym on) f) (omega arith) in
    (cc, ends)

pub cut_more : (text : List ℕ) (from mid p q : ℕ) (s : Symbol) (ts : List Symbol) → Cut text from ts mid → SymbolAt text mid s p q → Cut text from (ts ++ s ∷ []) q
cut_more text from mid p q s [] e a = (p, q, subst (λ x. SymbolAt text x s p q) (sym e) a, refl)
cut_more text from mid p q s (t ∷ ts) (x, y, b, e) a = (x, y, b, cut_more text y mid p q s ts e a)

pub cut_split : (text : List ℕ) (from to : ℕ) (us vs : List Symbol) → Cut text from (us ++ vs) to → (mid : ℕ) × Cut text from us mid × Cut text mid vs to
cut_split text from to [] vs e = (from, refl, e)
cut_split text from to (u ∷ us) vs (p, q, a, e) = let (mid, f, g) = cut_split text q to us vs e in (mid, (p, q, a, f), g)

pub split_at : (ts : List Symbol) (j : ℕ) → j < length ts → (us : List Symbol) × (s : Symbol) × (vs : List Symbol) × (ts ≡ us ++ s ∷ vs) × (length us ≡ j)
split_at [] j l = absurd (omega arith)
split_at (t ∷ ts) zero l = ([], t, ts, refl, refl)
split_at (t ∷ ts) (suc j) l = let (us, s, vs, e, n) = split_at ts j (omega arith) in (t ∷ us, s, vs, ap (λ x. t ∷ x) e, ap suc n)
