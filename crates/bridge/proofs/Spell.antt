-- The lines that a pattern gives, the words that it reads, and what the automaton accepts.
use Rattle.std.proofs.Common.{◌≡◌, ℕ, ◌<◌, true, ◌↔◌, List, [], ◌∷◌, ◌++◌, map, Some, Option, sym, refl, ap, ◌∙◌, subst, inl, inr, append_assoc, append-nil, arith}
use Rattle.model.specs.Plans.{Passage, PlanMeaning}
use Rattle.model.specs.Routes.{Step, Along, end_from}
use Rattle.model.specs.Patterns.{Tree, name, empty, ◌then◌, ◌or◌, star, plus, maybe, Fits}
use Rattle.model.specs.Records.{Line, mark_word, step_of}
use Rattle.model.proofs.Bounds.{within}
use Rattle.model.proofs.Distinct.{mark_word_inj}
use Rattle.model.proofs.Words.{Word, w_name, w_empty, w_then, w_left, w_right, w_none, w_more, w_plus, w_skip, w_take, end_lines}
use Rattle.automaton.specs.Readings as r
use Rattle.automaton.specs.Readings.{Pair, Reads, Many, none, more}
use Rattle.automaton.specs.Step.{stepped}
use Rattle.automaton.specs.Tables.{Recognises, Stands}
use Rattle.automaton.specs.declared.Automaton.{Automaton}
use Rattle.automaton.proofs.Steps.{stepped_moves, stands_more, stands_start, accepts_meet, accepts_reads}
use Rattle.search.specs.Hunts.{first_mask}
use Rattle.bridge.specs.Lines.{kind_by, kind_at, pair_of, word_of}
use Rattle.bridge.specs.Ahead.{mask_after, accepts}

clash : {X : Type 0} → ◌≡◌ {A = ℕ} 0 1 → X
clash z = absurd (omega arith)

word_append : (pl : PlanMeaning) (xs ys : List Line) → word_of pl (xs ++ ys) ≡ word_of pl xs ++ word_of pl ys
word_append pl [] ys = refl
word_append pl (x ∷ xs) ys = ap (λ (w : r.Word). pair_of pl x ∷ w) (word_append pl xs ys)

kind_is : (pl : PlanMeaning) (n v y k : ℕ) → pl.passage n ≡ Some (record { origin = v; destination = y; kind = k }) → kind_at pl n ≡ k
kind_is pl n v y k e = ap (λ (o : Option Passage). kind_by o) e

along_end : (pl : PlanMeaning) (v : ℕ) (ss : List Step) → v < pl.zones → Along pl v ss → end_from v ss < pl.zones
along_end pl v [] h a = h
along_end pl v (s ∷ ss) h a = along_end pl s.reached ss (within pl s.number _ a.0.1).1 a.1

along_left : (pl : PlanMeaning) (v : ℕ) (xs ys : List Line) → Along pl v (map step_of (xs ++ ys)) → Along pl v (map step_of xs)
along_left pl v [] ys a = tt
along_left pl v (x ∷ xs) ys a = (a.0, along_left pl x.reached xs ys a.1)

along_right : (pl : PlanMeaning) (v : ℕ) (xs ys : List Line) → Along pl v (map step_of (xs ++ ys)) → Along pl (end_lines v xs) (map step_of ys)
along_right pl v [] ys a = a
along_right pl v (x ∷ xs) ys a = along_right pl x.reached xs ys a.1

-- a word that is cut in two cuts its lines
record Cut (pl : PlanMeaning) (ls : List Line) (u w : r.Word) : Type 0 where
  xs : List Line
  ys : List Line
  is : ls ≡ xs ++ ys
  first : word_of pl xs ≡ u
  second : word_of pl ys ≡ w

cut : (pl : PlanMeaning) (u w : r.Word) (ls : List Line) → word_of pl ls ≡ u ++ w → Cut pl ls u w
cut pl [] w ls e = record { xs = []; ys = ls; is = refl; first = refl; second = e }
cut pl (x ∷ u) w [] e = let z : ◌≡◌ {A = ℕ} 0 1 = cc in clash z
cut pl (x ∷ u) w (y ∷ ls) e =
    let h : pair_of pl y ≡ x = cc in
    let t : word_of pl ls ≡ u ++ w = cc in
    let c = cut pl u w ls t in
    record { xs = y ∷ c.xs; ys = c.ys; is = ap (λ (zs : List Line). y ∷ zs) c.is; first = λ i. h i ∷ c.first i; second = c.second }

no_lines : (pl : PlanMeaning) (ls : List Line) → word_of pl ls ≡ [] → [] ≡ ls
no_lines pl [] e = refl
no_lines pl (x ∷ ls) e = let z : ◌≡◌ {A = ℕ} 0 1 = cc in clash z

-- a word of one pair is that of one line
record Single (pl : PlanMeaning) (ls : List Line) (x : Pair) : Type 0 where
  line : Line
  is : line ∷ [] ≡ ls
  kind : kind_at pl line.number ≡ x.0
  mark : mark_word line.mark ≡ x.1

single : (pl : PlanMeaning) (ls : List Line) (x : Pair) → word_of pl ls ≡ x ∷ [] → Single pl ls x
single pl [] x e = let z : ◌≡◌ {A = ℕ} 0 1 = cc in clash z
single pl (y ∷ []) x e =
    let h : pair_of pl y ≡ x = cc in
    record { line = y; is = refl; kind = ap (λ (w : Pair). w.0) h; mark = ap (λ (w : Pair). w.1) h }
single pl (y ∷ (z ∷ ls)) x e = let z : ◌≡◌ {A = ℕ} 0 1 = cc in clash z

-- lines along a plan whose word is cut in two
record Halves (pl : PlanMeaning) (v : ℕ) (ls : List Line) (P Q : r.Word → Type 0) : Type 0 where
  xs : List Line
  ys : List Line
  is : ls ≡ xs ++ ys
  along₁ : Along pl v (map step_of xs)
  along₂ : Along pl (end_lines v xs) (map step_of ys)
  low : end_lines v xs < pl.zones
  reads₁ : P (word_of pl xs)
  reads₂ : Q (word_of pl ys)

halves : (pl : PlanMeaning) (v : ℕ) (ls : List Line) (u w : r.Word) (P Q : r.Word → Type 0) → v < pl.zones → Along pl v (map step_of ls) → word_of pl ls ≡ u ++ w → P u → Q w → Halves pl v ls P Q
halves pl v ls u w P Q h a e x y =
    let c = cut pl u w ls e in
    let b : Along pl v (map step_of (c.xs ++ c.ys)) = subst (λ (zs : List Line). Along pl v (map step_of zs)) c.is a in
    let l = along_left pl v c.xs c.ys b in
    record { xs = c.xs; ys = c.ys; is = c.is; along₁ = l; along₂ = along_right pl v c.xs c.ys b; low = along_end pl v (map step_of c.xs) h l; reads₁ = subst P (sym c.first) x; reads₂ = subst Q (sym c.second) y }

-- the lines along a plan whose word the pattern reads are lines that it gives
Spells : PlanMeaning → Tree → Type 0
Spells pl p = (v : ℕ) (ls : List Line) → v < pl.zones → Along pl v (map step_of ls) → Reads p (word_of pl ls) → Word pl p v ls

many_word : (pl : PlanMeaning) (p : Tree) → Spells pl p → (w : r.Word) → Many (Reads p) w → (v : ℕ) (ls : List Line) → v < pl.zones → Along pl v (map step_of ls) → word_of pl ls ≡ w → Word pl (star p) v ls
unfolding Spells
many_word pl p f w none v ls h a e = subst (λ (zs : List Line). Word pl (star p) v zs) (no_lines pl ls e) (w_none h)
many_word pl p f w (more {u = u} {v = t} x m) v ls h a e =
    let c = halves pl v ls u t (Reads p) (λ (y : r.Word). t ≡ y) h a e x refl in
    w_more (f v c.xs h c.along₁ c.reads₁) (many_word pl p f t m (end_lines v c.xs) c.ys c.low c.along₂ (sym c.reads₂)) c.is

reads_spell : (pl : PlanMeaning) (p : Tree) → Spells pl p
unfolding Spells
reads_spell pl (name l o) v ls h a (x, e, f, m) =
    let s = single pl ls x e in
    let P : List Line → Type 0 = λ zs. Along pl v (map step_of zs) in
    let b = subst P (sym s.is) a in
    let k = sym (kind_is pl s.line.number _ _ _ b.0.1) ∙ s.kind in
    subst (λ (zs : List Line). Word pl (name l o) v zs) s.is (w_name {k = b.0.0} b.0.1 (subst (Fits l) (sym k) f) (mark_word_inj _ o (s.mark ∙ m)))
reads_spell pl empty v ls h a e = subst (λ (zs : List Line). Word pl empty v zs) (no_lines pl ls e) (w_empty h)
reads_spell pl (p then q) v ls h a (u, w, e, x, y) =
    let c = halves pl v ls u w (Reads p) (Reads q) h a e x y in
    w_then (reads_spell pl p v c.xs h c.along₁ c.reads₁) (reads_spell pl q (end_lines v c.xs) c.ys c.low c.along₂ c.reads₂) c.is
reads_spell pl (p or q) v ls h a (inl x) = w_left (reads_spell pl p v ls h a x)
reads_spell pl (p or q) v ls h a (inr x) = w_right (reads_spell pl q v ls h a x)
reads_spell pl (star p) v ls h a m = many_word pl p (reads_spell pl p) (word_of pl ls) m v ls h a refl
reads_spell pl (plus p) v ls h a (u, w, e, x, y) =
    let c = halves pl v ls u w (Reads p) (Many (Reads p)) h a e x y in
    w_plus (reads_spell pl p v c.xs h c.along₁ c.reads₁) (many_word pl p (reads_spell pl p) (word_of pl c.ys) c.reads₂ (end_lines v c.xs) c.ys c.low c.along₂ refl) c.is
reads_spell pl (maybe p) v ls h a (inl e) = subst (λ (zs : List Line). Word pl (maybe p) v zs) (no_lines pl ls e) (w_skip h)
reads_spell pl (maybe p) v ls h a (inr x) = w_take (reads_spell pl p v ls h a x)

pub reads_word : (pl : PlanMeaning) (p : Tree) (v : ℕ) (ls : List Line) → v < pl.zones → Along pl v (map step_of ls) → Reads p (word_of pl ls) → Word pl p v ls
unfolding Spells
reads_word pl p = reads_spell pl p

pub word_reads : {pl : PlanMeaning} {p : Tree} {v : ℕ} {ls : List Line} → Word pl p v ls → Reads p (word_of pl ls)
word_reads {pl} (w_name {l = l} {v = v} {k = k} {x = x} a f m) = (pair_of pl x, refl, subst (Fits l) (sym (kind_is pl x.number _ _ k a)) f, ap mark_word m)
word_reads (w_empty h) = refl
word_reads {pl} (w_then {ls = ls} {ks = ks} a b e) = (word_of pl ls, word_of pl ks, ap (word_of pl) e ∙ word_append pl ls ks, word_reads a, word_reads b)
word_reads (w_left a) = inl (word_reads a)
word_reads (w_right a) = inr (word_reads a)
word_reads (w_none h) = none
word_reads {pl} (w_more {p = p} {ls = ls} {ks = ks} a b e) = subst (Many (Reads p)) (sym (ap (word_of pl) e ∙ word_append pl ls ks)) (more (word_reads a) (word_reads b))
word_reads {pl} (w_plus {ls = ls} {ks = ks} a b e) = (word_of pl ls, word_of pl ks, ap (word_of pl) e ∙ word_append pl ls ks, word_reads a, word_reads b)
word_reads (w_skip h) = inl refl
word_reads (w_take a) = inr (word_reads a)

-- the states after the lines stand behind their word
stands_after : (pl : PlanMeaning) (a : Automaton) (p : Tree) (w : r.Word) (mask : ℕ) (ls : List Line) → Stands a p w mask → Stands a p (w ++ word_of pl ls) (mask_after pl a mask ls)
stands_after pl a p w mask [] h = subst (λ (u : r.Word). Stands a p u mask) (sym (append-nil w)) h
stands_after pl a p w mask (x ∷ ls) h =
    let kind = kind_at pl x.number in
    let mark = mark_word x.mark in
    let next = stepped a mask kind mark in
    subst (λ (u : r.Word). Stands a p u (mask_after pl a next ls)) (append_assoc w (pair_of pl x ∷ []) (word_of pl ls))
    (stands_after pl a p (w ++ (pair_of pl x ∷ [])) next ls (stands_more a mask next (kind, mark) (stepped_moves a mask kind mark) p w h))

-- the automaton accepts after the lines exactly where the pattern gives them
pub accepts_exactly : (pl : PlanMeaning) (a : Automaton) (p : Tree) → Recognises a p → (v : ℕ) (ls : List Line) → v < pl.zones → Along pl v (map step_of ls) → (accepts a (mask_after pl a first_mask ls) ≡ true) ↔ Word pl p v ls
accepts_exactly pl a p rec v ls h al =
    let mask = mask_after pl a first_mask ls in
    let i = accepts_reads a mask (accepts a mask) (accepts_meet mask a.accept) p (word_of pl ls) (stands_after pl a p [] first_mask ls (stands_start a p rec)) in
    (λ e. reads_word pl p v ls h al (i.0 e), λ w. i.1 (word_reads w))
