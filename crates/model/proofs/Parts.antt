-- What is left of a pattern after one line.
use Rattle.std.proofs.Common.{◌≡◌, ℕ, ◌<◌, Bool, true, false, cond, ◌&&◌, ◌||◌, T, eqb, ◌⊎◌, List, [], ◌∷◌, ◌++◌, map, Option, sym, refl, ap, ◌∙◌, subst, inl, inr, ⊎_elim, arith, eqb→eq}
use mathlib.Core.List.Memᴰ
use mathlib.Core.List.{Memᴰ}
use lib.Dec.{eqb_refl}
use lib.Ieee.Fits.{and_r, and_l}
use Rattle.model.specs.declared.Label.{Label}
use Rattle.model.specs.declared.Label.TheVariants.{Kind, Any}
use Rattle.model.specs.Plans.{PlanMeaning}
use Rattle.model.specs.Patterns.{Letter, Fits, Tree, name, empty, ◌then◌, ◌or◌, star, plus, maybe}
use Rattle.model.specs.Records.{Line, mark_word}
use Rattle.model.proofs.Distinct.{mark_word_inj}
use Rattle.model.proofs.Words.{Word, w_name, w_empty, w_then, w_left, w_right, w_none, w_more, w_plus, w_skip, w_take, end_lines, Via}
use Rattle.model.proofs.Bounds.{within}
use Rattle.model.proofs.Bools.{or_cases, or_left, and_make, or_right}
use Rattle.model.proofs.Members.{map_mem, mem_map, cond_mem, mem_cond}

abbrev pub fits : Label → ℕ → Bool
fits (Kind k) j = eqb j k
fits Any j = true

pub fits→ : (l : Label) (j : ℕ) → T (fits l j) → Fits l j
fits→ (Kind k) j t = eqb→eq j k t
fits→ Any j t = tt

pub →fits : (l : Label) (j : ℕ) → Fits l j → T (fits l j)
→fits (Kind k) j e = let P : ℕ → Type 0 = λ x. T (eqb j x) in subst P e (eqb_refl j)
→fits Any j e = tt

abbrev pub alike : Option Letter → Option Letter → Bool
alike m n = eqb (mark_word m) (mark_word n)

pub alike→ : (m n : Option Letter) → T (alike m n) → m ≡ n
alike→ m n t = mark_word_inj m n (eqb→eq (mark_word m) (mark_word n) t)

pub →alike : (m n : Option Letter) → m ≡ n → T (alike m n)
→alike m n e = let P : Option Letter → Type 0 = λ x. T (alike m x) in subst P e (eqb_refl (mark_word m))

abbrev pub nullable : Tree → Bool
nullable (name l o) = false
nullable empty = true
nullable (p then q) = nullable p && nullable q
nullable (p or q) = nullable p || nullable q
nullable (star p) = true
nullable (plus p) = nullable p
nullable (maybe p) = true

-- what is left of a pattern after a passage of the kind k with the mark m
abbrev pub parts : ℕ → Option Letter → Tree → List Tree
parts k m (name l o) = cond (alike m o && fits l k) (empty ∷ []) []
parts k m empty = []
parts k m (p then q) = map (λ (d : Tree). d then q) (parts k m p) ++ cond (nullable p) (parts k m q) []
parts k m (p or q) = parts k m p ++ parts k m q
parts k m (star p) = map (λ (d : Tree). d then star p) (parts k m p)
parts k m (plus p) = map (λ (d : Tree). d then star p) (parts k m p)
parts k m (maybe p) = parts k m p

clash : {X : Type 0} → ◌≡◌ {A = ℕ} 0 1 → X
clash z = absurd (omega arith)

pub both_nil : (ls ks : List Line) → [] ≡ ls ++ ks → ([] ≡ ls) × ([] ≡ ks)
both_nil [] [] e = (refl, refl)
both_nil [] (k ∷ ks) e = let z : ◌≡◌ {A = ℕ} 0 1 = cc in clash z
both_nil (l ∷ ls) ks e = let z : ◌≡◌ {A = ℕ} 0 1 = cc in clash z

pub null_word : (pl : PlanMeaning) (p : Tree) (v : ℕ) → v < pl.zones → T (nullable p) → Word pl p v []
null_word pl (name l o) v h t = absurd t
null_word pl empty v h t = w_empty h
null_word pl (p then q) v h t = w_then (null_word pl p v h (and_l (nullable p) (nullable q) t)) (null_word pl q v h (and_r (nullable p) (nullable q) t)) refl
null_word pl (p or q) v h t = go (or_cases (nullable p) (nullable q) t) (λ s. null_word pl p v h s) (λ s. null_word pl q v h s)
  where
    go : T (nullable p) ⊎ T (nullable q) → (T (nullable p) → Word pl p v []) → (T (nullable q) → Word pl q v []) → Word pl (p or q) v []
    go (inl s) f g = w_left (f s)
    go (inr s) f g = w_right (g s)
null_word pl (star p) v h t = w_none h
null_word pl (plus p) v h t = w_plus (null_word pl p v h t) (w_none h) refl
null_word pl (maybe p) v h t = w_skip h

pub word_null : {pl : PlanMeaning} {p : Tree} {v : ℕ} {zs : List Line} → [] ≡ zs → Word pl p v zs → T (nullable p)
word_null e (w_name a f m) = let z : ◌≡◌ {A = ℕ} 0 1 = cc in clash z
word_null e (w_empty h) = tt
word_null e (w_then {p = p} {q = q} {ls = ls} {ks = ks} a b c) = let x = both_nil ls ks (e ∙ c) in and_make (nullable p) (nullable q) (word_null x.0 a) (word_null x.1 b)
word_null e (w_left {p = p} {q = q} a) = or_left (nullable p) (nullable q) (word_null e a)
word_null e (w_right {p = p} {q = q} a) = or_right (nullable p) (nullable q) (word_null e a)
word_null e (w_none h) = tt
word_null e (w_more a b c) = tt
word_null e (w_plus {ls = ls} {ks = ks} a b c) = word_null (both_nil ls ks (e ∙ c)).0 a
word_null e (w_skip h) = tt
word_null e (w_take a) = tt

pub word_empty : {pl : PlanMeaning} {v : ℕ} {ls : List Line} → Word pl empty v ls → [] ≡ ls
word_empty (w_empty h) = refl

pub then_word : {pl : PlanMeaning} {p q : Tree} {v : ℕ} {zs : List Line} → Word pl (p then q) v zs → (ls : List Line) × (ks : List Line) × Word pl p v ls × Word pl q (end_lines v ls) ks × (zs ≡ ls ++ ks)
then_word (w_then {ls = ls} {ks = ks} a b e) = (ls, ks, a, b, e)

pub name_part : (pl : PlanMeaning) (l : Label) (n : Option Letter) (p : Tree) (k v : ℕ) (x : Line) (ls : List Line) (d : Tree) → ((z : Line) → z ≡ x → Fits l k → x.mark ≡ n → Word pl p v (x ∷ [])) → Memᴰ d (cond (alike x.mark n && fits l k) (empty ∷ []) []) → Word pl d x.reached ls → Word pl p v (x ∷ ls)
name_part pl l n p k v x ls d make m w =
    let r = cond_mem (alike x.mark n && fits l k) d (empty ∷ []) m in
    let e : d ≡ empty = ⊎_elim (λ (z : d ≡ empty). z) (λ (z : Memᴰ d []). elim z [ ]) (Memᴰ.cases_cons r.1) in
    let P : Tree → Type 0 = λ y. Word pl y x.reached ls in
    let Q : List Line → Type 0 = λ y. Word pl p v (x ∷ y) in
    subst Q (word_empty (subst P e w)) (make x refl (fits→ l k (and_r (alike x.mark n) (fits l k) r.0)) (alike→ x.mark n (and_l (alike x.mark n) (fits l k) r.0)))

-- the first of two in turn goes on
abbrev pub Seq : PlanMeaning → Tree → Tree → ℕ → List Line → Type 0
Seq pl p q v zs = (ls : List Line) × (ks : List Line) × Word pl p v ls × Word pl q (end_lines v ls) ks × (zs ≡ ls ++ ks)

pub seq_part : (pl : PlanMeaning) (p q : Tree) (v : ℕ) (x : Line) (ls : List Line) (d : Tree) (ds : List Tree) → ((us : List Line) (d' : Tree) → Memᴰ d' ds → Word pl d' x.reached us → Word pl p v (x ∷ us)) → Memᴰ d (map (λ (e : Tree). e then q) ds) → Word pl d x.reached ls → Seq pl p q v (x ∷ ls)
seq_part pl p q v x ls d ds f m w =
    let r = map_mem (λ (e : Tree). e then q) d ds m in
    let P : Tree → Type 0 = λ y. Word pl y x.reached ls in
    let t = then_word (subst P r.2 w) in
    (x ∷ t.0, t.1, f t.0 r.0 r.1 t.2, t.3, ap (λ (y : List Line). x ∷ y) t.4)

module _ (pl : PlanMeaning) where
  pub part_word : (p : Tree) (k v : ℕ) (x : Line) (ls : List Line) (d : Tree) → Via pl v x k → Memᴰ d (parts k x.mark p) → Word pl d x.reached ls → Word pl p v (x ∷ ls)
  part_word (name l o) k v x ls d h m w = name_part pl l o (name l o) k v x ls d (λ z e f g. w_name h f g) m w
  part_word empty k v x ls d h m w = elim m [ ]
  part_word (p then q) k v x ls d h m w = go (Memᴰ.append_cases (map (λ (e : Tree). e then q) (parts k x.mark p)) m) (λ us d' m' w'. part_word p k v x us d' h m' w') (λ m'. part_word q k v x ls d h m' w)
    where
      go : Memᴰ d (map (λ (e : Tree). e then q) (parts k x.mark p)) ⊎ Memᴰ d (cond (nullable p) (parts k x.mark q) []) → ((us : List Line) (d' : Tree) → Memᴰ d' (parts k x.mark p) → Word pl d' x.reached us → Word pl p v (x ∷ us)) → (Memᴰ d (parts k x.mark q) → Word pl q v (x ∷ ls)) → Word pl (p then q) v (x ∷ ls)
      go (inl a) f g = let t = seq_part pl p q v x ls d (parts k x.mark p) f a w in w_then t.2 t.3 t.4
      go (inr a) f g = let t = cond_mem (nullable p) d (parts k x.mark q) a in w_then (null_word pl p v (within pl x.number _ h).0 t.0) (g t.1) refl
  part_word (p or q) k v x ls d h m w = go (Memᴰ.append_cases (parts k x.mark p) m) (λ m'. part_word p k v x ls d h m' w) (λ m'. part_word q k v x ls d h m' w)
    where
      go : Memᴰ d (parts k x.mark p) ⊎ Memᴰ d (parts k x.mark q) → (Memᴰ d (parts k x.mark p) → Word pl p v (x ∷ ls)) → (Memᴰ d (parts k x.mark q) → Word pl q v (x ∷ ls)) → Word pl (p or q) v (x ∷ ls)
      go (inl a) f g = w_left (f a)
      go (inr a) f g = w_right (g a)
  part_word (star p) k v x ls d h m w = let t = seq_part pl p (star p) v x ls d (parts k x.mark p) (λ us d' m' w'. part_word p k v x us d' h m' w') m w in w_more t.2 t.3 t.4
  part_word (plus p) k v x ls d h m w = let t = seq_part pl p (star p) v x ls d (parts k x.mark p) (λ us d' m' w'. part_word p k v x us d' h m' w') m w in w_plus t.2 t.3 t.4
  part_word (maybe p) k v x ls d h m w = w_take (part_word p k v x ls d h m w)

-- the other way: a word that begins with x
pub record Begins (pl : PlanMeaning) (p : Tree) (v : ℕ) (x : Line) (ls : List Line) : Type 0 where
  pub kind : ℕ
  pub via : Via pl v x kind
  pub rest : Tree
  pub among : Memᴰ rest (parts kind x.mark p)
  pub word : Word pl rest x.reached ls

pub first_of : (us bs : List Line) (x : Line) (ls : List Line) → x ∷ ls ≡ us ++ bs → (([] ≡ us) × (x ∷ ls ≡ bs)) ⊎ ((cs : List Line) × (x ∷ cs ≡ us) × (ls ≡ cs ++ bs))
first_of [] bs x ls e = inl (refl, e)
first_of (u ∷ us) bs x ls e =
    let a : x ≡ u = cc in
    let b : ls ≡ us ++ bs = cc in
    inr (us, ap (λ (y : Line). y ∷ us) a, b)

pub name_begins : (pl : PlanMeaning) (l : Label) (n : Option Letter) (p : Tree) (k v : ℕ) (y x : Line) (ls : List Line) → x ∷ ls ≡ y ∷ [] → Via pl v y k → Fits l k → y.mark ≡ n → ((m : Option Letter) → parts k m p ≡ cond (alike m n && fits l k) (empty ∷ []) []) → Begins pl p v x ls
name_begins pl l n p k v y x ls e h f g q =
    let a : x ≡ y = cc in
    let b : ls ≡ [] = cc in
    let V : Line → Type 0 = λ z. Via pl v z k in
    let h' : Via pl v x k = subst V (sym a) h in
    let W : List Line → Type 0 = λ z. Word pl empty x.reached z in
    let t : T (alike x.mark n && fits l k) = and_make (alike x.mark n) (fits l k) (→alike x.mark n (ap (λ (z : Line). z.mark) a ∙ g)) (→fits l k f) in
    let M : List Tree → Type 0 = λ z. Memᴰ empty z in
    record { kind = k; via = h'; rest = empty; among = subst M (sym (q x.mark)) (mem_cond (alike x.mark n && fits l k) empty (empty ∷ []) t (Memᴰ.head refl)); word = subst W (sym b) (w_empty (within pl x.number _ h').1) }

-- two in turn, by what the two give
pub seq_begins : (pl : PlanMeaning) (p q : Tree) (v : ℕ) (us bs : List Line) (x : Line) (ls : List Line) → x ∷ ls ≡ us ++ bs → Word pl p v us → Word pl q (end_lines v us) bs → ((y : Line) (ks : List Line) → y ∷ ks ≡ us → Begins pl p v y ks) → ((y : Line) (ks : List Line) → y ∷ ks ≡ bs → Begins pl q (end_lines v us) y ks) → (T (nullable p) × Begins pl q v x ls) ⊎ ((b : (cs : List Line) × Begins pl p v x cs) × Word pl (b.1.rest then q) x.reached ls)
seq_begins pl p q v us bs x ls e a b f g = go (first_of us bs x ls e)
  where
    go : (([] ≡ us) × (x ∷ ls ≡ bs)) ⊎ ((cs : List Line) × (x ∷ cs ≡ us) × (ls ≡ cs ++ bs)) → (T (nullable p) × Begins pl q v x ls) ⊎ ((b : (cs : List Line) × Begins pl p v x cs) × Word pl (b.1.rest then q) x.reached ls)
    go (inl t) = let P : List Line → Type 0 = λ z. Begins pl q (end_lines v z) x ls in inl (word_null t.0 a, subst P (sym t.0) (g x ls t.1))
    go (inr t) =
        let P : List Line → Type 0 = λ z. Word pl q (end_lines v z) bs in
        let r = f x t.0 t.1 in
        inr ((t.0, r), w_then r.word (subst P (sym t.1) b) t.2)

pub word_part : {pl : PlanMeaning} {p : Tree} {v : ℕ} {zs : List Line} (x : Line) (ls : List Line) → x ∷ ls ≡ zs → Word pl p v zs → Begins pl p v x ls
word_part {pl} x ls e (w_name {l = l} {o = o} {v = v} {k = k} {x = y} h f g) = name_begins pl l o (name l o) k v y x ls e h f g (λ m. refl)
word_part x ls e (w_empty h) = let z : ◌≡◌ {A = ℕ} 0 1 = cc in clash z
word_part {pl} x ls e (w_then {p = p} {q = q} {v = v} {ls = us} {ks = bs} a b c) = go (seq_begins pl p q v us bs x ls (e ∙ c) a b (λ y ks i. word_part y ks i a) (λ y ks i. word_part y ks i b))
  where
    go : (T (nullable p) × Begins pl q v x ls) ⊎ ((b : (cs : List Line) × Begins pl p v x cs) × Word pl (b.1.rest then q) x.reached ls) → Begins pl (p then q) v x ls
    go (inl t) = let r = t.1 in record { kind = r.kind; via = r.via; rest = r.rest; among = Memᴰ.append_right (map (λ (d : Tree). d then q) (parts r.kind x.mark p)) (mem_cond (nullable p) r.rest (parts r.kind x.mark q) t.0 r.among); word = r.word }
    go (inr t) = let r = t.0.1 in record { kind = r.kind; via = r.via; rest = r.rest then q; among = Memᴰ.append_left (cond (nullable p) (parts r.kind x.mark q) []) (mem_map (λ (d : Tree). d then q) r.rest (parts r.kind x.mark p) r.among); word = t.1 }
word_part {pl} x ls e (w_left {p = p} {q = q} a) = let r = word_part x ls e a in record { kind = r.kind; via = r.via; rest = r.rest; among = Memᴰ.append_left (parts r.kind x.mark q) r.among; word = r.word }
word_part {pl} x ls e (w_right {p = p} {q = q} a) = let r = word_part x ls e a in record { kind = r.kind; via = r.via; rest = r.rest; among = Memᴰ.append_right (parts r.kind x.mark p) r.among; word = r.word }
word_part x ls e (w_none h) = let z : ◌≡◌ {A = ℕ} 0 1 = cc in clash z
word_part {pl} x ls e (w_more {p = p} {v = v} {ls = us} {ks = bs} a b c) = go (seq_begins pl p (star p) v us bs x ls (e ∙ c) a b (λ y ks i. word_part y ks i a) (λ y ks i. word_part y ks i b))
  where
    go : (T (nullable p) × Begins pl (star p) v x ls) ⊎ ((b : (cs : List Line) × Begins pl p v x cs) × Word pl (b.1.rest then star p) x.reached ls) → Begins pl (star p) v x ls
    go (inl t) = t.1
    go (inr t) = let r = t.0.1 in record { kind = r.kind; via = r.via; rest = r.rest then star p; among = mem_map (λ (d : Tree). d then star p) r.rest (parts r.kind x.mark p) r.among; word = t.1 }
word_part {pl} x ls e (w_plus {p = p} {v = v} {ls = us} {ks = bs} a b c) = go (seq_begins pl p (star p) v us bs x ls (e ∙ c) a b (λ y ks i. word_part y ks i a) (λ y ks i. word_part y ks i b))
  where
    go : (T (nullable p) × Begins pl (star p) v x ls) ⊎ ((b : (cs : List Line) × Begins pl p v x cs) × Word pl (b.1.rest then star p) x.reached ls) → Begins pl (plus p) v x ls
    go (inl t) = let r = t.1 in record { kind = r.kind; via = r.via; rest = r.rest; among = r.among; word = r.word }
    go (inr t) = let r = t.0.1 in record { kind = r.kind; via = r.via; rest = r.rest then star p; among = mem_map (λ (d : Tree). d then star p) r.rest (parts r.kind x.mark p) r.among; word = t.1 }
word_part x ls e (w_skip h) = let z : ◌≡◌ {A = ℕ} 0 1 = cc in clash z
word_part x ls e (w_take a) = let r = word_part x ls e a in record { kind = r.kind; via = r.via; rest = r.rest; among = r.among; word = r.word }
