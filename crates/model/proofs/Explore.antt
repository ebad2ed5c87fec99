-- All answers of an enquiry, by exploring its plan.
use Rattle.std.proofs.Common.{◌≡◌, ℕ, zero, suc, ◌+◌, ◌<◌, ◌≤◌, Bool, true, false, cond, ◌&&◌, ◌||◌, T, eqb, ◌⊎◌, List, [], ◌∷◌, ◌++◌, map, length, Some, None, Option, sym, refl, ap, ◌∙◌, subst, inl, inr, ⊎_elim, append_assoc, arith, eqb→eq}
use mathlib.Core.List.{Memᴰ}
use lib.Dec.{eqb_refl}
use lib.Ieee.Fits.{and_l, and_r}
use Rattle.model.specs.Plans.{PlanMeaning, Passage}
use Rattle.model.specs.Routes.{Step}
use Rattle.model.specs.Patterns.{Letter, A, B, C, D, E, F, G, H, Tree}
use Rattle.model.specs.Rules.{RuleMeaning, Allowed}
use Rattle.model.specs.Records.{Line, step_of}
use Rattle.model.proofs.Words.{Word, end_lines, Via}
use Rattle.model.proofs.Parts.{nullable, parts, null_word, word_null, part_word, word_part}
use Rattle.model.proofs.Bools.{and_make, or_cases, or_left, or_right}
use Rattle.model.proofs.Bounds.{within, numbered}
use Rattle.model.proofs.Members.{map_mem, mem_map}

module _ {X Y : Type 0} where
  abbrev pub bind : List X → (X → List Y) → List Y
  bind [] f = []
  bind (x ∷ xs) f = f x ++ bind xs f

  pub bind_mem : (y : Y) (xs : List X) (f : X → List Y) → Memᴰ y (bind xs f) → (x : X) × Memᴰ x xs × Memᴰ y (f x)
  bind_mem y [] f m = elim m [ ]
  bind_mem y (x ∷ xs) f m = go (mathlib.Core.List.Memᴰ.append_cases (f x) m) (λ k. bind_mem y xs f k)
    where
      go : Memᴰ y (f x) ⊎ Memᴰ y (bind xs f) → (Memᴰ y (bind xs f) → (w : X) × Memᴰ w xs × Memᴰ y (f w)) → (w : X) × Memᴰ w (x ∷ xs) × Memᴰ y (f w)
      go (inl a) k = (x, mathlib.Core.List.Memᴰ.head refl, a)
      go (inr a) k = let r = k a in (r.0, mathlib.Core.List.Memᴰ.tail r.1, r.2)

  pub mem_bind : (y : Y) (x : X) (xs : List X) (f : X → List Y) → Memᴰ x xs → Memᴰ y (f x) → Memᴰ y (bind xs f)
  mem_bind y x xs f (mathlib.Core.List.Memᴰ.head {x = w} {xs = ws} e) m = let P : X → Type 0 = λ z. Memᴰ y (f z) in mathlib.Core.List.Memᴰ.append_left (bind ws f) (subst P e m)
  mem_bind y x xs f (mathlib.Core.List.Memᴰ.tail {x = w} {xs = ws} k) m = mathlib.Core.List.Memᴰ.append_right (f w) (mem_bind y x ws f k m)

module _ {Y : Type 0} where
  abbrev pub gate : Bool → (Unit {0} → List Y) → List Y
  gate true f = f tt
  gate false f = []

  gate_mem : (b : Bool) (y : Y) (f : Unit {0} → List Y) → Memᴰ y (gate b f) → T b × Memᴰ y (f tt)
  gate_mem true y f m = (tt, m)
  gate_mem false y f m = elim m [ ]

  mem_gate : (b : Bool) (y : Y) (f : Unit {0} → List Y) → T b → Memᴰ y (f tt) → Memᴰ y (gate b f)
  mem_gate true y f t m = m
  mem_gate false y f t m = absurd t

-- the numbers from i, n of them
abbrev pub run : ℕ → ℕ → List ℕ
run i zero = []
run i (suc n) = i ∷ run (suc i) n

mem_run : (n i p : ℕ) → i ≤ p → p < i + n → Memᴰ p (run i n)
mem_run zero i p a b = absurd (omega arith)
mem_run (suc n) i p a b = go (native.Mathlib.Decide.ℕ_discrete p i) (λ h. mem_run n (suc i) p h (omega arith))
  where
    go : Dec (p ≡ i) → (suc i ≤ p → Memᴰ p (run (suc i) n)) → Memᴰ p (i ∷ run (suc i) n)
    go (yes e) f = mathlib.Core.List.Memᴰ.head e
    go (no e) f = mathlib.Core.List.Memᴰ.tail (f (omega arith))

abbrev pub marks : List (Option Letter)
marks = None ∷ Some A ∷ Some B ∷ Some C ∷ Some D ∷ Some E ∷ Some F ∷ Some G ∷ Some H ∷ []

mem_marks : (m : Option Letter) → Memᴰ m marks
mem_marks None = mathlib.Core.List.Memᴰ.head refl
mem_marks (Some A) = mathlib.Core.List.Memᴰ.tail (mathlib.Core.List.Memᴰ.head refl)
mem_marks (Some B) = mathlib.Core.List.Memᴰ.tail (mathlib.Core.List.Memᴰ.tail (mathlib.Core.List.Memᴰ.head refl))
mem_marks (Some C) = mathlib.Core.List.Memᴰ.tail (mathlib.Core.List.Memᴰ.tail (mathlib.Core.List.Memᴰ.tail (mathlib.Core.List.Memᴰ.head refl)))
mem_marks (Some D) = mathlib.Core.List.Memᴰ.tail (mathlib.Core.List.Memᴰ.tail (mathlib.Core.List.Memᴰ.tail (mathlib.Core.List.Memᴰ.tail (mathlib.Core.List.Memᴰ.head refl))))
mem_marks (Some E) = mathlib.Core.List.Memᴰ.tail (mathlib.Core.List.Memᴰ.tail (mathlib.Core.List.Memᴰ.tail (mathlib.Core.List.Memᴰ.tail (mathlib.Core.List.Memᴰ.tail (mathlib.Core.List.Memᴰ.head refl)))))
mem_marks (Some F) = mathlib.Core.List.Memᴰ.tail (mathlib.Core.List.Memᴰ.tail (mathlib.Core.List.Memᴰ.tail (mathlib.Core.List.Memᴰ.tail (mathlib.Core.List.Memᴰ.tail (mathlib.Core.List.Memᴰ.tail (mathlib.Core.List.Memᴰ.head refl))))))
mem_marks (Some G) = mathlib.Core.List.Memᴰ.tail (mathlib.Core.List.Memᴰ.tail (mathlib.Core.List.Memᴰ.tail (mathlib.Core.List.Memᴰ.tail (mathlib.Core.List.Memᴰ.tail (mathlib.Core.List.Memᴰ.tail (mathlib.Core.List.Memᴰ.tail (mathlib.Core.List.Memᴰ.head refl)))))))
mem_marks (Some H) = mathlib.Core.List.Memᴰ.tail (mathlib.Core.List.Memᴰ.tail (mathlib.Core.List.Memᴰ.tail (mathlib.Core.List.Memᴰ.tail (mathlib.Core.List.Memᴰ.tail (mathlib.Core.List.Memᴰ.tail (mathlib.Core.List.Memᴰ.tail (mathlib.Core.List.Memᴰ.tail (mathlib.Core.List.Memᴰ.head refl))))))))

abbrev pub any_null : List Tree → Bool
any_null [] = false
any_null (p ∷ ps) = nullable p || any_null ps

any_null→ : (ps : List Tree) → T (any_null ps) → (p : Tree) × Memᴰ p ps × T (nullable p)
any_null→ [] t = absurd t
any_null→ (p ∷ ps) t = go (or_cases (nullable p) (any_null ps) t) (λ s. any_null→ ps s)
  where
    go : T (nullable p) ⊎ T (any_null ps) → (T (any_null ps) → (w : Tree) × Memᴰ w ps × T (nullable w)) → (w : Tree) × Memᴰ w (p ∷ ps) × T (nullable w)
    go (inl a) f = (p, mathlib.Core.List.Memᴰ.head refl, a)
    go (inr a) f = let r = f a in (r.0, mathlib.Core.List.Memᴰ.tail r.1, r.2)

→any_null : (p : Tree) (ps : List Tree) → Memᴰ p ps → T (nullable p) → T (any_null ps)
→any_null p ps (mathlib.Core.List.Memᴰ.head {x = q} {xs = qs} e) t = let P : Tree → Type 0 = λ z. T (nullable z) in or_left (nullable q) (any_null qs) (subst P e t)
→any_null p ps (mathlib.Core.List.Memᴰ.tail {x = q} {xs = qs} m) t = or_right (nullable q) (any_null qs) (→any_null p qs m t)

module _ (pl : PlanMeaning) (ru : RuleMeaning) (start target : ℕ) where
  -- each step may be added to the part before it, step by step
  abbrev pub From : List Step → List Step → Type 0
  From before [] = Unit {0}
  From before (s ∷ ss) = T (ru.permits (record { start = start; steps = before }) s.number s.reached) × From (before ++ (s ∷ [])) ss

  abbrev pub stop : ℕ → List Tree → List (List Line)
  stop v ps = cond (any_null ps && eqb v target) ([] ∷ []) []

  abbrev pub turn : (List Step → ℕ → List Tree → List (List Line)) → List Step → Line → List Tree → List (List Line)
  turn f before x [] = []
  turn f before x (d ∷ ds) = map (λ (ls : List Line). x ∷ ls) (f (before ++ (step_of x ∷ [])) x.reached (d ∷ ds))

  abbrev pub line : ℕ → Passage → Option Letter → Line
  line p e m = record { number = p; reached = e.destination; mark = m }

  abbrev pub through : (List Step → ℕ → List Tree → List (List Line)) → List Step → ℕ → List Tree → ℕ → Option Passage → List (List Line)
  through f before v ps p None = []
  through f before v ps p (Some e) = gate (eqb e.origin v && ru.permits (record { start = start; steps = before }) p e.destination) (λ u. bind marks (λ m. turn f before (line p e m) (bind ps (λ d. parts e.kind m d))))

  abbrev pub explore : ℕ → List Step → ℕ → List Tree → List (List Line)
  explore zero before v ps = stop v ps
  explore (suc k) before v ps = stop v ps ++ bind (run 0 256) (λ p. through (λ b w ds. explore k b w ds) before v ps p (pl.passage p))

  pub record Found (k : ℕ) (before : List Step) (v : ℕ) (ps : List Tree) (ls : List Line) : Type 0 where
    pub pattern : Tree
    pub among : Memᴰ pattern ps
    pub word : Word pl pattern v ls
    pub ends : end_lines v ls ≡ target
    pub allowed : From before (map step_of ls)
    pub short : length ls ≤ k

  stop_found : (k : ℕ) (before : List Step) (v : ℕ) (ps : List Tree) (ls : List Line) → v < pl.zones → Memᴰ ls (stop v ps) → Found k before v ps ls
  stop_found k before v ps ls h m = go (any_null ps && eqb v target) refl m
    where
      make : T (any_null ps && eqb v target) → [] ≡ ls → Found k before v ps ls
      make t e =
          let r = any_null→ ps (and_l (any_null ps) (eqb v target) t) in
          let P : List Line → Type 0 = λ z. Found k before v ps z in
          subst P e (record { pattern = r.0; among = r.1; word = null_word pl r.0 v h r.2; ends = eqb→eq v target (and_r (any_null ps) (eqb v target) t); allowed = tt; short = omega arith })

      go : (b : Bool) → (any_null ps && eqb v target) ≡ b → Memᴰ ls (cond b ([] ∷ []) []) → Found k before v ps ls
      go true e n = make (let P : Bool → Type 0 = λ z. T z in subst P (sym e) tt) (⊎_elim (λ (z : ls ≡ []). sym z) (λ (z : Memᴰ ls []). elim z [ ]) (mathlib.Core.List.Memᴰ.cases_cons n))
      go false e n = elim n [ ]

  -- what the recursion finds is right
  abbrev Right : ℕ → Type 0
  Right k = (before : List Step) (v : ℕ) (ps : List Tree) (ls : List Line) → v < pl.zones → Memᴰ ls (explore k before v ps) → Found k before v ps ls

  turn_found : (k : ℕ) → Right k → (before : List Step) (v : ℕ) (ps ds : List Tree) (x : Line) (kd : ℕ) (zs : List Line) → Via pl v x kd → T (ru.permits (record { start = start; steps = before }) x.number x.reached) → ds ≡ bind ps (λ d. parts kd x.mark d) → Memᴰ zs (turn (λ b w es. explore k b w es) before x ds) → Found (suc k) before v ps zs
  turn_found k f before v ps [] x kd zs h t e m = elim m [ ]
  turn_found k f before v ps (d ∷ ds) x kd zs h t e m =
      let r = map_mem (λ (ls : List Line). x ∷ ls) zs (explore k (before ++ (step_of x ∷ [])) x.reached (d ∷ ds)) m in
      let y = f (before ++ (step_of x ∷ [])) x.reached (d ∷ ds) r.0 (within pl x.number _ h).1 r.1 in
      let Q : List Tree → Type 0 = λ z. Memᴰ y.pattern z in
      let q = bind_mem y.pattern ps (λ (p : Tree). parts kd x.mark p) (subst Q e y.among) in
      let P : List Line → Type 0 = λ z. Found (suc k) before v ps z in
      subst P (sym r.2) (record { pattern = q.0; among = q.1; word = part_word pl q.0 kd v x r.0 y.pattern h q.2 y.word; ends = y.ends; allowed = (t, y.allowed); short = let s = y.short in omega arith })

  through_found : (k : ℕ) → Right k → (before : List Step) (v : ℕ) (ps : List Tree) (p : ℕ) (o : Option Passage) (zs : List Line) → pl.passage p ≡ o → Memᴰ zs (through (λ b w es. explore k b w es) before v ps p o) → Found (suc k) before v ps zs
  through_found k f before v ps p None zs e m = elim m [ ]
  through_found k f before v ps p (Some x) zs e m =
      let r = gate_mem (eqb x.origin v && ru.permits (record { start = start; steps = before }) p x.destination) zs (λ u. bind marks (λ c. turn (λ b w es. explore k b w es) before (line p x c) (bind ps (λ d. parts x.kind c d)))) m in
      let q = bind_mem zs marks (λ (c : Option Letter). turn (λ b w es. explore k b w es) before (line p x c) (bind ps (λ d. parts x.kind c d))) r.1 in
      let o : x.origin ≡ v = eqb→eq x.origin v (and_l (eqb x.origin v) (ru.permits (record { start = start; steps = before }) p x.destination) r.0) in
      let h : pl.passage p ≡ Some (record { origin = v; destination = x.destination; kind = x.kind }) = e ∙ (λ i. Some (record { origin = o i; destination = x.destination; kind = x.kind })) in
      turn_found k f before v ps (bind ps (λ d. parts x.kind q.0 d)) (line p x q.0) x.kind zs h (and_r (eqb x.origin v) (ru.permits (record { start = start; steps = before }) p x.destination) r.0) refl q.2

  pub sound : (k : ℕ) → Right k
  sound zero before v ps ls h m = stop_found zero before v ps ls h m
  sound (suc k) before v ps ls h m = go (mathlib.Core.List.Memᴰ.append_cases (stop v ps) m) (λ b w es us i n. sound k b w es us i n)
    where
      go : Memᴰ ls (stop v ps) ⊎ Memᴰ ls (bind (run 0 256) (λ p. through (λ b w ds. explore k b w ds) before v ps p (pl.passage p))) → Right k → Found (suc k) before v ps ls
      go (inl a) f = stop_found (suc k) before v ps ls h a
      go (inr a) f = let r = bind_mem ls (run 0 256) (λ (p : ℕ). through (λ b w ds. explore k b w ds) before v ps p (pl.passage p)) a in through_found k f before v ps r.0 (pl.passage r.0) ls refl r.2

  -- what is right is found
  stop_complete : (v : ℕ) (ps : List Tree) (p : Tree) → Memᴰ p ps → Word pl p v [] → v ≡ target → Memᴰ [] (stop v ps)
  stop_complete v ps p m w e = go (any_null ps && eqb v target) (and_make (any_null ps) (eqb v target) (→any_null p ps m (word_null refl w)) (let P : ℕ → Type 0 = λ z. T (eqb v z) in subst P e (eqb_refl v)))
    where
      go : (b : Bool) → T b → Memᴰ {A = List Line} [] (cond b ([] ∷ []) [])
      go true t = mathlib.Core.List.Memᴰ.head refl
      go false t = absurd t

  turn_complete : (f : List Step → ℕ → List Tree → List (List Line)) (before : List Step) (x : Line) (ds : List Tree) (d : Tree) (ls : List Line) → Memᴰ d ds → Memᴰ ls (f (before ++ (step_of x ∷ [])) x.reached ds) → Memᴰ (x ∷ ls) (turn f before x ds)
  turn_complete f before x [] d ls m n = elim m [ ]
  turn_complete f before x (e ∷ ds) d ls m n = mem_map (λ (us : List Line). x ∷ us) ls (f (before ++ (step_of x ∷ [])) x.reached (e ∷ ds)) n

  through_complete : (f : List Step → ℕ → List Tree → List (List Line)) (before : List Step) (v : ℕ) (ps : List Tree) (x : Line) (k : ℕ) (ls : List Line) → Via pl v x k → T (ru.permits (record { start = start; steps = before }) x.number x.reached) → Memᴰ (x ∷ ls) (turn f before x (bind ps (λ d. parts k x.mark d))) → Memᴰ (x ∷ ls) (through f before v ps x.number (pl.passage x.number))
  through_complete f before v ps x k ls h t m =
      let P : Option Passage → Type 0 = λ o. Memᴰ (x ∷ ls) (through f before v ps x.number o) in
      subst P (sym h) (mem_gate (eqb v v && ru.permits (record { start = start; steps = before }) x.number x.reached) (x ∷ ls) (λ u. bind marks (λ c. turn f before (record { number = x.number; reached = x.reached; mark = c }) (bind ps (λ d. parts k c d)))) (and_make (eqb v v) (ru.permits (record { start = start; steps = before }) x.number x.reached) (eqb_refl v) t) (mem_bind (x ∷ ls) x.mark marks (λ (c : Option Letter). turn f before (record { number = x.number; reached = x.reached; mark = c }) (bind ps (λ d. parts k c d))) (mem_marks x.mark) m))

  pub complete : (k : ℕ) (before : List Step) (v : ℕ) (ps : List Tree) (ls : List Line) → Found k before v ps ls → Memᴰ ls (explore k before v ps)
  complete zero before v ps [] c = stop_complete v ps c.pattern c.among c.word c.ends
  complete zero before v ps (x ∷ ls) c = absurd (let s = c.short in too_long s)
    where
      too_long : suc (length ls) ≤ 0 → ⊥
      too_long s = omega arith
  complete (suc k) before v ps [] c = mathlib.Core.List.Memᴰ.append_left (bind (run 0 256) (λ p. through (λ b w ds. explore k b w ds) before v ps p (pl.passage p))) (stop_complete v ps c.pattern c.among c.word c.ends)
  complete (suc k) before v ps (x ∷ ls) c =
      let r = word_part x ls refl c.word in
      let ds : List Tree = bind ps (λ d. parts r.kind x.mark d) in
      let m : Memᴰ r.rest ds = mem_bind r.rest c.pattern ps (λ (d : Tree). parts r.kind x.mark d) c.among r.among in
      let n : Memᴰ ls (explore k (before ++ (step_of x ∷ [])) x.reached ds) = complete k (before ++ (step_of x ∷ [])) x.reached ds ls (record { pattern = r.rest; among = m; word = r.word; ends = c.ends; allowed = c.allowed.1; short = let s = c.short in lower s }) in
      let i : x.number < 0 + 256 = let b = numbered pl x.number _ r.via in omega arith in
      mathlib.Core.List.Memᴰ.append_right (stop v ps) (mem_bind (x ∷ ls) x.number (run 0 256) (λ (p : ℕ). through (λ b w es. explore k b w es) before v ps p (pl.passage p)) (mem_run 256 0 x.number (omega arith) i) (through_complete (λ b w es. explore k b w es) before v ps x r.kind ls r.via c.allowed.0 (turn_complete (λ b w es. explore k b w es) before x ds r.rest ls m n)))
    where
      lower : suc (length ls) ≤ suc k → length ls ≤ k
      lower s = omega arith

  -- both readings of allowed
  from_allowed : (before ss : List Step) → ((us after : List Step) (s : Step) → before ++ ss ≡ us ++ (s ∷ after) → T (ru.permits (record { start = start; steps = us }) s.number s.reached)) → From before ss
  from_allowed before [] h = tt
  from_allowed before (s ∷ ss) h = (h before ss s refl, from_allowed (before ++ (s ∷ [])) ss (λ us after t e. h us after t (sym (append_assoc before (s ∷ []) ss) ∙ e)))

  allowed_from : (before ss : List Step) → From before ss → (us after : List Step) (s : Step) → ss ≡ us ++ (s ∷ after) → T (ru.permits (record { start = start; steps = before ++ us }) s.number s.reached)
  allowed_from before [] h [] after s e = let z : ◌≡◌ {A = ℕ} 0 1 = cc in absurd (omega arith)
  allowed_from before [] h (u ∷ us) after s e = let z : ◌≡◌ {A = ℕ} 0 1 = cc in absurd (omega arith)
  allowed_from before (t ∷ ss) h [] after s e =
      let a : t ≡ s = cc in
      let P : List Step → Type 0 = λ z. T (ru.permits (record { start = start; steps = z }) s.number s.reached) in
      let Q : Step → Type 0 = λ z. T (ru.permits (record { start = start; steps = before }) z.number z.reached) in
      subst P (sym (mathlib.Core.List.append-nil before)) (subst Q a h.0)
  allowed_from before (t ∷ ss) h (u ∷ us) after s e =
      let a : t ≡ u = cc in
      let b : ss ≡ us ++ (s ∷ after) = cc in
      let P : List Step → Type 0 = λ z. T (ru.permits (record { start = start; steps = z }) s.number s.reached) in
      subst P (append_assoc before (t ∷ []) us ∙ ap (λ (z : Step). before ++ (z ∷ us)) a) (allowed_from (before ++ (t ∷ [])) ss h.1 us after s b)

  pub to_from : (ss : List Step) → Allowed ru (record { start = start; steps = ss }) → From [] ss
  to_from ss h = from_allowed [] ss h

  pub of_from : (ss : List Step) → From [] ss → Allowed ru (record { start = start; steps = ss })
  of_from ss h = allowed_from [] ss h
