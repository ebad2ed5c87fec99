-- The walk along the words of a record.
use Rattle.std.proofs.Common.{◌≡◌, ℕ, suc, ◌+◌, ◌*◌, ◌<◌, ◌≤◌, Bool, true, false, List, [], ◌∷◌, ◌++◌, length, get_or, drop, Some, None, Option, sym, refl, ap, ◌∙◌, subst, ap₂, arith}
use Rattle.model.specs.Plans.{PlanMeaning}
use Rattle.model.specs.Rules.{RuleMeaning}
use Rattle.model.specs.Records.{Line, words, line_words, mark_word}
use Rattle.automaton.specs.declared.Automaton.{Automaton}
use Rattle.search.specs.declared.cursor.Cursor.{Cursor}
use Rattle.search.specs.Trails.{trail}
use Rattle.route.specs.declared.Route.{Route}
use Rattle.route.specs.Reading.{track_of, taken_at, taken_of}
use Rattle.route.specs.Tracks.{Track}
use Rattle.search.specs.Spaces.{Code, Space, added}
use Rattle.search.specs.Listings.{Standing, route_at}
use Rattle.route.proofs.Views.{taken_none}
use Rattle.search.specs.Hunts.{space_of}
use Rattle.bridge.proofs.Walk.{ahead, from_final}
use Rattle.bridge.specs.Ahead.{From}
use Rattle.enquiry.specs.Records.{words_on}
use Rattle.enquiry.specs.Walks.{code, Trodden, Walked}
use Rattle.enquiry.proofs.Wording.{three}

-- a step that was taken, by the zone that it was to reach
pub trodden : (t : Space) (s e : Track) (p z y m mask : ℕ) → y ≡ z → t.reach s (code p m) ≡ Some (y, mask) → e ≡ added s (code p m) (y, mask) → Trodden t s p z m true e
trodden t s e p z y m mask q r f = (mask, r ∙ ap (λ (v : ℕ). Some (v, mask)) q, f ∙ ap (λ (v : ℕ). added s (code p m) (v, mask)) q)

-- what is left of the lines
pub record Ahead (pl : PlanMeaning) (ru : RuleMeaning) (a : Automaton) (target most : ℕ) (ws : List ℕ) (rest : List ℕ) (s : Track) (i : ℕ) : Type 0 where
  pub lines : List Line
  pub from : From pl ru a target s lines
  pub count : i + length lines ≡ get_or ws 0 0
  pub room : i + length lines ≤ most
  pub stand : drop (2 + 3 * i) ws ≡ line_words lines ++ rest

-- the walk after i steps
pub record OnWay (pl : PlanMeaning) (ru : RuleMeaning) (a : Automaton) (target most z : ℕ) (ws : List ℕ) (s : Track) (i : ℕ) : Type 0 where
  pub starts : s.start ≡ z
  pub long : length s.steps ≡ i
  pub stands : Standing (space_of pl ru a target most) s
  pub read : ws ≡ get_or ws 0 0 ∷ (z ∷ words_on s.steps (drop (2 + 3 * i) ws))
  pub every : (ls : List Line) (rest : List ℕ) → From pl ru a target (route_at z []) ls → length ls ≤ most → ws ≡ words (record { start = z; lines = ls }) ++ rest → Ahead pl ru a target most ws rest s i

module _ (pl : PlanMeaning) (ru : RuleMeaning) (a : Automaton) (target most z : ℕ) (ws : List ℕ) where
  head_read : (ws : List ℕ) → 2 ≤ length ws → get_or ws 1 0 ≡ z → ws ≡ get_or ws 0 0 ∷ (z ∷ drop 2 ws)
  head_read [] l e = absurd (omega arith)
  head_read (x ∷ []) l e = absurd (omega arith)
  head_read (x ∷ (y ∷ ws)) l e = ap (λ (k : ℕ). x ∷ (k ∷ ws)) e

  at_start : 2 ≤ length ws → get_or ws 1 0 ≡ z → OnWay pl ru a target most z ws (route_at z []) 0
  at_start l e = record {
    starts = refl;
    long = refl;
    stands = tt;
    read = head_read ws l e;
    every = λ ls rest f k h. record { lines = ls; from = f; count = let g = ap (λ (u : List ℕ). get_or u 0 0) h in omega (arith, g); room = omega arith; stand = ap (drop 2) h };
  }

  pub begins : (r : Route) → r.start ≡ z → r.len ≡ 0 → 2 ≤ length ws → get_or ws 1 0 ≡ z → OnWay pl ru a target most z ws (track_of r) 0
  begins r s n l e =
      let q : route_at z [] ≡ track_of r = λ i. record { start = sym s i; steps = sym (taken_none (taken_at r) r.len n) i } in
      subst (λ (x : Track). OnWay pl ru a target most z ws x 0) q (at_start l e)

  -- the lines that are left begin with the three words that stand there
  record NextLine (rest : List ℕ) (s : Track) (i : ℕ) : Type 0 where
    mask : ℕ
    others : List Line
    reaches : (space_of pl ru a target most).reach s (code (get_or ws (2 + 3 * i) 0) (get_or ws (4 + 3 * i) 0)) ≡ Some (get_or ws (3 + 3 * i) 0, mask)
    from : From pl ru a target (added s (code (get_or ws (2 + 3 * i) 0) (get_or ws (4 + 3 * i) 0)) (get_or ws (3 + 3 * i) 0, mask)) others
    count : i + (1 + length others) ≡ get_or ws 0 0
    room : i + (1 + length others) ≤ most
    stand : drop (2 + 3 * (i + 1)) ws ≡ line_words others ++ rest

  triple_at : (i : ℕ) → i < get_or ws 0 0 → 2 + 3 * get_or ws 0 0 ≤ length ws → drop (2 + 3 * i) ws ≡ get_or ws (2 + 3 * i) 0 ∷ (get_or ws (3 + 3 * i) 0 ∷ (get_or ws (4 + 3 * i) 0 ∷ drop (2 + 3 * (i + 1)) ws))
  triple_at i l k =
      let e : suc (2 + 3 * i) ≡ 3 + 3 * i = omega arith in
      let f : suc (suc (2 + 3 * i)) ≡ 4 + 3 * i = omega arith in
      let g : suc (suc (suc (2 + 3 * i))) ≡ 2 + 3 * (i + 1) = omega arith in
      three ws (2 + 3 * i) (omega arith) ∙ (λ j. get_or ws (2 + 3 * i) 0 ∷ (get_or ws (e j) 0 ∷ (get_or ws (f j) 0 ∷ drop (g j) ws)))

  next_line : (rest : List ℕ) (s : Track) (i : ℕ) → length s.steps ≡ i → i < get_or ws 0 0 → 2 + 3 * get_or ws 0 0 ≤ length ws → Ahead pl ru a target most ws rest s i → NextLine rest s i
  next_line rest s i n l k h = go h.lines h.from h.count h.room h.stand
    where
      go : (ls : List Line) → From pl ru a target s ls → i + length ls ≡ get_or ws 0 0 → i + length ls ≤ most → drop (2 + 3 * i) ws ≡ line_words ls ++ rest → NextLine rest s i
      go [] f c m d = absurd (omega arith)
      go (x ∷ ls) f c m d =
          let t = triple_at i l k in
          let p : x.number ≡ get_or ws (2 + 3 * i) 0 = cc in
          let q : x.reached ≡ get_or ws (3 + 3 * i) 0 = cc in
          let r : mark_word x.mark ≡ get_or ws (4 + 3 * i) 0 = cc in
          let u : drop (2 + 3 * (i + 1)) ws ≡ line_words ls ++ rest = cc in
          let w = ahead pl ru a target most x ls s (omega arith) f in
          record {
            mask = w.0;
            others = ls;
            reaches = subst (λ (v : ℕ). (space_of pl ru a target most).reach s (code (get_or ws (2 + 3 * i) 0) (get_or ws (4 + 3 * i) 0)) ≡ Some (v, w.0)) q (subst (λ (c : Code). (space_of pl ru a target most).reach s c ≡ Some (x.reached, w.0)) (λ j. code (p j) (r j)) w.1);
            from = subst (λ (v : ℕ). From pl ru a target (added s (code (get_or ws (2 + 3 * i) 0) (get_or ws (4 + 3 * i) 0)) (v, w.0)) ls) q (subst (λ (c : Code). From pl ru a target (added s c (x.reached, w.0)) ls) (λ j. code (p j) (r j)) w.2);
            count = omega arith;
            room = omega arith;
            stand = u;
          }

  some_inj : (x y : ℕ × ℕ) → Some x ≡ Some y → x ≡ y
  some_inj x y e = let f : Option (ℕ × ℕ) → ℕ × ℕ = elim [ Some v ↦ v | None ↦ x ] in ap f e

  pub goes_on : (s e : Track) (i : ℕ) → i < get_or ws 0 0 → 2 + 3 * get_or ws 0 0 ≤ length ws → OnWay pl ru a target most z ws s i →
      Trodden (space_of pl ru a target most) s (get_or ws (2 + 3 * i) 0) (get_or ws (3 + 3 * i) 0) (get_or ws (4 + 3 * i) 0) true e → OnWay pl ru a target most z ws e (i + 1)
  goes_on s e i l k o t =
      let x : Track = added s (code (get_or ws (2 + 3 * i) 0) (get_or ws (4 + 3 * i) 0)) (get_or ws (3 + 3 * i) 0, t.0) in
      let done : OnWay pl ru a target most z ws x (i + 1) = record {
        starts = o.starts;
        long = omega (arith, o.long);
        stands = (o.stands, t.1);
        read = o.read ∙ ap (λ (v : List ℕ). get_or ws 0 0 ∷ (z ∷ words_on s.steps v)) (triple_at i l k);
        every = λ ls rest f m h.
            let n = next_line rest s i o.long l k (o.every ls rest f m h) in
            let same : n.mask ≡ t.0 = ap (λ (y : ℕ × ℕ). y.1) (some_inj _ _ (sym n.reaches ∙ t.1)) in
            record {
              lines = n.others;
              from = subst (λ (v : ℕ). From pl ru a target (added s (code (get_or ws (2 + 3 * i) 0) (get_or ws (4 + 3 * i) 0)) (get_or ws (3 + 3 * i) 0, v)) n.others) same n.from;
              count = omega (arith, n.count);
              room = omega (arith, n.room);
              stand = n.stand;
            };
      } in
      subst (λ (y : Track). OnWay pl ru a target most z ws y (i + 1)) (sym t.2) done

  abbrev No : Type 0
  No = (ls : List Line) (rest : List ℕ) → From pl ru a target (route_at z []) ls → length ls ≤ most → ws ≡ words (record { start = z; lines = ls }) ++ rest → ⊥

  pub stuck : (s e : Track) (i : ℕ) → i < get_or ws 0 0 → 2 + 3 * get_or ws 0 0 ≤ length ws → OnWay pl ru a target most z ws s i →
      Trodden (space_of pl ru a target most) s (get_or ws (2 + 3 * i) 0) (get_or ws (3 + 3 * i) 0) (get_or ws (4 + 3 * i) 0) false e → No
  stuck s e i l k o t ls rest f m h = let n = next_line rest s i o.long l k (o.every ls rest f m h) in t n.mask n.reaches

  -- the same of the words in a step's three places
  module _ (p y m : ℕ) (i : ℕ) (at : p ≡ get_or ws (2 + 3 * i) 0) (reached : y ≡ get_or ws (3 + 3 * i) 0) (marked : m ≡ get_or ws (4 + 3 * i) 0) where
    read_off : (s e : Track) (b : Bool) → Trodden (space_of pl ru a target most) s p y m b e → Trodden (space_of pl ru a target most) s (get_or ws (2 + 3 * i) 0) (get_or ws (3 + 3 * i) 0) (get_or ws (4 + 3 * i) 0) b e
    read_off s e b = subst (λ (x : ℕ). Trodden (space_of pl ru a target most) s p y m b e → Trodden (space_of pl ru a target most) s x (get_or ws (3 + 3 * i) 0) (get_or ws (4 + 3 * i) 0) b e) at
        (subst (λ (x : ℕ). Trodden (space_of pl ru a target most) s p y m b e → Trodden (space_of pl ru a target most) s p x (get_or ws (4 + 3 * i) 0) b e) reached
        (subst (λ (x : ℕ). Trodden (space_of pl ru a target most) s p y m b e → Trodden (space_of pl ru a target most) s p y x b e) marked (λ t. t)))

    pub goes_on_by : (s e : Track) → i < get_or ws 0 0 → 2 + 3 * get_or ws 0 0 ≤ length ws → OnWay pl ru a target most z ws s i → Trodden (space_of pl ru a target most) s p y m true e → OnWay pl ru a target most z ws e (i + 1)
    goes_on_by s e l k o t = goes_on s e i l k o (read_off s e true t)

    pub stuck_by : (s e : Track) → i < get_or ws 0 0 → 2 + 3 * get_or ws 0 0 ≤ length ws → OnWay pl ru a target most z ws s i → Trodden (space_of pl ru a target most) s p y m false e → No
    stuck_by s e l k o t = stuck s e i l k o (read_off s e false t)

  pub elsewhere : (get_or ws 1 0 ≡ z → ⊥) → No
  elsewhere n ls rest f m h = n (ap (λ (u : List ℕ). get_or u 1 0) h)

  pub no_end : (s : Track) (i : ℕ) → i ≡ get_or ws 0 0 → OnWay pl ru a target most z ws s i → ((space_of pl ru a target most).final s ≡ true → ⊥) → No
  no_end s i e o n ls rest f m h = go (o.every ls rest f m h).lines (o.every ls rest f m h).from (o.every ls rest f m h).count
    where
      go : (ks : List Line) → From pl ru a target s ks → i + length ks ≡ get_or ws 0 0 → ⊥
      go [] g c = n (from_final pl ru a target most s g)
      go (x ∷ ks) g c = omega arith

pub arrives : (pl : PlanMeaning) (ru : RuleMeaning) (a : Automaton) (d : Cursor) (ws : List ℕ) (r : Route) (i : ℕ) → i ≡ get_or ws 0 0 → OnWay pl ru a d.target d.most (trail d.progress).start ws (track_of r) i → (space_of pl ru a d.target d.most).final (track_of r) ≡ true → Walked pl ru a d ws r
arrives pl ru a d ws r i e o f = record {
  starts = o.starts;
  stands = o.stands;
  final = f;
  rest = drop (2 + 3 * i) ws;
  holds = o.read ∙ ap₂ (λ (k y : ℕ). k ∷ (y ∷ words_on (taken_of (taken_at r) r.len) (drop (2 + 3 * i) ws))) (sym (o.long ∙ e)) (sym o.starts);
}
