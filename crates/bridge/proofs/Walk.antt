-- The steps of the search along a track, and the lines of a record.
use Rattle.std.proofs.Common.{◌≡◌, ℕ, ◌+◌, ◌<◌, ◌≤◌, Bool, true, false, cond, not, ◌&&◌, T, eqb, ltb, List, [], ◌∷◌, ◌++◌, map, length, Some, None, Option, sym, refl, ap, ◌∙◌, subst, append_assoc, append-nil, arith, ltb-true, lt-ltb, eq-eqb, ne_eqb, eqb-true}
use lib.Ieee.Bits.{is_true}
use borrow.Author.Tests.{clash}
use Rattle.model.specs.Plans.{Passage, PlanMeaning}
use Rattle.model.specs.Routes.{Step}
use Rattle.model.specs.Patterns.{Letter, A, B, C, D, E, F, G, H, letter_word}
use Rattle.model.specs.Rules.{RuleMeaning}
use Rattle.model.specs.Records.{Line, letter, mark_word, step_of}
use Rattle.model.proofs.Bounds.{numbered}
use Rattle.model.proofs.RecordLaws.{record_laws}
use Rattle.automaton.specs.Step.{stepped}
use Rattle.automaton.specs.declared.Automaton.{Automaton}
use Rattle.automaton.proofs.Steps.{stepped_zero}
use Rattle.route.specs.Tracks.{Taken, Track, bare, bare_step, bare_steps, last_zone, last_mask}
use Rattle.search.specs.Spaces.{Code, Goal, added}
use Rattle.search.specs.Listings.{route_at, code_of, StandingOn}
use Rattle.search.specs.Hunts.{first_mask, space_of, reach_by}
use Rattle.search.proofs.Searches.{answer_up}
use Rattle.bridge.specs.Lines.{told_line, told_lines, line_code, line_codes, kind_by, kind_at}
use Rattle.bridge.specs.Ahead.{mask_after, accepts, AllowedOn, From}

both_so : (a b : Bool) → (a && b) ≡ true → (a ≡ true) × (b ≡ true)
both_so true b e = (refl, e)
both_so false b e = absurd (clash e)

both : (a b : Bool) → a ≡ true → b ≡ true → (a && b) ≡ true
both a b p q = cc

cond_some : (b : Bool) (x y : ℕ × ℕ) → cond b (Some x) None ≡ Some y → (b ≡ true) × (x ≡ y)
cond_some true x y e = let f : Option (ℕ × ℕ) → ℕ × ℕ = elim [ Some v ↦ v | None ↦ x ] in (refl, ap f e)
cond_some false x y e = let f : Option (ℕ × ℕ) → Bool = elim [ Some v ↦ true | None ↦ false ] in absurd (clash (ap f e))

-- there is a passage, and it leads from v to y
abbrev pub Joins : Option Passage → ℕ → ℕ → Type 0
Joins (Some p) v y = (p.origin ≡ v) × (p.destination ≡ y)
Joins None v y = ⊥

pub joins_is : (o : Option Passage) (v y : ℕ) → Joins o v y → o ≡ Some (record { origin = v; destination = y; kind = kind_by o })
joins_is (Some p) v y j = λ i. Some (record { origin = j.0 i; destination = j.1 i; kind = p.kind })
joins_is None v y j = absurd j

is_joins : (o : Option Passage) (v y k : ℕ) → o ≡ Some (record { origin = v; destination = y; kind = k }) → Joins o v y
is_joins o v y k e = subst (λ (x : Option Passage). Joins x v y) (sym e) (refl, refl)

-- what holds of a step that may be added
pub record Admitted (ru : RuleMeaning) (a : Automaton) (most : ℕ) (s : Track) (c : Code) (o : Option Passage) (x : ℕ × ℕ) : Type 0 where
  pub joins : Joins o (last_zone s.start s.steps) x.0
  pub allowed : ru.permits (bare s) c.passage x.0 ≡ true
  pub marked : c.mark < 9
  pub room : length s.steps < most
  pub mask : x.1 ≡ stepped a (last_mask first_mask s.steps) (kind_by o) c.mark

pub admitted : (ru : RuleMeaning) (a : Automaton) (most : ℕ) (s : Track) (c : Code) (o : Option Passage) (x : ℕ × ℕ) → reach_by ru a most s c o ≡ Some x → Admitted ru a most s c o x
admitted ru a most s c (Some p) x e =
    let h = cond_some _ _ _ e in
    let d : p.destination ≡ x.0 = ap (λ (y : ℕ × ℕ). y.0) h.1 in
    let all = both_so _ _ h.0 in
    let roomy = both_so _ _ (both_so _ _ all.0).0 in
    let starts = both_so _ _ roomy.0 in
    record {
      joins = (eqb-true _ _ starts.0, d);
      allowed = subst (λ (y : ℕ). ru.permits (bare s) c.passage y ≡ true) d all.1;
      marked = ltb-true _ _ starts.1;
      room = ltb-true _ _ roomy.1;
      mask = sym (ap (λ (y : ℕ × ℕ). y.1) h.1);
    }
admitted ru a most s c None x e = let f : Option (ℕ × ℕ) → Bool = elim [ Some v ↦ true | None ↦ false ] in absurd (clash (ap f e))

-- such a step may be added, if some state is left after it
admit : (ru : RuleMeaning) (a : Automaton) (most : ℕ) (s : Track) (c : Code) (o : Option Passage) (z : ℕ) →
    Joins o (last_zone s.start s.steps) z → ru.permits (bare s) c.passage z ≡ true → c.mark < 9 → length s.steps < most →
    (stepped a (last_mask first_mask s.steps) (kind_by o) c.mark ≡ 0 → ⊥) →
    reach_by ru a most s c o ≡ Some (z, stepped a (last_mask first_mask s.steps) (kind_by o) c.mark)
admit ru a most s c (Some p) z j al mk room live =
    let k = stepped a (last_mask first_mask s.steps) p.kind c.mark in
    let t : ((((eqb p.origin (last_zone s.start s.steps) && ltb c.mark 9) && ltb (length s.steps) most) && not (eqb k 0)) && ru.permits (bare s) c.passage p.destination) ≡ true =
    both _ _ (both _ _ (both _ _ (both _ _ (eq-eqb _ _ j.0) (lt-ltb _ _ mk)) (lt-ltb _ _ room)) (ap not (ne_eqb k 0 live))) (subst (λ (y : ℕ). ru.permits (bare s) c.passage y ≡ true) (sym j.1) al) in
    ap (λ (b : Bool). cond b (Some (p.destination, k)) None) t ∙ ap (λ (y : ℕ). Some (y, k)) j.1
admit ru a most s c None z j al mk room live = absurd j

-- from no state the automaton does not accept
none_after : (pl : PlanMeaning) (a : Automaton) (xs : List Line) → mask_after pl a 0 xs ≡ 0
none_after pl a [] = refl
none_after pl a (x ∷ xs) = ap (λ (k : ℕ). mask_after pl a k xs) (stepped_zero a (kind_at pl x.number) (mark_word x.mark)) ∙ none_after pl a xs

live : (pl : PlanMeaning) (a : Automaton) (k : ℕ) (xs : List Line) → accepts a (mask_after pl a k xs) ≡ true → k ≡ 0 → ⊥
live pl a k xs f e = clash (ap (λ (y : ℕ). accepts a y) (sym (ap (λ (y : ℕ). mask_after pl a y xs) e ∙ none_after pl a xs)) ∙ f)

-- steps that may be added to a route, the first of them and the rest
head_is : (s t : Step) (ss ts : List Step) → s ∷ ss ≡ t ∷ ts → s ≡ t
head_is s t ss ts e = cc

tail_is : (s t : Step) (ss ts : List Step) → s ∷ ss ≡ t ∷ ts → ss ≡ ts
tail_is s t ss ts e = cc

abbrev Permits : RuleMeaning → ℕ → List Step → Step → Type 0
Permits ru z ss s = T (ru.permits (record { start = z; steps = ss }) s.number s.reached)

module _ (ru : RuleMeaning) (z : ℕ) (pre : List Step) where
  allowed_none : AllowedOn ru (record { start = z; steps = pre }) []
  allowed_none [] after s e = let y : ◌≡◌ {A = ℕ} 0 1 = cc in absurd (omega arith)
  allowed_none (b ∷ before) after s e = let y : ◌≡◌ {A = ℕ} 0 1 = cc in absurd (omega arith)

  allowed_more : (x : Step) (ss : List Step) → Permits ru z pre x → AllowedOn ru (record { start = z; steps = pre ++ (x ∷ []) }) ss → AllowedOn ru (record { start = z; steps = pre }) (x ∷ ss)
  allowed_more x ss p h [] after s e =
      subst (λ (xs : List Step). Permits ru z xs s) (sym (append-nil pre)) (subst (λ (y : Step). Permits ru z pre y) (head_is x s ss after e) p)
  allowed_more x ss p h (b ∷ before) after s e =
      let i : (pre ++ (x ∷ [])) ++ before ≡ pre ++ (b ∷ before) = append_assoc pre (x ∷ []) before ∙ ap (λ (y : Step). pre ++ (y ∷ before)) (head_is x b ss (before ++ (s ∷ after)) e) in
      subst (λ (xs : List Step). Permits ru z xs s) i (h before after s (tail_is x b ss (before ++ (s ∷ after)) e))

  allowed_first : (x : Step) (ss : List Step) → AllowedOn ru (record { start = z; steps = pre }) (x ∷ ss) → Permits ru z pre x
  allowed_first x ss h = subst (λ (xs : List Step). Permits ru z xs x) (append-nil pre) (h [] ss x refl)

  allowed_rest : (x : Step) (ss : List Step) → AllowedOn ru (record { start = z; steps = pre }) (x ∷ ss) → AllowedOn ru (record { start = z; steps = pre ++ (x ∷ []) }) ss
  allowed_rest x ss h before after s e =
      subst (λ (xs : List Step). Permits ru z xs s) (sym (append_assoc pre (x ∷ []) before)) (h (x ∷ before) after s (ap (λ (xs : List Step). x ∷ xs) e))

-- marks and letters
pub word_letter : (k : ℕ) → k < 9 → mark_word (letter k) ≡ k
word_letter = record_laws.number_again

letter_low : (z : Letter) → letter_word z < 9
letter_low A = omega arith
letter_low B = omega arith
letter_low C = omega arith
letter_low D = omega arith
letter_low E = omega arith
letter_low F = omega arith
letter_low G = omega arith
letter_low H = omega arith

pub mark_low : (x : Option Letter) → mark_word x < 9
mark_low None = omega arith
mark_low (Some z) = letter_low z

module _ (pl : PlanMeaning) (ru : RuleMeaning) (a : Automaton) (target most : ℕ) where
  back_step : (z : ℕ) (x : Taken) (xs : List Taken) (ls : List Line) → (space_of pl ru a target most).reach (route_at z xs) (code_of x) ≡ Some (x.zone, x.mask) → From pl ru a target (route_at z (x ∷ xs)) ls → From pl ru a target (route_at z xs) (told_line x ∷ ls)
  unfolding space_of
  back_step z x xs ls e f =
      let p = admitted ru a most (route_at z xs) (code_of x) (pl.passage x.passage) (x.zone, x.mask) e in
      record {
        along = ((kind_at pl x.passage, joins_is (pl.passage x.passage) _ _ p.joins), f.along);
        allowed = allowed_more ru z (bare_steps xs) (bare_step x) (map step_of ls) (subst T (sym p.allowed) tt) f.allowed;
        ends = f.ends;
        read = subst (λ (k : ℕ). accepts a (mask_after pl a k ls) ≡ true) (p.mask ∙ ap (stepped a (last_mask first_mask xs) (kind_at pl x.passage)) (sym (word_letter x.mark p.marked))) f.read;
      }

  -- what leads on from a track that stands leads on from its start
  pub back : (z : ℕ) (xs : List Taken) (ls : List Line) → StandingOn (space_of pl ru a target most) z xs → From pl ru a target (route_at z xs) ls → From pl ru a target (route_at z []) (told_lines xs ls)
  back z [] ls s f = f
  back z (x ∷ xs) ls s f = back z xs (told_line x ∷ ls) s.0 (back_step z x xs ls s.1 f)

  -- a track is final exactly when it leads on to an answer by no lines
  pub final_from : (s : Track) → (space_of pl ru a target most).final s ≡ true → From pl ru a target s []
  unfolding space_of
  final_from s h = let b = both_so _ _ h in record { along = tt; allowed = allowed_none ru s.start (bare_steps s.steps); ends = eqb-true _ _ b.0; read = b.1 }

  pub from_final : (s : Track) → From pl ru a target s [] → (space_of pl ru a target most).final s ≡ true
  unfolding space_of
  from_final s f = both _ _ (eq-eqb _ _ f.ends) f.read

  -- the first line may be added, and the others lead on from there
  pub ahead : (x : Line) (ls : List Line) (s : Track) → length s.steps < most → From pl ru a target s (x ∷ ls) →
      (n : ℕ) × ((space_of pl ru a target most).reach s (line_code x) ≡ Some (x.reached, n)) × From pl ru a target (added s (line_code x) (x.reached, n)) ls
  unfolding space_of
  ahead x ls s l f =
      let o = pl.passage x.number in
      let n = stepped a (last_mask first_mask s.steps) (kind_by o) (mark_word x.mark) in
      let j = is_joins o _ _ _ f.along.0.1 in
      let pre = bare_steps s.steps in
      let first = allowed_first ru s.start pre (step_of x) (map step_of ls) f.allowed in
      let rest = allowed_rest ru s.start pre (step_of x) (map step_of ls) f.allowed in
      (n, admit ru a most s (line_code x) o x.reached j (is_true _ first) (mark_low x.mark) l (live pl a n ls f.read), record { along = f.along.1; allowed = rest; ends = f.ends; read = f.read })

  -- so lines that lead on are a goal, if they are not too many
  pub complete : (ls : List Line) (s : Track) → length s.steps + length ls ≤ most → From pl ru a target s ls → Goal (space_of pl ru a target most) s (line_codes ls)
  complete [] s l f = from_final s f
  complete (x ∷ ls) s l f =
      let (n, e, g) = ahead x ls s (omega arith) f in
      answer_up (space_of pl ru a target most) s (line_code x) (line_codes ls) (x.reached, n) e (complete ls (added s (line_code x) (x.reached, n)) (omega arith) g)

  -- a step that may be added fits into bytes, and there is room for it
  pub reach_bounds : (s : Track) (c : Code) (x : ℕ × ℕ) → (space_of pl ru a target most).reach s c ≡ Some x → (c.passage < 256) × (c.mark < 9) × (length s.steps < most)
  unfolding space_of
  reach_bounds s c x e =
      let p = admitted ru a most s c (pl.passage c.passage) x e in
      (numbered pl c.passage _ (joins_is (pl.passage c.passage) _ _ p.joins), p.marked, p.room)
