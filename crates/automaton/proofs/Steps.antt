-- A step as a number, and the states that it leads to.
use Rattle.std.proofs.Common.{◌≡◌, ℕ, zero, suc, ◌+◌, ◌/◌, ◌^◌, ◌<◌, Bool, true, cond, not, eqb, ◌↔◌, List, [], ◌∷◌, ◌++◌, length, get_or, sym, refl, ap, ◌∙◌, subst, append_assoc, append-nil, add-one, arith, eq-eqb, ne_eqb}
use Rattle.std.proofs.lemmas.List.{get_or_past}
use native.Mathlib.Decide.{dec_lt, ℕ_discrete}
use lib.Bits.{bit_and, bit_or}
use borrow.Author.Tests.{eqb-false, not-true}
use Rattle.bits.specs.Bit.{Has}
use Rattle.model.specs.Patterns.{Tree}
use Rattle.automaton.specs.Readings.{Pair, Word, Reads}
use Rattle.automaton.specs.Run.{Run, Stepped}
use Rattle.automaton.specs.Step.{gather, stepped}
use Rattle.automaton.specs.Tables.{edges, at, Moves, Holds, Accepted, Recognises, Leads, Stands, start}
use Rattle.automaton.specs.declared.Automaton.{Automaton}
use Rattle.bits.proofs.Bit.{has_or, has_and, has_zero, has_one, some_bit, grows, meet}
use Rattle.automaton.proofs.Masks.{Below, rows_none, rows_more, rows_skip}
use Rattle.automaton.proofs.Glushkov.{stepped_run, stepped_snoc}

pub gather_none : (rows : List ℕ) (mask : ℕ) → gather rows mask 0 ≡ 0
unfolding gather
gather_none rows mask = refl

pub gather_more : (rows : List ℕ) (mask i reach : ℕ) → reach ≡ gather rows mask i → bit_and (mask / 2 ^ i) 1 ≡ 1 → bit_or reach (get_or rows i 0) ≡ gather rows mask (i + 1)
unfolding gather
gather_more rows mask i reach e t = rw add-one (ap (λ (x : ℕ). bit_or x (get_or rows i 0)) e ∙ ap (λ (b : Bool). cond b (bit_or (gather rows mask i) (get_or rows i 0)) (gather rows mask i)) (sym (eq-eqb _ _ t)))

pub gather_skip : (rows : List ℕ) (mask i reach : ℕ) → reach ≡ gather rows mask i → (bit_and (mask / 2 ^ i) 1 ≡ 1 → ⊥) → reach ≡ gather rows mask (i + 1)
unfolding gather
gather_skip rows mask i reach e t = rw add-one (e ∙ ap (λ (b : Bool). cond b (bit_or (gather rows mask i) (get_or rows i 0)) (gather rows mask i)) (sym (ne_eqb _ _ t)))

gather_has : (rows : List ℕ) (mask n q : ℕ) → Has (gather rows mask n) q ↔ Below rows mask n q
unfolding gather
gather_has rows mask zero q = rows_none rows mask q
gather_has rows mask (suc n) q = go (ℕ_discrete (bit_and (mask / 2 ^ n) 1) 1) (gather_has rows mask n)
  where
    go : Dec (bit_and (mask / 2 ^ n) 1 ≡ 1) → ((q : ℕ) → Has (gather rows mask n) q ↔ Below rows mask n q) → Has (gather rows mask (suc n)) q ↔ Below rows mask (suc n) q
    go (yes t) h = subst (λ (k : ℕ). Has (gather rows mask k) q ↔ Below rows mask k q) (add-one n) (subst (λ (m : ℕ). Has m q ↔ Below rows mask (n + 1) q) (gather_more rows mask n _ refl t) (rows_more rows mask (gather rows mask n) n h t q))
    go (no t) h = subst (λ (k : ℕ). Has (gather rows mask k) q ↔ Below rows mask k q) (add-one n) (subst (λ (m : ℕ). Has m q ↔ Below rows mask (n + 1) q) (gather_skip rows mask n _ refl t) (rows_skip rows mask (gather rows mask n) n h t q))

edge_low : (rows : List ℕ) (s q : ℕ) → Has (get_or rows s 0) q → s < length rows
edge_low rows s q h = elim (dec_lt s (length rows)) [ yes l ↦ l | no l ↦ absurd (has_zero q (subst (λ (m : ℕ). Has m q) (get_or_past rows s 0 (omega arith)) h)) ]

pub stepped_moves : (a : Automaton) (mask kind mark q : ℕ) → Has (stepped a mask kind mark) q ↔ Moves a mask (kind, mark) q
unfolding stepped
stepped_moves a mask kind mark q = (there, back)
  where
    reach : ℕ
    reach = gather a.follow mask (length a.follow)

    fit : ℕ
    fit = bit_or (get_or a.fits kind 0) a.any

    there : Has (bit_and (bit_and reach fit) (get_or a.marked mark 0)) q → Moves a mask (kind, mark) q
    there h =
        let (x, y) = (has_and (bit_and reach fit) (get_or a.marked mark 0) q).0 h in
        let (z, t) = (has_and reach fit q).0 x in
        let (s, _, m, e) = (gather_has a.follow mask (length a.follow) q).0 z in
        ((s, m, e), ((has_or (get_or a.fits kind 0) a.any q).0 t, y))

    back : Moves a mask (kind, mark) q → Has (bit_and (bit_and reach fit) (get_or a.marked mark 0)) q
    back ((s, m, e), (x, y)) = (has_and (bit_and reach fit) (get_or a.marked mark 0) q).1 ((has_and reach fit q).1 ((gather_has a.follow mask (length a.follow) q).1 (s, edge_low a.follow s q e, m, e), (has_or (get_or a.fits kind 0) a.any q).1 x), y)

module _ (a : Automaton) (mask r : ℕ) (x : Pair) (moves : (q : ℕ) → Has r q ↔ Moves a mask x q) where
  -- one more pair behind the word
  pub holds_more : (w : Word) → Holds a w mask → Holds a (w ++ (x ∷ [])) r
  holds_more w h q = (
    λ y. snoc.1 (let ((s, b, e), f) = (moves q).0 y in ((s, (h s).0 b, e), f)),
    λ y. (moves q).1 (let ((s, b, e), f) = snoc.0 y in ((s, (h s).1 b, e), f)),
  )
    where
      snoc : Stepped (at a) (edges a) (λ s. s ≡ start) (w ++ (x ∷ [])) q ↔ (((s : ℕ) × Stepped (at a) (edges a) (λ s. s ≡ start) w s × edges a s q) × at a q x)
      snoc = stepped_snoc (at a) (edges a) (λ s. s ≡ start) w x q

  -- the states after the pair lead on by what led on behind the pair
  leads_more : (v : Word) → Leads a r v ↔ Leads a mask (x ∷ v)
  leads_more v = (
    λ (q, h, run). let ((s, b, e), f) = (moves q).0 h in (s, b, (q, e, f, run)),
    λ (s, b, (q, e, f, run)). (q, (moves q).1 ((s, b, e), f), run),
  )

  pub stands_more : (p : Tree) (w : Word) → Stands a p w mask → Stands a p (w ++ (x ∷ [])) r
  stands_more p w h v = (
    λ l. subst (Reads p) (sym (append_assoc w (x ∷ []) v)) ((h (x ∷ v)).0 ((leads_more v).0 l)),
    λ l. (leads_more v).1 ((h (x ∷ v)).1 (subst (Reads p) (append_assoc w (x ∷ []) v) l)),
  )

pub holds_start : (a : Automaton) → Holds a [] 2147483648
holds_start a q = has_one 31 q

pub stands_start : (a : Automaton) (p : Tree) → Recognises a p → Stands a p [] 2147483648
stands_start a p rec v = (there, back)
  where
    run : Accepted a v ↔ ((s : ℕ) × (s ≡ start) × Run (at a) (edges a) (Has a.accept) s v)
    run = stepped_run (at a) (edges a) (Has a.accept) (λ s. s ≡ start) v

    there : Leads a 2147483648 v → Reads p v
    there (s, h, e) = (rec v).0 (run.1 (s, (has_one 31 s).0 h, e))

    back : Reads p v → Leads a 2147483648 v
    back h = let (s, e, f) = run.0 ((rec v).1 h) in (s, (has_one 31 s).1 e, f)

-- the test of acceptance
pub accepts_meet : (mask accept : ℕ) → (not (eqb (bit_and mask accept) 0) ≡ true) ↔ ((q : ℕ) × Has mask q × Has accept q)
accepts_meet mask accept = (λ e. (meet mask accept).0 (eqb-false _ _ (not-true _ e)), λ h. ap not (ne_eqb (bit_and mask accept) 0 ((meet mask accept).1 h)))

pub accepts_reads : (a : Automaton) (mask : ℕ) (b : Bool) → ((b ≡ true) ↔ ((q : ℕ) × Has mask q × Has a.accept q)) → (p : Tree) (w : Word) → Stands a p w mask → (b ≡ true) ↔ Reads p w
accepts_reads a mask b m p w h = (
  λ e. subst (Reads p) (append-nil w) ((h []).0 (m.0 e)),
  λ r. m.1 ((h []).1 (subst (Reads p) (sym (append-nil w)) r)),
)

-- from no state no step leads
pub stepped_zero : (a : Automaton) (kind mark : ℕ) → stepped a 0 kind mark ≡ 0
stepped_zero a kind mark = elim (ℕ_discrete (stepped a 0 kind mark) 0) [ yes e ↦ e | no n ↦ absurd (none (some_bit (stepped a 0 kind mark) (stepped a 0 kind mark) (grows (stepped a 0 kind mark)) n)) ]
  where
    none : (q : ℕ) × Has (stepped a 0 kind mark) q → ⊥
    none (q, h) = let ((s, b, _), _) = (stepped_moves a 0 kind mark q).0 h in has_zero s b
