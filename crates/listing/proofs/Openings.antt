-- From a question put in full to an enquiry before its first answer.
use Rattle.std.proofs.Common.{◌≡◌, ℕ, ◌<◌, Bool, List, Some, None, Ok, Err, Option, sym, refl, ◌∙◌, subst, arith}
use Rattle.fault.specs.declared.Fault.{Fault}
use Rattle.model.specs.declared.Choice.{Choice}
use Rattle.model.specs.Plans.{PlanMeaning}
use Rattle.model.specs.Rules.{RuleMeaning}
use Rattle.model.specs.Patterns.{Tree}
use Rattle.model.specs.Questions.{EnquiryMeaning, Question}
use Rattle.model.specs.Calls.{State, unposed, posed, at_front, Pose}
use Rattle.model.specs.Calls as calls
use Rattle.model.specs.Calls.Pose.{no_start as starts_nowhere, no_target as ends_nowhere, poses}
use Rattle.automaton.specs.Tables.{Recognises}
use Rattle.automaton.specs.declared.Automaton.{Automaton}
use Rattle.pattern.specs.Texts.{Gives}
use Rattle.pattern.specs.Verdicts.{Reading}
use Rattle.search.specs.declared.cursor.Cursor.{Cursor}
use Rattle.enquiry.specs.Promises.{asked, state_of, Kept, Promise}
use Rattle.listing.specs.Pairs.{UnderWay, Listed}
use Rattle.listing.specs.Queries.{FullQuestion, full, RefusedFor, no_start, no_target, Compared, Opened}

-- what an accepted pose did
record Done (n : EnquiryMeaning) (start target : ℕ) (choice : Choice) (s : State) : Type 0 where
  stands : s ≡ posed (record { start = start; target = target; choice = choice }) at_front
  low_start : start < n.plan.zones
  low_target : target < n.plan.zones

done : (n : EnquiryMeaning) (s : State) (start target : ℕ) (choice : Choice) (u : Unit {0}) (s' : State) → Pose n s start target choice (Ok u) s' → Done n start target choice s'
done n s start target choice u s' (poses g h) = record { stands = refl; low_start = g; low_target = h }

refused : (pl : PlanMeaning) (ru : RuleMeaning) (text : List ℕ) (t : Tree) (s : State) (start target : ℕ) (choice : Choice) (f : Fault) (s' : State) → Gives text t → Pose (asked pl ru t) s start target choice (Err f) s' → RefusedFor (full pl ru text start target choice) f
refused pl ru text t s start target choice f s' g (starts_nowhere h) = no_start t g h
refused pl ru text t s start target choice f s' g (ends_nowhere h k) = no_target t g h k

promise_at : {pl pl' : PlanMeaning} {ru ru' : RuleMeaning} {a a' : Automaton} (d e : Option Cursor) (Does : EnquiryMeaning → State → State → Type 0) → pl' ≡ pl → ru' ≡ ru → a' ≡ a → Promise pl' ru' a' d e Does → Promise pl ru a d e Does
promise_at {pl} {pl'} {ru} {ru'} {a} {a'} d e Does p q r h = subst (λ (x : Automaton). Promise pl ru x d e Does) r (subst (λ (x : RuleMeaning). Promise pl x a' d e Does) q (subst (λ (x : PlanMeaning). Promise x ru' a' d e Does) p h))

pub opened_ok : {pl pl' : PlanMeaning} {ru ru' : RuleMeaning} {a a' a'' : Automaton} (text : List ℕ) (start target : ℕ) (choice : Choice) (d e : Option Cursor) (u : Unit {0}) → pl' ≡ pl → ru' ≡ ru → a' ≡ a → a'' ≡ a' → Reading text a →
    ((t : Tree) → Recognises a t → Kept (asked pl ru t) a d) → Promise pl' ru' a' d e (λ n s v. Pose n s start target choice (Ok u) v) → Opened (full pl ru text start target choice) a'' e
opened_ok {pl} {pl'} {ru} {ru'} {a} {a'} {a''} text start target choice d e u p q r w g k h =
    let x = promise_at d e (λ n s v. Pose n s start target choice (Ok u) v) p q r h g.tree g.recognises (k g.tree g.recognises) in
    let y = done (asked pl ru g.tree) (state_of d) start target choice u (state_of e) x.0 in
    subst (λ (z : Automaton). Opened (full pl ru text start target choice) z e) (sym (w ∙ r))
    (record { tree = g.tree; sound = record { gives = g.gives; start = y.low_start; target = y.low_target }; recognises = g.recognises; kept = x.1; stands = y.stands })

pub opened_err : {pl pl' : PlanMeaning} {ru ru' : RuleMeaning} {a a' : Automaton} (text : List ℕ) (start target : ℕ) (choice : Choice) (d e : Option Cursor) (f : Fault) → pl' ≡ pl → ru' ≡ ru → a' ≡ a → Reading text a →
    ((t : Tree) → Recognises a t → Kept (asked pl ru t) a d) → Promise pl' ru' a' d e (λ n s v. Pose n s start target choice (Err f) v) → RefusedFor (full pl ru text start target choice) f
opened_err {pl} {pl'} {ru} {ru'} {a} {a'} text start target choice d e f p q r g k h =
    let x = promise_at d e (λ n s v. Pose n s start target choice (Err f) v) p q r h g.tree g.recognises (k g.tree g.recognises) in
    refused pl ru text g.tree (state_of d) start target choice f (state_of e) g.gives x.0

unposed_not : (q : Question) (st : calls.Standing) → unposed ≡ posed q st → ⊥
unposed_not q st e = let z : ◌≡◌ {A = ℕ} 0 1 = cc in omega arith

pub under_way : (f : FullQuestion) (pl : PlanMeaning) (ru : RuleMeaning) (a : Automaton) (d : Option Cursor) → pl ≡ f.plan → ru ≡ f.rule → Opened f a d → UnderWay pl ru a d
under_way f pl ru a None p q o = absurd (unposed_not f.question at_front o.stands)
under_way f pl ru a (Some d) p q o = subst (λ (x : PlanMeaning). UnderWay x ru a (Some d)) (sym p) (subst (λ (x : RuleMeaning). UnderWay f.plan x a (Some d)) (sym q) o.kept.stands)

pub compared : (f g : FullQuestion) (pl : PlanMeaning) (ru : RuleMeaning) (a : Automaton) (d : Option Cursor) (pl' : PlanMeaning) (ru' : RuleMeaning) (a' : Automaton) (d' : Option Cursor) (b : Bool) → pl ≡ f.plan → ru ≡ f.rule → pl' ≡ g.plan → ru' ≡ g.rule →
    Opened f a d → Opened g a' d' → Listed pl ru a d pl' ru' a' d' b → Compared f g b
compared f g pl ru a d pl' ru' a' d' b p q p' q' o o' h =
    let h₁ = subst (λ (x : PlanMeaning). Listed x ru a d pl' ru' a' d' b) p h in
    let h₂ = subst (λ (x : RuleMeaning). Listed f.plan x a d pl' ru' a' d' b) q h₁ in
    let h₃ = subst (λ (x : PlanMeaning). Listed f.plan f.rule a d x ru' a' d' b) p' h₂ in
    let h₄ = subst (λ (x : RuleMeaning). Listed f.plan f.rule a d g.plan x a' d' b) q' h₃ in
    record {
      left = o.tree;
      right = o'.tree;
      left_sound = o.sound;
      right_sound = o'.sound;
      equal_exactly = h₄ o.tree o'.tree o.recognises o'.recognises f.question g.question o.kept o'.kept o.stands o'.stands;
    }
