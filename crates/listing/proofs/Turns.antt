-- One call more.
use Rattle.std.proofs.Common.{◌≡◌, ℕ, ◌≤◌, List, [], ◌∷◌, ◌++◌, map, length, take, None, Option, sym, refl, ◌∙◌, subst, ap₂, arith}
use mathlib.Core.List.{map-append}
use lib.Seq.{take-append-le}
use Rattle.std.proofs.lemmas.List.{take_all}
use Rattle.model.specs.Plans.{PlanMeaning}
use Rattle.model.specs.Rules.{RuleMeaning, KeepsLaws}
use Rattle.model.specs.Patterns.{Tree}
use Rattle.model.specs.Questions.{EnquiryMeaning, Lawful}
use Rattle.model.specs.Calls.{State, unposed}
use Rattle.model.specs.Runs.{Event, Does}
use Rattle.model.specs.Replies.{handed}
use Rattle.model.specs.Replies as k
use Rattle.model.specs.Runs.{Goes, done, then_goes, Happens}
use Rattle.model.proofs.RunLaws.{law_of_next_lem, law_of_listings_lem}
use Rattle.automaton.specs.Tables.{Recognises}
use Rattle.automaton.specs.declared.Automaton.{Automaton}
use Rattle.search.specs.declared.cursor.Cursor.{Cursor}
use Rattle.enquiry.specs.Promises.{asked, state_of, Kept, Promise}
use Rattle.listing.specs.declared.call.Call.{Call}
use Rattle.listing.specs.declared.call.Reply.{Reply}
use Rattle.listing.specs.Events.{Told, replied, call_of, reply_of, Performs, Performed, Replayed}

pub performs : (pl : PlanMeaning) (ru : RuleMeaning) (a : Automaton) (d e : Option Cursor) (c : Call) (r : Told) (ev : Event) → handed ev ≡ call_of c → replied ev ≡ r → Promise pl ru a d e (λ n s u. Does n s ev u) →
    (t : Tree) → Recognises a t → Kept (asked pl ru t) a d → Performs (asked pl ru t) a d (call_of c) r e
performs pl ru a d e c r ev h q p t rec k = let x = p t rec k in record { event = ev; called = h; answered = q; does = x.0; kept = x.1 }

pub whole_taken : (n : ℕ) (s t : List ℕ) → length s ≡ n → take n (s ++ t) ≡ s
whole_taken n s t e = let h : n ≤ length s = omega arith in take-append-le n s t h ∙ take_all n s (omega arith)

goes_more : (n : EnquiryMeaning) (s t u : State) (es : List Event) (e : Event) → Goes n s es t → Does n t e u → Goes n s (es ++ (e ∷ [])) u
goes_more n s t u es e g x = go g
  where
    go : {s : State} {es : List Event} → Goes n s es t → Goes n s (es ++ (e ∷ [])) u
    go done = then_goes x done
    go (then_goes y g) = then_goes y (go g)

-- the run so far
pub record Running (n : EnquiryMeaning) (a : Automaton) (cs : List k.Call) (rs : List Told) (d : Option Cursor) : Type 0 where
  pub events : List Event
  pub called : map handed events ≡ cs
  pub answered : map replied events ≡ rs
  pub goes : Goes n unposed events (state_of d)
  pub kept : Kept n a d

pub starts : (n : EnquiryMeaning) (a : Automaton) (d : Option Cursor) → state_of d ≡ unposed → Kept n a d → Running n a [] [] d
starts n a d e k = record { events = []; called = refl; answered = refl; goes = subst (λ (s : State). Goes n unposed [] s) (sym e) done; kept = k }

pub one_more : (n : EnquiryMeaning) (a : Automaton) (cs : List k.Call) (rs : List Told) (d e : Option Cursor) (c : k.Call) (r : Told) → Running n a cs rs d → (Kept n a d → Performs n a d c r e) → Running n a (cs ++ (c ∷ [])) (rs ++ (r ∷ [])) e
one_more n a cs rs d e c r u p =
    let x = p u.kept in
    record {
      events = u.events ++ (x.event ∷ []);
      called = map-append handed u.events (x.event ∷ []) ∙ ap₂ (λ (l : List k.Call) (y : k.Call). l ++ (y ∷ [])) u.called x.called;
      answered = map-append replied u.events (x.event ∷ []) ∙ ap₂ (λ (l : List Told) (y : Told). l ++ (y ∷ [])) u.answered x.answered;
      goes = goes_more n unposed (state_of d) (state_of e) u.events x.event u.goes x.does;
      kept = x.kept;
    }

pub replayed : (n : EnquiryMeaning) → Lawful n → (a : Automaton) (cs : List k.Call) (rs : List Told) (d : Option Cursor) → Running n a cs rs d → Replayed n cs rs
replayed n kept a cs rs d u =
    let h : Happens n u.events = record { left_as = state_of d; goes = u.goes } in
    record {
      events = u.events;
      called = u.called;
      answered = u.answered;
      happens = h;
      every_next = λ before later buffer r afterwards e. law_of_next_lem n kept before later buffer r afterwards (subst (λ (es : List Event). Happens n es) e h);
      every_listing = λ o law fs q v ls ms g f f'. law_of_listings_lem n o kept law u.events fs q v ls ms h g f f';
    }

pub starts_new : (n : EnquiryMeaning) (a : Automaton) (d : Option Cursor) (cs : List k.Call) (rs : List Told) → cs ≡ [] → rs ≡ [] → d ≡ None → Running n a cs rs d
starts_new n a d cs rs p q e = subst (λ (x : List k.Call). Running n a x rs d) (sym p) (subst (λ (x : List Told). Running n a [] x d) (sym q) (subst (λ (x : Option Cursor). Running n a [] [] x) (sym e) (starts n a None refl tt)))

-- in a loop: the plan, the rule and the automaton are those of the start
pub more_calls : {pl pl' : PlanMeaning} {ru ru' : RuleMeaning} {a a' : Automaton} (d e : Option Cursor) (cs : List Call) (rs rs' : List Reply) (c : Call) (r : Reply) → pl' ≡ pl → ru' ≡ ru → a' ≡ a →
    Performed pl' ru' a' d c r e → rs' ≡ rs ++ (r ∷ []) →
    ((t : Tree) → Recognises a t → Running (asked pl ru t) a (map call_of cs) (map reply_of rs) d) →
    (t : Tree) → Recognises a t → Running (asked pl ru t) a (map call_of (cs ++ (c ∷ []))) (map reply_of rs') e
more_calls {pl} {pl'} {ru} {ru'} {a} {a'} d e cs rs rs' c r p q s h i u t rec =
    let f : Performed pl ru a d c r e = subst (λ (x : Automaton). Performed pl ru x d c r e) s (subst (λ (x : RuleMeaning). Performed pl x a' d c r e) q (subst (λ (x : PlanMeaning). Performed x ru' a' d c r e) p h)) in
    let g = one_more (asked pl ru t) a (map call_of cs) (map reply_of rs) d e (call_of c) (reply_of r) (u t rec) (f t rec) in
    subst (λ (x : List Reply). Running (asked pl ru t) a (map call_of (cs ++ (c ∷ []))) (map reply_of x) e) (sym i)
    (subst (λ (x : List Told). Running (asked pl ru t) a (map call_of (cs ++ (c ∷ []))) x e) (sym (map-append reply_of rs (r ∷ [])))
    (subst (λ (x : List k.Call). Running (asked pl ru t) a x (map reply_of rs ++ (reply_of r ∷ [])) e) (sym (map-append call_of cs (c ∷ []))) g))

pub all_replayed : {pl pl' : PlanMeaning} {ru ru' : RuleMeaning} {a a' : Automaton} (laws : KeepsLaws ru') (d : Option Cursor) (cs cs' : List Call) (rs : List Reply) → pl' ≡ pl → ru' ≡ ru → a' ≡ a → cs ≡ cs' →
    ((t : Tree) → Recognises a' t → Running (asked pl' ru' t) a' (map call_of cs) (map reply_of rs) d) →
    (t : Tree) → Recognises a t → Replayed (asked pl ru t) (map call_of cs') (map reply_of rs)
all_replayed {pl} {pl'} {ru} {ru'} {a} {a'} laws d cs cs' rs p q s e u =
    let F : PlanMeaning → RuleMeaning → Automaton → Type 0 = λ x y z. (t : Tree) → Recognises z t → Replayed (asked x y t) (map call_of cs') (map reply_of rs) in
    let v : F pl' ru' a' = λ t rec. subst (λ (x : List Call). Replayed (asked pl' ru' t) (map call_of x) (map reply_of rs)) e (replayed (asked pl' ru' t) laws a' (map call_of cs) (map reply_of rs) d (u t rec)) in
    subst (λ (x : Automaton). F pl ru x) s (subst (λ (x : RuleMeaning). F pl x a') q (subst (λ (x : PlanMeaning). F x ru' a') p v))

pub none_of : (cs : List Call) → length cs ≡ 0 → [] ≡ cs
none_of [] e = refl
none_of (c ∷ cs) e = absurd (omega arith)
