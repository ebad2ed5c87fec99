-- Runs of calls, what is to come in them, and the laws of next and of listings.
use Rattle.std.specs.Prelude.{◌≡◌, ℕ, ◌+◌, ◌*◌, ◌<◌, Bool, ◌↔◌, List, [], ◌∷◌, ◌++◌, take, drop, Some, None, Ok, Err, Option, Result, slice_index}
use Rattle.fault.specs.declared.Fault.{Fault}
use Rattle.model.specs.declared.Choice.{Choice}
use Rattle.model.specs.Records.{Answer, rec_words, Before}
use Rattle.model.specs.Questions.{EnquiryMeaning, Lawful, Question, IsAnswer, SameAnswers}
use Rattle.model.specs.Calls.{State, unposed, First, Pose, Next, Again, Check, Resume}

-- An event: a call with what it was handed, its reply and, for next, the buffer afterwards.
pub data Event : Type 0 where
  pose : (start target : ℕ) (choice : Choice) → Result (Unit {0}) Fault → Event
  next : (buffer : List ℕ) → Result (Option ℕ) Fault → (afterwards : List ℕ) → Event
  again : Result (Unit {0}) Fault → Event
  check : List ℕ → Result Bool Fault → Event
  resume : List ℕ → Result (Unit {0}) Fault → Event

-- The event happens on an enquiry in the state s, and leaves it in the state s'.
abbrev pub Does : EnquiryMeaning → State → Event → State → Type 0
Does n s (pose v t c o) s' = Pose n s v t c o s'
Does n s (next b o b') s' = Next n s b o b' s'
Does n s (again o) s' = Again n s o s'
Does n s (check ws o) s' = Check n s ws o s'
Does n s (resume ws o) s' = Resume n s ws o s'

-- The events happen in turn: each call finds the enquiry as the call before it left it.
pub data Goes (n : EnquiryMeaning) : State → List Event → State → Type 0 where
  done : {s : State} → Goes n s [] s
  then_goes : {s t u : State} {e : Event} {es : List Event} → Does n s e t → Goes n t es u → Goes n s (e ∷ es) u

-- A run: the events happen in turn, and the first call finds the enquiry new.
pub record Happens (n : EnquiryMeaning) (es : List Event) : Type 0 where
  pub left_as : State
  pub goes : Goes n unposed es left_as

-- What one event says to whoever reads the run.
pub data Says : Type 0 where
  -- an accepted pose of this question
  asks : Question → Says
  -- an accepted again
  starts_over : Says
  -- next delivers this record
  gives : List ℕ → Says
  -- an accepted resume of this record
  stands_behind : List ℕ → Says
  -- next says none left
  ends_list : Says
  -- a check, or a refused call
  idle : Says

-- The record at the front of the words: two words, and three for each step.
abbrev pub front : List ℕ → List ℕ
front ws = take (2 + 3 * slice_index ws 0) ws

-- What each event says, by its call and reply.
abbrev pub says : Event → Says
says (pose v t c (Ok u)) = asks (record { start = v; target = t; choice = c })
says (pose v t c (Err f)) = idle
says (next b (Ok None) b') = ends_list
says (next b (Ok (Some k)) b') = gives (take k b')
says (next b (Err f) b') = idle
says (again (Ok u)) = starts_over
says (again (Err f)) = idle
says (check ws o) = idle
says (resume ws (Ok u)) = stands_behind (front ws)
says (resume ws (Err f)) = idle

-- The question after one more event, by what it says.
abbrev pub asked_by : Says → Option Question → Option Question
asked_by (asks q) o = Some q
asked_by starts_over o = o
asked_by (gives w) o = o
asked_by (stands_behind w) o = o
asked_by ends_list o = o
asked_by idle o = o

-- The question after more events.
abbrev pub asked_from : Option Question → List Event → Option Question
asked_from o [] = o
asked_from o (e ∷ es) = asked_from (asked_by (says e) o) es

-- The question of the latest accepted pose, if there was one.
abbrev pub question : List Event → Option Question
question es = asked_from None es

-- The most recent record after one more event, by what it says.
abbrev pub latest_by : Says → Option (List ℕ) → Option (List ℕ)
latest_by (asks q) o = None
latest_by starts_over o = None
latest_by (gives w) o = Some w
latest_by (stands_behind w) o = Some w
latest_by ends_list o = o
latest_by idle o = o

-- The most recent record after more events.
abbrev pub latest_from : Option (List ℕ) → List Event → Option (List ℕ)
latest_from o [] = o
latest_from o (e ∷ es) = latest_from (latest_by (says e) o) es

-- The record most recently delivered or resumed since the latest accepted pose or again, if there was one.
abbrev pub most_recent : List Event → Option (List ℕ)
most_recent es = latest_from None es

-- The answer a comes after the answer with this record, if there is a record.
abbrev pub Past : EnquiryMeaning → Question → Option (List ℕ) → Answer → Type 0
Past n q None a = Unit {0}
Past n q (Some w) a = (b : Answer) × IsAnswer n q b × (rec_words b ≡ w) × Before b a

-- The answer a is to come after the events: it answers the question of the latest accepted pose, and comes after the
-- most recent record.
abbrev pub IsToCome : EnquiryMeaning → List Event → Answer → Type 0
IsToCome n es a = (q : Question) × (question es ≡ Some q) × IsAnswer n q a × Past n q (most_recent es) a

-- What a next says after the events `before`: none left exactly when no answer is to come; otherwise it delivers the
-- first one to come at the front of the buffer, and keeps the words behind.
pub record NextSays (n : EnquiryMeaning) (before : List Event) (buffer : List ℕ) (r : Option ℕ) (afterwards : List ℕ) : Type 0 where
  pub none_exactly : (r ≡ None) ↔ ((a : Answer) → IsToCome n before a → ⊥)
  pub first_one : (k : ℕ) → r ≡ Some k → (a : Answer) × First (IsToCome n before) a × (take k afterwards ≡ rec_words a) × (drop k afterwards ≡ drop k buffer)
  pub none_keeps : r ≡ None → afterwards ≡ buffer

-- The law of next: in every run, at every next that is not refused.
abbrev pub LawOfNext : Type 0
LawOfNext = (n : EnquiryMeaning) → Lawful n → (before later : List Event) (buffer : List ℕ) (r : Option ℕ) (afterwards : List ℕ) → Happens n (before ++ (next buffer (Ok r) afterwards ∷ later)) → NextSays n before buffer r afterwards

-- A listing opens with an accepted pose or again.
abbrev pub Opens : Says → Type 0
Opens (asks q) = Unit {0}
Opens starts_over = Unit {0}
Opens (gives w) = ⊥
Opens (stands_behind w) = ⊥
Opens ends_list = ⊥
Opens idle = ⊥

-- A listing stays open through a delivery, a check or a refused call.
abbrev pub Stays : Says → Type 0
Stays (asks q) = ⊥
Stays starts_over = ⊥
Stays (gives w) = Unit {0}
Stays (stands_behind w) = ⊥
Stays ends_list = ⊥
Stays idle = Unit {0}

-- It stays open through all of the events.
abbrev pub AllStay : List Event → Type 0
AllStay [] = Unit {0}
AllStay (e ∷ es) = Stays (says e) × AllStay es

-- The records of one event and of those after it.
abbrev pub given_by : Says → List (List ℕ) → List (List ℕ)
given_by (asks q) ws = ws
given_by starts_over ws = ws
given_by (gives w) ws = w ∷ ws
given_by (stands_behind w) ws = ws
given_by ends_list ws = ws
given_by idle ws = ws

-- The records that next delivers in the events, in turn.
abbrev pub delivered : List Event → List (List ℕ)
delivered [] = []
delivered (e ∷ es) = given_by (says e) (delivered es)

-- A full listing in the events: the records that next delivers from an accepted pose or again to the first none left,
-- with only next, check and refused calls between. It runs under the question q.
pub record Full (es : List Event) (q : Question) (ls : List (List ℕ)) : Type 0 where
  pub before : List Event
  pub opening : Event
  pub between : List Event
  pub closing : Event
  pub later : List Event
  pub parts : es ≡ before ++ (opening ∷ (between ++ (closing ∷ later)))
  pub opens : Opens (says opening)
  pub stay : AllStay between
  pub closes : says closing ≡ ends_list
  pub under : question (before ++ (opening ∷ [])) ≡ Some q
  pub records : ls ≡ delivered between

-- The law of listings: of two runs of two enquiries that may differ in everything, two full listings are equal exactly
-- when their two questions have the same answers.
abbrev pub LawOfListings : Type 0
LawOfListings = (n m : EnquiryMeaning) → Lawful n → Lawful m → (es fs : List Event) (q u : Question) (ls ms : List (List ℕ)) → Happens n es → Happens m fs → Full es q ls → Full fs u ms → (ls ≡ ms) ↔ SameAnswers n q m u

-- There is a run with a full listing under the question.
pub record HasListing (n : EnquiryMeaning) (q : Question) : Type 0 where
  pub calls : List Event
  pub happens : Happens n calls
  pub listing : List (List ℕ)
  pub full : Full calls q listing

-- Every question between zones of the plan has a full listing.
abbrev pub ListingsEnd : Type 0
ListingsEnd = (n : EnquiryMeaning) → Lawful n → (q : Question) → q.start < n.plan.zones → q.target < n.plan.zones → HasListing n q
