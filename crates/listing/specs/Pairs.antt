-- Two enquiries that are listed side by side.
use Rattle.std.specs.Prelude.{◌≡◌, ℕ, ◌+◌, ◌<◌, Bool, true, false, cond, ◌↔◌, List, length, take, Some, None, Option, slice_index}
use Rattle.model.specs.Plans.{PlanMeaning}
use Rattle.model.specs.Rules.{RuleMeaning}
use Rattle.model.specs.Patterns.{Tree}
use Rattle.model.specs.Records.{Answer, rec_words}
use Rattle.model.specs.Questions.{EnquiryMeaning, Question, SameAnswers}
use Rattle.model.specs.Calls.{State, posed, at_front, behind, First, Left}
use Rattle.model.specs.Calls as calls
use Rattle.automaton.specs.Tables.{Recognises}
use Rattle.automaton.specs.declared.Automaton.{Automaton}
use Rattle.search.specs.declared.cursor.Cursor.{Cursor}
use Rattle.search.specs.Hunts.{space_of}
use Rattle.search.specs.Listings.{Standing, codes_of}
use Rattle.search.specs.Trails.{trail, begun}
use Rattle.enquiry.specs.Promises.{asked, state_of, Kept, Onward}
use Rattle.enquiry.specs.declared.calls.Enquiry.{Enquiry}
use Rattle.listing.specs.Rank.{rank}

-- What came next behind a standing: the first answer left, whose record is at the front of the words; or none was left.
abbrev pub CameBy : EnquiryMeaning → Question → calls.Standing → Option ℕ → List ℕ → State → Type 0
CameBy n q st (Some k) ws s = (a : Answer) × First (Left n q st) a × (k ≡ length (rec_words a)) × (take k ws ≡ rec_words a) × (s ≡ posed q (behind a))
CameBy n q st None ws s = ((a : Answer) → Left n q st a → ⊥) × (s ≡ posed q st)

-- One step of a listing, of every tree that the automaton recognises.
abbrev pub Steps : PlanMeaning → RuleMeaning → Automaton → Option Cursor → Option ℕ → List ℕ → Option Cursor → Type 0
Steps pl ru a d r ws e = (t : Tree) → Recognises a t → (q : Question) (st : calls.Standing) → Kept (asked pl ru t) a d → state_of d ≡ posed q st → Kept (asked pl ru t) a e × CameBy (asked pl ru t) q st r ws (state_of e)

-- An answer that came leads on in the search.
abbrev pub LeadsOn : PlanMeaning → RuleMeaning → Automaton → Option Cursor → Option ℕ → Option Cursor → Type 0
LeadsOn pl ru a d (Some k) e = Onward pl ru a d e
LeadsOn pl ru a d None e = Unit {0}

-- Two records of n and m words stand at the front of the words, and are the same or not.
abbrev pub SameRecords : List ℕ → ℕ → List ℕ → ℕ → Bool → Type 0
SameRecords xs n ys m true = (n ≡ m) × ((i : ℕ) → i < n → i < 770 → slice_index xs i ≡ slice_index ys i)
SameRecords xs n ys m false = n ≡ m → ((i : ℕ) → i < n → i < 770 → slice_index xs i ≡ slice_index ys i) → ⊥

-- How far a listing has come, as a number that only rises.
abbrev pub place : Option Cursor → ℕ
place (Some d) = cond (begun d.progress) (1 + rank 256 (codes_of (trail d.progress))) 0
place None = 0

-- The search stands where it can have come to.
abbrev pub UnderWay : PlanMeaning → RuleMeaning → Automaton → Option Cursor → Type 0
UnderWay pl ru a (Some d) = Standing (space_of pl ru a d.target d.most) (trail d.progress)
UnderWay pl ru a None = Unit {0}

-- Two enquiries at the front of their listings, and whether they have the same answers.
abbrev pub Listed : PlanMeaning → RuleMeaning → Automaton → Option Cursor → PlanMeaning → RuleMeaning → Automaton → Option Cursor → Bool → Type 0
Listed pl ru a d pl' ru' a' d' b = (t u : Tree) → Recognises a t → Recognises a' u → (q v : Question) → Kept (asked pl ru t) a d → Kept (asked pl' ru' u) a' d' → state_of d ≡ posed q at_front → state_of d' ≡ posed v at_front → (b ≡ true) ↔ SameAnswers (asked pl ru t) q (asked pl' ru' u) v

-- The same of enquiries, by what plans and rules mean.
module _ {P R : Type 0} (plan_of : P → PlanMeaning) (rule_of : R → RuleMeaning) where
  abbrev pub Stepped : Enquiry P R → Option ℕ → List ℕ → Enquiry P R → Type 0
  Stepped e r ws e' = Steps (plan_of e.search.plan) (rule_of e.search.rule) e.search.automaton e.cursor r ws e'.cursor

  abbrev pub LedOn : Enquiry P R → Option ℕ → Enquiry P R → Type 0
  LedOn e r e' = LeadsOn (plan_of e.search.plan) (rule_of e.search.rule) e.search.automaton e.cursor r e'.cursor

  abbrev pub Underway : Enquiry P R → Type 0
  Underway e = UnderWay (plan_of e.search.plan) (rule_of e.search.rule) e.search.automaton e.cursor

  abbrev pub ListedSo : {Q S : Type 0} → (Q → PlanMeaning) → (S → RuleMeaning) → Enquiry P R → Enquiry Q S → Bool → Type 0
  ListedSo other_plan other_rule e f b = Listed (plan_of e.search.plan) (rule_of e.search.rule) e.search.automaton e.cursor (other_plan f.search.plan) (other_rule f.search.rule) f.search.automaton f.cursor b
