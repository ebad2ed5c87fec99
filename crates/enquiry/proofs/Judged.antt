-- What check and resume promise.
use Rattle.std.proofs.Common.{◌≡◌, ℕ, ◌+◌, ◌*◌, ◌<◌, ◌≤◌, Bool, true, List, length, get_or, Some, None, Ok, Err, Option, MatchOption, is_some, sym, ap, ◌∙◌, subst, arith}
use native.Mathlib.Decide.{dec_lt}
use Rattle.fault.specs.declared.Fault.TheVariants.{Enquiry}
use Rattle.fault.specs.declared.EnquiryFault.TheVariants.{Malformed, NotAnswer, Unposed}
use Rattle.model.specs.Plans.{PlanMeaning}
use Rattle.model.specs.Rules.{RuleMeaning, KeepsLaws}
use Rattle.model.specs.Patterns.{Tree}
use Rattle.model.specs.Records.{Answer}
use Rattle.model.specs.Questions.{EnquiryMeaning, IsAnswer}
use Rattle.model.specs.Calls.{State, posed, behind, MalformedAt, WellFormed, Holds, Check, Resume}
use Rattle.model.specs.Calls.MalformedAt.{under_two, over_256, too_few}
use Rattle.model.specs.Calls.Check.{check_unposed, check_malformed, says_yes, says_no}
use Rattle.model.specs.Calls.Resume.{resume_unposed, resume_malformed, no_answer, resumes}
use Rattle.automaton.specs.Tables.{Recognises}
use Rattle.automaton.specs.declared.Automaton.{Automaton}
use Rattle.search.specs.declared.cursor.Cursor.{Cursor}
use Rattle.search.specs.declared.progress.Progress.TheVariants.{Behind}
use Rattle.search.specs.Trails.{trail, placed}
use Rattle.route.specs.declared.Route.{Route}
use Rattle.route.specs.Reading.{track_of, taken_at, taken_of}
use Rattle.route.specs.Tracks.{Track}
use Rattle.search.specs.Listings as li
use Rattle.search.specs.Listings.{StandingOn, route_at}
use Rattle.bridge.specs.Lines.{told}
use Rattle.search.specs.Hunts.{space_of}
use Rattle.enquiry.specs.Records.{record_on}
use Rattle.enquiry.specs.Promises.{asked, question_of, state_of, KeptPosed, Promise}
use Rattle.enquiry.specs.Walks.{Walked, NotWalked}
use Rattle.enquiry.proofs.Deliveries as v
use Rattle.enquiry.proofs.Cursors.{question_placed, cap_placed}

pub formed_two : (ws : List ℕ) → WellFormed ws → (2 + 3 * get_or ws 0 0 ≤ length ws) × (get_or ws 0 0 ≤ 256)
formed_two ws w = go (dec_lt (length ws) 2) (dec_lt 256 (get_or ws 0 0)) (dec_lt (length ws) (2 + 3 * get_or ws 0 0))
  where
    go : Dec (length ws < 2) → Dec (256 < get_or ws 0 0) → Dec (length ws < 2 + 3 * get_or ws 0 0) → (2 + 3 * get_or ws 0 0 ≤ length ws) × (get_or ws 0 0 ≤ 256)
    go (yes a) b c = absurd (w _ (under_two a))
    go (no a) (yes b) c = absurd (w _ (over_256 (omega arith) b))
    go (no a) (no b) (yes c) = absurd (w _ (too_few (omega arith) (omega arith) c))
    go (no a) (no b) (no c) = (omega arith, omega arith)

pub check_refused : (pl : PlanMeaning) (ru : RuleMeaning) (a : Automaton) (ws : List ℕ) → Promise pl ru a None None (λ n s u. Check n s ws (Err (Enquiry (Unposed 0))) u)
check_refused pl ru a ws t rec k = (check_unposed, tt)

pub resume_refused : (pl : PlanMeaning) (ru : RuleMeaning) (a : Automaton) (ws : List ℕ) → Promise pl ru a None None (λ n s u. Resume n s ws (Err (Enquiry (Unposed 0))) u)
resume_refused pl ru a ws t rec k = (resume_unposed, tt)

-- the answer that a walk came to
pub record Came (n : EnquiryMeaning) (a : Automaton) (d : Cursor) (ws : List ℕ) (r : Route) : Type 0 where
  pub route_is : track_of r ≡ route_at (trail d.progress).start (taken_of (taken_at r) r.len)
  pub holds : Holds ws (told (route_at (trail d.progress).start (taken_of (taken_at r) r.len)))
  pub answer : IsAnswer n (question_of d) (told (route_at (trail d.progress).start (taken_of (taken_at r) r.len)))

module _ (pl : PlanMeaning) (ru : RuleMeaning) (laws : KeepsLaws ru) (a : Automaton) (d : Cursor) (ws : List ℕ) where
  came : (t : Tree) → Recognises a t → KeptPosed (asked pl ru t) a d → (r : Route) → Walked pl ru a d ws r → Came (asked pl ru t) a d ws r
  came t rec k r w = record {
    route_is = route_is;
    holds = v.walked_holds (asked pl ru t) laws a rec (trail d.progress).start d.target d.choice d.most k.start k.longest ws w.rest (taken_of (taken_at r) r.len) stands final (w.holds ∙ ap (λ (x : Track). record_on x w.rest) route_is);
    answer = v.is_answer (asked pl ru t) laws a rec (trail d.progress).start d.target d.choice d.most k.start k.longest (taken_of (taken_at r) r.len) stands final;
  }
    where
      route_is : track_of r ≡ route_at (trail d.progress).start (taken_of (taken_at r) r.len)
      route_is = λ i. record { start = w.starts i; steps = taken_of (taken_at r) r.len }

      stands : StandingOn (space_of pl ru a d.target d.most) (trail d.progress).start (taken_of (taken_at r) r.len)
      stands = subst (λ (x : Track). li.Standing (space_of pl ru a d.target d.most) x) route_is w.stands

      final : (space_of pl ru a d.target d.most).final (route_at (trail d.progress).start (taken_of (taken_at r) r.len)) ≡ true
      final = subst (λ (x : Track). (space_of pl ru a d.target d.most).final x ≡ true) route_is w.final

  none : (t : Tree) → Recognises a t → KeptPosed (asked pl ru t) a d → NotWalked pl ru a d ws → (b : Answer) → Holds ws b → IsAnswer (asked pl ru t) (question_of d) b → ⊥
  none t rec k w = v.not_answer (asked pl ru t) laws a rec (trail d.progress).start d.target d.choice d.most k.start k.longest ws w

  pub check_faulty : (p : ℕ) → MalformedAt ws p → Promise pl ru a (Some d) (Some d) (λ n s u. Check n s ws (Err (Enquiry (Malformed p))) u)
  check_faulty p m t rec k = (check_malformed m, k)

  pub check_judged : (o : Option Route) (b : Bool) → b ≡ is_some o → WellFormed ws → MatchOption o (NotWalked pl ru a d ws) (λ r. Walked pl ru a d ws r) → Promise pl ru a (Some d) (Some d) (λ n s u. Check n s ws (Ok b) u)
  check_judged (Some r) b e f w t rec k =
      let c = came t rec k r w in
      (subst (λ (x : Bool). Check (asked pl ru t) (state_of (Some d)) ws (Ok x) (state_of (Some d))) (sym e) (says_yes _ f c.holds c.answer), k)
  check_judged None b e f w t rec k = (subst (λ (x : Bool). Check (asked pl ru t) (state_of (Some d)) ws (Ok x) (state_of (Some d))) (sym e) (says_no f (none t rec k w)), k)

  pub resume_faulty : (p : ℕ) → MalformedAt ws p → Promise pl ru a (Some d) (Some d) (λ n s u. Resume n s ws (Err (Enquiry (Malformed p))) u)
  resume_faulty p m t rec k = (resume_malformed m, k)

  pub resume_none : WellFormed ws → NotWalked pl ru a d ws → Promise pl ru a (Some d) (Some d) (λ n s u. Resume n s ws (Err (Enquiry (NotAnswer 0))) u)
  resume_none f w t rec k = (no_answer f (none t rec k w), k)

  pub resume_some : (r : Route) → WellFormed ws → Walked pl ru a d ws r → Promise pl ru a (Some d) (Some (placed d (Behind r))) (λ n s u. Resume n s ws (Ok tt) u)
  resume_some r f w t rec kp = (relation, kept)
    where
      c : Came (asked pl ru t) a d ws r
      c = came t rec kp r w

      state_is : posed (question_of d) (behind (told (route_at (trail d.progress).start (taken_of (taken_at r) r.len)))) ≡ state_of (Some (placed d (Behind r)))
      state_is = sym (λ i. posed (question_placed d (Behind r) w.starts i) (behind (told (c.route_is i))))

      relation : Resume (asked pl ru t) (state_of (Some d)) ws (Ok tt) (state_of (Some (placed d (Behind r))))
      relation = subst (λ (s : State). Resume (asked pl ru t) (state_of (Some d)) ws (Ok tt) s) state_is (resumes _ f c.holds c.answer)

      kept : KeptPosed (asked pl ru t) a (placed d (Behind r))
      kept = record {
        start = subst (λ (y : ℕ). y < pl.zones) (sym w.starts) kp.start;
        longest = cap_placed (asked pl ru t) d (Behind r) w.starts kp.longest;
        stands = w.stands;
        answer = λ _. w.final;
      }
