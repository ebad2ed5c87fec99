-- What each call promises, over the cursors before and after it.
use Rattle.std.proofs.Common.{◌≡◌, ℕ, ◌+◌, ◌*◌, ◌<◌, ◌≤◌, Bool, true, false, List, ◌++◌, length, drop, Some, None, Ok, Err, Option, sym, refl, ap, ◌∙◌, subst, arith}
use borrow.Author.Tests.{clash}
use Rattle.fault.specs.declared.Fault.TheVariants.{Enquiry}
use Rattle.fault.specs.declared.EnquiryFault.TheVariants.{Start, Target, Buffer, Unposed}
use Rattle.model.specs.Plans.{PlanMeaning}
use Rattle.model.specs.Rules.{RuleMeaning, KeepsLaws}
use Rattle.model.specs.Patterns.{Tree}
use Rattle.model.specs.Questions.{EnquiryMeaning, Question}
use Rattle.model.specs.Records.{rec_words}
use Rattle.model.specs.Calls.{State, posed, at_front, behind, Again, Pose, Next}
use Rattle.model.specs.Calls.Again.{again_unposed, goes_back}
use Rattle.model.specs.Calls.Pose.{no_start, no_target, poses}
use Rattle.model.specs.Calls.Next.{next_unposed, no_room, none_left, delivers}
use Rattle.automaton.specs.Tables.{Recognises}
use Rattle.automaton.specs.declared.Automaton.{Automaton}
use Rattle.model.specs.declared.Choice.{Choice}
use Rattle.model.specs.declared.Choice.TheVariants.{All, Shortest}
use Rattle.search.specs.declared.cursor.Cursor.{Cursor}
use Rattle.search.specs.declared.progress.Progress.{Progress}
use Rattle.search.specs.declared.progress.Progress.TheVariants.{AtFront, Behind}
use Rattle.search.specs.Trails.{trail, begun, placed, Comes}
use Rattle.route.specs.declared.Route.{Route}
use Rattle.route.specs.Reading.{track_of, taken_at, taken_of}
use Rattle.route.specs.Tracks.{Track}
use Rattle.search.specs.Spaces as tr
use Rattle.search.specs.Listings as li
use Rattle.search.specs.Listings.{StandingOn, route_at, Delivered, Delivers, codes_of}
use Rattle.route.specs.Limits.{limit}
use Rattle.route.proofs.Views.{length_taken}
use Rattle.bridge.specs.Lines.{told}
use Rattle.search.specs.Hunts.{space_of}
use Rattle.enquiry.specs.Records.{record_on}
use Rattle.enquiry.specs.Promises.{asked, question_of, standing_of, state_of, Capped, KeptPosed, Promise, Least, Onward}
use Rattle.enquiry.proofs.Deliveries.{first_one, record_words, record_length, final_of}
use Rattle.enquiry.proofs.Deliveries as v

pub question_placed : (d : Cursor) (p : Progress) → (trail p).start ≡ (trail d.progress).start → question_of (placed d p) ≡ question_of d
question_placed d p s = λ i. record { start = s i; target = d.target; choice = d.choice }

pub cap_placed : (n : EnquiryMeaning) (d : Cursor) (p : Progress) → (trail p).start ≡ (trail d.progress).start → Capped n (question_of d) d.choice d.most → Capped n (question_of (placed d p)) d.choice d.most
cap_placed n d p s = subst (λ (q : Question). Capped n q d.choice d.most) (sym (question_placed d p s))

kept_front : (n : EnquiryMeaning) (a : Automaton) (d : Cursor) (z : ℕ) → d.progress ≡ AtFront z → (trail d.progress).start < n.plan.zones → Capped n (question_of d) d.choice d.most → KeptPosed n a d
kept_front n a d z b low longest = record {
  start = low;
  longest = longest;
  stands = subst (λ (p : Progress). li.Standing (space_of n.plan n.rule a d.target d.most) (trail p)) (sym b) tt;
  answer = λ e. absurd (clash (sym (ap begun b) ∙ e));
}

module _ (pl : PlanMeaning) (ru : RuleMeaning) (laws : KeepsLaws ru) (a : Automaton) where
  pub again_refused : Promise pl ru a None None (λ n s u. Again n s (Err (Enquiry (Unposed 0))) u)
  again_refused t rec k = (again_unposed, tt)

  pub again_accepted : (d : Cursor) (z : ℕ) → z ≡ (trail d.progress).start → Promise pl ru a (Some d) (Some (placed d (AtFront z))) (λ n s u. Again n s (Ok tt) u)
  again_accepted d z s t rec k =
      let n = asked pl ru t in
      let e = placed d (AtFront z) in (
        subst (λ (q : Question). Again n (state_of (Some d)) (Ok tt) (posed q at_front)) (sym (question_placed d (AtFront z) s)) goes_back,
        kept_front n a e z refl (subst (λ (y : ℕ). y < pl.zones) (sym s) k.start) (cap_placed n d (AtFront z) s k.longest),
      )

  pub pose_start : (o : Option Cursor) (start target : ℕ) (choice : Choice) → pl.zones ≤ start → Promise pl ru a o o (λ n s u. Pose n s start target choice (Err (Enquiry (Start start))) u)
  pose_start o start target choice h t rec k = (no_start h, k)

  pub pose_target : (o : Option Cursor) (start target : ℕ) (choice : Choice) → start < pl.zones → pl.zones ≤ target → Promise pl ru a o o (λ n s u. Pose n s start target choice (Err (Enquiry (Target target))) u)
  pose_target o start target choice g h t rec k = (no_target g h, k)

  pub pose_accepted : (o : Option Cursor) (start : ℕ) (e : Cursor) → start < pl.zones → e.target < pl.zones → e.progress ≡ AtFront start →
      ((t : Tree) → Recognises a t → Capped (asked pl ru t) (record { start = start; target = e.target; choice = e.choice }) e.choice e.most) →
      Promise pl ru a o (Some e) (λ n s u. Pose n s start e.target e.choice (Ok tt) u)
  pose_accepted o start e g h b most t rec k =
      let n = asked pl ru t in
      let q : question_of e ≡ record { start = start; target = e.target; choice = e.choice } = λ i. record { start = (trail (b i)).start; target = e.target; choice = e.choice } in (
        subst (λ (u : State). Pose n (state_of o) start e.target e.choice (Ok tt) u) (sym (λ i. posed (q i) (standing_of (b i)))) (poses g h),
        kept_front n a e start b (subst (λ (z : ℕ). z < pl.zones) (sym (ap (λ (p : Progress). (trail p).start) b)) g) (subst (λ (x : Question). Capped n x e.choice e.most) (sym q) (most t rec)),
      )

  pub next_refused : (buf : List ℕ) → Promise pl ru a None None (λ n s u. Next n s buf (Err (Enquiry (Unposed 0))) buf u)
  next_refused buf t rec k = (next_unposed, tt)

  pub next_room : (d : Cursor) (buf : List ℕ) → length buf < 770 → Promise pl ru a (Some d) (Some d) (λ n s u. Next n s buf (Err (Enquiry (Buffer (length buf)))) buf u)
  next_room d buf l t rec k = (no_room l, k)

  pub next_none : (d : Cursor) (buf : List ℕ) → 770 ≤ length buf →
      (li.Standing (space_of pl ru a d.target d.most) (trail d.progress) → Comes (space_of pl ru a d.target d.most) d.progress None) →
      Promise pl ru a (Some d) (Some d) (λ n s u. Next n s buf (Ok None) buf u)
  unfolding Delivered
  next_none d buf l h t rec k =
      (none_left l (v.none_left (asked pl ru t) laws a rec (trail d.progress).start d.target d.choice d.most k.start k.longest (begun d.progress) (trail d.progress).steps k.stands k.answer (h k.stands)), k)

  pub next_some : (d : Cursor) (buf buf' : List ℕ) (count : ℕ) (r : Route) → 770 ≤ length buf → count ≡ 2 + 3 * r.len → buf' ≡ record_on (track_of r) (drop count buf) →
      (li.Standing (space_of pl ru a d.target d.most) (trail d.progress) → Comes (space_of pl ru a d.target d.most) d.progress (Some r)) →
      Promise pl ru a (Some d) (Some (placed d (Behind r))) (λ n s u. Next n s buf (Ok (Some count)) buf' u)
  unfolding Delivered
  next_some d buf buf' count r l ct bf h t rec kp = (relation, kept)
    where
      w : Delivers (space_of pl ru a d.target d.most) (trail d.progress).start (begun d.progress) (codes_of (trail d.progress)) (track_of r)
      w = h kp.stands

      stands : StandingOn (space_of pl ru a d.target d.most) (trail d.progress).start (taken_of (taken_at r) r.len)
      stands = subst (λ (y : ℕ). StandingOn (space_of pl ru a d.target d.most) y (taken_of (taken_at r) r.len)) w.starts w.stands

      final : (space_of pl ru a d.target d.most).final (route_at (trail d.progress).start (taken_of (taken_at r) r.len)) ≡ true
      final = final_of (asked pl ru t) laws a rec (trail d.progress).start d.target d.choice d.most kp.start kp.longest (track_of r) w.starts w.stands w.answer

      route_is : track_of r ≡ route_at (trail d.progress).start (taken_of (taken_at r) r.len)
      route_is = λ i. record { start = w.starts i; steps = taken_of (taken_at r) r.len }

      count_is : length (rec_words (told (route_at (trail d.progress).start (taken_of (taken_at r) r.len)))) ≡ count
      count_is = sym (record_length (asked pl ru t) laws a rec (trail d.progress).start d.target d.choice d.most kp.start kp.longest (taken_of (taken_at r) r.len) stands final) ∙ omega (arith, ct, length_taken (taken_at r) r.len)

      buf_is : rec_words (told (route_at (trail d.progress).start (taken_of (taken_at r) r.len))) ++ drop count buf ≡ buf'
      buf_is = sym (record_words (asked pl ru t) laws a rec (trail d.progress).start d.target d.choice d.most kp.start kp.longest (taken_of (taken_at r) r.len) (drop count buf) stands final) ∙ ap (λ (x : Track). record_on x (drop count buf)) (sym route_is) ∙ sym bf

      state_is : posed (question_of d) (behind (told (route_at (trail d.progress).start (taken_of (taken_at r) r.len)))) ≡ state_of (Some (placed d (Behind r)))
      state_is = sym (λ i. posed (question_placed d (Behind r) w.starts i) (behind (told (route_is i))))

      P : ℕ → Type 0
      P x = Next (asked pl ru t) (state_of (Some d)) buf (Ok (Some x)) (rec_words (told (route_at (trail d.progress).start (taken_of (taken_at r) r.len))) ++ drop x buf) (posed (question_of d) (behind (told (route_at (trail d.progress).start (taken_of (taken_at r) r.len)))))

      one : P count
      one = subst P count_is (delivers (told (route_at (trail d.progress).start (taken_of (taken_at r) r.len))) l (first_one (asked pl ru t) laws a rec (trail d.progress).start d.target d.choice d.most kp.start kp.longest (begun d.progress) (trail d.progress).steps kp.stands kp.answer (taken_of (taken_at r) r.len) stands final w.later w.least))

      relation : Next (asked pl ru t) (state_of (Some d)) buf (Ok (Some count)) buf' (state_of (Some (placed d (Behind r))))
      relation = subst (λ (s : State). Next (asked pl ru t) (state_of (Some d)) buf (Ok (Some count)) buf' s) state_is
          (subst (λ (b : List ℕ). Next (asked pl ru t) (state_of (Some d)) buf (Ok (Some count)) b (posed (question_of d) (behind (told (route_at (trail d.progress).start (taken_of (taken_at r) r.len)))))) buf_is one)

      kept : KeptPosed (asked pl ru t) a (placed d (Behind r))
      kept = record {
        start = subst (λ (y : ℕ). y < pl.zones) (sym w.starts) kp.start;
        longest = cap_placed (asked pl ru t) d (Behind r) w.starts kp.longest;
        stands = w.stands;
        answer = λ _. subst (λ (x : Track). (space_of pl ru a d.target d.most).final x ≡ true) (sym route_is) final;
      }

-- The same of a cursor that was moved in place, with a proof of its own that it is short.
pub moved : (pl : PlanMeaning) (ru : RuleMeaning) (a : Automaton) (Does : EnquiryMeaning → State → State → Type 0) (o : Option Cursor) (d : Cursor) (p : Progress) (s : d.most ≤ 256) →
    Promise pl ru a o (Some (placed d p)) Does → Promise pl ru a o (Some (record { choice = d.choice; target = d.target; most = d.most; progress = p; short = s })) Does
moved pl ru a Does o d p s h t rec k =
    let r = h t rec k in
    (r.0, record { start = r.1.start; longest = r.1.longest; stands = r.1.stands; answer = r.1.answer })

pub cap_all : (pl : PlanMeaning) (ru : RuleMeaning) (a : Automaton) (z target most : ℕ) (ch : Choice) → ch ≡ All → most ≡ limit ru →
    (t : Tree) → Recognises a t → Capped (asked pl ru t) (record { start = z; target = target; choice = ch }) ch most
cap_all pl ru a z target most ch e m t rec = subst (λ (k : Choice). Capped (asked pl ru t) (record { start = z; target = target; choice = k }) k most) (sym e) m

pub cap_short : (pl : PlanMeaning) (ru : RuleMeaning) (a : Automaton) (z target most r : ℕ) (ch : Choice) → ch ≡ Shortest → most ≡ r → z < pl.zones →
    ((t : Tree) → Recognises a t → z < pl.zones → Least (asked pl ru t) z target r) →
    (t : Tree) → Recognises a t → Capped (asked pl ru t) (record { start = z; target = target; choice = ch }) ch most
cap_short pl ru a z target most r ch e m low h t rec = subst (λ (k : Choice). Capped (asked pl ru t) (record { start = z; target = target; choice = k }) k most) (sym e) (subst (λ (x : ℕ). Least (asked pl ru t) z target x) (sym m) (h t rec low))

come_later : (b : Bool) (u w : List tr.Code) → li.ToCome b u w → b ≡ true → tr.Earlier u w
come_later true u w h e = h
come_later false u w h e = absurd (clash e)

pub leads_on : (pl : PlanMeaning) (ru : RuleMeaning) (a : Automaton) (d : Cursor) (r : Route) →
    (li.Standing (space_of pl ru a d.target d.most) (trail d.progress) → Comes (space_of pl ru a d.target d.most) d.progress (Some r)) → Onward pl ru a (Some d) (Some (placed d (Behind r)))
unfolding Delivered
leads_on pl ru a d r h s =
    let w = h s in
    (w.stands, refl, come_later (begun d.progress) (codes_of (trail d.progress)) (codes_of (track_of r)) w.later)
