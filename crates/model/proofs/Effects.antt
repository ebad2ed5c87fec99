-- What a call does, by what its event says.
use Rattle.std.proofs.Common.{◌≡◌, ℕ, ◌+◌, ◌*◌, List, [], ◌∷◌, ◌++◌, length, take, drop, sym, refl, ap, ◌∙◌, subst, arith}
use lib.Seq.{take-append_seam}
use Rattle.model.specs.Records.{Answer, Line, line_words, record_of, rec_words}
use Rattle.model.specs.Questions.{EnquiryMeaning, Question, IsAnswer}
use Rattle.model.specs.Calls.{State, posed, Standing, at_front, behind, First, Left, Holds}
use Rattle.model.specs.Calls.Pose.{no_start, no_target, poses}
use Rattle.model.specs.Calls.Next.{next_unposed, no_room, none_left, delivers}
use Rattle.model.specs.Calls.Again.{again_unposed, goes_back}
use Rattle.model.specs.Calls.Check.{check_unposed, check_malformed, says_yes, says_no}
use Rattle.model.specs.Calls.Resume.{resume_unposed, resume_malformed, no_answer, resumes}
use Rattle.model.specs.Runs.{Event, pose, next, again, check, resume, Does, Says, asks, starts_over, gives, stands_behind, ends_list, idle, says, front}

-- what a call does, by what its event says
pub data Effect (n : EnquiryMeaning) : State → Says → State → Type 0 where
  eff_asks : {s : State} {q : Question} → Effect n s (asks q) (posed q at_front)
  eff_over : {q : Question} {st : Standing} → Effect n (posed q st) starts_over (posed q at_front)
  eff_gives : {q : Question} {st : Standing} {w : List ℕ} (a : Answer) → First (Left n q st) a → w ≡ rec_words a → Effect n (posed q st) (gives w) (posed q (behind a))
  eff_behind : {q : Question} {st : Standing} {w : List ℕ} (a : Answer) → IsAnswer n q a → w ≡ rec_words a → Effect n (posed q st) (stands_behind w) (posed q (behind a))
  eff_ends : {q : Question} {st : Standing} → ((a : Answer) → Left n q st a → ⊥) → Effect n (posed q st) ends_list (posed q st)
  eff_idle : {s : State} → Effect n s idle s

pub length_line_words : (ls : List Line) → length (line_words ls) ≡ 3 * length ls
length_line_words [] = refl
length_line_words (l ∷ ls) = omega (arith, length_line_words ls)

pub front_is : (ws : List ℕ) (a : Answer) → Holds ws a → front ws ≡ rec_words a
front_is ws a h =
    let k : ℕ = length (record_of a).lines in
    let F : List ℕ → Type 0 = λ v. front v ≡ rec_words a in
    let c : 2 + 3 * k ≡ length (rec_words a) = omega (arith, length_line_words (record_of a).lines) in
    let g : take (2 + 3 * k) (rec_words a ++ h.0) ≡ rec_words a = ap (λ (j : ℕ). take j (rec_words a ++ h.0)) c ∙ take-append_seam (rec_words a) h.0 in
    subst F (sym h.1) g

module _ (n : EnquiryMeaning) where
  pub effect : (s s' : State) (e : Event) → Does n s e s' → Effect n s (says e) s'
  effect s s' (pose v t c o) (no_start h) = eff_idle
  effect s s' (pose v t c o) (no_target g h) = eff_idle
  effect s s' (pose v t c o) (poses g h) = eff_asks
  effect s s' (next b o b') next_unposed = eff_idle
  effect s s' (next b o b') (no_room h) = eff_idle
  effect s s' (next b o b') (none_left g h) = eff_ends h
  effect s s' (next b o b') (delivers a g h) = eff_gives a h (take-append_seam (rec_words a) (drop (length (rec_words a)) b))
  effect s s' (again o) again_unposed = eff_idle
  effect s s' (again o) goes_back = eff_over
  effect s s' (check ws o) check_unposed = eff_idle
  effect s s' (check ws o) (check_malformed h) = eff_idle
  effect s s' (check ws o) (says_yes a g h i) = eff_idle
  effect s s' (check ws o) (says_no g h) = eff_idle
  effect s s' (resume ws o) resume_unposed = eff_idle
  effect s s' (resume ws o) (resume_malformed h) = eff_idle
  effect s s' (resume ws o) (no_answer g h) = eff_idle
  effect s s' (resume ws o) (resumes a g h i) = eff_behind a i (front_is ws a h)
