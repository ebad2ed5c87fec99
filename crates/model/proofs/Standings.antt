-- The state of an enquiry is what its history says.
use Rattle.std.proofs.Common.{◌≡◌, ℕ, List, Some, None, Option, sym, refl, ap, subst, arith}
use Rattle.model.specs.Records.{Answer, Before, rec_words}
use Rattle.model.specs.Questions.{EnquiryMeaning, Lawful, Question, IsAnswer}
use Rattle.model.specs.Calls.{State, unposed, posed, Standing, at_front, behind, Left}
use Rattle.model.specs.Runs.{Says, asked_by, latest_by, Past}
use Rattle.model.proofs.Effects.{Effect, eff_asks, eff_over, eff_gives, eff_behind, eff_ends, eff_idle}
use Rattle.model.proofs.Answers.{words_determine}

abbrev pub Stood : EnquiryMeaning → Question → Option (List ℕ) → Standing → Type 0
Stood n q l at_front = l ≡ None
Stood n q l (behind b) = (l ≡ Some (rec_words b)) × IsAnswer n q b

-- the state is what the history says
abbrev pub Tied : EnquiryMeaning → Option Question → Option (List ℕ) → State → Type 0
Tied n o l unposed = o ≡ None
Tied n o l (posed q st) = (o ≡ Some q) × Stood n q l st

pub tied_step : (n : EnquiryMeaning) (o : Option Question) (l : Option (List ℕ)) (s s' : State) (y : Says) → Effect n s y s' → Tied n o l s → Tied n (asked_by y o) (latest_by y l) s'
tied_step n o l s s' y eff_asks t = (refl, refl)
tied_step n o l s s' y eff_over t = (t.0, refl)
tied_step n o l s s' y (eff_gives a f e) t = (t.0, (ap Some e, f.0.0))
tied_step n o l s s' y (eff_behind a i e) t = (t.0, (ap Some e, i))
tied_step n o l s s' y (eff_ends h) t = t
tied_step n o l s s' y eff_idle t = t

abbrev pub Come : EnquiryMeaning → Option Question → Option (List ℕ) → Answer → Type 0
Come n o l a = (q : Question) × (o ≡ Some q) × IsAnswer n q a × Past n q l a

pub left→come : (n : EnquiryMeaning) (o : Option Question) (l : Option (List ℕ)) (q : Question) (st : Standing) (a : Answer) → Tied n o l (posed q st) → Left n q st a → Come n o l a
left→come n o l q at_front a t f =
    let P : Option (List ℕ) → Type 0 = λ k. Past n q k a in
    (q, t.0, f.0, subst P (sym t.1) tt)
left→come n o l q (behind b) a t f =
    let P : Option (List ℕ) → Type 0 = λ k. Past n q k a in
    (q, t.0, f.0, subst P (sym t.1.0) (b, t.1.1, refl, f.1))

pub come→left : (n : EnquiryMeaning) → Lawful n → (o : Option Question) (l : Option (List ℕ)) (q : Question) (st : Standing) (a : Answer) → Tied n o l (posed q st) → Come n o l a → Left n q st a
come→left n kept o l q at_front a t c =
    let e : c.0 ≡ q = cc (c.1, t.0) in
    let P : Question → Type 0 = λ u. IsAnswer n u a in
    (subst P e c.2, tt)
come→left n kept o l q (behind b) a t c =
    let e : c.0 ≡ q = cc (c.1, t.0) in
    let P : Question → Type 0 = λ u. IsAnswer n u a in
    let Q : Option (List ℕ) → Type 0 = λ k. Past n c.0 k a in
    let p : Past n c.0 (Some (rec_words b)) a = subst Q t.1.0 c.3 in
    let f : p.0 ≡ b = words_determine n n kept kept c.0 q p.0 b p.1.0 t.1.1.0 p.2 in
    let R : Answer → Type 0 = λ x. Before x a in
    (subst P e c.2, subst R f p.3)

pub no_some : (r : Option ℕ) (k : ℕ) {X : Type 0} → r ≡ None → r ≡ Some k → X
no_some r k e f = let z : ◌≡◌ {A = ℕ} 0 1 = cc in absurd (omega arith)
