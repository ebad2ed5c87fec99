-- Two listings, side by side.
use Rattle.std.proofs.Common.{◌≡◌, ◌⊎◌, ◌↔◌, sym, subst, inl, inr, ⊎_elim}
use Rattle.model.specs.Records.{Answer, Before}
use Rattle.model.specs.Questions.{EnquiryMeaning, Question, IsAnswer, Lawful, SameAnswers}
use Rattle.model.specs.Calls.{Standing, at_front, behind, After, First, Left}
use Rattle.model.proofs.Answers.{total}
use Rattle.model.proofs.Order.{before_irrefl, before_trans}

-- the answers that are not after the standing are the same
abbrev pub Agreeing : EnquiryMeaning → Question → EnquiryMeaning → Question → Standing → Type 0
Agreeing n q m u st = (x : Answer) → (After st x → ⊥) → IsAnswer n q x ↔ IsAnswer m u x

module _ (n : EnquiryMeaning) (q : Question) (m : EnquiryMeaning) (u : Question) where
  pub agree_front : Agreeing n q m u at_front
  agree_front x h = absurd (h tt)

  -- not after a: it is a, or not after the standing before a
  after_behind : (o : EnquiryMeaning) (v : Question) → Lawful o → (st : Standing) (a x : Answer) → First (Left o v st) a → IsAnswer o v x → (Before a x → ⊥) → (x ≡ a) ⊎ (After st x → ⊥)
  after_behind o v law st a x f k nay = ⊎_elim (λ b. absurd (nay b)) (λ r. ⊎_elim (λ e. inl (sym e)) (λ b. inr (λ h. ⊎_elim (λ e. before_irrefl a (subst (λ (y : Answer). Before y a) e b)) (λ c. nay c) (f.1 x (k, h)))) r) (total o law v a x f.0.0.0 k.0)

  -- both deliver the same answer
  pub agree_next : Lawful n → Lawful m → (st : Standing) (a : Answer) → First (Left n q st) a → First (Left m u st) a → Agreeing n q m u st → Agreeing n q m u (behind a)
  agree_next ln lm st a f g h x nay = (
    λ k. ⊎_elim (λ e. subst (IsAnswer m u) (sym e) g.0.0) (λ r. (h x r).0 k) (after_behind n q ln st a x f k nay),
    λ k. ⊎_elim (λ e. subst (IsAnswer n q) (sym e) f.0.0) (λ r. (h x r).1 k) (after_behind m u lm st a x g k nay),
  )

  -- both have none left
  pub agree_end : (st : Standing) → ((a : Answer) → Left n q st a → ⊥) → ((a : Answer) → Left m u st a → ⊥) → Agreeing n q m u st → SameAnswers n q m u
  agree_end st f g h x = ((λ k. (h x (λ l. f x (k, l))).0 k), (λ k. (h x (λ l. g x (k, l))).1 k))

  -- one delivers where the other has none left
  pub differ_end : (st : Standing) (a : Answer) → First (Left n q st) a → ((b : Answer) → Left m u st b → ⊥) → SameAnswers n q m u → ⊥
  differ_end st a f g s = g a ((s a).0 f.0.0, f.0.1)

  -- they deliver two answers
  pub differ_next : (st : Standing) (a b : Answer) → First (Left n q st) a → First (Left m u st) b → (a ≡ b → ⊥) → SameAnswers n q m u → ⊥
  differ_next st a b f g ne s =
      ⊎_elim (λ e. ne (sym e)) (λ p. ⊎_elim (λ e. ne e) (λ r. before_irrefl a (before_trans a b a p r)) (g.1 a ((s a).0 f.0.0, f.0.1))) (f.1 b ((s b).1 g.0.0, g.0.1))
